-- The bytes that no record has taken yet, from turn to turn.
pub mod Waiting
