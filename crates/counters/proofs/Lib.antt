-- The laws that the proofs of this crate share.
pub mod Halves
pub mod Holding
pub mod Search
