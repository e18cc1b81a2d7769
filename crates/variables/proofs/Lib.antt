-- The laws that the proofs of this crate share; every_from is for any test of a list.
pub mod Every
