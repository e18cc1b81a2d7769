-- The laws of this crate.
mod Laws
mod Clauses
mod Whole
