-- Laws that the proofs of the functions cite.
pub mod Gaps
pub mod Fronts
pub mod Beginnings
pub mod NextWords
