-- Laws that the proofs of the functions cite.
pub mod Induction
pub mod Inputs
pub mod ByPlace
pub mod Marks
pub mod Sums
pub mod Wishes
pub mod Counters
pub mod Whole
