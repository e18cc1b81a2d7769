-- Laws that the proofs of the functions cite.
pub mod Arrangements
pub mod Wishes
pub mod Answers
