-- What the contracts of this crate cite besides the paper.
pub mod Parts
pub mod Lent
