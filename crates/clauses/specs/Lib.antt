-- What the contracts of this crate cite besides the paper.
pub mod Family
pub mod LookUp
pub mod Lowest
pub mod Lent
