-- What the contracts of the steps cite besides the paper.
pub mod Held
pub mod Kept
pub mod Lent
pub mod Owned
