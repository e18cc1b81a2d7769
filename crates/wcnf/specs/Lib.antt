-- What the contracts of this crate cite besides the paper.
pub mod Steps
