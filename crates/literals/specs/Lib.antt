-- What the contract of this crate cites besides the paper.
pub mod Reading
