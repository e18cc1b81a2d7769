-- What the crates above cite of a part.
pub mod Parts
