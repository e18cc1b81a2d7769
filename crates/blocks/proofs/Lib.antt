-- What a call leaves, for one record and for a whole block.
pub mod Blocks
