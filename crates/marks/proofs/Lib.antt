-- The laws of this crate, for its functions and for those who call them.
pub mod Marks
