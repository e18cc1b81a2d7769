-- The laws of this crate; callers cite those of Represented.
pub mod Following
pub mod Represented
