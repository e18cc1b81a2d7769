-- The laws of this crate, for its callers too.
pub mod Lines
