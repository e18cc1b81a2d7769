-- What the traits of this crate promise of the numbers in bytes.
pub mod Items
