-- The laws of this crate; callers cite those of Lists, Family and Lowest.
pub mod Lists
pub mod Family
pub mod Lowest
