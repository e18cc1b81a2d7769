-- The laws of this crate; callers cite those of Rooms.
pub mod Bytes
pub mod Rooms
