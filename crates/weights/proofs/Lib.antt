-- The laws of this crate: from lists and numbers to the rooms, and from the rooms to a session's remaining weights.
pub mod Tables
pub mod Places
pub mod Spreads
pub mod Rooms
pub mod Members
pub mod Remaining
