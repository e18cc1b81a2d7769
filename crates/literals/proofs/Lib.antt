-- The laws of this crate; callers cite those of Paper, and that a room's front is the clause.
pub mod Words
pub mod Reading
pub mod Paper
