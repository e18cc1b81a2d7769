-- What a record comes to: the refusals before its step, a step with more literals or hints than it takes, each kind, and what a
-- caller keeps.
pub mod Records
pub mod Long
pub mod ByKind
pub mod Answered
