-- What a reader has to believe: the description of the tally, in its own order. Promises says what is proved of it.
pub mod Sizes
pub mod Clauses
pub mod Counters
pub mod Session
pub mod Truth
pub mod Derivation
pub mod Answers
pub mod Reasons
pub mod Kinds
pub mod Steps
pub mod Runs
pub mod Records
pub mod Inputs
pub mod Texts
pub mod TextEdges
pub mod Worked
pub mod Promises
