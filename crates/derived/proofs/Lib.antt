-- Laws that the proof of the step cites.
pub mod Derives
