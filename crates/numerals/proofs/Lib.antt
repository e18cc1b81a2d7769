-- How a word is read digit by digit, and what callers make of an answer that may be none.
pub mod Choices
pub mod Digits
