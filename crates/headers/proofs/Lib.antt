-- Laws that the proofs of the functions cite, and those that callers need.
pub mod Numbers
pub mod Headers
