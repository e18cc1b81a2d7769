-- Laws that the proofs of the steps share: what a step hands back for each way that it can go, which of 16 to 18 a rule or a wish
-- gets, a family with one clause more, all rooms together, and what a caller keeps.
pub mod Outcomes
pub mod Admissions
pub mod Families
pub mod Whole
pub mod Kept
