-- What the proofs of several functions use, and that each statement allows one answer.
pub mod Asking
pub mod Comparing
pub mod Unique
