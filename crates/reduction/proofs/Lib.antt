-- Laws that the proofs of this crate use.
pub mod Contracting
pub mod Applications
pub mod ReadInputs
pub mod Reductions
pub mod Unique
