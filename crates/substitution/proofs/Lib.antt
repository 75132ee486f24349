-- Laws that the proofs of this crate use.
pub mod Lifting
pub mod Copying
pub mod Walking
pub mod Raised
pub mod Placed
pub mod Counting
pub mod Measuring
pub mod Overflowing
pub mod Bursting
pub mod Weights
