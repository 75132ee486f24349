-- Laws of the store that the proofs use, and the crates above.
pub mod Keeping
pub mod Stored
pub mod Making
pub mod Parts
pub mod Holding
pub mod Loading
pub mod Taking
pub mod Coding
pub mod Saving
pub mod Granting
pub mod Unique
pub mod Ending
