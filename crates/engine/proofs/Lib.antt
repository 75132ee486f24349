-- Laws that the proofs of the engine use.
pub mod Parts
pub mod Frames
pub mod Contractions
pub mod Weighed
pub mod Joins
pub mod Phases
pub mod AtOnce
pub mod Runs
pub mod Told
pub mod Comparing
pub mod AtRest
pub mod Redexes
pub mod Places
pub mod Renewing
pub mod Stepping
pub mod Ending
