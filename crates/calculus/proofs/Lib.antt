-- Laws about the definitions, which the crates above cite, and examples by computation.
pub mod Tests
pub mod Measures
pub mod Substituting
pub mod Growth
pub mod NextStep
pub mod Spines
pub mod Equality
pub mod Coding
pub mod Sizes
pub mod Running
pub mod Judged
pub mod Lowering
pub mod EtaRuns
pub mod EtaTries
pub mod Decoding
pub mod Moves
pub mod Sequences
pub mod Shown
pub mod Names
pub mod Putting
mod Examples
mod Readings
