-- What the theorems speak of, besides the definitions of the crate calculus.
pub mod Beta
pub mod Full
pub mod Finished
pub mod Sestoft
pub mod Meaning
pub mod Readable
pub mod Offences
pub mod EtaRules
pub mod Statements
