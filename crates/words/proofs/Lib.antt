-- Laws of places, runs and words that the proofs use.
pub mod Remaining
pub mod Ahead
pub mod Tables
mod Passing
mod Telling
mod DeBruijnWords
mod Indices
mod ClassicWords
pub mod SameNames
mod Domains
mod Scanning
mod Refusing
