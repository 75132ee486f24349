-- What the code of this crate reads, builds and answers, by the definitions of `calculus`.
pub mod Opens
pub mod States
pub mod Tokens
pub mod Building
pub mod Sequences
pub mod Parsing
