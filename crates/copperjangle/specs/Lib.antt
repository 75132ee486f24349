-- What the exported functions answer, by the definitions of `calculus`.
pub mod Numbers
pub mod Answers
pub mod Exports
