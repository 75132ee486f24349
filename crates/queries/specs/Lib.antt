-- What the code of this crate answers, by the definitions of `calculus`.
pub mod Comparing
