-- What the work of the program is held to, by the definitions of `calculus`.
pub mod Answers
pub mod Asking
pub mod Working
