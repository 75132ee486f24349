-- What the code of this crate writes and answers, by the definitions of `calculus`.
pub mod Pieces
pub mod Parts
pub mod Printing
pub mod Writers
pub mod Gauges
