-- What the cursor, the passes and the comparison of names find, by the definitions of `calculus`.
pub mod Places
pub mod Runs
pub mod Digits
pub mod Steps
pub mod Ahead
pub mod Judging
