-- The laws by which the program's work is proved, and that its statement allows one outcome.
pub mod Naming
pub mod Digits
pub mod FirstLine
pub mod Decimals
pub mod Texts
pub mod Lines
pub mod Passing
pub mod Storing
pub mod Reporting
pub mod Jobs
pub mod Programs
pub mod Unique
