-- Calls, and what the functions' contracts allow of them.
pub mod Calls
