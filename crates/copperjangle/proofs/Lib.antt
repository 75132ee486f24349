-- Laws of the exported functions, and what they say of all calls.
pub mod InNumbers
pub mod Naming
pub mod ByNumber
pub mod Unique
mod Examples
