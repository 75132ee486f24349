-- What the numbers of a room say, and which node is which term.
pub mod Packing
pub mod Store
pub mod Node
pub mod Coded
pub mod Reading
pub mod Answers
pub mod Lending
pub mod Working
