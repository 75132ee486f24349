-- What `reduce` promises, and what the private functions ask and give.
pub mod Answers
pub mod Applying
