-- What the proofs of several functions use, and that the statement of `parse` allows one outcome.
mod Going
mod Openings
mod Meaning
mod Built
mod Meeting
mod Turns
mod Nesting
mod Saving
mod Answering
pub mod Unique
