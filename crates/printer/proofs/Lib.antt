-- What the proofs of several functions use, and that the statement of `print` allows one outcome.
mod Figures
mod PartTexts
mod Naming
mod Walking
mod Printing
mod TextRoom
mod Gauged
mod HeldWriter
mod LentAgain
pub mod Unique
