-- Finished is final, of the functions' own outcomes.
pub mod Final
