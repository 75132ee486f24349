-- What raising, putting in and weighing ask and give.
pub mod Raising
pub mod Placing
pub mod Weighing
