-- What the functions of the engine ask and give.
pub mod Judging
pub mod States
pub mod Running
pub mod Joining
pub mod Contracting
pub mod Moving
pub mod Stepping
