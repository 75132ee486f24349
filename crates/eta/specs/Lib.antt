-- Terms whose variables name their binders, how they shrink, and what the functions on them ask and give.
pub mod Named
pub mod Scope
pub mod Shrinking
pub mod Store
pub mod Naming
pub mod Shrinks
pub mod Writing
pub mod Levelled
