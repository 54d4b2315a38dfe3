pub mod Frozen
pub mod Execution
pub mod Theorems
