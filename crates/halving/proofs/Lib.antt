pub mod Freezing
pub mod Timeline
pub mod Halves
pub mod Spending
pub mod Surely
pub mod Existing
