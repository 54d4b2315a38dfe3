pub mod Counting
pub mod Masks
pub mod Numbering
pub mod Tallying
