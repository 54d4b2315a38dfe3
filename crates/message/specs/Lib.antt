pub mod Count
pub mod Members
pub mod Tally
pub mod Table
