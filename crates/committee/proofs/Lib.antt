pub mod Trees
pub mod Plans
pub mod Totals
pub mod Descent
