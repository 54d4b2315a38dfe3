pub mod Tree
pub mod Plan
pub mod Numbers
pub mod Words
