pub mod Roles
pub mod Steps
pub mod Figure
pub mod Facts
