pub mod Continuing
pub mod Listening
pub mod Reading
pub mod Arriving
