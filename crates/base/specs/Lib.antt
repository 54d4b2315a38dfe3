pub mod Alone
pub mod Relaying
pub mod Laws
