pub mod Literals
pub mod Shared
pub mod Factored
pub mod Counts
pub mod Meanings
pub mod Laws
