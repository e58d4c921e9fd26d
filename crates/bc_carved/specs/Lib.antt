pub mod Carved
pub mod Counts
pub mod Meanings
pub mod Parts
pub mod Laws
pub mod Steps
