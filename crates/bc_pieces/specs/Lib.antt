pub mod Carved
pub mod Carvings
