pub mod Choosing
pub mod Stepping
pub mod Mapped
pub mod Places
pub mod Adding
pub mod Holders
pub mod Letting
