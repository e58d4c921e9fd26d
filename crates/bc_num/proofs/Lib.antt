pub mod Capped
pub mod Combining
pub mod Combining3
pub mod Dividing
mod Examples
pub mod Lowest
pub mod NumberFronts
pub mod Reducing
pub mod Same
pub mod Turning
pub mod Turning3
mod WordExamples
