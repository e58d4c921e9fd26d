pub mod Reading
pub mod Elements
pub mod Running
pub mod Sound
pub mod Kept
pub mod Examples
