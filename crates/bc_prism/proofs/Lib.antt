mod Layers
mod RowSteps
mod Reading
mod Meeting
mod TreeWords
pub mod OneList
pub mod Layouts
pub mod Lawful
