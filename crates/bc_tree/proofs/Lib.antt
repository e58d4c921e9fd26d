pub mod OneTree
pub mod AxisTests
pub mod ShortWords
mod Axis
mod Truths
mod Frames
mod Decides
mod Same
mod Near
pub mod Half
mod Stands
pub mod LeafKinds
mod Coprime
pub mod Covers
pub mod CoverHolds
