pub mod Discs
pub mod Halves
pub mod Overlaps
pub mod Parities
pub mod Joints
pub mod Walks
mod CellWalks
