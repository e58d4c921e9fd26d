pub mod OddMasks
pub mod RegionParities
pub mod Splits
pub mod CellSplits
pub mod SideMasks
pub mod JointMasks
