pub mod SlabPlanes
pub mod Told
pub mod Blocks
pub mod Audits
pub mod Compared
