mod Bits
mod InCommon
mod Choice
pub mod Meaning
pub mod Leaves
pub mod Allowed
mod Trees
