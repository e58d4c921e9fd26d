mod Sizes
mod Made
pub mod Meaning
pub mod Counted
pub mod Allowed
mod Numbers
pub mod PartFacts
pub mod Sharing
pub mod Rising
mod Placing
