pub mod Distinct
pub mod Curves
pub mod Noted
pub mod Spans
pub mod Masks
pub mod Limits
pub mod Planes
