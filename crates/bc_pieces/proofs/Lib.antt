pub mod OneKind
pub mod Means
