pub mod Causes
pub mod Pieces
pub mod Memory
pub mod Adapters
pub mod Taking
pub mod Growing
