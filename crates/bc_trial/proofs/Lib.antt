pub mod ClosedTests
pub mod Few
pub mod InputTests
pub mod Rows
pub mod Examples
