pub mod Faults
pub mod Reports
pub mod Status
pub mod Parts
