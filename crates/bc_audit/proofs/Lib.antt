pub mod Trees
pub mod Sides
pub mod PlaneLists
pub mod OnePlane
pub mod Points
pub mod Verdicts
pub mod Outcomes
pub mod Columns
