pub mod Solids
pub mod Facets
pub mod Faults
pub mod Walks
pub mod ContourChecks
pub mod Lists
pub mod Rounds
pub mod Joins
pub mod Collinear
pub mod Coplanar
pub mod FacePlanes
pub mod Outlines
pub mod EdgeLists
pub mod EdgeTables
pub mod MeshFaults
pub mod Kept
mod Joined
