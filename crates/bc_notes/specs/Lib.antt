pub mod Nodes
pub mod Products
pub mod Noted
pub mod Chosen
pub mod Bests
pub mod Laws
