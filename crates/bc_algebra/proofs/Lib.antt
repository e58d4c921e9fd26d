pub mod Laws
pub mod Ring
pub mod Sizes
pub mod Order
mod IdentityUses
mod OrderUses
mod SizeUses
