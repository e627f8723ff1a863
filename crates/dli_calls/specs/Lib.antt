pub mod Changes
pub mod Decided
pub mod Gets
pub mod Laws
pub mod Meets
pub mod Refusals
pub mod Ssas
