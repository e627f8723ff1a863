pub mod Tiling
pub mod Reading
pub mod TilesOf
pub mod OneProof
pub mod Space
