-- what a caller reads
pub mod Sides
pub mod Standing
pub mod OneProof
pub mod Finding
pub mod Placing
pub mod Changing
pub mod Cutting
-- words of the private functions
pub mod Storing
pub mod Descending
pub mod Walking
