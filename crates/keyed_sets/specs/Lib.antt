-- what a caller reads
pub mod Calls
pub mod Changes
pub mod Index
pub mod Layout
pub mod Map
pub mod OneProof
pub mod Places
pub mod Rule
-- words of the private functions
pub mod Goes
pub mod PageFacts
pub mod Reading
pub mod Standing
pub mod Taken
pub mod Writing
