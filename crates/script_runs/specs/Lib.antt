pub mod Faults
pub mod Language
pub mod Lines
pub mod Script
pub mod Stops
pub mod Taken
pub mod TakerView
