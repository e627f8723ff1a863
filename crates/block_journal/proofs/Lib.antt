pub mod BodyReads
pub mod Calls
pub mod Changes
pub mod Fronts
pub mod Made
pub mod Torn
pub mod Images
mod Placing
pub mod Steps
pub mod Rising
pub mod Standing
pub mod Reading
pub mod Redoing
pub mod OpeningSteps
