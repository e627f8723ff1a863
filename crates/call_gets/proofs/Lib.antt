mod Asking
mod ByKey
mod ByRecord
mod Climbs
mod Counting
mod Deciding
mod Finding
mod Finds
mod Giving
mod Judging
mod Leading
mod Leaving
mod Listing
pub mod Looking
mod Moving
mod Parting
mod Passing
mod Records
mod Rising
mod Rooted
mod Routing
mod Showing
mod Skipping
pub mod Stepping
mod Twins
mod Within
