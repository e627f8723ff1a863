pub mod EventLemmas
pub mod Fits
pub mod Grouping
pub mod Marks
pub mod RootOrder
pub mod UnitLemmas
pub mod Spelled
pub mod Taken
