pub mod Homes
pub mod Unique
pub mod Hanging
pub mod Setting
pub mod ExampleSides
pub mod Levels
pub mod Splitting
pub mod OnLists
pub mod ByName
pub mod RootRows
pub mod KeptRecords
pub mod ParentsFirst
pub mod Rising
pub mod Joined
pub mod RecordOf
pub mod ListedCells
pub mod InOneSide
pub mod ChangedSides
pub mod FirstChildren
pub mod ExampleChanges
mod OrderedCodes
pub mod LeadsOn
mod LeadsExactly
mod NextTwins
pub mod LaterChildren
mod RootsByKey
