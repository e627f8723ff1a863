pub mod OnViews
pub mod RowsOfWalks
pub mod RootsOfWalks
pub mod RulesOfWalks
pub mod ListsOfWalks
pub mod SidesOfWalks
pub mod TargetsOfEntries
pub mod ExampleParts
