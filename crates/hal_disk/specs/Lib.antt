pub mod Exact
pub mod FileSite
pub mod ImageNow
pub mod MemSite
pub mod MemSource
pub mod Record
pub mod RecordLaw
pub mod SureSite
