pub mod Below
pub mod Keyed
pub mod Passed
pub mod Scan
pub mod Shown
pub mod Texts
