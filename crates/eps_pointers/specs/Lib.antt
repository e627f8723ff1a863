pub mod Layout
pub mod Listed
pub mod Target
