pub mod Control
pub mod Header
pub mod Pages
pub mod Rows
