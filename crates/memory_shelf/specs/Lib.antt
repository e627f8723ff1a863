pub mod ShelfLaw
pub mod Shelved
