pub mod Faults
pub mod Plain
pub mod Printed
pub mod Printing
pub mod Reading
pub mod Replying
pub mod Spelling
pub mod Words
