pub mod Builds
pub mod Raw
pub mod RawDbd
