pub mod Trying
pub mod Finding
pub mod Working
pub mod Telling
pub mod Lines
