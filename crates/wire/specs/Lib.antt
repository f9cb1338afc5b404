pub mod Bytes
pub mod Reading
pub mod Written
pub mod Tables
pub mod Texts
pub mod Laws
