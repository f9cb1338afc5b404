pub mod Choices
pub mod Least
pub mod Laws
pub mod Meant
pub mod Answer
