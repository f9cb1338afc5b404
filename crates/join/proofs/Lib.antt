pub mod Ordering
pub mod Lexical
pub mod Bounds
pub mod Steps
pub mod Progress
