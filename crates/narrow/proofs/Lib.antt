pub mod AnswersSame
pub mod Holding
pub mod Gathering
pub mod Repeating
pub mod Pairing
pub mod Matching
pub mod Shortening
