pub mod Lending
pub mod Held
pub mod Naming
