pub mod Found
pub mod Laws
pub mod Examples
pub mod Answer
pub mod Texts
pub mod Printed
