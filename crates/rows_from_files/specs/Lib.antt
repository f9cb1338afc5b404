pub mod Printed
pub mod Rooms
