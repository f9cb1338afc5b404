pub mod Order
pub mod Slots
pub mod FirstValues
pub mod RowsOut
