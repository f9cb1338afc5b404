pub mod Choosing
pub mod Fewest
pub mod ByPlaces
pub mod TwoWays
pub mod Taken
pub mod After
pub mod Told
