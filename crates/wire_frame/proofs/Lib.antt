pub mod Framed
pub mod Passing
pub mod Standings
pub mod Taking
