pub mod Below
pub mod Laws
pub mod Noted
pub mod Tells
