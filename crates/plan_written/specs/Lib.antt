pub mod Again
pub mod Law
