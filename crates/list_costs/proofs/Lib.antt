pub mod Greatest
pub mod ListsKept
pub mod SaidAlike
pub mod Within
