pub mod Answers
pub mod Said
pub mod Stands
pub mod Trees
