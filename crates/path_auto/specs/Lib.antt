pub mod Automaton
pub mod Law
pub mod Positions
pub mod Sets
pub mod Visit
