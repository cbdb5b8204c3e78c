mod Answering
mod Cutting
mod Ended
mod Far
mod Hearing
mod Letting
mod Long
mod Paid
mod Parts
mod Paying
pub mod Script
mod SoFar
mod Stepping
pub mod Telling
pub mod Timely
pub mod Unmarked
mod Whole
