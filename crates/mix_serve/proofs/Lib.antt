mod Apart
mod Counted
mod Going
mod Joined
mod Appended
