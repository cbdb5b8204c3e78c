pub mod Deciding
pub mod Evident
