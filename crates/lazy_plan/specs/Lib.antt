pub mod Bench
pub mod Groups
pub mod Members
pub use Rattle.lazy_binding.specs.Cursors
pub use Rattle.lazy_binding.specs.World
