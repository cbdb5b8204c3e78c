pub mod StoodIn
