pub mod Founds
pub mod Answering
pub mod LocalUndo
pub mod Repeats
pub mod Closing
