pub mod Verdicts
pub mod LocalUndo
