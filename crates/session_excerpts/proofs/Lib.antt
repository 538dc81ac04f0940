pub mod Carried
pub mod Splitting
pub mod Syncing
pub mod Under
pub mod Worked
mod Rows
