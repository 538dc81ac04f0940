pub mod Values
pub mod Migrated
pub mod Readable
