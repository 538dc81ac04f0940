pub mod Splits
pub mod Runs
pub mod Seeking
pub mod Found
pub mod Around
pub mod Known
pub mod Made
pub mod Orders
