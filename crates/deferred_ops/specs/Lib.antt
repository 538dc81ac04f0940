pub mod Deferred
