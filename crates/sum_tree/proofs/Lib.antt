pub mod Lists
pub mod Folds
pub mod Children
pub mod Opened
pub mod Fronts
mod Heres
mod Arounds
mod Placeds
pub mod Runs
pub mod Keys
pub mod Lasts
mod Splices
mod Pairs
mod Descents
mod Widths
mod Sums
mod Made
mod Heights
mod Pushes
mod Returns
mod Nodes
mod Cuts
mod Ends
mod Ranges
mod Besides
pub mod Counts
mod Exchanging
