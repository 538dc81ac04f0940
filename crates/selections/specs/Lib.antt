pub mod Forms
pub mod Same
pub mod Sets
pub mod Taking
pub mod Setting
pub mod Places
pub mod Laws
