pub mod Hash
pub mod Link
pub mod Places
pub mod Interned
pub mod Chain
pub mod Model
pub mod Decode
pub mod Distinct
