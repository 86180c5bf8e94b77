pub mod Buckets
pub mod Under
