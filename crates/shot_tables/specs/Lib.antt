pub mod TakingBack
