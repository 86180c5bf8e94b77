pub mod Buckets
pub mod IndexLaws
pub mod PartBuckets
pub mod RemovedRows
