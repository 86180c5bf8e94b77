pub mod BundleTables
