pub mod BundleLog
pub mod InverseSteps
pub mod LogLaws
