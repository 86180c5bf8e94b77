pub mod RenamedTables
pub mod Typed
pub mod Laws
pub mod RenamingSteps
