pub mod MovedNames
pub mod SeenTables
pub mod TypedDocuments
pub mod RenamedSheets
pub mod RenamedFillings
pub mod StepTables
