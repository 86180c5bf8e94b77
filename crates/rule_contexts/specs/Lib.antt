pub mod Context
pub mod SeenLaws
pub mod ChangedContexts
