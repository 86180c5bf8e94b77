pub mod Cells
pub mod Steps
pub mod Told
pub mod PartsOfViews
