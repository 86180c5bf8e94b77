pub mod FreeName
pub mod NameStart
pub mod FreshLaw
