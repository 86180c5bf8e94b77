pub mod Untouched
pub mod Noted
pub mod Met
pub mod Touched
pub mod Affected
pub mod Bound
pub mod TouchedRight
pub mod Laws
