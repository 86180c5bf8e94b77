pub mod AttributeText
pub mod Attributes
pub mod Laws
pub mod UserInfos
