pub mod Choosing
pub mod Laws
pub mod RulesLet
pub mod Shown
pub mod Walk
pub mod Walking
