mod Divisions
mod Equalities
mod Parts
pub mod RaisingLemmas
