pub mod AffectedSets
