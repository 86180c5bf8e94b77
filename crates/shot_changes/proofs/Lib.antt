mod AddsLemmas
mod SeenCells
mod FilledCells
mod ToldCells
mod BundleCells
mod LeadLemmas
