-- A document that was made of records.
use Rattle.std.specs.Prelude.{ℕ, ◌≡◌, List, Option}
use Rattle.doc_model.specs.Document.{Document}
use Rattle.doc_model.specs.DocumentLaws.{IsWhole}
use Rattle.doc_model.specs.NewDocument.{new_document}
use Rattle.doc_opening.specs.Opening.{Opens}
use Rattle.action_limits.specs.Tallies.{IsTally}
use Rattle.bundle_core.specs.declared.loading.Loaded.{Loaded}
use Rattle.bundle_core.specs.Core.{document_of}

-- the document is this one, made of so many records
pub record IsLoadedAs (s : Document) (n : ℕ) (l : Loaded) : Type 0 where
  pub opening : document_of l.opening ≡ s
  pub document : l.doc ≡ s
  pub counts : IsTally s l.tally
  pub number : l.count ≡ n

-- it is what records make of the new document; where they are told, they are all
pub record IsLoaded (told : Option (List (List ℕ))) (l : Loaded) : Type 0 where
  pub opens : Opens told new_document (document_of l.opening) l.count
  pub document : l.doc ≡ document_of l.opening
  pub whole : IsWhole (document_of l.opening)
  pub counts : IsTally (document_of l.opening) l.tally
