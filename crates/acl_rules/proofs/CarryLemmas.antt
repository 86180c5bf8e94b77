-- Rules carried along, and resources apart from their rules.
use Rattle.std.proofs.Common.{◌≡◌, ◌∙◌, ap, refl, sym, false, List, [], ◌∷◌, map, length, arith, Option, Some, None}
use Rattle.std.specs.Option.{option_map}
use Rattle.doc_model.specs.declared.action.DocAction.{DocAction}
use Rattle.doc_model.specs.declared.action.DocAction.TheVariants.{BulkAdd, BulkUpdate, BulkRemove, AddTable, RemoveTable, RenameTable, AddColumn, RemoveColumn, RenameColumn, ModifyColumn}
use Rattle.acl_rules.specs.declared.resource.Resource.{Resource}
use Rattle.acl_rules.specs.declared.rule.Rule.{Rule}
use Rattle.acl_rules.specs.Carried.{carried, is_rename, moved, moved_rule}
use Rattle.acl_rules.specs.RuleBook.{BookRule, paired, resources_in, rules_in}

pub carried_parts : (a : DocAction) (book : List BookRule) → paired (rules_in book) (map (option_map (moved a)) (resources_in book)) ≡ carried a book
carried_parts a [] = refl
carried_parts a (b ∷ book) = ap (λ (rest : List BookRule). moved_rule a b ∷ rest) (carried_parts a book)

-- where no resource moves, no rule does
module _ (a : DocAction) (same : (r : Resource) → moved a r ≡ r) where
  stays : (o : Option Resource) → o ≡ option_map (moved a) o
  stays None = refl
  stays (Some r) = ap (λ (q : Resource). Some q) (sym (same r))

  same_rules : (book : List BookRule) → book ≡ carried a book
  same_rules [] = refl
  same_rules (b ∷ book) =
      ap (λ (o : Option Resource). record { rule = b.rule; resource = o } ∷ book) (stays b.resource)
      ∙ ap (λ (rest : List BookRule). moved_rule a b ∷ rest) (same_rules book)

pub others_stay : (a : DocAction) → is_rename a ≡ false → (book : List BookRule) → book ≡ carried a book
others_stay (BulkAdd t r c) h book = same_rules (BulkAdd t r c) (λ q. refl) book
others_stay (BulkUpdate t r c) h book = same_rules (BulkUpdate t r c) (λ q. refl) book
others_stay (BulkRemove t r) h book = same_rules (BulkRemove t r) (λ q. refl) book
others_stay (AddTable t r c) h book = same_rules (AddTable t r c) (λ q. refl) book
others_stay (RemoveTable t) h book = same_rules (RemoveTable t) (λ q. refl) book
others_stay (RenameTable t n) h book = absurd (cc)
others_stay (AddColumn t c) h book = same_rules (AddColumn t c) (λ q. refl) book
others_stay (RemoveColumn t c) h book = same_rules (RemoveColumn t c) (λ q. refl) book
others_stay (RenameColumn t c n) h book = absurd (cc)
others_stay (ModifyColumn t c i) h book = same_rules (ModifyColumn t c i) (λ q. refl) book

pub resources_paired : (rules : List Rule) (resources : List (Option Resource)) → length rules ≡ length resources → resources_in (paired rules resources) ≡ resources
resources_paired [] [] same = refl
resources_paired [] (q ∷ resources) same = absurd (omega arith)
resources_paired (r ∷ rules) [] same = absurd (omega arith)
resources_paired (r ∷ rules) (q ∷ resources) same = ap (λ (rest : List (Option Resource)). q ∷ rest) (resources_paired rules resources (omega arith))
