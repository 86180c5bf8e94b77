-- What a column is said to be is sound.
use Rattle.std.proofs.Common.{ℕ, Bool, true, false, cond, ◌&&◌, ◌||◌, List, [], ◌≡◌, refl, Option, Some, None, unwrap_or}
use Rattle.doc_model.specs.declared.column.ColInfo.{ColInfo}
use Rattle.doc_model.specs.declared.user_action.UserCol.{UserCol}
use Rattle.doc_model.specs.Column.{is_empty, is_short, is_sound_info, is_sound_type}
use Rattle.doc_model.proofs.Choices.{both_true, parts_3}
use Rattle.user_actions.specs.Columns.{formula_given, formula_said, has_type, info_said, kind_said, may_be_new, may_become, new_info, type_said}
use Rattle.user_actions.proofs.InfoLemmas.{said_sound}

short_said : (given : Option (List ℕ)) (kind : Bool) (old : List ℕ) → is_short (unwrap_or given []) ≡ true → is_short old ≡ true → is_short (unwrap_or given (cond kind old [])) ≡ true
short_said None true old h k = k
short_said None false old h k = refl
short_said (Some text) kind old h k = h

-- a data column has no formula
none_said : (given : Option (List ℕ)) (kind : Bool) (old : List ℕ) → (kind || is_empty (unwrap_or given [])) ≡ true → (kind || is_empty (unwrap_or given (cond kind old []))) ≡ true
none_said given true old h = refl
none_said None false old h = refl
none_said (Some text) false old h = h

pub info_sound : (old : ColInfo) → is_sound_type old.ty ≡ true → is_short old.formula ≡ true → (c : UserCol) → may_become old.is_formula c ≡ true → is_sound_info (info_said old c) ≡ true
info_sound old typed short c h =
    let kind : Bool = kind_said old.is_formula c in
    let parts = parts_3 (has_type c) (is_short (formula_given c)) (kind || is_empty (formula_given c)) h in
    both_true (is_sound_type (type_said old.ty c) && is_short (formula_said old c)) (kind || is_empty (formula_said old c))
    (both_true (is_sound_type (type_said old.ty c)) (is_short (formula_said old c)) (said_sound old.ty typed c.ty) (short_said c.formula kind old.formula parts.1 short))
    (none_said c.formula kind old.formula parts.2)

pub new_sound : (c : UserCol) → may_be_new c ≡ true → is_sound_info (info_said (new_info c) c) ≡ true
new_sound c h = info_sound (new_info c) refl refl c h
