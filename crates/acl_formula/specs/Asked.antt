-- Whom a rule is asked about.
use Rattle.std.specs.Prelude.{Option, option_map}
use Rattle.std.specs.Borrow.{Bor}
use Rattle.acl_formula.specs.RuleRow.{RuleRow}
use Rattle.acl_formula.specs.declared.user_info.UserInfo.{UserInfo}

-- the user, and the row before and after the change
pub record Asked : Type 0 where
  pub user : UserInfo
  pub before : Option RuleRow
  pub after : Option RuleRow

-- the same by what readers of rows tell
abbrev pub asked_by : {W : Type 0} → (W → RuleRow) → UserInfo → Option (Bor W) → Option (Bor W)
    → Asked
asked_by told user before after = record {
  user = user;
  before = option_map (λ w. told w.now) before;
  after = option_map (λ w. told w.now) after;
}
