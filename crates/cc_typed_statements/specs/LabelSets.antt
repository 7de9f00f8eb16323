-- A set of the labels that stand in cases.
use Rattle.std.specs.Prelude.{◌≡◌, ℤ, true, false, List, Option}
use Rattle.std.specs.List.{list_any}
use Rattle.cc_program.specs.declared.stmt.Case.{Case}
use Rattle.cc_operands.specs.CcSyntax.Statements.{same_label}
use Rattle.cc_typed_statements.specs.declared.cases.Cases.{Cases}
use Rattle.cc_typed_statements.specs.Labels.{has_label, is_empty}

-- the set has the labels that stand in the cases, and no others
abbrev pub HasLabels : List (Option ℤ) → List Case → Type 0
HasLabels labels cases = (l : Option ℤ) → list_any (same_label l) labels ≡ list_any (has_label l) cases

-- the set goes with the cases, where nothing but labels stands in the last of them only if there is one
pub record GoesWith (labels : List (Option ℤ)) (c : Cases) : Type 0 where
  pub has : HasLabels labels c.cases
  pub begun : c.only_labels ≡ true → is_empty c.cases ≡ false
