-- The labels of a `switch` (C99 6.8.1, 6.8.4.2): its cases up to a place of its body.
use Rattle.std.specs.Prelude.{ℤ, Bool, true, false, not, ◌&&◌, ◌||◌, List, [], ◌∷◌, ◌++◌, Option, Some, None, Ok, Err, if◌then◌else◌}
use Rattle.std.specs.List.{list_any}
use Rattle.cc_program.specs.CcNum.declared.int_type.IntType.{IntType}
use Rattle.cc_program.specs.CcNum.declared.target.Target.{Target}
use Rattle.cc_program.specs.CcNum.Integers.{converted}
use Rattle.cc_operands.specs.Operands.{Operand, constancy}
use Rattle.cc_operands.specs.Verdicts.{Judged, must, judge_then}
use Rattle.cc_operands.specs.declared.rule.Rule.TheVariants as rule
use Rattle.cc_program.specs.declared.stmt.Case.{Case, out-Case, roll-Case}
use Rattle.cc_program.specs.declared.stmt.Stmt.{Stmt}
use Rattle.cc_operands.specs.CcSyntax.Folding.{Constant, NoConstant, Value, Traps}
use Rattle.cc_operands.specs.CcSyntax.Statements.{same_label}
use Rattle.cc_typed_statements.specs.declared.cases.Cases.{Cases}

abbrev pub no_case : Cases
no_case = record { cases = []; only_labels = false; statement_first = false }

abbrev pub at_last : (Case → Case) → List Case → List Case
at_last change [] = []
at_last change (c ∷ []) = change c ∷ []
at_last change (c ∷ d ∷ cs) = c ∷ at_last change (d ∷ cs)

-- ---- a label stands beside those in front of it, or begins a case

abbrev pub with_label : Option ℤ → Case → Case
with_label l c = roll-Case (record { labels = (out-Case c).labels ++ l ∷ []; body = (out-Case c).body })

abbrev pub new_case : Option ℤ → Case
new_case l = roll-Case (record { labels = l ∷ []; body = [] })

abbrev pub cases_with : Option ℤ → Cases → List Case
cases_with l c = if c.only_labels then at_last (with_label l) c.cases else c.cases ++ new_case l ∷ []

abbrev pub labelled : Option ℤ → Cases → Cases
labelled l c = record { cases = cases_with l c; only_labels = true; statement_first = c.statement_first }

-- ---- statements behind the last label; `counts` says that they may not stand before the first

abbrev pub with_statements : List Stmt → Case → Case
with_statements ss c = roll-Case (record { labels = (out-Case c).labels; body = (out-Case c).body ++ ss })

abbrev pub is_empty : List Case → Bool
is_empty [] = true
is_empty (c ∷ cs) = false

abbrev pub behind : Bool → List Stmt → Cases → Cases
behind counts ss c = record { cases = at_last (with_statements ss) c.cases; only_labels = false; statement_first = c.statement_first || (is_empty c.cases && counts) }

-- an empty statement right behind labels is none
abbrev pub behind_empty : List Stmt → Cases → Cases
behind_empty ss c = behind true (if c.only_labels then [] else ss) c

-- ---- a label is a constant, converted to the type of the switch, and stands once (6.8.4.2, 3 and 5)

abbrev pub label_in : Target → IntType → Constant → Judged (Option ℤ)
label_in target t NoConstant = Err rule.CaseLabel
label_in target t (Value n) = Ok (Some (converted n t target))
label_in target t Traps = Err rule.ConstantTraps

abbrev pub has_label : Option ℤ → Case → Bool
has_label l c = list_any (same_label l) (out-Case c).labels

abbrev pub once : Cases → Option ℤ → Judged (Option ℤ)
once c l = must (not (list_any (has_label l) c.cases)) rule.CaseLabel (Ok l)

abbrev pub case_label : Target → IntType → Operand → Cases → Judged (Option ℤ)
case_label target t x c = judge_then (label_in target t (constancy x)) (once c)

abbrev pub default_label : Cases → Judged (Option ℤ)
default_label c = once c None

-- one that is at fault stands nowhere
abbrev pub cases_behind : Judged (Option ℤ) → Cases → Cases
cases_behind (Ok l) c = labelled l c
cases_behind (Err broken) c = c

abbrev pub label_done : {A : Type 0} → Judged (Option ℤ) → A → Judged A
label_done (Ok l) x = Ok x
label_done (Err broken) x = Err broken
