-- The tests of a `switch`, as far as one part of it tells.
use Rattle.std.specs.Prelude.{ℤ, Bool, true, not, ◌&&◌, ◌||◌, List, [], ◌∷◌, ◌++◌, map, Option}
use Rattle.std.specs.List.{list_all, list_any}
use Rattle.cc_program.specs.declared.expr.Expr.{Expr}
use Rattle.cc_program.specs.declared.func.Func.{Func}
use Rattle.cc_program.specs.declared.program.Program.{Program}
use Rattle.cc_program.specs.declared.stmt.Case.{Case, out-Case}
use Rattle.cc_typed.specs.CcSyntax.Statements.{same_label, are_apart, labels_fit, labels_of, has_label}
use Rattle.cc_typed.specs.CcSyntax.Programs.{typed, is_sound_stmt}

-- each of the first labels differs from those behind it, and from the others
abbrev pub apart_from : List (Option ℤ) → List (Option ℤ) → Bool
apart_from [] others = true
apart_from (l ∷ ls) others = not (list_any (same_label l) ls || list_any (same_label l) others) && apart_from ls others

abbrev pub switches : Program → Func → Expr → List Case → Bool
switches p f e cases = labels_fit p.target (labels_of cases) (typed p f e) && (are_apart (labels_of cases) && list_all (λ c. has_label (out-Case c).labels) cases)

abbrev pub is_sound_case : Program → Func → Bool → Case → Bool
is_sound_case p f continues c = list_all (λ g. g true continues) (map (is_sound_stmt p f) (out-Case c).body)
