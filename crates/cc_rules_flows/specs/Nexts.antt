-- Points with their statements, and where control goes from a test.
use Rattle.std.specs.Prelude.{◌≡◌, ℕ, ◌+◌, ℤ, Bool, true, false, ◌||◌, nat_le, List, [], ◌∷◌, ◌++◌, map, Option, Some, None, is_none, slice_get, if◌then◌else◌}
use Rattle.std.specs.List.{flat_map, list_any}
use Rattle.cc_flow_sound.specs.CcFlow.declared.types.Point.{Point}
use Rattle.cc_flow_sound.specs.CcFlow.Laws.{starts}
use Rattle.cc_flow_sound.specs.CcFlow.Next.{reached}
use Rattle.cc_flow_sound.specs.CcFlow.Points.{flow_of, total_of}
use Rattle.cc_flow_sound.specs.CcFlow.View.{case_total, total_of_cases}
use Rattle.cc_flow_sound.specs.Moves.{entry}
use Rattle.cc_flow_sound.specs.Statements.{statement_at}
use Rattle.cc_program.specs.declared.func.Func.{Func}
use Rattle.cc_program.specs.declared.program.Program.{Program}
use Rattle.cc_program.specs.declared.stmt.Case.{Case}
use Rattle.cc_program.specs.declared.stmt.Stmt.{Stmt}
use Rattle.cc_rules_flows.specs.Tests.{Test, Is, Equals, Differs}

-- a point of a program, with its function; it has a statement, but for the exit
pub record IsPoint (p : Program) (n : ℕ) (id : ℕ) (f : Func) (point : Point) : Type 0 where
  pub numbered : slice_get (flow_of p).points n ≡ Some point
  pub own : point.func ≡ id
  pub function : slice_get p.funcs id ≡ Some f

abbrev pub statement_of : Func → Point → Option Stmt
statement_of f point = statement_at f.body point.path

-- the exit of a function
abbrev pub exit_of : Program → ℕ → Func → ℕ
exit_of p id f = entry p id + total_of f.body

-- of the next points of a statement of so many points the one that is not inside it: where control goes on behind it
abbrev pub behind_in : ℕ → ℕ → List ℕ → ℕ
behind_in n size [] = n
behind_in n size (k ∷ next) = if nat_le k n || nat_le (n + size) k then k else behind_in n size next

-- the sides of an `if`: the first point of the list, and behind the statement where it has none
abbrev pub side : Bool → ℕ → List Stmt → List Stmt → List ℕ → ℕ
side true n these those next = reached (total_of these) (n + 1) (behind_in n (1 + (total_of these + total_of those)) next)
side false n these those next = reached (total_of those) (n + 1 + total_of these) (behind_in n (1 + (total_of these + total_of those)) next)

-- the start of each case of a `switch`
abbrev pub case_starts : ℕ → List Case → List ℕ → List ℕ
case_starts n cases next = starts (n + 1) (behind_in n (1 + total_of_cases cases) next) (map case_total cases)

-- ---- the tests of a statement, each with where control goes where it passes

abbrev pub sides : ℕ → List Stmt → List Stmt → List ℕ → List (Test × ℕ)
sides n these those next = (Is true, side true n these those next) ∷ (Is false, side false n these those next) ∷ []

-- the constants of labels; of `default` none
abbrev pub constants : List (Option ℤ) → List ℤ
constants [] = []
constants (None ∷ labels) = constants labels
constants (Some n ∷ labels) = n ∷ constants labels

abbrev pub all_constants : List Case → List ℤ
all_constants cases = flat_map (λ (c : Case). constants c.labels) cases

abbrev pub label_test : List ℤ → Option ℤ → Test
label_test all None = Differs all
label_test all (Some n) = Equals n

abbrev pub case_tests : List ℤ → List Case → List ℕ → List (Test × ℕ)
case_tests all [] starts = []
case_tests all (c ∷ cases) [] = []
case_tests all (c ∷ cases) (k ∷ starts) = map (λ label. (label_test all label, k)) c.labels ++ case_tests all cases starts

abbrev pub has_default : List Case → Bool
has_default cases = list_any (λ (c : Case). list_any is_none c.labels) cases

-- without `default` control goes on behind the `switch` where no label fits (6.8.4.2, 5)
abbrev pub choices : ℕ → List Case → List ℕ → List (Test × ℕ)
choices n cases next =
    case_tests (all_constants cases) cases (case_starts n cases next)
    ++ (if has_default cases then [] else (Differs (all_constants cases), behind_in n (1 + total_of_cases cases) next) ∷ [])
