-- Where a `switch` goes on, from what was found of its cases.
use Rattle.std.proofs.Common.{◌≡◌, ℕ, ℤ, List, ◌∷◌, Option, Some, None, refl, ap, sym}
use Rattle.std.specs.Prelude.{option_map}
use Rattle.std.specs.Borrow.{Bor}
use Rattle.std.specs.List.{list_any}
use Rattle.std.specs.Option.{option_or}
use Rattle.cc_control.specs.Control.{around_list, behind, bodies, close, from_label, is_label, is_default}
use Rattle.cc_control.specs.View.{counted_at, found_of}
use Rattle.cc_program.specs.declared.stmt.Case.{Case}
use Rattle.cc_program.specs.declared.stmt.Stmt.{Stmt}
use Rattle.cc_steps.specs.State.{Active}
use Rattle.cc_steps.specs.Step.{in_case, switched}

same_place : (a : Active) (x : Option (ℕ × List Stmt)) (n : ℕ) (c : List Case) → Some (n, bodies c) ≡ option_map counted_at x → in_case a x ≡ close (bodies c) n (around_list a.here ∷ a.around)
same_place a None n c h = absurd (cc)
same_place a (Some at) n c h = let e : (n, bodies c) ≡ counted_at at = cc in ap (λ (r : ℕ × List Stmt). close r.1 r.0 (around_list a.here ∷ a.around)) (sym e)

no_place : (a : Active) (x : Option (ℕ × List Stmt)) → None ≡ option_map counted_at x → in_case a x ≡ behind a.here a.around
no_place a None h = refl
no_place a (Some at) h = absurd (cc)

pub first-some : (x y : Option (ℕ × List Stmt)) (n : ℕ) (c : List Case) → Some (n, bodies c) ≡ option_map counted_at x → Some (n, bodies c) ≡ option_map counted_at (option_or x y)
first-some None y n c h = absurd (cc)
first-some (Some at) y n c h = h

pub first-none : (x y : Option (ℕ × List Stmt)) (r : Option (ℕ × Bor (List Case))) → None ≡ option_map counted_at x → option_map found_of r ≡ option_map counted_at y →
    option_map found_of r ≡ option_map counted_at (option_or x y)
first-none None y r h k = k
first-none (Some at) y r h k = absurd (cc)

pub switched-some : (a : Active) (v : ℤ) (cases : List Case) (n : ℕ) (c : List Case) →
    Some (n, bodies c) ≡ option_map counted_at (option_or (from_label (list_any (is_label v)) 0 cases) (from_label (list_any is_default) 0 cases)) →
    switched a v cases ≡ close (bodies c) n (around_list a.here ∷ a.around)
switched-some a v cases n c h = same_place a (option_or (from_label (list_any (is_label v)) 0 cases) (from_label (list_any is_default) 0 cases)) n c h

pub switched-none : (a : Active) (v : ℤ) (cases : List Case) →
    None ≡ option_map counted_at (option_or (from_label (list_any (is_label v)) 0 cases) (from_label (list_any is_default) 0 cases)) → switched a v cases ≡ behind a.here a.around
switched-none a v cases h = no_place a (option_or (from_label (list_any (is_label v)) 0 cases) (from_label (list_any is_default) 0 cases)) h

pub ruleset of_labels = (first-some, first-none)

pub ruleset of_cases = (switched-some, switched-none)
