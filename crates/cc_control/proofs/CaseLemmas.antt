-- Cases in front of a label, as far as a loop has come.
use Rattle.std.proofs.Common.{◌≡◌, ◌+◌, ◌≤◌, ◌^◌, ◌-◌, ℕ, ℤ, Bool, true, false, List, [], ◌∷◌, length, Option, Some, option_map, refl, ap, arith, if◌then◌else◌}
use Rattle.cc_program.specs.declared.stmt.Case.{Case}
use Rattle.cc_program.specs.declared.stmt.Stmt.{Stmt}
use Rattle.cc_control.specs.Control.{counted, from_label, bodies}
use Rattle.cc_control.specs.View.{counted_at}

more_counted : (n m k : ℕ) → counted n ≡ counted m → counted (n + k) ≡ counted (m + k)
more_counted n m k h = omega (arith, h)

module _ (has : List (Option ℤ) → Bool) where
  abbrev at_case : Bool → ℕ → Case → List Case → Option (ℕ × List Stmt)
  at_case b n c cases = if b then Some (n, bodies (c ∷ cases)) else from_label has (n + length c.body) cases

  abbrev SameCounts : List Case → Type 0
  SameCounts cases = (n m : ℕ) → counted n ≡ counted m → option_map counted_at (from_label has n cases) ≡ option_map counted_at (from_label has m cases)

  same_case : (b : Bool) (n m : ℕ) (c : Case) (cases : List Case) → SameCounts cases → counted n ≡ counted m → option_map counted_at (at_case b n c cases) ≡ option_map counted_at (at_case b m c cases)
  same_case true n m c cases h k = ap (λ (i : ℕ). Some (i, bodies (c ∷ cases))) k
  same_case false n m c cases h k = h (n + length c.body) (m + length c.body) (more_counted n m (length c.body) k)

  same_count : (cases : List Case) → SameCounts cases
  same_count [] n m h = refl
  same_count (c ∷ cases) n m h = same_case (has c.labels) n m c cases (same_count cases) h

  pub label_here : (n : ℕ) (c : Case) (cases left : List Case) → left ≡ c ∷ cases → n ≤ 2 ^ 32 - 1 → has c.labels ≡ true →
      Some (n, bodies left) ≡ option_map counted_at (from_label has n left)
  label_here n c cases left e h k = let m : n ≡ counted n = omega (arith, h) in rw (e, k) (ap (λ (i : ℕ). Some (i, bodies (c ∷ cases))) m)

  pub label_behind : (n m : ℕ) (c : Case) (cases left : List Case) → left ≡ c ∷ cases → counted (n + length c.body) ≡ counted m → has c.labels ≡ false →
      option_map counted_at (from_label has n left) ≡ option_map counted_at (from_label has m cases)
  label_behind n m c cases left e h k = rw (e, k) (same_count cases (n + length c.body) m h)
