-- A fact tells what flows.
use Rattle.std.specs.Prelude.{◌≡◌, ◌==◌, not, ◌&&◌, ◌||◌, nat_eq, nat_lt, ℕ, Bool, List, ◌∷◌, ◌++◌}
use Rattle.std.specs.List.{AllZip, filter}
use Rattle.cc_rules_needs.specs.Flowing.{Flowing}
use Rattle.cc_state_reads.specs.CcStateFacts.declared.facts.PointFact.{PointFact}
use Rattle.cc_state_reads.specs.CcStateFacts.Facts.{cell_of, local_of, has_pair}

-- flag, sets and pairs of the one are those of the other
pub record Tells {I : Type 0} (fact : PointFact I) (flow : Flowing I) : Type 0 where
  pub off : fact.off ≡ flow.off
  pub on : fact.on ≡ flow.on
  pub locals : (r : ℕ) → local_of fact r ≡ flow.local r
  pub cells : (j : ℕ) → cell_of fact j ≡ flow.cell j
  pub pairs : (r j : ℕ) → has_pair fact r j ≡ flow.pair r j

-- pairs that stay where a register, or a cell, gets another value
abbrev pub is_of_other_register : ℕ → ℕ × ℕ → Bool
is_of_other_register r pair = not (pair.0 == r)

abbrev pub is_of_other_cell : ℕ → ℕ × ℕ → Bool
is_of_other_cell j pair = not (pair.1 == j)

-- one after the other, each at the same point
abbrev pub AreTold : {I : Type 0} → List (ℕ × PointFact I) → List (ℕ × Flowing I) → Type 0
AreTold told flows = AllZip (λ a b. (a.0 ≡ b.0) × Tells a.1 b.1) told flows

-- a pair put between those that come before it, by the register and then by the cell, and those that come behind
abbrev pub comes_before : ℕ × ℕ → ℕ × ℕ → Bool
comes_before a b = nat_lt a.0 b.0 || (nat_eq a.0 b.0 && nat_lt a.1 b.1)

abbrev pub with_between : ℕ × ℕ → List (ℕ × ℕ) → List (ℕ × ℕ)
with_between pair pairs = filter (λ q. comes_before q pair) pairs ++ pair ∷ filter (comes_before pair) pairs
