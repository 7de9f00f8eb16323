-- What flows to a point: how the flag may be there, and the sets of registers and tracked cells, by their position, with the pairs of those
-- that are equal.
use Rattle.std.specs.Prelude.{◌≡◌, ℕ, zero, suc, ◌==◌, Bool, true, false, not, ◌&&◌, ◌||◌, List, [], ◌∷◌, ◌++◌, map, Option, Some, None, if◌then◌else◌}
use Rattle.std.specs.List.{Contains, flat_map, list_all, list_any}
use Rattle.cc_places.specs.declared.abs.Abs.{Abs}
use Rattle.cc_places.specs.Abstract.{AreOfOneKind, IsBelowAbs}
use Rattle.cc_rules_needs.specs.Needs.{Slot, Flag, LocalAt, CellAt, Apart, Part, Mark, Flags, Values, Needs}
use Rattle.cc_state_facts.specs.declared.facts.PointFact.{PointFact}
use Rattle.cc_state_facts.specs.Facts.{cell_of, local_of, has_pair}

pub record Flowing (I : Type 0) : Type 0 where
  pub off : Bool
  pub on : Bool
  pub local : ℕ → Option (Abs I)
  pub cell : ℕ → Option (Abs I)
  pub pair : ℕ → ℕ → Bool

module _ {I : Type 0} where
  -- what a point has
  abbrev pub of_fact : PointFact I → Flowing I
  of_fact fact = record { off = fact.off; on = fact.on; local = local_of fact; cell = cell_of fact; pair = has_pair fact }

  -- a register gets another set, and equals no cell; then it may equal one
  abbrev pub with_local : ℕ → Abs I → Flowing I → Flowing I
  with_local r y flow = record flow { local = λ q. if q == r then Some y else flow.local q; pair = λ q j. not (q == r) && flow.pair q j }

  abbrev pub with_pair : ℕ → Option ℕ → Flowing I → Flowing I
  with_pair r None flow = flow
  with_pair r (Some cell) flow = record flow { pair = λ q j. (q == r && j == cell) || flow.pair q j }

  -- a tracked cell, where one is written
  abbrev pub with_cell : Option ℕ → Abs I → Flowing I → Flowing I
  with_cell None y flow = flow
  with_cell (Some cell) y flow = record flow { cell = λ j. if j == cell then Some y else flow.cell j; pair = λ q j. not (j == cell) && flow.pair q j }

  abbrev pub with_flags : Bool → Bool → Flowing I → Flowing I
  with_flags off on flow = record flow { off = off; on = on }

  abbrev pub without_pairs : Flowing I → Flowing I
  without_pairs flow = record flow { pair = λ r j. false }

-- ---- what several let flow to one point

module _ {I : Type 0} (below : I → I → Type 0) where
  -- the least of one kind that all of some sets are below
  abbrev pub IsUpper : List (Option (Abs I)) → Abs I → Type 0
  IsUpper ys u = (x : Abs I) → Contains ys (Some x) → AreOfOneKind x u × IsBelowAbs below x u

  abbrev pub IsLeastOver : List (Option (Abs I)) → Option (Abs I) → Type 0
  IsLeastOver ys None = (x : Abs I) → Contains ys (Some x) → ⊥
  IsLeastOver ys (Some z) = IsUpper ys z × ((u : Abs I) → IsUpper ys u → IsBelowAbs below z u)

  -- a pair stands where it stands in all
  pub record IsJoined (flows : List (Flowing I)) (flow : Flowing I) : Type 0 where
    pub off : flow.off ≡ list_any (λ (a : Flowing I). a.off) flows
    pub on : flow.on ≡ list_any (λ (a : Flowing I). a.on) flows
    pub locals : (r : ℕ) → IsLeastOver (map (λ (a : Flowing I). a.local r) flows) (flow.local r)
    pub cells : (j : ℕ) → IsLeastOver (map (λ (a : Flowing I). a.cell j) flows) (flow.cell j)
    pub pairs : (r j : ℕ) → flow.pair r j ≡ list_all (λ (a : Flowing I). a.pair r j) flows

-- ---- what is asked at the point to which it flows

-- so many numbers from one on
abbrev pub numbers : ℕ → ℕ → List ℕ
numbers k zero = []
numbers k (suc n) = k ∷ numbers (suc k) n

abbrev pub each_pair : ℕ → ℕ → List (ℕ × ℕ)
each_pair registers cells = flat_map (λ r. map (λ j. (r, j)) (numbers 0 cells)) (numbers 0 registers)

module _ {I : Type 0} where
  -- that a pair does not stand
  abbrev pub need_apart : ℕ → (ℕ → ℕ → Bool) → ℕ × ℕ → Needs I
  need_apart k pair q = if pair q.0 q.1 then [] else (Apart k q.0 q.1, Mark true) ∷ []

  abbrev pub need_local : ℕ → Flowing I → ℕ → Slot × Part I
  need_local k flow r = (LocalAt k r, Values (flow.local r))

  abbrev pub need_cell : ℕ → Flowing I → ℕ → Slot × Part I
  need_cell k flow j = (CellAt k j, Values (flow.cell j))

  -- in the order flag, registers, cells, pairs; at a point of a function with so many registers, of a program with so many tracked cells
  abbrev pub needs_at : ℕ → ℕ → ℕ → Flowing I → Needs I
  needs_at k registers cells flow =
      (Flag k, Flags flow.off flow.on)
      ∷ (map (need_local k flow) (numbers 0 registers) ++ (map (need_cell k flow) (numbers 0 cells) ++ flat_map (need_apart k flow.pair) (each_pair registers cells)))
