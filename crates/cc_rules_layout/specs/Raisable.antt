-- What facts of a program's shape can be raised by: parts of keys and functions, parts of points that are reached, and points as a whole, laid
-- out as those of their functions are.
use Rattle.std.specs.Prelude.{◌≡◌, ◌<◌, ◌≤◌, ℕ, true, is_some, List, All, length, Some}
use Rattle.std.specs.List.{AllPairs, Contains}
use Rattle.cc_rules_asked.specs.CcFlow.declared.types.Point.{Point}
use Rattle.cc_rules_asked.specs.CcPlaces.declared.abs.Abs.{Abs}
use Rattle.cc_program.specs.declared.func.Func.{Func}
use Rattle.cc_program.specs.declared.program.Program.{Program}
use Rattle.cc_rules_asked.specs.declared.asked.Asked.{Asked}
use Rattle.cc_rules_asked.specs.declared.asked.Asked.TheVariants as asked
use Rattle.cc_rules_asked.specs.CcRulesFlows.Nexts.{IsPoint}
use Rattle.cc_rules_asked.specs.CcRulesNeeds.declared.needs.Slot.{Slot}
use Rattle.cc_rules_asked.specs.CcRulesNeeds.declared.needs.Slot.TheVariants.{Flag, LocalAt, CellAt, Apart}
use Rattle.cc_state.specs.Shape.{AreRows, IsBefore}
use Rattle.cc_rules_asked.specs.CcStateFacts.declared.facts.Facts.{Facts}
use Rattle.cc_rules_asked.specs.CcStateFacts.declared.facts.PointFact.{PointFact}
use Rattle.cc_rules_asked.specs.CcStateFacts.Facts.{cell_of, fact_at}
use Rattle.cc_rules_asked.specs.CcStateKeys.Tracked.{registers, tracked}
use Rattle.cc_rules_asked.specs.CcStateOperators.Domains.{Domain}

module _ {I : Type 0} (d : Domain I) (p : Program) where
  -- what flows to a point of a function is laid out as the function has it, but that it may tell of the first registers alone
  pub record IsLaidOutFor (f : Func) (flow : PointFact I) : Type 0 where
    pub few_locals : length flow.locals ≤ length (registers f)
    pub rows : AreRows d p (length (tracked p)) flow.rows
    pub cells : (j : ℕ) → j < length (tracked p) → (y : Abs I) × (cell_of flow j ≡ Some y)
    pub pairs_in_range : (pair : ℕ × ℕ) → Contains flow.same pair → (pair.0 < length (registers f)) × (pair.1 < length (tracked p))
    pub pairs_ascend : AllPairs (IsBefore d p) flow.same

  -- the number is that of a point, whose function has so many registers
  pub record IsLaidOutAt (number count : ℕ) (flow : PointFact I) : Type 0 where
    pub id : ℕ
    pub func : Func
    pub point : Point
    pub is_point : IsPoint p number id func point
    pub all_registers : count ≡ length (registers func)
    pub laid_out : IsLaidOutFor func flow

  abbrev pub IsReached : Facts I → ℕ → Type 0
  IsReached facts n = is_some (fact_at facts n) ≡ true

  -- of the parts of a point those of its cells, and that a pair does not stand there
  abbrev pub IsRaisableSlot : Facts I → Slot → Type 0
  IsRaisableSlot facts (Flag n) = ⊥
  IsRaisableSlot facts (LocalAt n r) = ⊥
  IsRaisableSlot facts (CellAt n j) = IsReached facts n
  IsRaisableSlot facts (Apart n r j) = IsReached facts n
  IsRaisableSlot facts _ = Unit {0}

  abbrev pub IsRaisable : Facts I → Asked I → Type 0
  IsRaisable facts (asked.Part slot part) = IsRaisableSlot facts slot
  IsRaisable facts (asked.Point number registers flow) = IsLaidOutAt number registers flow

  abbrev pub AreRaisable : Facts I → List (Asked I) → Type 0
  AreRaisable facts list = All (IsRaisable facts) list
