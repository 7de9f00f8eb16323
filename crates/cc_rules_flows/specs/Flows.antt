-- What flows from a point to its next points, by what the statement there does. A call lets nothing flow: what comes behind it comes from
-- the exits of the functions that may be called.
use Rattle.std.specs.Prelude.{◌≡◌, ◌⊎◌, ℕ, ◌==◌, ℤ, pos, Bool, true, false, not, ◌&&◌, ◌||◌, List, [], ◌∷◌, ◌++◌, map, Option, Some, None, slice_get, if◌then◌else◌}
use Rattle.std.specs.List.{filter}
use Rattle.cc_flow_sound.specs.CcFlow.declared.types.Point.{Point}
use Rattle.cc_state_reads.specs.CcPlaces.declared.abs.Abs.{Abs}
use Rattle.cc_state_reads.specs.CcPlaces.declared.abs.Abs.TheVariants as abs
use Rattle.cc_state_reads.specs.CcPlaces.Abstract.{HasValue}
use Rattle.cc_program.specs.declared.expr.Expr.{Expr}
use Rattle.cc_program.specs.declared.expr.Expr.TheOpen as one
use Rattle.cc_program.specs.declared.expr.Place.{Place, out-Place}
use Rattle.cc_program.specs.declared.func.Func.{Func}
use Rattle.cc_program.specs.declared.program.Program.{Program}
use Rattle.cc_program.specs.declared.value.Value.{Value}
use Rattle.cc_rules_flows.specs.Acts.{Act, Sets, Reads, Writes, Calls, Saves, Turns, Restores, Tests, Chooses, Returns, Passes}
use Rattle.cc_rules_flows.specs.Nexts.{sides, choices}
use Rattle.cc_rules_flows.specs.Tests.{Test, MayPass, IsLeft, IsLeftBy}
use Rattle.cc_rules_needs.specs.Flowing.{Flowing, of_fact, with_local, with_pair, with_cell, with_flags}
use Rattle.cc_state_reads.specs.CcStateFacts.declared.facts.Facts.{Facts}
use Rattle.cc_state_reads.specs.CcStateFacts.declared.facts.PointFact.{PointFact}
use Rattle.cc_state_reads.specs.CcStateFacts.Facts.{cell_of, local_of, has_pair}
use Rattle.cc_state_reads.specs.CcStateKeys.Tracked.{registers, register_number}
use Rattle.cc_state_reads.specs.CcStateOperators.Domains.{Domain, IsHull, MayBe}
use Rattle.cc_state_reads.specs.Reads.{IsRead, registers_at, tracked_in}
use Rattle.cc_state_reads.specs.CcStateValues.Values.{IsVal}

-- the expression that a statement tests, and its tests, each with the point to which control goes where it passes
abbrev pub tests_of : ℕ → List ℕ → Act → Option (Expr × List (Test × ℕ))
tests_of n next (Tests e these those) = Some (e, sides n these those next)
tests_of n next (Chooses e cases) = Some (e, choices n cases next)
tests_of n next (Sets r e) = None
tests_of n next (Reads r a) = None
tests_of n next (Writes a e) = None
tests_of n next (Calls r g args) = None
tests_of n next (Saves r) = None
tests_of n next (Turns on) = None
tests_of n next (Restores e) = None
tests_of n next (Returns e) = None
tests_of n next Passes = None

module _ {I : Type 0} (d : Domain I) (p : Program) (id : ℕ) (f : Func) (facts : Facts I) (point : Point) (n : ℕ) (fact : PointFact I) where
  abbrev pub here : Flowing I
  here = of_fact fact

  abbrev pub sets : ℕ → Option (Abs I)
  sets = registers_at facts f n

  abbrev pub ValueAt : Expr → Abs I → Type 0
  ValueAt e y = IsVal d p id f sets e y

  -- the same to each next point
  abbrev pub to_all : Flowing I → List (ℕ × Flowing I)
  to_all flow = map (λ k. (k, flow)) point.next

  -- the flag as 0 and 1
  abbrev pub FlagValue : ℤ → Type 0
  FlagValue m = ((fact.off ≡ true) × (m ≡ pos 0)) ⊎ ((fact.on ≡ true) × (m ≡ pos 1))

  abbrev pub Says : Bool → Type 0 → Type 0
  Says b A = (b ≡ true → A) × (A → b ≡ true)

  -- ---- where a test passes

  abbrev pub equals : Option ℕ → ℕ → Bool
  equals None cell = false
  equals (Some number) cell = has_pair fact number cell

  -- the registers that equal a cell
  abbrev pub equal_to : ℕ → List ℕ
  equal_to cell = filter (λ r. equals (register_number f r) cell) (registers f)

  pub record IsSide (e : Expr) (test : Test) (flow : Flowing I) : Type 0 where
    pub off : flow.off ≡ fact.off
    pub on : flow.on ≡ fact.on
    pub locals : (number r : ℕ) (y : Abs I) → slice_get (registers f) number ≡ Some r → local_of fact number ≡ Some y → (z : Abs I) × (flow.local number ≡ Some z) × IsLeft d p id f sets e test r y z
    pub cells : (cell : ℕ) (y : Abs I) → cell_of fact cell ≡ Some y → (z : Abs I) × (flow.cell cell ≡ Some z) × IsLeftBy d p id f sets e test (equal_to cell) y z
    pub pairs : (r j : ℕ) → flow.pair r j ≡ has_pair fact r j

  -- control does not go there where no value passes, or where a register with members has none left
  pub record IsTaken (e : Expr) (test : Test) (flow : Flowing I) : Type 0 where
    pub passes : MayPass d p id f sets e test
    pub left : (number : ℕ) (y z : Abs I) (v : Value) → local_of fact number ≡ Some y → flow.local number ≡ Some z → HasValue d.has y v → (w : Value) × HasValue d.has z w

  pub data Side (e : Expr) (test : Test) (k : ℕ) : List (ℕ × Flowing I) → Type 0 where
    Taken : {flows : List (ℕ × Flowing I)} (flow : Flowing I) → IsSide e test flow → IsTaken e test flow → flows ≡ (k, flow) ∷ [] → Side e test k flows
    Barred : {flows : List (ℕ × Flowing I)} → (MayPass d p id f sets e test → ⊥) → flows ≡ [] → Side e test k flows
    Untaken : {flows : List (ℕ × Flowing I)} (flow : Flowing I) → IsSide e test flow → (IsTaken e test flow → ⊥) → flows ≡ [] → Side e test k flows

  abbrev pub AreSides : Expr → List (Test × ℕ) → List (ℕ × Flowing I) → Type 0
  AreSides e [] flows = flows ≡ []
  AreSides e (t ∷ tests) flows = (first rest : List (ℕ × Flowing I)) × Side e t.0 t.1 first × AreSides e tests rest × (flows ≡ first ++ rest)

  -- to which next points what flows; some of them may be the same point
  pub data Flows : Act → List (ℕ × Flowing I) → Type 0 where
    OfSets : {act : Act} {flows : List (ℕ × Flowing I)} (r number : ℕ) (e : Expr) (y : Abs I) → act ≡ Sets r e → register_number f r ≡ Some number → ValueAt e y → flows ≡ to_all (with_local number y here) → Flows act flows
    OfReads : {act : Act} {flows : List (ℕ × Flowing I)} (r number : ℕ) (a : Place) (y : Abs I) → act ≡ Reads r a → register_number f r ≡ Some number → IsRead d p id f sets facts n a y → flows ≡ to_all (with_pair number (tracked_in p (out-Place a)) (with_local number y here)) → Flows act flows
    OfWrites : {act : Act} {flows : List (ℕ × Flowing I)} (a : Place) (e : Expr) (y : Abs I) → act ≡ Writes a e → ValueAt e y → flows ≡ to_all (with_cell (tracked_in p (out-Place a)) y here) → Flows act flows
    OfTurns : {act : Act} {flows : List (ℕ × Flowing I)} (on : Bool) → act ≡ Turns on → flows ≡ to_all (with_flags (not on) on here) → Flows act flows
    OfSaves : {act : Act} {flows : List (ℕ × Flowing I)} (r number : ℕ) (x : I) → act ≡ Saves (Some r) → register_number f r ≡ Some number → IsHull d FlagValue x → flows ≡ to_all (with_flags true false (with_local number (abs.Ints x) here)) → Flows act flows
    OfSavesAlone : {act : Act} {flows : List (ℕ × Flowing I)} → act ≡ Saves None → flows ≡ to_all (with_flags true false here) → Flows act flows
    OfRestores : {act : Act} {flows : List (ℕ × Flowing I)} (e : Expr) (y : Abs I) (off on : Bool) → act ≡ Restores e → ValueAt e y → Says off (MayBe d false y) → Says on (MayBe d true y) →
        flows ≡ (if off || on then to_all (with_flags off on here) else []) → Flows act flows
    OfTests : {act : Act} {flows : List (ℕ × Flowing I)} (e : Expr) (tests : List (Test × ℕ)) → tests_of n point.next act ≡ Some (e, tests) → AreSides e tests flows → Flows act flows
    OfReturns : {act : Act} {flows : List (ℕ × Flowing I)} (e : Option Expr) → act ≡ Returns e → flows ≡ to_all here → Flows act flows
    OfPasses : {act : Act} {flows : List (ℕ × Flowing I)} → act ≡ Passes → flows ≡ to_all here → Flows act flows
    OfCalls : {act : Act} {flows : List (ℕ × Flowing I)} (result : Option ℕ) (g : Expr) (args : List Expr) → act ≡ Calls result g args → flows ≡ [] → Flows act flows
