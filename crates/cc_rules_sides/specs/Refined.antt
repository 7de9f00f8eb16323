-- What a test leaves of the sets of registers, and of those of the tracked cells that equal some.
use Rattle.std.specs.Prelude.{◌≡◌, ◌<◌, ◌+◌, ◌*◌, ◌/◌, ◌^◌, ◌==◌, ℕ, ℤ, Bool, true, false, List, [], ◌∷◌, ◌++◌, length, Option, Some, slice_get, if◌then◌else◌}
use Rattle.std.specs.List.{list_any}
use Rattle.cc_rules_flows.specs.CcPlaces.Abstract.{HasValue}
use Rattle.cc_rules_flows.specs.CcPlaces.declared.abs.Abs.{Abs}
use Rattle.cc_rules_flows.specs.CcPlaces.declared.abs.Abs.TheVariants as abs
use Rattle.cc_program.specs.declared.value.Value.{Value}
use Rattle.cc_rules_flows.specs.Tests.{IsLeftBy}
use Rattle.cc_rules_tests.specs.declared.tested.Tested.{Tested}
use Rattle.cc_rules_tests.specs.Tested.{test_of, MayHave, IsExplicitIn, IsLeftAlikeIn, IsLeftIn, IsOfRegisterIn, IsWorkedAt}
use Rattle.cc_rules_flows.specs.CcStateFacts.declared.facts.PointFact.{PointFact}
use Rattle.cc_rules_flows.specs.CcStateFacts.declared.facts.Row.{Row}
use Rattle.cc_rules_flows.specs.CcStateFacts.Facts.{has_pair, row_length}
use Rattle.cc_rules_flows.specs.CcStateOperators.Domains.{Domain}
use Rattle.cc_rules_flows.specs.CcStateValues.declared.context.Context.{Context}
use Rattle.cc_rules_flows.specs.CcStateValues.Contexts.{set_in}
use Rattle.cc_rules_flows.specs.CcSyntax.Registers.{is_register}

-- one register after the other, each of some that pass
abbrev pub equal_from : {I : Type 0} → PointFact I → ℕ → ℕ → List ℕ → List ℕ
equal_from fact cell number [] = []
equal_from fact cell number (r ∷ registers) = (if has_pair fact number cell then r ∷ [] else []) ++ equal_from fact cell (number + 1) registers

-- whether a pair has a cell of a row
abbrev pub has_pairs_in : List (ℕ × ℕ) → ℕ → Bool
has_pairs_in pairs row = list_any (λ (pair : ℕ × ℕ). pair.1 / row_length == row) pairs

-- a register is tested by a set that it may have
abbrev pub AreHeld : {I : Type 0} → Domain I → Context I → List ℕ → List (Abs I) → Type 0
AreHeld {I = I} d c registers sets = (number r : ℕ) (y : Abs I) → slice_get registers number ≡ Some r → slice_get sets number ≡ Some y → MayHave d c r y

-- the registers of a function
abbrev pub AreRegisters : {I : Type 0} → Context I → Type 0
AreRegisters c = (number r : ℕ) → slice_get c.registers.now number ≡ Some r → is_register c.func.now r ≡ true

-- a row has 16 cells at the most, and these, and those of all rows, have numbers of 32 bits
abbrev pub IsNumbered : {I : Type 0} → ℕ → List (Abs I) → Type 0
IsNumbered row sets = (at : ℕ) → at < length sets → (at < row_length) × (row_length * row + at < 2 ^ 32)

abbrev pub AreNumbered : {I : Type 0} → PointFact I → Type 0
AreNumbered {I = I} fact = (number : ℕ) (row : Row I) → slice_get fact.rows number ≡ Some row → IsNumbered number row.cells

-- sets of addresses stay, and those of integers stay such
abbrev pub KeepsAddresses : {I : Type 0} → Abs I → Abs I → Type 0
KeepsAddresses (abs.Ints x) (abs.Ints z) = Unit {0}
KeepsAddresses (abs.Ints x) (abs.Addrs s) = ⊥
KeepsAddresses (abs.Addrs s) z = z ≡ abs.Addrs s

abbrev pub AllKeepAddresses : {I : Type 0} → List (Abs I) → List (Abs I) → Type 0
AllKeepAddresses {I = I} sets left = (number : ℕ) (y z : Abs I) → slice_get sets number ≡ Some y → slice_get left number ≡ Some z → KeepsAddresses y z

module _ {I : Type 0} (d : Domain I) where
  abbrev pub HasNumber : I → Type 0
  HasNumber x = (n : ℤ) × d.has x n

  -- a set that has a value has none left
  abbrev pub IsEmptied : Abs I → Abs I → Type 0
  IsEmptied y z = ((v : Value) × HasValue d.has y v) × ((w : Value) → HasValue d.has z w → ⊥)

  abbrev pub IsOneEmptied : List (Abs I) → List (Abs I) → Type 0
  IsOneEmptied sets left = (number : ℕ) × (y : Abs I) × (z : Abs I) × (slice_get sets number ≡ Some y) × (slice_get left number ≡ Some z) × IsEmptied y z

module _ {I : Type 0} (d : Domain I) (t : Tested I) where
  -- a set of a cell as one register more leaves it, where that equals the cell, worked with the register at the set's members
  abbrev pub IsLeftMore : Bool → ℕ → Abs I → Abs I → Type 0
  IsLeftMore true r u z = IsLeftAlikeIn d t r u z × (IsOfRegisterIn d t r u → (m : ℤ) → IsExplicitIn d t.context.now u m → IsWorkedAt d t r m)
  IsLeftMore false r u z = z ≡ u

  -- registers, each with its set as the test leaves it
  pub record AreLeft (registers : List ℕ) (sets kept : List (Abs I)) : Type 0 where
    pub each : length kept ≡ length registers
    pub left : (number r : ℕ) (y z : Abs I) → slice_get registers number ≡ Some r → slice_get sets number ≡ Some y → slice_get kept number ≡ Some z → IsLeftIn d t r y z
    pub worked : (number r : ℕ) (y : Abs I) (m : ℤ) → slice_get registers number ≡ Some r → slice_get sets number ≡ Some y → IsExplicitIn d t.context.now y m → IsWorkedAt d t r m

  abbrev pub IsLeftByIn : List ℕ → Abs I → Abs I → Type 0
  IsLeftByIn rs y z = IsLeftBy d t.context.now.program.now t.context.now.id t.context.now.func.now (set_in t.context.now) t.expression.now (test_of t.test) rs y z

  -- the value has been worked with each register at the members of what those before it leave of a cell's set
  abbrev pub AreWorkedOf : List ℕ → Abs I → Type 0
  AreWorkedOf rs y = (r : ℕ) (before behind : List ℕ) (u : Abs I) (m : ℤ) → rs ≡ before ++ r ∷ behind → IsLeftByIn before y u → IsOfRegisterIn d t r u → IsExplicitIn d t.context.now u m → IsWorkedAt d t r m

  -- a cell with its set as the registers that equal it leave it
  pub record IsCellLeft (rs : List ℕ) (y z : Abs I) : Type 0 where
    pub left : IsLeftByIn rs y z
    pub worked : AreWorkedOf rs y

  -- the cells of a row, and all rows
  pub record AreCellsLeft (fact : PointFact I) (row : ℕ) (sets left : List (Abs I)) : Type 0 where
    pub each : length left ≡ length sets
    pub cells : (at : ℕ) (y z : Abs I) → slice_get sets at ≡ Some y → slice_get left at ≡ Some z → IsCellLeft (equal_from fact (row_length * row + at) 0 t.context.now.registers.now) y z

  pub record AreRowsLeft (fact : PointFact I) (rows left : List (Row I)) : Type 0 where
    pub each : length left ≡ length rows
    pub cells : (number : ℕ) (x z : Row I) → slice_get rows number ≡ Some x → slice_get left number ≡ Some z → AreCellsLeft fact number x.cells z.cells
