-- A set has a value with which a test passes; and what is asked of numbers that are not among others.
use Rattle.std.specs.Prelude.{◌≡◌, ◌≤ℤ◌, ◌<ℤ◌, ◌^◌, ℤ, pos, neg_ℤ, List}
use Rattle.std.specs.List.{Contains}
use Rattle.cc_rules_flows.specs.CcPlaces.declared.abs.Abs.{Abs}
use Rattle.cc_rules_flows.specs.CcPlaces.Abstract.{HasValue}
use Rattle.cc_program.specs.declared.value.Value.{Value}
use Rattle.cc_rules_flows.specs.Tests.{Test, Passes}
use Rattle.cc_rules_flows.specs.CcStateOperators.Domains.{Domain}

abbrev pub MayPassIn : {I : Type 0} → Domain I → Test → Abs I → Type 0
MayPassIn d test y = (v : Value) × HasValue d.has y v × Passes test v

-- one of some numbers is not among others
abbrev pub HasOther : (ℤ → Type 0) → List ℤ → Type 0
HasOther has others = (v : ℤ) × has v × (Contains others v → ⊥)

abbrev pub HasOtherBetween : ℤ → ℤ → List ℤ → Type 0
HasOtherBetween low high others = HasOther (λ v. (low ≤ℤ v) × (v ≤ℤ high)) others

-- a number that is among values of integer types, or right behind them
pub record IsNext (v : ℤ) : Type 0 where
  pub least : neg_ℤ (pos (2 ^ 64)) ≤ℤ v
  pub most : v ≤ℤ pos (2 ^ 64)

-- all numbers from one on and before the other are in a list; and if they are none, the first is not
pub record IsBehind (first : ℤ) (numbers : List ℤ) (next : ℤ) : Type 0 where
  pub above : first ≤ℤ next
  pub all : (v : ℤ) → first ≤ℤ v → v <ℤ next → Contains numbers v
  pub none : next ≡ first → Contains numbers first → ⊥
