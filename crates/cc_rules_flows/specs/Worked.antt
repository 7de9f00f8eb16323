-- The values that are worked for a test: of its expression, as the registers are, and, where the test may pass, with a register at a member of an explicit set, be it
-- its own one, or what the registers before it leave of that of a tracked cell that equals them all.
use Rattle.std.specs.Prelude.{◌≡◌, ◌⊎◌, ℕ, ℤ, List, ◌∷◌, ◌++◌, Option, Some, slice_get}
use Rattle.std.specs.List.{Contains}
use Rattle.cc_flow_sound.specs.CcFlow.declared.types.Point.{Point}
use Rattle.cc_state_reads.specs.CcPlaces.declared.abs.Abs.{Abs}
use Rattle.cc_state_reads.specs.CcPlaces.declared.abs.Abs.TheVariants as abs
use Rattle.cc_program.specs.declared.expr.Expr.{Expr}
use Rattle.cc_program.specs.declared.func.Func.{Func}
use Rattle.cc_program.specs.declared.program.Program.{Program}
use Rattle.cc_rules_flows.specs.Flows.{equal_to, sets}
use Rattle.cc_rules_flows.specs.Tests.{Test, MayPass, with_member, IsOfRegister, IsLeftBy}
use Rattle.cc_state_reads.specs.CcStateFacts.declared.facts.Facts.{Facts}
use Rattle.cc_state_reads.specs.CcStateFacts.declared.facts.PointFact.{PointFact}
use Rattle.cc_state_reads.specs.CcStateFacts.Facts.{cell_of, local_of}
use Rattle.cc_state_reads.specs.CcStateKeys.Tracked.{registers}
use Rattle.cc_state_reads.specs.CcStateOperators.Domains.{Domain, IsHull}
use Rattle.cc_state_reads.specs.CcStateValues.Values.{IsVal}

module _ {I : Type 0} (d : Domain I) (p : Program) (id : ℕ) (f : Func) (facts : Facts I) (point : Point) (n : ℕ) (fact : PointFact I) (e : Expr) (test : Test) where
  abbrev register : ℕ → Option (Abs I)
  register = sets d p id f facts point n fact

  abbrev pub IsExplicit : Abs I → ℤ → Type 0
  IsExplicit y m = (x : I) × (members : List ℤ) × (y ≡ abs.Ints x) × (d.members x ≡ Some members) × Contains members m

  abbrev pub IsMember : ℕ → ℕ → ℤ → Type 0
  IsMember number r m =
      ((y : Abs I) × (local_of fact number ≡ Some y) × IsExplicit y m)
      ⊎ ((cell : ℕ) × (before : List ℕ) × (behind : List ℕ) × (y : Abs I) × (u : Abs I) × (equal_to d p id f facts point n fact cell ≡ before ++ r ∷ behind) × (cell_of fact cell ≡ Some y)
      × IsLeftBy d p id f register e test before y u × IsOfRegister d p id f register e test r u × IsExplicit u m)

  pub record AreWorked : Type 0 where
    pub value : (y : Abs I) × IsVal d p id f register e y
    pub members : MayPass d p id f register e test → (number r : ℕ) (m : ℤ) → slice_get (registers f) number ≡ Some r → IsMember number r m →
        (one : I) × (y : Abs I) × IsHull d (λ k. k ≡ m) one × IsVal d p id f (with_member d p id f register e test r one) e y
