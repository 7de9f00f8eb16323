-- What outcomes the test of a point may have, by facts: with what is in the sets of registers there, and with one of them at a member.
use Rattle.std.specs.Prelude.{◌≡◌, ℕ, ℤ, Bool, true, List, Some, if◌then◌else◌}
use Rattle.std.specs.List.{list_any}
use Rattle.cc_state_values_sound.specs.CcControl.Control.{is_label}
use Rattle.cc_rules.specs.CcFlow.declared.types.Point.{Point}
use Rattle.cc_program.specs.CcNum.Results.{one_if}
use Rattle.cc_state_values_sound.specs.CcPlaces.Abstract.{HasValue}
use Rattle.cc_state_values_sound.specs.CcPlaces.declared.abs.Abs.{Abs}
use Rattle.cc_program.specs.declared.expr.Expr.{Expr}
use Rattle.cc_program.specs.declared.func.Func.{Func}
use Rattle.cc_program.specs.declared.program.Program.{Program}
use Rattle.cc_program.specs.declared.stmt.Case.{Case}
use Rattle.cc_program.specs.declared.stmt.Stmt.TheOpen as is
use Rattle.cc_program.specs.declared.stmt.Stmt.{Stmt, out-Stmt}
use Rattle.cc_program.specs.declared.value.Value.{Value}
use Rattle.cc_rules.specs.CcRulesFlows.Nexts.{IsPoint, statement_of, all_constants}
use Rattle.cc_rules.specs.CcRulesFlows.Tests.{Test, Is, Equals, Differs, MayPass, IsLeft}
use Rattle.cc_rules.specs.CcStateFacts.declared.facts.Facts.{Facts}
use Rattle.cc_state_values_sound.specs.CcStateOperators.Domains.{Domain}
use Rattle.cc_rules.specs.CcStateReads.Reads.{registers_at}
use Rattle.cc_state_values_sound.specs.CcSyntax.Registers.{is_register}

-- a case has this label
abbrev pub has_label : ℤ → List Case → Bool
has_label z cases = list_any (λ (c : Case). list_any (is_label z) c.labels) cases

-- of the cases of a `switch` the test that passes where it chooses by this number
abbrev pub test_of : ℤ → List Case → Test
test_of z cases = if has_label z cases then Equals z else Differs (all_constants cases)

-- what a statement tests, and the test that passes with this outcome
abbrev pub IsTestIn : is.Stmt-F Stmt Case → ℤ → Expr → Test → Type 0
IsTestIn (is.If a these those) z e test = (b : Bool) × (z ≡ one_if b) × (e ≡ a) × (test ≡ Is b)
IsTestIn (is.Switch a cases) z e test = (e ≡ a) × (test ≡ test_of z cases)
IsTestIn _ z e test = ⊥

pub record IsTestAt (p : Program) (n : ℕ) (z : ℤ) (id : ℕ) (f : Func) (e : Expr) (test : Test) : Type 0 where
  pub point : Point
  pub is_point : IsPoint p n id f point
  pub statement : Stmt
  pub there : statement_of f point ≡ Some statement
  pub tests : IsTestIn (out-Stmt statement) z e test

module _ {I : Type 0} (d : Domain I) (p : Program) (facts : Facts I) where
  abbrev pub PassesAt : ℕ → ℤ → Type 0
  PassesAt n z = (id : ℕ) (f : Func) (e : Expr) (test : Test) → IsTestAt p n z id f e test → MayPass d p id f (registers_at facts f n) e test

  -- with the register at this member, that is left of each set that has it
  abbrev pub PassesWith : ℕ → ℕ → Value → ℤ → Type 0
  PassesWith n r x z =
      (id : ℕ) (f : Func) (e : Expr) (test : Test) → IsTestAt p n z id f e test → is_register f r ≡ true → (y u : Abs I) → IsLeft d p id f (registers_at facts f n) e test r y u → HasValue d.has y x → HasValue d.has u x
