-- What facts say behind a test: where an outcome of it leads, registers keep those members with which it may have that outcome.
use Rattle.std.specs.Prelude.{◌≡◌, ◌⊎◌, ℕ, ℤ, Bool, true}
use Rattle.cc_program.specs.declared.func.Func.{Func}
use Rattle.cc_program.specs.declared.value.Value.{Value}
use Rattle.cc_proof_covers.specs.Views.{View}
use Rattle.cc_flow_sound.specs.CcSyntax.Registers.{is_register}

-- one register at this member, and the others as at the point
abbrev pub AtMember : View → ℕ → ℕ → Value → ℕ → Value → Type 0
AtMember v n r x q w = ((q ≡ r) × (w ≡ x)) ⊎ ((q ≡ r → ⊥) × v.local n q w)

-- from the point n, where the test may have the outcome z, with a register at a member
module _ (v : View) (f : Func) (n : ℕ) (Passes : ℤ → Type 0) (With : ℕ → Value → ℤ → Type 0) (z : ℤ) where
  -- it may have it, and no register is without a member left
  pub record MayLead : Type 0 where
    pub all : Passes z
    pub some : (r : ℕ) (x : Value) → is_register f r ≡ true → v.local n r x → (w : Value) × v.local n r w × With r w z

  -- so the point k, to which it leads, is reached, with those members; a tracked object that registers are the same as keeps the members that
  -- these keep
  pub record Refines (k : ℕ) : Type 0 where
    pub reached : v.reached k
    pub flags : (on : Bool) → v.may_be n on → v.may_be k on
    pub locals : (r : ℕ) (x : Value) → is_register f r ≡ true → v.local n r x → With r x z → v.local k r x
    pub cells : (i : ℕ) (x : Value) → v.tracked i ≡ true → v.cell n i x → ((r : ℕ) → v.same n r i → is_register f r ≡ true → With r x z) → v.cell k i x
    pub sames : (r i : ℕ) → v.same k r i → v.same n r i
