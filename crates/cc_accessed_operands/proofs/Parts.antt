-- What an expression or a place accesses, as its parts do; operands that access no device.
use Rattle.std.proofs.Common.{◌≡◌, ◌∙◌, ◌||◌, ◌&&◌, ℕ, ℤ, Bool, true, false, refl, ap, sym, subst}
use Rattle.std.specs.Prelude.{if◌then◌else◌}
use Rattle.std.proofs.lemmas.Bool.{true≢false}
use Rattle.cc_accessed_operands.specs.Accessed.{accesses, place_access}
use Rattle.cc_accessed_operands.specs.Kept.{TrapsWithoutAccess, KeepsDesignated, KeepsOperand}
use Rattle.cc_accessed_operands.proofs.Accesses.{no, or_either, accesses_at, place_access_at, accesses-roll, place-access-roll}
use Rattle.cc_designators.specs.Designators.{TypedExpr}
use Rattle.cc_operands.specs.Operands.{Operand, operand, constant_at, constancy, is_null_at, is_to_void, is_zero_constant, is_null_constant, structure_at}
use Rattle.cc_program.specs.declared.expr.Expr.{Expr, Null, roll-Expr, out-Expr, roll-out-Expr}
use Rattle.cc_program.specs.declared.expr.Expr.TheOpen as one
use Rattle.cc_program.specs.declared.expr.Expr.TheVariants.{rolls-Null}
use Rattle.cc_program.specs.declared.expr.Place.{Place, roll-Place}
use Rattle.cc_program.specs.declared.types.CType.{CType}
use Rattle.cc_operands.specs.CcSyntax.Folding.{Constant, NoConstant, Value, Traps}
use Rattle.cc_operands.specs.CcSyntax.Values.{ValueType}

pub never : {C : Type 0} {b : Bool} → b ≡ true → b ≡ false → C
never h k = absurd (true≢false (sym h ∙ k))

pub neither : (a b : Bool) → a ≡ false → b ≡ false → (a || b) ≡ false
neither true b h k = absurd (true≢false h)
neither false b h k = k

pub second_of : (a b : Bool) → (a && b) ≡ true → b ≡ true
second_of true b h = h
second_of false b h = no h

-- ---- what is a constant expression, with a value or without one

abbrev pub IsConstant : Constant → Type 0
IsConstant NoConstant = ⊥
IsConstant (Value n) = Unit {0}
IsConstant Traps = Unit {0}

abbrev pub AccessesNone : Expr → Type 0
AccessesNone e = (d : ℕ) → accesses d e ≡ false

module _ (d : ℕ) where
  pub accesses_is : (e : Expr) (x : one.Expr-F Expr Place) → roll-Expr x ≡ e → accesses d e ≡ accesses_at d x
  accesses_is e x r = ap (accesses d) (sym r) ∙ accesses-roll d x

  pub place_access_is : (a : Place) (x : one.Place-F Expr Place) → roll-Place x ≡ a → place_access d a ≡ place_access_at d x
  place_access_is a x r = ap (place_access d) (sym r) ∙ place-access-roll d x

  constant_at_none : (x : one.Expr-F Expr Place) → IsConstant (constant_at x) → accesses_at d x ≡ false
  constant_at_none (one.Const n t) h = refl
  constant_at_none (one.Null t) h = absurd h
  constant_at_none (one.FuncAddr f) h = absurd h
  constant_at_none (one.Load a) h = absurd h
  constant_at_none (one.AddrOf a) h = absurd h
  constant_at_none (one.Un o t a) h = absurd h
  constant_at_none (one.Bin o t a b) h = absurd h
  constant_at_none (one.Conv t a) h = absurd h
  constant_at_none (one.Qualify t a) h = absurd h
  constant_at_none (one.Move a b back) h = absurd h
  constant_at_none (one.Gap a b) h = absurd h
  constant_at_none (one.Compare o a b) h = absurd h
  constant_at_none (one.Both a b) h = absurd h
  constant_at_none (one.Either a b) h = absurd h
  constant_at_none (one.Choose c a b) h = absurd h
  constant_at_none (one.Assign a e) h = absurd h
  constant_at_none (one.Change a o t e) h = absurd h
  constant_at_none (one.After a down) h = absurd h
  constant_at_none (one.Call f args) h = absurd h
  constant_at_none (one.Intr i a) h = absurd h
  constant_at_none (one.Seq a b) h = absurd h

  null_at_none : (x : one.Expr-F Expr Place) → is_null_at x ≡ true → accesses_at d x ≡ false
  null_at_none (one.Const n t) h = no h
  null_at_none (one.Null t) h = refl
  null_at_none (one.FuncAddr f) h = no h
  null_at_none (one.Load a) h = no h
  null_at_none (one.AddrOf a) h = no h
  null_at_none (one.Un o t a) h = no h
  null_at_none (one.Bin o t a b) h = no h
  null_at_none (one.Conv t a) h = no h
  null_at_none (one.Qualify t a) h = no h
  null_at_none (one.Move a b back) h = no h
  null_at_none (one.Gap a b) h = no h
  null_at_none (one.Compare o a b) h = no h
  null_at_none (one.Both a b) h = no h
  null_at_none (one.Either a b) h = no h
  null_at_none (one.Choose c a b) h = no h
  null_at_none (one.Assign a e) h = no h
  null_at_none (one.Change a o t e) h = no h
  null_at_none (one.After a down) h = no h
  null_at_none (one.Call f args) h = no h
  null_at_none (one.Intr i a) h = no h
  null_at_none (one.Seq a b) h = no h

  expression_none : (e : Expr) → IsConstant (constant_at (out-Expr e)) → accesses d e ≡ false
  expression_none e h = accesses_is e (out-Expr e) (roll-out-Expr e) ∙ constant_at_none (out-Expr e) h

  -- one with a value is a constant
  value_none : (b : Bool) (e : Expr) (n : ℤ) → (if b then Traps else constant_at (out-Expr e)) ≡ Value n → accesses d e ≡ false
  value_none true e n h = absurd (cc)
  value_none false e n h = expression_none e (subst IsConstant (sym h) tt)

  pub constant_none : (x : Operand) (n : ℤ) → constancy x ≡ Value n → accesses d x.value ≡ false
  constant_none x n h = value_none x.traps x.value n h

  pub null_none : (t : CType) → accesses d (Null t) ≡ false
  null_none t = accesses_is (Null t) (one.Null t) (rolls-Null t)

  zero_none : (x : Operand) (k : Constant) → constancy x ≡ k → is_zero_constant k ≡ true → accesses d x.value ≡ false
  zero_none x NoConstant e h = no h
  zero_none x (Value n) e h = constant_none x n e
  zero_none x Traps e h = no h

  pub null_constant_none : (x : Operand) → is_null_constant x ≡ true → accesses d x.value ≡ false
  null_constant_none x h =
      or_either (is_zero_constant (constancy x)) (is_to_void x.type && is_null_at (out-Expr x.value)) (zero_none x (constancy x) refl)
      (λ k. accesses_is x.value (out-Expr x.value) (roll-out-Expr x.value) ∙ null_at_none (out-Expr x.value) (second_of (is_to_void x.type) (is_null_at (out-Expr x.value)) k)) h

-- an operand that is a constant expression accesses no device, where one that traps does not
constant_by : (b : Bool) (e : Expr) → (b ≡ true → AccessesNone e) → IsConstant (if b then Traps else constant_at (out-Expr e)) → AccessesNone e
constant_by true e h k = h refl
constant_by false e h k = λ d. expression_none d e k

pub constant_accesses_none : (x : Operand) → TrapsWithoutAccess x → IsConstant (constancy x) → AccessesNone x.value
constant_accesses_none x h k = constant_by x.traps x.value h k

-- ---- what is made of something

pub operand_known : (e : Expr) (t : ValueType) → TrapsWithoutAccess (operand e t)
operand_known e t = λ h. no h

pub structure_known : (a : Place) → TrapsWithoutAccess (structure_at a)
structure_known a = λ h. no h

pub operand_keeps : (e : Expr) (t : ValueType) (accessed : ℕ → Bool) → ((d : ℕ) → accessed d ≡ true → accesses d e ≡ true) → KeepsOperand (operand e t) accessed
operand_keeps e t accessed h = record { known = operand_known e t; kept = h }

-- what accesses fewer is kept, too
pub fewer : (r : TypedExpr) (accessed some : ℕ → Bool) → ((d : ℕ) → some d ≡ true → accessed d ≡ true) → KeepsDesignated r accessed → KeepsDesignated r some
fewer r accessed some h k = record { known = k.known; kept = λ d s. k.kept d (h d s) }
