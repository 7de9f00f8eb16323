-- The forms of expression statements in normal form, and that each is one of them.
use Rattle.std.proofs.Common.{◌≡◌, ◌⊎◌, inl, inr, Bool, true, false, ◌&&◌, ◌||◌, List, Option, refl}
use Rattle.std.specs.Prelude.{if◌then◌else◌}
use Rattle.std.specs.List.{list_all}
use Rattle.cc_program.specs.CcNum.declared.target.Target.{Target}
use Rattle.cc_program.specs.declared.expr.Expr.TheOpen as one
use Rattle.cc_program.specs.declared.expr.Expr.{Expr, out-Expr}
use Rattle.cc_program.specs.declared.expr.Intr.{Intr}
use Rattle.cc_program.specs.declared.expr.Place.{Place}
use Rattle.cc_program.specs.declared.func.Func.{Func}
use Rattle.cc_flow_sound.proofs.CcStates.Options.{either_true}
use Rattle.cc_flow_sound.proofs.CcSyntax.Prefixes.{both_true}
use Rattle.cc_flow_sound.specs.CcSyntax.Forms.{form_of, form_at}
use Rattle.cc_flow_sound.specs.CcSyntax.Normal.{is_operand, is_optional_operand, is_register_place, is_other_place, is_callee, is_call, is_place_read, is_expression_statement}

module _ (target : Target) (f : Func) where
  -- what a register may get, but for operands
  pub data IsSource (x : Expr) : Type 0 where
    IsRead : (b : Place) → out-Expr x ≡ one.Load b → is_other_place target f b ≡ true → IsSource x
    IsCall : (g : Expr) (args : List Expr) → out-Expr x ≡ one.Call g args → is_callee target f (form_of g) ≡ true → list_all (is_operand target f) args ≡ true → IsSource x
    IsIntrinsic : (i : Intr) (a : Option Expr) → out-Expr x ≡ one.Intr i a → is_optional_operand target f a ≡ true → IsSource x

  pub data IsFormOf (e : Expr) : Type 0 where
    ToRegister : (d : Place) (x : Expr) → out-Expr e ≡ one.Assign d x → is_register_place target f d ≡ true → (is_operand target f x ≡ true) ⊎ IsSource x → IsFormOf e
    ToPlace : (d : Place) (x : Expr) → out-Expr e ≡ one.Assign d x → is_other_place target f d ≡ true → is_operand target f x ≡ true → IsFormOf e
    Alone : IsSource e → IsFormOf e

  read_source : (x : Expr) (y : one.Expr-F Expr Place) → out-Expr x ≡ y → is_place_read target f (form_at y) ≡ true → IsSource x
  read_source x (one.Load b) i h = IsRead b i h
  read_source x _ i h = absurd (cc)

  call_source : (x : Expr) (y : one.Expr-F Expr Place) → out-Expr x ≡ y → is_call target f (form_at y) ≡ true → IsSource x
  call_source x (one.Call g args) i h = let q = both_true (is_callee target f (form_of g)) (list_all (is_operand target f) args) h in IsCall g args i q.0 q.1
  call_source x (one.Intr k a) i h = IsIntrinsic k a i h
  call_source x _ i h = absurd (cc)

  register_source : (x : Expr) → (is_operand target f x ≡ true) ⊎ (is_place_read target f (form_of x) || is_call target f (form_of x) ≡ true) → (is_operand target f x ≡ true) ⊎ IsSource x
  register_source x (inl h) = inl h
  register_source x (inr h) = inr (by (either_true (is_place_read target f (form_of x)) (is_call target f (form_of x)) h))
    where
      by : (is_place_read target f (form_of x) ≡ true) ⊎ (is_call target f (form_of x) ≡ true) → IsSource x
      by (inl k) = read_source x (out-Expr x) refl k
      by (inr k) = call_source x (out-Expr x) refl k

  assignment_form : (e : Expr) (d : Place) (x : Expr) → out-Expr e ≡ one.Assign d x → (b : Bool) → is_register_place target f d ≡ b →
      (if b then is_operand target f x || (is_place_read target f (form_of x) || is_call target f (form_of x)) else is_other_place target f d && is_operand target f x) ≡ true → IsFormOf e
  assignment_form e d x i true r h = ToRegister d x i r (register_source x (either_true (is_operand target f x) (is_place_read target f (form_of x) || is_call target f (form_of x)) h))
  assignment_form e d x i false r h = let q = both_true (is_other_place target f d) (is_operand target f x) h in ToPlace d x i q.0 q.1

  form_by : (e : Expr) (y : one.Expr-F Expr Place) → out-Expr e ≡ y → is_expression_statement target f (form_at y) ≡ true → IsFormOf e
  form_by e (one.Assign d x) i h = assignment_form e d x i (is_register_place target f d) refl h
  form_by e (one.Call g args) i h = Alone (call_source e (one.Call g args) i h)
  form_by e (one.Intr k a) i h = Alone (call_source e (one.Intr k a) i h)
  form_by e _ i h = absurd (cc)

  pub statement_form : (e : Expr) → is_expression_statement target f (form_of e) ≡ true → IsFormOf e
  statement_form e h = form_by e (out-Expr e) refl h
