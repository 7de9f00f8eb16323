-- What constants give.
use Rattle.std.proofs.Common.{◌≡◌, zero, suc, ℤ, true, not, List, Option, Some, refl, ap, ◌∙◌}
use Rattle.std.specs.Prelude.{pos, negsuc}
use Rattle.std.specs.Ordering.{int_eq}
use Rattle.cc_program.specs.CcNum.declared.int_type.IntType.{IntType}
use Rattle.cc_program.specs.declared.expr.Expr.{Expr, out-Expr, roll-Expr, map-Expr, fold-roll-Expr, fold_out-Expr}
use Rattle.cc_program.specs.declared.expr.Expr.TheOpen as one
use Rattle.cc_program.specs.declared.expr.Place.{Place}
use Rattle.cc_program.specs.declared.value.Value.{Value}
use Rattle.cc_program.specs.declared.value.Value.TheVariants.{Int}
use Rattle.cc_steps.specs.CcEval.declared.mark.Mark.{Mark}
use Rattle.cc_steps.specs.CcEval.Context.{Context}
use Rattle.cc_steps.specs.CcEval.Eval.{Meaning, Designation, expr_meaning, place_meaning, meaning, designation, next_of}
use Rattle.cc_steps.specs.CcEval.Progress.{Progress, Known}
use Rattle.cc_steps.specs.CcSyntax.Effects.{no_one}
use Rattle.cc_steps.specs.CcValues.Values.{is_true}
use Rattle.cc_lower_statements.specs.Statements.{constant_one, is_nonzero_constant, is_nonzero_constant_in}

module _ (c : Context) (ms : List Mark) where
  abbrev opened : one.Expr-F Expr Place → one.Expr-F Meaning Designation
  opened x = map-Expr Expr Place Meaning Designation (meaning c) (designation c) x

  abbrev next_at : one.Expr-F Expr Place → Progress (Option Value)
  next_at x = (expr_meaning c (opened x)).next no_one ms

  next-out : (e : Expr) → next_of c e ms ≡ next_at (out-Expr e)
  unfolding meaning designation
  next-out e = ap (λ (m : Meaning). m.next no_one ms) (fold_out-Expr Meaning Designation (expr_meaning c) (place_meaning c) e)

  pub next-constant : (n : ℤ) (t : IntType) → next_of c (roll-Expr (one.Const n t)) ms ≡ Known (Some (Int n)) ms
  unfolding meaning
  next-constant n t = ap (λ (m : Meaning). m.next no_one ms) (fold-roll-Expr Meaning Designation (expr_meaning c) (place_meaning c) (one.Const n t))

  pub next-one : next_of c constant_one ms ≡ Known (Some (Int (pos 1))) ms
  next-one = next-constant (pos 1) _

  -- a constant other than 0 counts as true
  abbrev Holds : Progress (Option Value) → Type 0
  Holds r = (v : Value) × (r ≡ Known (Some v) ms) × (is_true v ≡ true)

  true_int : (n : ℤ) → not (int_eq n (pos 0)) ≡ true → is_true (Int n) ≡ true
  true_int (pos zero) h = absurd (cc)
  true_int (pos (suc n)) h = refl
  true_int (negsuc n) h = refl

  nonzero_holds_in : (x : one.Expr-F Expr Place) → is_nonzero_constant_in x ≡ true → Holds (next_at x)
  nonzero_holds_in (one.Const n t) h = (Int n, refl, true_int n h)
  nonzero_holds_in (one.Null t) h = absurd (cc)
  nonzero_holds_in (one.FuncAddr f) h = absurd (cc)
  nonzero_holds_in (one.Load a) h = absurd (cc)
  nonzero_holds_in (one.AddrOf a) h = absurd (cc)
  nonzero_holds_in (one.Un o t a) h = absurd (cc)
  nonzero_holds_in (one.Bin o t a b) h = absurd (cc)
  nonzero_holds_in (one.Conv t a) h = absurd (cc)
  nonzero_holds_in (one.Qualify t a) h = absurd (cc)
  nonzero_holds_in (one.Move a b back) h = absurd (cc)
  nonzero_holds_in (one.Gap a b) h = absurd (cc)
  nonzero_holds_in (one.Compare o a b) h = absurd (cc)
  nonzero_holds_in (one.Both a b) h = absurd (cc)
  nonzero_holds_in (one.Either a b) h = absurd (cc)
  nonzero_holds_in (one.Choose d a b) h = absurd (cc)
  nonzero_holds_in (one.Assign a e) h = absurd (cc)
  nonzero_holds_in (one.Change a o t e) h = absurd (cc)
  nonzero_holds_in (one.After a down) h = absurd (cc)
  nonzero_holds_in (one.Call f args) h = absurd (cc)
  nonzero_holds_in (one.Intr i a) h = absurd (cc)
  nonzero_holds_in (one.Seq a b) h = absurd (cc)

  pub nonzero_holds : (e : Expr) → is_nonzero_constant e ≡ true → (v : Value) × (next_of c e ms ≡ Known (Some v) ms) × (is_true v ≡ true)
  unfolding is_nonzero_constant
  nonzero_holds e h = let x = nonzero_holds_in (out-Expr e) h in (x.0, (next-out e ∙ x.1), x.2)
