-- What expressions and places by other numbers of static objects are at their tops.
use Rattle.std.proofs.Common.{◌≡◌, ◌∙◌, ℕ, None, Some, option_map, map, refl, ap}
use Rattle.cc_program.specs.declared.expr.Expr.{Expr, roll-Expr, out-Expr, out-roll-Expr, map-Expr, fold_out-Expr}
use Rattle.cc_program.specs.declared.expr.Expr.TheOpen as one
use Rattle.cc_program.specs.declared.expr.Place.{Place, out-Place, out-roll-Place, map-Place, fold_out-Place}
use Rattle.cc_eval.specs.CcSyntax.Forms.{Form, ConstantForm, FunctionForm, LoadForm, AssignForm, CallForm, IntrinsicForm, OtherForm, form_at, form_of}
use Rattle.cc_rewrite_renamed.specs.Objects.{place_with, place_step, expr_renamed, place_renamed}

module _ (r : ℕ → ℕ) where
  abbrev pub form_with : Form → Form
  form_with (ConstantForm n t) = ConstantForm n t
  form_with FunctionForm = FunctionForm
  form_with (LoadForm a) = LoadForm (place_renamed r a)
  form_with (AssignForm a e) = AssignForm (place_renamed r a) (expr_renamed r e)
  form_with (CallForm g args) = CallForm (expr_renamed r g) (map (expr_renamed r) args)
  form_with (IntrinsicForm a) = IntrinsicForm (option_map (expr_renamed r) a)
  form_with OtherForm = OtherForm

  abbrev renamed_parts : one.Expr-F Expr Place → one.Expr-F Expr Place
  renamed_parts x = map-Expr Expr Place Expr Place (expr_renamed r) (place_renamed r) x

  form_level : (x : one.Expr-F Expr Place) → form_at (renamed_parts x) ≡ form_with (form_at x)
  form_level (one.Const n t) = refl
  form_level (one.Null t) = refl
  form_level (one.FuncAddr f) = refl
  form_level (one.Load a) = refl
  form_level (one.AddrOf a) = refl
  form_level (one.Un o t a) = refl
  form_level (one.Bin o t a b) = refl
  form_level (one.Conv t a) = refl
  form_level (one.Qualify t a) = refl
  form_level (one.Move a b back) = refl
  form_level (one.Gap a b) = refl
  form_level (one.Compare o a b) = refl
  form_level (one.Both a b) = refl
  form_level (one.Either a b) = refl
  form_level (one.Choose c a b) = refl
  form_level (one.Assign a e) = refl
  form_level (one.Change a o t e) = refl
  form_level (one.After a down) = refl
  form_level (one.Call f args) = refl
  form_level (one.Intr i None) = refl
  form_level (one.Intr i (Some a)) = refl
  form_level (one.Seq a b) = refl

  pub form_same : (e : Expr) → form_of (expr_renamed r e) ≡ form_with (form_of e)
  unfolding expr_renamed place_renamed
  form_same e = ap form_of (fold_out-Expr Expr Place roll-Expr (place_step r) e) ∙ ap form_at (out-roll-Expr (renamed_parts (out-Expr e))) ∙ form_level (out-Expr e)

  pub place_out : (a : Place) → out-Place (place_renamed r a) ≡ place_with r (map-Place Expr Place Expr Place (expr_renamed r) (place_renamed r) (out-Place a))
  unfolding expr_renamed place_renamed
  place_out a =
      ap out-Place (fold_out-Place Expr Place roll-Expr (place_step r) a)
      ∙ out-roll-Place (place_with r (map-Place Expr Place Expr Place (expr_renamed r) (place_renamed r) (out-Place a)))
