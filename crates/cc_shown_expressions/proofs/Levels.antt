-- What an expression and a place are at a level: their type, what they are as constants, whether they are folded, and with
-- other numbers; and what it says that the level has a type.
use Rattle.std.specs.Prelude.{ℤ}
use Rattle.std.proofs.Common.{◌≡◌, Bool, true, false, not, map, Option, Some, None, refl, ap, sym, ◌∙◌}
use Rattle.cc_terms.specs.CcOperands.Operands.{constant_at, is_null_at}
use Rattle.cc_program.specs.declared.expr.Expr.{Expr, out-Expr, map-Expr, fold_out-Expr}
use Rattle.cc_program.specs.declared.expr.Expr.TheOpen as one
use Rattle.cc_program.specs.declared.expr.Expr.TheVariants as rolls
use Rattle.cc_program.specs.declared.expr.Place.{Place, out-Place, map-Place, fold_out-Place}
use Rattle.cc_program.specs.declared.func.Func.{Func}
use Rattle.cc_program.specs.declared.program.Program.{Program}
use Rattle.cc_program.specs.CcNum.declared.target.Target.{Target}
use Rattle.cc_terms.specs.CcSyntax.Effects.{Effects, PlaceEffects, effect_step, place_effect_step, effects_of, place_effects_of}
use Rattle.cc_terms.specs.CcSyntax.Expressions.{of_one, of_two}
use Rattle.cc_terms.specs.CcSyntax.Expressions as typing
use Rattle.cc_terms.specs.CcSyntax.Programs.{expr_step, place_step, type_of, place_type}
use Rattle.cc_terms.specs.CcSyntax.Folding.{Constant, NoConstant, Value, Traps, Folding, has_value, operation, folding_step, place_folding_step, folding_of, is_folded_place, constant_of, is_folded}
use Rattle.cc_terms.specs.CcSyntax.Operators.{when}
use Rattle.cc_terms.specs.CcSyntax.Values.{ValueType, PlaceType}
use Rattle.cc_terms.proofs.CcSyntax.Prefixes.{both_true}
use Rattle.cc_shown_expressions.specs.OperationNumbers.{Numbers, expr_numbered, place_numbered}
use Rattle.cc_shown_expressions.specs.OperationNumbers.{expr_step as number_step, place_step as number_place_step}
use Rattle.cc_shown_expressions.specs.Numbers.{type_numbered}

-- ---- options

pub one-is : {A B : Type 0} (a : Option A) (g : A → Option B) (r : B) → of_one a g ≡ Some r → (x : A) × (a ≡ Some x) × (g x ≡ Some r)
one-is None g r h = absurd (cc)
one-is (Some x) g r h = (x, refl, h)

pub two-is : {A B C : Type 0} (a : Option A) (b : Option B) (g : A → B → Option C) (r : C) → of_two a b g ≡ Some r → (x : A) × (y : B) × (a ≡ Some x) × (b ≡ Some y) × (g x y ≡ Some r)
two-is None b g r h = absurd (cc)
two-is (Some x) None g r h = absurd (cc)
two-is (Some x) (Some y) g r h = (x, y, refl, refl, h)

pub when-is : {A : Type 0} (b : Bool) (x r : A) → when b x ≡ Some r → (b ≡ true) × (r ≡ x)
when-is true x r h = let e : r ≡ x = cc in (refl, e)
when-is false x r h = absurd (cc)

-- ---- levels

module _ (p : Program) (f : Func) where
  pub type-at : (e : Expr) (x : one.Expr-F Expr Place) → out-Expr e ≡ x → type_of p f.locals e ≡ expr_step p f.locals (map-Expr Expr Place (Option ValueType) (Option PlaceType) (type_of p f.locals) (place_type p f.locals) x)
  unfolding typing.type_of typing.place_type
  type-at e x h = fold_out-Expr (Option ValueType) (Option PlaceType) (expr_step p f.locals) (place_step p f.locals) e ∙ ap (λ y. expr_step p f.locals (map-Expr Expr Place (Option ValueType) (Option PlaceType) (type_of p f.locals) (place_type p f.locals) y)) h

  pub place-at : (a : Place) (x : one.Place-F Expr Place) → out-Place a ≡ x → place_type p f.locals a ≡ place_step p f.locals (map-Place Expr Place (Option ValueType) (Option PlaceType) (type_of p f.locals) (place_type p f.locals) x)
  unfolding typing.type_of typing.place_type
  place-at a x h = fold_out-Place (Option ValueType) (Option PlaceType) (expr_step p f.locals) (place_step p f.locals) a ∙ ap (λ y. place_step p f.locals (map-Place Expr Place (Option ValueType) (Option PlaceType) (type_of p f.locals) (place_type p f.locals) y)) h

  pub effects-at : (e : Expr) (x : one.Expr-F Expr Place) → out-Expr e ≡ x → effects_of f e ≡ effect_step (map-Expr Expr Place Effects PlaceEffects (effects_of f) (place_effects_of f) x)
  unfolding effects_of place_effects_of
  effects-at e x h = fold_out-Expr Effects PlaceEffects effect_step (place_effect_step f) e ∙ ap (λ y. effect_step (map-Expr Expr Place Effects PlaceEffects (effects_of f) (place_effects_of f) y)) h

  pub place-effects-at : (a : Place) (x : one.Place-F Expr Place) → out-Place a ≡ x → place_effects_of f a ≡ place_effect_step f (map-Place Expr Place Effects PlaceEffects (effects_of f) (place_effects_of f) x)
  unfolding effects_of place_effects_of
  place-effects-at a x h = fold_out-Place Effects PlaceEffects effect_step (place_effect_step f) a ∙ ap (λ y. place_effect_step f (map-Place Expr Place Effects PlaceEffects (effects_of f) (place_effects_of f) y)) h

module _ (n : Numbers) where
  pub expr-at : (e : Expr) (x : one.Expr-F Expr Place) → out-Expr e ≡ x → expr_numbered n e ≡ number_step n (map-Expr Expr Place Expr Place (expr_numbered n) (place_numbered n) x)
  unfolding expr_numbered place_numbered
  expr-at e x h = fold_out-Expr Expr Place (number_step n) (number_place_step n) e ∙ ap (λ y. number_step n (map-Expr Expr Place Expr Place (expr_numbered n) (place_numbered n) y)) h

  pub place-numbered-at : (a : Place) (x : one.Place-F Expr Place) → out-Place a ≡ x → place_numbered n a ≡ number_place_step n (map-Place Expr Place Expr Place (expr_numbered n) (place_numbered n) x)
  unfolding expr_numbered place_numbered
  place-numbered-at a x h = fold_out-Place Expr Place (number_step n) (number_place_step n) a ∙ ap (λ y. number_place_step n (map-Place Expr Place Expr Place (expr_numbered n) (place_numbered n) y)) h

module _ (target : Target) where
  abbrev pub folded_in : one.Expr-F Expr Place → Folding
  folded_in x = folding_step target (map-Expr Expr Place Folding Bool (folding_of target) (is_folded_place target) x)

  pub folding-at : (e : Expr) (x : one.Expr-F Expr Place) → out-Expr e ≡ x → folding_of target e ≡ folded_in x
  unfolding folding_of is_folded_place
  folding-at e x h = fold_out-Expr Folding Bool (folding_step target) (place_folding_step target) e ∙ ap folded_in h

  pub place-folding-at : (a : Place) (x : one.Place-F Expr Place) → out-Place a ≡ x → is_folded_place target a ≡ place_folding_step target (map-Place Expr Place Folding Bool (folding_of target) (is_folded_place target) x)
  unfolding folding_of is_folded_place
  place-folding-at a x h = fold_out-Place Folding Bool (folding_step target) (place_folding_step target) a ∙ ap (λ y. place_folding_step target (map-Place Expr Place Folding Bool (folding_of target) (is_folded_place target) y)) h

  pub constant-at : (e : Expr) (x : one.Expr-F Expr Place) → out-Expr e ≡ x → constant_of target e ≡ (folded_in x).constant
  constant-at e x h = ap (λ (g : Folding). g.constant) (folding-at e x h)

  pub folded-at : (e : Expr) (x : one.Expr-F Expr Place) → out-Expr e ≡ x → is_folded target e ≡ (folded_in x).is_folded
  folded-at e x h = ap (λ (g : Folding). g.is_folded) (folding-at e x h)

  -- ---- what a folded expression is as a constant

  no-value : (c : Constant) → not (has_value c) ≡ true → has_value c ≡ false
  no-value NoConstant h = refl
  no-value (Value k) h = absurd (cc)
  no-value Traps h = refl

  -- an operation over folded parts has no value
  pub operation-is : (c : Constant) (parts : Bool) → (operation c parts).is_folded ≡ true → (parts ≡ true) × (has_value c ≡ false)
  operation-is c parts h = let k = both_true parts (not (has_value c)) h in (k.0, no-value c k.1)

  valueless : (c : Constant) (parts : Bool) (k : ℤ) → (operation c parts).is_folded ≡ true → c ≡ Value k → ⊥
  valueless c parts k h e = let g : true ≡ false = sym (ap has_value e) ∙ (operation-is c parts h).1 in absurd (cc)

  const-level : (x : one.Expr-F Expr Place) (k : ℤ) → (folded_in x).is_folded ≡ true → (folded_in x).constant ≡ Value k → constant_at x ≡ Value k
  const-level (one.Const m t) k h e = e
  const-level (one.Null t) k h e = absurd (cc)
  const-level (one.FuncAddr i) k h e = absurd (cc)
  const-level (one.Load a) k h e = absurd (cc)
  const-level (one.AddrOf a) k h e = absurd (cc)
  const-level (one.Un o t a) k h e = absurd (valueless _ _ k h e)
  const-level (one.Bin o t a b) k h e = absurd (valueless _ _ k h e)
  const-level (one.Conv t a) k h e = absurd (valueless _ _ k h e)
  const-level (one.Qualify t a) k h e = absurd (cc)
  const-level (one.Move a b back) k h e = absurd (cc)
  const-level (one.Gap a b) k h e = absurd (cc)
  const-level (one.Compare o a b) k h e = absurd (cc)
  const-level (one.Both a b) k h e = absurd (valueless _ _ k h e)
  const-level (one.Either a b) k h e = absurd (valueless _ _ k h e)
  const-level (one.Choose c a b) k h e = absurd (valueless _ _ k h e)
  const-level (one.Assign a b) k h e = absurd (cc)
  const-level (one.Change a o t b) k h e = absurd (cc)
  const-level (one.After a down) k h e = absurd (cc)
  const-level (one.Call g args) k h e = absurd (cc)
  const-level (one.Intr i a) k h e = absurd (cc)
  const-level (one.Seq a b) k h e = absurd (cc)

  pub value-is : (e : Expr) (k : ℤ) → is_folded target e ≡ true → constant_of target e ≡ Value k → constant_at (out-Expr e) ≡ Value k
  value-is e k h c = const-level (out-Expr e) k (sym (folded-at e (out-Expr e) refl) ∙ h) (sym (constant-at e (out-Expr e) refl) ∙ c)

  none-level : (x : one.Expr-F Expr Place) → (folded_in x).constant ≡ NoConstant → constant_at x ≡ NoConstant
  none-level (one.Const k t) h = absurd (cc)
  none-level _ h = refl

  pub none-is : (e : Expr) → constant_of target e ≡ NoConstant → constant_at (out-Expr e) ≡ NoConstant
  none-is e h = none-level (out-Expr e) (sym (constant-at e (out-Expr e) refl) ∙ h)

-- ---- with other numbers it is the same constant, and a null where it was one

module _ (n : Numbers) where
  abbrev mapped : one.Expr-F Expr Place → one.Expr-F Expr Place
  mapped x = map-Expr Expr Place Expr Place (expr_numbered n) (place_numbered n) x

  constant-step : (x : one.Expr-F Expr Place) → constant_at (out-Expr (number_step n (mapped x))) ≡ constant_at x
  constant-step (one.Const k t) = ap constant_at (rolls.outs-Const k t)
  constant-step (one.Null t) = ap constant_at (rolls.outs-Null (type_numbered n.structure t))
  constant-step (one.FuncAddr i) = ap constant_at (rolls.outs-FuncAddr (n.func i))
  constant-step (one.Load a) = ap constant_at (rolls.outs-Load (place_numbered n a))
  constant-step (one.AddrOf a) = ap constant_at (rolls.outs-AddrOf (place_numbered n a))
  constant-step (one.Un o t a) = ap constant_at (rolls.outs-Un o t (expr_numbered n a))
  constant-step (one.Bin o t a b) = ap constant_at (rolls.outs-Bin o t (expr_numbered n a) (expr_numbered n b))
  constant-step (one.Conv t a) = ap constant_at (rolls.outs-Conv t (expr_numbered n a))
  constant-step (one.Qualify t a) = ap constant_at (rolls.outs-Qualify (type_numbered n.structure t) (expr_numbered n a))
  constant-step (one.Move a b back) = ap constant_at (rolls.outs-Move (expr_numbered n a) (expr_numbered n b) back)
  constant-step (one.Gap a b) = ap constant_at (rolls.outs-Gap (expr_numbered n a) (expr_numbered n b))
  constant-step (one.Compare o a b) = ap constant_at (rolls.outs-Compare o (expr_numbered n a) (expr_numbered n b))
  constant-step (one.Both a b) = ap constant_at (rolls.outs-Both (expr_numbered n a) (expr_numbered n b))
  constant-step (one.Either a b) = ap constant_at (rolls.outs-Either (expr_numbered n a) (expr_numbered n b))
  constant-step (one.Choose c a b) = ap constant_at (rolls.outs-Choose (expr_numbered n c) (expr_numbered n a) (expr_numbered n b))
  constant-step (one.Assign a e) = ap constant_at (rolls.outs-Assign (place_numbered n a) (expr_numbered n e))
  constant-step (one.Change a o t e) = ap constant_at (rolls.outs-Change (place_numbered n a) o t (expr_numbered n e))
  constant-step (one.After a down) = ap constant_at (rolls.outs-After (place_numbered n a) down)
  constant-step (one.Call g args) = ap constant_at (rolls.outs-Call (expr_numbered n g) (map (expr_numbered n) args))
  constant-step (one.Intr i None) = ap constant_at (rolls.outs-Intr i None)
  constant-step (one.Intr i (Some a)) = ap constant_at (rolls.outs-Intr i (Some (expr_numbered n a)))
  constant-step (one.Seq a b) = ap constant_at (rolls.outs-Seq (expr_numbered n a) (expr_numbered n b))

  pub constant-numbered : (e : Expr) → constant_at (out-Expr (expr_numbered n e)) ≡ constant_at (out-Expr e)
  constant-numbered e = ap (λ (x : Expr). constant_at (out-Expr x)) (expr-at n e (out-Expr e) refl) ∙ constant-step (out-Expr e)

  null-step : (x : one.Expr-F Expr Place) → is_null_at (out-Expr (number_step n (mapped x))) ≡ is_null_at x
  null-step (one.Const k t) = ap is_null_at (rolls.outs-Const k t)
  null-step (one.Null t) = ap is_null_at (rolls.outs-Null (type_numbered n.structure t))
  null-step (one.FuncAddr i) = ap is_null_at (rolls.outs-FuncAddr (n.func i))
  null-step (one.Load a) = ap is_null_at (rolls.outs-Load (place_numbered n a))
  null-step (one.AddrOf a) = ap is_null_at (rolls.outs-AddrOf (place_numbered n a))
  null-step (one.Un o t a) = ap is_null_at (rolls.outs-Un o t (expr_numbered n a))
  null-step (one.Bin o t a b) = ap is_null_at (rolls.outs-Bin o t (expr_numbered n a) (expr_numbered n b))
  null-step (one.Conv t a) = ap is_null_at (rolls.outs-Conv t (expr_numbered n a))
  null-step (one.Qualify t a) = ap is_null_at (rolls.outs-Qualify (type_numbered n.structure t) (expr_numbered n a))
  null-step (one.Move a b back) = ap is_null_at (rolls.outs-Move (expr_numbered n a) (expr_numbered n b) back)
  null-step (one.Gap a b) = ap is_null_at (rolls.outs-Gap (expr_numbered n a) (expr_numbered n b))
  null-step (one.Compare o a b) = ap is_null_at (rolls.outs-Compare o (expr_numbered n a) (expr_numbered n b))
  null-step (one.Both a b) = ap is_null_at (rolls.outs-Both (expr_numbered n a) (expr_numbered n b))
  null-step (one.Either a b) = ap is_null_at (rolls.outs-Either (expr_numbered n a) (expr_numbered n b))
  null-step (one.Choose c a b) = ap is_null_at (rolls.outs-Choose (expr_numbered n c) (expr_numbered n a) (expr_numbered n b))
  null-step (one.Assign a e) = ap is_null_at (rolls.outs-Assign (place_numbered n a) (expr_numbered n e))
  null-step (one.Change a o t e) = ap is_null_at (rolls.outs-Change (place_numbered n a) o t (expr_numbered n e))
  null-step (one.After a down) = ap is_null_at (rolls.outs-After (place_numbered n a) down)
  null-step (one.Call g args) = ap is_null_at (rolls.outs-Call (expr_numbered n g) (map (expr_numbered n) args))
  null-step (one.Intr i None) = ap is_null_at (rolls.outs-Intr i None)
  null-step (one.Intr i (Some a)) = ap is_null_at (rolls.outs-Intr i (Some (expr_numbered n a)))
  null-step (one.Seq a b) = ap is_null_at (rolls.outs-Seq (expr_numbered n a) (expr_numbered n b))

  pub null-numbered : (e : Expr) → is_null_at (out-Expr (expr_numbered n e)) ≡ is_null_at (out-Expr e)
  null-numbered e = ap (λ (x : Expr). is_null_at (out-Expr x)) (expr-at n e (out-Expr e) refl) ∙ null-step (out-Expr e)
