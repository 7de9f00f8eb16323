-- A pure expression is worked quietly, in p and in q, and has the same value as long as the registers that it reads stay.
use Rattle.std.proofs.Common.{◌≡◌, ◌<◌, ℕ, Bool, true, false, ◌&&◌, Option, Some, None, refl, ap, sym, ◌∙◌, subst, if◌then◌else◌, arith}
use Rattle.std.proofs.lemmas.Bool.Decides.{nat_tests}
use Rattle.std.specs.Prelude.{nat_lt}
use Rattle.cc_program.specs.declared.expr.Expr.{Expr, roll-Expr, map-Expr, fold-roll-Expr}
use Rattle.cc_program.specs.declared.expr.Expr.TheOpen as one
use Rattle.cc_program.specs.declared.expr.Place.{Place, Local, roll-Place, map-Place, fold-roll-Place}
use Rattle.cc_program.specs.declared.expr.Place.TheVariants.{rolls-Local}
use Rattle.cc_program.proofs.ExprInduction.{Parts, PlaceParts, by_expr, by_place}
use Rattle.cc_states.specs.CcSyntax.Effects.{Registers}
use Rattle.cc_states.specs.CcSyntax.Registers.{is_register}
use Rattle.cc_states.specs.CcEval.Context.{Context}
use Rattle.cc_states.specs.CcEval.Eval.{Meaning, Designation, meaning, designation}
use Rattle.cc_states.proofs.CcEval.Links.{level, place_level}
use Rattle.cc_lower_expressions_follows.specs.Trees.{Setting, context_p, context_q}
use Rattle.cc_lower_expressions_follows.specs.Relation.{Alike}
use Rattle.cc_lower_expressions_follows.specs.Old.{old_step, place_old_step, is_old, is_old_place}
use Rattle.cc_lower_expressions_follows.proofs.Opened.{at_level, at_place_level}
use Rattle.cc_lower_expressions_follows.proofs.Pure.{PureExpr, PurePlace}
use Rattle.cc_lower_expressions_follows.proofs.PureLevels.{pure_const, pure_null, pure_function, pure_un, pure_bin, pure_conv, pure_qualify, pure_move, pure_gap, pure_compare, pure_both, pure_either}
use Rattle.cc_lower_expressions_follows.proofs.PurePlaces.{PlaceFacts, At, PlaceAt, pure_load, pure_address, pure_choose, pure_local, pure_static, pure_device, pure_element, pure_member, pure_deref}

both_true : (a b : Bool) → (a && b) ≡ true → (a ≡ true) × (b ≡ true)
both_true true b h = (refl, h)
both_true false b h = absurd (cc)

pub old_level : (base : ℕ) (x : one.Expr-F Expr Place) → is_old base (roll-Expr x) ≡ old_step (map-Expr Expr Place Bool Bool (is_old base) (is_old_place base) x)
unfolding is_old is_old_place
old_level base x = fold-roll-Expr Bool Bool old_step (place_old_step base) x

pub old_place_level : (base : ℕ) (x : one.Place-F Expr Place) → is_old_place base (roll-Place x) ≡ place_old_step base (map-Place Expr Place Bool Bool (is_old base) (is_old_place base) x)
unfolding is_old is_old_place
old_place_level base x = fold-roll-Place Bool Bool old_step (place_old_step base) x

module _ (w : Setting) (alike : Alike w) (below : (i : ℕ) → is_register w.from i ≡ true → i < w.base) where
  abbrev cp : Context
  cp = context_p w

  abbrev cq : Context
  cq = context_q w

  abbrev P : Expr → Type 0
  P e = At w alike e

  abbrev Q : Place → Type 0
  Q a = PlaceAt w alike a

  abbrev old_of : one.Expr-F Expr Place → Bool
  old_of x = old_step (map-Expr Expr Place Bool Bool (is_old w.base) (is_old_place w.base) x)

  pure_level : (x : one.Expr-F Expr Place) → Parts P Q x → old_of x ≡ true → (later : Registers) → (at_level cp x).effects.pure later ≡ true → PureExpr w (at_level cp x) (at_level cq x) later
  pure_level (one.Const n t) h o = pure_const w alike n t
  pure_level (one.Null t) h o = pure_null w alike t
  pure_level (one.FuncAddr f) h o = pure_function w alike f
  pure_level (one.Load a) h o = pure_load w alike a (h o)
  pure_level (one.AddrOf a) h o = pure_address w alike a (h o)
  pure_level (one.Un k t a) h o = pure_un w alike k t a (h o)
  pure_level (one.Bin k t a b) h o = let p = both_true (is_old w.base a) (is_old w.base b) o in pure_bin w alike k t a b (h.0 p.0) (h.1 p.1)
  pure_level (one.Conv t a) h o = pure_conv w alike t a (h o)
  pure_level (one.Qualify t a) h o = pure_qualify w alike t a (h o)
  pure_level (one.Move a b back) h o = let p = both_true (is_old w.base a) (is_old w.base b) o in pure_move w alike back a b (h.0 p.0) (h.1 p.1)
  pure_level (one.Gap a b) h o = let p = both_true (is_old w.base a) (is_old w.base b) o in pure_gap w alike a b (h.0 p.0) (h.1 p.1)
  pure_level (one.Compare k a b) h o = let p = both_true (is_old w.base a) (is_old w.base b) o in pure_compare w alike k a b (h.0 p.0) (h.1 p.1)
  pure_level (one.Both a b) h o = let p = both_true (is_old w.base a) (is_old w.base b) o in pure_both w alike a b (h.0 p.0) (h.1 p.1)
  pure_level (one.Either a b) h o = let p = both_true (is_old w.base a) (is_old w.base b) o in pure_either w alike a b (h.0 p.0) (h.1 p.1)
  pure_level (one.Choose c a b) h o =
      let p = both_true (is_old w.base c) (is_old w.base a && is_old w.base b) o in
      let q = both_true (is_old w.base a) (is_old w.base b) p.1 in
      pure_choose w alike c a b (h.0 p.0) (h.1 q.0) (h.2 q.1)
  pure_level (one.Assign a e) h o = λ later f. absurd (cc)
  pure_level (one.Change a k t e) h o = λ later f. absurd (cc)
  pure_level (one.After a down) h o = λ later f. absurd (cc)
  pure_level (one.Call f args) h o = λ later f. absurd (cc)
  pure_level (one.Intr i a) h o = λ later f. absurd (cc)
  pure_level (one.Seq a b) h o = λ later f. absurd (cc)

  made : (x : one.Expr-F Expr Place) → Parts P Q x → P (roll-Expr x)
  made x h o later f =
      subst (λ (m : Meaning). PureExpr w m (meaning cq (roll-Expr x)) later) (sym (level cp x))
      (subst (λ (m : Meaning). PureExpr w (at_level cp x) m later) (sym (level cq x))
      (pure_level x h (sym (old_level w.base x) ∙ o) later (sym (ap (λ (m : Meaning). m.effects.pure later) (level cp x)) ∙ f)))

  abbrev old_place_of : one.Place-F Expr Place → Bool
  old_place_of x = place_old_step w.base (map-Place Expr Place Bool Bool (is_old w.base) (is_old_place w.base) x)

  -- what a place of the level is, once the levels are rolled
  facts : (x : one.Place-F Expr Place) → ((i : ℕ) → (at_place_level cp x).effects.register ≡ Some i → (roll-Place x ≡ Local i) × (i < w.base) × (is_register w.from i ≡ true)) →
      ((later : Registers) → (at_place_level cp x).effects.pure later ≡ true → PurePlace w (at_place_level cp x) (at_place_level cq x) later) → PlaceFacts w alike (roll-Place x)
  facts x local pure = record {
    local = λ i e. local i (sym (ap (λ (d : Designation). d.effects.register) (place_level cp x)) ∙ e);
    pure = λ later f.
        subst (λ (d : Designation). PurePlace w d (designation cq (roll-Place x)) later) (sym (place_level cp x))
        (subst (λ (d : Designation). PurePlace w (at_place_level cp x) d later) (sym (place_level cq x)) (pure later (sym (ap (λ (d : Designation). d.effects.pure later) (place_level cp x)) ∙ f)));
  }

  none_local : {A : Type 0} (i : ℕ) (o : Option ℕ) → o ≡ None → o ≡ Some i → A
  none_local i o e f = absurd (no (sym e ∙ f))
    where
      no : None ≡ Some i → ⊥
      no g = absurd (cc)

  register_local : (r i : ℕ) (b : Bool) → is_register w.from r ≡ b → (if b then Some r else None) ≡ Some i → (roll-Place (one.Local r) ≡ Local i) × (i < w.base) × (is_register w.from i ≡ true)
  register_local r i true e f = let k : r ≡ i = cc in (rolls-Local r ∙ ap Local k, below i (ap (is_register w.from) (sym k) ∙ e), ap (is_register w.from) (sym k) ∙ e)
  register_local r i false e f = absurd (cc)

  less : (r n : ℕ) → nat_lt r n ≡ true → r < n
  less r n e = grind (arith, nat_tests)

  place_made : (x : one.Place-F Expr Place) → PlaceParts P Q x → Q (roll-Place x)
  place_made (one.Local r) h o = facts (one.Local r) (λ i e. register_local r i (is_register w.from r) refl e) (pure_local w alike r (less r w.base (sym (old_place_level w.base (one.Local r)) ∙ o)))
  place_made (one.Static i) h o = facts (one.Static i) (λ j e. absurd (cc)) (pure_static w alike i)
  place_made (one.Device d) h o = facts (one.Device d) (λ j e. absurd (cc)) (pure_device w alike d)
  place_made (one.Element a i) h o =
      let p = both_true (is_old_place w.base a) (is_old w.base i) (sym (old_place_level w.base (one.Element a i)) ∙ o) in
      facts (one.Element a i) (λ j e. absurd (cc)) (pure_element w alike a i (h.0 p.0) (h.1 p.1))
  place_made (one.Member a m) h o = facts (one.Member a m) (λ j e. absurd (cc)) (pure_member w alike a m (h (sym (old_place_level w.base (one.Member a m)) ∙ o)))
  place_made (one.Deref e) h o = facts (one.Deref e) (λ j f. absurd (cc)) (pure_deref w alike e (h (sym (old_place_level w.base (one.Deref e)) ∙ o)))

  pub pure_expr : (e : Expr) → P e
  pure_expr = by_expr P Q made place_made

  pub pure_place : (a : Place) → Q a
  pure_place = by_place P Q made place_made
