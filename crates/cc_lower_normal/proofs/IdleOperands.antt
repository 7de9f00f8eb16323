-- What is pure accesses no device.
use Rattle.std.proofs.Common.{◌≡◌, ◌∙◌, ◌&&◌, ◌||◌, ℕ, Bool, true, false, refl, ap, sym}
use Rattle.std.proofs.lemmas.Bool.{and_parts, or_from}
use Rattle.cc_accessed_operands.specs.Accessed.{PlaceAccess, of_place, accesses, place_access}
use Rattle.cc_accessed_operands.proofs.Accesses.{no, accesses_at, place_access_at, accesses-roll, place-access-roll}
use Rattle.cc_program.specs.declared.expr.Expr.{Expr, roll-Expr, map-Expr, fold-roll-Expr}
use Rattle.cc_program.specs.declared.expr.Expr.TheOpen as one
use Rattle.cc_program.specs.declared.expr.Place.{Place, roll-Place, map-Place, fold-roll-Place}
use Rattle.cc_program.specs.declared.func.Func.{Func}
use Rattle.cc_program.proofs.ExprInduction.{Parts, PlaceParts, by_expr}
use Rattle.cc_states.specs.CcSyntax.Effects.{Registers, Effects, PlaceEffects, is_soft, effect_step, place_effect_step, effects_of, place_effects_of}

module _ (d : ℕ) (f : Func) where
  abbrev effects_at : one.Expr-F Expr Place → Effects
  effects_at x = effect_step (map-Expr Expr Place Effects PlaceEffects (effects_of f) (place_effects_of f) x)

  abbrev pub place_effects_at : one.Place-F Expr Place → PlaceEffects
  place_effects_at x = place_effect_step f (map-Place Expr Place Effects PlaceEffects (effects_of f) (place_effects_of f) x)

  effects-roll : (x : one.Expr-F Expr Place) → effects_of f (roll-Expr x) ≡ effects_at x
  unfolding effects_of place_effects_of
  effects-roll x = fold-roll-Expr Effects PlaceEffects effect_step (place_effect_step f) x

  pub place-effects-roll : (x : one.Place-F Expr Place) → place_effects_of f (roll-Place x) ≡ place_effects_at x
  unfolding effects_of place_effects_of
  place-effects-roll x = fold-roll-Place Effects PlaceEffects effect_step (place_effect_step f) x

  record IdleBy (accessed : Bool) (effects : Effects) : Type 0 where
    pure : (later : Registers) → effects.pure later ≡ true → accessed ≡ false

  record PlaceIdleBy (accessed : PlaceAccess) (effects : PlaceEffects) : Type 0 where
    pure : (later : Registers) → effects.pure later ≡ true → accessed.inside ≡ false
    soft : (later : Registers) → is_soft effects.register later ≡ true → of_place accessed ≡ false

  abbrev Idle : Expr → Type 0
  Idle e = IdleBy (accesses d e) (effects_of f e)

  abbrev PlaceIdle : Place → Type 0
  PlaceIdle a = PlaceIdleBy (place_access d a) (place_effects_of f a)

  two_idle : (a b : Expr) → Idle a → Idle b → (later : Registers) → ((effects_of f a).pure later && (effects_of f b).pure later) ≡ true → accesses d a || accesses d b ≡ false
  two_idle a b h k later q =
      let p = and_parts ((effects_of f a).pure later) ((effects_of f b).pure later) q in or_from (accesses d a) (accesses d b) (h.pure later p.0) (k.pure later p.1)

  level : (x : one.Expr-F Expr Place) → Parts Idle PlaceIdle x → IdleBy (accesses_at d x) (effects_at x)
  level (one.Const n t) h = record { pure = λ later q. refl }
  level (one.Null t) h = record { pure = λ later q. refl }
  level (one.FuncAddr g) h = record { pure = λ later q. refl }
  level (one.Load a) h = record { pure = h.soft }
  level (one.AddrOf a) h = record { pure = h.pure }
  level (one.Un o t a) h = record { pure = h.pure }
  level (one.Bin o t a b) h = record { pure = two_idle a b h.0 h.1 }
  level (one.Conv t a) h = record { pure = h.pure }
  level (one.Qualify t a) h = record { pure = h.pure }
  level (one.Move a b back) h = record { pure = two_idle a b h.0 h.1 }
  level (one.Gap a b) h = record { pure = two_idle a b h.0 h.1 }
  level (one.Compare o a b) h = record { pure = two_idle a b h.0 h.1 }
  level (one.Both a b) h = record { pure = two_idle a b h.0 h.1 }
  level (one.Either a b) h = record { pure = two_idle a b h.0 h.1 }
  level (one.Choose c a b) h = record {
    pure = λ later q.
        let p = and_parts ((effects_of f c).pure later) ((effects_of f a).pure later && (effects_of f b).pure later) q in
        or_from (accesses d c) (accesses d a || accesses d b) (h.0.pure later p.0) (two_idle a b h.1 h.2 later p.1);
  }
  level (one.Assign a e) h = record { pure = λ later q. no q }
  level (one.Change a o t e) h = record { pure = λ later q. no q }
  level (one.After a down) h = record { pure = λ later q. no q }
  level (one.Call g args) h = record { pure = λ later q. no q }
  level (one.Intr i a) h = record { pure = λ later q. no q }
  level (one.Seq a b) h = record { pure = λ later q. no q }

  place_level : (x : one.Place-F Expr Place) → PlaceParts Idle PlaceIdle x → PlaceIdleBy (place_access_at d x) (place_effects_at x)
  place_level (one.Local r) h = record { pure = λ later q. refl; soft = λ later q. refl }
  place_level (one.Static i) h = record { pure = λ later q. refl; soft = λ later q. no q }
  place_level (one.Device e) h = record { pure = λ later q. refl; soft = λ later q. no q }
  place_level (one.Element a i) h = record {
    pure = λ later q.
        let p = and_parts ((place_effects_of f a).pure later) ((effects_of f i).pure later) q in or_from (place_access d a).inside (accesses d i) (h.0.pure later p.0) (h.1.pure later p.1);
    soft = λ later q. no q;
  }
  place_level (one.Member a m) h = record { pure = h.pure; soft = λ later q. no q }
  place_level (one.Deref e) h = record { pure = h.pure; soft = λ later q. no q }

  made : (x : one.Expr-F Expr Place) → Parts Idle PlaceIdle x → Idle (roll-Expr x)
  made x h = record { pure = λ later q. accesses-roll d x ∙ (level x h).pure later (ap (λ (z : Effects). z.pure later) (sym (effects-roll x)) ∙ q) }

  place_made : (x : one.Place-F Expr Place) → PlaceParts Idle PlaceIdle x → PlaceIdle (roll-Place x)
  place_made x h = record {
    pure = λ later q. ap (λ (z : PlaceAccess). z.inside) (place-access-roll d x) ∙ (place_level x h).pure later (ap (λ (z : PlaceEffects). z.pure later) (sym (place-effects-roll x)) ∙ q);
    soft = λ later q. ap of_place (place-access-roll d x) ∙ (place_level x h).soft later (ap (λ (z : PlaceEffects). is_soft z.register later) (sym (place-effects-roll x)) ∙ q);
  }

  idle : (e : Expr) → Idle e
  idle e = by_expr Idle PlaceIdle made place_made e

  pub pure_idle : (e : Expr) (later : Registers) → (effects_of f e).pure later ≡ true → accesses d e ≡ false
  pure_idle e later q = (idle e).pure later q
