-- A part of what a fold gives is a fold of its own: where f of a level's value is the level of f of its
-- parts' values, f of the value of an expression or a place is what those levels give of it.
use Rattle.std.proofs.Common.{◌≡◌, ap, sym, ◌∙◌, refl, List, [], ◌∷◌, map, Some, None}
use Rattle.cc_program.specs.declared.expr.Expr.{Expr, roll-Expr, fold-Expr, map-Expr, fold-roll-Expr}
use Rattle.cc_program.specs.declared.expr.Expr.TheOpen as one
use Rattle.cc_program.specs.declared.expr.Place.{Place, roll-Place, fold-Place, map-Place, fold-roll-Place}
use Rattle.cc_program.proofs.Each.{Each}
use Rattle.cc_program.proofs.ExprInduction.{Parts, PlaceParts, by_expr, by_place}

module _ {V W A B : Type 0} (step : one.Expr-F V W → V) (place_step : one.Place-F V W → W)
    (part_step : one.Expr-F A B → A) (place_part_step : one.Place-F A B → B) (f : V → A) (g : W → B) where
  abbrev Fused : Expr → Type 0
  Fused e = f (fold-Expr V W step place_step e) ≡ fold-Expr A B part_step place_part_step e

  abbrev PlaceFused : Place → Type 0
  PlaceFused p = g (fold-Place V W step place_step p) ≡ fold-Place A B part_step place_part_step p

  abbrev valued : one.Expr-F Expr Place → one.Expr-F V W
  valued x = map-Expr Expr Place V W (fold-Expr V W step place_step) (fold-Place V W step place_step) x

  abbrev place_valued : one.Place-F Expr Place → one.Place-F V W
  place_valued x = map-Place Expr Place V W (fold-Expr V W step place_step) (fold-Place V W step place_step) x

  abbrev part_valued : one.Expr-F Expr Place → one.Expr-F A B
  part_valued x = map-Expr Expr Place A B (fold-Expr A B part_step place_part_step) (fold-Place A B part_step place_part_step) x

  abbrev place_part_valued : one.Place-F Expr Place → one.Place-F A B
  place_part_valued x = map-Place Expr Place A B (fold-Expr A B part_step place_part_step) (fold-Place A B part_step place_part_step) x

  args_fused : (args : List Expr) → Each Fused args →
      map f (map (fold-Expr V W step place_step) args) ≡ map (fold-Expr A B part_step place_part_step) args
  args_fused [] h = refl
  args_fused (a ∷ args) h = rw (h.0, args_fused args h.1) refl

  parts_fused : (x : one.Expr-F Expr Place) → Parts Fused PlaceFused x → map-Expr V W A B f g (valued x) ≡ part_valued x
  parts_fused (one.Const n t) h = refl
  parts_fused (one.Null t) h = refl
  parts_fused (one.FuncAddr i) h = refl
  parts_fused (one.Load p) h = rw h refl
  parts_fused (one.AddrOf p) h = rw h refl
  parts_fused (one.Un op t a) h = rw h refl
  parts_fused (one.Bin op t a b) h = rw (h.0, h.1) refl
  parts_fused (one.Conv t a) h = rw h refl
  parts_fused (one.Qualify t a) h = rw h refl
  parts_fused (one.Move a b back) h = rw (h.0, h.1) refl
  parts_fused (one.Gap a b) h = rw (h.0, h.1) refl
  parts_fused (one.Compare op a b) h = rw (h.0, h.1) refl
  parts_fused (one.Both a b) h = rw (h.0, h.1) refl
  parts_fused (one.Either a b) h = rw (h.0, h.1) refl
  parts_fused (one.Choose a b d) h = rw (h.0, h.1, h.2) refl
  parts_fused (one.Assign p a) h = rw (h.0, h.1) refl
  parts_fused (one.Change p op t a) h = rw (h.0, h.1) refl
  parts_fused (one.After p down) h = rw h refl
  parts_fused (one.Call callee args) h = rw (h.0, args_fused args h.1) refl
  parts_fused (one.Intr i None) h = refl
  parts_fused (one.Intr i (Some a)) h = rw h refl
  parts_fused (one.Seq a b) h = rw (h.0, h.1) refl

  place_parts_fused : (x : one.Place-F Expr Place) → PlaceParts Fused PlaceFused x → map-Place V W A B f g (place_valued x) ≡ place_part_valued x
  place_parts_fused (one.Local r) h = refl
  place_parts_fused (one.Static i) h = refl
  place_parts_fused (one.Device d) h = refl
  place_parts_fused (one.Element p e) h = rw (h.0, h.1) refl
  place_parts_fused (one.Member p m) h = rw h refl
  place_parts_fused (one.Deref e) h = rw h refl

  module _ (part_of : (x : one.Expr-F V W) → f (step x) ≡ part_step (map-Expr V W A B f g x))
      (place_part_of : (x : one.Place-F V W) → g (place_step x) ≡ place_part_step (map-Place V W A B f g x)) where
    fused_level : (x : one.Expr-F Expr Place) → Parts Fused PlaceFused x → Fused (roll-Expr x)
    fused_level x h =
        ap f (fold-roll-Expr V W step place_step x) ∙
        part_of (valued x) ∙
        ap part_step (parts_fused x h) ∙
        sym (fold-roll-Expr A B part_step place_part_step x)

    fused_place_level : (x : one.Place-F Expr Place) → PlaceParts Fused PlaceFused x → PlaceFused (roll-Place x)
    fused_place_level x h =
        ap g (fold-roll-Place V W step place_step x) ∙
        place_part_of (place_valued x) ∙
        ap place_part_step (place_parts_fused x h) ∙
        sym (fold-roll-Place A B part_step place_part_step x)

    pub fused : (e : Expr) → Fused e
    fused = by_expr Fused PlaceFused fused_level fused_place_level

    pub place_fused : (p : Place) → PlaceFused p
    place_fused = by_place Fused PlaceFused fused_level fused_place_level
