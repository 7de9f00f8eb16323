-- What an expression and a place take the addresses of, by their form.
use Rattle.std.proofs.Common.{◌≡◌, ℕ, List, [], ◌++◌, Contains, Option, Some, ap, sym, ◌∙◌, subst}
use Rattle.std.specs.Prelude.{option_map, option_and_then}
use Rattle.std.proofs.lemmas.List.Elements.{Contains-append_left, Contains-append_right}
use Rattle.cc_state_reads.specs.CcPlaces.laws.ListLaws.{at_head}
use Rattle.cc_program.specs.declared.expr.Expr.{Expr, out-Expr, roll-Expr, roll-out-Expr, map-Expr, fold-roll-Expr}
use Rattle.cc_program.specs.declared.expr.Expr.TheOpen as one
use Rattle.cc_program.specs.declared.expr.Place.{Place, out-Place, roll-Place, roll-out-Place, map-Place, fold-roll-Place}
use Rattle.cc_program.specs.declared.func.Func.{Func}
use Rattle.cc_program.specs.declared.program.Program.{Program}
use Rattle.cc_state_reads.specs.CcStateFacts.declared.facts.Key.{Key}
use Rattle.cc_state_reads.specs.CcStateFacts.declared.facts.Key.TheVariants as key
use Rattle.cc_state_reads.proofs.CcStateKeys.PlaceTypes.{place_typed}
use Rattle.cc_state_reads.specs.CcStateKeys.Addressed.{InExpr, InPlace, taken_step, place_taken_step, own_step, expr_in, place_in, in_expr, in_place, taken_in, IsAddressed}
use Rattle.cc_state_reads.specs.CcStateKeys.Keys.{structure_of}
use Rattle.cc_state_reads.specs.CcStateKeys.Lists.{only}
use Rattle.cc_state_values_fit.specs.Fit.{AreAddressed}
use Rattle.cc_state_reads.specs.CcSyntax.Programs.{place_type}
use Rattle.cc_state_reads.specs.CcSyntax.Values.{PlaceType}

pub first_addressed : (p : Program) (xs ys : List Key) → AreAddressed p (xs ++ ys) → AreAddressed p xs
first_addressed p xs ys h k c = h k (Contains-append_left xs ys k c)

pub second_addressed : (p : Program) (xs ys : List Key) → AreAddressed p (xs ++ ys) → AreAddressed p ys
second_addressed p xs ys h k c = h k (Contains-append_right xs ys k c)

pub own_addressed : (p : Program) (own : Option Key) → AreAddressed p (only own) → (k : Key) → own ≡ Some k → IsAddressed p k
own_addressed p own h k e = h k (subst (λ (x : Option Key). Contains (only x) k) (sym e) (at_head k []))

module _ (p : Program) (id : ℕ) (f : Func) where
  taken_level : (x : one.Expr-F Expr Place) → taken_in p id f (roll-Expr x) ≡ taken_step (map-Expr Expr Place InExpr InPlace (in_expr p id f) (in_place p id f) x)
  unfolding in_expr in_place
  taken_level x = ap (λ (w : InExpr). w.taken) (fold-roll-Expr InExpr InPlace (expr_in p id f) (place_in p id f) x)

  place_taken_level : (x : one.Place-F Expr Place) → (in_place p id f (roll-Place x)).taken ≡ place_taken_step (map-Place Expr Place InExpr InPlace (in_expr p id f) (in_place p id f) x)
  unfolding in_expr in_place
  place_taken_level x = ap (λ (w : InPlace). w.taken) (fold-roll-Place InExpr InPlace (expr_in p id f) (place_in p id f) x)

  own_level : (x : one.Place-F Expr Place) → (in_place p id f (roll-Place x)).own ≡ own_step p id f (map-Place Expr Place InExpr InPlace (in_expr p id f) (in_place p id f) x)
  unfolding in_expr in_place
  own_level x = ap (λ (w : InPlace). w.own) (fold-roll-Place InExpr InPlace (expr_in p id f) (place_in p id f) x)

  pub taken_as : (e : Expr) (x : one.Expr-F Expr Place) → out-Expr e ≡ x → AreAddressed p (taken_in p id f e) → AreAddressed p (taken_step (map-Expr Expr Place InExpr InPlace (in_expr p id f) (in_place p id f) x))
  taken_as e x h k = subst (AreAddressed p) (ap (taken_in p id f) (sym (roll-out-Expr e) ∙ ap roll-Expr h) ∙ taken_level x) k

  pub place_taken_as : (a : Place) (x : one.Place-F Expr Place) → out-Place a ≡ x → AreAddressed p (in_place p id f a).taken → AreAddressed p (place_taken_step (map-Place Expr Place InExpr InPlace (in_expr p id f) (in_place p id f) x))
  place_taken_as a x h k = subst (AreAddressed p) (ap (λ (z : Place). (in_place p id f z).taken) (sym (roll-out-Place a) ∙ ap roll-Place h) ∙ place_taken_level x) k

  pub own_as : (a : Place) (x : one.Place-F Expr Place) → out-Place a ≡ x → (in_place p id f a).own ≡ own_step p id f (map-Place Expr Place InExpr InPlace (in_expr p id f) (in_place p id f) x)
  own_as a x h = ap (λ (z : Place). (in_place p id f z).own) (sym (roll-out-Place a) ∙ ap roll-Place h) ∙ own_level x

  -- the key that a member names by itself
  pub own_member : (a b : Place) (m : ℕ) (t : PlaceType) → out-Place a ≡ one.Member b m → place_type p f.locals b ≡ Some t → (in_place p id f a).own ≡ option_map (λ s. key.Member s m) (structure_of t)
  own_member a b m t h e = own_as a (one.Member b m) h ∙ ap (λ (x : Option PlaceType). option_map (λ s. key.Member s m) (option_and_then structure_of x)) (place_typed p id f b ∙ e)
