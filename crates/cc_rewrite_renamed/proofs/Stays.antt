-- What names only static objects that have their own numbers stays as it is; and numbers given one after the other are numbers given at once.
use Rattle.std.proofs.Common.{◌≡◌, ◌∙◌, ◌∷◌, ℕ, Bool, true, List, [], map, Some, None, refl, ap, sym}
use Rattle.std.proofs.lemmas.Bool.{and_parts}
use Rattle.cc_program.specs.declared.expr.Expr.{Expr, roll-Expr, map-Expr, fold-roll-Expr}
use Rattle.cc_program.specs.declared.expr.Expr.TheOpen as one
use Rattle.cc_program.specs.declared.expr.Place.{Place, roll-Place, map-Place, fold-roll-Place}
use Rattle.cc_program.proofs.Each.{Each}
use Rattle.cc_program.proofs.ExprInduction.{Parts, PlaceParts, by_expr}
use Rattle.cc_program.proofs.FoldFusion.{fused}
use Rattle.cc_rewrite_renamed.specs.Names.{all_of, expr_step, place_step, names_in_expr, names_in_place}
use Rattle.cc_rewrite_renamed.specs.Objects.{place_with, place_step as renamed_step, expr_renamed, place_renamed}

-- ---- one level

module _ (r : ℕ → ℕ) where
  level : (x : one.Expr-F Expr Place) → expr_renamed r (roll-Expr x) ≡ roll-Expr (map-Expr Expr Place Expr Place (expr_renamed r) (place_renamed r) x)
  unfolding expr_renamed place_renamed
  level x = fold-roll-Expr Expr Place roll-Expr (renamed_step r) x

  place_level : (x : one.Place-F Expr Place) → place_renamed r (roll-Place x) ≡ renamed_step r (map-Place Expr Place Expr Place (expr_renamed r) (place_renamed r) x)
  unfolding expr_renamed place_renamed
  place_level x = fold-roll-Place Expr Place roll-Expr (renamed_step r) x

module _ (test : ℕ → Bool) where
  named_level : (x : one.Expr-F Expr Place) → names_in_expr test (roll-Expr x) ≡ expr_step test (map-Expr Expr Place Bool Bool (names_in_expr test) (names_in_place test) x)
  unfolding names_in_expr names_in_place
  named_level x = fold-roll-Expr Bool Bool (expr_step test) (place_step test) x

  named_place_level : (x : one.Place-F Expr Place) → names_in_place test (roll-Place x) ≡ place_step test (map-Place Expr Place Bool Bool (names_in_expr test) (names_in_place test) x)
  unfolding names_in_expr names_in_place
  named_place_level x = fold-roll-Place Bool Bool (expr_step test) (place_step test) x

-- ---- one after the other

module _ (f g : ℕ → ℕ) where
  abbrev whole : ℕ → ℕ
  whole i = f (g i)

  twice : (x : one.Place-F Expr Place) → place_with f (map-Place Expr Place Expr Place (expr_renamed f) (place_renamed f) (place_with g x)) ≡ place_with whole (map-Place Expr Place Expr Place (expr_renamed f) (place_renamed f) x)
  twice (one.Local n) = refl
  twice (one.Static n) = refl
  twice (one.Device d) = refl
  twice (one.Element a e) = refl
  twice (one.Member a m) = refl
  twice (one.Deref e) = refl

  renamed_twice : (e : Expr) → expr_renamed f (expr_renamed g e) ≡ expr_renamed whole e
  unfolding expr_renamed place_renamed
  renamed_twice e =
      fused roll-Expr (renamed_step g) roll-Expr (renamed_step whole) (expr_renamed f) (place_renamed f) (level f) (λ x. place_level f (place_with g x) ∙ ap roll-Place (twice x)) e

-- ---- their own numbers

module _ (test : ℕ → Bool) (r : ℕ → ℕ) (own : (i : ℕ) → test i ≡ true → r i ≡ i) where
  abbrev At : Expr → Type 0
  At e = names_in_expr test e ≡ true → expr_renamed r e ≡ e

  abbrev PlaceAt : Place → Type 0
  PlaceAt a = names_in_place test a ≡ true → place_renamed r a ≡ a

  abbrev Names : one.Expr-F Expr Place → Type 0
  Names x = expr_step test (map-Expr Expr Place Bool Bool (names_in_expr test) (names_in_place test) x) ≡ true

  abbrev PlaceNames : one.Place-F Expr Place → Type 0
  PlaceNames x = place_step test (map-Place Expr Place Bool Bool (names_in_expr test) (names_in_place test) x) ≡ true

  args_stay : (args : List Expr) → Each At args → all_of (map (names_in_expr test) args) ≡ true → map (expr_renamed r) args ≡ args
  args_stay [] h k = refl
  args_stay (e ∷ args) h k = let c = and_parts _ _ k in λ i. h.0 c.0 i ∷ args_stay args h.1 c.1 i

  abbrev renamed_parts : one.Expr-F Expr Place → one.Expr-F Expr Place
  renamed_parts x = map-Expr Expr Place Expr Place (expr_renamed r) (place_renamed r) x

  parts_stay : (x : one.Expr-F Expr Place) → Parts At PlaceAt x → Names x → renamed_parts x ≡ x
  parts_stay (one.Const n t) h k = refl
  parts_stay (one.Null t) h k = refl
  parts_stay (one.FuncAddr f) h k = refl
  parts_stay (one.Load a) h k = λ i. one.Load (h k i)
  parts_stay (one.AddrOf a) h k = λ i. one.AddrOf (h k i)
  parts_stay (one.Un o t a) h k = λ i. one.Un o t (h k i)
  parts_stay (one.Bin o t a b) h k = let c = and_parts _ _ k in λ i. one.Bin o t (h.0 c.0 i) (h.1 c.1 i)
  parts_stay (one.Conv t a) h k = λ i. one.Conv t (h k i)
  parts_stay (one.Qualify t a) h k = λ i. one.Qualify t (h k i)
  parts_stay (one.Move a b down) h k = let c = and_parts _ _ k in λ i. one.Move (h.0 c.0 i) (h.1 c.1 i) down
  parts_stay (one.Gap a b) h k = let c = and_parts _ _ k in λ i. one.Gap (h.0 c.0 i) (h.1 c.1 i)
  parts_stay (one.Compare o a b) h k = let c = and_parts _ _ k in λ i. one.Compare o (h.0 c.0 i) (h.1 c.1 i)
  parts_stay (one.Both a b) h k = let c = and_parts _ _ k in λ i. one.Both (h.0 c.0 i) (h.1 c.1 i)
  parts_stay (one.Either a b) h k = let c = and_parts _ _ k in λ i. one.Either (h.0 c.0 i) (h.1 c.1 i)
  parts_stay (one.Choose e a b) h k = let c = and_parts _ _ k in let d = and_parts _ _ c.1 in λ i. one.Choose (h.0 c.0 i) (h.1 d.0 i) (h.2 d.1 i)
  parts_stay (one.Assign a e) h k = let c = and_parts _ _ k in λ i. one.Assign (h.0 c.0 i) (h.1 c.1 i)
  parts_stay (one.Change a o t e) h k = let c = and_parts _ _ k in λ i. one.Change (h.0 c.0 i) o t (h.1 c.1 i)
  parts_stay (one.After a down) h k = λ i. one.After (h k i) down
  parts_stay (one.Call f args) h k = let c = and_parts _ _ k in λ i. one.Call (h.0 c.0 i) (args_stay args h.1 c.1 i)
  parts_stay (one.Intr n None) h k = refl
  parts_stay (one.Intr n (Some a)) h k = λ i. one.Intr n (Some (h k i))
  parts_stay (one.Seq a b) h k = let c = and_parts _ _ k in λ i. one.Seq (h.0 c.0 i) (h.1 c.1 i)

  expr_made : (x : one.Expr-F Expr Place) → Parts At PlaceAt x → At (roll-Expr x)
  expr_made x h k = level r x ∙ ap roll-Expr (parts_stay x h (sym (named_level test x) ∙ k))

  place_stays : (x : one.Place-F Expr Place) → PlaceParts At PlaceAt x → PlaceNames x → place_with r (map-Place Expr Place Expr Place (expr_renamed r) (place_renamed r) x) ≡ x
  place_stays (one.Local n) h k = refl
  place_stays (one.Static n) h k = λ i. one.Static (own n k i)
  place_stays (one.Device d) h k = refl
  place_stays (one.Element a e) h k = let c = and_parts _ _ k in λ i. one.Element (h.0 c.0 i) (h.1 c.1 i)
  place_stays (one.Member a m) h k = λ i. one.Member (h k i) m
  place_stays (one.Deref e) h k = λ i. one.Deref (h k i)

  place_made : (x : one.Place-F Expr Place) → PlaceParts At PlaceAt x → PlaceAt (roll-Place x)
  place_made x h k = place_level r x ∙ ap roll-Place (place_stays x h (sym (named_place_level test x) ∙ k))

  pub expr_stays : (e : Expr) → At e
  expr_stays e = by_expr At PlaceAt expr_made place_made e

-- ---- there and back

pub expr_back : (test : ℕ → Bool) (f g : ℕ → ℕ) → ((i : ℕ) → test i ≡ true → f (g i) ≡ i) → (e : Expr) → names_in_expr test e ≡ true → expr_renamed f (expr_renamed g e) ≡ e
expr_back test f g h e k = renamed_twice f g e ∙ expr_stays test (λ i. f (g i)) h e k
