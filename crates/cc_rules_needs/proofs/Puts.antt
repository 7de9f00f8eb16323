-- What is put into a slot is the least part that has what was there and some more.
use Rattle.std.proofs.Common.{◌≡◌, ℕ, Bool, true, false, true≢false, ◌||◌, ◌<◌, zero, suc, length, get_or, arith, List, [], ◌∷◌, Option, Some, None, slice_get, slice_set, refl, sym, ap, subst, ◌∙◌}
use Rattle.std.specs.Prelude.{bit_or}
use Rattle.std.proofs.lemmas.Option.{slice_get-get_or}
use Rattle.cc_lattice.specs.Orders.{IsLeastUpperBound}
use Rattle.cc_places.specs.declared.abs.Abs.{Abs}
use Rattle.cc_places.specs.declared.abs.Abs.TheVariants as abs
use Rattle.cc_places.specs.Abstract.{AreOfOneKind, IsBelowAbs}
use Rattle.cc_rules_needs.specs.Needs.{Slot, Whole, HandlerReads, HandlerWrites, ReadLevels, WriteLevels, Result, ByMain, ByHandler, Levels, From, Part, Mark, LevelSet, Flags, Values, get, IsBelowPart}
use Rattle.cc_rules_needs.specs.Raised.{MayBePut, MayGet, held_mark, held_levels, put_mark, put_levels, IsLeastPart, IsLeastIn, IsPut}
use Rattle.cc_state_facts.proofs.LevelBits.{or_left, or_right, or_least}
use Rattle.cc_state_facts.specs.declared.facts.Facts.{Facts}

abbrev is_there : {A : Type 0} → Option A → Bool
is_there None = false
is_there (Some x) = true

pub none_not_some : {A B : Type 0} (x : A) → None ≡ Some x → B
none_not_some x e = absurd (true≢false (sym (ap is_there e)))

abbrev or_else : {A : Type 0} → A → Option A → A
or_else d None = d
or_else d (Some x) = x

pub some_same : {A : Type 0} {x y : A} → Some x ≡ Some y → x ≡ y
some_same {x = x} e = ap (or_else x) e

pub some_below : {A : Type 0} (xs : List A) (k : ℕ) (x : A) → slice_get xs k ≡ Some x → k < length xs
some_below [] k x e = none_not_some x e
some_below (y ∷ ys) zero x e = omega arith
some_below (y ∷ ys) (suc k) x e = let l = some_below ys k x e in omega (arith, l)

module _ {I : Type 0} (below : I → I → Type 0) where
  -- ---- marks

  or_true : (a b : Bool) → b ≡ true → (a || b) ≡ true
  or_true true b h = refl
  or_true false b h = h

  true_or : (a b : Bool) → a ≡ true → (a || b) ≡ true
  true_or true b h = refl
  true_or false b h = absurd (true≢false (sym h))

  either : (a b : Bool) {A : Type 0} → (a || b) ≡ true → (a ≡ true → A) → (b ≡ true → A) → A
  either true b h f g = f refl
  either false b h f g = g h

  least_mark : (a b : Bool) → IsLeastPart below (Mark a) (Mark b) (Mark (a || b))
  least_mark a b = record { left = true_or a b; right = or_true a b; least = least }
    where
      least : (w : Part I) → IsBelowPart below (Mark a) w → IsBelowPart below (Mark b) w → IsBelowPart below (Mark (a || b)) w
      least (Mark c) f g = λ h. either a b h f g
      least (LevelSet x) f g = absurd f
      least (Flags off on) f g = absurd f
      least (Values y) f g = absurd f

  pub mark_put : (slot : Slot) (b : Bool) (f : Facts I) → MayGet slot (Mark b) f → IsPut below slot (Mark b) f (put_mark slot (held_mark (get slot f) || b) f)
  mark_put (HandlerReads k) b f h = record { part = Mark (held_mark (get (HandlerReads k) f) || b); least = least_mark (held_mark (get (HandlerReads k) f)) b; is = refl }
  mark_put (HandlerWrites k) b f h = record { part = Mark (held_mark (get (HandlerWrites k) f) || b); least = least_mark (held_mark (get (HandlerWrites k) f)) b; is = refl }
  mark_put (ByMain g) b f h = record { part = Mark (held_mark (get (ByMain g) f) || b); least = least_mark (held_mark (get (ByMain g) f)) b; is = refl }
  mark_put (ByHandler g) b f h = record { part = Mark (held_mark (get (ByHandler g) f) || b); least = least_mark (held_mark (get (ByHandler g) f)) b; is = refl }
  mark_put _ b f h = absurd h

  -- ---- levels

  least_levels : (x y : ℕ) → IsLeastPart below (LevelSet x) (LevelSet y) (LevelSet (bit_or x y))
  least_levels x y = record { left = or_left x y; right = or_right x y; least = least }
    where
      least : (w : Part I) → IsBelowPart below (LevelSet x) w → IsBelowPart below (LevelSet y) w → IsBelowPart below (LevelSet (bit_or x y)) w
      least (LevelSet z) f g = or_least x y z f g
      least (Mark c) f g = absurd f
      least (Flags off on) f g = absurd f
      least (Values y) f g = absurd f

  pub levels_put : (slot : Slot) (x : ℕ) (f : Facts I) → MayGet slot (LevelSet x) f → IsPut below slot (LevelSet x) f (put_levels slot (bit_or (held_levels (get slot f)) x) f)
  levels_put (ReadLevels k) x f h = record { part = LevelSet (bit_or (held_levels (get (ReadLevels k) f)) x); least = least_levels (held_levels (get (ReadLevels k) f)) x; is = refl }
  levels_put (WriteLevels k) x f h = record { part = LevelSet (bit_or (held_levels (get (WriteLevels k) f)) x); least = least_levels (held_levels (get (WriteLevels k) f)) x; is = refl }
  levels_put (Levels g) x f h = record { part = LevelSet (bit_or (held_levels (get (Levels g) f)) x); least = least_levels (held_levels (get (Levels g) f)) x; is = refl }
  levels_put (From g) x f h = record { part = LevelSet (bit_or (held_levels (get (From g) f)) x); least = least_levels (held_levels (get (From g) f)) x; is = refl }
  levels_put _ x f h = absurd h

  -- ---- values

  pub below_alike : (x y : Abs I) → IsBelowAbs below x y → AreOfOneKind x y
  below_alike (abs.Ints x) (abs.Ints y) h = tt
  below_alike (abs.Ints x) (abs.Addrs t) h = absurd h
  below_alike (abs.Addrs s) (abs.Ints y) h = absurd h
  below_alike (abs.Addrs s) (abs.Addrs t) h = tt

  least_values : (x y z : Abs I) → IsLeastUpperBound AreOfOneKind (IsBelowAbs below) x y z → IsLeastPart below (Values (Some x)) (Values (Some y)) (Values (Some z))
  least_values x y z j = record { left = j.left; right = j.right; least = least }
    where
      least : (w : Part I) → IsBelowPart below (Values (Some x)) w → IsBelowPart below (Values (Some y)) w → IsBelowPart below (Values (Some z)) w
      least (Values (Some u)) f g = j.least u (below_alike x u f) (below_alike y u g) f g
      least (Values None) f g = absurd f
      least (Mark c) f g = absurd f
      least (LevelSet l) f g = absurd f
      least (Flags off on) f g = absurd f

  pub whole_put : (f : Facts I) (k : ℕ) (y : Abs I) (new : List (Abs I)) → IsLeastIn below f.whole k y new → IsPut below (Whole k) (Values (Some y)) f (record f { whole = new })
  whole_put f k y new h = record {
    part = Values (Some h.joined);
    least = subst (λ (x : Option (Abs I)). IsLeastPart below (Values x) (Values (Some y)) (Values (Some h.joined))) (sym h.there) (least_values h.held y h.joined h.least);
    is = ap (λ (sets : List (Abs I)). record f { whole = sets }) h.is;
  }

  pub result_put : (f : Facts I) (g : ℕ) (y : Abs I) (new : List (Abs I)) → IsLeastIn below f.results g y new → IsPut below (Result g) (Values (Some y)) f (record f { results = new })
  result_put f g y new h = record {
    part = Values (Some h.joined);
    least = subst (λ (x : Option (Abs I)). IsLeastPart below (Values x) (Values (Some y)) (Values (Some h.joined))) (sym h.there) (least_values h.held y h.joined h.least);
    is = ap (λ (sets : List (Abs I)). record f { results = sets }) h.is;
  }

  pub mark_put_is : (slot : Slot) (more : Part I) (b : Bool) (f g : Facts I) → more ≡ Mark b → MayGet slot more f → g ≡ put_mark slot (held_mark (get slot f) || b) f → IsPut below slot more f g
  mark_put_is slot more b f g e m h =
      subst (λ (p : Part I). IsPut below slot p f g) (sym e) (subst (λ (x : Facts I). IsPut below slot (Mark b) f x) (sym h) (mark_put slot b f (subst (λ (p : Part I). MayGet slot p f) e m)))

  pub levels_put_is : (slot : Slot) (more : Part I) (x : ℕ) (f g : Facts I) → more ≡ LevelSet x → MayGet slot more f → g ≡ put_levels slot (bit_or (held_levels (get slot f)) x) f → IsPut below slot more f g
  levels_put_is slot more x f g e m h =
      subst (λ (p : Part I). IsPut below slot p f g) (sym e) (subst (λ (y : Facts I). IsPut below slot (LevelSet x) f y) (sym h) (levels_put slot x f (subst (λ (p : Part I). MayGet slot p f) e m)))

  pub whole_put_is : (slot : Slot) (f : Facts I) (k : ℕ) (y : Abs I) (new : List (Abs I)) → slot ≡ Whole k → IsLeastIn below f.whole k y new → IsPut below slot (Values (Some y)) f (record f { whole = new })
  whole_put_is slot f k y new e h = subst (λ (s : Slot). IsPut below s (Values (Some y)) f (record f { whole = new })) (sym e) (whole_put f k y new h)

  pub result_put_is : (slot : Slot) (f : Facts I) (k : ℕ) (y : Abs I) (new : List (Abs I)) → slot ≡ Result k → IsLeastIn below f.results k y new → IsPut below slot (Values (Some y)) f (record f { results = new })
  result_put_is slot f k y new e h = subst (λ (s : Slot). IsPut below s (Values (Some y)) f (record f { results = new })) (sym e) (result_put f k y new h)

  -- the set that is joined with some values is that of the place
  pub least_in : (sets all new : List (Abs I)) (n : ℕ) (y r joined : Abs I) → MayBePut sets n y → all ≡ sets → r ≡ get_or all n r → IsLeastUpperBound AreOfOneKind (IsBelowAbs below) r y joined → new ≡ slice_set sets n joined → IsLeastIn below sets n y new
  least_in sets all new n y r joined m e is least set =
      let there : slice_get sets n ≡ Some r = slice_get-get_or sets n r (some_below sets n m.0 m.1) ∙ ap Some (sym (subst (λ (xs : List (Abs I)). r ≡ get_or xs n r) e is)) in
      record { held = r; there = there; alike = subst (λ (x : Abs I). AreOfOneKind x y) (some_same (sym m.1 ∙ there)) m.2; joined = joined; least = least; is = set }
