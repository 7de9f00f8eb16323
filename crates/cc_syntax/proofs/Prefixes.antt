-- A structure's layout stands on those before it alone: over the structures up to a place, and over all,
-- a type that is complete over the first has one layout.
use Rattle.std.proofs.Common.{arith, ◌≡◌, ◌<◌, ◌+◌, ℕ, zero, suc, Bool, true, false, ◌&&◌, nat_lt, fold, List, [], ◌∷◌, ◌++◌, length, length-append, take, drop, refl, ap, sym, ◌∙◌, Option, Some, None, unwrap_or, slice_get}
use Rattle.std.proofs.lemmas.Option.{slice_get_within}
use Rattle.cc_program.specs.CcNum.declared.target.Target.{Target}
use Rattle.cc_program.specs.declared.types.CType.{CType}
use Rattle.cc_program.specs.declared.types.Shape.{Shape}
use Rattle.cc_program.specs.declared.types.Shape.TheOpen as shape
use Rattle.cc_program.specs.declared.types.Sig.{Sig}
use Rattle.cc_program.specs.declared.types.Structure.{Structure}
use Rattle.cc_program.proofs.TypeInduction.{TypeParts, by_type}
use Rattle.cc_syntax.specs.declared.sizes.Layout.{Layout}
use Rattle.cc_syntax.specs.Layout.{nothing, shape_layout, type_layout, next_layout, layouts, layout_of}
use Rattle.cc_syntax.specs.Types.{has_members, complete_shape, is_complete}
use Rattle.cc_syntax.proofs.TypeLayouts.{parts_layout, layout-roll, parts_complete, complete-roll}

pub both_true : (a b : Bool) → a && b ≡ true → (a ≡ true) × (b ≡ true)
both_true true b h = (refl, h)
both_true false b h = absurd (cc)

-- lists
pub get_taken : {A : Type 0} → (xs : List A) (i k : ℕ) (x : A) → slice_get (take i xs) k ≡ Some x → (k < i) × (slice_get xs k ≡ Some x)
get_taken [] zero k x h = absurd (cc)
get_taken [] (suc i) k x h = absurd (cc)
get_taken (y ∷ xs) zero k x h = absurd (cc)
get_taken (y ∷ xs) (suc i) zero x h = (omega arith, h)
get_taken (y ∷ xs) (suc i) (suc k) x h = let r = get_taken xs i k x h in (omega (arith, r.0), r.1)

some_same : {A : Type 0} → {x y : A} → Some x ≡ Some y → x ≡ y
some_same h = cc

get_before : {A : Type 0} → (xs ys : List A) (k : ℕ) → k < length xs → slice_get (xs ++ ys) k ≡ slice_get xs k
get_before [] ys k h = absurd (omega (arith, h))
get_before (x ∷ xs) ys zero h = refl
get_before (x ∷ xs) ys (suc k) h = get_before xs ys k (omega (arith, h))

get_at : {A : Type 0} → (xs : List A) (x : A) → slice_get (xs ++ x ∷ []) (length xs) ≡ Some x
get_at [] x = refl
get_at (y ∷ xs) x = get_at xs x

length_more : {A : Type 0} → (xs : List A) (x : A) → length (xs ++ x ∷ []) ≡ length xs + 1
length_more xs x = length-append xs (x ∷ [])

drop_at : {A : Type 0} → (xs : List A) (i : ℕ) (x : A) → slice_get xs i ≡ Some x → drop i xs ≡ x ∷ drop (suc i) xs
drop_at [] i x h = absurd (cc)
drop_at (y ∷ xs) zero x h = ap (λ z. z ∷ xs) (some_same h)
drop_at (y ∷ xs) (suc i) x h = drop_at xs i x h

pub take_length : {A : Type 0} → (xs : List A) (i : ℕ) (x : A) → slice_get xs i ≡ Some x → length (take i xs) ≡ i
take_length [] i x h = absurd (cc)
take_length (y ∷ xs) zero x h = refl
take_length (y ∷ xs) (suc i) x h = ap suc (take_length xs i x h)

module _ (target : Target) where
  -- the layouts of structures behind others
  abbrev from : List Layout → List Structure → List Layout
  from before structures = fold (λ before s. before ++ next_layout target before s ∷ []) before structures

  from_keeps : (before : List Layout) (structures : List Structure) (k : ℕ) → k < length before → slice_get (from before structures) k ≡ slice_get before k
  from_keeps before [] k h = refl
  from_keeps before (s ∷ structures) k h =
      let l = next_layout target before s in
      let m = length_more before l in
      from_keeps (before ++ l ∷ []) structures k (omega (arith, h, m)) ∙ get_before before (l ∷ []) k h

  from-length : (before : List Layout) (structures : List Structure) → length (from before structures) ≡ length before + length structures
  from-length before [] = omega arith
  from-length before (s ∷ structures) =
      let l = next_layout target before s in
      let m = length_more before l in
      let r = from-length (before ++ l ∷ []) structures in
      omega (arith, m, r)

  from-split : (before : List Layout) (structures : List Structure) (i : ℕ) → from before structures ≡ from (from before (take i structures)) (drop i structures)
  from-split before [] zero = refl
  from-split before [] (suc i) = refl
  from-split before (s ∷ structures) zero = refl
  from-split before (s ∷ structures) (suc i) = from-split (before ++ next_layout target before s ∷ []) structures i

  pub layouts-length : (structures : List Structure) → length (layouts target structures) ≡ length structures
  unfolding layouts
  layouts-length structures = let r = from-length [] structures in omega (arith, r)

  pub layouts-at : (structures : List Structure) (i : ℕ) (s : Structure) → slice_get structures i ≡ Some s →
      slice_get (layouts target structures) i ≡ Some (next_layout target (layouts target (take i structures)) s)
  unfolding layouts
  layouts-at structures i s h =
      let before = from [] (take i structures) in
      let n : length before ≡ i = from-length [] (take i structures) ∙ omega (arith, take_length structures i s h) in
      let l = next_layout target before s in
      let m = length_more before l in
      ap (λ ls. slice_get ls i) (from-split [] structures i ∙ ap (from before) (drop_at structures i s h))
      ∙ from_keeps (before ++ l ∷ []) (drop (suc i) structures) i (omega (arith, m, n))
      ∙ ap (slice_get (before ++ l ∷ [])) (sym n) ∙ get_at before l

  layouts-taken : (structures : List Structure) (i k : ℕ) (s : Structure) → slice_get (take i structures) k ≡ Some s →
      slice_get (layouts target (take i structures)) k ≡ slice_get (layouts target structures) k
  unfolding layouts
  layouts-taken structures i k s h =
      let n = from-length [] (take i structures) in
      let m = slice_get_within (take i structures) k s h in
      sym (ap (λ ls. slice_get ls k) (from-split [] structures i) ∙ from_keeps (from [] (take i structures)) (drop i structures) k (omega (arith, n, m)))

  -- a type that is complete over some structures has one layout wherever these have theirs
  module _ (structures : List Structure) (ls ms : List Layout) (agree : (k : ℕ) (s : Structure) → slice_get structures k ≡ Some s → slice_get ls k ≡ slice_get ms k) where
    abbrev Same : CType → Type 0
    Same t = is_complete structures t ≡ true → type_layout target ls t ≡ type_layout target ms t

    looked_up : (k : ℕ) (o : Option Structure) → slice_get structures k ≡ o → has_members o ≡ true → unwrap_or (slice_get ls k) nothing ≡ unwrap_or (slice_get ms k) nothing
    looked_up k None e h = absurd (cc)
    looked_up k (Some s) e h = ap (λ l. unwrap_or l nothing) (agree k s e)

    shape-same : (x : shape.Shape-F Shape CType Sig) → TypeParts Same (λ s. Unit {0}) x → complete_shape structures (parts_complete structures x) ≡ true →
        shape_layout target ls (parts_layout target ls x) ≡ shape_layout target ms (parts_layout target ms x)
    shape-same shape.Void h c = refl
    shape-same (shape.Int t) h c = refl
    shape-same (shape.Pointer t) h c = refl
    shape-same (shape.Array t n) h c = let e = h (both_true (nat_lt 0 n) (is_complete structures t) c).1 in rw e refl
    shape-same (shape.Struct k) h c = looked_up k (slice_get structures k) refl c
    shape-same (shape.Func s) h c = refl

    pub type-same : (t : CType) → is_complete structures t ≡ true → type_layout target ls t ≡ type_layout target ms t
    type-same = by_type Same (λ s. Unit {0})
        (λ constant volatile x h c. layout-roll target ls constant volatile x ∙ shape-same x h (sym (complete-roll structures constant volatile x) ∙ c) ∙ sym (layout-roll target ms constant volatile x))
        (λ x h. tt)

  pub layout-taken : (structures : List Structure) (i : ℕ) (t : CType) → is_complete (take i structures) t ≡ true → layout_of t (take i structures) target ≡ layout_of t structures target
  layout-taken structures i t h = type-same (take i structures) (layouts target (take i structures)) (layouts target structures) (layouts-taken structures i) t h

-- a type that is complete over the first structures is complete over all
module _ (structures : List Structure) (i : ℕ) where
  abbrev Stays : CType → Type 0
  Stays t = is_complete (take i structures) t ≡ true → is_complete structures t ≡ true

  named_stays : (k : ℕ) (o : Option Structure) → slice_get (take i structures) k ≡ o → has_members o ≡ true → has_members (slice_get structures k) ≡ true
  named_stays k None e h = absurd (cc)
  named_stays k (Some s) e h = ap has_members (get_taken structures i k s e).1 ∙ h

  shape-stays : (x : shape.Shape-F Shape CType Sig) → TypeParts Stays (λ s. Unit {0}) x → complete_shape (take i structures) (parts_complete (take i structures) x) ≡ true →
      complete_shape structures (parts_complete structures x) ≡ true
  shape-stays shape.Void h c = c
  shape-stays (shape.Int t) h c = refl
  shape-stays (shape.Pointer t) h c = refl
  shape-stays (shape.Array t n) h c = let b = both_true (nat_lt 0 n) (is_complete (take i structures) t) c in rw (b.0, h b.1) refl
  shape-stays (shape.Struct k) h c = named_stays k (slice_get (take i structures) k) refl c
  shape-stays (shape.Func s) h c = c

  pub complete-taken : (t : CType) → is_complete (take i structures) t ≡ true → is_complete structures t ≡ true
  complete-taken = by_type Stays (λ s. Unit {0})
      (λ constant volatile x h c. complete-roll structures constant volatile x ∙ shape-stays x h (sym (complete-roll (take i structures) constant volatile x) ∙ c))
      (λ x h. tt)
