-- A sort that keeps ties makes the list in order: two lists that ascend, and have the same elements among those that
-- tie with each, are one.
use Rattle.std.proofs.Common.{◌≡◌, ◌∙◌, ◌<◌, ◌≤◌, ℕ, suc, Bool, true, false, cond, List, [], ◌∷◌, length, get_or, nat_cmp, refl, ap, sym, true≢false, arith}
use Rattle.std.specs.Prelude.{not, ◌&&◌, ◌||◌, nat_eq, nat_lt, filter, map}
use Rattle.std.specs.Cmp.{IsStrictWeakOrder, IsTotalOrder}
use Rattle.std.specs.List.Sorted.{IsSortedBy, IsStableBy, ties}
use Rattle.std.specs.Ordering.{is_lt, ordering_then}
use Rattle.std.specs.declared.cmp.Ordering.{Ordering}
use Rattle.std.specs.declared.cmp.Ordering.TheVariants.{Less, Equal, Greater}
use Rattle.std.proofs.lemmas.Cmp.{nat_cmp_total, on_total, then_total}
use Rattle.std.proofs.lemmas.List.Sorted.{ranks_by, sorted_far}
use Rattle.cc_order.specs.Order.{inserted, in_order}
use Rattle.cc_order.specs.Places.{stands_before}
use Rattle.cc_order.specs.declared.place.Place.{Place}

both-left : (a b : Bool) → (not a && b) ≡ true → a ≡ false
both-left true b h = absurd (true≢false (sym h))
both-left false b h = refl

both-right : (a b : Bool) → (a && not b) ≡ true → b ≡ false
both-right true true h = absurd (true≢false (sym h))
both-right true false h = refl
both-right false b h = absurd (true≢false (sym h))

neither : (a b : Bool) → a ≡ false → b ≡ false → (not a && not b) ≡ true
neither a b h k = rw (h, k) refl

module _ {X : Type 0} (lt : X → X → Bool) (o : IsStrictWeakOrder lt) where
  -- none of the list is before x
  abbrev NoneBefore : X → List X → Type 0
  NoneBefore x [] = Unit {0}
  NoneBefore x (y ∷ ys) = (lt y x ≡ false) × NoneBefore x ys

  abbrev Ascends : List X → Type 0
  Ascends [] = Unit {0}
  Ascends (x ∷ xs) = NoneBefore x xs × Ascends xs

  not_before_itself : (x : X) → lt x x ≡ false
  not_before_itself x = by (lt x x) refl
    where
      by : (b : Bool) → lt x x ≡ b → lt x x ≡ false
      by true h = o.one_way x x h
      by false h = h

  -- ---- two lists that ascend

  -- where x is among those that tie with it in a list, it is not before what the list is not before
  tie_above : (x y : X) (zs r : List X) → NoneBefore y zs → filter (ties lt x) zs ≡ x ∷ r → lt x y ≡ false
  tie_above x y [] r n h = absurd (cc)
  tie_above x y (z ∷ zs) r n h = by (ties lt x z) refl (tie_above x y zs r n.1)
    where
      by : (b : Bool) → ties lt x z ≡ b → (filter (ties lt x) zs ≡ x ∷ r → lt x y ≡ false) → lt x y ≡ false
      by true t rest = o.chain x z y (both-left (lt x z) (not (lt z x)) t) n.0
      by false t rest = rest (sym (ap (λ b. cond b (z ∷ filter (ties lt x) zs) (filter (ties lt x) zs)) t) ∙ h)

  ties_itself : (x : X) → ties lt x x ≡ true
  ties_itself x = neither (lt x x) (lt x x) (not_before_itself x) (not_before_itself x)

  kept : (x z : X) (zs : List X) → ties lt x z ≡ true → filter (ties lt x) (z ∷ zs) ≡ z ∷ filter (ties lt x) zs
  kept x z zs t = ap (λ b. cond b (z ∷ filter (ties lt x) zs) (filter (ties lt x) zs)) t

  front_above : (x y : X) (xs ys : List X) → Ascends (y ∷ ys) → filter (ties lt x) (x ∷ xs) ≡ filter (ties lt x) (y ∷ ys) → lt x y ≡ false
  front_above x y xs ys up same =
      tie_above x y (y ∷ ys) (filter (ties lt x) xs) (not_before_itself y, up.0) (sym same ∙ kept x x xs (ties_itself x))

  -- the front ties, so it is the same, and so is the rest
  rest_same : (z x : X) (xs ys : List X) → filter (ties lt z) (x ∷ xs) ≡ filter (ties lt z) (x ∷ ys) → filter (ties lt z) xs ≡ filter (ties lt z) ys
  rest_same z x xs ys = by (ties lt z x)
    where
      by : (b : Bool) → cond b (x ∷ filter (ties lt z) xs) (filter (ties lt z) xs) ≡ cond b (x ∷ filter (ties lt z) ys) (filter (ties lt z) ys) → filter (ties lt z) xs ≡ filter (ties lt z) ys
      by true h = cc
      by false h = h

  same_front : (x y : X) (xs ys : List X) → Ascends (x ∷ xs) → Ascends (y ∷ ys) → ((z : X) → filter (ties lt z) (x ∷ xs) ≡ filter (ties lt z) (y ∷ ys)) → x ≡ y
  same_front x y xs ys up also same =
      let above = front_above x y xs ys also (same x) in
      let below = front_above y x ys xs up (sym (same y)) in
      let e : x ∷ filter (ties lt x) xs ≡ y ∷ filter (ties lt x) ys =
      sym (kept x x xs (ties_itself x)) ∙ (same x ∙ kept x y ys (neither (lt x y) (lt y x) above below)) in
      cc

  pub one_list : (xs ys : List X) → Ascends xs → Ascends ys → ((z : X) → filter (ties lt z) xs ≡ filter (ties lt z) ys) → xs ≡ ys
  one_list [] [] up also same = refl
  one_list [] (y ∷ ys) up also same =
      let e : [] ≡ y ∷ filter (ties lt y) ys = same y ∙ kept y y ys (ties_itself y) in absurd (cc)
  one_list (x ∷ xs) [] up also same =
      let e : [] ≡ x ∷ filter (ties lt x) xs = sym (same x) ∙ kept x x xs (ties_itself x) in absurd (cc)
  one_list (x ∷ xs) (y ∷ ys) up also same =
      let e = same_front x y xs ys up also same in
      let tails : xs ≡ ys = one_list xs ys up.1 also.1 (λ z. rest_same z x xs ys (same z ∙ ap (λ w. filter (ties lt z) (w ∷ ys)) (sym e))) in
      cc

  -- ---- what a sort makes ascends

  none_before : (x : X) (ys : List X) → ((j : ℕ) (d : X) → j < length ys → lt (get_or ys j d) x ≡ false) → NoneBefore x ys
  none_before x [] far = tt
  none_before x (y ∷ ys) far = (far 0 y (omega arith), none_before x ys (λ j d h. far (suc j) d (omega (arith, h))))

  ascends : (xs : List X) → ((i j : ℕ) (d : X) → i ≤ j → j < length xs → lt (get_or xs j d) (get_or xs i d) ≡ false) → Ascends xs
  ascends [] far = tt
  ascends (x ∷ xs) far = (
    none_before x xs (λ j d h. far 0 (suc j) d (omega arith) (omega (arith, h))),
    ascends xs (λ i j d h k. far (suc i) (suc j) d (omega (arith, h)) (omega (arith, k))),
  )

  -- ---- what insertion makes ascends, and keeps ties

  none_inserted : (z x : X) (ys : List X) → lt x z ≡ false → NoneBefore z ys → NoneBefore z (inserted lt x ys)
  none_inserted z x [] h n = (h, tt)
  none_inserted z x (y ∷ ys) h n = by (lt y x) (none_inserted z x ys h n.1)
    where
      by : (b : Bool) → NoneBefore z (inserted lt x ys) → NoneBefore z (cond b (y ∷ inserted lt x ys) (x ∷ y ∷ ys))
      by true rest = (n.0, rest)
      by false rest = (h, n)

  none_lower : (x y : X) (ys : List X) → lt y x ≡ false → NoneBefore y ys → NoneBefore x ys
  none_lower x y [] h n = tt
  none_lower x y (z ∷ zs) h n = (o.chain z y x n.0 h, none_lower x y zs h n.1)

  inserted_ascends : (x : X) (ys : List X) → Ascends ys → Ascends (inserted lt x ys)
  inserted_ascends x [] up = (tt, tt)
  inserted_ascends x (y ∷ ys) up = by (lt y x) refl (inserted_ascends x ys up.1)
    where
      by : (b : Bool) → lt y x ≡ b → Ascends (inserted lt x ys) → Ascends (cond b (y ∷ inserted lt x ys) (x ∷ y ∷ ys))
      by true h rest = (none_inserted y x ys (o.one_way y x h) up.0, rest)
      by false h rest = ((h, none_lower x y ys h up.0), up)

  in_order_ascends : (xs : List X) → Ascends (in_order lt xs)
  unfolding in_order
  in_order_ascends [] = tt
  in_order_ascends (x ∷ xs) = inserted_ascends x (in_order lt xs) (in_order_ascends xs)

  -- what stands in front of x for being before it does not tie with what x ties with
  passed : (z x y : X) (r : List X) → lt y x ≡ true → (b c : Bool) → ties lt z x ≡ b → ties lt z y ≡ c →
      cond c (y ∷ cond b (x ∷ r) r) (cond b (x ∷ r) r) ≡ cond b (x ∷ cond c (y ∷ r) r) (cond c (y ∷ r) r)
  passed z x y r h true true t u =
      absurd (true≢false (sym h ∙ o.chain y z x (both-right (not (lt z y)) (lt y z) u) (both-left (lt z x) (not (lt x z)) t)))
  passed z x y r h true false t u = refl
  passed z x y r h false true t u = refl
  passed z x y r h false false t u = refl

  inserted_ties : (z x : X) (ys : List X) → filter (ties lt z) (inserted lt x ys) ≡ filter (ties lt z) (x ∷ ys)
  inserted_ties z x [] = refl
  inserted_ties z x (y ∷ ys) = by (lt y x) refl (inserted_ties z x ys)
    where
      by : (b : Bool) → lt y x ≡ b → filter (ties lt z) (inserted lt x ys) ≡ filter (ties lt z) (x ∷ ys) → filter (ties lt z) (cond b (y ∷ inserted lt x ys) (x ∷ y ∷ ys)) ≡ filter (ties lt z) (x ∷ y ∷ ys)
      by true h rest =
          ap (λ r. cond (ties lt z y) (y ∷ r) r) rest
          ∙ passed z x y (filter (ties lt z) ys) h (ties lt z x) (ties lt z y) refl refl
      by false h rest = refl

  in_order_ties : (z : X) (xs : List X) → filter (ties lt z) (in_order lt xs) ≡ filter (ties lt z) xs
  unfolding in_order
  in_order_ties z [] = refl
  in_order_ties z (x ∷ xs) = inserted_ties z x (in_order lt xs) ∙ ap (λ r. cond (ties lt z x) (x ∷ r) r) (in_order_ties z xs)

  pub sorted_is : (xs ys : List X) → IsSortedBy lt ys → IsStableBy lt xs ys → ys ≡ in_order lt xs
  sorted_is xs ys up stable =
      one_list ys (in_order lt xs) (ascends ys (sorted_far lt o ys up)) (in_order_ascends xs) (λ z. stable z ∙ sym (in_order_ties z xs))

-- ---- one order by two tests, and of what a function gives

module _ {X : Type 0} (before also : X → X → Bool) (same : (x y : X) → before x y ≡ also x y) where
  inserted_agree : (x : X) (ys : List X) → inserted before x ys ≡ inserted also x ys
  inserted_agree x [] = refl
  inserted_agree x (y ∷ ys) =
      ap (λ b. cond b (y ∷ inserted before x ys) (x ∷ y ∷ ys)) (same y x)
      ∙ ap (λ r. cond (also y x) (y ∷ r) (x ∷ y ∷ ys)) (inserted_agree x ys)

  pub in_order_agree : (xs : List X) → in_order before xs ≡ in_order also xs
  unfolding in_order
  in_order_agree [] = refl
  in_order_agree (x ∷ xs) = inserted_agree x (in_order before xs) ∙ ap (inserted also x) (in_order_agree xs)

module _ {X Y : Type 0} (f : X → Y) (before : Y → Y → Bool) where
  abbrev pub before_by : X → X → Bool
  before_by x y = before (f x) (f y)

  map_inserted : (x : X) (ys : List X) → map f (inserted before_by x ys) ≡ inserted before (f x) (map f ys)
  map_inserted x [] = refl
  map_inserted x (y ∷ ys) = by (before (f y) (f x)) (map_inserted x ys)
    where
      by : (b : Bool) → map f (inserted before_by x ys) ≡ inserted before (f x) (map f ys) →
          map f (cond b (y ∷ inserted before_by x ys) (x ∷ y ∷ ys)) ≡ cond b (f y ∷ inserted before (f x) (map f ys)) (f x ∷ f y ∷ map f ys)
      by true rest = ap (λ r. f y ∷ r) rest
      by false rest = refl

  pub map_in_order : (xs : List X) → map f (in_order before_by xs) ≡ in_order before (map f xs)
  unfolding in_order
  map_in_order [] = refl
  map_in_order (x ∷ xs) = map_inserted x (in_order before_by xs) ∙ ap (inserted before (f x)) (map_in_order xs)

-- ---- places

abbrev pub pair_cmp : ℕ × ℕ → ℕ × ℕ → Ordering
pair_cmp x y = ordering_then (nat_cmp x.0 y.0) (nat_cmp x.1 y.1)

pair_total : IsTotalOrder pair_cmp
pair_total = then_total (on_total (λ (p : ℕ × ℕ). p.0) nat_cmp_total) (on_total (λ (p : ℕ × ℕ). p.1) nat_cmp_total)

abbrev pub key : Place → ℕ × ℕ
key p = (p.source, p.offset)

by_tests : (p q r s : Bool) → is_lt (ordering_then (cond p Less (cond q Equal Greater)) (cond r Less (cond s Equal Greater))) ≡ (p || (q && r))
by_tests true q r s = refl
by_tests false true true s = refl
by_tests false true false true = refl
by_tests false true false false = refl
by_tests false false r s = refl

abbrev pub lower : Place → Place → Bool
lower p q = is_lt (pair_cmp (key p) (key q))

earlier_is : (p q : Place) → lower p q ≡ stands_before p q
earlier_is p q = by_tests (nat_lt p.source q.source) (nat_eq p.source q.source) (nat_lt p.offset q.offset) (nat_eq p.offset q.offset)

pub places_sorted : (xs ys : List Place) → IsSortedBy lower ys → IsStableBy lower xs ys → ys ≡ in_order stands_before xs
places_sorted xs ys up stable = sorted_is lower (ranks_by pair_total key) xs ys up stable ∙ in_order_agree lower stands_before earlier_is xs
