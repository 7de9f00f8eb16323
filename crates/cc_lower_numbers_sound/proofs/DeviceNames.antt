-- The names of devices in another order.
use Rattle.std.proofs.Common.{◌≡◌, ◌≢◌, ◌∙◌, ◌⊎◌, inl, inr, ℕ, zero, suc, true, false, List, [], ◌∷◌, ◌++◌, Option, Some, None, slice_get, refl, ap, sym, subst}
use Rattle.std.specs.Prelude.{nat_eq, not, option_to_list}
use Rattle.std.specs.Str.{bytes_eq}
use Rattle.std.proofs.lemmas.Bool.{true≢false, and_parts, or_cases, or_right, or_from, or_parts, not-true, eq-eqb, false_from_ne_true}
use Rattle.std.proofs.lemmas.Option.{same_Some}
use Rattle.cc_given_names.specs.Spaces.{AreAmong}
use Rattle.cc_given_names.proofs.Among.{same-text, itself, among-first, first-apart, rest-distinct, distinct-cons}
use Rattle.cc_names.specs.Names.{is_among}
use Rattle.cc_program.specs.declared.object.Device.{Device}
use Rattle.cc_syntax.specs.Names.{with_name, device_names}
use Rattle.cc_program.specs.CcWords.Names.{are_distinct}
use Rattle.cc_lower_numbers.specs.Order.{arranged}
use Rattle.cc_lower_numbers_sound.proofs.NameLists.{two-apart}
use Rattle.cc_lower_numbers_sound.proofs.Orders.{has, once}

among-behind : (o : Option (List ℕ)) (x : List ℕ) (xs : List (List ℕ)) → is_among x xs ≡ true → is_among x (with_name o xs) ≡ true
among-behind None x xs h = h
among-behind (Some y) x xs h = or_right (bytes_eq x y) (is_among x xs) h

distinct-behind : (o : Option (List ℕ)) (xs : List (List ℕ)) → are_distinct (with_name o xs) ≡ true → are_distinct xs ≡ true
distinct-behind None xs h = h
distinct-behind (Some y) xs h = rest-distinct y xs h

named-at : (ds : List Device) (i : ℕ) (d : Device) (x : List ℕ) → slice_get ds i ≡ Some d → d.name ≡ Some x → is_among x (device_names ds) ≡ true
named-at [] i d x h e = absurd (cc)
named-at (y ∷ ds) zero d x h e =
    let k : y.name ≡ Some x = ap (λ (z : Device). z.name) (same_Some y d h) ∙ e in ap (λ (o : Option (List ℕ)). is_among x (with_name o (device_names ds))) k ∙ among-first x (device_names ds)
named-at (y ∷ ds) (suc i) d x h e = among-behind y.name x (device_names ds) (named-at ds i d x h e)

first-name : (y : Device) (ds : List Device) (x : List ℕ) → y.name ≡ Some x → are_distinct (device_names (y ∷ ds)) ≡ true → is_among x (device_names ds) ≡ false
first-name y ds x e h = first-apart x (device_names ds) (ap (λ (o : Option (List ℕ)). are_distinct (with_name o (device_names ds))) (sym e) ∙ h)

names-differ : (ds : List Device) (i j : ℕ) (d e : Device) (x y : List ℕ) → are_distinct (device_names ds) ≡ true → i ≢ j → slice_get ds i ≡ Some d → slice_get ds j ≡ Some e → d.name ≡ Some x → e.name ≡ Some y → bytes_eq x y ≡ false
names-differ [] i j d e x y h n a b k l = absurd (cc)
names-differ (z ∷ ds) zero zero d e x y h n a b k l = absurd (n refl)
names-differ (z ∷ ds) zero (suc j) d e x y h n a b k l =
    two-apart x y (device_names ds) (first-name z ds x (ap (λ (w : Device). w.name) (same_Some z d a) ∙ k) h) (named-at ds j e y b l)
names-differ (z ∷ ds) (suc i) zero d e x y h n a b k l =
    let q = two-apart y x (device_names ds) (first-name z ds y (ap (λ (w : Device). w.name) (same_Some z e b) ∙ l) h) (named-at ds i d x a k) in
    false_from_ne_true (bytes_eq x y) (λ t. true≢false (sym (subst (λ (w : List ℕ). bytes_eq y w ≡ true) (sym (same-text x y t)) (itself y)) ∙ q))
names-differ (z ∷ ds) (suc i) (suc j) d e x y h n a b k l = names-differ ds i j d e x y (distinct-behind z.name (device_names ds) h) (λ q. n (ap suc q)) a b k l

-- ---- in an order

module _ (all : List Device) where
  abbrev in_order : List ℕ → List (List ℕ)
  in_order js = device_names (arranged all js)

  abbrev in_front : Option Device → List ℕ → List (List ℕ)
  in_front o js = device_names (option_to_list o ++ arranged all js)

  either_among : (j : ℕ) (js : List ℕ) (x : List ℕ) → (is_among x (in_order js) ≡ true → is_among x (device_names all) ≡ true) → (d : Device) → slice_get all j ≡ Some d →
      (o : Option (List ℕ)) → d.name ≡ o → is_among x (with_name o (in_order js)) ≡ true → is_among x (device_names all) ≡ true
  either_among j js x rest d e None k i = rest i
  either_among j js x rest d e (Some y) k i = by (or_cases (bytes_eq x y) (is_among x (in_order js)) i)
    where
      by : (bytes_eq x y ≡ true) ⊎ (is_among x (in_order js) ≡ true) → is_among x (device_names all) ≡ true
      by (inl t) = ap (λ (z : List ℕ). is_among z (device_names all)) (same-text x y t) ∙ named-at all j d y e k
      by (inr m) = rest m

  one_among : (j : ℕ) (js : List ℕ) (x : List ℕ) → (is_among x (in_order js) ≡ true → is_among x (device_names all) ≡ true) → (o : Option Device) → slice_get all j ≡ o → is_among x (in_front o js) ≡ true → is_among x (device_names all) ≡ true
  one_among j js x rest None e i = rest i
  one_among j js x rest (Some d) e i = either_among j js x rest d e d.name refl i

  pub order-among : (js : List ℕ) → AreAmong (in_order js) (device_names all)
  order-among [] x h = absurd (true≢false (sym h))
  order-among (j ∷ js) x h = one_among j js x (order-among js x) (slice_get all j) refl h

  module _ (distinct : are_distinct (device_names all) ≡ true) where
    name-absent : (i : ℕ) (d : Device) (x : List ℕ) → slice_get all i ≡ Some d → d.name ≡ Some x → (js : List ℕ) → has i js ≡ false → is_among x (in_order js) ≡ false
    name-absent i d x a k [] h = refl
    name-absent i d x a k (j ∷ js) h = let q = or_parts (nat_eq i j) (has i js) h in by (name-absent i d x a k js q.1) (λ e. true≢false (sym (eq-eqb i j e) ∙ q.0)) (slice_get all j) refl
      where
        by_name : is_among x (in_order js) ≡ false → i ≢ j → (e : Device) → slice_get all j ≡ Some e → (o : Option (List ℕ)) → e.name ≡ o → is_among x (with_name o (in_order js)) ≡ false
        by_name rest other e b None l = rest
        by_name rest other e b (Some y) l = or_from (bytes_eq x y) (is_among x (in_order js)) (names-differ all i j d e x y distinct other a b k l) rest

        by : is_among x (in_order js) ≡ false → i ≢ j → (o : Option Device) → slice_get all j ≡ o → is_among x (in_front o js) ≡ false
        by rest other None e = rest
        by rest other (Some e) b = by_name rest other e b e.name refl

    pub order-distinct : (js : List ℕ) → once js ≡ true → are_distinct (in_order js) ≡ true
    order-distinct [] h = refl
    order-distinct (j ∷ js) h = let p = and_parts (not (has j js)) (once js) h in by (not-true (has j js) p.0) (order-distinct js p.1) (slice_get all j) refl
      where
        by_name : has j js ≡ false → are_distinct (in_order js) ≡ true → (d : Device) → slice_get all j ≡ Some d → (o : Option (List ℕ)) → d.name ≡ o → are_distinct (with_name o (in_order js)) ≡ true
        by_name gone rest d e None k = rest
        by_name gone rest d e (Some y) k = distinct-cons y (in_order js) (name-absent j d y e k js gone) rest

        by : has j js ≡ false → are_distinct (in_order js) ≡ true → (o : Option Device) → slice_get all j ≡ o → are_distinct (in_front o js) ≡ true
        by gone rest None e = rest
        by gone rest (Some d) e = by_name gone rest d e d.name refl
