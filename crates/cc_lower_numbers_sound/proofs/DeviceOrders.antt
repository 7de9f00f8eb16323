-- Devices stand in the order of the text where each device without a name stands in it.
use Rattle.std.proofs.Common.{◌≡◌, ◌∙◌, ◌<◌, ◌+◌, ◌⊎◌, inl, inr, ℕ, zero, suc, Bool, true, false, List, [], ◌∷◌, ◌++◌, length, map, Some, None, slice_get, refl, ap, sym, subst, arith, length-append, append_assoc, if◌then◌else◌}
use Rattle.std.specs.Prelude.{nat_eq, nat_lt, nat_le, not, ◌&&◌, ◌||◌, filter, fold, option_to_list}
use Rattle.std.specs.List.{list_any, list_all}
use Rattle.std.proofs.lemmas.Bool.{true≢false, and_parts, and_from, or_parts, or_from, or_left, or_right, not-true, not_from_false, eq-eqb, ne_eqb, lt-ltb, ltb-true, eqb-true, le-ltb, le-leb, cases_Bool}
use Rattle.std.proofs.lemmas.Grind.{flat_map-append}
use Rattle.std.proofs.lemmas.List.{append-nil}
use Rattle.std.proofs.lemmas.List.Elements.{filter-append}
use Rattle.std.proofs.lemmas.List.Sums.{fold-append}
use Rattle.std.proofs.lemmas.Option.{same_Some, slice_get_within}
use Rattle.cc_names.specs.Names.{numbers_from}
use Rattle.cc_program.specs.declared.object.Device.{Device}
use Rattle.cc_program.specs.declared.program.Program.{Program}
use Rattle.cc_syntax.specs.Lists.{come_first, is_count}
use Rattle.cc_syntax.specs.Normal.{has_name, count_named, devices_in_text, next_of, devices_in_order}
use Rattle.cc_syntax.specs.Sound.{IsTypedProgram}
use Rattle.cc_lower_numbers.specs.Numbered.{named_from, device_order, numbered}
use Rattle.cc_lower_numbers.specs.Order.{with_one, firsts, is_within, ordered, place_in, arranged}
use Rattle.cc_lower_numbers_sound.specs.Devices.{AreDevicesInText}
use Rattle.cc_lower_numbers_sound.proofs.Devices.{none_from}
use Rattle.cc_lower_numbers_sound.proofs.DeviceTexts.{text_same, text_below}
use Rattle.cc_lower_numbers_sound.proofs.Orders.{has, once, has-append, has-fold, has-filter, ordered-has, ordered-once, ordered-within, AreThere, found, arranged-length, arranged-all}

-- ---- lists

passed-all : {A : Type 0} (test : A → Bool) (xs : List A) → list_all test xs ≡ true → filter test xs ≡ xs
passed-all test [] h = refl
passed-all test (x ∷ xs) h =
    let p = and_parts (test x) (list_all test xs) h in
    (λ i. if p.0 i then x ∷ passed-all test xs p.1 i else passed-all test xs p.1 i)

passed-none : {A : Type 0} (test : A → Bool) (xs : List A) → list_all (λ x. not (test x)) xs ≡ true → filter test xs ≡ []
passed-none test [] h = refl
passed-none test (x ∷ xs) h =
    let p = and_parts (not (test x)) (list_all (λ x. not (test x)) xs) h in
    (λ i. if not-true (test x) p.0 i then x ∷ passed-none test xs p.1 i else passed-none test xs p.1 i)

none-first : {A : Type 0} (test : A → Bool) (xs : List A) → list_any test xs ≡ false → come_first test xs ≡ true
none-first test [] h = refl
none-first test (x ∷ xs) h =
    let p = or_parts (test x) (list_any test xs) h in ap (λ (b : Bool). if b then come_first test xs else not (list_any test xs)) p.0 ∙ not_from_false (list_any test xs) p.1

all-first : {A : Type 0} (test : A → Bool) (xs ys : List A) → list_all test xs ≡ true → list_any test ys ≡ false → come_first test (xs ++ ys) ≡ true
all-first test [] ys h k = none-first test ys k
all-first test (x ∷ xs) ys h k =
    let p = and_parts (test x) (list_all test xs) h in ap (λ (b : Bool). if b then come_first test (xs ++ ys) else not (list_any test (xs ++ ys))) p.0 ∙ all-first test xs ys p.1 k

once-apart : (k : ℕ) (xs ys : List ℕ) → once (xs ++ ys) ≡ true → has k ys ≡ true → has k xs ≡ false
once-apart k [] ys h i = refl
once-apart k (x ∷ xs) ys h i =
    let p = and_parts (not (has x (xs ++ ys))) (once (xs ++ ys)) h in
    or_from (nat_eq k x) (has k xs) (ne_eqb k x (other (not-true (has x (xs ++ ys)) p.0))) (once-apart k xs ys p.1 i)
  where
    other : has x (xs ++ ys) ≡ false → k ≡ x → ⊥
    other f e = true≢false (sym (has-append x xs ys ∙ or_right (has x xs) (has x ys) (ap (λ (n : ℕ). has n ys) (sym e) ∙ i)) ∙ f)

-- ---- the first of each number of a text, behind others

record Extends (front whole : List ℕ) : Type 0 where
  rest : List ℕ
  is : whole ≡ front ++ rest

fold-extends : (front xs : List ℕ) → Extends front (fold with_one front xs)
fold-extends front [] = record { rest = []; is = sym (append-nil front) }
fold-extends front (x ∷ xs) = by (fold-extends front xs) (fold-extends (front ++ x ∷ []) xs) (has x front)
  where
    by : Extends front (fold with_one front xs) → Extends (front ++ x ∷ []) (fold with_one (front ++ x ∷ []) xs) → (b : Bool) → Extends front (fold with_one (if b then front else front ++ x ∷ []) xs)
    by old new true = old
    by old new false = record { rest = x ∷ new.rest; is = new.is ∙ append_assoc front (x ∷ []) new.rest }

fold-idle : (front xs : List ℕ) → ((k : ℕ) → has k xs ≡ true → has k front ≡ true) → fold with_one front xs ≡ front
fold-idle front [] w = refl
fold-idle front (x ∷ xs) w =
    ap (λ (b : Bool). fold with_one (if b then front else front ++ x ∷ []) xs) (w x (or_left (nat_eq x x) (has x xs) (eq-eqb x x refl))) ∙ fold-idle front xs (λ k h. w k (or_right (nat_eq k x) (has k xs) h))

place-front : (n : ℕ) (front rest : List ℕ) (d : ℕ) → has d front ≡ true → place_in n (front ++ rest) d < n + length front
place-front n [] rest d h = absurd (true≢false (sym h))
place-front n (j ∷ js) rest d h = by (place-front (suc n) js rest d) (nat_eq d j) h
  where
    by : (has d js ≡ true → place_in (suc n) (js ++ rest) d < suc n + length js) → (b : Bool) → (b || has d js) ≡ true → (if b then n else place_in (suc n) (js ++ rest) d) < n + suc (length js)
    by further true t = omega arith
    by further false t = let l = further t in omega (arith, l)

place-next : (n : ℕ) (front rest : List ℕ) (d : ℕ) → has d front ≡ false → place_in n (front ++ d ∷ rest) d ≡ n + length front
place-next n [] rest d h = ap (λ (b : Bool). if b then n else place_in (suc n) rest d) (eq-eqb d d refl) ∙ omega arith
place-next n (j ∷ js) rest d h =
    let p = or_parts (nat_eq d j) (has d js) h in
    ap (λ (b : Bool). if b then n else place_in (suc n) (js ++ d ∷ rest) d) p.0 ∙ place-next (suc n) js rest d p.1 ∙ omega arith

-- numbers of the text are new ones in their order, where it is gone on with behind others
abbrev AreNext : (order rest ds front : List ℕ) → Type 0
AreNext order rest ds front = order ≡ fold with_one front ds ++ rest → next_of (length front) (map (place_in 0 order) ds) ≡ Some (length (fold with_one front ds))

next-is : (front text rest order : List ℕ) → order ≡ fold with_one front text ++ rest → next_of (length front) (map (place_in 0 order) text) ≡ Some (length (fold with_one front text))
next-is front [] rest order e = refl
next-is front (d ∷ ds) rest order e = by (λ a. next-is front ds rest order a) (λ a. next-is (front ++ d ∷ []) ds rest order a) (cases_Bool (has d front))
  where
    old : has d front ≡ true → AreNext order rest ds front → next_of (length front) (map (place_in 0 order) (d ∷ ds)) ≡ Some (length (fold with_one front (d ∷ ds)))
    old h further =
        let same : with_one front d ≡ front = ap (λ (b : Bool). if b then front else front ++ d ∷ []) h in
        let now : order ≡ fold with_one front ds ++ rest = e ∙ ap (λ (l : List ℕ). fold with_one l ds ++ rest) same in
        let x = fold-extends front ds in
        let whole : order ≡ front ++ (x.rest ++ rest) = now ∙ ap (λ (l : List ℕ). l ++ rest) x.is ∙ append_assoc front x.rest rest in
        let l : place_in 0 (front ++ (x.rest ++ rest)) d < 0 + length front = place-front 0 front (x.rest ++ rest) d h in
        let below : place_in 0 order d < length front = subst (λ (o : List ℕ). place_in 0 o d < length front) (sym whole) (omega (arith, l)) in
        ap (λ (b : Bool). if b then next_of (length front) (map (place_in 0 order) ds) else (if nat_eq (place_in 0 order d) (length front) then next_of (length front + 1) (map (place_in 0 order) ds) else None)) (lt-ltb (place_in 0 order d) (length front) below)
        ∙ further now
        ∙ ap (λ (l : List ℕ). Some (length (fold with_one l ds))) (sym same)

    new : has d front ≡ false → AreNext order rest ds (front ++ d ∷ []) → next_of (length front) (map (place_in 0 order) (d ∷ ds)) ≡ Some (length (fold with_one front (d ∷ ds)))
    new h further =
        let same : with_one front d ≡ front ++ d ∷ [] = ap (λ (b : Bool). if b then front else front ++ d ∷ []) h in
        let now : order ≡ fold with_one (front ++ d ∷ []) ds ++ rest = e ∙ ap (λ (l : List ℕ). fold with_one l ds ++ rest) same in
        let x = fold-extends (front ++ d ∷ []) ds in
        let whole : order ≡ front ++ d ∷ (x.rest ++ rest) = now ∙ ap (λ (l : List ℕ). l ++ rest) x.is ∙ append_assoc (front ++ d ∷ []) x.rest rest ∙ append_assoc front (d ∷ []) (x.rest ++ rest) in
        let l : place_in 0 (front ++ d ∷ (x.rest ++ rest)) d ≡ 0 + length front = place-next 0 front (x.rest ++ rest) d h in
        let is : place_in 0 order d ≡ length front = ap (λ (o : List ℕ). place_in 0 o d) whole ∙ l ∙ omega arith in
        let size : length (front ++ d ∷ []) ≡ length front + 1 = length-append front (d ∷ []) in
        ap (λ (b : Bool). if b then next_of (length front) (map (place_in 0 order) ds) else (if nat_eq (place_in 0 order d) (length front) then next_of (length front + 1) (map (place_in 0 order) ds) else None)) (le-ltb (place_in 0 order d) (length front) (omega (arith, is)))
        ∙ ap (λ (b : Bool). if b then next_of (length front + 1) (map (place_in 0 order) ds) else None) (eq-eqb (place_in 0 order d) (length front) is)
        ∙ ap (λ (n : ℕ). next_of n (map (place_in 0 order) ds)) (sym size)
        ∙ further now
        ∙ ap (λ (l : List ℕ). Some (length (fold with_one l ds))) (sym same)

    by : AreNext order rest ds front → AreNext order rest ds (front ++ d ∷ []) → (has d front ≡ true) ⊎ (has d front ≡ false) → next_of (length front) (map (place_in 0 order) (d ∷ ds)) ≡ Some (length (fold with_one front (d ∷ ds)))
    by a b (inl h) = old h a
    by a b (inr h) = new h b

-- ---- the devices that have names

none-below : (a : ℕ) (ds : List Device) (k : ℕ) → k < a → has k (named_from a ds) ≡ false
none-below a [] k l = refl
none-below a (x ∷ ds) k l = by (none-below (suc a) ds k (omega arith)) (has_name x)
  where
    by : has k (named_from (suc a) ds) ≡ false → (b : Bool) → has k (if b then a ∷ named_from (suc a) ds else named_from (suc a) ds) ≡ false
    by further true = or_from (nat_eq k a) (has k (named_from (suc a) ds)) (ne_eqb k a (λ e. omega (arith, e))) further
    by further false = further

named-at : (a : ℕ) (ds : List Device) (i : ℕ) (d : Device) (k : ℕ) → k ≡ a + i → slice_get ds i ≡ Some d → has k (named_from a ds) ≡ has_name d
named-at a [] i d k e s = absurd (cc)
named-at a (x ∷ ds) zero d k e s = by (has_name x) refl
  where
    here : k ≡ a
    here = omega arith

    by : (b : Bool) → has_name x ≡ b → has k (if b then a ∷ named_from (suc a) ds else named_from (suc a) ds) ≡ has_name d
    by true h = or_left (nat_eq k a) (has k (named_from (suc a) ds)) (eq-eqb k a here) ∙ sym h ∙ ap has_name (same_Some x d s)
    by false h = none-below (suc a) ds k (omega arith) ∙ sym h ∙ ap has_name (same_Some x d s)
named-at a (x ∷ ds) (suc i) d k e s = by (named-at (suc a) ds i d k (omega arith) s) (has_name x)
  where
    by : has k (named_from (suc a) ds) ≡ has_name d → (b : Bool) → has k (if b then a ∷ named_from (suc a) ds else named_from (suc a) ds) ≡ has_name d
    by further true = ap (λ (b : Bool). b || has k (named_from (suc a) ds)) (ne_eqb k a (λ q. omega (arith, q))) ∙ further
    by further false = further

-- ---- an order of devices, by the devices of a text

module _ (ds : List Device) (text : List ℕ) (text_inside : list_all (λ (d : ℕ). nat_lt d (length ds)) text ≡ true) where
  abbrev inside : ℕ → Bool
  inside k = is_within 0 (length ds) k

  abbrev order : List ℕ
  order = ordered 0 (length ds) (named_from 0 ds ++ text)

  abbrev numbers : List ℕ
  numbers = filter (is_within 0 (length ds)) (numbers_from 0 (length ds))

  -- those that have names, and then those of the text
  abbrev named : List ℕ
  named = fold with_one [] (filter (is_within 0 (length ds)) (named_from 0 ds))

  abbrev all : List ℕ
  all = fold with_one named text

  abbrev arranged_devices : List Device
  arranged_devices = arranged ds (ordered 0 (length ds) (named_from 0 ds ++ text))

  is-inside : (k : ℕ) → k < length ds → inside k ≡ true
  is-inside k l = and_from (nat_le 0 k) (nat_lt k (length ds)) (le-leb 0 k (omega arith)) (lt-ltb k (length ds) l)

  all-inside : (xs : List ℕ) → list_all (λ (d : ℕ). nat_lt d (length ds)) xs ≡ true → list_all inside xs ≡ true
  all-inside [] h = refl
  all-inside (x ∷ xs) h =
      let p = and_parts (nat_lt x (length ds)) (list_all (λ (d : ℕ). nat_lt d (length ds)) xs) h in and_from (inside x) (list_all inside xs) (is-inside x (ltb-true x (length ds) p.0)) (all-inside xs p.1)

  split : order ≡ fold with_one all numbers
  unfolding firsts
  split =
      ap (fold with_one []) (filter-append inside (named_from 0 ds ++ text) (numbers_from 0 (length ds)))
      ∙ fold-append with_one [] (filter inside (named_from 0 ds ++ text)) numbers
      ∙ ap (λ (l : List ℕ). fold with_one (fold with_one [] l) numbers) (filter-append inside (named_from 0 ds) text)
      ∙ ap (λ (l : List ℕ). fold with_one l numbers) (fold-append with_one [] (filter inside (named_from 0 ds)) (filter inside text))
      ∙ ap (λ (l : List ℕ). fold with_one (fold with_one named l) numbers) (passed-all inside text (all-inside text text_inside))

  named-has : (k : ℕ) (d : Device) → slice_get ds k ≡ Some d → has k named ≡ has_name d
  named-has k d e =
      has-fold k [] (filter inside (named_from 0 ds))
      ∙ has-filter inside k (named_from 0 ds)
      ∙ ap (λ (b : Bool). b && has k (named_from 0 ds)) (is-inside k (slice_get_within ds k d e))
      ∙ named-at 0 ds k d k (omega arith) e

  -- what stands behind them
  further : Extends named all
  further = fold-extends named text

  last : Extends all (fold with_one all numbers)
  last = fold-extends all numbers

  abbrev others : List ℕ
  others = further.rest ++ last.rest

  order-ends : order ≡ all ++ last.rest
  order-ends = split ∙ last.is

  order-splits : order ≡ named ++ others
  order-splits = order-ends ∙ ap (λ (l : List ℕ). l ++ last.rest) further.is ∙ append_assoc named further.rest last.rest

  order-there : AreThere ds order
  order-there k h = (ordered-within 0 (length ds) (named_from 0 ds ++ text) k h).1

  split-once : once (named ++ others) ≡ true
  split-once = ap once (sym order-splits) ∙ ordered-once 0 (length ds) (named_from 0 ds ++ text)

  named-there : AreThere ds named
  named-there k h = order-there k (ap (has k) order-splits ∙ has-append k named others ∙ or_left (has k named) (has k others) h)

  devices-split : arranged_devices ≡ arranged ds named ++ arranged ds others
  devices-split = ap (arranged ds) order-splits ∙ flat_map-append (λ (i : ℕ). option_to_list (slice_get ds i)) named others

  named-all : list_all has_name (arranged ds named) ≡ true
  named-all = arranged-all ds has_name named (λ k x h e. sym (named-has k x e) ∙ h)

  others-none : list_all (λ (d : Device). not (has_name d)) (arranged ds others) ≡ true
  others-none = arranged-all ds (λ (d : Device). not (has_name d)) others (λ k x h e. not_from_false (has_name x) (sym (named-has k x e) ∙ once-apart k named others split-once h))

  named-first : come_first has_name arranged_devices ≡ true
  named-first = ap (come_first has_name) devices-split ∙ all-first has_name (arranged ds named) (arranged ds others) named-all (none_from has_name (arranged ds others) others-none)

  count-is : count_named arranged_devices ≡ length named
  count-is =
      ap count_named devices-split
      ∙ ap length (filter-append has_name (arranged ds named) (arranged ds others))
      ∙ (λ i. length (passed-all has_name (arranged ds named) named-all i ++ passed-none has_name (arranged ds others) others-none i))
      ∙ ap length (append-nil (arranged ds named))
      ∙ arranged-length ds named named-there

  next-there : next_of (count_named arranged_devices) (map (place_in 0 order) text) ≡ Some (length all)
  next-there = ap (λ (n : ℕ). next_of n (map (place_in 0 order) text)) count-is ∙ next-is named text last.rest order order-ends

  -- whether all devices are those that have names and those of the text
  pub order-counted : (come_first has_name arranged_devices && is_count (length arranged_devices) (next_of (count_named arranged_devices) (map (place_in 0 order) text))) ≡ nat_eq (length order) (length all)
  order-counted = (λ i. named-first i && is_count (arranged-length ds order order-there i) (next-there i))

  abbrev StandInText : Type 0
  StandInText = (i : ℕ) (d : Device) → slice_get ds i ≡ Some d → has_name d ≡ false → has i text ≡ true

  pub all-counted : StandInText → nat_eq (length order) (length all) ≡ true
  all-counted there = eq-eqb (length order) (length all) (ap length (split ∙ fold-idle all numbers each))
    where
      is_in_all : (k : ℕ) (d : Device) → slice_get ds k ≡ Some d → (has_name d ≡ true) ⊎ (has_name d ≡ false) → has k all ≡ true
      is_in_all k d e (inl h) = has-fold k named text ∙ or_left (has k named) (has k text) (named-has k d e ∙ h)
      is_in_all k d e (inr h) = has-fold k named text ∙ or_right (has k named) (has k text) (there k d e h)

      each : (k : ℕ) → has k numbers ≡ true → has k all ≡ true
      each k h =
          let p = and_parts (inside k) (has k (numbers_from 0 (length ds))) (sym (has-filter inside k (numbers_from 0 (length ds))) ∙ h) in
          let d = found ds ds k (ltb-true k (length ds) (and_parts (nat_le 0 k) (nat_lt k (length ds)) p.0).1) in is_in_all k d.0 d.1 (cases_Bool (has_name d.0))

  pub counted-all : nat_eq (length order) (length all) ≡ true → StandInText
  counted-all h i d e none =
      let size : length order ≡ length all + length last.rest = ap length order-ends ∙ length-append all last.rest in
      let same : length order ≡ length all = eqb-true (length order) (length all) h in
      let ends : order ≡ all = order-ends ∙ ap (λ (l : List ℕ). all ++ l) (is-empty last.rest (omega (arith, size, same))) ∙ append-nil all in
      let has_all : has i all ≡ true = ap (has i) (sym ends) ∙ ordered-has 0 (length ds) (named_from 0 ds ++ text) i (omega arith) (slice_get_within ds i d e) in
      ap (λ (b : Bool). b || has i text) (sym (named-has i d e ∙ none)) ∙ sym (has-fold i named text) ∙ has_all
    where
      is-empty : (xs : List ℕ) → length xs ≡ 0 → xs ≡ []
      is-empty [] z = refl
      is-empty (x ∷ xs) z = absurd (omega (arith, z))

module _ (p : Program) (h : IsTypedProgram p) where
  abbrev counts : Bool
  counts = nat_eq (length (device_order p)) (length (fold with_one (fold with_one [] (filter (is_within 0 (length p.devices)) (named_from 0 p.devices))) (devices_in_text p)))

  order-is : devices_in_order (numbered p) ≡ counts
  order-is =
      ap (λ (l : List ℕ). come_first has_name (numbered p).devices && is_count (length (numbered p).devices) (next_of (count_named (numbered p).devices) l)) (text_same p)
      ∙ order-counted p.devices (devices_in_text p) (text_below p h)

  pub devices_ordered : AreDevicesInText p → devices_in_order (numbered p) ≡ true
  devices_ordered there = order-is ∙ all-counted p.devices (devices_in_text p) (text_below p h) there

  pub ordered_devices : devices_in_order (numbered p) ≡ true → AreDevicesInText p
  ordered_devices ordered = counted-all p.devices (devices_in_text p) (text_below p h) (sym order-is ∙ ordered)
