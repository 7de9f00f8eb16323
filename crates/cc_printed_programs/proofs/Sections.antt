-- Which numbers the things of a shown unit have: devices, functions and objects, those that are defined, and those that have names.
use Rattle.std.proofs.Common.{◌≡◌, ◌∙◌, ◌⊎◌, inl, inr, ◌+◌, ◌<◌, ◌≤◌, ℕ, zero, suc, Bool, true, false, true≢false, not, cond, List, [], ◌∷◌, ◌++◌, length, map, filter, Option, Some, None, is_some, slice_get, refl, ap, sym, subst, arith, append-nil}
use Rattle.std.specs.Prelude.{nat_eq, nat_lt, position}
use Rattle.std.specs.List.{position_or_len}
use Rattle.std.proofs.lemmas.Bool.{ne_eqb, lt-ltb, le-ltb}
use Rattle.cc_definitions.specs.Definitions.{thing_at, numbers_of, has_definition, is_function, defined, functions, objects, devices, is_defined_before, offset_of, source_of}
use Rattle.cc_link.specs.Linked.{id_at, id_by}
use Rattle.cc_linked_programs.proofs.ThingLists.{no-position}
use Rattle.cc_names.specs.Names.{numbers_from}
use Rattle.cc_order.specs.Order.{in_order}
use Rattle.cc_program.specs.declared.func.Func.{Func}
use Rattle.cc_program.specs.declared.object.Device.{Device}
use Rattle.cc_program.specs.declared.object.Object.{Object}
use Rattle.cc_program.specs.declared.program.Program.{Program}
use Rattle.cc_printed_programs.specs.Ascending.{Ascend}
use Rattle.cc_shown_declarations.specs.UnitNumbers.{first_function, first_object, device_number}
use Rattle.cc_printed_programs.specs.Units.{device_shown, function_shown, object_shown, functions_shown, objects_shown, names_shown, unit_shown}
use Rattle.cc_printed_programs.proofs.Identities.{identities-apart}
use Rattle.cc_printed_programs.proofs.ShownLists.{get-split, within, get-inside, position-some, place-behind, place-in-front, Rises, filter-order}
use Rattle.cc_printed_programs.proofs.Ranges.{numbers-joined, length-numbers, in-numbers, place-number, selected, selected-append, selected-all, selected-none}
use Rattle.cc_printed_programs.proofs.Things.{mention_here, thing_with, thing-here, numbers-are}
use Rattle.cc_printed_programs.proofs.UnitNames.{named, numbered, devices-are, length-positioned, in-positioned, in-mapped, function-there, object-there}
use Rattle.cc_structures.proofs.Elements.{In, in-cases, length-map_of}
use Rattle.cc_type.specs.CcSyntax.Lists.{come_first}
use Rattle.cc_type.specs.CcSyntax.Normal.{has_name, count_named}
use Rattle.cc_type.specs.CcSyntax.Sound.{IsSound}
use Rattle.cc_things.specs.Mentions.{Mention}
use Rattle.cc_things.specs.Things.{Thing, things, is_device, identity_of}
use Rattle.cc_things.specs.declared.text.Text.{Text}
use Rattle.cc_type.specs.CcUnit.Mentioned.{mentioned}
use Rattle.cc_type.specs.CcUnit.declared.ids.Id.TheVariants as id
use Rattle.cc_type.specs.CcUnit.declared.unit.UnitName.{UnitName}

-- numbers, or none
abbrev pub section : Bool → ℕ → ℕ → List ℕ
section true a n = numbers_from a n
section false a n = []

section-of : (test : UnitName → Bool) (b : Bool) (i n : ℕ) (xs : List UnitName) → ((x : UnitName) → In x xs → test x ≡ b) → length xs ≡ n → selected test i xs ≡ section b i n
section-of test true i n xs h e = selected-all test i xs h ∙ ap (λ (k : ℕ). numbers_from i k) e
section-of test false i n xs h e = selected-none test i xs h

some-cond : {A : Type 0} (b : Bool) (x : A) → is_some (cond b (Some x) None) ≡ b
some-cond true x = refl
some-cond false x = refl

filter-append : {A : Type 0} (test : A → Bool) (xs ys : List A) → filter test (xs ++ ys) ≡ filter test xs ++ filter test ys
filter-append test [] ys = refl
filter-append {A} test (x ∷ xs) ys = by (test x) (filter-append test xs ys)
  where
    by : (b : Bool) → filter test (xs ++ ys) ≡ filter test xs ++ filter test ys → cond b (x ∷ filter test (xs ++ ys)) (filter test (xs ++ ys)) ≡ cond b (x ∷ filter test xs) (filter test xs) ++ filter test ys
    by true e = ap (λ (zs : List A). x ∷ zs) e
    by false e = e

filter-whole : {A : Type 0} (test : A → Bool) (xs : List A) → ((x : A) → In x xs → test x ≡ true) → filter test xs ≡ xs
filter-whole test [] h = refl
filter-whole {A} test (x ∷ xs) h = rw (h x (inl refl)) (ap (λ (zs : List A). x ∷ zs) (filter-whole test xs (λ y i. h y (inr i))))

filter-none : {A : Type 0} (test : A → Bool) (xs : List A) → ((x : A) → In x xs → test x ≡ false) → filter test xs ≡ []
filter-none test [] h = refl
filter-none test (x ∷ xs) h = rw (h x (inl refl), filter-none test xs (λ y i. h y (inr i))) refl

-- a mention that says only the name
abbrev pub plain : UnitName → Mention
plain n = record { text = 0; position = 0; used = false; name = n }

module _ (p : Program) (function_at object_at : ℕ → ℕ) (identifiers : List (List ℕ)) (sound : IsSound p) (order : come_first has_name p.devices ≡ true) where
  abbrev pub text : Text
  text = record { unit = unit_shown p function_at object_at; identifiers = identifiers }

  abbrev pub ts : List Thing
  ts = things (text ∷ [])

  abbrev names : List UnitName
  names = names_shown p function_at object_at

  abbrev front : List UnitName
  front = map device_shown (named p)

  abbrev back : List UnitName
  back = map device_shown (numbered p)

  abbrev fs : List UnitName
  fs = functions_shown p function_at object_at

  abbrev os : List UnitName
  os = objects_shown p function_at object_at

  abbrev pub here : ℕ → UnitName → Mention
  here k n = mention_here text k n

  pub apart : (j k : ℕ) (m n : UnitName) → slice_get names j ≡ Some m → slice_get names k ≡ Some n → identity_of (here j m) ≡ identity_of (here k n) → j ≡ k
  apart j k m n e f h = identities-apart p function_at object_at sound order (mentioned names) j k m n e f h

  pub thing-is : (k : ℕ) (n : UnitName) → slice_get (names_shown p function_at object_at) k ≡ Some n → thing_at (things (text ∷ [])) k ≡ thing_with (here k n)
  thing-is k n e = thing-here text apart k n e

  -- ---- the four sections

  abbrev c : ℕ
  c = count_named p.devices

  abbrev last : ℕ
  last = first_object p + length p.objects

  front-many : length front ≡ c
  front-many = length-map_of device_shown (named p)

  fs-many : length fs ≡ length p.funcs
  fs-many = length-positioned (λ i f. function_shown p (function_at i) f) 0 p.funcs

  os-many : length os ≡ length p.objects
  os-many = length-positioned (λ i o. object_shown p (object_at i) o) 0 p.objects

  back-many : length back ≡ length (numbered p)
  back-many = length-map_of device_shown (numbered p)

  pub sections : (test : UnitName → Bool) (a b d e : Bool) → ((x : UnitName) → In x front → test x ≡ a) → ((x : UnitName) → In x fs → test x ≡ b) → ((x : UnitName) → In x os → test x ≡ d) → ((x : UnitName) → In x back → test x ≡ e) →
      selected test 0 names ≡ section a 0 c ++ (section b c (length p.funcs) ++ (section d (first_object p) (length p.objects) ++ section e last (length (numbered p))))
  sections test a b d e h k l m =
      let one = front-many in
      let two = fs-many in
      let three = os-many in
      let s = section-of test a 0 c front h front-many in
      let t = section-of test b c (length p.funcs) fs k fs-many in
      let u = section-of test d (first_object p) (length p.objects) os l os-many in
      let v = section-of test e last (length (numbered p)) back m back-many in
      selected-append test 0 c front (fs ++ (os ++ back)) (omega (arith, one))
      ∙ (ap (λ (ks : List ℕ). ks ++ selected test c (fs ++ (os ++ back))) s
      ∙ ap (λ (ks : List ℕ). section a 0 c ++ ks)
      (selected-append test c (first_object p) fs (os ++ back) (omega (arith, two))
      ∙ (ap (λ (ks : List ℕ). ks ++ selected test (first_object p) (os ++ back)) t
      ∙ ap (λ (ks : List ℕ). section b c (length p.funcs) ++ ks)
      (selected-append test (first_object p) last os back (omega (arith, three))
      ∙ (ap (λ (ks : List ℕ). ks ++ selected test last back) u ∙ ap (λ (ks : List ℕ). section d (first_object p) (length p.objects) ++ ks) v)))))

  -- ---- devices

  device_test : UnitName → Bool
  device_test n = is_device (thing_with (plain n))

  device-numbers-by : devices ts ≡ selected device_test 0 names
  unfolding device_test
  device-numbers-by = numbers-are text apart is_device device_test (λ k n e. refl)

  device-sections : selected device_test 0 names ≡ numbers_from 0 c ++ ([] ++ ([] ++ numbers_from last (length (numbered p))))
  unfolding device_test
  device-sections = sections device_test true false false true
      (λ x i. in-mapped device_shown device_test true (λ d. refl) (named p) x i)
      (λ x i. in-positioned (λ i f. function_shown p (function_at i) f) device_test false (λ i f. refl) 0 p.funcs x i)
      (λ x i. in-positioned (λ i o. object_shown p (object_at i) o) device_test false (λ i o. refl) 0 p.objects x i)
      (λ x i. in-mapped device_shown device_test true (λ d. refl) (numbered p) x i)

  pub devices-are-numbers : devices (things (text ∷ [])) ≡ numbers_from 0 (count_named p.devices) ++ numbers_from (first_object p + length p.objects) (length (numbered p))
  devices-are-numbers = device-numbers-by ∙ device-sections

  -- ---- what is defined

  defined_test : UnitName → Bool
  defined_test n = nat_lt 0 n.count

  definitions-by : numbers_of has_definition ts ≡ selected defined_test 0 names
  unfolding defined_test
  definitions-by = numbers-are text apart has_definition defined_test (λ k n e. some-cond (nat_lt 0 n.count) (here k n))

  definition-sections : selected defined_test 0 names ≡ [] ++ (numbers_from c (length p.funcs) ++ (numbers_from (first_object p) (length p.objects) ++ []))
  unfolding defined_test
  definition-sections = sections defined_test false true true false
      (λ x i. in-mapped device_shown defined_test false (λ d. refl) (named p) x i)
      (λ x i. in-positioned (λ i f. function_shown p (function_at i) f) defined_test true (λ i f. refl) 0 p.funcs x i)
      (λ x i. in-positioned (λ i o. object_shown p (object_at i) o) defined_test true (λ i o. refl) 0 p.objects x i)
      (λ x i. in-mapped device_shown defined_test false (λ d. refl) (numbered p) x i)

  abbrev defining : List ℕ
  defining = numbers_from c (length p.funcs) ++ numbers_from (first_object p) (length p.objects)

  definitions-are : numbers_of has_definition ts ≡ defining
  definitions-are = definitions-by ∙ (definition-sections ∙ ap (λ (ks : List ℕ). numbers_from c (length p.funcs) ++ ks) (append-nil (numbers_from (first_object p) (length p.objects))))

  -- ---- which stand at a number

  pub record FunctionAt (k : ℕ) : Type 0 where
    pub at : ℕ
    pub func : Func
    pub there : slice_get p.funcs at ≡ Some func
    pub place : k ≡ first_function p + at
    pub name : slice_get (names_shown p function_at object_at) k ≡ Some (function_shown p (function_at at) func)
    pub thing : thing_at (things (text ∷ [])) k ≡ thing_with (here k (function_shown p (function_at at) func))

  -- so far behind the first
  pub less : (a k n : ℕ) → a ≤ k → k < a + n → (i : ℕ) × (k ≡ a + i) × (i < n)
  less zero k n h l = let s : k ≡ 0 + k = omega arith in (k, s, omega (arith, l))
  less (suc a) zero n h l = absurd (omega (arith, h))
  less (suc a) (suc k) n h l =
      let r = less a k n (omega (arith, h)) (omega (arith, l)) in
      let s = r.1 in
      let t : suc k ≡ suc a + r.0 = omega (arith, s) in
      (r.0, t, r.2)

  pub function-number : (k : ℕ) → In k (numbers_from (count_named p.devices) (length p.funcs)) → FunctionAt k
  function-number k h =
      let b = in-numbers c (length p.funcs) k h in
      let r = less c k (length p.funcs) b.0 b.1 in
      let g = get-inside p.funcs r.0 r.2 in
      let n = function-there p function_at object_at r.0 k g.0 g.1 r.1 in
      record { at = r.0; func = g.0; there = g.1; place = r.1; name = n; thing = thing-is k (function_shown p (function_at r.0) g.0) n }

  pub record ObjectAt (k : ℕ) : Type 0 where
    pub at : ℕ
    pub object : Object
    pub there : slice_get p.objects at ≡ Some object
    pub place : k ≡ first_object p + at
    pub name : slice_get (names_shown p function_at object_at) k ≡ Some (object_shown p (object_at at) object)
    pub thing : thing_at (things (text ∷ [])) k ≡ thing_with (here k (object_shown p (object_at at) object))

  pub object-number : (k : ℕ) → In k (numbers_from (first_object p) (length p.objects)) → ObjectAt k
  object-number k h =
      let b = in-numbers (first_object p) (length p.objects) k h in
      let r = less (first_object p) k (length p.objects) b.0 b.1 in
      let g = get-inside p.objects r.0 r.2 in
      let n = object-there p function_at object_at r.0 k g.0 g.1 r.1 in
      record { at = r.0; object = g.0; there = g.1; place = r.1; name = n; thing = thing-is k (object_shown p (object_at r.0) g.0) n }

  -- ---- functions and objects are in order of definition

  abbrev function_test : ℕ → Bool
  function_test k = is_function (thing_at ts k)

  function-passes : (k : ℕ) → FunctionAt k → is_function (thing_at ts k) ≡ true
  function-passes k a = ap is_function a.thing

  object-fails : (k : ℕ) → ObjectAt k → is_function (thing_at ts k) ≡ false
  object-fails k a = ap is_function a.thing

  abbrev before : ℕ → ℕ → Bool
  before j k = is_defined_before ts j k

  -- a later one of two at offsets that do not fall is not before the other
  not-before : (j k : ℕ) → source_of (thing_at ts j) ≡ 0 → source_of (thing_at ts k) ≡ 0 → offset_of (thing_at ts j) ≤ offset_of (thing_at ts k) → is_defined_before ts k j ≡ false
  not-before j k s t h = rw (s, t, le-ltb (offset_of (thing_at ts k)) (offset_of (thing_at ts j)) h) refl

  module _ (functions_ascend : Ascend (length p.funcs) function_at) (objects_ascend : Ascend (length p.objects) object_at) where
    data DefinedAt (k : ℕ) : Type 0 where
      AsFunction : FunctionAt k → DefinedAt k
      AsObject : ObjectAt k → DefinedAt k

    defined-number : (k : ℕ) → In k defining → DefinedAt k
    defined-number k h = by (in-cases (numbers_from c (length p.funcs)) (numbers_from (first_object p) (length p.objects)) k h)
      where
        by : In k (numbers_from c (length p.funcs)) ⊎ In k (numbers_from (first_object p) (length p.objects)) → DefinedAt k
        by (inl i) = AsFunction (function-number k i)
        by (inr i) = AsObject (object-number k i)

    functions-not-before : (j k : ℕ) → j < k → FunctionAt j → FunctionAt k → is_defined_before ts k j ≡ false
    functions-not-before j k h a b =
        let q = a.place in
        let r = b.place in
        let up = functions_ascend a.at b.at (omega (arith, q, r, h)) (within p.funcs b.at b.func b.there) in
        let s : offset_of (thing_at ts j) ≡ function_at a.at = ap offset_of a.thing in
        let t : offset_of (thing_at ts k) ≡ function_at b.at = ap offset_of b.thing in
        not-before j k (ap source_of a.thing) (ap source_of b.thing) (omega (arith, up, s, t))

    objects-not-before : (j k : ℕ) → j < k → ObjectAt j → ObjectAt k → is_defined_before ts k j ≡ false
    objects-not-before j k h a b =
        let q = a.place in
        let r = b.place in
        let up = objects_ascend a.at b.at (omega (arith, q, r, h)) (within p.objects b.at b.object b.there) in
        let s : offset_of (thing_at ts j) ≡ object_at a.at = ap offset_of a.thing in
        let t : offset_of (thing_at ts k) ≡ object_at b.at = ap offset_of b.thing in
        not-before j k (ap source_of a.thing) (ap source_of b.thing) (omega (arith, up, s, t))

    two-functions : (j k : ℕ) → j < k → DefinedAt j → DefinedAt k → is_function (thing_at ts j) ≡ true → is_function (thing_at ts k) ≡ true → is_defined_before ts k j ≡ false
    two-functions j k h (AsFunction a) (AsFunction b) f g = functions-not-before j k h a b
    two-functions j k h (AsFunction a) (AsObject b) f g = absurd (true≢false (sym g ∙ object-fails k b))
    two-functions j k h (AsObject a) b f g = absurd (true≢false (sym f ∙ object-fails j a))

    two-objects : (j k : ℕ) → j < k → DefinedAt j → DefinedAt k → not (is_function (thing_at ts j)) ≡ true → not (is_function (thing_at ts k)) ≡ true → is_defined_before ts k j ≡ false
    two-objects j k h (AsObject a) (AsObject b) f g = objects-not-before j k h a b
    two-objects j k h (AsObject a) (AsFunction b) f g = absurd (true≢false (sym g ∙ ap not (function-passes k b)))
    two-objects j k h (AsFunction a) b f g = absurd (true≢false (sym f ∙ ap not (function-passes j a)))

    rising : (test : ℕ → Bool) → ((j k : ℕ) → j < k → DefinedAt j → DefinedAt k → test j ≡ true → test k ≡ true → is_defined_before ts k j ≡ false) →
        (a n : ℕ) → ((k : ℕ) → In k (numbers_from a n) → DefinedAt k) → Rises before test (numbers_from a n)
    rising test two a zero d = tt
    rising test two a (suc n) d = (
      λ y i f g. let low = (in-numbers (suc a) n y i).0 in two a y (omega (arith, low)) (d a (inl refl)) (d y (inr i)) f g,
      rising test two (suc a) n (λ k i. d k (inr i)),
    )

    together : defining ≡ numbers_from c (length p.funcs + length p.objects)
    together = numbers-joined c (length p.funcs) (length p.objects) (first_object p) (length p.funcs + length p.objects) refl refl

    ordered : (test : ℕ → Bool) → ((j k : ℕ) → j < k → DefinedAt j → DefinedAt k → test j ≡ true → test k ≡ true → is_defined_before ts k j ≡ false) → filter test (defined ts) ≡ filter test defining
    ordered test two =
        ap (λ (ks : List ℕ). filter test (in_order before ks)) definitions-are
        ∙ filter-order before test defining (subst (Rises before test) (sym together) (rising test two c (length p.funcs + length p.objects) (λ k i. defined-number k (subst (λ (ks : List ℕ). In k ks) (sym together) i))))

    pub functions-are : functions (things (text ∷ [])) ≡ numbers_from (count_named p.devices) (length p.funcs)
    functions-are =
        ordered (λ (k : ℕ). is_function (thing_at ts k)) two-functions
        ∙ (filter-append (λ (k : ℕ). is_function (thing_at ts k)) (numbers_from c (length p.funcs)) (numbers_from (first_object p) (length p.objects))
        ∙ (ap (λ (ks : List ℕ). ks ++ filter (λ (k : ℕ). is_function (thing_at ts k)) (numbers_from (first_object p) (length p.objects))) (filter-whole (λ (k : ℕ). is_function (thing_at ts k)) (numbers_from c (length p.funcs)) (λ k i. function-passes k (function-number k i)))
        ∙ (ap (λ (ks : List ℕ). numbers_from c (length p.funcs) ++ ks) (filter-none (λ (k : ℕ). is_function (thing_at ts k)) (numbers_from (first_object p) (length p.objects)) (λ k i. object-fails k (object-number k i)))
        ∙ append-nil (numbers_from c (length p.funcs)))))

    pub objects-are : objects (things (text ∷ [])) ≡ numbers_from (first_object p) (length p.objects)
    objects-are =
        ordered (λ (k : ℕ). not (is_function (thing_at ts k))) two-objects
        ∙ (filter-append (λ (k : ℕ). not (is_function (thing_at ts k))) (numbers_from c (length p.funcs)) (numbers_from (first_object p) (length p.objects))
        ∙ (ap (λ (ks : List ℕ). ks ++ filter (λ (k : ℕ). not (is_function (thing_at ts k))) (numbers_from (first_object p) (length p.objects))) (filter-none (λ (k : ℕ). not (is_function (thing_at ts k))) (numbers_from c (length p.funcs)) (λ k i. ap not (function-passes k (function-number k i))))
        ∙ filter-whole (λ (k : ℕ). not (is_function (thing_at ts k))) (numbers_from (first_object p) (length p.objects)) (λ k i. ap not (object-fails k (object-number k i)))))

    -- ---- ids

    outside-numbers : (a n k : ℕ) → (k < a) ⊎ (a + n ≤ k) → In k (numbers_from a n) → ⊥
    outside-numbers a n k (inl h) i = let b = (in-numbers a n k i).0 in omega (arith, h, b)
    outside-numbers a n k (inr h) i = let b = (in-numbers a n k i).1 in omega (arith, h, b)

    abbrev first_part : List ℕ
    first_part = numbers_from 0 c

    abbrev last_part : List ℕ
    last_part = numbers_from last (length (numbered p))

    no-device : (k : ℕ) → c ≤ k → k < last → position (nat_eq k) (devices ts) ≡ None
    no-device k h l = ap (position (nat_eq k)) devices-are-numbers ∙ no-position k (first_part ++ last_part) (λ i. by (in-cases first_part last_part k i))
      where
        by : In k first_part ⊎ In k last_part → ⊥
        by (inl i) = outside-numbers 0 c k (inr (omega (arith, h))) i
        by (inr i) = outside-numbers last (length (numbered p)) k (inl l) i

    pub function-id : (i : ℕ) (f : Func) → slice_get p.funcs i ≡ Some f → id_at (things (text ∷ [])) (first_function p + i) ≡ id.Func i
    function-id i f e =
        let k = first_function p + i in
        let low = within p.funcs i f e in
        let d = no-device k (omega arith) (omega (arith, low)) in
        let many = length-numbers c (length p.funcs) in
        let at : position (nat_eq k) (functions ts) ≡ Some i =
        ap (position (nat_eq k)) functions-are ∙ position-some (nat_eq k) (numbers_from c (length p.funcs)) i (place-number c (length p.funcs) i k refl low) (omega (arith, low, many)) in
        ap (λ (o : Option ℕ). id_by o (position (nat_eq k) (functions ts)) (position (nat_eq k) (objects ts))) d ∙ ap (λ (o : Option ℕ). id_by None o (position (nat_eq k) (objects ts))) at

    pub object-id : (i : ℕ) (o : Object) → slice_get p.objects i ≡ Some o → id_at (things (text ∷ [])) (first_object p + i) ≡ id.Object i
    object-id i o e =
        let k = first_object p + i in
        let low = within p.objects i o e in
        let d = no-device k (omega arith) (omega (arith, low)) in
        let many = length-numbers (first_object p) (length p.objects) in
        let past : c + length p.funcs ≤ k = omega arith in
        let none : position (nat_eq k) (functions ts) ≡ None = ap (position (nat_eq k)) functions-are ∙ no-position k (numbers_from c (length p.funcs)) (outside-numbers c (length p.funcs) k (inr past)) in
        let at : position (nat_eq k) (objects ts) ≡ Some i =
        ap (position (nat_eq k)) objects-are ∙ position-some (nat_eq k) (numbers_from (first_object p) (length p.objects)) i (place-number (first_object p) (length p.objects) i k refl low) (omega (arith, low, many)) in
        ap (λ (o : Option ℕ). id_by o (position (nat_eq k) (functions ts)) (position (nat_eq k) (objects ts))) d
        ∙ (ap (λ (o : Option ℕ). id_by None o (position (nat_eq k) (objects ts))) none ∙ ap (λ (o : Option ℕ). id_by None None o) at)

    pub device-id : (i : ℕ) (d : Device) → slice_get p.devices i ≡ Some d → id_at (things (text ∷ [])) (device_number p i) ≡ id.Device i
    device-id i d e = ap (λ (o : Option ℕ). id_by o (position (nat_eq (device_number p i)) (functions ts)) (position (nat_eq (device_number p i)) (objects ts))) (at (get-split (named p) (numbered p) i d (ap (λ (ds : List Device). slice_get ds i) (devices-are p order) ∙ e)))
      where
        whole : length (first_part ++ last_part) ≡ c + length (numbered p)
        whole = length-both first_part last_part c (length (numbered p)) (length-numbers 0 c) (length-numbers last (length (numbered p)))
          where
            length-both : (xs ys : List ℕ) (m n : ℕ) → length xs ≡ m → length ys ≡ n → length (xs ++ ys) ≡ m + n
            length-both [] ys m n h k = omega (arith, h, k)
            length-both (x ∷ xs) ys zero n h k = absurd (omega (arith, h))
            length-both (x ∷ xs) ys (suc m) n h k = let r = length-both xs ys m n (omega (arith, h)) k in omega (arith, r)

        found : (k : ℕ) → position_or_len (nat_eq k) (first_part ++ last_part) ≡ i → i < c + length (numbered p) → position (nat_eq k) (devices ts) ≡ Some i
        found k h l = let w = whole in ap (position (nat_eq k)) devices-are-numbers ∙ position-some (nat_eq k) (first_part ++ last_part) i h (omega (arith, l, w))

        at : (slice_get (named p) i ≡ Some d) ⊎ ((j : ℕ) × (i ≡ length (named p) + j) × (slice_get (numbered p) j ≡ Some d)) → position (nat_eq (device_number p i)) (devices ts) ≡ Some i
        at (inl h) =
            let low = within (named p) i d h in
            let s : device_number p i ≡ i = ap (λ (b : Bool). cond b i (length p.funcs + (length p.objects + i))) (lt-ltb i (count_named p.devices) low) in
            let many = length-numbers 0 c in
            let z : i ≡ 0 + i = omega arith in
            ap (λ (k : ℕ). position (nat_eq k) (devices ts)) s
            ∙ found i (place-in-front (nat_eq i) first_part last_part i (place-number 0 c i i z low) (omega (arith, low, many))) (omega (arith, low))
        at (inr h) =
            let g = h.1 in
            let high : count_named p.devices ≤ i = omega (arith, g) in
            let k = length p.funcs + (length p.objects + i) in
            let s : device_number p i ≡ k = ap (λ (b : Bool). cond b i (length p.funcs + (length p.objects + i))) (le-ltb i (count_named p.devices) high) in
            let low = within (numbered p) h.0 d h.2 in
            let many = length-numbers 0 c in
            let z : k ≡ last + h.0 = omega (arith, g) in
            let past : (x : ℕ) → In x first_part → nat_eq k x ≡ false = λ x i'. let b = (in-numbers 0 c x i').1 in ne_eqb k x (λ q. omega (arith, b, high, q)) in
            let place = place-behind (nat_eq k) first_part last_part past in
            let inner = place-number last (length (numbered p)) h.0 k z low in
            ap (λ (j : ℕ). position (nat_eq j) (devices ts)) s
            ∙ found k (omega (arith, place, inner, many, g)) (omega (arith, g, low))
