-- Names of a shown unit stay in its program: they are distinct, and none is an intrinsic's (C99 6.2.3).
use Rattle.std.proofs.Common.{◌≡◌, ◌∙◌, ◌⊎◌, inl, inr, ◌+◌, ◌≤◌, ℕ, suc, Bool, true, false, not, ◌&&◌, ◌||◌, List, [], ◌∷◌, ◌++◌, length, map, filter_map, Option, Some, None, slice_get, refl, ap, sym, subst, arith, append-nil}
use Rattle.std.specs.Prelude.{nat_eq, position, option_and_then, codes}
use Rattle.std.specs.Option.{is_none}
use Rattle.cc_definitions.specs.Definitions.{thing_at, numbers_of, is_named_by, named as named_numbers}
use Rattle.cc_linked_names.specs.Given.{thing_wish, wish_or, file_names as given_names, name_at, tags as given_tags, local_wishes, locals_for}
use Rattle.cc_linked_programs.proofs.ThingLists.{no-position}
use Rattle.cc_names.specs.Names.{Own, names_for, numbers_from}
use Rattle.cc_program.specs.declared.func.Func.{Func}
use Rattle.cc_program.specs.declared.object.Device.{Device}
use Rattle.cc_program.specs.declared.object.Object.{Object}
use Rattle.cc_program.specs.declared.program.Program.{Program}
use Rattle.cc_shown_declarations.specs.UnitNumbers.{first_object}
use Rattle.cc_printed_programs.specs.Units.{device_linkage, device_shown, function_shown, object_shown, functions_shown, objects_shown, names_shown}
use Rattle.cc_printed_programs.proofs.Identities.{name_or_none, has-a-name, has-no-name, shown_names, device_part, function_part, object_part, names-apart}
use Rattle.cc_printed_programs.proofs.ShownLists.{get-left, get-right, get-split, get-map, get-unmap, get-in, within, position-some}
use Rattle.cc_printed_programs.proofs.Naming.{stay}
use Rattle.cc_printed_programs.proofs.Ranges.{numbers-joined, length-numbers, in-numbers, place-number, mapped, selected}
use Rattle.cc_printed_programs.proofs.Sections.{section, sections, plain, text, ts, apart, thing-is}
use Rattle.cc_printed_programs.proofs.Things.{thing_with, numbers-are}
use Rattle.cc_printed_programs.proofs.UnitNames.{named, numbered, in-positioned, passes-at, named-there, function-there, object-there, Shown, NamedDevice, AFunction, AnObject, NumberedDevice, shown-at}
use Rattle.cc_structures.proofs.Elements.{In, in-map_from, length-map_of}
use Rattle.cc_structures.specs.Structures.{Known}
use Rattle.cc_type.specs.CcSyntax.Lists.{come_first}
use Rattle.cc_type.specs.CcSyntax.Names.{intrinsic_names, local_names}
use Rattle.cc_type.specs.CcSyntax.Normal.{has_name, count_named}
use Rattle.cc_type.specs.CcSyntax.SameTypes.{same_flag}
use Rattle.cc_type.specs.CcSyntax.Sound.{IsSound, is_numbered}
use Rattle.cc_things.specs.Things.{Thing, things, is_external_linkage}
use Rattle.cc_type.specs.CcUnit.declared.unit.UnitName.{UnitName}

length-append : {A : Type 0} (xs ys : List A) → length (xs ++ ys) ≡ length xs + length ys
length-append [] ys = omega arith
length-append (x ∷ xs) ys = let r = length-append xs ys in omega (arith, r)

-- functions by their numbers, each with the names of its locals
abbrev pub with_locals : ℕ → List Func → List (ℕ × List (List ℕ))
with_locals a [] = []
with_locals a (f ∷ fs) = (a, local_names f.locals) ∷ with_locals (suc a) fs

module _ (ts : List Thing) (reserved outer : List (List ℕ)) where
  pub locals-are : (a : ℕ) (fs : List Func) → ((given : List (List ℕ)) (j k : ℕ) (f : Func) → k ≡ a + j → slice_get fs j ≡ Some f → names_for reserved given outer (local_wishes (thing_at ts k)) ≡ local_names f.locals) →
      (given : List (List ℕ)) → locals_for ts reserved outer given (numbers_from a (length fs)) ≡ with_locals a fs
  unfolding locals_for
  locals-are a [] h given = refl
  locals-are a (f ∷ fs) h given =
      let here = h given 0 a f (omega arith) refl in
      ap (λ (xs : List (List ℕ)). (a, xs) ∷ locals_for ts reserved outer (given ++ xs) (numbers_from (suc a) (length fs))) here
      ∙ ap (λ (rest : List (ℕ × List (List ℕ))). (a, local_names f.locals) ∷ rest) (locals-are (suc a) fs (λ given j k g e i. h given (suc j) k g (omega (arith, e)) i) (given ++ local_names f.locals))

pub given-with : (g : ℕ × List (List ℕ) → Option Func) (a : ℕ) (fs : List Func) → ((j k : ℕ) (f : Func) → k ≡ a + j → slice_get fs j ≡ Some f → g (k, local_names f.locals) ≡ Some f) → filter_map g (with_locals a fs) ≡ fs
given-with g a [] h = refl
given-with g a (f ∷ fs) h = rw (h 0 a f (omega arith) refl, given-with g (suc a) fs (λ j k z e i. h (suc j) k z (omega (arith, e)) i)) refl

module _ (p : Program) (function_at object_at : ℕ → ℕ) (identifiers : List (List ℕ)) (sound : IsSound p) (order : come_first has_name p.devices ≡ true) where
  abbrev all : List Thing
  all = ts p function_at object_at identifiers sound order

  abbrev names : List UnitName
  names = names_shown p function_at object_at

  abbrev front : List UnitName
  front = map device_shown (named p)

  abbrev back : List UnitName
  back = map device_shown (numbered p)

  front-has : (x : UnitName) → In x front → (d : Device) × (has_name d ≡ true) × (device_shown d ≡ x)
  front-has x i =
      let r = in-map_from device_shown (named p) x i in
      let q = get-in (named p) r.0 r.1.0 in
      (r.0, passes-at has_name p.devices q.0 r.0 q.1, r.1.1)

  back-has : (x : UnitName) → In x back → (d : Device) × (is_numbered d ≡ true) × (device_shown d ≡ x)
  back-has x i =
      let r = in-map_from device_shown (numbered p) x i in
      let q = get-in (numbered p) r.0 r.1.0 in
      (r.0, passes-at is_numbered p.devices q.0 r.0 q.1, r.1.1)

  -- ---- which have names: all but the devices at the end, those with external names in front

  named_test : Bool → UnitName → Bool
  named_test external n = is_named_by external (thing_with (plain n))

  by-numbers : (external : Bool) → numbers_of (is_named_by external) all ≡ selected (named_test external) 0 names
  unfolding named_test
  by-numbers external = numbers-are (text p function_at object_at identifiers sound order) (apart p function_at object_at identifiers sound order) (is_named_by external) (named_test external) (λ k n e. refl)

  abbrev device_answer : Bool → Option (List ℕ) → Bool
  device_answer external o = not (is_none o) && same_flag (is_external_linkage (device_linkage o) || false) external

  device-test : (external : Bool) (d : Device) (o : Option (List ℕ)) → d.name ≡ o → named_test external (device_shown d) ≡ device_answer external o
  unfolding named_test
  device-test external d o e = ap (device_answer external) e

  external-front : (external : Bool) (x : UnitName) → In x front → named_test external x ≡ external
  external-front external x i =
      let r = front-has x i in
      sym (ap (named_test external) r.2) ∙ (device-test external r.0 (Some (name_or_none r.0)) (has-a-name r.0 r.1) ∙ flag external)
    where
      flag : (b : Bool) → same_flag (true || false) b ≡ b
      flag true = refl
      flag false = refl

  none-back : (external : Bool) (x : UnitName) → In x back → named_test external x ≡ false
  none-back external x i =
      let r = back-has x i in
      sym (ap (named_test external) r.2) ∙ device-test external r.0 None (has-no-name r.0 r.1)

  function-test : (external : Bool) (x : UnitName) → In x (functions_shown p function_at object_at) → named_test external x ≡ external
  unfolding named_test
  function-test true x i = in-positioned (λ i f. function_shown p (function_at i) f) (named_test true) true (λ i f. refl) 0 p.funcs x i
  function-test false x i = in-positioned (λ i f. function_shown p (function_at i) f) (named_test false) false (λ i f. refl) 0 p.funcs x i

  object-test : (external : Bool) (x : UnitName) → In x (objects_shown p function_at object_at) → named_test external x ≡ not external
  unfolding named_test
  object-test true x i = in-positioned (λ i o. object_shown p (object_at i) o) (named_test true) false (λ i o. refl) 0 p.objects x i
  object-test false x i = in-positioned (λ i o. object_shown p (object_at i) o) (named_test false) true (λ i o. refl) 0 p.objects x i

  abbrev c : ℕ
  c = count_named p.devices

  abbrev last : ℕ
  last = first_object p + length p.objects

  parts : (external : Bool) → selected (named_test external) 0 names ≡ section external 0 c ++ (section external c (length p.funcs) ++ (section (not external) (first_object p) (length p.objects) ++ section false last (length (numbered p))))
  parts external = sections p function_at object_at identifiers sound order (named_test external) external external (not external) false (external-front external) (function-test external) (object-test external) (none-back external)

  many : length (shown_names p) ≡ c + (length p.funcs + length p.objects)
  many =
      let a = length-append (device_part p) (function_part p ++ object_part p) in
      let b = length-append (function_part p) (object_part p) in
      let d : length (device_part p) ≡ c = length-map_of name_or_none (named p) in
      let e : length (function_part p) ≡ length p.funcs = length-map_of (λ (f : Func). f.name) p.funcs in
      let g : length (object_part p) ≡ length p.objects = length-map_of (λ (o : Object). o.name) p.objects in
      omega (arith, a, b, d, e, g)

  pub named-are : named_numbers (things (text p function_at object_at identifiers sound order ∷ [])) ≡ numbers_from 0 (length (shown_names p))
  named-are =
      let n = many in
      let outer : numbers_from 0 c ++ (numbers_from c (length p.funcs) ++ []) ≡ numbers_from 0 (c + length p.funcs) =
      ap (λ (ks : List ℕ). numbers_from 0 c ++ ks) (append-nil (numbers_from c (length p.funcs))) ∙ numbers-joined 0 c (length p.funcs) c (c + length p.funcs) (omega arith) refl in
      ap (λ (ks : List ℕ). ks ++ numbers_of (is_named_by false) all) (by-numbers true ∙ (parts true ∙ outer))
      ∙ (ap (λ (ks : List ℕ). numbers_from 0 (c + length p.funcs) ++ ks) (by-numbers false ∙ (parts false ∙ append-nil (numbers_from (first_object p) (length p.objects))))
      ∙ numbers-joined 0 (c + length p.funcs) (length p.objects) (first_object p) (length (shown_names p)) (omega arith) (omega (arith, n)))

  -- ---- names by their positions

  pub record NameAt (k : ℕ) (x : List ℕ) : Type 0 where
    pub name : UnitName
    pub there : slice_get (names_shown p function_at object_at) k ≡ Some name
    pub is : name.name ≡ Some x

  abbrev behind : List (List ℕ)
  behind = function_part p ++ object_part p

  pub name-there : (k : ℕ) (x : List ℕ) → slice_get (shown_names p) k ≡ Some x → NameAt k x
  name-there k x e = first (get-split (device_part p) behind k x e)
    where
      devices-many : length (device_part p) ≡ c
      devices-many = length-map_of name_or_none (named p)

      functions-many : length (function_part p) ≡ length p.funcs
      functions-many = length-map_of (λ (f : Func). f.name) p.funcs

      second : (i : ℕ) → k ≡ length (device_part p) + i → (slice_get (function_part p) i ≡ Some x) ⊎ ((j : ℕ) × (i ≡ length (function_part p) + j) × (slice_get (object_part p) j ≡ Some x)) → NameAt k x
      second i h (inl g) =
          let n = devices-many in
          let r = get-unmap (λ (f : Func). f.name) p.funcs i x g in
          record { name = function_shown p (function_at i) r.0; there = function-there p function_at object_at i k r.0 r.1 (omega (arith, h, n)); is = ap (λ (y : List ℕ). Some y) r.2 }
      second i h (inr g) =
          let n = devices-many in
          let m = functions-many in
          let s = g.1 in
          let r = get-unmap (λ (o : Object). o.name) p.objects g.0 x g.2 in
          record { name = object_shown p (object_at g.0) r.0; there = object-there p function_at object_at g.0 k r.0 r.1 (omega (arith, h, n, m, s)); is = ap (λ (y : List ℕ). Some y) r.2 }

      first : (slice_get (device_part p) k ≡ Some x) ⊎ ((i : ℕ) × (k ≡ length (device_part p) + i) × (slice_get behind i ≡ Some x)) → NameAt k x
      first (inl g) =
          let r = get-unmap name_or_none (named p) k x g in
          record { name = device_shown r.0; there = named-there p function_at object_at k r.0 r.1; is = has-a-name r.0 (passes-at has_name p.devices k r.0 r.1) ∙ ap (λ (y : List ℕ). Some y) r.2 }
      first (inr g) = second g.0 g.1 (get-split (function_part p) (object_part p) g.0 x g.2)

  -- ---- they are given as they are wished for

  module _ (reserved : List (List ℕ)) (firsts : List Known) where
    pub file-names-are : given_names (things (text p function_at object_at identifiers sound order ∷ [])) reserved p.roles firsts ≡ shown_names p
    file-names-are =
        ap (λ (ks : List ℕ). names_for reserved (given_tags all reserved p.roles firsts) (intrinsic_names p.roles) (map (λ (k : ℕ). thing_wish (thing_at all k)) ks)) named-are
        ∙ (ap (names_for reserved (given_tags all reserved p.roles firsts) (intrinsic_names p.roles)) (mapped (λ (k : ℕ). thing_wish (thing_at all k)) Own 0 (shown_names p)
        (λ j k x e f.
        let s : j ≡ k = omega (arith, e) in
        let n = name-there k x (subst (λ (i : ℕ). slice_get (shown_names p) i ≡ Some x) s f) in
        ap thing_wish (thing-is p function_at object_at identifiers sound order k n.name n.there) ∙ ap (wish_or (codes "text")) n.is))
        ∙ stay reserved (given_tags all reserved p.roles firsts) (intrinsic_names p.roles) (shown_names p) (names-apart p sound).whole (names-apart p sound).intrinsics)

    abbrev given : ℕ → Option (List ℕ)
    given k = name_at all reserved p.roles firsts k

    name-known : (k : ℕ) (x : List ℕ) → slice_get (shown_names p) k ≡ Some x → given k ≡ Some x
    name-known k x e =
        let low = within (shown_names p) k x e in
        let n = length-numbers 0 (length (shown_names p)) in
        let z : k ≡ 0 + k = omega arith in
        let place : position (nat_eq k) (named_numbers all) ≡ Some k =
        ap (position (nat_eq k)) named-are ∙ position-some (nat_eq k) (numbers_from 0 (length (shown_names p))) k (place-number 0 (length (shown_names p)) k k z low) (omega (arith, low, n)) in
        ap (option_and_then (slice_get (given_names all reserved p.roles firsts))) place ∙ (ap (λ (xs : List (List ℕ)). slice_get xs k) file-names-are ∙ e)

    name-unknown : (k : ℕ) → length (shown_names p) ≤ k → given k ≡ None
    name-unknown k h =
        let absent : In k (numbers_from 0 (length (shown_names p))) → ⊥ = λ i. let b = (in-numbers 0 (length (shown_names p)) k i).1 in omega (arith, h, b) in
        ap (option_and_then (slice_get (given_names all reserved p.roles firsts))) (ap (position (nat_eq k)) named-are ∙ no-position k (numbers_from 0 (length (shown_names p))) absent)

    devices-many : length (device_part p) ≡ c
    devices-many = length-map_of name_or_none (named p)

    functions-many : length (function_part p) ≡ length p.funcs
    functions-many = length-map_of (λ (f : Func). f.name) p.funcs

    by-shown : (k : ℕ) (n : UnitName) → Shown p function_at object_at order k n → given k ≡ n.name
    by-shown k n (NamedDevice d e f h low s) =
        name-known k (name_or_none d) (get-left (device_part p) behind k (name_or_none d) (get-map name_or_none (named p) k d f)) ∙ (sym (has-a-name d h) ∙ sym (ap (λ (m : UnitName). m.name) s))
    by-shown k n (AFunction i f e h s) =
        let m = devices-many in
        name-known k f.name (get-right (device_part p) behind i k f.name (omega (arith, h, m)) (get-left (function_part p) (object_part p) i f.name (get-map (λ (g : Func). g.name) p.funcs i f e)))
        ∙ sym (ap (λ (m : UnitName). m.name) s)
    by-shown k n (AnObject i o e h s) =
        let m = devices-many in
        let l = functions-many in
        let inner : length p.funcs + i ≡ length (function_part p) + i = omega (arith, l) in
        name-known k o.name (get-right (device_part p) behind (length p.funcs + i) k o.name (omega (arith, h, m)) (get-right (function_part p) (object_part p) i (length p.funcs + i) o.name inner (get-map (λ (x : Object). x.name) p.objects i o e)))
        ∙ sym (ap (λ (m : UnitName). m.name) s)
    by-shown k n (NumberedDevice i d e h high g s) =
        let m = many in
        name-unknown k (omega (arith, g, high, m)) ∙ (sym (has-no-name d h) ∙ sym (ap (λ (m : UnitName). m.name) s))

    -- each thing has its own name
    pub name-is : (k : ℕ) (n : UnitName) → slice_get (names_shown p function_at object_at) k ≡ Some n → name_at (things (text p function_at object_at identifiers sound order ∷ [])) reserved p.roles firsts k ≡ n.name
    name-is k n e = by-shown k n (shown-at p function_at object_at order k n e)
