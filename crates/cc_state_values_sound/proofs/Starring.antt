-- What a set of addresses keeps of one leads where the address itself leads: an activation's number and the indexes of elements tell nothing
-- of types. So what is in an object of a set is in the set of what is in its objects.
use Rattle.std.proofs.Common.{arith, ◌≡◌, ℕ, ℤ, Bool, true, false, ltb-true, lt-ltb, List, [], ◌∷◌, ◌++◌, map, Option, Some, None, refl, ap, sym, ◌∙◌, subst}
use Rattle.std.proofs.lemmas.List.{map-append}
use Rattle.std.proofs.lemmas.Option.{same_Some}
use Rattle.std.specs.List.{Contains}
use Rattle.std.specs.Prelude.{is_some, nat_lt, option_map, option_and_then, if◌then◌else◌}
use Rattle.cc_state_values.specs.CcEval.Context.{object_type, has_elements, path_to, named_by, are_alike}
use Rattle.cc_state_values.specs.CcPlaces.Kept.{kept_root, kept, starred_part, starred, member_for}
use Rattle.cc_state_values.specs.CcPlaces.Sets.{HasAddress, IsSetOf}
use Rattle.cc_state_values.specs.CcPlaces.declared.addrs.Addrs.{Addrs}
use Rattle.cc_state_values.specs.CcPlaces.laws.KeptLaws.{kept_twice, starred_of_kept}
use Rattle.cc_program.specs.declared.program.Program.{Program}
use Rattle.cc_program.specs.declared.types.Structure.{Structure}
use Rattle.cc_program.specs.declared.value.Address.{Address}
use Rattle.cc_program.specs.declared.value.Address.TheVariants as address
use Rattle.cc_program.specs.declared.value.Part.{Part}
use Rattle.cc_program.specs.declared.value.Part.TheVariants as part
use Rattle.cc_program.specs.declared.value.Root.{Root}
use Rattle.cc_program.specs.declared.value.Root.TheVariants as root
use Rattle.cc_state_values.specs.CcStateOperators.Addresses.{object_address, member_address, element_in, IsElement, HasStepped}
use Rattle.cc_state_values_sound.specs.Steps.{leads_anywhere, IsReal}
use Rattle.cc_state_values.specs.CcSyntax.Expressions.{of_one}
use Rattle.cc_state_values.specs.CcSyntax.Initial.{bound_of, is_below, step_into, place_at}
use Rattle.cc_state_values.specs.CcSyntax.Values.{PlaceType, element_of}
use Rattle.cc_state_values.specs.CcValues.Values.{index_in}

-- ---- paths

lower_below : (i n : ℕ) → nat_lt i n ≡ true → nat_lt 0 n ≡ true
lower_below i n h = let k = ltb-true i n h in lt-ltb 0 n (omega arith)

first_below : (i : ℕ) (bound : Option ℕ) → is_below i bound ≡ true → is_below 0 bound ≡ true
first_below i None h = absurd (cc)
first_below i (Some n) h = lower_below i n h

taken : {A : Type 0} (b : Bool) (x : Option A) (y : A) → (if b then x else None) ≡ Some y → (b ≡ true) × (x ≡ Some y)
taken true x y h = (refl, h)
taken false x y h = absurd (cc)

step_starred : (structures : List Structure) (step : Part) (a b : PlaceType) → step_into structures step a ≡ Some b → step_into structures (starred_part step) a ≡ Some b
step_starred structures (part.Member m) a b h = h
step_starred structures (part.Index i) a b h =
    let w = taken (is_below i (bound_of a)) (element_of a) b h in
    ap (λ (z : Bool). if z then element_of a else None) (first_below i (bound_of a) w.0) ∙ w.1

one_step : {A B : Type 0} (x : Option A) (f : A → Option B) (y : B) → of_one x f ≡ Some y → (a : A) × (x ≡ Some a) × (f a ≡ Some y)
one_step None f y h = absurd (cc)
one_step (Some a) f y h = (a, refl, h)

pub path_starred : (structures : List Structure) (path : List Part) (a b : PlaceType) → place_at structures path a ≡ Some b → place_at structures (map starred_part path) a ≡ Some b
path_starred structures [] a b h = h
path_starred structures (step ∷ path) a b h =
    let w = one_step (step_into structures step a) (place_at structures path) b h in
    ap (λ z. of_one z (place_at structures (map starred_part path))) (step_starred structures step a w.0 w.1) ∙ path_starred structures path w.0 b w.2

part_twice : (path : List Part) → map starred_part (map starred_part path) ≡ map starred_part path
part_twice [] = refl
part_twice (part.Member m ∷ path) = ap (λ (z : List Part). part.Member m ∷ z) (part_twice path)
part_twice (part.Index i ∷ path) = ap (λ (z : List Part). part.Index 0 ∷ z) (part_twice path)

longer_starred : (path : List Part) (step : Part) → map starred_part (map starred_part path ++ starred_part step ∷ []) ≡ map starred_part (path ++ step ∷ [])
longer_starred path step =
    map-append starred_part (map starred_part path) (starred_part step ∷ []) ∙ ap (λ (z : List Part). z ++ starred_part (starred_part step) ∷ []) (part_twice path)
    ∙ ap (λ (z : Part). map starred_part path ++ z ∷ []) (step_twice step) ∙ sym (map-append starred_part path (step ∷ []))
  where
    step_twice : (step : Part) → starred_part (starred_part step) ≡ starred_part step
    step_twice (part.Member m) = refl
    step_twice (part.Index i) = refl

path_to_starred : (elements : Bool) (path : List Part) (index : ℕ) → map starred_part (path_to elements (map starred_part path) 0) ≡ map starred_part (path_to elements path index)
path_to_starred true path index = longer_starred path (part.Index index)
path_to_starred false path index = part_twice path

-- a path that is longer by a step, from two that are starred alike
append_starred : (p q : List Part) (step : Part) → map starred_part p ≡ map starred_part q → map starred_part (p ++ step ∷ []) ≡ map starred_part (q ++ step ∷ [])
append_starred p q step h = map-append starred_part p (step ∷ []) ∙ ap (λ (z : List Part). z ++ starred_part step ∷ []) h ∙ sym (map-append starred_part q (step ∷ []))

-- ---- objects

module _ (p : Program) where
  root_type : (o : Root) → object_type p (kept_root o) ≡ object_type p o
  root_type (root.Static i) = refl
  root_type (root.Auto n f l) = refl

  root_twice : (o : Root) → kept_root (kept_root o) ≡ kept_root o
  root_twice (root.Static i) = refl
  root_twice (root.Auto n f l) = refl

  elements_kept : (t : PlaceType) (o : Root) (path : List Part) → has_elements p t (kept_root o) path ≡ has_elements p t o path
  elements_kept t (root.Static i) path = refl
  elements_kept t (root.Auto n f l) path = refl

  real_starred : (path : List Part) (x : Option PlaceType) → is_some (option_and_then (place_at p.structures path) x) ≡ true →
      option_and_then (place_at p.structures (map starred_part path)) x ≡ option_and_then (place_at p.structures path) x
  real_starred path None h = absurd (cc)
  real_starred path (Some a) h = by_place (place_at p.structures path a) refl h
    where
      by_place : (y : Option PlaceType) → place_at p.structures path a ≡ y → is_some (place_at p.structures path a) ≡ true → place_at p.structures (map starred_part path) a ≡ place_at p.structures path a
      by_place None e k = let z : false ≡ true = ap is_some (sym e) ∙ k in absurd (cc)
      by_place (Some b) e k = path_starred p.structures path a b e ∙ sym e

  elements_starred : (t : PlaceType) (o : Root) (path : List Part) → leads_anywhere p o path ≡ true → has_elements p t (kept_root o) (map starred_part path) ≡ has_elements p t o path
  elements_starred t o path h = elements_kept t o (map starred_part path) ∙ ap (λ z. are_alike (option_and_then element_of z) t) (real_starred path (object_type p o) h)

  -- what an address names, and what is kept of it
  abbrev kept_object : Root × List Part → Root × List Part
  kept_object o = (kept_root o.0, o.1)

  if_named : (b : Bool) (x y : Root × List Part) → x ≡ y → (if b then Some x else None) ≡ (if b then Some y else None)
  if_named true x y h = ap (λ (z : Root × List Part). Some z) h
  if_named false x y h = refl

  if_mapped : (b : Bool) (x : Root × List Part) → (if b then Some (kept_object x) else None) ≡ option_map kept_object (if b then Some x else None)
  if_mapped true x = refl
  if_mapped false x = refl

  pub named_kept : (t : PlaceType) (a : Address) → named_by p t (kept a) ≡ option_map kept_object (named_by p t a)
  named_kept t address.Null = refl
  named_kept t (address.Func f) = refl
  named_kept t (address.At o path i n) =
      if_named (nat_lt i n) (kept_root o, path_to (has_elements p t (kept_root o) path) path i) (kept_root o, path_to (has_elements p t o path) path i)
      (ap (λ (e : Bool). (kept_root o, path_to e path i)) (elements_kept t o path))
      ∙ if_mapped (nat_lt i n) (o, path_to (has_elements p t o path) path i)

  -- objects that are starred alike
  pub record AreInOnePlace (x y : Root × List Part) : Type 0 where
    pub object : kept_root x.0 ≡ kept_root y.0
    pub path : map starred_part x.1 ≡ map starred_part y.1

  pub named_starred : (t : PlaceType) (a : Address) (x : Root × List Part) → IsReal p a → named_by p t a ≡ Some x → (y : Root × List Part) × (named_by p t (starred a) ≡ Some y) × AreInOnePlace y x
  named_starred t address.Null x r h = absurd (cc)
  named_starred t (address.Func f) x r h = absurd (cc)
  named_starred t (address.At o path i n) x r h =
      let w = taken (nat_lt i n) (Some (o, path_to (has_elements p t o path) path i)) x h in
      let same = same_Some (o, path_to (has_elements p t o path) path i) x w.1 in
      let there = ap (λ (e : Bool). if e then Some (kept_root o, path_to (has_elements p t (kept_root o) (map starred_part path)) (map starred_part path) 0) else None) (lower_below i n w.0) in
      let y : Root × List Part = (kept_root o, path_to (has_elements p t (kept_root o) (map starred_part path)) (map starred_part path) 0) in
      let alike : AreInOnePlace y (o, path_to (has_elements p t o path) path i) = record {
        object = root_twice o;
        path = ap (λ (e : Bool). map starred_part (path_to e (map starred_part path) 0)) (elements_starred t o path r) ∙ path_to_starred (has_elements p t o path) path i;
      } in
      (y, there, subst (λ z. AreInOnePlace y z) same alike)

  -- ---- what is in an object

  -- a step from addresses to those of what is in their objects tells no activation, and no index of an element
  pub record IsStepOf (step : Address → Address → Type 0) : Type 0 where
    pub keeps : (a b : Address) → step a b → step (kept a) (kept b)
    pub stars : (a b : Address) → IsReal p a → step a b → (c : Address) × step (starred a) c × (starred c ≡ starred b)

  in_stepped : (step : Address → Address → Type 0) → IsStepOf step → (s r : Addrs) (exact : Bool) (a b : Address) → IsSetOf (HasStepped step s exact) r → Contains s.members (member_for exact a) → IsReal p a → step a b → HasAddress r b
  in_stepped step steps s r true a b h k real l = (h.has b).1 (kept b, (kept a, k, steps.keeps a b l), same r.is_exact)
    where
      same : (e : Bool) → member_for e (kept b) ≡ member_for e b
      same true = kept_twice b
      same false = starred_of_kept b
  in_stepped step steps s r false a b h k real l =
      let w = steps.stars a b real l in
      (h.has b).1 (b, (starred a, w.0, k, w.1, sym w.2), refl)

  pub stepped_has : (step : Address → Address → Type 0) → IsStepOf step → (s r : Addrs) (a b : Address) → IsSetOf (HasStepped step s s.is_exact) r → HasAddress s a → IsReal p a → step a b → HasAddress r b
  stepped_has step steps s r a b h k real l = in_stepped step steps s r s.is_exact a b h k real l

  some_mapped : {A B : Type 0} (f : A → B) (x : Option A) (b : B) → option_map f x ≡ Some b → (a : A) × (x ≡ Some a) × (f a ≡ b)
  some_mapped f None b h = absurd (cc)
  some_mapped f (Some a) b h = (a, refl, same_Some (f a) b h)

  some_then : {A B : Type 0} (f : A → Option B) (x : Option A) (b : B) → option_and_then f x ≡ Some b → (a : A) × (x ≡ Some a) × (f a ≡ Some b)
  some_then f None b h = absurd (cc)
  some_then f (Some a) b h = (a, refl, h)

  -- members
  abbrev member_in : ℕ → Root × List Part → Address
  member_in m o = object_address o.0 (o.1 ++ part.Member m ∷ [])

  pub member_steps : (t : PlaceType) (m : ℕ) → IsStepOf (λ a b. member_address p t m a ≡ Some b)
  member_steps t m = record { keeps = keeps; stars = stars }
    where
      keeps : (a b : Address) → member_address p t m a ≡ Some b → member_address p t m (kept a) ≡ Some (kept b)
      keeps a b h =
          let w = some_mapped (member_in m) (named_by p t a) b h in
          ap (option_map (member_in m)) (named_kept t a) ∙ ap (λ z. option_map (member_in m) (option_map kept_object z)) w.1 ∙ ap (λ (z : Address). Some (kept z)) w.2

      stars : (a b : Address) → IsReal p a → member_address p t m a ≡ Some b → (c : Address) × (member_address p t m (starred a) ≡ Some c) × (starred c ≡ starred b)
      stars a b real h =
          let w = some_mapped (member_in m) (named_by p t a) b h in
          let y = named_starred t a w.0 real w.1 in (
            member_in m y.0,
            ap (option_map (member_in m)) y.1,
            ap (λ (o : Root). address.At o (map starred_part (y.0.1 ++ part.Member m ∷ [])) 0 1) y.2.object
                ∙ ap (λ (z : List Part). address.At (kept_root w.0.0) z 0 1) (append_starred y.0.1 w.0.1 (part.Member m) y.2.path) ∙ ap starred w.2,
          )

  -- elements
  element_kept : (bound : Option ℕ) (i : ℤ) (o : Root × List Part) (b : Address) → element_in bound i o ≡ Some b → element_in bound i (kept_object o) ≡ Some (kept b)
  element_kept None i o b h = absurd (cc)
  element_kept (Some count) i o b h =
      let w = some_mapped (λ (k : ℕ). address.At o.0 o.1 k count) (index_in i count) b h in
      ap (option_map (λ (k : ℕ). address.At (kept_root o.0) o.1 k count)) w.1 ∙ ap (λ (z : Address). Some (kept z)) w.2

  element_starred : (bound : Option ℕ) (i : ℤ) (x y : Root × List Part) (b : Address) → AreInOnePlace y x → element_in bound i x ≡ Some b → (c : Address) × (element_in bound i y ≡ Some c) × (starred c ≡ starred b)
  element_starred None i x y b q h = absurd (cc)
  element_starred (Some count) i x y b q h =
      let w = some_mapped (λ (k : ℕ). address.At x.0 x.1 k count) (index_in i count) b h in (
        address.At y.0 y.1 w.0 count,
        ap (option_map (λ (k : ℕ). address.At y.0 y.1 k count)) w.1,
        ap (λ (o : Root). address.At o (map starred_part y.1) 0 count) q.object ∙ ap (λ (z : List Part). address.At (kept_root x.0) z 0 count) q.path ∙ ap starred w.2,
      )

  pub element_steps : (t : PlaceType) (subscripts : ℤ → Type 0) → IsStepOf (IsElement p t subscripts)
  element_steps t subscripts = record { keeps = keeps; stars = stars }
    where
      keeps : (a b : Address) → IsElement p t subscripts a b → IsElement p t subscripts (kept a) (kept b)
      keeps a b (i, s, h) =
          let w = some_then (element_in (bound_of t) i) (named_by p t a) b h in (
            i,
            s,
            ap (option_and_then (element_in (bound_of t) i)) (named_kept t a) ∙ ap (λ z. option_and_then (element_in (bound_of t) i) (option_map kept_object z)) w.1 ∙ element_kept (bound_of t) i w.0 b w.2,
          )

      stars : (a b : Address) → IsReal p a → IsElement p t subscripts a b → (c : Address) × IsElement p t subscripts (starred a) c × (starred c ≡ starred b)
      stars a b real (i, s, h) =
          let w = some_then (element_in (bound_of t) i) (named_by p t a) b h in
          let y = named_starred t a w.0 real w.1 in
          let z = element_starred (bound_of t) i w.0 y.0 b y.2 w.2 in
          (z.0, (i, s, ap (option_and_then (element_in (bound_of t) i)) y.1 ∙ z.1), z.2)
