-- Where places lead is an address of the set that the place has: the place names the object that the address names.
use Rattle.std.proofs.Common.{◌≡◌, ℕ, ℤ, Bool, true, false, List, [], ◌∷◌, ◌++◌, Option, Some, None, refl, ap, sym, subst}
use Rattle.std.proofs.lemmas.Option.{same_Some}
use Rattle.std.specs.Prelude.{option_map, option_and_then}
use Rattle.cc_state_values.specs.CcEval.Context.{Context, has_elements, path_to, named_by, designated, element_in as spot_in, element, member, address_at}
use Rattle.cc_state_values.specs.CcEval.Eval.{element_at as spot_at}
use Rattle.cc_state_values.specs.CcEval.declared.spots.Spot.{Spot}
use Rattle.cc_state_values.specs.CcEval.declared.spots.Spot.TheVariants as spot
use Rattle.cc_state_values.specs.CcPlaces.Kept.{member_for}
use Rattle.cc_state_values.specs.CcPlaces.Sets.{HasAddress}
use Rattle.cc_state_values.specs.CcPlaces.declared.abs.Abs.TheVariants as abs
use Rattle.cc_state_values.specs.CcPlaces.declared.addrs.Addrs.{Addrs}
use Rattle.cc_program.specs.declared.program.Program.{Program}
use Rattle.cc_program.specs.declared.value.Address.{Address}
use Rattle.cc_program.specs.declared.value.Part.{Part}
use Rattle.cc_program.specs.declared.value.Part.TheVariants as part
use Rattle.cc_program.specs.declared.value.Root.{Root}
use Rattle.cc_program.specs.declared.value.Root.TheVariants as root
use Rattle.cc_program.specs.declared.value.Value.{Value}
use Rattle.cc_program.specs.declared.value.Value.TheVariants.{Int, Place}
use Rattle.cc_state_values.specs.CcStateOperators.Addresses.{object_address, IsOnly, member_address, element_in, IsElement, AreMembers, AreElements}
use Rattle.cc_state_values_sound.proofs.Starring.{stepped_has, member_steps, element_steps}
use Rattle.cc_state_values_sound.specs.Steps.{MayGive, LeadsInto, IsReal, IsFit, MayFit}
use Rattle.cc_state_values.specs.CcSyntax.Expressions.{of_two}
use Rattle.cc_state_values.specs.CcSyntax.Initial.{bound_of}
use Rattle.cc_state_values.specs.CcSyntax.Values.{PlaceType}
use Rattle.cc_state_values.specs.CcValues.Values.{address_in, element_at}

-- a named object, whatever the number of its activation is

own_same : (exact : Bool) (number f r : ℕ) → member_for exact (object_address (root.Auto 0 f r) []) ≡ member_for exact (object_address (root.Auto number f r) [])
own_same true number f r = refl
own_same false number f r = refl

pub only_has : (s : Addrs) (a b : Address) → IsOnly a s → member_for s.is_exact a ≡ member_for s.is_exact b → HasAddress s b
only_has s a b h k = (h.has b).1 (a, refl, k)

found : (s : Addrs) (a : Address) → HasAddress s a → LeadsInto s (Some (spot.Address a))
found s a h b e = subst (HasAddress s) (same_Some a b e) h

at_object : (s : Addrs) (o : Root) (path : List Part) → HasAddress s (object_address o path) → LeadsInto s (Some (spot.Object o path))
at_object s o path h b e = subst (HasAddress s) (same_Some (object_address o path) b e) h

pub local_leads : (s : Addrs) (number f r : ℕ) → IsOnly (object_address (root.Auto 0 f r) []) s → LeadsInto s (Some (spot.Object (root.Auto number f r) []))
local_leads s number f r h = at_object s (root.Auto number f r) [] (only_has s (object_address (root.Auto 0 f r) []) (object_address (root.Auto number f r) []) h (own_same s.is_exact number f r))

pub static_leads : (s : Addrs) (i : ℕ) → IsOnly (object_address (root.Static i) []) s → LeadsInto s (Some (spot.Object (root.Static i) []))
static_leads s i h = at_object s (root.Static i) [] (only_has s (object_address (root.Static i) []) (object_address (root.Static i) []) h refl)

pub device_leads : (s : Addrs) (d : ℕ) → LeadsInto s (Some (spot.Device d))
device_leads s d a e = absurd (cc)

-- where a pointer points
pub pointer_leads : {I : Type 0} (has : I → ℤ → Type 0) (s : Addrs) (v : Option Value) → MayGive has (abs.Addrs s) v → LeadsInto s (option_map spot.Address (address_in v))
pointer_leads has s None h = tt
pointer_leads has s (Some (Int n)) h = absurd h
pointer_leads has s (Some (Place a)) h = found s a h

-- a pointer to a place
pub address_gives : {I : Type 0} (has : I → ℤ → Type 0) (s : Addrs) (there : Option Spot) → LeadsInto s there → MayGive has (abs.Addrs s) (option_map Place (option_and_then address_at there))
address_gives has s None h = tt
address_gives {I = I} has s (Some there) h = by_address (address_at there) (λ a e. h a e)
  where
    by_address : (x : Option Address) → ((a : Address) → x ≡ Some a → HasAddress s a) → MayGive {I = I} has (abs.Addrs s) (option_map Place x)
    by_address None k = tt
    by_address (Some a) k = k a refl

-- ---- what is in an object

module _ (p : Program) where
  -- the address that a place has, which names what the place does
  record IsAddressOf (t : PlaceType) (there : Spot) : Type 0 where
    pub place : Address
    pub is_place : address_at there ≡ Some place
    pub real : IsReal p place
    pub names : designated p t there ≡ named_by p t place

  named_itself : (t : PlaceType) (o : Root) (path : List Part) → has_elements p t o path ≡ false → Some (o, path) ≡ named_by p t (object_address o path)
  named_itself t o path h = ap (λ (e : Bool). Some (o, path_to e path 0)) (sym h)

  -- of a device there is none
  by_address : {A : Type 0} (t : PlaceType) (there : Spot) → IsFit p t there → (designated p t there ≡ None → A) → (IsAddressOf t there → A) → A
  by_address t (spot.Device d) f none some = none refl
  by_address t (spot.Object o path) f none some = some (record { place = object_address o path; is_place = refl; real = f.0; names = named_itself t o path f.1 })
  by_address t (spot.Address a) f none some = some (record { place = a; is_place = refl; real = f; names = refl })

  -- members

  member_found : (m : ℕ) (r : Addrs) (x : Option (Root × List Part)) → ((b : Address) → option_map (λ (o : Root × List Part). object_address o.0 (o.1 ++ part.Member m ∷ [])) x ≡ Some b → HasAddress r b) →
      LeadsInto r (option_map (λ (o : Root × List Part). spot.Object o.0 (o.1 ++ part.Member m ∷ [])) x)
  member_found m r None h = tt
  member_found m r (Some o) h = at_object r o.0 (o.1 ++ part.Member m ∷ []) (h (object_address o.0 (o.1 ++ part.Member m ∷ [])) refl)

  member_spot : (m : ℕ) (t : PlaceType) (s r : Addrs) (there : Spot) → AreMembers p t m s r → IsFit p t there → LeadsInto s (Some there) → LeadsInto r (member p m t there)
  member_spot m t s r there h f l =
      by_address t there f
      (λ e. subst (λ z. LeadsInto r (option_map (λ (o : Root × List Part). spot.Object o.0 (o.1 ++ part.Member m ∷ [])) z)) (sym e) tt)
      (λ k. subst (λ z. LeadsInto r (option_map (λ (o : Root × List Part). spot.Object o.0 (o.1 ++ part.Member m ∷ [])) z)) (sym k.names)
      (member_found m r (named_by p t k.place) (λ b e. stepped_has p (λ a b. member_address p t m a ≡ Some b) (member_steps p t m) s r k.place b h (l k.place k.is_place) k.real e)))

  pub member_leads : (m : ℕ) (t : PlaceType) (u : Option PlaceType) (s r : Addrs) (there : Option Spot) → u ≡ Some t → AreMembers p t m s r → MayFit p u there → LeadsInto s there → LeadsInto r (of_two u there (member p m))
  member_leads m t None s r there e h f l = absurd (cc)
  member_leads m t (Some u) s r None e h f l = tt
  member_leads m t (Some u) s r (Some there) e h f l = member_spot m u s r there (subst (λ z. AreMembers p z m s r) (sym (same_Some u t e)) h) f l

  -- elements

  element_found : (bound : Option ℕ) (n : ℤ) (r : Addrs) (x : Option (Root × List Part)) → ((b : Address) → option_and_then (element_in bound n) x ≡ Some b → HasAddress r b) → LeadsInto r (option_and_then (spot_in bound n) x)
  element_found bound n r None h = tt
  element_found None n r (Some o) h = tt
  element_found (Some count) n r (Some o) h = by_index (element_at o.0 o.1 n count) h
    where
      by_index : (x : Option Address) → ((b : Address) → x ≡ Some b → HasAddress r b) → LeadsInto r (option_map spot.Address x)
      by_index None k = tt
      by_index (Some a) k = found r a (k a refl)

  element_spot : (subscripts : ℤ → Type 0) (n : ℤ) (t : PlaceType) (s r : Addrs) (there : Spot) → subscripts n → AreElements p t subscripts s r → IsFit p t there → LeadsInto s (Some there) → LeadsInto r (element p n t there)
  element_spot subscripts n t s r there i h f l =
      by_address t there f
      (λ e. subst (λ z. LeadsInto r (option_and_then (spot_in (bound_of t) n) z)) (sym e) tt)
      (λ k. subst (λ z. LeadsInto r (option_and_then (spot_in (bound_of t) n) z)) (sym k.names)
      (element_found (bound_of t) n r (named_by p t k.place) (λ b e. stepped_has p (IsElement p t subscripts) (element_steps p t subscripts) s r k.place b h (l k.place k.is_place) k.real (n, i, e))))

pub element_leads : {I : Type 0} (has : I → ℤ → Type 0) (c : Context) (x : I) (t : PlaceType) (u : Option PlaceType) (s r : Addrs) (there : Option Spot) (v : Option Value) → u ≡ Some t → AreElements c.program t (has x) s r →
    MayFit c.program u there → LeadsInto s there → MayGive has (abs.Ints x) v → LeadsInto r (spot_at c u there v)
element_leads has c x t None s r there v e h f l g = absurd (cc)
element_leads has c x t (Some u) s r None v e h f l g = tt
element_leads has c x t (Some u) s r (Some there) None e h f l g = tt
element_leads has c x t (Some u) s r (Some there) (Some (Place a)) e h f l g = absurd g
element_leads has c x t (Some u) s r (Some there) (Some (Int n)) e h f l g =
    element_spot c.program (has x) n u s r there g (subst (λ z. AreElements c.program z (has x) s r) (sym (same_Some u t e)) h) f l
