-- Where places lead: to objects that pass the test, where a place lies in none that fails it.
use Rattle.std.proofs.Common.{◌≡◌, ◌++◌, ℕ, ℤ, Bool, true, false, List, [], ◌∷◌, Option, Some, None, option_map, if◌then◌else◌}
use Rattle.std.specs.Prelude.{option_and_then, nat_lt}
use Rattle.cc_program.specs.declared.program.Program.{Program}
use Rattle.cc_program.specs.declared.value.Address.{Address}
use Rattle.cc_program.specs.declared.value.Address.TheVariants as address
use Rattle.cc_program.specs.declared.value.Part.{Part}
use Rattle.cc_program.specs.declared.value.Part.TheVariants as part
use Rattle.cc_program.specs.declared.value.Root.{Root}
use Rattle.cc_program.specs.declared.value.Value.{Value}
use Rattle.cc_program.specs.declared.value.Value.TheVariants.{Int, Place}
use Rattle.cc_states.specs.CcSyntax.Expressions.{of_two}
use Rattle.cc_states.specs.CcSyntax.Initial.{bound_of}
use Rattle.cc_states.specs.CcSyntax.Values.{PlaceType}
use Rattle.cc_states.specs.CcValues.Values.{integer, address_in, index_in}
use Rattle.cc_states.specs.CcEval.declared.spots.Spot.{Spot}
use Rattle.cc_states.specs.CcEval.declared.spots.Spot.TheVariants as spot
use Rattle.cc_states.specs.CcEval.Context.{Context, has_elements, path_to, named_by, designated, element_in, element, member}
use Rattle.cc_states.specs.CcEval.Eval.{address_of, element_at}
use Rattle.cc_rewrite_addresses.specs.Holds.{MayIn}
use Rattle.cc_rewrite_renamed.specs.Names.{names_in_root, names_in_address}

module _ (test : ℕ → Bool) where
  abbrev pub PlacedIn : Option Spot → Type 0
  PlacedIn None = Unit {0}
  PlacedIn (Some (spot.Device d)) = Unit {0}
  PlacedIn (Some (spot.Object object path)) = names_in_root test object ≡ true
  PlacedIn (Some (spot.Address a)) = names_in_address test a ≡ true

  -- nothing is said of a place in an object that fails
  abbrev pub SpotIn : Bool → Option Spot → Type 0
  SpotIn true s = Unit {0}
  SpotIn false s = PlacedIn s

  abbrev ObjectIn : Option (Root × List Part) → Type 0
  ObjectIn None = Unit {0}
  ObjectIn (Some o) = names_in_root test o.0 ≡ true

  named_if : (o : Root) (path : List Part) (b : Bool) → names_in_root test o ≡ true → ObjectIn (if b then Some (o, path) else None)
  named_if o path true h = h
  named_if o path false h = tt

  named_in : (p : Program) (t : PlaceType) (a : Address) → names_in_address test a ≡ true → ObjectIn (named_by p t a)
  named_in p t address.Null h = tt
  named_in p t (address.Func f) h = tt
  named_in p t (address.At o path index count) h = named_if o (path_to (has_elements p t o path) path index) (nat_lt index count) h

  designated_in : (p : Program) (t : PlaceType) (s : Spot) → PlacedIn (Some s) → ObjectIn (designated p t s)
  designated_in p t (spot.Device d) h = tt
  designated_in p t (spot.Object o path) h = h
  designated_in p t (spot.Address a) h = named_in p t a h

  elements : (o : Root) (path : List Part) (count : ℕ) (i : Option ℕ) → names_in_root test o ≡ true → PlacedIn (option_map spot.Address (option_map (λ i. address.At o path i count) i))
  elements o path count None h = tt
  elements o path count (Some i) h = h

  within : (bound : Option ℕ) (n : ℤ) (o : Root × List Part) → names_in_root test o.0 ≡ true → PlacedIn (element_in bound n o)
  within None n o h = tt
  within (Some count) n o h = elements o.0 o.1 count (index_in n count) h

  element_placed : (p : Program) (n : ℤ) (t : PlaceType) (s : Spot) → PlacedIn (Some s) → PlacedIn (element p n t s)
  element_placed p n t s h = by (designated p t s) (designated_in p t s h)
    where
      by : (o : Option (Root × List Part)) → ObjectIn o → PlacedIn (option_and_then (element_in (bound_of t) n) o)
      by None h = tt
      by (Some o) h = within (bound_of t) n o h

  element_by : (c : Context) (t : Option PlaceType) (s : Option Spot) (v : Option Value) → PlacedIn s → PlacedIn (element_at c t s v)
  element_by c None s v h = tt
  element_by c (Some t) None v h = tt
  element_by c (Some t) (Some s) v h = by (integer v)
    where
      by : (n : Option ℤ) → PlacedIn (option_and_then (λ n. element c.program n t s) n)
      by None = tt
      by (Some n) = element_placed c.program n t s h

  pub element_in_spot : (own : Bool) (c : Context) (t : Option PlaceType) (s : Option Spot) (v : Option Value) → SpotIn own s → SpotIn own (element_at c t s v)
  element_in_spot true c t s v h = tt
  element_in_spot false c t s v h = element_by c t s v h

  member_by : (p : Program) (m : ℕ) (t : Option PlaceType) (s : Option Spot) → PlacedIn s → PlacedIn (of_two t s (member p m))
  member_by p m None s h = tt
  member_by p m (Some t) None h = tt
  member_by p m (Some t) (Some s) h = by (designated p t s) (designated_in p t s h)
    where
      by : (o : Option (Root × List Part)) → ObjectIn o → PlacedIn (option_map (λ o. spot.Object o.0 (o.1 ++ part.Member m ∷ [])) o)
      by None h = tt
      by (Some o) h = h

  pub member_in_spot : (own : Bool) (p : Program) (m : ℕ) (t : Option PlaceType) (s : Option Spot) → SpotIn own s → SpotIn own (of_two t s (member p m))
  member_in_spot true p m t s h = tt
  member_in_spot false p m t s h = member_by p m t s h

  pub address_of_in : (s : Option Spot) → PlacedIn s → MayIn test (address_of s)
  address_of_in None h = tt
  address_of_in (Some (spot.Device d)) h = tt
  address_of_in (Some (spot.Object o path)) h = h
  address_of_in (Some (spot.Address a)) h = h

  pub pointed_in : (v : Option Value) → MayIn test v → PlacedIn (option_map spot.Address (address_in v))
  pointed_in None h = tt
  pointed_in (Some (Int n)) h = tt
  pointed_in (Some (Place a)) h = h
