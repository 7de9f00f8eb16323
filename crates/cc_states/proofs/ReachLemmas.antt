-- What an activation reaches: its own locals, by name, and what is in memory.
use Rattle.std.proofs.Common.{◌≡◌, ◌∷◌, ◌++◌, inr, ℕ, ℤ, Bool, true, false, List, [], Option, Some, None, refl, subst, if◌then◌else◌}
use Rattle.std.proofs.lemmas.Option.{same_Some}
use Rattle.std.specs.Prelude.{nat_lt, option_map, option_and_then}
use Rattle.cc_steps.specs.CcEval.declared.spots.Spot.{Spot}
use Rattle.cc_steps.specs.CcEval.declared.spots.Spot.TheVariants as spot
use Rattle.cc_steps.specs.CcEval.Context.{Context, has_elements, path_to, named_by, designated, cell_of, reached, element_in, element, member}
use Rattle.cc_steps.specs.CcEval.Eval.{element_at}
use Rattle.cc_program.specs.declared.program.Program.{Program}
use Rattle.cc_program.specs.declared.value.Address.{Address}
use Rattle.cc_program.specs.declared.value.Address.TheVariants as address
use Rattle.cc_program.specs.declared.value.Cell.{Cell}
use Rattle.cc_program.specs.declared.value.Cell.TheVariants as cell
use Rattle.cc_program.specs.declared.value.Part.{Part}
use Rattle.cc_program.specs.declared.value.Part.TheVariants as part
use Rattle.cc_program.specs.declared.value.Root.{Root}
use Rattle.cc_program.specs.declared.value.Root.TheVariants as root
use Rattle.cc_program.specs.declared.value.Value.{Value}
use Rattle.cc_steps.specs.CcSyntax.Expressions.{of_two}
use Rattle.cc_steps.specs.CcSyntax.Initial.{bound_of}
use Rattle.cc_steps.specs.CcSyntax.Values.{ValueType, ToObject, ToFunction, PlaceType, DevicePlace, ObjectPlace, FunctionPlace}
use Rattle.cc_steps.specs.CcValues.Values.{integer, element_at as element_at_address}
use Rattle.cc_states.specs.Answers.{IsReached, IsCellReached}
use Rattle.cc_states.specs.Typed.{IsInMemory, IsAddress, IsSpot, MayLead}
use Rattle.cc_states.proofs.Options.{mapped}

module _ (p : Program) (number : ℕ) where
  -- to what a place leads, as far as it names an object
  abbrev pub SpotReached : Option Spot → Type 0
  SpotReached None = Unit {0}
  SpotReached (Some (spot.Device d)) = Unit {0}
  SpotReached (Some (spot.Object object path)) = IsReached p number object
  SpotReached (Some (spot.Address a)) = Unit {0}

  memory_reached : (object : Root) → IsInMemory p object → IsReached p number object
  memory_reached (root.Static i) h = tt
  memory_reached (root.Auto other func local) h = inr h

  pub address_spot : (x : Option Address) → SpotReached (option_map spot.Address x)
  address_spot None = tt
  address_spot (Some a) = tt

  element_spot : (bound : Option ℕ) (n : ℤ) (x : Option (Root × List Part)) → SpotReached (option_and_then (element_in bound n) x)
  element_spot bound n None = tt
  element_spot None n (Some o) = tt
  element_spot (Some count) n (Some o) = address_spot (element_at_address o.0 o.1 n count)

  module _ (openings : List ℕ) where
    named_memory : (to : ValueType) (u : PlaceType) (a : Address) (o : Root × List Part) → IsAddress p openings to a → named_by p u a ≡ Some o → IsInMemory p o.0
    named_memory to u address.Null o h e = absurd (cc)
    named_memory to u (address.Func f) o h e = absurd (cc)
    named_memory to u (address.At object path index count) o h e = by_count (nat_lt index count) e
      where
        by_count : (b : Bool) → (if b then Some (object, path_to (has_elements p u object path) path index) else None) ≡ Some o → IsInMemory p o.0
        by_count true e = subst (λ (x : Root × List Part). IsInMemory p x.0) (same_Some (object, path_to (has_elements p u object path) path index) o e) h.2
        by_count false e = absurd (cc)

    spot_memory : (u : PlaceType) (a : Address) (o : Root × List Part) → IsSpot p openings u (spot.Address a) → named_by p u a ≡ Some o → IsInMemory p o.0
    spot_memory (DevicePlace constant t) a o h e = absurd h
    spot_memory (ObjectPlace c v t) a o h e = named_memory (ToObject c v t) (ObjectPlace c v t) a o h e
    spot_memory (FunctionPlace sig) a o h e = named_memory (ToFunction sig) (FunctionPlace sig) a o h e

    designated_reached : (u : PlaceType) (s : Spot) (o : Root × List Part) → IsSpot p openings u s → SpotReached (Some s) → designated p u s ≡ Some o → IsReached p number o.0
    designated_reached u (spot.Device d) o h k e = absurd (cc)
    designated_reached u (spot.Object object path) o h k e = subst (λ (x : Root × List Part). IsReached p number x.0) (same_Some (object, path) o e) k
    designated_reached u (spot.Address a) o h k e = memory_reached o.0 (spot_memory u a o h e)

    pub cell_reached : (u : PlaceType) (s : Option Spot) (at : Cell) → MayLead p openings u s → SpotReached s → reached p (Some u) s ≡ Some at → IsCellReached p number at
    cell_reached u None at h k e = absurd (cc)
    cell_reached u (Some (spot.Device d)) at h k e = subst (IsCellReached p number) (same_Some (cell.Device d) at e) tt
    cell_reached u (Some (spot.Object object path)) at h k e = subst (IsCellReached p number) (same_Some (cell.At object path) at e) k
    cell_reached u (Some (spot.Address a)) at h k e =
        let o = mapped cell_of (named_by p u a) at e in
        subst (IsCellReached p number) o.2 (memory_reached o.0.0 (spot_memory u a o.0 h o.1))

    member_by : (m : ℕ) (x : Option (Root × List Part)) → ((o : Root × List Part) → x ≡ Some o → IsReached p number o.0) → SpotReached (option_map (λ o. spot.Object o.0 (o.1 ++ part.Member m ∷ [])) x)
    member_by m None h = tt
    member_by m (Some o) h = h o refl

    pub member_reached : (u : PlaceType) (m : ℕ) (s : Option Spot) → MayLead p openings u s → SpotReached s → SpotReached (of_two (Some u) s (member p m))
    member_reached u m None h k = tt
    member_reached u m (Some s) h k = member_by m (designated p u s) (λ o e. designated_reached u s o h k e)

module _ (c : Context) where
  pub element_reached : (t : Option PlaceType) (s : Option Spot) (v : Option Value) → SpotReached c.program c.number (element_at c t s v)
  element_reached None s v = tt
  element_reached (Some t) None v = tt
  element_reached (Some t) (Some s) v = by_number (integer v)
    where
      by_number : (n : Option ℤ) → SpotReached c.program c.number (option_and_then (λ n. element c.program n t s) n)
      by_number None = tt
      by_number (Some n) = element_spot c.program c.number (bound_of t) n (designated c.program t s)
