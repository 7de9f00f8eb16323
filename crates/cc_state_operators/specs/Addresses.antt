-- Sets of the addresses that places have: of a named object its own, of a member and of an element what is given by the addresses of what
-- contains it, where that traps for none (C99 6.5.2.1, 6.5.2.3, 6.5.3.2). A starred place stays starred.
use Rattle.std.specs.Prelude.{◌≡◌, ℕ, ℤ, Bool, true, false, List, [], ◌∷◌, ◌++◌, Option, Some, None, option_and_then, option_map}
use Rattle.std.specs.List.{Contains}
use Rattle.cc_program.specs.declared.program.Program.{Program}
use Rattle.cc_program.specs.declared.value.Address.{Address}
use Rattle.cc_program.specs.declared.value.Address.TheVariants as address
use Rattle.cc_program.specs.declared.value.Part.{Part}
use Rattle.cc_program.specs.declared.value.Part.TheVariants as part
use Rattle.cc_program.specs.declared.value.Root.{Root}
use Rattle.cc_eval.specs.Context.{named_by}
use Rattle.cc_places.specs.declared.addrs.Addrs.{Addrs}
use Rattle.cc_places.specs.Kept.{starred}
use Rattle.cc_places.specs.Sets.{IsSetOf}
use Rattle.cc_eval.specs.CcSyntax.Initial.{bound_of}
use Rattle.cc_eval.specs.CcSyntax.Values.{PlaceType}
use Rattle.cc_eval.specs.CcValues.Values.{element_at}

-- of an object that is no element, an array of one
abbrev pub object_address : Root → List Part → Address
object_address object path = address.At object path 0 1

-- the set of one address, and the empty set
abbrev pub IsOnly : Address → Addrs → Type 0
IsOnly a s = IsSetOf (λ b. b ≡ a) s

abbrev pub IsNone : Addrs → Type 0
IsNone s = IsSetOf (λ b. ⊥) s

-- a member of the structure of a type that an address names
abbrev pub member_address : Program → PlaceType → ℕ → Address → Option Address
member_address p t m a = option_map (λ (o : Root × List Part). object_address o.0 (o.1 ++ part.Member m ∷ [])) (named_by p t a)

-- an element of the array of a type that an address names, or one past the last of them
abbrev pub element_in : Option ℕ → ℤ → Root × List Part → Option Address
element_in None i o = None
element_in (Some count) i o = element_at o.0 o.1 i count

abbrev pub element_address : Program → PlaceType → ℤ → Address → Option Address
element_address p t i a = option_and_then (element_in (bound_of t) i) (named_by p t a)

-- by one of some subscripts
abbrev pub IsElement : Program → PlaceType → (ℤ → Type 0) → Address → Address → Type 0
IsElement p t subscripts a b = (i : ℤ) × subscripts i × (element_address p t i a ≡ Some b)

-- what a step gives from each of some addresses
abbrev pub FromEach : (Address → Address → Type 0) → List Address → Address → Type 0
FromEach step members b = (a : Address) × Contains members a × step a b

-- what a step gives from the members of a set: of an exact one each address, of another one all of the place of each
abbrev pub HasStepped : (Address → Address → Type 0) → Addrs → Bool → Address → Type 0
HasStepped step s true b = FromEach step s.members b
HasStepped step s false b = (a : Address) × (c : Address) × Contains s.members a × step a c × (starred b ≡ starred c)

abbrev pub AreMembers : Program → PlaceType → ℕ → Addrs → Addrs → Type 0
AreMembers p t m s r = IsSetOf (HasStepped (λ a b. member_address p t m a ≡ Some b) s s.is_exact) r

-- by subscripts
abbrev pub AreElements : Program → PlaceType → (ℤ → Type 0) → Addrs → Addrs → Type 0
AreElements p t subscripts s r = IsSetOf (HasStepped (IsElement p t subscripts) s s.is_exact) r
