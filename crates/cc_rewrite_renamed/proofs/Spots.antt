-- Where places lead by other numbers.
use Rattle.std.proofs.Common.{◌≡◌, ◌∙◌, ◌∷◌, ◌++◌, ℕ, ℤ, Bool, true, false, List, [], Option, Some, None, option_map, option_and_then, slice_get, refl, ap, sym, if◌then◌else◌}
use Rattle.std.specs.Prelude.{nat_lt}
use Rattle.cc_eval.specs.declared.spots.Spot.{Spot}
use Rattle.cc_eval.specs.declared.spots.Spot.TheVariants as spot
use Rattle.cc_eval.specs.Context.{local_type, object_type, are_alike, has_elements, path_to, named_by, designated, cell_of, cell_at, reached, element_in, element, member, address_at}
use Rattle.cc_eval.specs.Eval.{address_of}
use Rattle.cc_program.specs.declared.func.Func.{Func}
use Rattle.cc_program.specs.declared.object.Object.{Object}
use Rattle.cc_program.specs.declared.program.Program.{Program}
use Rattle.cc_program.specs.declared.value.Address.{Address}
use Rattle.cc_program.specs.declared.value.Address.TheVariants as address
use Rattle.cc_program.specs.declared.value.Part.{Part}
use Rattle.cc_program.specs.declared.value.Part.TheVariants as part
use Rattle.cc_program.specs.declared.value.Root.{Root}
use Rattle.cc_program.specs.declared.value.Root.TheVariants as root
use Rattle.cc_program.specs.declared.value.Value.TheVariants as value
use Rattle.cc_eval.specs.CcSyntax.Expressions.{of_two}
use Rattle.cc_eval.specs.CcSyntax.Initial.{place_at, bound_of}
use Rattle.cc_eval.specs.CcSyntax.Types.{Named}
use Rattle.cc_eval.specs.CcSyntax.Values.{PlaceType, object_place, element_of}
use Rattle.cc_eval.specs.CcValues.Values.{element_at}
use Rattle.cc_rewrite_renamed.specs.Objects.{root_renamed, address_renamed}
use Rattle.cc_rewrite_renamed.specs.Renaming.{cell_renamed, may_renamed, AreRenamed, IsAlike, AreAlike}
use Rattle.cc_rewrite_renamed.proofs.Values.{element_at_kept, value_of_address}

module _ (r : ℕ → ℕ) where
  abbrev pub spot_renamed : Spot → Spot
  spot_renamed (spot.Device d) = spot.Device d
  spot_renamed (spot.Object object path) = spot.Object (root_renamed r object) path
  spot_renamed (spot.Address a) = spot.Address (address_renamed r a)

module _ (r : ℕ → ℕ) (objects : List Object) (funcs : List Func) (P : Program) (renamed : AreRenamed r objects P) (alike : (id : ℕ) → AreAlike (slice_get funcs id) (slice_get P.funcs id)) where
  abbrev pub Q : Program
  Q = record { target = P.target; roles = P.roles; structures = P.structures; devices = P.devices; objects = objects; funcs = funcs; main = P.main }

  -- what each function gives that is the same but for its name and its body
  func_by : {A : Type 0} → (g : Option Func → A) → ((x y : Func) → IsAlike x y → g (Some x) ≡ g (Some y)) → (x y : Option Func) → AreAlike x y → g x ≡ g y
  func_by g h None None a = refl
  func_by g h (Some x) (Some y) a = h x y a
  func_by g h None (Some y) a = absurd a
  func_by g h (Some x) None a = absurd a

  pub func_same : {A : Type 0} → (g : Option Func → A) → ((x y : Func) → IsAlike x y → g (Some x) ≡ g (Some y)) → (id : ℕ) → g (slice_get funcs id) ≡ g (slice_get P.funcs id)
  func_same g h id = func_by g h (slice_get funcs id) (slice_get P.funcs id) (alike id)

  -- ---- objects

  placed : (o : Option Object) → option_map (λ (o : Object). object_place o.ctype) o ≡ option_map object_place (option_map (λ (o : Object). o.ctype) o)
  placed None = refl
  placed (Some o) = refl

  pub static_same : (i : ℕ) → option_map (λ (o : Object). object_place o.ctype) (slice_get objects (r i)) ≡ option_map (λ (o : Object). object_place o.ctype) (slice_get P.objects i)
  static_same i = placed (slice_get objects (r i)) ∙ ap (option_map object_place) (renamed.types i) ∙ sym (placed (slice_get P.objects i))

  pub object_same : (o : Root) → object_type Q (root_renamed r o) ≡ object_type P o
  object_same (root.Static i) = static_same i
  object_same (root.Auto number func local) = func_same (local_type local) (λ x y a. ap (λ (ls : List Named). option_map (λ l. object_place l.1) (slice_get ls local)) a.locals) func

  elements_same : (t : PlaceType) (object : Root) (path : List Part) → has_elements Q t (root_renamed r object) path ≡ has_elements P t object path
  elements_same t object path = ap (λ (o : Option PlaceType). are_alike (option_and_then element_of (option_and_then (place_at P.structures path) o)) t) (object_same object)

  abbrev pub at_renamed : Root × List Part → Root × List Part
  at_renamed o = (root_renamed r o.0, o.1)

  object_if : (b : Bool) (object : Root) (path : List Part) →
      (if b then Some (root_renamed r object, path) else None) ≡ option_map at_renamed (if b then Some (object, path) else None)
  object_if true object path = refl
  object_if false object path = refl

  named_same : (t : PlaceType) (a : Address) → named_by Q t (address_renamed r a) ≡ option_map at_renamed (named_by P t a)
  named_same t address.Null = refl
  named_same t (address.Func f) = refl
  named_same t (address.At object path index count) =
      ap (λ (b : Bool). if nat_lt index count then Some (root_renamed r object, path_to b path index) else None) (elements_same t object path)
      ∙ object_if (nat_lt index count) object (path_to (has_elements P t object path) path index)

  designated_same : (t : PlaceType) (s : Spot) → designated Q t (spot_renamed r s) ≡ option_map at_renamed (designated P t s)
  designated_same t (spot.Device d) = refl
  designated_same t (spot.Object object path) = refl
  designated_same t (spot.Address a) = named_same t a

  cell_of_object : (o : Option (Root × List Part)) → option_map cell_of (option_map at_renamed o) ≡ option_map (cell_renamed r) (option_map cell_of o)
  cell_of_object None = refl
  cell_of_object (Some o) = refl

  cell_same : (t : PlaceType) (s : Spot) → cell_at Q t (spot_renamed r s) ≡ option_map (cell_renamed r) (cell_at P t s)
  cell_same t (spot.Device d) = refl
  cell_same t (spot.Object object path) = refl
  cell_same t (spot.Address a) = ap (option_map cell_of) (named_same t a) ∙ cell_of_object (named_by P t a)

  pub reached_same : (t : Option PlaceType) (s : Option Spot) → reached Q t (option_map (spot_renamed r) s) ≡ option_map (cell_renamed r) (reached P t s)
  reached_same None s = refl
  reached_same (Some t) None = refl
  reached_same (Some t) (Some s) = cell_same t s

  spot_of_address : (a : Option Address) → option_map spot.Address (option_map (address_renamed r) a) ≡ option_map (spot_renamed r) (option_map spot.Address a)
  spot_of_address None = refl
  spot_of_address (Some a) = refl

  pub address_spot : (a : Option Address) → option_map spot.Address (option_map (address_renamed r) a) ≡ option_map (spot_renamed r) (option_map spot.Address a)
  address_spot = spot_of_address

  element_in_same : (bound : Option ℕ) (n : ℤ) (o : Root × List Part) → element_in bound n (at_renamed o) ≡ option_map (spot_renamed r) (element_in bound n o)
  element_in_same None n o = refl
  element_in_same (Some count) n o = ap (option_map spot.Address) (element_at_kept r o.0 o.1 n count) ∙ spot_of_address (element_at o.0 o.1 n count)

  element_of_object : (bound : Option ℕ) (n : ℤ) (o : Option (Root × List Part)) →
      option_and_then (element_in bound n) (option_map at_renamed o) ≡ option_map (spot_renamed r) (option_and_then (element_in bound n) o)
  element_of_object bound n None = refl
  element_of_object bound n (Some o) = element_in_same bound n o

  pub element_same : (n : ℤ) (t : PlaceType) (s : Spot) → element Q n t (spot_renamed r s) ≡ option_map (spot_renamed r) (element P n t s)
  element_same n t s = ap (option_and_then (element_in (bound_of t) n)) (designated_same t s) ∙ element_of_object (bound_of t) n (designated P t s)

  member_of_object : (m : ℕ) (o : Option (Root × List Part)) →
      option_map (λ o. spot.Object o.0 (o.1 ++ part.Member m ∷ [])) (option_map at_renamed o) ≡ option_map (spot_renamed r) (option_map (λ o. spot.Object o.0 (o.1 ++ part.Member m ∷ [])) o)
  member_of_object m None = refl
  member_of_object m (Some o) = refl

  pub member_same : (m : ℕ) (t : Option PlaceType) (s : Option Spot) → of_two t (option_map (spot_renamed r) s) (member Q m) ≡ option_map (spot_renamed r) (of_two t s (member P m))
  member_same m None s = refl
  member_same m (Some t) None = refl
  member_same m (Some t) (Some s) = ap (option_map (λ o. spot.Object o.0 (o.1 ++ part.Member m ∷ []))) (designated_same t s) ∙ member_of_object m (designated P t s)

  address_at_same : (s : Spot) → address_at (spot_renamed r s) ≡ option_map (address_renamed r) (address_at s)
  address_at_same (spot.Device d) = refl
  address_at_same (spot.Object object path) = refl
  address_at_same (spot.Address a) = refl

  pub address_of_same : (s : Option Spot) → address_of (option_map (spot_renamed r) s) ≡ may_renamed r (address_of s)
  address_of_same None = refl
  address_of_same (Some s) = ap (option_map value.Place) (address_at_same s) ∙ value_of_address r (address_at s)
