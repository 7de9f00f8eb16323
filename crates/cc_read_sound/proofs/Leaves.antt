-- First values name what they did in the unit that is left: each thing keeps its position.
use Rattle.std.proofs.Common.{◌≡◌, ◌∙◌, inl, inr, ℕ, true, List, [], ◌∷◌, map, Option, Some, None, slice_get, refl, ap, sym, subst}
use Rattle.std.specs.Prelude.{option_and_then}
use Rattle.std.specs.List.{flat_map}
use Rattle.cc_standing_units.proofs.LeftViews.{id-at, left_renumbered}
use Rattle.cc_standing_units.specs.Laid.{AreLaid}
use Rattle.cc_program.specs.CcNum.declared.target.Target.{Target}
use Rattle.cc_type.specs.CcNumbering.Names.{own_id}
use Rattle.cc_type.specs.CcNumbering.Numbers.{numbers_of}
use Rattle.cc_type.specs.CcNumbering.Units.{ids_of, unit_left}
use Rattle.cc_standing_units.specs.Views.{view_of}
use Rattle.cc_program.proofs.Each.{Each}
use Rattle.cc_program.specs.declared.types.CType.{CType}
use Rattle.cc_program.specs.declared.value.Address.{Address}
use Rattle.cc_program.specs.declared.value.Address.TheVariants as address
use Rattle.cc_program.specs.declared.value.Leaf.{Leaf}
use Rattle.cc_program.specs.declared.value.Leaf.TheVariants as leaf
use Rattle.cc_program.specs.declared.value.Root.TheVariants as root
use Rattle.cc_relocated_units.proofs.Leaves.{initial_numbered}
use Rattle.cc_type.specs.CcScopes.State.{State}
use Rattle.cc_type.specs.CcScopes.declared.unit.Declared.{Declared}
use Rattle.cc_relocated_units.specs.Units.{function_as, static_as, unit_view}
use Rattle.cc_sound_terms.specs.Ordered.{IsOrdered}
use Rattle.cc_type.specs.CcSyntax.Expressions.{of_one}
use Rattle.cc_type.specs.CcSyntax.Initial.{AreElements, AreLeaves, AreMembers, Element, IsInitial, Member, NoElement, NoMember, OfArray, OfInteger, OfPointer, OfStructure, is_address, names, place_at}
use Rattle.cc_type.specs.CcSyntax.Types.{Named}
use Rattle.cc_type.specs.CcSyntax.Values.{PlaceType, ValueType, is_assignable_some, pointer_to}
use Rattle.cc_type.specs.CcSyntax.Views.{View}
use Rattle.cc_type.specs.CcUnit.Mentioned.{in_leaf}
use Rattle.cc_type.specs.CcUnit.Renumbered.{address_renumbered, func_by, leaf_renumbered, object_by, type_renumbered}
use Rattle.cc_type.specs.CcUnit.declared.ids.Ids.{Ids}
use Rattle.cc_type.specs.CcUnit.declared.unit.UnitKind.{UnitKind}
use Rattle.cc_type.specs.CcUnit.declared.unit.UnitKind.TheVariants as kind

module _ (target : Target) (s : State) (ordered : IsOrdered s) (laid : AreLaid target s) where
  abbrev v : View
  v = view_of target s

  abbrev ids : Ids
  ids = ids_of s

  -- what is an object, or a function, keeps its number
  object_kept : (i : ℕ) (a : PlaceType) → v.statics i ≡ Some a → object_by (slice_get ids.names i) ≡ i
  object_kept i a e = by (slice_get s.names i) refl e
    where
      cases : (d : Declared) → slice_get s.names i ≡ Some d → (k : UnitKind) → d.kind ≡ k → static_as d.ctype k ≡ Some a → object_by (slice_get ids.names i) ≡ i
      cases d f (kind.Device x) q g = absurd (cc)
      cases d f (kind.Func entry body) q g = absurd (cc)
      cases d f (kind.Object leaves) q g = ap object_by (id-at target s ordered laid i d f ∙ ap (λ (k : UnitKind). Some (own_id i k)) q)

      by : (o : Option Declared) → slice_get s.names i ≡ o → option_and_then (λ (d : Declared). static_as d.ctype d.kind) o ≡ Some a → object_by (slice_get ids.names i) ≡ i
      by None f g = absurd (cc)
      by (Some d) f g = cases d f d.kind refl g

  function_kept : (i : ℕ) (t : ValueType) → v.functions i ≡ Some t → func_by (slice_get ids.names i) ≡ i
  function_kept i t e = by (slice_get s.names i) refl e
    where
      cases : (d : Declared) → slice_get s.names i ≡ Some d → (k : UnitKind) → d.kind ≡ k → function_as d.ctype k ≡ Some t → func_by (slice_get ids.names i) ≡ i
      cases d f (kind.Device x) q g = absurd (cc)
      cases d f (kind.Object leaves) q g = absurd (cc)
      cases d f (kind.Func entry body) q g = ap func_by (id-at target s ordered laid i d f ∙ ap (λ (k : UnitKind). Some (own_id i k)) q)

      by : (o : Option Declared) → slice_get s.names i ≡ o → option_and_then (λ (d : Declared). function_as d.ctype d.kind) o ≡ Some t → func_by (slice_get ids.names i) ≡ i
      by None f g = absurd (cc)
      by (Some d) f g = cases d f d.kind refl g

  address_kept : (to : ValueType) (a : Address) → is_address v to a ≡ true → address_renumbered ids a ≡ a
  address_kept to address.Null h = refl
  address_kept to (address.Func f) h = by (v.functions f) refl h
    where
      by : (o : Option ValueType) → v.functions f ≡ o → is_assignable_some (Some to) o ≡ true → address.Func (func_by (slice_get ids.names f)) ≡ address.Func f
      by None e g = absurd (cc)
      by (Some t) e g = ap (λ (n : ℕ). address.Func n) (function_kept f t e)
  address_kept to (address.At (root.Auto activation f local) path index count) h = refl
  address_kept to (address.At (root.Static i) path index count) h = by (v.statics i) refl h
    where
      by : (o : Option PlaceType) → v.statics i ≡ o → names to path index count (of_one o (place_at v.structures path)) ≡ true → address.At (root.Static (object_by (slice_get ids.names i))) path index count ≡ address.At (root.Static i) path index count
      by None e g = absurd (cc)
      by (Some a) e g = ap (λ (n : ℕ). address.At (root.Static n) path index count) (object_kept i a e)

  abbrev all : List Leaf → List Leaf
  all ls = map (leaf_renumbered ids) ls

  mutual
    leaves_kept : (t : CType) (leaves rest : List Leaf) → AreLeaves v t leaves rest → all rest ≡ rest → all leaves ≡ leaves
    leaves_kept _ _ _ (OfInteger t i n rest e h) r = ap (λ (l : List Leaf). leaf.Int n ∷ l) r
    leaves_kept _ _ _ (OfPointer t to a rest e h) r = ap (λ (b : Address). leaf.Place b ∷ all rest) (address_kept (pointer_to to) a h) ∙ ap (λ (l : List Leaf). leaf.Place a ∷ l) r
    leaves_kept _ _ _ (OfArray t of n leaves rest e h) r = elements_kept of n leaves rest h r
    leaves_kept _ _ _ (OfStructure t i c leaves rest e f h) r = members_kept c.members leaves rest h r

    elements_kept : (of : CType) (n : ℕ) (leaves rest : List Leaf) → AreElements v of n leaves rest → all rest ≡ rest → all leaves ≡ leaves
    elements_kept _ _ _ _ (NoElement of rest) r = r
    elements_kept _ _ _ _ (Element of n leaves between rest h k) r = leaves_kept of leaves between h (elements_kept of n between rest k r)

    members_kept : (ms : List Named) (leaves rest : List Leaf) → AreMembers v ms leaves rest → all rest ≡ rest → all leaves ≡ leaves
    members_kept _ _ _ (NoMember rest) r = r
    members_kept _ _ _ (Member m ms leaves between rest h k) r = leaves_kept m.1 leaves between h (members_kept ms between rest k r)

  speaks : (xs : List ℕ) → Each (λ (i : ℕ). true ≡ true) xs
  speaks [] = tt
  speaks (x ∷ xs) = (refl, speaks xs)

  initial_kept : (t : CType) (leaves : List Leaf) → IsInitial v t leaves → all leaves ≡ leaves
  initial_kept t leaves (inl e) = ap all e ∙ sym e
  initial_kept t leaves (inr h) = leaves_kept t leaves [] h.0 refl

  pub values_left : (t : CType) (leaves : List Leaf) → IsInitial v t leaves → IsInitial (unit_view target (unit_left s)) (type_renumbered (numbers_of s) t) leaves
  values_left t leaves h =
      subst (λ (l : List Leaf). IsInitial (unit_view target (unit_left s)) (type_renumbered (numbers_of s) t) l) (initial_kept t leaves h)
      (initial_numbered v (unit_view target (unit_left s)) ids (λ (i : ℕ). true) (left_renumbered target s ordered laid) t leaves (speaks (flat_map in_leaf leaves)) h)
