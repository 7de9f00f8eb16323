-- A zero is no address of an object: so of the first values of an object those are such addresses that stand among its leaves.
use Rattle.std.proofs.Common.{◌≡◌, ℕ, zero, suc, List, [], ◌∷◌, ◌++◌, map, replicate, Contains, Some, refl, ap, sym, subst, slice_get}
use Rattle.std.specs.Prelude.{unwrap_or, fold}
use Rattle.std.specs.List.{flat_map}
use Rattle.std.proofs.lemmas.Option.{same_Some, none-some}
use Rattle.cc_rules_grow.specs.CcCells.Scalars.{shape_zeros, zeros_over, member_zeros, structure_zeros, zeros}
use Rattle.cc_program.proofs.TypeInduction.{with_shape, TypeParts, by_type}
use Rattle.cc_program.specs.declared.object.Object.{Object}
use Rattle.cc_program.specs.declared.program.Program.{Program}
use Rattle.cc_program.specs.declared.types.CType.{CType}
use Rattle.cc_program.specs.declared.types.Shape.{Shape, roll-Shape, out-roll-Shape}
use Rattle.cc_program.specs.declared.types.Shape.TheOpen as shape
use Rattle.cc_program.specs.declared.types.Sig.{Sig}
use Rattle.cc_program.specs.declared.types.Structure.{Structure}
use Rattle.cc_program.specs.declared.value.Address.{Address}
use Rattle.cc_program.specs.declared.value.Address.TheVariants as address
use Rattle.cc_program.specs.declared.value.Leaf.{Leaf}
use Rattle.cc_program.specs.declared.value.Leaf.TheVariants as leaf
use Rattle.cc_program.specs.declared.value.Part.{Part}
use Rattle.cc_program.specs.declared.value.Root.{Root}
use Rattle.cc_program.specs.declared.value.Value.{Value}
use Rattle.cc_program.specs.declared.value.Value.TheVariants.{Int, Place}
use Rattle.cc_rules_grow.proofs.Elements.{Each, each_append, each_at}
use Rattle.cc_rules_grow.proofs.CcState.Lists.{contains_at}
use Rattle.cc_rules_grow.proofs.CcStates.ZeroLemmas.{parts_zeros, zeros-shape}
use Rattle.cc_rules_grow.specs.CcSteps.State.{first_value, values_or, first_values}
use Rattle.cc_rules_grow.specs.CcSyntax.Types.{Named}

-- a value that is no address of an object
abbrev IsOther : Value → Type 0
IsOther (Int n) = Unit {0}
IsOther (Place address.Null) = Unit {0}
IsOther (Place (address.Func g)) = Unit {0}
IsOther (Place (address.At o path index count)) = ⊥

each_flat : {A B : Type 0} (P : B → Type 0) (g : A → List B) (xs : List A) → ((x : A) → Each P (g x)) → Each P (flat_map g xs)
each_flat P g [] h = tt
each_flat P g (x ∷ xs) h = each_append P (g x) (flat_map g xs) (h x) (each_flat P g xs h)

each_repeated : {B : Type 0} (P : B → Type 0) (n : ℕ) (ys : List B) → Each P ys → Each P (flat_map (λ zs. zs) (replicate n ys))
each_repeated P zero ys h = tt
each_repeated P (suc n) ys h = each_append P ys (flat_map (λ zs. zs) (replicate n ys)) h (each_repeated P n ys h)

each_there : (table : List (List Value)) → Each (Each IsOther) table → (s : ℕ) → Each IsOther (unwrap_or (slice_get table s) [])
each_there [] h s = tt
each_there (x ∷ table) h zero = h.0
each_there (x ∷ table) h (suc s) = each_there table h.1 s

module _ (table : List (List Value)) (each : Each (Each IsOther) table) where
  abbrev Zeros : CType → Type 0
  Zeros t = Each IsOther (zeros_over table t)

  shape_others : (x : shape.Shape-F Shape CType Sig) → TypeParts Zeros (λ s. Unit {0}) x → Each IsOther (shape_zeros table (parts_zeros table x))
  shape_others shape.Void h = tt
  shape_others (shape.Int t) h = (tt, tt)
  shape_others (shape.Pointer t) h = (tt, tt)
  shape_others (shape.Array t n) h = each_repeated IsOther n (zeros_over table t) h
  shape_others (shape.Struct s) h = each_there table each s
  shape_others (shape.Func s) h = tt

  type_others : (t : CType) → Zeros t
  type_others = by_type Zeros (λ s. Unit {0})
      (λ constant volatile x h. subst (Each IsOther) (sym (zeros-shape table (with_shape constant volatile (roll-Shape x)) x (out-roll-Shape x))) (shape_others x h))
      (λ x h. tt)

  members_others : (ms : List Named) → Each IsOther (member_zeros table ms)
  members_others ms = each_flat IsOther (λ (m : Named). zeros_over table m.1) ms (λ m. type_others m.1)

table_others : (before : List (List Value)) → Each (Each IsOther) before → (structures : List Structure) → Each (Each IsOther) (fold (λ (before : List (List Value)) (s : Structure). before ++ member_zeros before s.members ∷ []) before structures)
table_others before h [] = h
table_others before h (s ∷ structures) =
    table_others (before ++ member_zeros before s.members ∷ []) (each_append (Each IsOther) before (member_zeros before s.members ∷ []) h (members_others before h s.members, tt)) structures

structures_others : (structures : List Structure) → Each (Each IsOther) (structure_zeros structures)
unfolding structure_zeros
structures_others structures = table_others [] tt structures

zeros_others : (structures : List Structure) (t : CType) → Each IsOther (zeros structures t)
zeros_others structures t = type_others (structure_zeros structures) (structures_others structures) t

-- ---- the leaf of a first value

leaf_there : (leaves : List Leaf) (k : ℕ) (a : Address) → slice_get (map first_value leaves) k ≡ Some (Place a) → Contains leaves (leaf.Place a)
leaf_there leaves k a e = contains_at leaves k (leaf.Place a) (by leaves k e)
  where
    placed : (l : Leaf) → first_value l ≡ Place a → l ≡ leaf.Place a
    placed (leaf.Int n) h = absurd (cc)
    placed (leaf.Place b) h = let same : b ≡ a = cc in ap (λ (x : Address). leaf.Place x) same

    by : (leaves : List Leaf) (k : ℕ) → slice_get (map first_value leaves) k ≡ Some (Place a) → slice_get leaves k ≡ Some (leaf.Place a)
    by [] k e = absurd (none-some (Place a) e)
    by (l ∷ leaves) zero e = ap Some (placed l (same_Some (first_value l) (Place a) e))
    by (l ∷ leaves) (suc k) e = by leaves k e

pub object_leaf : (p : Program) (o : Object) (k : ℕ) (root : Root) (path : List Part) (index count : ℕ) → slice_get (first_values p o) k ≡ Some (Place (address.At root path index count)) → Contains o.init (leaf.Place (address.At root path index count))
object_leaf p o k root path index count e = by o.init refl e
  where
    by : (init : List Leaf) → o.init ≡ init → slice_get (values_or init (zeros p.structures o.ctype)) k ≡ Some (Place (address.At root path index count)) → Contains o.init (leaf.Place (address.At root path index count))
    by [] i h = absurd (each_at IsOther (zeros p.structures o.ctype) (Place (address.At root path index count)) (zeros_others p.structures o.ctype) (contains_at (zeros p.structures o.ctype) k (Place (address.At root path index count)) h))
    by (l ∷ ls) i h = subst (λ (x : List Leaf). Contains x (leaf.Place (address.At root path index count))) (sym i) (leaf_there (l ∷ ls) k (address.At root path index count) h)
