-- A run by other numbers of static objects starts as it did, by other numbers; zeros name no object.
use Rattle.std.proofs.Common.{◌≡◌, ◌∙◌, ◌∷◌, ◌++◌, ℕ, zero, suc, ℤ, false, List, [], map, Option, Some, None, option_map, slice_get, refl, ap, sym, subst}
use Rattle.std.specs.Prelude.{unwrap_or, replicate, fold}
use Rattle.std.specs.List.{flat_map}
use Rattle.std.proofs.lemmas.List.{map-append}
use Rattle.std.proofs.lemmas.Option.{slice_get-map}
use Rattle.cc_states.specs.CcCells.Scalars.{shape_zeros, zeros_over, member_zeros, structure_zeros, zeros}
use Rattle.cc_program.specs.declared.func.Func.{Func}
use Rattle.cc_program.specs.declared.object.Object.{Object}
use Rattle.cc_program.specs.declared.program.Program.{Program}
use Rattle.cc_program.specs.declared.types.CType.{CType}
use Rattle.cc_program.specs.declared.types.Shape.{Shape, roll-Shape, out-roll-Shape}
use Rattle.cc_program.specs.declared.types.Shape.TheOpen as shape
use Rattle.cc_program.specs.declared.types.Sig.{Sig}
use Rattle.cc_program.specs.declared.types.Structure.{Structure}
use Rattle.cc_program.specs.declared.value.Leaf.{Leaf}
use Rattle.cc_program.specs.declared.value.Leaf.TheVariants as leaf
use Rattle.cc_program.specs.declared.value.Value.{Value}
use Rattle.cc_program.proofs.TypeInduction.{with_shape, TypeParts, by_type}
use Rattle.cc_states.proofs.ZeroLemmas.{parts_zeros, zeros-shape}
use Rattle.cc_states.specs.CcSteps.State.{Active, first_value, values_or, first_values}
use Rattle.cc_states.specs.CcSteps.Turn.{first_of_stack, start}
use Rattle.cc_states.specs.CcSyntax.Types.{Named}
use Rattle.cc_rewrite_renamed.specs.Objects.{leaf_renamed, object_renamed, func_renamed}
use Rattle.cc_rewrite_renamed.specs.Renaming.{value_renamed, AreRenamed}
use Rattle.cc_rewrite_orders_follows.proofs.Steps.{Q, stack_renamed, AreStaticsSame, IsStateSame, activation_same}

module _ (r : ℕ → ℕ) where
  abbrev Fixed : List Value → Type 0
  Fixed vs = map (value_renamed r) vs ≡ vs

  fixed_append : (vs ws : List Value) → Fixed vs → Fixed ws → Fixed (vs ++ ws)
  fixed_append vs ws h k = map-append (value_renamed r) vs ws ∙ (λ i. h i ++ k i)

  -- ---- zeros

  abbrev AreFixed : List (List Value) → Type 0
  AreFixed table = (k : ℕ) → Fixed (unwrap_or (slice_get table k) [])

  repeated : (vs : List Value) (n : ℕ) → Fixed vs → Fixed (flat_map (λ zeros. zeros) (replicate n vs))
  repeated vs zero h = refl
  repeated vs (suc n) h = fixed_append vs (flat_map (λ zeros. zeros) (replicate n vs)) h (repeated vs n h)

  module _ (table : List (List Value)) (fixed : AreFixed table) where
    abbrev TypeFixed : CType → Type 0
    TypeFixed t = Fixed (zeros_over table t)

    shape_fixed : (x : shape.Shape-F Shape CType Sig) → TypeParts TypeFixed (λ s. Unit {0}) x → Fixed (shape_zeros table (parts_zeros table x))
    shape_fixed shape.Void h = refl
    shape_fixed (shape.Int t) h = refl
    shape_fixed (shape.Pointer t) h = refl
    shape_fixed (shape.Array t n) h = repeated (zeros_over table t) n h
    shape_fixed (shape.Struct k) h = fixed k
    shape_fixed (shape.Func s) h = refl

    type_fixed : (t : CType) → TypeFixed t
    type_fixed = by_type TypeFixed (λ s. Unit {0})
        (λ constant volatile x h. subst Fixed (sym (zeros-shape table (with_shape constant volatile (roll-Shape x)) x (out-roll-Shape x))) (shape_fixed x h))
        (λ x h. tt)

    members_fixed : (ms : List Named) → Fixed (member_zeros table ms)
    members_fixed [] = refl
    members_fixed (m ∷ ms) = fixed_append (zeros_over table m.1) (member_zeros table ms) (type_fixed m.1) (members_fixed ms)

  one_more : (table : List (List Value)) (vs : List Value) → AreFixed table → Fixed vs → AreFixed (table ++ vs ∷ [])
  one_more [] vs h k zero = k
  one_more [] vs h k (suc i) = refl
  one_more (x ∷ table) vs h k zero = h zero
  one_more (x ∷ table) vs h k (suc i) = one_more table vs (λ j. h (suc j)) k i

  table_fixed : (before : List (List Value)) (structures : List Structure) → AreFixed before → AreFixed (fold (λ before s. before ++ member_zeros before s.members ∷ []) before structures)
  table_fixed before [] h = h
  table_fixed before (s ∷ structures) h = table_fixed (before ++ member_zeros before s.members ∷ []) structures (one_more before (member_zeros before s.members) h (members_fixed before h s.members))

  zeros_fixed : (structures : List Structure) (t : CType) → Fixed (zeros structures t)
  unfolding structure_zeros
  zeros_fixed structures t = type_fixed (structure_zeros structures) (table_fixed [] structures (λ k. refl)) t

  -- ---- first values

  leaf_same : (l : Leaf) → first_value (leaf_renamed r l) ≡ value_renamed r (first_value l)
  leaf_same (leaf.Int n) = refl
  leaf_same (leaf.Place a) = refl

  leaves_same : (ls : List Leaf) → map first_value (map (leaf_renamed r) ls) ≡ map (value_renamed r) (map first_value ls)
  leaves_same [] = refl
  leaves_same (l ∷ ls) = λ i. leaf_same l i ∷ leaves_same ls i

  values_same : (ls : List Leaf) (others : List Value) → Fixed others → values_or (map (leaf_renamed r) ls) others ≡ map (value_renamed r) (values_or ls others)
  values_same [] others h = sym h
  values_same (l ∷ ls) others h = leaves_same (l ∷ ls)

module _ (r : ℕ → ℕ) (objects : List Object) (P : Program) (renamed : AreRenamed r objects P)
    (there : (i : ℕ) → slice_get objects (r i) ≡ option_map (object_renamed r) (slice_get P.objects i)) where
  abbrev New : Program
  New = Q r objects P renamed

  abbrev new : Value → Value
  new v = value_renamed r v

  first_same : (o : Option Object) → option_map (first_values New) (option_map (object_renamed r) o) ≡ option_map (map new) (option_map (first_values P) o)
  first_same None = refl
  first_same (Some o) = ap (λ (vs : List Value). Some vs) (values_same r o.init (zeros P.structures o.ctype) (zeros_fixed r P.structures o.ctype))

  statics_same : AreStaticsSame r objects P renamed (map (first_values New) objects) (map (first_values P) P.objects)
  statics_same i =
      slice_get-map (first_values New) objects (r i) ∙ ap (option_map (first_values New)) (there i) ∙ first_same (slice_get P.objects i)
      ∙ ap (option_map (map new)) (sym (slice_get-map (first_values P) P.objects i))

  stack_by : (f : Option Func) → first_of_stack New (option_map (func_renamed r) f) ≡ stack_renamed r objects P renamed (first_of_stack P f)
  stack_by None = refl
  stack_by (Some f) = ap (λ (a : Active). a ∷ []) (activation_same r objects P renamed 0 P.main false [] f)

  pub start_same : (inputs : List ℤ) → IsStateSame r objects P renamed (start New inputs) (start P inputs)
  start_same inputs = (
    map (first_values New) objects,
    ap (λ (stack : List Active). record { memory = (start New inputs).memory; stack = stack; opened = 1; end = (start P inputs).end })
        (ap (first_of_stack New) (slice_get-map (func_renamed r) P.funcs P.main) ∙ stack_by (slice_get P.funcs P.main)),
    statics_same,
  )
