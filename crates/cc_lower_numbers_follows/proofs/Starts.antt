-- A run by other numbers starts as it did: first values name no locals, so they are the same.
use Rattle.std.proofs.Common.{◌≡◌, ◌∙◌, ◌∷◌, ◌++◌, inl, inr, ℕ, zero, suc, ℤ, true, false, List, [], map, Option, Some, None, slice_get, refl, ap, sym, subst}
use Rattle.std.specs.Prelude.{unwrap_or, replicate, fold}
use Rattle.std.specs.List.{flat_map}
use Rattle.std.proofs.lemmas.List.{map-append}
use Rattle.cc_states.specs.CcCells.Scalars.{shape_zeros, zeros_over, member_zeros, structure_zeros, zeros}
use Rattle.cc_program.specs.declared.func.Func.{Func}
use Rattle.cc_program.specs.declared.object.Device.{Device}
use Rattle.cc_program.specs.declared.object.Object.{Object}
use Rattle.cc_program.specs.declared.program.Program.{Program}
use Rattle.cc_program.specs.declared.types.CType.{CType}
use Rattle.cc_program.specs.declared.types.Shape.{Shape, roll-Shape, out-roll-Shape}
use Rattle.cc_program.specs.declared.types.Shape.TheOpen as shape
use Rattle.cc_program.specs.declared.types.Sig.{Sig}
use Rattle.cc_program.specs.declared.types.Structure.{Structure}
use Rattle.cc_program.specs.declared.value.Address.{Address}
use Rattle.cc_program.specs.declared.value.Address.TheVariants as address
use Rattle.cc_program.specs.declared.value.Leaf.{Leaf}
use Rattle.cc_program.specs.declared.value.Leaf.TheVariants as leaf
use Rattle.cc_program.specs.declared.value.Root.TheVariants as root
use Rattle.cc_program.specs.declared.value.Value.{Value}
use Rattle.cc_program.proofs.TypeInduction.{with_shape, TypeParts, by_type}
use Rattle.cc_states.proofs.ZeroLemmas.{parts_zeros, zeros-shape}
use Rattle.cc_states.specs.CcSteps.State.{first_value, values_or, first_values}
use Rattle.cc_states.specs.CcSteps.Turn.{first_of_stack, start}
use Rattle.cc_states.specs.CcSyntax.Programs.{is_address, AreLeaves, AreElements, AreMembers, IsInitial}
use Rattle.cc_states.specs.CcSyntax.Initial.{OfInteger, OfPointer, OfArray, OfStructure, NoElement, Element, NoMember, Member}
use Rattle.cc_states.specs.CcSyntax.Sound.{IsTypedProgram}
use Rattle.cc_states.specs.CcSyntax.Types.{Named}
use Rattle.cc_states.specs.CcSyntax.Values.{ValueType}
use Rattle.cc_states.proofs.CcSyntax.Parts.{all_at}
use Rattle.cc_lower_numbers_follows.specs.Renaming.{Renaming, value_renamed, address_renamed, AreFuncsRenamed, IsRenamed}
use Rattle.cc_lower_numbers_follows.proofs.Steps.{Q, AreStacksSame, IsStateSame, activation_same}
use Rattle.cc_lower_numbers_follows.proofs.Turns.{main_takes}

module _ (r : Renaming) (devices : List Device) (funcs : List Func) (P : Program) (renamed : IsRenamed r devices funcs P) (sound : IsTypedProgram P) where
  abbrev Fixed : List Value → Type 0
  Fixed vs = map (value_renamed r) vs ≡ vs

  fixed_append : (vs ws : List Value) → Fixed vs → Fixed ws → Fixed (vs ++ ws)
  fixed_append vs ws h k = map-append (value_renamed r) vs ws ∙ (λ i. h i ++ k i)

  -- ---- zeros

  abbrev AreFixed : List (List Value) → Type 0
  AreFixed table = (k : ℕ) → Fixed (unwrap_or (slice_get table k) [])

  repeated : (vs : List Value) (n : ℕ) → Fixed vs → Fixed (flat_map (λ zeros. zeros) (replicate n vs))
  repeated vs zero h = refl
  repeated vs (suc n) h = fixed_append vs (flat_map (λ zeros. zeros) (replicate n vs)) h (repeated vs n h)

  module _ (table : List (List Value)) (fixed : AreFixed table) where
    abbrev TypeFixed : CType → Type 0
    TypeFixed t = Fixed (zeros_over table t)

    shape_fixed : (x : shape.Shape-F Shape CType Sig) → TypeParts TypeFixed (λ s. Unit {0}) x → Fixed (shape_zeros table (parts_zeros table x))
    shape_fixed shape.Void h = refl
    shape_fixed (shape.Int t) h = refl
    shape_fixed (shape.Pointer t) h = refl
    shape_fixed (shape.Array t n) h = repeated (zeros_over table t) n h
    shape_fixed (shape.Struct k) h = fixed k
    shape_fixed (shape.Func s) h = refl

    type_fixed : (t : CType) → TypeFixed t
    type_fixed = by_type TypeFixed (λ s. Unit {0})
        (λ constant volatile x h. subst Fixed (sym (zeros-shape table (with_shape constant volatile (roll-Shape x)) x (out-roll-Shape x))) (shape_fixed x h))
        (λ x h. tt)

    members_fixed : (ms : List Named) → Fixed (member_zeros table ms)
    members_fixed [] = refl
    members_fixed (m ∷ ms) = fixed_append (zeros_over table m.1) (member_zeros table ms) (type_fixed m.1) (members_fixed ms)

  one_more : (table : List (List Value)) (vs : List Value) → AreFixed table → Fixed vs → AreFixed (table ++ vs ∷ [])
  one_more [] vs h k zero = k
  one_more [] vs h k (suc i) = refl
  one_more (x ∷ table) vs h k zero = h zero
  one_more (x ∷ table) vs h k (suc i) = one_more table vs (λ j. h (suc j)) k i

  table_fixed : (before : List (List Value)) (structures : List Structure) → AreFixed before → AreFixed (fold (λ before s. before ++ member_zeros before s.members ∷ []) before structures)
  table_fixed before [] h = h
  table_fixed before (s ∷ structures) h = table_fixed (before ++ member_zeros before s.members ∷ []) structures (one_more before (member_zeros before s.members) h (members_fixed before h s.members))

  zeros_fixed : (t : CType) → Fixed (zeros P.structures t)
  unfolding structure_zeros
  zeros_fixed t = type_fixed (structure_zeros P.structures) (table_fixed [] P.structures (λ k. refl)) t

  -- ---- first values

  abbrev LeavesFixed : List Leaf → Type 0
  LeavesFixed leaves = Fixed (map first_value leaves)

  address_fixed : (to : ValueType) (a : Address) → is_address P to a ≡ true → address_renamed r a ≡ a
  address_fixed to address.Null h = refl
  address_fixed to (address.Func f) h = refl
  address_fixed to (address.At (root.Static i) path index count) h = refl
  address_fixed to (address.At (root.Auto number func local) path index count) h = absurd (cc)

  mutual
    leaves_fixed : (t : CType) (leaves rest : List Leaf) → AreLeaves P t leaves rest → LeavesFixed rest → LeavesFixed leaves
    leaves_fixed _ _ _ (OfInteger t i n rest e h) k = ap (λ (l : List Value). first_value (leaf.Int n) ∷ l) k
    leaves_fixed _ _ _ (OfPointer t to a rest e h) k = λ i. first_value (leaf.Place (address_fixed _ a h i)) ∷ k i
    leaves_fixed _ _ _ (OfArray t of n leaves rest e h) k = elements_fixed of n leaves rest h k
    leaves_fixed _ _ _ (OfStructure t i s leaves rest e g h) k = member_leaves s.members leaves rest h k

    elements_fixed : (of : CType) (n : ℕ) (leaves rest : List Leaf) → AreElements P of n leaves rest → LeavesFixed rest → LeavesFixed leaves
    elements_fixed _ _ _ _ (NoElement of rest) k = k
    elements_fixed _ _ _ _ (Element of n leaves between rest a b) k = leaves_fixed of leaves between a (elements_fixed of n between rest b k)

    member_leaves : (ms : List Named) (leaves rest : List Leaf) → AreMembers P ms leaves rest → LeavesFixed rest → LeavesFixed leaves
    member_leaves _ _ _ (NoMember rest) k = k
    member_leaves _ _ _ (Member m ms leaves between rest a b) k = leaves_fixed m.1 leaves between a (member_leaves ms between rest b k)

  initial_fixed : (t : CType) (leaves : List Leaf) → IsInitial P t leaves → LeavesFixed leaves
  initial_fixed t leaves (inl h) = subst LeavesFixed (sym h) refl
  initial_fixed t leaves (inr h) = leaves_fixed t leaves [] h.0 refl

  values_fixed : (leaves : List Leaf) (others : List Value) → LeavesFixed leaves → Fixed others → Fixed (values_or leaves others)
  values_fixed [] others h k = k
  values_fixed (l ∷ ls) others h k = h

  object_fixed : (o : Object) → IsInitial P o.ctype o.init → Fixed (first_values P o)
  object_fixed o h = values_fixed o.init (zeros P.structures o.ctype) (initial_fixed o.ctype o.init h) (zeros_fixed o.ctype)

  objects_fixed : (os : List Object) → ((i : ℕ) (o : Object) → slice_get os i ≡ Some o → IsInitial P o.ctype o.init) → map (map (value_renamed r)) (map (first_values P) os) ≡ map (first_values P) os
  objects_fixed [] h = refl
  objects_fixed (o ∷ os) h = λ i. object_fixed o (h 0 o refl) i ∷ objects_fixed os (λ k q e. h (suc k) q e) i

  -- ---- the first state

  abbrev New : Program
  New = Q r devices funcs P renamed

  main_by : (x y : Option Func) → AreFuncsRenamed (r.local P.main) r.device x y → slice_get P.funcs P.main ≡ y → AreStacksSame r devices funcs P renamed (first_of_stack New x) (first_of_stack P y)
  main_by None None a e = tt
  main_by (Some g) (Some f) a e = (activation_same r devices funcs P renamed 0 P.main false [] g f a (sym (main_takes P sound f e)), tt)
  main_by None (Some f) a e = absurd a
  main_by (Some g) None a e = absurd a

  pub start_same : (inputs : List ℤ) → IsStateSame r devices funcs P renamed (start New inputs) (start P inputs)
  start_same inputs = (
    first_of_stack New (slice_get funcs P.main),
    ap (λ (statics : List (List Value)). record { memory = record { flag = false; statics = statics; inputs = inputs; trace = [] }; stack = first_of_stack New (slice_get funcs P.main); opened = 1; end = (start P inputs).end })
        (sym (objects_fixed P.objects (λ i o e. all_at (λ (o : Object). IsInitial P o.ctype o.init) P.objects i o e sound.initial))),
    main_by (slice_get funcs P.main) (slice_get P.funcs P.main) (renamed.funcs_there P.main) refl,
  )
