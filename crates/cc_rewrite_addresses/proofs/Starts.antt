-- Before the first turn: zeros are no addresses of objects, and first values name none that fails the test.
use Rattle.std.proofs.Common.{◌≡◌, ◌∷◌, ◌++◌, arith, ℕ, zero, suc, ℤ, Bool, true, false, List, [], map, Option, Some, None, slice_get, refl, subst, sym}
use Rattle.std.specs.Prelude.{unwrap_or, replicate, fold}
use Rattle.std.specs.List.{All, flat_map}
use Rattle.cc_states.specs.CcCells.Scalars.{shape_zeros, zeros_over, member_zeros, structure_zeros, zeros}
use Rattle.cc_program.specs.declared.func.Func.{Func}
use Rattle.cc_program.specs.declared.object.Object.{Object}
use Rattle.cc_program.specs.declared.program.Program.{Program}
use Rattle.cc_program.specs.declared.types.CType.{CType}
use Rattle.cc_program.specs.declared.types.Shape.{Shape, roll-Shape, out-roll-Shape}
use Rattle.cc_program.specs.declared.types.Shape.TheOpen as shape
use Rattle.cc_program.specs.declared.types.Sig.{Sig}
use Rattle.cc_program.specs.declared.types.Structure.{Structure}
use Rattle.cc_program.specs.declared.value.Leaf.{Leaf}
use Rattle.cc_program.specs.declared.value.Leaf.TheVariants as leaf
use Rattle.cc_program.specs.declared.value.Value.{Value}
use Rattle.cc_program.proofs.TypeInduction.{with_shape, TypeParts, by_type}
use Rattle.cc_states.proofs.StartLemmas.{start_state}
use Rattle.cc_states.proofs.TurnLemmas.{turn_state}
use Rattle.cc_states.proofs.ZeroLemmas.{parts_zeros, zeros-shape}
use Rattle.cc_states.specs.States.{IsState}
use Rattle.cc_states.specs.CcSteps.Runs.{Arrivals, run}
use Rattle.cc_states.specs.CcSteps.State.{State, first_value, values_or, first_values}
use Rattle.cc_states.specs.CcSteps.Turn.{first_of_stack, start, turn}
use Rattle.cc_states.specs.CcSyntax.Sound.{IsTypedProgram}
use Rattle.cc_states.specs.CcSyntax.Types.{Named}
use Rattle.cc_rewrite_renamed.specs.Names.{names_in_leaf}
use Rattle.cc_rewrite_addresses.specs.Holds.{Every, ValueIn, HoldsIn}
use Rattle.cc_rewrite_addresses.specs.Takes.{NamesNone, AreAddressesIn}
use Rattle.cc_rewrite_addresses.proofs.Steps.{Actives, every_append, activation_in, turn_in}

module _ (test : ℕ → Bool) where
  abbrev Values : List Value → Type 0
  Values vs = Every (ValueIn test) vs

  append_in : (vs ws : List Value) → Values vs → Values ws → Values (vs ++ ws)
  append_in vs ws h k = every_append (ValueIn test) vs ws h k

  -- ---- zeros

  abbrev Table : List (List Value) → Type 0
  Table table = (k : ℕ) → Values (unwrap_or (slice_get table k) [])

  repeated : (vs : List Value) (n : ℕ) → Values vs → Values (flat_map (λ zeros. zeros) (replicate n vs))
  repeated vs zero h = tt
  repeated vs (suc n) h = append_in vs (flat_map (λ zeros. zeros) (replicate n vs)) h (repeated vs n h)

  module _ (table : List (List Value)) (given : Table table) where
    abbrev TypeIn : CType → Type 0
    TypeIn t = Values (zeros_over table t)

    shape_in : (x : shape.Shape-F Shape CType Sig) → TypeParts TypeIn (λ s. Unit {0}) x → Values (shape_zeros table (parts_zeros table x))
    shape_in shape.Void h = tt
    shape_in (shape.Int t) h = (tt, tt)
    shape_in (shape.Pointer t) h = (refl, tt)
    shape_in (shape.Array t n) h = repeated (zeros_over table t) n h
    shape_in (shape.Struct k) h = given k
    shape_in (shape.Func s) h = tt

    type_in : (t : CType) → TypeIn t
    type_in = by_type TypeIn (λ s. Unit {0})
        (λ constant volatile x h. subst Values (sym (zeros-shape table (with_shape constant volatile (roll-Shape x)) x (out-roll-Shape x))) (shape_in x h))
        (λ x h. tt)

    members_in : (ms : List Named) → Values (member_zeros table ms)
    members_in [] = tt
    members_in (m ∷ ms) = append_in (zeros_over table m.1) (member_zeros table ms) (type_in m.1) (members_in ms)

  one_more : (table : List (List Value)) (vs : List Value) → Table table → Values vs → Table (table ++ vs ∷ [])
  one_more [] vs h k zero = k
  one_more [] vs h k (suc i) = tt
  one_more (x ∷ table) vs h k zero = h zero
  one_more (x ∷ table) vs h k (suc i) = one_more table vs (λ j. h (suc j)) k i

  table_in : (before : List (List Value)) (structures : List Structure) → Table before → Table (fold (λ before s. before ++ member_zeros before s.members ∷ []) before structures)
  table_in before [] h = h
  table_in before (s ∷ structures) h = table_in (before ++ member_zeros before s.members ∷ []) structures (one_more before (member_zeros before s.members) h (members_in before h s.members))

  zeros_in : (structures : List Structure) (t : CType) → Values (zeros structures t)
  unfolding structure_zeros
  zeros_in structures t = type_in (structure_zeros structures) (table_in [] structures (λ k. tt)) t

  -- ---- first values

  leaf_in : (l : Leaf) → names_in_leaf test l ≡ true → ValueIn test (first_value l)
  leaf_in (leaf.Int n) h = tt
  leaf_in (leaf.Place a) h = h

  leaves_in : (ls : List Leaf) → All (λ l. names_in_leaf test l ≡ true) ls → Values (map first_value ls)
  leaves_in [] h = tt
  leaves_in (l ∷ ls) h = (leaf_in l (h 0 l (omega arith)), leaves_in ls (λ k d lt. h (suc k) d (omega (arith, lt))))

  values_in : (ls : List Leaf) (others : List Value) → All (λ l. names_in_leaf test l ≡ true) ls → Values others → Values (values_or ls others)
  values_in [] others h k = k
  values_in (l ∷ ls) others h k = leaves_in (l ∷ ls) h

  module _ (p : Program) (none : AreAddressesIn test p) where
    objects_in : (os : List Object) → All (NamesNone test) os → Every Values (map (first_values p) os)
    objects_in [] h = tt
    objects_in (o ∷ os) h = (values_in o.init (zeros p.structures o.ctype) (h 0 o (omega arith)) (zeros_in p.structures o.ctype), objects_in os (λ k d lt. h (suc k) d (omega (arith, lt))))

    stack_in : (f : Option Func) → Actives test p (first_of_stack p f)
    stack_in None = tt
    stack_in (Some f) = (activation_in test p 0 p.main false [] f tt, tt)

    pub start_in : (inputs : List ℤ) → HoldsIn test (start p inputs)
    start_in inputs = record { statics = objects_in p.objects none.first; stack = stack_in (slice_get p.funcs p.main) }

    run_from : IsTypedProgram p → (s : State) → IsState p s → HoldsIn test s → (arrivals : Arrivals) → HoldsIn test (run p s arrivals)
    run_from t s h k [] = k
    run_from t s h k (a ∷ rest) = run_from t (turn p s a) (turn_state p t s h a) (turn_in test p none s h k a) rest

    pub run_in : IsTypedProgram p → (inputs : List ℤ) (arrivals : Arrivals) → HoldsIn test (run p (start p inputs) arrivals)
    run_in t inputs arrivals = run_from t (start p inputs) (start_state p t inputs) (start_in inputs) arrivals
