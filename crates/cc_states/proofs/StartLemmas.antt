-- The start of a run is a state of its program: first values stand in order of path, each of its scalar's type.
use Rattle.std.proofs.Common.{arith, ◌≡◌, ◌<◌, inl, inr, ℕ, zero, suc, ℤ, Bool, true, false, not, ◌&&◌, ◌||◌, ◌+◌, ◌*◌, List, [], ◌∷◌, map, length, length-append, take, replicate, Option, Some, None, refl, ap, sym, ◌∙◌, subst}
use Rattle.std.proofs.lemmas.List.{length-map}
use Rattle.std.proofs.lemmas.Option.{same_Some, slice_get-map}
use Rattle.std.specs.Prelude.{option_map, slice_get, unwrap_or, if◌then◌else◌}
use Rattle.std.specs.List.{flat_map}
use Rattle.cc_program.specs.declared.func.Func.{Func}
use Rattle.cc_program.specs.declared.object.Object.{Object}
use Rattle.cc_program.specs.declared.program.Program.{Program}
use Rattle.cc_program.specs.declared.types.CType.{CType}
use Rattle.cc_program.specs.declared.types.Shape.{Shape, out-Shape}
use Rattle.cc_program.specs.declared.types.Shape.TheOpen as shape
use Rattle.cc_program.specs.declared.types.Sig.{Sig, out-Sig}
use Rattle.cc_program.specs.declared.types.Structure.{Structure}
use Rattle.cc_program.specs.declared.value.Address.{Address}
use Rattle.cc_program.specs.declared.value.Address.TheVariants as address
use Rattle.cc_program.specs.declared.value.Leaf.{Leaf}
use Rattle.cc_program.specs.declared.value.Leaf.TheVariants as leaf
use Rattle.cc_program.specs.declared.value.Part.{Part}
use Rattle.cc_program.specs.declared.value.Part.TheVariants as part
use Rattle.cc_program.specs.declared.value.Root.TheVariants as root
use Rattle.cc_program.specs.declared.value.Value.{Value}
use Rattle.cc_program.specs.declared.value.Value.TheVariants.{Int, Place}
use Rattle.cc_steps.specs.CcCells.Scalars.{zeros_over, member_zeros, structure_zeros, zeros}
use Rattle.cc_steps.specs.Runs.{Arrivals, run}
use Rattle.cc_steps.specs.State.{State, first_value, values_or, first_values}
use Rattle.cc_steps.specs.Step.{activation}
use Rattle.cc_steps.specs.Turn.{start, turn, first_of_stack}
use Rattle.cc_steps.specs.CcSyntax.Initial.{OfInteger, OfPointer, OfArray, OfStructure, NoElement, Element, NoMember, Member}
use Rattle.cc_steps.specs.CcSyntax.Programs.{is_address, AreLeaves, AreElements, AreMembers, IsInitial}
use Rattle.cc_steps.specs.CcSyntax.Operators.{is_handler}
use Rattle.cc_steps.specs.CcSyntax.Sound.{any_names, IsTypedProgram, IsFuncBy, is_main, is_main_there, is_plain_int, is_plain_void, takes_nothing}
use Rattle.cc_steps.specs.CcSyntax.Types.{Named, IsInOrder}
use Rattle.cc_steps.specs.CcSyntax.Values.{ValueType, Integer, pointer_shape, pointer_to, scalar_shape, scalar_value}
use Rattle.cc_program.specs.Qualifiers.{is_const, is_volatile}
use Rattle.cc_steps.proofs.CcSyntax.Parts.{all_at}
use Rattle.cc_steps.proofs.CcSyntax.Prefixes.{both_true}
use Rattle.cc_states.specs.States.{AreScalars, AreStatics, AreActive, AreCalled, IsStateOf, IsState, AreInOrder}
use Rattle.cc_states.specs.Typed.{IsAddress, HasType}
use Rattle.cc_states.proofs.PathLemmas.{structure-whole, element_step, member_step, at, scalar_in, stepped, element_position, member_position, element_scalar, member_scalar, zeros_typed}
use Rattle.cc_states.proofs.ZeroLemmas.{zeros-shape}
use Rattle.cc_states.proofs.ListLemmas.{one_more}
use Rattle.cc_states.proofs.TurnLemmas.{order_of, function_sound, main_there, no_arguments, turn_state}
use Rattle.cc_states.proofs.LocalLemmas.{opened_active}

length-repeats : (n : ℕ) (xs : List Value) → length (flat_map (λ zs. zs) (replicate n xs)) ≡ n * length xs
length-repeats zero xs = omega arith
length-repeats (suc n) xs = let r = length-repeats n xs in length-append xs (flat_map (λ zs. zs) (replicate n xs)) ∙ (omega (arith, r) ∙ sym (one_more n (length xs)))

no_scalar : (C : Type 0) (w : ValueType) (x : Option ValueType) → x ≡ None → x ≡ Some w → C
no_scalar C w x h k = absurd (cc)

no_leaf : (l : Leaf) (ls : List Leaf) → l ∷ ls ≡ [] → ⊥
no_leaf l ls h = absurd (cc)

module _ (p : Program) (order : IsInOrder p.structures) where
  abbrev table : List (List Value)
  table = structure_zeros p.structures

  abbrev count : CType → ℕ
  count t = length (zeros_over table t)

  -- the leaves of a type stand in front of the others
  abbrev Skips : List Leaf → ℕ → List Leaf → Type 0
  Skips leaves n rest = (k : ℕ) → slice_get leaves (n + k) ≡ slice_get rest k

  one_leaf : (l : Leaf) (rest : List Leaf) (n : ℕ) → n ≡ 1 → Skips (l ∷ rest) n rest
  one_leaf l rest n e k = let f : n + k ≡ suc k = omega (arith, e) in ap (slice_get (l ∷ rest)) f

  then_skips : (leaves between rest : List Leaf) (n m l : ℕ) → l ≡ n + m → Skips leaves n between → Skips between m rest → Skips leaves l rest
  then_skips leaves between rest n m l e h g k = let f : l + k ≡ n + (m + k) = omega (arith, e) in ap (slice_get leaves) f ∙ h (m + k) ∙ g k

  none_skipped : (rest : List Leaf) (n : ℕ) → n ≡ 0 → Skips rest n rest
  none_skipped rest n e k = let f : n + k ≡ k = omega (arith, e) in ap (slice_get rest) f

  mutual
    skips : (t : CType) (leaves rest : List Leaf) → AreLeaves p t leaves rest → Skips leaves (count t) rest
    skips _ _ _ (OfInteger t i n rest e h) = one_leaf (leaf.Int n) rest (count t) (ap length (zeros-shape table t (shape.Int i) e))
    skips _ _ _ (OfPointer t to a rest e h) = one_leaf (leaf.Place a) rest (count t) (ap length (zeros-shape table t (shape.Pointer to) e))
    skips _ _ _ (OfArray t of n leaves rest e h) =
        subst (λ (m : ℕ). Skips leaves m rest) (sym (ap length (zeros-shape table t (shape.Array of n) e) ∙ length-repeats n (zeros_over table of))) (elements_skip of n leaves rest h)
    skips _ _ _ (OfStructure t i s leaves rest e g h) =
        subst (λ (m : ℕ). Skips leaves m rest) (sym (ap length (zeros-shape table t (shape.Struct i) e ∙ ap (λ l. unwrap_or l []) (structure-whole p.structures order i s g)))) (members_skip s.members leaves rest h)

    elements_skip : (of : CType) (n : ℕ) (leaves rest : List Leaf) → AreElements p of n leaves rest → Skips leaves (n * count of) rest
    elements_skip _ _ _ _ (NoElement of rest) = none_skipped rest (0 * count of) (omega arith)
    elements_skip _ _ _ _ (Element of n leaves between rest a b) = then_skips leaves between rest (count of) (n * count of) (suc n * count of) (one_more n (count of)) (skips of leaves between a) (elements_skip of n between rest b)

    members_skip : (ms : List Named) (leaves rest : List Leaf) → AreMembers p ms leaves rest → Skips leaves (length (member_zeros table ms)) rest
    members_skip _ _ _ (NoMember rest) = none_skipped rest 0 refl
    members_skip _ _ _ (Member m ms leaves between rest a b) =
        then_skips leaves between rest (count m.1) (length (member_zeros table ms)) (length (member_zeros table (m ∷ ms))) (length-append (zeros_over table m.1) (member_zeros table ms)) (skips m.1 leaves between a) (members_skip ms between rest b)

  -- and there are as many
  mutual
    lengths : (t : CType) (leaves rest : List Leaf) → AreLeaves p t leaves rest → length leaves ≡ count t + length rest
    lengths _ _ _ (OfInteger t i n rest e h) = let c = ap length (zeros-shape table t (shape.Int i) e) in omega (arith, c)
    lengths _ _ _ (OfPointer t to a rest e h) = let c = ap length (zeros-shape table t (shape.Pointer to) e) in omega (arith, c)
    lengths _ _ _ (OfArray t of n leaves rest e h) = elements_length of n leaves rest h ∙ ap (λ (m : ℕ). m + length rest) (sym (ap length (zeros-shape table t (shape.Array of n) e) ∙ length-repeats n (zeros_over table of)))
    lengths _ _ _ (OfStructure t i s leaves rest e g h) =
        members_length s.members leaves rest h ∙ ap (λ (m : ℕ). m + length rest) (sym (ap length (zeros-shape table t (shape.Struct i) e ∙ ap (λ l. unwrap_or l []) (structure-whole p.structures order i s g))))

    elements_length : (of : CType) (n : ℕ) (leaves rest : List Leaf) → AreElements p of n leaves rest → length leaves ≡ n * count of + length rest
    elements_length _ _ _ _ (NoElement of rest) = omega arith
    elements_length _ _ _ _ (Element of n leaves between rest a b) =
        let l = lengths of leaves between a in
        let m = elements_length of n between rest b in
        let o = one_more n (count of) in
        omega (arith, l, m, o)

    members_length : (ms : List Named) (leaves rest : List Leaf) → AreMembers p ms leaves rest → length leaves ≡ length (member_zeros table ms) + length rest
    members_length _ _ _ (NoMember rest) = omega arith
    members_length _ _ _ (Member m ms leaves between rest a b) =
        let l = lengths m.1 leaves between a in
        let k = members_length ms between rest b in
        let o = length-append (zeros_over table m.1) (member_zeros table ms) in
        omega (arith, l, k, o)

  -- the leaves of one element, or of one member, and where they begin
  record PartLeaves (t : CType) (leaves : List Leaf) (n : ℕ) : Type 0 where
    next : List Leaf
    between : List Leaf
    are : AreLeaves p t next between
    from : Skips leaves n next

  later_part : (t : CType) (leaves between : List Leaf) (n m l : ℕ) → l ≡ n + m → Skips leaves n between → PartLeaves t between m → PartLeaves t leaves l
  later_part t leaves between n m l e h q = record { next = q.next; between = q.between; are = q.are; from = then_skips leaves between q.next n m l e h q.from }

  element_leaves : (of : CType) (n : ℕ) (leaves rest : List Leaf) → AreElements p of n leaves rest → (i : ℕ) → i < n → PartLeaves of leaves (i * count of)
  element_leaves _ _ _ _ (NoElement of rest) i h = absurd (omega (arith, h))
  element_leaves _ _ _ _ (Element of n leaves between rest a b) zero h = record { next = leaves; between = between; are = a; from = none_skipped leaves (0 * count of) (omega arith) }
  element_leaves _ _ _ _ (Element of n leaves between rest a b) (suc i) h =
      later_part of leaves between (count of) (i * count of) (suc i * count of) (one_more i (count of)) (skips of leaves between a) (element_leaves of n between rest b i (omega (arith, h)))

  member_leaves : (ms : List Named) (leaves rest : List Leaf) → AreMembers p ms leaves rest → (i : ℕ) (m : Named) → slice_get ms i ≡ Some m → PartLeaves m.1 leaves (length (member_zeros table (take i ms)))
  member_leaves _ _ _ (NoMember rest) i m h = absurd (cc)
  member_leaves _ _ _ (Member n ms leaves between rest a b) zero m h =
      subst (λ (x : Named). PartLeaves x.1 leaves 0) (same_Some n m h) (record { next = leaves; between = between; are = a; from = none_skipped leaves 0 refl })
  member_leaves _ _ _ (Member n ms leaves between rest a b) (suc i) m h =
      later_part m.1 leaves between (count n.1) (length (member_zeros table (take i ms))) (length (member_zeros table (n ∷ take i ms))) (length-append (zeros_over table n.1) (member_zeros table (take i ms)))
      (skips n.1 leaves between a) (member_leaves ms between rest b i m h)

  array_of : (t of : CType) (n : ℕ) (leaves rest : List Leaf) → out-Shape t.shape ≡ shape.Array of n → AreLeaves p t leaves rest → AreElements p of n leaves rest
  array_of _ of n _ _ o (OfInteger t j m rest k v) = absurd (cc)
  array_of _ of n _ _ o (OfPointer t other a rest k v) = absurd (cc)
  array_of _ of n _ _ o (OfArray t other m leaves rest k v) =
      let e : of ≡ other = cc in
      let f : n ≡ m = cc in
      subst (λ of. AreElements p of n leaves rest) (sym e) (subst (λ n. AreElements p other n leaves rest) (sym f) v)
  array_of _ of n _ _ o (OfStructure t j s leaves rest k g v) = absurd (cc)

  structure_of : (t : CType) (i : ℕ) (s : Structure) (leaves rest : List Leaf) → out-Shape t.shape ≡ shape.Struct i → slice_get p.structures i ≡ Some s → AreLeaves p t leaves rest → AreMembers p s.members leaves rest
  structure_of _ i s _ _ o g (OfInteger t j m rest k v) = absurd (cc)
  structure_of _ i s _ _ o g (OfPointer t other a rest k v) = absurd (cc)
  structure_of _ i s _ _ o g (OfArray t other m leaves rest k v) = absurd (cc)
  structure_of _ i s _ _ o g (OfStructure t j r leaves rest k f v) =
      let e : i ≡ j = cc in
      let same : r ≡ s = cc in
      subst (λ (r : Structure). AreMembers p r.members leaves rest) same v

  module _ (openings : List ℕ) where
    -- an address constant is an address of its type
    constant_address : (to : ValueType) (a : Address) → is_address p to a ≡ true → IsAddress p openings to a
    constant_address to address.Null h = tt
    constant_address to (address.Func f) h = h
    constant_address to (address.At (root.Static i) path index count) h = (tt, h, tt)
    constant_address to (address.At (root.Auto number func local) path index count) h = absurd (cc)

    pointer_has : (to : CType) (x : shape.Shape-F Shape CType Sig) (a : Address) → IsAddress p openings (pointer_shape to x) a → HasType p openings (pointer_shape to x) (Place a)
    pointer_has to shape.Void a h = h
    pointer_has to (shape.Int i) a h = h
    pointer_has to (shape.Pointer of) a h = h
    pointer_has to (shape.Array of n) a h = h
    pointer_has to (shape.Struct i) a h = h
    pointer_has to (shape.Func sig) a h = h

    abbrev LeafAt : List Leaf → ℕ → ValueType → Type 0
    LeafAt leaves n w = (l : Leaf) × (slice_get leaves n ≡ Some l) × HasType p openings w (first_value l)

    scalar_leaf : (t : CType) (w : ValueType) (leaves rest : List Leaf) → AreLeaves p t leaves rest → scalar_value t ≡ Some w → LeafAt leaves 0 w
    scalar_leaf _ w _ _ (OfInteger t i n rest e h) k = (leaf.Int n, refl, subst (λ (u : ValueType). HasType p openings u (Int n)) (same_Some (Integer i) w (ap scalar_shape (sym e) ∙ k)) h)
    scalar_leaf _ w _ _ (OfPointer t to a rest e h) k =
        (leaf.Place a, refl, subst (λ (u : ValueType). HasType p openings u (Place a)) (same_Some (pointer_to to) w (ap scalar_shape (sym e) ∙ k)) (pointer_has to (out-Shape to.shape) a (constant_address (pointer_to to) a h)))
    scalar_leaf _ w _ _ (OfArray t of n leaves rest e h) k = no_scalar (LeafAt leaves 0 w) w (scalar_value t) (ap scalar_shape e) k
    scalar_leaf _ w _ _ (OfStructure t i s leaves rest e g h) k = no_scalar (LeafAt leaves 0 w) w (scalar_value t) (ap scalar_shape e) k

    moved_leaf : (leaves next : List Leaf) (n q m : ℕ) (w : ValueType) → m ≡ n + q → Skips leaves n next → LeafAt next q w → LeafAt leaves m w
    moved_leaf leaves next n q m w e h l = (l.0, ap (slice_get leaves) e ∙ h q ∙ l.1, l.2)

    leaf_at : (path : List Part) (c v : Bool) (t : CType) (w : ValueType) (leaves rest : List Leaf) → AreLeaves p t leaves rest → scalar_in p.structures order t path c v ≡ Some w → LeafAt leaves (at p.structures order t path c v) w
    leaf_at [] c v t w leaves rest h k = scalar_leaf t w leaves rest h k
    leaf_at (part.Index i ∷ path) c v t w leaves rest h k =
        stepped p.structures order p openings (LeafAt leaves (at p.structures order t (part.Index i ∷ path) c v) w) c v t w (part.Index i) path k
        (λ a f l.
        let e = element_step p.structures order c v t i a f in
        let q = element_leaves e.of e.n leaves rest (array_of t e.of e.n leaves rest e.is_array h) i e.within in
        moved_leaf leaves q.next (i * count e.of) (at p.structures order e.of path c v) (at p.structures order t (part.Index i ∷ path) c v) w (element_position p.structures order c v t i path a e f) q.from
        (leaf_at path c v e.of w q.next q.between q.are (element_scalar p.structures order c v t i path a w e l)))
    leaf_at (part.Member m ∷ path) c v t w leaves rest h k =
        stepped p.structures order p openings (LeafAt leaves (at p.structures order t (part.Member m ∷ path) c v) w) c v t w (part.Member m) path k
        (λ a f l.
        let e = member_step p.structures order c v t m a f in
        let q = member_leaves e.s.members leaves rest (structure_of t e.i e.s leaves rest e.is_struct e.found h) m e.n e.named in
        moved_leaf leaves q.next (length (member_zeros table (take m e.s.members))) (at p.structures order e.n.1 path (c || is_const e.n.1) (v || is_volatile e.n.1)) (at p.structures order t (part.Member m ∷ path) c v) w
        (member_position p.structures order c v t m path a e f) q.from
        (leaf_at path (c || is_const e.n.1) (v || is_volatile e.n.1) e.n.1 w q.next q.between q.are (member_scalar p.structures order c v t m path a w e l)))

    first_typed : (t : CType) (init : List Leaf) → IsInitial p t init → AreScalars p (HasType p openings) t (values_or init (zeros p.structures t))
    first_typed t [] h = zeros_typed p openings order t
    first_typed t (l ∷ ls) (inl h) = absurd (no_leaf l ls h)
    first_typed t (l ∷ ls) (inr h) = record {
      count = length-map (l ∷ ls) first_value ∙ lengths t (l ∷ ls) [] h.0 ∙ omega arith;
      typed = λ path w k.
          let x = leaf_at path (is_const t) (is_volatile t) t w (l ∷ ls) [] h.0 k in
          (first_value x.0, slice_get-map first_value (l ∷ ls) (at p.structures order t path (is_const t) (is_volatile t)) ∙ ap (option_map first_value) x.1, x.2);
    }

-- ---- the first state

module _ (p : Program) (sound : IsTypedProgram p) where
  main_empty : (f : Func) → IsFuncBy p any_names f → is_main f ≡ true → takes_nothing f ≡ true
  main_empty f k m =
      let form = ap (λ (b : Bool). if b then not (is_handler f) && (takes_nothing f && (is_plain_int (out-Sig f.sig).result || is_plain_void (out-Sig f.sig).result)) else (if is_handler f then takes_nothing f && is_plain_void (out-Sig f.sig).result else true)) (sym m) ∙ k.form in
      (both_true (takes_nothing f) (is_plain_int (out-Sig f.sig).result || is_plain_void (out-Sig f.sig).result) (both_true (not (is_handler f)) (takes_nothing f && (is_plain_int (out-Sig f.sig).result || is_plain_void (out-Sig f.sig).result)) form).1).0

  abbrev one : List ℕ
  one = p.main ∷ []

  first_active : (f : Func) → slice_get p.funcs p.main ≡ Some f → AreActive p one (activation p 0 p.main false [] f ∷ [])
  first_active f e =
      let k = function_sound p sound p.main f e in
      (opened_active p one (order_of p sound) 0 p.main false [] f e refl k (λ entered. absurd (cc)) (no_arguments p sound one (out-Sig f.sig).params (main_empty f k (main_there p sound (slice_get p.funcs p.main) f e sound.main))), tt)

  static_start : (i : ℕ) (o : Object) → slice_get p.objects i ≡ Some o → (values : List Value) × (slice_get (map (first_values p) p.objects) i ≡ Some values) × AreScalars p (HasType p one) o.ctype values
  static_start i o e =
      (first_values p o, slice_get-map (first_values p) p.objects i ∙ ap (option_map (first_values p)) e, first_typed p (order_of p sound) one o.ctype o.init (all_at (λ (o : Object). IsInitial p o.ctype o.init) p.objects i o e sound.initial))

  statics_start : AreStatics p one (map (first_values p) p.objects)
  statics_start = (length-map p.objects (first_values p), static_start)

  start_by : (inputs : List ℤ) (x : Option Func) → slice_get p.funcs p.main ≡ x → is_main_there x ≡ true → IsStateOf p one (start p inputs)
  start_by inputs None e h = absurd (cc)
  start_by inputs (Some f) e h = record {
    count = refl;
    statics = statics_start;
    stack = subst (λ (x : Option Func). AreActive p one (first_of_stack p x)) (sym e) (first_active f e);
    called = subst (λ (x : Option Func). AreCalled p (first_of_stack p x)) (sym e) (refl, refl);
    order = subst (λ (x : Option Func). AreInOrder (first_of_stack p x)) (sym e) tt;
    running = λ g. (activation p 0 p.main false [] f, [], ap (first_of_stack p) e);
  }

  pub start_state : (inputs : List ℤ) → IsState p (start p inputs)
  start_state inputs = (one, start_by inputs (slice_get p.funcs p.main) refl sound.main)

  run_by : (s : State) → IsState p s → (arrivals : Arrivals) → IsState p (run p s arrivals)
  run_by s h [] = h
  run_by s h (a ∷ rest) = run_by (turn p s a) (turn_state p sound s h a) rest

  pub run_state : (inputs : List ℤ) (arrivals : Arrivals) → IsState p (run p (start p inputs) arrivals)
  run_state inputs arrivals = run_by (start p inputs) (start_state inputs) arrivals
