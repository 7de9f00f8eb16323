-- The leaves of a type, by its shape: what a rule of the definition says of a derivation that ends in it.
use Rattle.std.proofs.Common.{arith, ◌≡◌, ◌↔◌, ℕ, zero, suc, ℤ, Bool, true, false, List, [], ◌∷◌, refl, ap, sym, ◌∙◌, subst, Option, Some, None, slice_get, if◌then◌else◌}
use Rattle.cc_program.specs.CcNum.declared.int_type.IntType.{IntType}
use Rattle.cc_program.specs.CcNum.Integers.{is_value_of}
use Rattle.cc_program.specs.declared.program.Program.{Program}
use Rattle.cc_program.specs.declared.types.CType.{CType}
use Rattle.cc_program.specs.declared.types.Shape.{Int, Pointer, Array, Struct, out-Shape}
use Rattle.cc_program.specs.declared.types.Shape.TheOpen as shape
use Rattle.cc_program.specs.declared.types.Shape.TheVariants.{outs-Int, outs-Pointer, outs-Array, outs-Struct}
use Rattle.cc_program.specs.declared.types.Sig.{Sig}
use Rattle.cc_program.specs.declared.types.Structure.{Structure}
use Rattle.cc_program.specs.declared.value.Address.{Address}
use Rattle.cc_program.specs.declared.value.Leaf.{Leaf}
use Rattle.cc_program.specs.declared.value.Leaf.TheVariants as leaf
use Rattle.cc_typed.specs.CcSyntax.Initial.{OfInteger, OfPointer, OfArray, OfStructure, NoElement, Element, NoMember, Member}
use Rattle.cc_typed.specs.CcSyntax.Programs.{is_address, AreLeaves, AreElements, AreMembers}
use Rattle.cc_typed.specs.CcSyntax.Types.{Named}
use Rattle.cc_typed.specs.CcSyntax.Values.{ValueType, pointer_to}
use Rattle.cc_sound.specs.Leaves.{integer_behind, pointer_behind}

some_same : {A : Type 0} → {x y : A} → Some x ≡ Some y → x ≡ y
some_same h = cc

module _ (p : Program) where
  -- integers
  integer_from : (t : CType) (i : IntType) (leaves rest : List Leaf) → out-Shape t.shape ≡ shape.Int i → AreLeaves p t leaves rest → integer_behind p i leaves ≡ Some rest
  integer_from _ i _ _ o (OfInteger t j n rest k v) =
      let e : i ≡ j = cc in
      ap (λ b. if b then Some rest else None) (subst (λ j. is_value_of j p.target n ≡ true) (sym e) v)
  integer_from _ i _ _ o (OfPointer t to a rest k v) = absurd (cc)
  integer_from _ i _ _ o (OfArray t of n leaves rest k v) = absurd (cc)
  integer_from _ i _ _ o (OfStructure t j s leaves rest k g v) = absurd (cc)

  integer_by : (t : CType) (i : IntType) (n : ℤ) (ls rest : List Leaf) (b : Bool) → out-Shape t.shape ≡ shape.Int i → is_value_of i p.target n ≡ b → (if b then Some ls else None) ≡ Some rest → AreLeaves p t (leaf.Int n ∷ ls) rest
  integer_by t i n ls rest true o e h = subst (λ r. AreLeaves p t (leaf.Int n ∷ ls) r) (some_same h) (OfInteger t i n ls o e)
  integer_by t i n ls rest false o e h = absurd (cc)

  integer_to : (t : CType) (i : IntType) (leaves rest : List Leaf) → out-Shape t.shape ≡ shape.Int i → integer_behind p i leaves ≡ Some rest → AreLeaves p t leaves rest
  integer_to t i [] rest o h = absurd (cc)
  integer_to t i (leaf.Int n ∷ ls) rest o h = integer_by t i n ls rest (is_value_of i p.target n) o refl h
  integer_to t i (leaf.Place a ∷ ls) rest o h = absurd (cc)

  pub integer_leaves : (t : CType) (i : IntType) (leaves rest : List Leaf) → out-Shape t.shape ≡ shape.Int i → (integer_behind p i leaves ≡ Some rest) ↔ AreLeaves p t leaves rest
  integer_leaves t i leaves rest o = (integer_to t i leaves rest o, integer_from t i leaves rest o)

  -- pointers
  pointer_from : (t to : CType) (leaves rest : List Leaf) → out-Shape t.shape ≡ shape.Pointer to → AreLeaves p t leaves rest → pointer_behind p (pointer_to to) leaves ≡ Some rest
  pointer_from _ to _ _ o (OfInteger t j n rest k v) = absurd (cc)
  pointer_from _ to _ _ o (OfPointer t other a rest k v) =
      let e : to ≡ other = cc in
      ap (λ b. if b then Some rest else None) (subst (λ other. is_address p (pointer_to other) a ≡ true) (sym e) v)
  pointer_from _ to _ _ o (OfArray t of n leaves rest k v) = absurd (cc)
  pointer_from _ to _ _ o (OfStructure t j s leaves rest k g v) = absurd (cc)

  pointer_by : (t to : CType) (a : Address) (ls rest : List Leaf) (b : Bool) → out-Shape t.shape ≡ shape.Pointer to → is_address p (pointer_to to) a ≡ b → (if b then Some ls else None) ≡ Some rest → AreLeaves p t (leaf.Place a ∷ ls) rest
  pointer_by t to a ls rest true o e h = subst (λ r. AreLeaves p t (leaf.Place a ∷ ls) r) (some_same h) (OfPointer t to a ls o e)
  pointer_by t to a ls rest false o e h = absurd (cc)

  pointer_into : (t to : CType) (leaves rest : List Leaf) → out-Shape t.shape ≡ shape.Pointer to → pointer_behind p (pointer_to to) leaves ≡ Some rest → AreLeaves p t leaves rest
  pointer_into t to [] rest o h = absurd (cc)
  pointer_into t to (leaf.Int n ∷ ls) rest o h = absurd (cc)
  pointer_into t to (leaf.Place a ∷ ls) rest o h = pointer_by t to a ls rest (is_address p (pointer_to to) a) o refl h

  pub pointer_leaves : (t to : CType) (leaves rest : List Leaf) → out-Shape t.shape ≡ shape.Pointer to → (pointer_behind p (pointer_to to) leaves ≡ Some rest) ↔ AreLeaves p t leaves rest
  pointer_leaves t to leaves rest o = (pointer_into t to leaves rest o, pointer_from t to leaves rest o)

  -- arrays
  array_from : (t of : CType) (n : ℕ) (leaves rest : List Leaf) → out-Shape t.shape ≡ shape.Array of n → AreLeaves p t leaves rest → AreElements p of n leaves rest
  array_from _ of n _ _ o (OfInteger t j m rest k v) = absurd (cc)
  array_from _ of n _ _ o (OfPointer t other a rest k v) = absurd (cc)
  array_from _ of n _ _ o (OfArray t other m leaves rest k v) =
      let e : of ≡ other = cc in
      let f : n ≡ m = cc in
      subst (λ of. AreElements p of n leaves rest) (sym e) (subst (λ n. AreElements p other n leaves rest) (sym f) v)
  array_from _ of n _ _ o (OfStructure t j s leaves rest k g v) = absurd (cc)

  pub array_leaves : (t of : CType) (n : ℕ) (leaves rest : List Leaf) → out-Shape t.shape ≡ shape.Array of n → AreElements p of n leaves rest ↔ AreLeaves p t leaves rest
  array_leaves t of n leaves rest o = (λ h. OfArray t of n leaves rest o h, array_from t of n leaves rest o)

  -- structures
  structure_from : (t : CType) (i : ℕ) (s : Structure) (leaves rest : List Leaf) → out-Shape t.shape ≡ shape.Struct i → slice_get p.structures i ≡ Some s → AreLeaves p t leaves rest → AreMembers p s.members leaves rest
  structure_from _ i s _ _ o g (OfInteger t j m rest k v) = absurd (cc)
  structure_from _ i s _ _ o g (OfPointer t other a rest k v) = absurd (cc)
  structure_from _ i s _ _ o g (OfArray t other m leaves rest k v) = absurd (cc)
  structure_from _ i s _ _ o g (OfStructure t j r leaves rest k f v) =
      let e : i ≡ j = cc in
      let same : r ≡ s = cc in
      subst (λ (r : Structure). AreMembers p r.members leaves rest) same v

  pub structure_leaves : (t : CType) (i : ℕ) (s : Structure) (leaves rest : List Leaf) → out-Shape t.shape ≡ shape.Struct i → slice_get p.structures i ≡ Some s → AreMembers p s.members leaves rest ↔ AreLeaves p t leaves rest
  structure_leaves t i s leaves rest o g = (λ h. OfStructure t i s leaves rest o g h, structure_from t i s leaves rest o g)

  -- what has no objects has no leaves
  pub void_leaves : (t : CType) (leaves rest : List Leaf) → out-Shape t.shape ≡ shape.Void → (None ≡ Some rest) ↔ AreLeaves p t leaves rest
  void_leaves t leaves rest o = (λ h. absurd (cc), void_none t leaves rest o) where
    void_none : (t : CType) (leaves rest : List Leaf) → out-Shape t.shape ≡ shape.Void → AreLeaves p t leaves rest → None ≡ Some rest
    void_none _ _ _ o (OfInteger t j m rest k v) = absurd (cc)
    void_none _ _ _ o (OfPointer t other a rest k v) = absurd (cc)
    void_none _ _ _ o (OfArray t other m leaves rest k v) = absurd (cc)
    void_none _ _ _ o (OfStructure t j r leaves rest k f v) = absurd (cc)

  pub function_leaves : (t : CType) (sig : Sig) (leaves rest : List Leaf) → out-Shape t.shape ≡ shape.Func sig → (None ≡ Some rest) ↔ AreLeaves p t leaves rest
  function_leaves t sig leaves rest o = (λ h. absurd (cc), function_none t sig leaves rest o) where
    function_none : (t : CType) (sig : Sig) (leaves rest : List Leaf) → out-Shape t.shape ≡ shape.Func sig → AreLeaves p t leaves rest → None ≡ Some rest
    function_none _ sig _ _ o (OfInteger t j m rest k v) = absurd (cc)
    function_none _ sig _ _ o (OfPointer t other a rest k v) = absurd (cc)
    function_none _ sig _ _ o (OfArray t other m leaves rest k v) = absurd (cc)
    function_none _ sig _ _ o (OfStructure t j r leaves rest k f v) = absurd (cc)

  -- what a call of the code has found of a type's leaves
  abbrev pub Found : CType → List Leaf → Option (List Leaf) → Type 0
  Found t leaves o = (rest : List Leaf) → (o ≡ Some rest) ↔ AreLeaves p t leaves rest

  -- one element after the other
  abbrev pub SameElements : CType → ℕ → List Leaf → ℕ → List Leaf → Type 0
  SameElements of m left n leaves = (rest : List Leaf) → AreElements p of m left rest ↔ AreElements p of n leaves rest

  element_from : (of : CType) (m : ℕ) (left next rest : List Leaf) → Found of left (Some next) → AreElements p of (suc m) left rest → AreElements p of m next rest
  element_from _ _ _ next _ h (Element of m left between rest a b) = subst (λ l. AreElements p of m l rest) (sym (some_same ((h between).1 a))) b

  pub element_more : (of : CType) (m n : ℕ) (left next leaves : List Leaf) → Found of left (Some next) → SameElements of (suc m) left n leaves → SameElements of m next n leaves
  element_more of m n left next leaves h same rest =
      (λ b. (same rest).0 (Element of m left next rest ((h next).0 refl) b), λ b. element_from of m left next rest h ((same rest).1 b))

  element_none : (of : CType) (m : ℕ) (left rest : List Leaf) → Found of left None → AreElements p of (suc m) left rest → None ≡ Some rest
  element_none _ _ _ _ h (Element of m left between rest a b) = let e : None ≡ Some between = (h between).1 a in absurd (cc)

  pub element_stops : (of : CType) (m n : ℕ) (left leaves rest : List Leaf) → Found of left None → SameElements of (suc m) left n leaves → (None ≡ Some rest) ↔ AreElements p of n leaves rest
  element_stops of m n left leaves rest h same = (λ e. absurd (cc), λ b. element_none of m left rest h ((same rest).1 b))

  no_element : (of : CType) (left rest : List Leaf) → AreElements p of 0 left rest → left ≡ rest
  no_element _ _ _ (NoElement of rest) = refl

  pub elements_all : (of : CType) (n : ℕ) (left leaves rest : List Leaf) → SameElements of 0 left n leaves → (Some left ≡ Some rest) ↔ AreElements p of n leaves rest
  elements_all of n left leaves rest same =
      (λ e. (same rest).0 (subst (λ r. AreElements p of 0 left r) (some_same e) (NoElement of left)), λ b. ap Some (no_element of left rest ((same rest).1 b)))

  -- one member after the other
  abbrev pub SameMembers : List Named → List Leaf → List Named → List Leaf → Type 0
  SameMembers ms left ns leaves = (rest : List Leaf) → AreMembers p ms left rest ↔ AreMembers p ns leaves rest

  member_from : (m : Named) (ms : List Named) (left next rest : List Leaf) → Found m.1 left (Some next) → AreMembers p (m ∷ ms) left rest → AreMembers p ms next rest
  member_from _ _ _ next _ h (Member m ms left between rest a b) = subst (λ l. AreMembers p ms l rest) (sym (some_same ((h between).1 a))) b

  pub member_more : (m : Named) (ms ns : List Named) (left next leaves : List Leaf) → Found m.1 left (Some next) → SameMembers (m ∷ ms) left ns leaves → SameMembers ms next ns leaves
  member_more m ms ns left next leaves h same rest =
      (λ b. (same rest).0 (Member m ms left next rest ((h next).0 refl) b), λ b. member_from m ms left next rest h ((same rest).1 b))

  member_none : (m : Named) (ms : List Named) (left rest : List Leaf) → Found m.1 left None → AreMembers p (m ∷ ms) left rest → None ≡ Some rest
  member_none _ _ _ _ h (Member m ms left between rest a b) = let e : None ≡ Some between = (h between).1 a in absurd (cc)

  pub member_stops : (m : Named) (ms ns : List Named) (left leaves rest : List Leaf) → Found m.1 left None → SameMembers (m ∷ ms) left ns leaves → (None ≡ Some rest) ↔ AreMembers p ns leaves rest
  member_stops m ms ns left leaves rest h same = (λ e. absurd (cc), λ b. member_none m ms left rest h ((same rest).1 b))

  no_member : (left rest : List Leaf) → AreMembers p [] left rest → left ≡ rest
  no_member _ _ (NoMember rest) = refl

  pub members_all : (ns : List Named) (left leaves rest : List Leaf) → SameMembers [] left ns leaves → (Some left ≡ Some rest) ↔ AreMembers p ns leaves rest
  members_all ns left leaves rest same =
      (λ e. (same rest).0 (subst (λ r. AreMembers p [] left r) (some_same e) (NoMember left)), λ b. ap Some (no_member left rest ((same rest).1 b)))

  -- answers of the code, by the shape of the type
  pub found_integer : (t : CType) (i : IntType) (leaves : List Leaf) (o : Option (List Leaf)) → t.shape ≡ Int i → o ≡ integer_behind p i leaves → Found t leaves o
  found_integer t i leaves o h e rest = subst (λ o. (o ≡ Some rest) ↔ AreLeaves p t leaves rest) (sym e) (integer_leaves t i leaves rest (ap out-Shape h ∙ outs-Int i))

  pub found_pointer : (t to : CType) (v : ValueType) (leaves : List Leaf) (o : Option (List Leaf)) → t.shape ≡ Pointer to → v ≡ pointer_to to → o ≡ pointer_behind p v leaves → Found t leaves o
  found_pointer t to v leaves o h k e rest =
      subst (λ o. (o ≡ Some rest) ↔ AreLeaves p t leaves rest) (sym (e ∙ ap (λ v. pointer_behind p v leaves) k)) (pointer_leaves t to leaves rest (ap out-Shape h ∙ outs-Pointer to))

  pub found_array : (t of e : CType) (n : ℕ) (leaves : List Leaf) (o : Option (List Leaf)) → t.shape ≡ Array of n → e ≡ of → ((rest : List Leaf) → (o ≡ Some rest) ↔ AreElements p e n leaves rest) → Found t leaves o
  found_array t of e n leaves o h k f rest =
      let a = array_leaves t of n leaves rest (ap out-Shape h ∙ outs-Array of n) in
      let b = subst (λ (e : CType). (o ≡ Some rest) ↔ AreElements p e n leaves rest) k (f rest) in
      (λ q. a.0 (b.0 q), λ q. b.1 (a.1 q))

  pub found_structure : (t : CType) (i : ℕ) (s : Structure) (ms : List Named) (leaves : List Leaf) (o : Option (List Leaf)) → t.shape ≡ Struct i → slice_get p.structures i ≡ Some s → ms ≡ s.members → ((rest : List Leaf) → (o ≡ Some rest) ↔ AreMembers p ms leaves rest) → Found t leaves o
  found_structure t i s ms leaves o h g k f rest =
      let a = structure_leaves t i s leaves rest (ap out-Shape h ∙ outs-Struct i) g in
      let b = subst (λ (ms : List Named). (o ≡ Some rest) ↔ AreMembers p ms leaves rest) k (f rest) in
      (λ q. a.0 (b.0 q), λ q. b.1 (a.1 q))
