-- The keys of the scalars of types and members over the keys of structures, as the code finds them.
use Rattle.std.proofs.Common.{arith, ◌≡◌, ◌⊎◌, inl, inr, ◌<◌, ◌+◌, ℕ, zero, suc, Bool, true, true≢false, nat_lt, List, [], ◌∷◌, ◌++◌, length, length-append, take, take_all, Option, Some, None, unwrap_or, slice_get, refl, ap, sym, ◌∙◌, subst}
use Rattle.std.specs.Prelude.{option_map}
use Rattle.std.specs.List.{All, flat_map, list_all}
use Rattle.std.proofs.lemmas.Grind.{flat_map-append}
use Rattle.std.proofs.lemmas.List.{append-nil}
use Rattle.std.proofs.lemmas.Option.{same_Some, none-some}
use Rattle.cc_state_keys.specs.CcCells.Scalars.{structure_zeros, position}
use Rattle.cc_program.specs.CcNum.declared.int_type.IntType.{IntType}
use Rattle.cc_program.specs.Qualifiers.{is_const, is_volatile}
use Rattle.cc_program.specs.declared.object.Object.{Object}
use Rattle.cc_program.specs.declared.program.Program.{Program}
use Rattle.cc_program.specs.declared.types.CType.{CType}
use Rattle.cc_program.specs.declared.types.Shape.{Shape, Void, Int, Pointer, Array, Struct, Func, out-Shape}
use Rattle.cc_program.specs.declared.types.Shape.TheOpen as shape
use Rattle.cc_program.specs.declared.types.Shape.TheVariants.{outs-Void, outs-Int, outs-Pointer, outs-Array, outs-Struct, outs-Func}
use Rattle.cc_program.specs.declared.types.Sig.{Sig}
use Rattle.cc_program.specs.declared.types.Structure.{Structure}
use Rattle.cc_program.specs.declared.value.Root.TheVariants as root
use Rattle.cc_state_keys.specs.CcEval.Context.{object_type}
use Rattle.cc_state_keys.specs.CcStateFacts.declared.facts.Key.{Key}
use Rattle.cc_state_keys.specs.CcStateFacts.declared.facts.Key.TheVariants as key
use Rattle.cc_state_keys.proofs.Typed.{sized}
use Rattle.cc_state_keys.specs.Keys.{key_along}
use Rattle.cc_state_scalars.proofs.Listing.{scalar_keys, array_keys, structure_keys, members_keys}
use Rattle.cc_state_scalars.proofs.Rows.{repeats, get_before, get_last, get_split}
use Rattle.cc_state_scalars.specs.Listed.{AreKeys, AreMemberKeys, IsTable, AreKeysOver, AreMemberKeysOver, IsTableOf, AreObjectKeys, AreKeysIn, AreStaticKeys}
use Rattle.cc_states.proofs.TurnLemmas.{order_of}
use Rattle.cc_states.proofs.ZeroLemmas.{zeros-shape}
use Rattle.cc_state_keys.proofs.CcSyntax.Parts.{all_at}
use Rattle.cc_state_keys.proofs.CcSyntax.Prefixes.{both_true, get_taken}
use Rattle.cc_state_keys.proofs.CcSyntax.StructureLemmas.{object_complete}
use Rattle.cc_state_keys.proofs.CcSyntax.TypeLayouts.{parts_complete, complete-opens}
use Rattle.cc_state_keys.specs.CcSyntax.Expressions.{of_one}
use Rattle.cc_state_keys.specs.CcSyntax.Initial.{place_at}
use Rattle.cc_state_keys.specs.CcSyntax.Sound.{IsTypedProgram, is_object}
use Rattle.cc_state_keys.specs.CcSyntax.Types.{Named, has_members, complete_shape, is_complete, IsInOrder}
use Rattle.cc_state_keys.specs.CcSyntax.Values.{Integer, PlaceType, object_place, read_from, pointer_to, scalar_shape}

opened_complete : (structures : List Structure) (t : CType) (x : shape.Shape-F Shape CType Sig) → out-Shape t.shape ≡ x → is_complete structures t ≡ true → complete_shape structures (parts_complete structures x) ≡ true
opened_complete structures t x e h = sym (complete-opens structures t ∙ ap (λ (y : shape.Shape-F Shape CType Sig). complete_shape structures (parts_complete structures y)) e) ∙ h

has_there : (o : Option Structure) → has_members o ≡ true → (st : Structure) × (o ≡ Some st)
has_there None h = absurd (true≢false (sym h))
has_there (Some st) h = (st, refl)

-- ---- by the form of the type

module _ (table : List (List Key)) (t : CType) (k : Key) where
  pub void_over : t.shape ≡ Void → AreKeysOver table t k []
  void_over h p order tab complete = absurd (true≢false (sym (opened_complete (take (length table) p.structures) t shape.Void (ap out-Shape h ∙ outs-Void) complete)))

  pub func_over : (s : Sig) → t.shape ≡ Func s → AreKeysOver table t k []
  func_over s h p order tab complete = absurd (true≢false (sym (opened_complete (take (length table) p.structures) t (shape.Func s) (ap out-Shape h ∙ outs-Func s) complete)))

  pub int_over : (i : IntType) → t.shape ≡ Int i → AreKeysOver table t k (k ∷ [])
  int_over i h p order tab complete =
      let e : out-Shape t.shape ≡ shape.Int i = ap out-Shape h ∙ outs-Int i in
      scalar_keys p order k t (Integer i) (ap scalar_shape e) (ap length (zeros-shape (structure_zeros p.structures) t (shape.Int i) e))

  pub pointer_over : (to : CType) → t.shape ≡ Pointer to → AreKeysOver table t k (k ∷ [])
  pointer_over to h p order tab complete =
      let e : out-Shape t.shape ≡ shape.Pointer to = ap out-Shape h ∙ outs-Pointer to in
      scalar_keys p order k t (pointer_to to) (ap scalar_shape e) (ap length (zeros-shape (structure_zeros p.structures) t (shape.Pointer to) e))

  pub array_over : (of : CType) (n : ℕ) (keys : List Key) → t.shape ≡ Array of n → AreKeysOver table of k keys → AreKeysOver table t k (repeats n keys)
  array_over of n keys h inner p order tab complete =
      let e : out-Shape t.shape ≡ shape.Array of n = ap out-Shape h ∙ outs-Array of n in
      let w = both_true (nat_lt 0 n) (is_complete (take (length table) p.structures) of) (opened_complete (take (length table) p.structures) t (shape.Array of n) e complete) in
      array_keys p order k t of n keys e (inner p order tab w.1)

  pub struct_over : (s : ℕ) → t.shape ≡ Struct s → AreKeysOver table t k (unwrap_or (slice_get table s) [])
  struct_over s h p order tab complete =
      let e : out-Shape t.shape ≡ shape.Struct s = ap out-Shape h ∙ outs-Struct s in
      let st = has_there (slice_get (take (length table) p.structures) s) (opened_complete (take (length table) p.structures) t (shape.Struct s) e complete) in
      let found = get_taken p.structures (length table) s st.0 st.1 in
      let w = tab s st.0 found.0 found.1 in
      subst (AreKeys p.structures k t) (sym (ap (λ (o : Option (List Key)). unwrap_or o []) w.1)) (structure_keys p order k t s st.0 w.0 e found.1 w.2)

-- ---- one list for each of the first of some things

pub record AreMade {A : Type 0} (Is : ℕ → A → List Key → Type 0) (things : List A) (m : ℕ) (lists : List (List Key)) : Type 0 where
  pub count : length lists ≡ m
  pub there : (j : ℕ) (a : A) (l : List Key) → slice_get things j ≡ Some a → slice_get lists j ≡ Some l → Is j a l

pub made_none : {A : Type 0} (Is : ℕ → A → List Key → Type 0) (things : List A) → AreMade Is things 0 []
made_none Is things = record { count = refl; there = λ j a l e f. absurd (none-some l f) }

only_one : {A : Type 0} (x y : A) (q : ℕ) → slice_get (x ∷ []) q ≡ Some y → (q ≡ 0) × (x ≡ y)
only_one x y zero e = (refl, same_Some x y e)
only_one x y (suc q) e = absurd (none-some y e)

pub made_more : {A : Type 0} (Is : ℕ → A → List Key → Type 0) (things : List A) (m : ℕ) (lists : List (List Key)) (a : A) (l : List Key) → AreMade Is things m lists → slice_get things m ≡ Some a → Is m a l → AreMade Is things (m + 1) (lists ++ l ∷ [])
made_more {A = A} Is things m lists a l h at is = record {
  count = (let c = h.count in length-append lists (l ∷ []) ∙ omega (arith, c));
  there = λ j b k e f. by j b k e (get_split lists (l ∷ []) j k f);
}
  where
    by : (j : ℕ) (b : A) (k : List Key) → slice_get things j ≡ Some b → ((j < length lists) × (slice_get lists j ≡ Some k)) ⊎ ((q : ℕ) × (j ≡ length lists + q) × (slice_get (l ∷ []) q ≡ Some k)) → Is j b k
    by j b k e (inl w) = h.there j b k e w.1
    by j b k e (inr w) =
        let o = only_one l k w.0 w.2 in
        let c = h.count in
        let i = w.1 in
        let z = o.0 in
        let same : m ≡ j = omega (arith, c, i, z) in
        let one : a ≡ b = same_Some a b (sym at ∙ ap (slice_get things) same ∙ e) in
        subst (λ (y : List Key). Is j b y) o.1 (subst (λ (y : A). Is j y l) one (subst (λ (n : ℕ). Is n a l) same is))

pub flat_more : (lists : List (List Key)) (l : List Key) → flat_map (λ (k : List Key). k) (lists ++ l ∷ []) ≡ flat_map (λ (k : List Key). k) lists ++ l
flat_more lists l = flat_map-append (λ (k : List Key). k) lists (l ∷ []) ∙ ap (λ (k : List Key). flat_map (λ (k : List Key). k) lists ++ k) (append-nil l)

-- ---- the members of a structure

abbrev pub IsMemberList : List (List Key) → ℕ → ℕ → Named → List Key → Type 0
IsMemberList table s j n l = AreKeysOver table n.1 (key.Member s j) l

-- as far as a loop over them has come
abbrev pub AreMemberLists : List (List Key) → ℕ → List Named → ℕ → List Key → Type 0
AreMemberLists table s members m keys = (lists : List (List Key)) × (keys ≡ flat_map (λ (k : List Key). k) lists) × AreMade (IsMemberList table s) members m lists

pub members_none : (table : List (List Key)) (s : ℕ) (members : List Named) → AreMemberLists table s members 0 []
members_none table s members = ([], refl, made_none (IsMemberList table s) members)

pub members_more : (table : List (List Key)) (s : ℕ) (members : List Named) (m : ℕ) (keys more : List Key) (n : Named) (l : List Key) → AreMemberLists table s members m keys → slice_get members m ≡ Some n → AreKeysOver table n.1 (key.Member s m) l → more ≡ keys ++ l →
    AreMemberLists table s members (m + 1) more
members_more table s members m keys more n l h at is e =
    (h.0 ++ l ∷ [], e ∙ ap (λ (k : List Key). k ++ l) h.1 ∙ sym (flat_more h.0 l), made_more (IsMemberList table s) members m h.0 n l h.2 at is)

pub members_all : (table : List (List Key)) (s : ℕ) (members : List Named) (m : ℕ) (keys : List Key) → m ≡ length members → AreMemberLists table s members m keys → AreMemberKeysOver table s members keys
members_all table s members m keys e h p order tab complete =
    subst (AreMemberKeys p.structures s members) (sym h.1) (members_keys p order s members h.0 (record {
      count = h.2.count ∙ e;
      there = λ j n l i k. h.2.there j n l i k p order tab (all_at (λ (a : Named). is_complete (take (length table) p.structures) a.1 ≡ true) members j n i complete);
    }))

-- ---- the structures

-- as far as a loop over them has come
pub record IsTableTo (structures : List Structure) (i : ℕ) (table : List (List Key)) : Type 0 where
  pub count : length table ≡ i
  pub is_table : (p : Program) → p.structures ≡ structures → IsInOrder p.structures → IsTable p.structures table

pub table_none : (structures : List Structure) → IsTableTo structures 0 []
table_none structures = record { count = refl; is_table = λ p e order s st l f. absurd (omega (arith, l)) }

below_or_last : (s n m : ℕ) → m ≡ n + 1 → s < m → (s < n) ⊎ (s ≡ n)
below_or_last s n m e h = grind (arith, e, h)

pub table_more : (structures : List Structure) (i : ℕ) (table : List (List Key)) (st : Structure) (keys : List Key) → IsTableTo structures i table → slice_get structures i ≡ Some st → AreMemberKeysOver table i st.members keys → IsTableTo structures (i + 1) (table ++ keys ∷ [])
table_more structures i table st keys h at is = record {
  count = longer ∙ ap (λ n. n + 1) h.count;
  is_table = λ p e order s other l f. by p e order s other f (below_or_last s (length table) (length (table ++ keys ∷ [])) longer l);
}
  where
    longer : length (table ++ keys ∷ []) ≡ length table + 1
    longer = length-append table (keys ∷ [])

    by : (p : Program) → p.structures ≡ structures → IsInOrder p.structures → (s : ℕ) (other : Structure) → slice_get p.structures s ≡ Some other → (s < length table) ⊎ (s ≡ length table) → (l : List Key) × (slice_get (table ++ keys ∷ []) s ≡ Some l) × AreMemberKeys p.structures s other.members l
    by p e order s other f (inl l) = let w = h.is_table p e order s other l f in (w.0, get_before table (keys ∷ []) s l ∙ w.1, w.2)
    by p e order s other f (inr l) =
        let same : s ≡ i = l ∙ h.count in
        let one : other ≡ st = same_Some other st (sym f ∙ ap (λ (xs : List Structure). slice_get xs s) e ∙ ap (slice_get structures) same ∙ at) in
        let complete : All (λ (n : Named). is_complete (take (length table) p.structures) n.1 ≡ true) st.members =
        subst (λ (m : ℕ). All (λ (n : Named). is_complete (take m p.structures) n.1 ≡ true) st.members) (sym h.count)
        (order i st (ap (λ (xs : List Structure). slice_get xs i) e ∙ at)) in
        let its : AreMemberKeys p.structures i st.members keys = is p order (h.is_table p e order) complete in
        (keys, get_last table keys s l, subst (λ (x : Structure). AreMemberKeys p.structures s x.members keys) (sym one) (subst (λ (m : ℕ). AreMemberKeys p.structures m st.members keys) (sym same) its))

pub table_all : (structures : List Structure) (i : ℕ) (table : List (List Key)) → i ≡ length structures → IsTableTo structures i table → IsTableOf structures table
table_all structures i table e h = record { count = h.count ∙ e; is_table = h.is_table }

-- ---- the static objects

abbrev pub IsObjectList : List (List Key) → ℕ → Object → List Key → Type 0
IsObjectList table j o l = AreKeysOver table o.ctype (key.Object j) l

pub objects_none : (table : List (List Key)) (objects : List Object) → AreMade (IsObjectList table) objects 0 []
objects_none table objects = made_none (IsObjectList table) objects

pub objects_more : (table : List (List Key)) (objects : List Object) (m : ℕ) (lists : List (List Key)) (o : Object) (l : List Key) → AreMade (IsObjectList table) objects m lists → slice_get objects m ≡ Some o → AreKeysOver table o.ctype (key.Object m) l →
    AreMade (IsObjectList table) objects (m + 1) (lists ++ l ∷ [])
objects_more table objects m lists o l h at is = made_more (IsObjectList table) objects m lists o l h at is

pub objects_made : (table : List (List Key)) (objects : List Object) (m : ℕ) (lists : List (List Key)) → m ≡ length objects → AreMade (IsObjectList table) objects m lists → AreObjectKeys table objects lists
objects_made table objects m lists e h = record { count = h.count ∙ e; there = h.there }

pub there_is : {A B : Type 0} (xs : List A) (ys : List B) → length xs ≡ length ys → (i : ℕ) (x : A) → slice_get xs i ≡ Some x → (y : B) × (slice_get ys i ≡ Some y)
there_is [] ys e i x h = absurd (none-some x h)
there_is (x ∷ xs) [] e i z h = absurd (omega (arith, e))
there_is (x ∷ xs) (y ∷ ys) e zero z h = (y, refl)
there_is (x ∷ xs) (y ∷ ys) e (suc i) z h = there_is xs ys (omega (arith, e)) i z h

pub each_passes : {A : Type 0} (test : A → Bool) (xs : List A) → list_all test xs ≡ true → (i : ℕ) (x : A) → slice_get xs i ≡ Some x → test x ≡ true
each_passes test [] h i x e = absurd (none-some x e)
each_passes test (y ∷ xs) h zero x e = ap test (sym (same_Some y x e)) ∙ (both_true (test y) (list_all test xs) h).0
each_passes test (y ∷ xs) h (suc i) x e = each_passes test xs (both_true (test y) (list_all test xs) h).1 i x e

pub objects_all : (p : Program) → IsTypedProgram p → (table : List (List Key)) → IsTableOf p.structures table → (lists : List (List Key)) → AreObjectKeys table p.objects lists → AreStaticKeys p p.objects lists
objects_all p typed table tab lists made = record { count = made.count; there = keys_in }
  where
    all_first : take (length table) p.structures ≡ p.structures
    all_first = (let c = tab.count in take_all (length table) p.structures (omega (arith, c)))

    complete : (i : ℕ) (o : Object) → slice_get p.objects i ≡ Some o → is_complete (take (length table) p.structures) o.ctype ≡ true
    complete i o at =
        ap (λ (xs : List Structure). is_complete xs o.ctype) all_first
        ∙ object_complete (length p.structures) p.target p.structures o.ctype (sized p typed) (each_passes (is_object p) p.objects typed.objects i o at)

    keys_in : (i : ℕ) (list : List Key) → slice_get lists i ≡ Some list → AreKeysIn p (root.Static i) list
    keys_in i list there =
        let o = there_is lists p.objects made.count i list there in
        let keys = made.there i o.0 list o.1 there p (order_of p typed) (tab.is_table p refl (order_of p typed)) (complete i o.0 o.1) in
        let c = is_const o.0.ctype in
        let v = is_volatile o.0.ctype in
        let place : object_type p (root.Static i) ≡ Some (object_place o.0.ctype) = ap (option_map (λ (x : Object). object_place x.ctype)) o.1 in
        record {
          each = λ path n leads.
              ap (slice_get list) (sym leads.2 ∙ ap (λ (x : Option PlaceType). position p.structures path x) place)
              ∙ keys.each c v path leads.0 (ap (λ (x : Option PlaceType). of_one (of_one x (place_at p.structures path)) read_from) (sym place) ∙ leads.1)
              ∙ ap Some (ap (λ (x : Option PlaceType). key_along p.structures path x (key.Object i)) (sym place));
          all = λ n x at.
              let w = keys.all c v n x at in
              let leads = w.1 in (
                w.0,
                (leads.type, ap (λ (y : Option PlaceType). of_one (of_one y (place_at p.structures w.0)) read_from) place ∙ leads.scalar, ap (λ (y : Option PlaceType). position p.structures w.0 y) place ∙ leads.stands),
                ap (λ (y : Option PlaceType). key_along p.structures w.0 y (key.Object i)) place ∙ leads.is_key,
              );
        }
