-- Structures over which types have sizes, with one more behind them.
use Rattle.std.proofs.Common.{arith, ◌≡◌, ◌<◌, ◌≤◌, ◌+◌, ◌^◌, ◌⊎◌, inl, inr, ℕ, zero, suc, Bool, true, ◌&&◌, List, [], ◌∷◌, ◌++◌, take, drop, length, length-append, append_assoc, get_or, refl, ap, sym, ◌∙◌, subst, add-one, Option, Some, None, slice_get}
use Rattle.std.specs.List.{All, list_all}
use Rattle.std.proofs.lemmas.List.{append-nil, get_or-take, length-take}
use Rattle.std.proofs.lemmas.Option.{slice_get_within, get_or_from_slice_get}
use Rattle.cc_program.specs.CcNum.declared.target.Target.{Target}
use Rattle.cc_program.specs.declared.types.CType.{CType}
use Rattle.cc_program.specs.declared.types.Structure.{Structure}
use Rattle.cc_syntax.specs.Kinds.{Kind, bytes_in, is_small, is_object_kind, is_object_type, kind_of, extent_with}
use Rattle.cc_program.specs.declared.program.Program.{Program}
use Rattle.cc_syntax.specs.Layout.{size_of, HasSmallParts, IsSmall, HasSizes}
use Rattle.cc_syntax.specs.Names.{are_names, local_names}
use Rattle.cc_syntax.specs.Sound.{have_ids, is_member, is_structure_by, is_structure, are_structures_by, are_structures, is_object, IsSoundBy, IsSound}
use Rattle.cc_syntax.specs.Types.{Named, is_complete}
use Rattle.cc_syntax.specs.declared.sizes.Layout.{Layout}
use Rattle.cc_syntax.proofs.Prefixes.{both_true, layout-taken, complete-taken}
use Rattle.cc_syntax.specs.Sizes.{AreSized, IsSmallMember}
use Rattle.cc_syntax.proofs.PartLemmas.{earlier_part}
use Rattle.cc_syntax.proofs.SizeLemmas.{HasBytes, has_bytes}

all_from : {A : Type 0} → (p : A → Bool) (xs : List A) → list_all p xs ≡ true → All (λ x. p x ≡ true) xs
all_from p [] h k d b = absurd (omega (arith, b))
all_from p (x ∷ xs) h zero d b = (both_true (p x) (list_all p xs) h).0
all_from p (x ∷ xs) h (suc k) d b = all_from p xs (both_true (p x) (list_all p xs) h).1 k d (omega (arith, b))

get_take : {A : Type 0} → (xs : List A) (i k : ℕ) → k < i → slice_get (take i xs) k ≡ slice_get xs k
get_take [] zero k h = refl
get_take [] (suc i) k h = refl
get_take (x ∷ xs) zero k h = absurd (omega (arith, h))
get_take (x ∷ xs) (suc i) zero h = refl
get_take (x ∷ xs) (suc i) (suc k) h = get_take xs i k (omega (arith, h))

take_twice : {A : Type 0} → (xs : List A) (i k : ℕ) → k ≤ i → take k (take i xs) ≡ take k xs
take_twice [] zero zero h = refl
take_twice [] zero (suc k) h = refl
take_twice [] (suc i) zero h = refl
take_twice [] (suc i) (suc k) h = refl
take_twice (x ∷ xs) zero zero h = refl
take_twice (x ∷ xs) zero (suc k) h = absurd (omega (arith, h))
take_twice (x ∷ xs) (suc i) zero h = refl
take_twice (x ∷ xs) (suc i) (suc k) h = ap (λ ys. x ∷ ys) (take_twice xs i k (omega (arith, h)))

below_or_at : (k i : ℕ) → k < i + 1 → (k < i) ⊎ (k ≡ i)
below_or_at zero zero h = inr refl
below_or_at zero (suc i) h = inl (omega arith)
below_or_at (suc k) zero h = absurd (omega (arith, h))
below_or_at (suc k) (suc i) h = elim (below_or_at k i (omega (arith, h))) [ inl b ↦ inl (omega (arith, b)) | inr e ↦ inr (ap suc e) ]

small_of : (n : ℕ) → is_small n ≡ true → n ≤ 4294967295
small_of n h = grind arith

few_of : (n : ℕ) → have_ids n ≡ true → n < 2 ^ 32
few_of n h = grind arith

some_same : {A : Type 0} → {x y : A} → Some x ≡ Some y → x ≡ y
some_same h = cc

-- a type that may be an object's
pub record IsObject (structures : List Structure) (target : Target) (t : CType) : Type 0 where
  pub complete : is_complete structures t ≡ true
  pub bytes : size_of t structures target ≤ 4294967295
  pub small : HasSmallParts t structures target

take_front : {A : Type 0} → (xs ys : List A) → take (length xs) (xs ++ ys) ≡ xs
take_front [] ys = refl
take_front (x ∷ xs) ys = ap (λ zs. x ∷ zs) (take_front xs ys)

get_last : {A : Type 0} → (xs : List A) (x : A) → slice_get (xs ++ x ∷ []) (length xs) ≡ Some x
get_last [] x = refl
get_last (y ∷ xs) x = get_last xs x

dropped : {A : Type 0} → (xs : List A) (i : ℕ) (x : A) → i < length xs → x ≡ get_or xs i x → drop i xs ≡ x ∷ drop (suc i) xs
dropped [] i x h e = absurd (omega (arith, h))
dropped (y ∷ xs) zero x h e = ap (λ z. z ∷ xs) (sym e)
dropped (y ∷ xs) (suc i) x h e = dropped xs i x (omega (arith, h)) e

taken : {A : Type 0} → (xs : List A) (i : ℕ) (x : A) → i < length xs → x ≡ get_or xs i x → take i xs ++ x ∷ [] ≡ take (suc i) xs
taken [] i x h e = absurd (omega (arith, h))
taken (y ∷ xs) zero x h e = ap (λ z. z ∷ []) e
taken (y ∷ xs) (suc i) x h e = ap (λ zs. y ∷ zs) (taken xs i x (omega (arith, h)) e)

module _ (structures : List Structure) (count : ℕ) (target : Target) (sized : AreSized structures target) where
  object_of : (t : CType) (k : Kind) (b : Option ℕ) → kind_of target (extent_with structures count target) t ≡ Some k → bytes_in k ≡ b → is_object_kind b ≡ true → IsObject structures target t
  object_of t k None e f h = absurd (cc)
  object_of t k (Some n) e f h =
      let b : HasBytes structures count target sized t n = has_bytes structures count target sized t k n e f in
      record { complete = b.complete; bytes = subst (λ m. m ≤ 4294967295) (sym b.size) (small_of n h); small = b.small }

  object_from : (t : CType) (o : Option Kind) → kind_of target (extent_with structures count target) t ≡ o → is_object_type o ≡ true → IsObject structures target t
  object_from t None e h = absurd (cc)
  object_from t (Some k) e h = object_of t k (bytes_in k) e refl h

  pub object_tested : (t : CType) → is_object_type (kind_of target (extent_with structures count target) t) ≡ true → IsObject structures target t
  object_tested t h = object_from t (kind_of target (extent_with structures count target) t) refl h

module _ (named : List (List ℕ) → Bool) (structures : List Structure) (i : ℕ) (s : Structure) (count : ℕ) (target : Target) (sized : AreSized (take i structures) target)
    (last : slice_get structures i ≡ Some s) (long : length structures ≡ i + 1) (good : is_structure_by named (take i structures) count target s ≡ true) where
  few : have_ids (length s.members) ≡ true
  few = (both_true (have_ids (length s.members)) _ good).0

  members : list_all (is_member (take i structures) count target) s.members ≡ true
  members = (both_true (named (local_names s.members)) _ (both_true (have_ids (length s.members)) _ good).1).1

  -- over the structures before it, what its members are
  member_objects : All (λ m. IsObject (take i structures) target m.1) s.members
  member_objects k d b = object_tested (take i structures) count target sized (get_or s.members k d).1 (all_from (is_member (take i structures) count target) s.members members k d b)

  lifted : (m : Named) → IsObject (take i structures) target m.1 → IsSmallMember structures target m
  lifted m o = record {
    bytes = subst (λ (l : Layout). l.size ≤ 4294967295) (layout-taken target structures i m.1 o.complete) o.bytes;
    parts = λ q p.
        let e = earlier_part structures i sized.in_order q m.1 p o.complete in
        subst (λ (l : Layout). l.size ≤ 4294967295) (layout-taken target structures i q e.complete) (o.small q e.part);
  }

  earlier : (k : ℕ) (r : Structure) → k < i → slice_get structures k ≡ Some r → slice_get (take i structures) k ≡ Some r
  earlier k r h g = get_take structures i k h ∙ g

  order_at : (k : ℕ) (r : Structure) → (k < i) ⊎ (k ≡ i) → slice_get structures k ≡ Some r → All (λ m. is_complete (take k structures) m.1 ≡ true) r.members
  order_at k r (inl h) g = subst (λ ss. All (λ m. is_complete ss m.1 ≡ true) r.members) (take_twice structures i k (omega (arith, h))) (sized.in_order k r (earlier k r h g))
  order_at k r (inr e) g =
      let same : r ≡ s = some_same (sym g ∙ ap (slice_get structures) e ∙ last) in
      subst (λ (r : Structure). All (λ m. is_complete (take k structures) m.1 ≡ true) r.members) (sym same)
      (subst (λ k. All (λ m. is_complete (take k structures) m.1 ≡ true) s.members) (sym e) (λ k d b. (member_objects k d b).complete))

  complete_before : (k : ℕ) (r : Structure) (h : k < i) (g : slice_get structures k ≡ Some r) (j : ℕ) (d : Named) → j < length r.members → is_complete (take i structures) (get_or r.members j d).1 ≡ true
  complete_before k r h g j d b = complete-taken (take i structures) k (get_or r.members j d).1 (sized.in_order k r (earlier k r h g) j d b)

  small_at : (k : ℕ) (r : Structure) → (k < i) ⊎ (k ≡ i) → slice_get structures k ≡ Some r → All (IsSmallMember structures target) r.members
  small_at k r (inl h) g = λ j d b.
      let old = sized.small k r (earlier k r h g) j d b in
      lifted (get_or r.members j d) (record { complete = complete_before k r h g j d b; bytes = old.bytes; small = old.parts })
  small_at k r (inr e) g =
      let same : r ≡ s = some_same (sym g ∙ ap (slice_get structures) e ∙ last) in
      subst (λ (r : Structure). All (IsSmallMember structures target) r.members) (sym same) (λ j d b. lifted (get_or s.members j d) (member_objects j d b))

  short_at : (k : ℕ) (d : Structure) → (k < i) ⊎ (k ≡ i) → k < length structures → length (get_or structures k d).members < 2 ^ 32
  short_at k d (inl h) b =
      subst (λ (s : Structure). length s.members < 2 ^ 32) (get_or-take i structures k d h)
      (sized.short k d (omega (arith, h, length-take i structures, long)))
  short_at k d (inr e) b =
      let same : get_or structures k d ≡ s = get_or_from_slice_get structures k s d (ap (slice_get structures) e ∙ last) in
      subst (λ (s : Structure). length s.members < 2 ^ 32) (sym same) (few_of (length s.members) few)

  pub more : AreSized structures target
  more = record {
    in_order = λ k r g. order_at k r (below_or_at k i (subst (λ n. k < n) long (slice_get_within structures k r g))) g;
    short = λ k d b. short_at k d (below_or_at k i (subst (λ n. k < n) long b)) b;
    small = λ k r g. small_at k r (below_or_at k i (subst (λ n. k < n) long (slice_get_within structures k r g))) g;
  }

-- one more structure behind others, and all of them
module _ (count : ℕ) (target : Target) where
  pub none_sized : AreSized [] target
  none_sized = record {
    in_order = λ k r g. absurd (cc);
    short = λ k d b. absurd (omega (arith, b));
    small = λ k r g. absurd (cc);
  }

  one_more : (named : List (List ℕ) → Bool) (before : List Structure) (s : Structure) → AreSized before target → is_structure_by named before count target s ≡ true → AreSized (before ++ s ∷ []) target
  one_more named before s sized good =
      let front : take (length before) (before ++ s ∷ []) ≡ before = take_front before (s ∷ []) in
      more named (before ++ s ∷ []) (length before) s count target (subst (λ ss. AreSized ss target) (sym front) sized) (get_last before s) (length-append before (s ∷ []))
      (subst (λ ss. is_structure_by named ss count target s ≡ true) (sym front) good)

  all_sized : (named : List (List ℕ) → Bool) (before rest : List Structure) → AreSized before target → are_structures_by named before count target rest ≡ true → AreSized (before ++ rest) target
  all_sized named before [] sized h = subst (λ ss. AreSized ss target) (sym (append-nil before)) sized
  all_sized named before (s ∷ rest) sized h =
      let t = both_true (is_structure_by named before count target s) (are_structures_by named (before ++ s ∷ []) count target rest) h in
      subst (λ ss. AreSized ss target) (append_assoc before (s ∷ []) rest) (all_sized named (before ++ s ∷ []) rest (one_more named before s sized t.0) t.1)

  -- whatever the rule for names is
  pub structures_sized_by : (named : List (List ℕ) → Bool) (structures : List Structure) → are_structures_by named [] count target structures ≡ true → AreSized structures target
  structures_sized_by named structures h = all_sized named [] structures none_sized h

  pub structures_sized : (structures : List Structure) → are_structures [] count target structures ≡ true → AreSized structures target
  structures_sized structures h = structures_sized_by are_names structures h

  -- as far as a loop over them has come
  pub structures_from : (structures : List Structure) (i : ℕ) (s : Structure) → i < length structures → s ≡ get_or structures i s →
      are_structures (take i structures) count target (drop i structures) ≡ (is_structure (take i structures) count target s && are_structures (take (i + 1) structures) count target (drop (i + 1) structures))
  structures_from structures i s h e =
      rw add-one (
      ap (are_structures (take i structures) count target) (dropped structures i s h e)
      ∙ ap (λ ss. is_structure (take i structures) count target s && are_structures ss count target (drop (suc i) structures)) (taken structures i s h e)
      )

  pub sized_more : (structures : List Structure) (i : ℕ) (s : Structure) → i < length structures → s ≡ get_or structures i s → AreSized (take i structures) target → is_structure (take i structures) count target s ≡ true → AreSized (take (i + 1) structures) target
  sized_more structures i s h e sized good = rw add-one (subst (λ ss. AreSized ss target) (taken structures i s h e) (one_more are_names (take i structures) s sized good))

  -- an object of a type that has passed the test has a complete type
  pub object_complete : (structures : List Structure) (t : CType) → AreSized structures target → is_object_type (kind_of target (extent_with structures count target) t) ≡ true → is_complete structures t ≡ true
  object_complete structures t sized h = (object_tested structures count target sized t h).complete

-- what has a size
pub object_sized : (t : CType) (structures : List Structure) (target : Target) → AreSized structures target → IsObject structures target t → IsSmall t structures target
object_sized t structures target sized o = record {
  sized = record { complete = o.complete; in_order = sized.in_order; short = sized.short; small = o.small };
  bytes = o.bytes;
}

-- the objects of a sound program have sizes, whatever the rule for names is
pub typed_sizes : (named : List (List ℕ) → Bool) (p : Program) → IsSoundBy p named → HasSizes p
typed_sizes named p sound =
    let sized = structures_sized_by (length p.structures) p.target named p.structures sound.structures in
    record {
      objects = λ k d b. object_sized (get_or p.objects k d).ctype p.structures p.target sized (object_tested p.structures (length p.structures) p.target sized (get_or p.objects k d).ctype (all_from (is_object p) p.objects sound.objects k d b));
      few = few_of (length p.objects) sound.few_objects;
    }

pub sound_sizes : (p : Program) → IsSound p → HasSizes p
sound_sizes p sound = typed_sizes are_names p sound
