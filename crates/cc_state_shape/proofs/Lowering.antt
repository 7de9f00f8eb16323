-- The lowest facts of a program are of its shape, and below all others that are.
use Rattle.std.proofs.Common.{arith, ◌≡◌, ℕ, zero, suc, ◌+◌, ◌<◌, ℤ, Bool, true, false, true≢false, List, [], ◌∷◌, ◌++◌, length, take, get_or, replicate, Option, Some, None, slice_get, refl, sym, ap, subst, ◌∙◌}
use Rattle.std.specs.Prelude.{unwrap_or}
use Rattle.std.specs.Int.Bits.{or_zero_l}
use Rattle.std.specs.List.{AllByRecursion, AllZip, Contains}
use Rattle.std.proofs.lemmas.List.{length-replicate}
use Rattle.std.proofs.lemmas.Option.{none-some, same_Some, slice_get_within, get_or_from_slice_get}
use Rattle.cc_state_reads.specs.CcFlow.Points.{count_of}
use Rattle.cc_state_reads.specs.CcPlaces.declared.abs.Abs.{Abs}
use Rattle.cc_state_reads.specs.CcPlaces.declared.abs.Abs.TheVariants as abs
use Rattle.cc_state_reads.specs.CcPlaces.declared.addrs.Addrs.{Addrs}
use Rattle.cc_state_reads.specs.CcPlaces.Abstract.{AreOfOneKind, IsBelowAbs}
use Rattle.cc_state_reads.specs.CcPlaces.Kept.{member_for}
use Rattle.cc_state_reads.specs.CcPlaces.Sets.{IsWithin}
use Rattle.cc_program.specs.declared.func.Func.{Func}
use Rattle.cc_program.specs.declared.program.Program.{Program}
use Rattle.cc_program.specs.declared.types.Sig.{out-Sig}
use Rattle.cc_program.specs.declared.value.Address.{Address}
use Rattle.cc_rules_needs.proofs.Zips.{AreSome, zip_from}
use Rattle.cc_state.specs.Shape.{IsSetIn, AreSets, IsKeyType, IsResultType, HaveShape}
use Rattle.cc_state_reads.proofs.CcStateFacts.LevelBits.{within_from_or}
use Rattle.cc_state_reads.specs.CcStateFacts.declared.facts.Facts.{Facts}
use Rattle.cc_state_reads.specs.CcStateFacts.declared.facts.Key.{Key}
use Rattle.cc_state_reads.specs.CcStateFacts.declared.facts.PointFact.{PointFact}
use Rattle.cc_state_reads.specs.CcStateFacts.Facts.{levels_of}
use Rattle.cc_state_reads.specs.CcStateFacts.Levels.{AreLevelsWithin}
use Rattle.cc_state_reads.specs.CcStateFacts.Orders.{IsMarkBelow, AreMarksBelow, AreLevelSetsBelow, AreSetsBelow, IsKnownBelow, IsBelow}
use Rattle.cc_state_reads.specs.CcStateKeys.Keys.{keys_of}
use Rattle.cc_state_reads.specs.CcStateOperators.Domains.{Domain}
use Rattle.cc_state_reads.specs.Reads.{is_pointer}
use Rattle.cc_state_shape.proofs.Alike.{same_kind}
use Rattle.cc_state_shape.proofs.KeyKinds.{IsTypedKey, typed_keys, has_cells, has_result}
use Rattle.cc_state_shape.specs.Empty.{IsNone}
use Rattle.cc_state_shape.specs.Lowest.{declared_addresses, key_addresses, result_addresses, AreLowest}
use Rattle.cc_state_reads.specs.CcSyntax.Sound.{IsFuncBy, IsTypedProgram, any_names}
use Rattle.cc_state_reads.specs.CcSyntax.Values.{ValueType, NoValue, Integer, ToObject, ToFunction}

-- ---- lists

each_at : {A : Type 0} (P : A → Type 0) (xs : List A) → AllByRecursion P xs → (n : ℕ) (x : A) → slice_get xs n ≡ Some x → P x
each_at P [] h n x e = absurd (none-some x e)
each_at P (y ∷ xs) h zero x e = subst P (same_Some y x e) h.0
each_at P (y ∷ xs) h (suc n) x e = each_at P xs h.1 n x e

element : {A : Type 0} (xs : List A) (n : ℕ) → n < length xs → (x : A) × (slice_get xs n ≡ Some x)
element [] n l = absurd (omega (arith, l))
element (x ∷ xs) zero l = (x, refl)
element (x ∷ xs) (suc n) l = element xs n (omega (arith, l))

zip_there : {A B : Type 0} (R : A → B → Type 0) (xs : List A) (ys : List B) → AllZip R xs ys → (n : ℕ) → n < length xs → (x : A) × (y : B) × (slice_get xs n ≡ Some x) × (slice_get ys n ≡ Some y) × R x y
zip_there R [] ys h n l = absurd (omega (arith, l))
zip_there R (x ∷ xs) [] h n l = absurd h
zip_there R (x ∷ xs) (y ∷ ys) h zero l = (x, y, refl, refl, h.0)
zip_there R (x ∷ xs) (y ∷ ys) h (suc n) l = zip_there R xs ys h.1 n (omega (arith, l))

zip_count : {A B : Type 0} (R : A → B → Type 0) (xs : List A) (ys : List B) → AllZip R xs ys → length xs ≡ length ys
zip_count R [] [] h = refl
zip_count R [] (y ∷ ys) h = absurd h
zip_count R (x ∷ xs) [] h = absurd h
zip_count R (x ∷ xs) (y ∷ ys) h = ap suc (zip_count R xs ys h.1)

-- lists by their beginnings: one place more
pub zip_next : {A B : Type 0} (R : A → B → Type 0) (xs : List A) (ys : List B) (i : ℕ) (x : A) (y : B) → i < length xs → x ≡ get_or xs i x → AllZip R (take i xs) ys → R x y → AllZip R (take (i + 1) xs) (ys ++ y ∷ [])
zip_next R [] ys i x y l e h k = absurd (omega (arith, l))
zip_next R (a ∷ xs) [] zero x y l e h k = (subst (λ z. R z y) e k, tt)
zip_next R (a ∷ xs) (b ∷ ys) zero x y l e h k = absurd h
zip_next R (a ∷ xs) [] (suc i) x y l e h k = absurd h
zip_next R (a ∷ xs) (b ∷ ys) (suc i) x y l e h k =
    subst (λ n. AllZip R (take n (a ∷ xs)) (b ∷ (ys ++ y ∷ []))) (let q : suc (i + 1) ≡ suc i + 1 = omega arith in q) (h.0, zip_next R xs ys i x y (omega (arith, l)) e h.1 k)

--- The same where the element is the one found at the index.
pub zip_more : {A B : Type 0} (R : A → B → Type 0) (xs : List A) (ys : List B) (i : ℕ) (d : A) (y : B) → i < length xs → AllZip R (take i xs) ys → R (get_or xs i d) y → AllZip R (take (i + 1) xs) (ys ++ y ∷ [])
zip_more R [] ys i d y l h k = absurd (omega (arith, l))
zip_more R (a ∷ xs) [] zero d y l h k = (k, tt)
zip_more R (a ∷ xs) (b ∷ ys) zero d y l h k = absurd h
zip_more R (a ∷ xs) [] (suc i) d y l h k = absurd h
zip_more R (a ∷ xs) (b ∷ ys) (suc i) d y l h k =
    subst (λ n. AllZip R (take n (a ∷ xs)) (b ∷ (ys ++ y ∷ []))) (let q : suc (i + 1) ≡ suc i + 1 = omega arith in q) (h.0, zip_more R xs ys i d y (omega (arith, l)) h.1 k)

same_element : {A : Type 0} (n : ℕ) (x : A) (i : ℕ) (y : A) → slice_get (replicate n x) i ≡ Some y → x ≡ y
same_element zero x i y e = absurd (none-some y e)
same_element (suc n) x zero y e = same_Some x y e
same_element (suc n) x (suc i) y e = same_element n x i y e

or_same : {A : Type 0} (n : ℕ) (x : A) (i : ℕ) → unwrap_or (slice_get (replicate n x) i) x ≡ x
or_same zero x i = refl
or_same (suc n) x zero = refl
or_same (suc n) x (suc i) = or_same n x i

-- ---- marks and levels

no_marks : (n : ℕ) (ys : List Bool) → length ys ≡ n → AllZip IsMarkBelow (replicate n false) ys
no_marks zero [] e = tt
no_marks zero (y ∷ ys) e = absurd (omega (arith, e))
no_marks (suc n) [] e = absurd (omega (arith, e))
no_marks (suc n) (y ∷ ys) e = ((λ h. absurd (true≢false (sym h))), no_marks n ys (omega (arith, e)))

no_level : (y : ℕ) → AreLevelsWithin 0 y
no_level y = within_from_or 0 y (or_zero_l y)

no_levels : (n : ℕ) (ys : List ℕ) → length ys ≡ n → AllZip AreLevelsWithin (replicate n 0) ys
no_levels zero [] e = tt
no_levels zero (y ∷ ys) e = absurd (omega (arith, e))
no_levels (suc n) [] e = absurd (omega (arith, e))
no_levels (suc n) (y ∷ ys) e = (no_level y, no_levels n ys (omega (arith, e)))

marks_below : (marks ys : List Bool) (n : ℕ) → marks ≡ replicate n false → length ys ≡ n → AreMarksBelow marks ys
marks_below marks ys n e l = subst (λ (xs : List Bool). AreMarksBelow xs ys) (sym e) (no_marks n ys l)

levels_below : (sets ys : List ℕ) (n : ℕ) → sets ≡ replicate n 0 → length ys ≡ n → AreLevelSetsBelow sets ys
levels_below sets ys n e l = subst (λ (xs : List ℕ). AreLevelSetsBelow xs ys) (sym e) (no_levels n ys l)

no_levels_of : (sets : List ℕ) (n g : ℕ) → sets ≡ replicate n 0 → levels_of sets g ≡ 0
no_levels_of sets n g e = ap (λ (xs : List ℕ). levels_of xs g) e ∙ or_same n 0 g

-- ---- empty sets

module _ {I : Type 0} (d : Domain I) (by_members : (x y : I) → ((n : ℤ) → d.has x n → d.has y n) → d.below x y) (p : Program) where
  pub none_in : (t : ValueType) (y : Abs I) → IsNone d.has (is_pointer t) y → IsSetIn p d t y
  none_in NoValue (abs.Ints x) h = h
  none_in NoValue (abs.Addrs s) h = absurd h
  none_in (Integer t) (abs.Ints x) h = λ n m. absurd (h n m)
  none_in (Integer t) (abs.Addrs s) h = absurd h
  none_in (ToObject c v to) (abs.Ints x) h = absurd h
  none_in (ToObject c v to) (abs.Addrs s) h = λ a m. no_member s.members a h m
    where
      no_member : (ms : List Address) (a : Address) → ms ≡ [] → {C : Type 0} → Contains ms a → C
      no_member ms a e m = absurd (let k = subst (λ (l : List Address). Contains l a) e m in let l : k.0 < 0 = k.1 in omega (arith, l))
  none_in (ToFunction sig) (abs.Ints x) h = absurd h
  none_in (ToFunction sig) (abs.Addrs s) h = λ a m. no_member s.members a h m
    where
      no_member : (ms : List Address) (a : Address) → ms ≡ [] → {C : Type 0} → Contains ms a → C
      no_member ms a e m = absurd (let k = subst (λ (l : List Address). Contains l a) e m in let l : k.0 < 0 = k.1 in omega (arith, l))

  none_within : (s t : Addrs) → s.members ≡ [] → IsWithin s t
  none_within s t e a h = absurd (let k = subst (λ (l : List Address). Contains l (member_for s.is_exact a)) e h in let l : k.0 < 0 = k.1 in omega (arith, l))

  pub none_below : (b : Bool) (x y : Abs I) → IsNone d.has b x → AreOfOneKind x y → IsBelowAbs d.below x y
  none_below true (abs.Ints x) y h k = absurd h
  none_below true (abs.Addrs s) (abs.Ints y) h k = absurd k
  none_below true (abs.Addrs s) (abs.Addrs t) h k = none_within s t h
  none_below false (abs.Ints x) (abs.Ints y) h k = by_members x y (λ n m. absurd (h n m))
  none_below false (abs.Ints x) (abs.Addrs t) h k = absurd k
  none_below false (abs.Addrs s) y h k = absurd h

  -- of each of some things the empty set of its type
  module _ {A : Type 0} (things : List A) (addresses : A → Bool) (sets : List (Abs I)) (IsType : ℕ → ValueType → Type 0) (typed : (n : ℕ) (a : A) → slice_get things n ≡ Some a → (t : ValueType) × IsType n t × (is_pointer t ≡ addresses a))
      (none : AllZip (λ a y. IsNone d.has (addresses a) y) things sets) where
    none_there : (n : ℕ) → n < length things → (t : ValueType) × (y : Abs I) × (IsType n t × (slice_get sets n ≡ Some y) × IsSetIn p d t y)
    none_there n l =
        let (a, y, at, there, h) = zip_there (λ a y. IsNone d.has (addresses a) y) things sets none n l in
        let (t, is, same) = typed n a at in
        (t, y, (is, there, none_in t y (subst (λ (b : Bool). IsNone d.has b y) (sym same) h)))

    pub none_sets : AreSets d p (length things) (slice_get sets) IsType
    none_sets = record { there = none_there }

    pub none_count : length sets ≡ length things
    none_count = sym (zip_count (λ a y. IsNone d.has (addresses a) y) things sets none)

    none_some : (n : ℕ) → n < length things → (others : List (Abs I)) → AreSets d p (length things) (slice_get others) IsType → ((i : ℕ) (t u : ValueType) → IsType i t → IsType i u → t ≡ u) → AreSome (IsBelowAbs d.below) (slice_get sets n) (slice_get others n)
    none_some n l others are one =
        let (a, y, at, there, h) = zip_there (λ a y. IsNone d.has (addresses a) y) things sets none n l in
        let (t, is, same) = typed n a at in
        let w = are.there n l in
        let other : IsSetIn p d t w.1 = subst (λ (u : ValueType). IsSetIn p d u w.1) (one n w.0 t w.2.0 is) w.2.2 in
        let below = none_below (addresses a) y w.1 h (same_kind d p t y w.1 (none_in t y (subst (λ (b : Bool). IsNone d.has b y) (sym same) h)) other) in
        subst (λ (o : Option (Abs I)). AreSome (IsBelowAbs d.below) o (slice_get others n)) (sym there) (subst (λ (o : Option (Abs I)). AreSome (IsBelowAbs d.below) (Some y) o) (sym w.2.1) below)

    pub none_sets_below : (others : List (Abs I)) → length others ≡ length things → AreSets d p (length things) (slice_get others) IsType → ((i : ℕ) (t u : ValueType) → IsType i t → IsType i u → t ≡ u) → AreSetsBelow d.below sets others
    none_sets_below others e are one =
        zip_from (IsBelowAbs d.below) sets others (none_count ∙ sym e) (λ n l. none_some n (subst (λ (c : ℕ). n < c) none_count l) others are one)

  -- ---- types of keys and of results

  key_typed : (n : ℕ) (k : Key) → slice_get (keys_of p) n ≡ Some k → (t : ValueType) × IsKeyType d p n t × (is_pointer t ≡ key_addresses p k)
  key_typed n k at =
      let (c, is, scalars) = each_at (λ k. IsTypedKey p k) (keys_of p) (typed_keys p) n k at in
      let (t, cell, kind) = has_cells c scalars in
      (t, (k, c, at, is, cell), kind ∙ sym (ap declared_addresses is))

  module _ (typed : IsTypedProgram p) where
    result_typed : (n : ℕ) (f : Func) → slice_get p.funcs n ≡ Some f → (t : ValueType) × IsResultType d p n t × (is_pointer t ≡ result_addresses f)
    result_typed n f at =
        let func : IsFuncBy p any_names f = subst (IsFuncBy p any_names) (get_or_from_slice_get p.funcs n f f at) (typed.funcs n f (slice_get_within p.funcs n f at)) in
        let (t, is, kind) = has_result p (out-Sig f.sig).result func.result in
        (t, (f, at, is), kind)

    -- ---- facts

    module _ (facts : Facts I) (lowest : AreLowest d.has p facts) where
      unreached : (n : ℕ) (fact : PointFact I) → slice_get facts.at n ≡ Some (Some fact) → {C : Type 0} → C
      unreached n fact e = absurd (none-some fact (same_element (count_of p) None n (Some fact) (subst (λ (at : List (Option (PointFact I))). slice_get at n ≡ Some (Some fact)) lowest.at e)))

      marked : (marks : List Bool) (n : ℕ) → marks ≡ replicate n false → length marks ≡ n
      marked marks n e = ap length e ∙ length-replicate n false

      leveled : (sets : List ℕ) (n : ℕ) → sets ≡ replicate n 0 → length sets ≡ n
      leveled sets n e = ap length e ∙ length-replicate n 0

      pub lowest_shaped : HaveShape d p facts
      lowest_shaped = record {
        keys = lowest.keys;
        whole_count = none_count (keys_of p) (key_addresses p) facts.whole (IsKeyType d p) key_typed lowest.whole;
        whole = none_sets (keys_of p) (key_addresses p) facts.whole (IsKeyType d p) key_typed lowest.whole;
        result_count = none_count p.funcs result_addresses facts.results (IsResultType d p) result_typed lowest.results;
        results = none_sets p.funcs result_addresses facts.results (IsResultType d p) result_typed lowest.results;
        by_main = marked facts.by_main (length p.funcs) lowest.by_main;
        by_handler = marked facts.by_handler (length p.funcs) lowest.by_handler;
        levels = leveled facts.levels (length p.funcs) lowest.levels;
        from = leveled facts.from (length p.funcs) lowest.from;
        handler_reads = marked facts.handler_reads (length (keys_of p)) lowest.handler_reads;
        handler_writes = marked facts.handler_writes (length (keys_of p)) lowest.handler_writes;
        read_levels = leveled facts.read_levels (length (keys_of p)) lowest.read_levels;
        write_levels = leveled facts.write_levels (length (keys_of p)) lowest.write_levels;
        levels_marked = λ g a b. (no_levels_of facts.levels (length p.funcs) g lowest.levels, no_levels_of facts.from (length p.funcs) g lowest.from);
        touches_marked = λ k a b. (no_levels_of facts.read_levels (length (keys_of p)) k lowest.read_levels, no_levels_of facts.write_levels (length (keys_of p)) k lowest.write_levels);
        points = ap length lowest.at ∙ length-replicate (count_of p) None;
        point_facts = λ n fact point f e h k. unreached n fact e;
      }

      no_points : (n : ℕ) (ys : List (Option (PointFact I))) → length ys ≡ n → AllZip (IsKnownBelow d.below) (replicate n None) ys
      no_points zero [] e = tt
      no_points zero (y ∷ ys) e = absurd (omega (arith, e))
      no_points (suc n) [] e = absurd (omega (arith, e))
      no_points (suc n) (y ∷ ys) e = (tt, no_points n ys (omega (arith, e)))

      pub lowest_below : (one_key : (n : ℕ) (t u : ValueType) → IsKeyType d p n t → IsKeyType d p n u → t ≡ u) → (one_result : (n : ℕ) (t u : ValueType) → IsResultType d p n t → IsResultType d p n u → t ≡ u) → (others : Facts I) → HaveShape d p others → IsBelow d.below facts others
      lowest_below one_key one_result others shape = record {
        whole = none_sets_below (keys_of p) (key_addresses p) facts.whole (IsKeyType d p) key_typed lowest.whole others.whole shape.whole_count shape.whole one_key;
        results = none_sets_below p.funcs result_addresses facts.results (IsResultType d p) result_typed lowest.results others.results shape.result_count shape.results one_result;
        by_main = marks_below facts.by_main others.by_main (length p.funcs) lowest.by_main shape.by_main;
        by_handler = marks_below facts.by_handler others.by_handler (length p.funcs) lowest.by_handler shape.by_handler;
        levels = levels_below facts.levels others.levels (length p.funcs) lowest.levels shape.levels;
        from = levels_below facts.from others.from (length p.funcs) lowest.from shape.from;
        handler_reads = marks_below facts.handler_reads others.handler_reads (length (keys_of p)) lowest.handler_reads shape.handler_reads;
        handler_writes = marks_below facts.handler_writes others.handler_writes (length (keys_of p)) lowest.handler_writes shape.handler_writes;
        read_levels = levels_below facts.read_levels others.read_levels (length (keys_of p)) lowest.read_levels shape.read_levels;
        write_levels = levels_below facts.write_levels others.write_levels (length (keys_of p)) lowest.write_levels shape.write_levels;
        at = subst (λ (at : List (Option (PointFact I))). AllZip (IsKnownBelow d.below) at others.at) (sym lowest.at) (no_points (count_of p) others.at shape.points);
      }
