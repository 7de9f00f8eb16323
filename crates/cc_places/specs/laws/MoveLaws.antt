-- Which addresses those of a set are moved to: the elements of an array, one by one.
use Rattle.std.specs.Prelude.{ℕ, ◌+◌, ◌<◌, ◌≤◌, ◌≡◌, ◌⊎◌, ◌&&◌, Bool, true, false, nat_le, nat_lt, ℤ, pos, negsuc, ◌+ℤ◌, ◌-ℤ◌, List, [], ◌∷◌, length, Some, None, refl, if◌then◌else◌}
use Rattle.std.specs.List.{Contains, list_all, list_any, filter}
use Rattle.std.specs.Option.{option_map}
use Rattle.std.proofs.Common.{sym, ap, ◌∙◌, subst, inl, inr, ⊎_elim, arith}
use Rattle.std.proofs.lemmas.Int.{ints}
use Rattle.std.proofs.lemmas.Bool.{leb-true, le-leb}
use Rattle.cc_program.specs.declared.value.Root.{Root}
use Rattle.cc_program.specs.declared.value.Part.{Part}
use Rattle.cc_program.specs.declared.value.Address.{Address}
use Rattle.cc_program.specs.declared.value.Address.TheVariants as address
use Rattle.cc_values.specs.Values.{index_in}
use Rattle.cc_places.specs.declared.addrs.Addrs.{Addrs}
use Rattle.cc_places.specs.Kept.{starred, member_for, is_starred, is_object}
use Rattle.cc_places.specs.Order.{is_before, ascends}
use Rattle.cc_places.specs.Members.{most_exact, are_many, are_members}
use Rattle.cc_places.specs.Sets.{HasAddress, AreFew, IsSetOf}
use Rattle.cc_places.specs.Moves.{IsMoved, HasMoved}
use Rattle.cc_places.specs.laws.ListLaws.{both_true, and_true, or_left, at_head, behind_head, none_in, cons_cases, same_in, all_at, all_from}
use Rattle.cc_places.specs.laws.KeptLaws.{object_starred, at_object}
use Rattle.cc_places.specs.laws.SetLaws.{Stands, ascending, has_member, has_same, many_elements}

-- the elements before one of an array to which an index is moved by one of the numbers
abbrev pub Reached : (ℤ → Type 0) → Root → List Part → ℕ → ℕ → ℕ → Address → Type 0
Reached by o p i n next b = (j : ℕ) × (j < next) × by (pos j -ℤ pos i) × (b ≡ address.At o p j n)

back_there : (i j : ℕ) → pos i +ℤ (pos j -ℤ pos i) ≡ pos j
back_there i j = omega (arith, ints)

index_there : (j n : ℕ) → j ≤ n → index_in (pos j) n ≡ Some j
index_there j n l = ap (λ b. if b then Some j else None) (le-leb j n l)

pub reached_moved : (by : ℤ → Type 0) (o : Root) (p : List Part) (i n : ℕ) (b : Address) → Reached by o p i n (n + 1) b → IsMoved by (address.At o p i n) b
reached_moved by o p i n b (j, l, h, e) = (
  pos j -ℤ pos i,
  h,
  ap (λ z. option_map (λ k. address.At o p k n) (index_in z n)) (back_there i j) ∙ (ap (option_map (λ k. address.At o p k n)) (index_there j n (omega (arith, l))) ∙ ap Some (sym e)),
)

index_from : (z : ℤ) (n : ℕ) (o : Root) (p : List Part) (b : Address) → option_map (λ k. address.At o p k n) (index_in z n) ≡ Some b
    → (j : ℕ) × (j ≤ n) × (z ≡ pos j) × (b ≡ address.At o p j n)
index_from (negsuc k) n o p b e = cc
index_from (pos j) n o p b e = by_test (nat_le j n) refl
  where
    by_test : (t : Bool) → nat_le j n ≡ t → (k : ℕ) × (k ≤ n) × (pos j ≡ pos k) × (b ≡ address.At o p k n)
    by_test true h =
        let f : option_map (λ k. address.At o p k n) (if true then Some j else None) ≡ Some b = subst (λ t. option_map (λ k. address.At o p k n) (if t then Some j else None) ≡ Some b) h e in
        let g : b ≡ address.At o p j n = cc in
        (j, leb-true j n h, refl, g)
    by_test false h =
        let f : option_map (λ k. address.At o p k n) (if false then Some j else None) ≡ Some b = subst (λ t. option_map (λ k. address.At o p k n) (if t then Some j else None) ≡ Some b) h e in
        cc

pub moved_reached : (by : ℤ → Type 0) (o : Root) (p : List Part) (i n : ℕ) (b : Address) → IsMoved by (address.At o p i n) b → Reached by o p i n (n + 1) b
moved_reached by o p i n b (k, h, e) = found (index_from (pos i +ℤ k) n o p b e)
  where
    found : ((j : ℕ) × (j ≤ n) × (pos i +ℤ k ≡ pos j) × (b ≡ address.At o p j n)) → Reached by o p i n (n + 1) b
    found (j, l, z, q) =
        let back : k ≡ pos j -ℤ pos i = omega (arith, ints, z) in
        (j, omega (arith, l), subst by back h, q)

pub reached_none : (by : ℤ → Type 0) (o : Root) (p : List Part) (i n : ℕ) (b : Address) → Reached by o p i n 0 b → ⊥
reached_none by o p i n b (j, l, h, e) = absurd (omega (arith, l))

pub reached_earlier : (by : ℤ → Type 0) (o : Root) (p : List Part) (i n k : ℕ) (b : Address) → Reached by o p i n k b → Reached by o p i n (k + 1) b
reached_earlier by o p i n k b (j, l, h, e) = (j, omega (arith, l), h, e)

pub reached_now : (by : ℤ → Type 0) (o : Root) (p : List Part) (i n k : ℕ) (b : Address) → by (pos k -ℤ pos i) → b ≡ address.At o p k n → Reached by o p i n (k + 1) b
reached_now by o p i n k b h e = (k, omega arith, h, e)

same_or_less : (j k : ℕ) → j < k + 1 → (j ≡ k) ⊎ (j < k)
same_or_less j k l = grind arith

pub reached_cases : (by : ℤ → Type 0) (o : Root) (p : List Part) (i n k : ℕ) (b : Address) → Reached by o p i n (k + 1) b
    → (by (pos k -ℤ pos i) × (b ≡ address.At o p k n)) ⊎ Reached by o p i n k b
reached_cases by o p i n k b (j, l, h, e) = ⊎_elim
    (λ (q : j ≡ k). inl (subst (λ z. by (pos z -ℤ pos i)) q h, e ∙ ap (λ z. address.At o p z n) q))
    (λ (q : j < k). inr (j, q, h, e))
    (same_or_less j k l)

-- null and functions trap
pub null_moved : (by : ℤ → Type 0) (b : Address) → IsMoved by address.Null b → ⊥
null_moved by b (k, h, e) = cc

pub func_moved : (by : ℤ → Type 0) (f : ℕ) (b : Address) → IsMoved by (address.Func f) b → ⊥
func_moved by f b (k, h, e) = cc

-- the objects of a set that is not exact

filtered_only : (p : Address → Bool) (ms : List Address) (b : Address) → Contains (filter p ms) b → Contains ms b × (p b ≡ true)
filtered_only p [] b c = absurd (none_in b c)
filtered_only p (m ∷ ms) b c = by_test (p m) refl (λ k. filtered_only p ms b k)
  where
    later : Contains ms b × (p b ≡ true) → Contains (m ∷ ms) b × (p b ≡ true)
    later (k, e) = (behind_head m ms b k, e)

    by_test : (t : Bool) → p m ≡ t → (Contains (filter p ms) b → Contains ms b × (p b ≡ true)) → Contains (m ∷ ms) b × (p b ≡ true)
    by_test true e f = ⊎_elim (λ q. (same_in (m ∷ ms) m b q (at_head m ms), subst (λ z. p z ≡ true) q e)) (λ k. later (f k))
        (cons_cases m (filter p ms) b (subst (λ t. Contains (if t then m ∷ filter p ms else filter p ms) b) e c))
    by_test false e f = later (f (subst (λ t. Contains (if t then m ∷ filter p ms else filter p ms) b) e c))

filtered_in : (p : Address → Bool) (ms : List Address) (b : Address) → Contains ms b → p b ≡ true → Contains (filter p ms) b
filtered_in p [] b c e = absurd (none_in b c)
filtered_in p (m ∷ ms) b c e = by_test (p m) refl (cons_cases m ms b c) (λ k. filtered_in p ms b k e)
  where
    by_test : (t : Bool) → p m ≡ t → (m ≡ b) ⊎ Contains ms b → (Contains ms b → Contains (filter p ms) b) → Contains (filter p (m ∷ ms)) b
    by_test true h (inl q) f = subst (λ t. Contains (if t then m ∷ filter p ms else filter p ms) b) (sym h) (same_in (m ∷ filter p ms) m b q (at_head m (filter p ms)))
    by_test true h (inr k) f = subst (λ t. Contains (if t then m ∷ filter p ms else filter p ms) b) (sym h) (behind_head m (filter p ms) b (f k))
    by_test false h (inl q) f = let g : false ≡ true = sym h ∙ subst (λ z. p z ≡ true) (sym q) e in cc
    by_test false h (inr k) f = subst (λ t. Contains (if t then m ∷ filter p ms else filter p ms) b) (sym h) (f k)

ascends_filtered : (p : Address → Bool) (ms : List Address) → ascends ms ≡ true → ascends (filter p ms) ≡ true
ascends_filtered p [] h = refl
ascends_filtered p (m ∷ ms) h = by_test (p m) refl (ascends_filtered p ms (both_true (list_all (is_before m) ms) (ascends ms) h).1)
  where
    by_test : (t : Bool) → p m ≡ t → ascends (filter p ms) ≡ true → ascends (filter p (m ∷ ms)) ≡ true
    by_test true e k = subst (λ t. ascends (if t then m ∷ filter p ms else filter p ms) ≡ true) (sym e)
        (and_true (list_all (is_before m) (filter p ms)) (ascends (filter p ms))
        (all_from (is_before m) (filter p ms) (λ b c. all_at (is_before m) ms b (both_true (list_all (is_before m) ms) (ascends ms) h).0 (filtered_only p ms b c).0)) k)
    by_test false e k = subst (λ t. ascends (if t then m ∷ filter p ms else filter p ms) ≡ true) (sym e) k

pub objects_listed : (m : Address) (ms rest : List Address) → are_members false ms ≡ true → filter is_object ms ≡ m ∷ rest → are_members false (filter is_object ms) ≡ true
objects_listed m ms rest h e =
    and_true (ascends (filter is_object ms)) (list_all is_starred (filter is_object ms) && are_many (filter is_object ms))
    (ascends_filtered is_object ms (ascending false ms h))
    (and_true (list_all is_starred (filter is_object ms)) (are_many (filter is_object ms))
    (all_from is_starred (filter is_object ms) (λ b c. all_at is_starred ms b starred_all (filtered_only is_object ms b c).0))
    (subst (λ l. are_many l ≡ true) (sym e) (or_left (list_any is_object (m ∷ rest)) (nat_lt most_exact (length (m ∷ rest)))
    (or_left (is_object m) (list_any is_object rest) (filtered_only is_object ms m (same_list (at_head m rest))).1))))
  where
    starred_all : list_all is_starred ms ≡ true
    starred_all = (both_true (list_all is_starred ms) (are_many ms) (both_true (ascends ms) (list_all is_starred ms && are_many ms) h).1).0

    same_list : Contains (m ∷ rest) m → Contains (filter is_object ms) m
    same_list c = subst (λ l. Contains l m) (sym e) c

pub objects_moved : (by : ℤ → Type 0) (s r : Addrs) (m : Address) (rest : List Address) → s.is_exact ≡ false → r.is_exact ≡ false
    → r.members ≡ filter is_object s.members → filter is_object s.members ≡ m ∷ rest → IsSetOf (HasMoved by s s.is_exact) r
objects_moved by s r m rest p q e f = subst (λ d. IsSetOf (HasMoved by s d) r) (sym p) (record {
  has = λ a. ((λ h. found a (subst (λ l. Contains l (starred a)) e (level_to a h))), (λ k. placed a k));
  exact = λ _ few. too_many few;
})
  where
    level_to : (a : Address) → HasAddress r a → Contains r.members (starred a)
    level_to a h = subst (λ d. Contains r.members (member_for d a)) q h

    level_from : (a : Address) → Contains r.members (starred a) → HasAddress r a
    level_from a h = subst (λ d. Contains r.members (member_for d a)) (sym q) h

    s_has : (a : Address) → Contains s.members (starred a) → HasAddress s a
    s_has a h = subst (λ d. Contains s.members (member_for d a)) (sym p) h

    s_kept : (a : Address) → HasAddress s a → Contains s.members (starred a)
    s_kept a h = subst (λ d. Contains s.members (member_for d a)) p h

    found : (a : Address) → Contains (filter is_object s.members) (starred a) → Stands (HasMoved by s false) r.is_exact a
    found a c = (a, (s_has a (filtered_only is_object s.members (starred a) c).0, sym (object_starred a) ∙ (filtered_only is_object s.members (starred a) c).1), refl)

    placed : (a : Address) → Stands (HasMoved by s false) r.is_exact a → HasAddress r a
    placed a (b, w, d) = has_same r b a d (level_from b (subst (λ l. Contains l (starred b)) (sym e) (filtered_in is_object s.members (starred b) (s_kept b w.0) (object_starred b ∙ w.1))))

    first : Contains s.members m × (is_object m ≡ true)
    first = filtered_only is_object s.members m (subst (λ l. Contains l m) (sym f) (at_head m rest))

    elements : ((o : Root) × (t : List Part) × (i : ℕ) × (n : ℕ) × (m ≡ address.At o t i n)) → AreFew (HasMoved by s false) → ⊥
    elements (o, t, i, n, d) few = many_elements (HasMoved by s false) o t n (λ k. (s_has (address.At o t k n) (s_kept (address.At o t i n) (subst (λ z. HasAddress s z) d (has_member s m first.0))), refl)) few

    too_many : AreFew (HasMoved by s false) → ⊥
    too_many few = elements (at_object m first.1) few

pub nothing_moved : (by : ℤ → Type 0) (s r : Addrs) → s.is_exact ≡ false → r.is_exact ≡ true → r.members ≡ [] → filter is_object s.members ≡ [] → IsSetOf (HasMoved by s s.is_exact) r
nothing_moved by s r p q e f = subst (λ d. IsSetOf (HasMoved by s d) r) (sym p) (record {
  has = λ a. ((λ h. absurd (none_in (member_for r.is_exact a) (subst (λ l. Contains l (member_for r.is_exact a)) e h))), (λ k. absurd (no_object a k)));
  exact = λ d few. let g : true ≡ false = sym q ∙ d in cc;
})
  where
    no_object : (a : Address) → Stands (HasMoved by s false) r.is_exact a → ⊥
    no_object a (b, w, d) = none_in (starred b) (subst (λ l. Contains l (starred b)) f
        (filtered_in is_object s.members (starred b) (subst (λ c. Contains s.members (member_for c b)) p w.0) (object_starred b ∙ w.1)))
