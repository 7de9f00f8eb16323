-- Sets of addresses: what their members are, that they are ordered, and what is the set of some addresses.
use Rattle.std.specs.Prelude.{ℕ, ◌+◌, ◌-◌, ◌<◌, ◌≤◌, ◌≡◌, ◌≢◌, ◌⊎◌, ◌&&◌, ◌||◌, Bool, true, false, nat_le, nat_lt, List, [], ◌∷◌, length, refl, IsTrue, if◌then◌else◌}
use Rattle.std.specs.List.{Contains, list_all, list_any}
use Rattle.std.proofs.Common.{sym, ap, ◌∙◌, subst, inl, inr, ⊎_elim, arith}
use Rattle.std.proofs.lemmas.Bool.{leb-true, le-leb, ltb-true, lt-ltb}
use Rattle.std.proofs.Math.Bool.{Bool-set}
use Rattle.cc_program.specs.declared.value.Root.{Root}
use Rattle.cc_program.specs.declared.value.Part.{Part}
use Rattle.cc_program.specs.declared.value.Address.{Address}
use Rattle.cc_program.specs.declared.value.Address.TheVariants as address
use Rattle.cc_lattice.specs.Orders.{IsLeastUpperBound}
use Rattle.cc_places.specs.declared.addrs.Addrs.{Addrs}
use Rattle.cc_places.specs.Kept.{kept_root, kept, starred, member_for, is_kept, is_starred, is_object}
use Rattle.cc_places.specs.Order.{ascends}
use Rattle.cc_places.specs.Members.{most_exact, are_many, are_members, added}
use Rattle.cc_places.specs.Sets.{HasAddress, IsWithin, AreFew, IsSetOf, EitherHas, OneMore, AreStarred, room_left}
use Rattle.cc_places.specs.laws.ListLaws.{both_true, and_true, either_true, or_left, or_right, same_in, all_at, all_from, any_at, any_from, none_at, added_only, added_old, added_new, ascends_added, same_members, distinct_of, no_more, grown_longer, numbered, length-numbered, numbered_only, distinct_numbered}
use Rattle.cc_places.specs.laws.KeptLaws.{kept_is, kept_stays, starred_is, starred_stays, starred_kept, starred_of_kept, Coarser, member_twice, member_same, object_starred, other_starred, at_object}

-- members

pub ascending : (e : Bool) (ms : List Address) → are_members e ms ≡ true → ascends ms ≡ true
ascending true ms h = (both_true (ascends ms) (list_all is_kept ms && nat_le (length ms) most_exact) h).0
ascending false ms h = (both_true (ascends ms) (list_all is_starred ms && are_many ms) h).0

pub few_exact : (ms : List Address) → are_members true ms ≡ true → length ms ≤ most_exact
few_exact ms h =
    let k = (both_true (ascends ms) (list_all is_kept ms && nat_le (length ms) most_exact) h).1 in
    leb-true (length ms) most_exact (both_true (list_all is_kept ms) (nat_le (length ms) most_exact) k).1

pub many_starred : (ms : List Address) → are_members false ms ≡ true → are_many ms ≡ true
many_starred ms h =
    let k = (both_true (ascends ms) (list_all is_starred ms && are_many ms) h).1 in
    (both_true (list_all is_starred ms) (are_many ms) k).1

pub member_stays : (e : Bool) (ms : List Address) (m : Address) → are_members e ms ≡ true → Contains ms m → member_for e m ≡ m
member_stays true ms m h c =
    let k = (both_true (ascends ms) (list_all is_kept ms && nat_le (length ms) most_exact) h).1 in
    kept_stays m (all_at is_kept ms m (both_true (list_all is_kept ms) (nat_le (length ms) most_exact) k).0 c)
member_stays false ms m h c =
    let k = (both_true (ascends ms) (list_all is_starred ms && are_many ms) h).1 in
    starred_stays m (all_at is_starred ms m (both_true (list_all is_starred ms) (are_many ms) k).0 c)

member_is_kept : (e : Bool) (ms : List Address) (m : Address) → are_members e ms ≡ true → Contains ms m → kept m ≡ m
member_is_kept true ms m h c = member_stays true ms m h c
member_is_kept false ms m h c =
    let k = (both_true (ascends ms) (list_all is_starred ms && are_many ms) h).1 in
    kept_stays m (starred_kept m (all_at is_starred ms m (both_true (list_all is_starred ms) (are_many ms) k).0 c))

pub has_member : (s : Addrs) (m : Address) → Contains s.members m → HasAddress s m
has_member s m c = same_in s.members m (member_for s.is_exact m) (sym (member_stays s.is_exact s.members m s.listed c)) c

pub has_same : (s : Addrs) (a b : Address) → member_for s.is_exact a ≡ member_for s.is_exact b → HasAddress s a → HasAddress s b
has_same s a b e h = same_in s.members (member_for s.is_exact a) (member_for s.is_exact b) e h

-- a set that is not exact has more addresses than an exact one can tell

abbrev element : Root → List Part → ℕ → ℕ → Address
element o p n k = address.At (kept_root o) p k n

element_apart : (o : Root) (p : List Part) (n i j : ℕ) → element o p n i ≡ element o p n j → i ≡ j
element_apart o p n i j e = cc

pub many_elements : (within : Address → Type 0) (o : Root) (p : List Part) (n : ℕ) → ((k : ℕ) → within (address.At o p k n)) → AreFew within → ⊥
many_elements within o p n f (list, l, g) =
    let more = no_more (numbered (element o p n) 65) list (distinct_numbered (element o p n) (element_apart o p n) 65)
    (λ b c. one b (numbered_only (element o p n) 65 b c)) in
    let count = length-numbered (element o p n) 65 in
    absurd (omega (arith, l, more, count))
  where
    one : (b : Address) → ((j : ℕ) × (j < 65) × (element o p n j ≡ b)) → Contains list b
    one b (j, k, e) = same_in list (element o p n j) b e (g (address.At o p j n) (f j))

place_many : (s : Addrs) → s.is_exact ≡ false → (a : Address) → Contains s.members a → ((o : Root) × (p : List Part) × (i : ℕ) × (n : ℕ) × (a ≡ address.At o p i n)) → AreFew (HasAddress s) → ⊥
place_many s e a c (o, p, i, n, q) few =
    let there : HasAddress s (address.At o p i n) = subst (λ z. HasAddress s z) q (has_member s a c) in
    many_elements (HasAddress s) o p n (λ k. has_same s (address.At o p i n) (address.At o p k n) (level (s.is_exact) e k) there) few
  where
    level : (b : Bool) → b ≡ false → (k : ℕ) → member_for b (address.At o p i n) ≡ member_for b (address.At o p k n)
    level false h k = refl
    level true h k = cc

any_many : (s : Addrs) → s.is_exact ≡ false → ((a : Address) × Contains s.members a × (is_object a ≡ true)) → AreFew (HasAddress s) → ⊥
any_many s e (a, c, o) few = place_many s e a c (at_object a o) few

list_many : (s : Addrs) → most_exact < length s.members → AreFew (HasAddress s) → ⊥
list_many s more (list, l, g) =
    let fits = no_more s.members list (distinct_of s.members (ascending s.is_exact s.members s.listed))
    (λ b c. same_in list (kept b) b (member_is_kept s.is_exact s.members b s.listed c) (g b (has_member s b c))) in
    absurd (omega (arith, more, l, fits))

pub not_few : (s : Addrs) → s.is_exact ≡ false → AreFew (HasAddress s) → ⊥
not_few s e few =
    let h : are_members false s.members ≡ true = subst (λ b. are_members b s.members ≡ true) e s.listed in
    ⊎_elim (λ k. any_many s e (any_at is_object s.members k) few)
    (λ k. list_many s (ltb-true most_exact (length s.members) k) few)
    (either_true (list_any is_object s.members) (nat_lt most_exact (length s.members)) (many_starred s.members h))

pub few_of_exact : (s : Addrs) → s.is_exact ≡ true → AreFew (HasAddress s)
few_of_exact s e =
    (s.members, few_exact s.members (subst (λ b. are_members b s.members ≡ true) e s.listed), λ a h. subst (λ b. Contains s.members (member_for b a)) e h)

pub fewer : (V W : Address → Type 0) → ((a : Address) → V a → W a) → AreFew W → AreFew V
fewer V W f (list, l, g) = (list, l, λ a h. g a (f a h))

pub coarser : (x y : Addrs) → IsWithin x y → Coarser x.is_exact y.is_exact
coarser x y f = by_test x.is_exact y.is_exact refl refl
  where
    by_test : (e d : Bool) → x.is_exact ≡ e → y.is_exact ≡ d → Coarser x.is_exact y.is_exact
    by_test true d p q = inl p
    by_test false false p q = inr q
    by_test false true p q = absurd (not_few x p (fewer (HasAddress x) (HasAddress y) f (few_of_exact y q)))

-- the order

pub within_itself : (x : Addrs) → IsWithin x x
within_itself x a h = h

pub within_through : (x y z : Addrs) → IsWithin x y → IsWithin y z → IsWithin x z
within_through x y z f g a h = g a (f a h)

pub members_within : (x y : Addrs) → Coarser x.is_exact y.is_exact → ((m : Address) → Contains x.members m → HasAddress y m) → IsWithin x y
members_within x y c f a h = has_same y (member_for x.is_exact a) a (member_twice x.is_exact y.is_exact a c) (f (member_for x.is_exact a) h)

abbrev addrs : (e : Bool) (ms : List Address) → IsTrue (are_members e ms) → Addrs
addrs e ms p = record { is_exact = e; members = ms; listed = p }

listed_prop : (e : Bool) (ms : List Address) (p q : IsTrue (are_members e ms)) → p ≡ q
listed_prop e ms = hlevel (Bool-set)

same_addrs : (e e' : Bool) (ms ms' : List Address) (p : IsTrue (are_members e ms)) (q : IsTrue (are_members e' ms')) → e ≡ e' → ms ≡ ms' → addrs e ms p ≡ addrs e' ms' q
same_addrs e e' ms ms' p q f g =
    subst (λ (x : Bool). (r : IsTrue (are_members x ms')) → addrs e ms p ≡ addrs x ms' r) f
    (subst (λ (l : List Address). (r : IsTrue (are_members e l)) → addrs e ms p ≡ addrs e l r) g (λ r. ap (addrs e ms) (listed_prop e ms p r))) q

member_across : (x y : Addrs) → x.is_exact ≡ y.is_exact → IsWithin x y → (m : Address) → Contains x.members m → Contains y.members m
member_across x y e f m c =
    same_in y.members (member_for y.is_exact m) m (ap (λ b. member_for b m) (sym e) ∙ member_stays x.is_exact x.members m x.listed c) (f m (has_member x m c))

one_form : (d e : Bool) → Coarser d e → Coarser e d → d ≡ e
one_form true true c k = refl
one_form false false c k = refl
one_form true false c (inl h) = sym h
one_form true false c (inr h) = h
one_form false true (inl h) k = h
one_form false true (inr h) k = sym h

pub sets_same : (x y : Addrs) → IsWithin x y → IsWithin y x → x ≡ y
sets_same x y f g =
    let e : x.is_exact ≡ y.is_exact = one_form x.is_exact y.is_exact (coarser x y f) (coarser y x g) in
    same_addrs x.is_exact y.is_exact x.members y.members x.listed y.listed e
    (same_members x.members y.members (ascending x.is_exact x.members x.listed) (ascending y.is_exact y.members y.listed)
    (member_across x y e f) (member_across y x (sym e) g))

-- the set of some addresses

abbrev pub Stands : (Address → Type 0) → Bool → Address → Type 0
Stands W e a = (b : Address) × W b × (member_for e b ≡ member_for e a)

pub set_has : (W : Address → Type 0) (s : Addrs) → IsSetOf W s → (a : Address) → W a → HasAddress s a
set_has W s h a w = (h.has a).1 (a, w, refl)

pub set_in : (W : Address → Type 0) (s u : Addrs) → IsSetOf W s → ((a : Address) → W a → HasAddress u a) → IsWithin s u
set_in W s u h f a k = by_test s.is_exact u.is_exact refl refl
  where
    stands : Coarser s.is_exact u.is_exact → Stands W s.is_exact a → HasAddress u a
    stands c (b, w, e) = has_same u b a (member_same s.is_exact u.is_exact b a c e) (f b w)

    by_test : (e d : Bool) → s.is_exact ≡ e → u.is_exact ≡ d → HasAddress u a
    by_test true d p q = stands (inl p) ((h.has a).0 k)
    by_test false false p q = stands (inr q) ((h.has a).0 k)
    by_test false true p q = absurd (h.exact p (fewer W (HasAddress u) f (few_of_exact u q)))

pub set_joins : (x y j : Addrs) → IsSetOf (EitherHas x y) j → IsLeastUpperBound (λ _ _. Unit {0}) IsWithin x y j
set_joins x y j h = record {
  left_alike = tt;
  right_alike = tt;
  left = λ a k. set_has (EitherHas x y) j h a (inl k);
  right = λ a k. set_has (EitherHas x y) j h a (inr k);
  least = λ u _ _ f g. set_in (EitherHas x y) j u h (λ a. ⊎_elim (f a) (g a));
}

-- more addresses, none of which stands for itself alone, make no difference
pub set_closed : (W V : Address → Type 0) (s : Addrs) → IsSetOf W s → ((a : Address) → W a → V a) → ((a : Address) → V a → Stands W s.is_exact a) → IsSetOf V s
set_closed W V s h f g = record {
  has = λ a. ((λ k. wider a ((h.has a).0 k)), (λ k. (h.has a).1 (narrower a k)));
  exact = λ e few. h.exact e (fewer W V f few);
}
  where
    wider : (a : Address) → Stands W s.is_exact a → Stands V s.is_exact a
    wider a (b, w, e) = (b, f b w, e)

    chained : (a b : Address) → member_for s.is_exact b ≡ member_for s.is_exact a → Stands W s.is_exact b → Stands W s.is_exact a
    chained a b e (c, w, d) = (c, w, d ∙ e)

    narrower : (a : Address) → Stands V s.is_exact a → Stands W s.is_exact a
    narrower a (b, v, e) = chained a b e (g b v)

-- what a set was made of, and some more
pub set_more : (W V : Address → Type 0) (s r : Addrs) → IsSetOf W s → IsSetOf (λ a. HasAddress s a ⊎ V a) r → IsSetOf (λ a. W a ⊎ V a) r
set_more W V s r h k = record {
  has = λ a. ((λ l. told a ((k.has a).0 l)), (λ l. (k.has a).1 (kept_in a l)));
  exact = λ e few. k.exact e (fewer_still few);
}
  where
    within : IsWithin s r
    within a l = set_has (λ b. HasAddress s b ⊎ V b) r k a (inl l)

    through : (a b : Address) → member_for r.is_exact b ≡ member_for r.is_exact a → Stands W s.is_exact b → Stands (λ c. W c ⊎ V c) r.is_exact a
    through a b e (c, w, d) = (c, inl w, member_same s.is_exact r.is_exact c b (coarser s r within) d ∙ e)

    told : (a : Address) → Stands (λ b. HasAddress s b ⊎ V b) r.is_exact a → Stands (λ b. W b ⊎ V b) r.is_exact a
    told a (b, w, e) = ⊎_elim (λ l. through a b e ((h.has b).0 l)) (λ v. (b, inr v, e)) w

    kept_in : (a : Address) → Stands (λ b. W b ⊎ V b) r.is_exact a → Stands (λ b. HasAddress s b ⊎ V b) r.is_exact a
    kept_in a (b, w, e) = (b, ⊎_elim (λ l. inl (set_has W s h b l)) (λ v. inr v) w, e)

    listed_by : s.is_exact ≡ true → (list : List Address) → ((a : Address) → W a ⊎ V a → Contains list (kept a)) → (a : Address) → Stands W s.is_exact a → Contains list (kept a)
    listed_by p list g a (b, w, e) = same_in list (kept b) (kept a) (member_same s.is_exact true b a (inl p) e) (g b (inl w))

    exactly : s.is_exact ≡ true → AreFew (λ a. W a ⊎ V a) → AreFew (λ a. HasAddress s a ⊎ V a)
    exactly p (list, l, g) = (list, l, λ a. ⊎_elim (λ q. listed_by p list g a ((h.has a).0 q)) (λ v. g a (inr v)))

    fewer_still : AreFew (λ a. W a ⊎ V a) → AreFew (λ a. HasAddress s a ⊎ V a)
    fewer_still few = by_test s.is_exact refl
      where
        by_test : (e : Bool) → s.is_exact ≡ e → AreFew (λ a. HasAddress s a ⊎ V a)
        by_test true p = exactly p few
        by_test false p = absurd (h.exact p (fewer W (λ a. W a ⊎ V a) (λ a w. inl w) few))

pub set_of_itself : (s : Addrs) → IsSetOf (HasAddress s) s
set_of_itself s = record {
  has = λ a. ((λ h. (a, h, refl)), (λ k. there a k));
  exact = not_few s;
}
  where
    there : (a : Address) → Stands (HasAddress s) s.is_exact a → HasAddress s a
    there a (b, h, e) = has_same s b a e h

-- one address more: in its place, or with all places starred

pub set_added : (s r : Addrs) (a : Address) → r.is_exact ≡ s.is_exact → r.members ≡ added (member_for s.is_exact a) s.members → IsSetOf (OneMore s a) r
set_added s r a e m = record {
  has = λ b. ((λ h. found b (subst (λ d. Contains r.members (member_for d b)) e h)), (λ k. placed b k));
  exact = λ p few. not_few s (sym e ∙ p) (fewer (HasAddress s) (OneMore s a) (λ b h. inl h) few);
}
  where
    found : (b : Address) → Contains r.members (member_for s.is_exact b) → Stands (OneMore s a) r.is_exact b
    found b c = ⊎_elim
        (λ q. (a, inr refl, subst (λ d. member_for d a ≡ member_for d b) (sym e) q))
        (λ there. (b, inl there, refl))
        (added_only (member_for s.is_exact a) s.members (member_for s.is_exact b) (subst (λ l. Contains l (member_for s.is_exact b)) m c))

    inside : (b : Address) → OneMore s a b → Contains (added (member_for s.is_exact a) s.members) (member_for s.is_exact b)
    inside b (inl h) = added_old (member_for s.is_exact a) s.members (member_for s.is_exact b) h
    inside b (inr q) = subst (λ z. Contains (added (member_for s.is_exact a) s.members) (member_for s.is_exact z)) (sym q) (added_new (member_for s.is_exact a) s.members)

    placed : (b : Address) → Stands (OneMore s a) r.is_exact b → HasAddress r b
    placed b (c, w, q) = has_same r c b q (subst (λ d. Contains r.members (member_for d c)) (sym e) (subst (λ l. Contains l (member_for s.is_exact c)) (sym m) (inside c w)))

pub set_starred : (s r : Addrs) (a : Address) → s.is_exact ≡ true → r.is_exact ≡ false → most_exact < length (added (kept a) s.members)
    → AreStarred (added (kept a) s.members) r.members → IsSetOf (OneMore s a) r
set_starred s r a p q more all = record {
  has = λ b. ((λ h. found b ((all (starred b)).0 (subst (λ d. Contains r.members (member_for d b)) q h))), (λ k. placed b k));
  exact = λ _ few. absurd (too_many few);
}
  where
    exact_has : (b : Address) → Contains s.members (kept b) → HasAddress s b
    exact_has b c = subst (λ d. Contains s.members (member_for d b)) (sym p) c

    kept_has : (b : Address) → HasAddress s b → Contains s.members (kept b)
    kept_has b h = subst (λ d. Contains s.members (member_for d b)) p h

    stays : (m : Address) → Contains s.members m → kept m ≡ m
    stays m c = subst (λ d. member_for d m ≡ m) p (member_stays s.is_exact s.members m s.listed c)

    same_place : (c b : Address) → starred c ≡ starred b → member_for r.is_exact c ≡ member_for r.is_exact b
    same_place c b e = subst (λ d. member_for d c ≡ member_for d b) (sym q) e

    found : (b : Address) → ((m : Address) × Contains (added (kept a) s.members) m × (starred m ≡ starred b)) → Stands (OneMore s a) r.is_exact b
    found b (m, c, e) = ⊎_elim
        (λ k. (a, inr refl, same_place a b (sym (starred_of_kept a) ∙ (ap starred k ∙ e))))
        (λ there. (m, inl (has_member s m there), same_place m b e))
        (added_only (kept a) s.members m c)

    starred_in : (c : Address) → OneMore s a c → Contains r.members (starred c)
    starred_in c (inl h) = (all (starred c)).1 (kept c, added_old (kept a) s.members (kept c) (kept_has c h), starred_of_kept c)
    starred_in c (inr e) = subst (λ z. Contains r.members (starred z)) (sym e) ((all (starred a)).1 (kept a, added_new (kept a) s.members, starred_of_kept a))

    placed : (b : Address) → Stands (OneMore s a) r.is_exact b → HasAddress r b
    placed b (c, w, e) = has_same r c b e (subst (λ d. Contains r.members (member_for d c)) (sym q) (starred_in c w))

    one_of : (list : List Address) → ((b : Address) → OneMore s a b → Contains list (kept b)) → (b : Address) → Contains (added (kept a) s.members) b → Contains list b
    one_of list g b c = ⊎_elim
        (λ e. same_in list (kept a) b e (g a (inr refl)))
        (λ there. same_in list (kept b) b (stays b there) (g b (inl (has_member s b there))))
        (added_only (kept a) s.members b c)

    too_many : AreFew (OneMore s a) → ⊥
    too_many (list, l, g) =
        let fits = no_more (added (kept a) s.members) list (distinct_of (added (kept a) s.members) (ascends_added (kept a) s.members (ascending s.is_exact s.members s.listed))) (one_of list g) in
        absurd (omega (arith, l, more, fits))

-- a list with each member of another one, starred, has an object too, or is as long
pub many_starring : (ms ns : List Address) → ascends ms ≡ true → are_many ms ≡ true → ((b : Address) → Contains ms b → Contains ns (starred b)) → are_many ns ≡ true
many_starring ms ns up many f = by_test (list_any is_object ms) refl
  where
    object_in : ((a : Address) × Contains ms a × (is_object a ≡ true)) → are_many ns ≡ true
    object_in (a, c, o) = or_left (list_any is_object ns) (nat_lt most_exact (length ns)) (any_from is_object ns (starred a) (f a c) (object_starred a ∙ o))

    others : list_any is_object ms ≡ false → nat_lt most_exact (length ms) ≡ true → are_many ns ≡ true
    others none long =
        let fits = no_more ms ns (distinct_of ms up) (λ b c. same_in ns (starred b) b (other_starred b (none_at is_object ms b none c)) (f b c)) in
        let more = ltb-true most_exact (length ms) long in
        or_right (list_any is_object ns) (nat_lt most_exact (length ns)) (lt-ltb most_exact (length ns) (omega (arith, fits, more)))

    by_test : (b : Bool) → list_any is_object ms ≡ b → are_many ns ≡ true
    by_test true e = object_in (any_at is_object ms e)
    by_test false e = others e (subst (λ b. b || nat_lt most_exact (length ms) ≡ true) e many)

-- what is made so is a set

pub listed_added : (e : Bool) (a : Address) (ms : List Address) → are_members e ms ≡ true → (e ≡ true → length (added (member_for e a) ms) ≤ most_exact)
    → are_members e (added (member_for e a) ms) ≡ true
listed_added true a ms h few =
    and_true (ascends (added (kept a) ms)) (list_all is_kept (added (kept a) ms) && nat_le (length (added (kept a) ms)) most_exact)
    (ascends_added (kept a) ms (ascending true ms h))
    (and_true (list_all is_kept (added (kept a) ms)) (nat_le (length (added (kept a) ms)) most_exact)
    (all_from is_kept (added (kept a) ms) (λ b c. ⊎_elim
    (λ e. subst (λ z. is_kept z ≡ true) e (kept_is a))
    (λ there. subst (λ z. is_kept z ≡ true) (member_stays true ms b h there) (kept_is b))
    (added_only (kept a) ms b c)))
    (le-leb (length (added (kept a) ms)) most_exact (few refl)))
listed_added false a ms h few =
    and_true (ascends (added (starred a) ms)) (list_all is_starred (added (starred a) ms) && are_many (added (starred a) ms))
    (ascends_added (starred a) ms (ascending false ms h))
    (and_true (list_all is_starred (added (starred a) ms)) (are_many (added (starred a) ms))
    (all_from is_starred (added (starred a) ms) (λ b c. ⊎_elim
    (λ e. subst (λ z. is_starred z ≡ true) e (starred_is a))
    (λ there. subst (λ z. is_starred z ≡ true) (member_stays false ms b h there) (starred_is b))
    (added_only (starred a) ms b c)))
    (many_starring ms (added (starred a) ms) (ascending false ms h) (many_starred ms h) (λ b c. added_old (starred a) ms (starred b)
    (same_in ms b (starred b) (sym (member_stays false ms b h c)) c))))

pub listed_starred : (ms places : List Address) → ascends ms ≡ true → most_exact < length ms → ascends places ≡ true → AreStarred ms places → are_members false places ≡ true
listed_starred ms places up more rises all =
    and_true (ascends places) (list_all is_starred places && are_many places) rises
    (and_true (list_all is_starred places) (are_many places)
    (all_from is_starred places (λ b c. one_starred b ((all b).0 c)))
    (many_starring ms places up (or_right (list_any is_object ms) (nat_lt most_exact (length ms)) (lt-ltb most_exact (length ms) more)) (λ b c. (all (starred b)).1 (b, c, refl))))
  where
    one_starred : (b : Address) → ((m : Address) × Contains ms m × (starred m ≡ b)) → is_starred b ≡ true
    one_starred b (m, c, e) = subst (λ z. is_starred z ≡ true) e (starred_is m)

-- how often a set can rise

pub room_falls : (most : ℕ) (x y : Addrs) → IsWithin x y → x ≢ y → (y.is_exact ≡ false → length y.members ≤ most) → room_left most y < room_left most x
room_falls most x y f other small = by_test x.is_exact y.is_exact refl refl
  where
    longer : x.is_exact ≡ y.is_exact → length x.members < length y.members
    longer e = grown_longer x.members y.members (ascending x.is_exact x.members x.listed) (ascending y.is_exact y.members y.listed) (member_across x y e f)
        (λ same. other (same_addrs x.is_exact y.is_exact x.members y.members x.listed y.listed e same))

    few : y.is_exact ≡ true → length y.members ≤ most_exact
    few e = few_exact y.members (subst (λ b. are_members b y.members ≡ true) e y.listed)

    exact_room : (s : Addrs) → s.is_exact ≡ true → room_left most s ≡ most + 1 + (most_exact - length s.members)
    exact_room s e = ap (λ b. if b then most + 1 + (most_exact - length s.members) else most - length s.members) e

    other_room : (s : Addrs) → s.is_exact ≡ false → room_left most s ≡ most - length s.members
    other_room s e = ap (λ b. if b then most + 1 + (most_exact - length s.members) else most - length s.members) e

    by_test : (e d : Bool) → x.is_exact ≡ e → y.is_exact ≡ d → room_left most y < room_left most x
    by_test true true p q =
        let a = longer (p ∙ sym q) in let b = few q in let c = exact_room x p in let d = exact_room y q in
        omega (arith, a, b, c, d)
    by_test true false p q = let c = exact_room x p in let d = other_room y q in omega (arith, c, d)
    by_test false false p q =
        let a = longer (p ∙ sym q) in let b = small q in let c = other_room x p in let d = other_room y q in
        omega (arith, a, b, c, d)
    by_test false true p q = absurd (not_few x p (fewer (HasAddress x) (HasAddress y) f (few_of_exact y q)))

-- the same addresses, told in another way
pub set_alike : (W V : Address → Type 0) (s : Addrs) → ((a : Address) → W a → V a) → ((a : Address) → V a → W a) → IsSetOf W s → IsSetOf V s
set_alike W V s f g h = set_closed W V s h f (λ a v. (a, g a v, refl))

-- 65 elements of an array of 80 are too many to be told exactly, so all are there
pub elements_of_80 : (o : Root) (p : List Part) (s : Addrs) → IsSetOf (λ a. (k : ℕ) × (k < 65) × (a ≡ address.At o p k 80)) s → HasAddress s (address.At o p 79 80)
elements_of_80 o p s h = by_test s.is_exact refl
  where
    one : (k : ℕ) → k < 65 → HasAddress s (address.At o p k 80)
    one k l = set_has (λ a. (k : ℕ) × (k < 65) × (a ≡ address.At o p k 80)) s h (address.At o p k 80) (k, l, refl)

    kept_one : s.is_exact ≡ true → (b : Address) → ((j : ℕ) × (j < 65) × (element o p 80 j ≡ b)) → Contains s.members b
    kept_one e b (j, l, q) = same_in s.members (element o p 80 j) b q (subst (λ d. Contains s.members (member_for d (address.At o p j 80))) e (one j l))

    by_test : (e : Bool) → s.is_exact ≡ e → HasAddress s (address.At o p 79 80)
    by_test true e =
        let more = no_more (numbered (element o p 80) 65) s.members (distinct_numbered (element o p 80) (element_apart o p 80) 65)
        (λ b c. kept_one e b (numbered_only (element o p 80) 65 b c)) in
        let count = length-numbered (element o p 80) 65 in
        let few = few_exact s.members (subst (λ b. are_members b s.members ≡ true) e s.listed) in
        absurd (omega (arith, more, count, few))
    by_test false e = subst (λ d. Contains s.members (member_for d (address.At o p 79 80))) (sym e)
        (subst (λ d. Contains s.members (member_for d (address.At o p 0 80))) e (one 0 (omega arith)))

-- what one set of addresses has, another one has
pub set_within : (W : Address → Type 0) (s u : Addrs) → IsSetOf W s → IsSetOf W u → IsWithin s u
set_within W s u h k = set_in W s u h (λ a w. set_has W u k a w)

-- room is bounded
pub room_most : (most : ℕ) (s : Addrs) → room_left most s ≤ most + 65
room_most most s = by_test s.is_exact
  where
    by_test : (e : Bool) → (if e then most + 1 + (most_exact - length s.members) else most - length s.members) ≤ most + 65
    by_test true = omega arith
    by_test false = omega arith

-- a set is known by its form and its members
pub known : (s r : Addrs) → r.is_exact ≡ s.is_exact → r.members ≡ s.members → r ≡ s
known s r e m = same_addrs r.is_exact s.is_exact r.members s.members r.listed s.listed e m

pub listed_same : (e : Bool) (ms ns : List Address) → are_members e ms ≡ true → ns ≡ ms → are_members e ns ≡ true
listed_same e ms ns h q = subst (λ l. are_members e l ≡ true) (sym q) h

pub listed_one : (a : Address) → are_members true (kept a ∷ []) ≡ true
listed_one a = and_true (ascends (kept a ∷ [])) (list_all is_kept (kept a ∷ []) && nat_le (length (kept a ∷ [])) most_exact) refl
    (and_true (list_all is_kept (kept a ∷ [])) (nat_le (length (kept a ∷ [])) most_exact) (and_true (is_kept (kept a)) true (kept_is a) refl) refl)

-- the addresses of two sets, from one of them and the members of the other
pub set_of_members : (x y r : Addrs) → (y.is_exact ≡ false → x.is_exact ≡ false) → IsSetOf (λ b. HasAddress x b ⊎ Contains y.members b) r → IsSetOf (EitherHas x y) r
set_of_members x y r form h = set_closed (λ b. HasAddress x b ⊎ Contains y.members b) (EitherHas x y) r h
    (λ b. ⊎_elim (λ k. inl k) (λ c. inr (has_member y b c)))
    (λ b. ⊎_elim (λ k. (b, inl k, refl)) (λ k. (member_for y.is_exact b, inr k, member_twice y.is_exact r.is_exact b form_of)))
  where
    within : IsWithin x r
    within a k = set_has (λ b. HasAddress x b ⊎ Contains y.members b) r h a (inl k)

    form_of : Coarser y.is_exact r.is_exact
    form_of = by_test y.is_exact refl
      where
        by_test : (e : Bool) → y.is_exact ≡ e → Coarser y.is_exact r.is_exact
        by_test true p = inl p
        by_test false p = inr (⊎_elim (λ q. let k : true ≡ false = sym q ∙ form p in cc) (λ q. q) (coarser x r within))

pub set_joins_back : (x y j : Addrs) → IsSetOf (EitherHas y x) j → IsLeastUpperBound (λ _ _. Unit {0}) IsWithin x y j
set_joins_back x y j h = set_joins x y j (set_alike (EitherHas y x) (EitherHas x y) j (λ a. ⊎_elim (λ k. inr k) (λ k. inl k)) (λ a. ⊎_elim (λ k. inr k) (λ k. inl k)) h)
