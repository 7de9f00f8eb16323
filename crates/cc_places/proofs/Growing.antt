-- A set with one address more, and the union of two sets, member by member.
use Rattle.std.specs.Prelude.{ℕ, ◌+◌, ◌<◌, ◌≤◌, ◌≡◌, ◌⊎◌, true, false, List, length, refl}
use Rattle.std.specs.List.{Contains}
use Rattle.std.proofs.Common.{get_or, take, sym, ap, ◌∙◌, subst, inl, inr, ⊎_elim}
use Rattle.cc_program.specs.declared.value.Address.{Address}
use Rattle.cc_places.specs.declared.addrs.Addrs.{Addrs}
use Rattle.cc_places.specs.Kept.{kept, starred, member_for}
use Rattle.cc_places.specs.Order.{ascends}
use Rattle.cc_places.specs.Members.{most_exact, are_members, added}
use Rattle.cc_places.specs.Sets.{HasAddress, IsSetOf, OneMore, AreStarred}
use Rattle.cc_places.specs.laws.ListLaws.{same_in, added_only, added_old, added_new, ascends_added, taken_cases, taken_before, taken_now}
use Rattle.cc_places.specs.laws.SetLaws.{ascending, listed_added, listed_starred, set_added, set_starred, set_alike, set_closed, set_more, set_of_itself}

-- the members of a set, with the member of an address
pub record AreGrown (s : Addrs) (a m : Address) (old all slice : List Address) : Type 0 where
  pub is_member : m ≡ member_for s.is_exact a
  pub are_old : old ≡ s.members
  pub are_all : all ≡ added m old
  pub same : slice ≡ all

all_are : (s : Addrs) (a m : Address) (old all slice : List Address) → AreGrown s a m old all slice → all ≡ added (member_for s.is_exact a) s.members
all_are s a m old all slice g = g.are_all ∙ (ap (added m) g.are_old ∙ ap (λ z. added z s.members) g.is_member)

slice_is : (s : Addrs) (a m : Address) (old all slice : List Address) → AreGrown s a m old all slice → slice ≡ added (member_for s.is_exact a) s.members
slice_is s a m old all slice g = g.same ∙ all_are s a m old all slice g

pub stay_listed : (s : Addrs) (a m : Address) (old all slice result : List Address) → AreGrown s a m old all slice
    → (s.is_exact ≡ true → length slice ≤ most_exact) → result ≡ all → are_members s.is_exact result ≡ true
stay_listed s a m old all slice result g few e =
    subst (λ l. are_members s.is_exact l ≡ true) (sym (e ∙ all_are s a m old all slice g))
    (listed_added s.is_exact a s.members s.listed (λ p. subst (λ l. length l ≤ most_exact) (slice_is s a m old all slice g) (few p)))

pub stay_set : (s : Addrs) (a m : Address) (old all slice : List Address) (r : Addrs) → AreGrown s a m old all slice
    → r.is_exact ≡ s.is_exact → r.members ≡ all → IsSetOf (OneMore s a) r
stay_set s a m old all slice r g p e = set_added s r a p (e ∙ all_are s a m old all slice g)

pub become_listed : (s : Addrs) (a m : Address) (old all slice places result : List Address) → AreGrown s a m old all slice
    → most_exact < length slice → ascends places ≡ true → AreStarred slice places → result ≡ places → are_members false result ≡ true
become_listed s a m old all slice places result g more up stars e =
    subst (λ l. are_members false l ≡ true) (sym e)
    (listed_starred slice places
    (subst (λ l. ascends l ≡ true) (sym (slice_is s a m old all slice g)) (ascends_added (member_for s.is_exact a) s.members (ascending s.is_exact s.members s.listed)))
    more up stars)

pub become_set : (s : Addrs) (a m : Address) (old all slice places : List Address) (r : Addrs) → AreGrown s a m old all slice
    → s.is_exact ≡ true → most_exact < length slice → AreStarred slice places → r.is_exact ≡ false → r.members ≡ places → IsSetOf (OneMore s a) r
become_set s a m old all slice places r g p more stars q e =
    set_starred s r a p q (subst (λ l. most_exact < length l) exact_slice more) (subst (λ l. AreStarred exact_all l) (sym e) (subst (λ l. AreStarred l places) exact_slice stars))
  where
    exact_all : List Address
    exact_all = added (kept a) s.members

    exact_slice : slice ≡ added (kept a) s.members
    exact_slice = slice_is s a m old all slice g ∙ ap (λ d. added (member_for d a) s.members) p

-- starred members, one by one

pub stars_on : (ms : List Address) (i : ℕ) (m place : Address) (old new : List Address) → i < length ms → m ≡ get_or ms i m → place ≡ starred m → new ≡ added place old
    → (ascends old ≡ true) × AreStarred (take i ms) old → (ascends new ≡ true) × AreStarred (take (i + 1) ms) new
stars_on ms i m place old new l e q n (up, all) = (
  subst (λ k. ascends k ≡ true) (sym n) (ascends_added place old up),
  λ b. ((λ c. found b (added_only place old b (subst (λ k. Contains k b) n c))), (λ h. placed b h)),
)
  where
    earlier : (b : Address) → ((x : Address) × Contains (take i ms) x × (starred x ≡ b)) → (x : Address) × Contains (take (i + 1) ms) x × (starred x ≡ b)
    earlier b (x, c, h) = (x, taken_before ms i m x l e c, h)

    found : (b : Address) → (place ≡ b) ⊎ Contains old b → (x : Address) × Contains (take (i + 1) ms) x × (starred x ≡ b)
    found b (inl h) = (m, taken_now ms i m l e, sym q ∙ h)
    found b (inr h) = earlier b ((all b).0 h)

    placed : (b : Address) → ((x : Address) × Contains (take (i + 1) ms) x × (starred x ≡ b)) → Contains new b
    placed b (x, c, h) = subst (λ k. Contains k b) (sym n) (⊎_elim
        (λ t. added_old place old b ((all b).1 (x, t, h)))
        (λ t. same_in (added place old) place b (q ∙ (ap starred t ∙ h)) (added_new place old))
        (taken_cases ms i m x l e c))

-- a union, member by member

pub set_no_more : (V : Address → Type 0) (s : Addrs) → ((a : Address) → V a → ⊥) → IsSetOf (λ a. HasAddress s a ⊎ V a) s
set_no_more V s none = set_closed (HasAddress s) (λ a. HasAddress s a ⊎ V a) s (set_of_itself s) (λ a h. inl h)
    (λ a. ⊎_elim (λ h. (a, h, refl)) (λ v. absurd (none a v)))

pub one_joined : (x s r : Addrs) (ms : List Address) (i : ℕ) (m : Address) → i < length ms → m ≡ get_or ms i m
    → IsSetOf (λ b. HasAddress x b ⊎ Contains (take i ms) b) s → IsSetOf (OneMore s m) r → IsSetOf (λ b. HasAddress x b ⊎ Contains (take (i + 1) ms) b) r
one_joined x s r ms i m l e h k =
    set_alike (λ b. (HasAddress x b ⊎ Contains (take i ms) b) ⊎ (b ≡ m)) (λ b. HasAddress x b ⊎ Contains (take (i + 1) ms) b) r
    (λ b. ⊎_elim (⊎_elim (λ t. inl t) (λ t. inr (taken_before ms i m b l e t))) (λ t. inr (same_in (take (i + 1) ms) m b (sym t) (taken_now ms i m l e))))
    (λ b. ⊎_elim (λ t. inl (inl t)) (λ t. ⊎_elim (λ u. inl (inr u)) (λ u. inr (sym u)) (taken_cases ms i m b l e t)))
    (set_more (λ b. HasAddress x b ⊎ Contains (take i ms) b) (λ b. b ≡ m) s r h k)
