-- What holds of the members of sets holds of those of further sets: of the set of some addresses, of one that tells places, and of the least
-- set above two.
use Rattle.std.proofs.Common.{◌≡◌, ◌↔◌, inl, inr, ⊎_elim, ℕ, ◌<◌, ◌≤◌, Bool, true, false, List, [], ◌∷◌, length, IsTrue, refl, ap, sym, ◌∙◌, subst}
use Rattle.std.proofs.lemmas.Bool.{cases_lt}
use Rattle.std.specs.List.{Contains}
use Rattle.cc_state_values_sound.specs.CcPlaces.Kept.{kept, starred, member_for, is_object}
use Rattle.cc_state_values_sound.specs.CcPlaces.Members.{most_exact, are_members, added}
use Rattle.cc_state_values_sound.specs.CcPlaces.Order.{ascends}
use Rattle.cc_state_values_sound.specs.CcPlaces.Sets.{HasAddress, IsWithin, IsSetOf, OneMore, AreStarred}
use Rattle.cc_state_values_sound.specs.CcPlaces.declared.addrs.Addrs.{Addrs}
use Rattle.cc_state_values_sound.specs.CcPlaces.laws.KeptLaws.{at_object}
use Rattle.cc_state_values_sound.specs.CcPlaces.laws.ListLaws.{cons_cases, at_head, behind_head, none_in, same_in, added_only, added_old, added_new, ascends_added}
use Rattle.cc_state_values_sound.specs.CcPlaces.laws.SetLaws.{ascending, member_stays, has_member, many_elements, few_of_exact, fewer, members_within, sets_same, set_has, set_in, set_added, set_starred, listed_added, listed_starred}
use Rattle.cc_program.specs.declared.value.Address.{Address}
use Rattle.cc_program.specs.declared.value.Address.TheVariants as address
use Rattle.cc_program.specs.declared.value.Part.{Part}
use Rattle.cc_program.specs.declared.value.Root.{Root}
use Rattle.cc_state_values_grow.proofs.Fitting.{IsKept}
use Rattle.cc_state_values_grow.proofs.Sets.{not_exact}

-- the members of a list, each starred

star_all : List Address → List Address
star_all [] = []
star_all (m ∷ ms) = added (starred m) (star_all ms)

stars_ascend : (ms : List Address) → ascends (star_all ms) ≡ true
unfolding star_all
stars_ascend [] = refl
stars_ascend (m ∷ ms) = ascends_added (starred m) (star_all ms) (stars_ascend ms)

stars_more : (m : Address) (ms : List Address) (b : Address) → Contains (star_all ms) b ↔ ((x : Address) × Contains ms x × (starred x ≡ b)) →
    Contains (added (starred m) (star_all ms)) b ↔ ((x : Address) × Contains (m ∷ ms) x × (starred x ≡ b))
stars_more m ms b h = (
  λ c. ⊎_elim
      (λ (e : starred m ≡ b). (m, at_head m ms, e))
      (λ (t : Contains (star_all ms) b). let r = h.0 t in (r.0, behind_head m ms r.0 r.1, r.2))
      (added_only (starred m) (star_all ms) b c),
  λ w. ⊎_elim
      (λ (q : m ≡ w.0). same_in (added (starred m) (star_all ms)) (starred m) b (ap starred q ∙ w.2) (added_new (starred m) (star_all ms)))
      (λ (t : Contains ms w.0). added_old (starred m) (star_all ms) b (h.1 (w.0, t, w.2)))
      (cons_cases m ms w.0 w.1),
)

stars_all : (ms : List Address) → AreStarred ms (star_all ms)
unfolding star_all
stars_all [] b = ((λ c. absurd (none_in b c)), (λ h. absurd (none_in h.0 h.1)))
stars_all (m ∷ ms) b = stars_more m ms b (stars_all ms b)

abbrev set_with : (e : Bool) (ms : List Address) → IsTrue (are_members e ms) → Addrs
set_with e ms l = record { is_exact = e; members = ms; listed = l }

abbrev pub All : (Address → Type 0) → Addrs → Type 0
All P s = (m : Address) → Contains s.members m → P m

-- a set is below each that two sets are below
abbrev pub IsLeast : Addrs → Addrs → Addrs → Type 0
IsLeast s t r = (u : Addrs) → IsWithin s u → IsWithin t u → IsWithin r u

module _ (P : Address → Type 0) (keep : IsKept P) where
  kept_for : (e : Bool) (b : Address) → P b → P (member_for e b)
  kept_for true b h = keep.keeps b h
  kept_for false b h = keep.stars b h

  -- of the set of some addresses
  pub set_all : (W : Address → Type 0) (s : Addrs) → IsSetOf W s → ((b : Address) → W b → P b) → All P s
  set_all W s h f m c =
      let w = (h.has m).0 (has_member s m c) in
      subst P (w.2 ∙ member_stays s.is_exact s.members m s.listed c) (kept_for s.is_exact w.0 (f w.0 w.1))

  -- of the set of all addresses of some places
  pub places_all : (W : Address → Type 0) (s : Addrs) → IsSetOf W s → ((a b : Address) → W a → starred a ≡ starred b → W b) → ((b : Address) → W b → is_object b ≡ true) → ((b : Address) → W b → P (starred b)) → All P s
  places_all W s h closed object f m c = by_form s.is_exact refl
    where
      w : (b : Address) × W b × (member_for s.is_exact b ≡ member_for s.is_exact m)
      w = (h.has m).0 (has_member s m c)

      too_many : s.is_exact ≡ true → ((o : Root) × (path : List Part) × (i : ℕ) × (n : ℕ) × (w.0 ≡ address.At o path i n)) → ⊥
      too_many e (o, path, i, n, q) =
          many_elements W o path n (λ k. closed w.0 (address.At o path k n) w.1 (ap starred q)) (fewer W (HasAddress s) (set_has W s h) (few_of_exact s e))

      by_form : (e : Bool) → s.is_exact ≡ e → P m
      by_form true e = absurd (too_many e (at_object w.0 (object w.0 w.1)))
      by_form false e =
          subst P (subst (λ (x : Bool). member_for x w.0 ≡ m) e (w.2 ∙ member_stays s.is_exact s.members m s.listed c)) (f w.0 w.1)

  -- ---- the least set above a set that has some further addresses

  record IsMore (s : Addrs) (a : Address) : Type 0 where
    set : Addrs
    is_set : IsSetOf (OneMore s a) set
    all : All P set

  added_all : (a : Address) (ms : List Address) → ((m : Address) → Contains ms m → P m) → P a → (m : Address) → Contains (added a ms) m → P m
  added_all a ms f h m c = ⊎_elim (λ (e : a ≡ m). subst P e h) (λ (t : Contains ms m). f m t) (added_only a ms m c)

  with_few : (ms : List Address) (l : IsTrue (are_members true ms)) (a : Address) → ((m : Address) → Contains ms m → P m) → P a → length (added (kept a) ms) ≤ most_exact → IsMore (set_with true ms l) a
  with_few ms l a f h k =
      let r = set_with true (added (kept a) ms) (listed_added true a ms l (λ q. k)) in
      record { set = r; is_set = set_added (set_with true ms l) r a refl refl; all = added_all (kept a) ms f (keep.keeps a h) }

  with_many : (ms : List Address) (l : IsTrue (are_members true ms)) (a : Address) → ((m : Address) → Contains ms m → P m) → P a → most_exact < length (added (kept a) ms) → IsMore (set_with true ms l) a
  with_many ms l a f h k =
      let all = stars_all (added (kept a) ms) in
      let r = set_with false (star_all (added (kept a) ms)) (listed_starred (added (kept a) ms) (star_all (added (kept a) ms)) (ascends_added (kept a) ms (ascending true ms l)) k (stars_ascend (added (kept a) ms)) all) in
      record {
        set = r;
        is_set = set_starred (set_with true ms l) r a refl refl k all;
        all = λ m c. let w = (all m).0 c in subst P w.2 (keep.stars w.0 (added_all (kept a) ms f (keep.keeps a h) w.0 w.1));
      }

  with_one : (e : Bool) (ms : List Address) (l : IsTrue (are_members e ms)) (a : Address) → ((m : Address) → Contains ms m → P m) → P a → IsMore (set_with e ms l) a
  with_one false ms l a f h =
      let r = set_with false (added (starred a) ms) (listed_added false a ms l (λ q. absurd (cc))) in
      record { set = r; is_set = set_added (set_with false ms l) r a refl refl; all = added_all (starred a) ms f (keep.stars a h) }
  with_one true ms l a f h = ⊎_elim (with_many ms l a f h) (with_few ms l a f h) (cases_lt most_exact (length (added (kept a) ms)))

  record IsJoined (s : Addrs) (others : List Address) : Type 0 where
    set : Addrs
    above : IsWithin s set
    has : (a : Address) → Contains others a → HasAddress set a
    least : (u : Addrs) → IsWithin s u → ((a : Address) → Contains others a → HasAddress u a) → IsWithin set u
    all : All P set

  joined : (others : List Address) (s : Addrs) → All P s → ((a : Address) → Contains others a → P a) → IsJoined s others
  joined [] s f g = record { set = s; above = λ a h. h; has = λ a c. absurd (none_in a c); least = λ u h k. h; all = f }
  joined (b ∷ others) s f g =
      let r = with_one s.is_exact s.members s.listed b f (g b (at_head b others)) in
      let j = joined others r.set r.all (λ a c. g a (behind_head b others a c)) in
      record {
        set = j.set;
        above = λ a h. j.above a (set_has (OneMore s b) r.set r.is_set a (inl h));
        has = λ a c. ⊎_elim
            (λ (e : b ≡ a). subst (λ (z : Address). HasAddress j.set z) e (j.above b (set_has (OneMore s b) r.set r.is_set b (inr refl))))
            (λ (t : Contains others a). j.has a t) (cons_cases b others a c);
        least = λ u h k. j.least u
            (set_in (OneMore s b) r.set u r.is_set (λ a. ⊎_elim (λ (m : HasAddress s a). h a m) (λ (e : a ≡ b). subst (λ (z : Address). HasAddress u z) (sym e) (k b (at_head b others)))))
            (λ a c. k a (behind_head b others a c));
        all = j.all;
      }

  -- ---- the least set above two sets

  same_all : (j r : Addrs) → All P j → IsWithin r j → IsWithin j r → All P r
  same_all j r f h k = subst (All P) (sets_same j r k h) f

  pub both_all : (s t r : Addrs) → All P s → All P t → IsWithin s r → IsWithin t r → IsLeast s t r → All P r
  both_all s t r f g h k l = by_form t.is_exact refl
    where
      by_form : (e : Bool) → t.is_exact ≡ e → All P r
      by_form true e =
          let j = joined t.members s f g in
          same_all j.set r j.all (l j.set j.above (members_within t j.set (inl e) j.has)) (j.least r h (λ a c. k a (has_member t a c)))
      by_form false e =
          let j = joined s.members t g f in
          same_all j.set r j.all (l j.set (members_within s j.set (inr (not_exact t j.set j.above e)) j.has) j.above) (j.least r k (λ a c. h a (has_member s a c)))

  -- of the least set of all
  pub none_all : (r : Addrs) → ((u : Addrs) → IsWithin r u) → All P r
  none_all r l m c = absurd (none_in (kept m) (l (set_with true [] refl) m (has_member r m c)))
