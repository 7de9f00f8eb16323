-- Of some sets of addresses there is a least one above all, and what holds of the members of each of them holds of its. So it does of the members
-- of the least set that has some addresses.
use Rattle.std.proofs.Common.{◌≡◌, ◌↔◌, inl, inr, ⊎_elim, ◌<◌, ◌≤◌, Bool, true, false, List, [], ◌∷◌, length, IsTrue, refl, ap, sym, ◌∙◌, subst}
use Rattle.std.proofs.lemmas.Bool.{cases_lt}
use Rattle.std.specs.List.{Contains}
use Rattle.cc_state_reads.specs.CcPlaces.Kept.{kept, starred}
use Rattle.cc_state_reads.specs.CcPlaces.Members.{most_exact, are_members, added}
use Rattle.cc_state_reads.specs.CcPlaces.Order.{ascends}
use Rattle.cc_state_reads.specs.CcPlaces.Sets.{HasAddress, IsWithin, IsSetOf, OneMore, AreStarred}
use Rattle.cc_state_reads.specs.CcPlaces.declared.addrs.Addrs.{Addrs}
use Rattle.cc_state_reads.specs.CcPlaces.laws.ListLaws.{cons_cases, at_head, behind_head, none_in, same_in, added_only, added_old, added_new, ascends_added}
use Rattle.cc_state_reads.specs.CcPlaces.laws.SetLaws.{ascending, has_member, members_within, sets_same, set_has, set_in, set_added, set_starred, listed_added, listed_starred}
use Rattle.cc_program.specs.declared.value.Address.{Address}
use Rattle.cc_state_values_grow.proofs.Fitting.{IsKept}
use Rattle.cc_state_values_grow.proofs.Joins.{All}
use Rattle.cc_state_values_grow.proofs.Sets.{not_exact}

-- the members of a list, each starred

star_all : List Address → List Address
star_all [] = []
star_all (m ∷ ms) = added (starred m) (star_all ms)

stars_ascend : (ms : List Address) → ascends (star_all ms) ≡ true
unfolding star_all
stars_ascend [] = refl
stars_ascend (m ∷ ms) = ascends_added (starred m) (star_all ms) (stars_ascend ms)

stars_more : (m : Address) (ms : List Address) (b : Address) → Contains (star_all ms) b ↔ ((x : Address) × Contains ms x × (starred x ≡ b)) →
    Contains (added (starred m) (star_all ms)) b ↔ ((x : Address) × Contains (m ∷ ms) x × (starred x ≡ b))
stars_more m ms b h = (
  λ c. ⊎_elim
      (λ (e : starred m ≡ b). (m, at_head m ms, e))
      (λ (t : Contains (star_all ms) b). let r = h.0 t in (r.0, behind_head m ms r.0 r.1, r.2))
      (added_only (starred m) (star_all ms) b c),
  λ w. ⊎_elim
      (λ (q : m ≡ w.0). same_in (added (starred m) (star_all ms)) (starred m) b (ap starred q ∙ w.2) (added_new (starred m) (star_all ms)))
      (λ (t : Contains ms w.0). added_old (starred m) (star_all ms) b (h.1 (w.0, t, w.2)))
      (cons_cases m ms w.0 w.1),
)

stars_all : (ms : List Address) → AreStarred ms (star_all ms)
unfolding star_all
stars_all [] b = ((λ c. absurd (none_in b c)), (λ h. absurd (none_in h.0 h.1)))
stars_all (m ∷ ms) b = stars_more m ms b (stars_all ms b)

abbrev set_with : (e : Bool) (ms : List Address) → IsTrue (are_members e ms) → Addrs
set_with e ms l = record { is_exact = e; members = ms; listed = l }

module _ (P : Address → Type 0) (keep : IsKept P) where
  -- ---- the least set above a set that has some further addresses

  record IsMore (s : Addrs) (a : Address) : Type 0 where
    set : Addrs
    is_set : IsSetOf (OneMore s a) set
    all : All P set

  added_all : (a : Address) (ms : List Address) → ((m : Address) → Contains ms m → P m) → P a → (m : Address) → Contains (added a ms) m → P m
  added_all a ms f h m c = ⊎_elim (λ (e : a ≡ m). subst P e h) (λ (t : Contains ms m). f m t) (added_only a ms m c)

  with_few : (ms : List Address) (l : IsTrue (are_members true ms)) (a : Address) → ((m : Address) → Contains ms m → P m) → P a → length (added (kept a) ms) ≤ most_exact → IsMore (set_with true ms l) a
  with_few ms l a f h k =
      let r = set_with true (added (kept a) ms) (listed_added true a ms l (λ q. k)) in
      record { set = r; is_set = set_added (set_with true ms l) r a refl refl; all = added_all (kept a) ms f (keep.keeps a h) }

  with_many : (ms : List Address) (l : IsTrue (are_members true ms)) (a : Address) → ((m : Address) → Contains ms m → P m) → P a → most_exact < length (added (kept a) ms) → IsMore (set_with true ms l) a
  with_many ms l a f h k =
      let all = stars_all (added (kept a) ms) in
      let r = set_with false (star_all (added (kept a) ms)) (listed_starred (added (kept a) ms) (star_all (added (kept a) ms)) (ascends_added (kept a) ms (ascending true ms l)) k (stars_ascend (added (kept a) ms)) all) in
      record {
        set = r;
        is_set = set_starred (set_with true ms l) r a refl refl k all;
        all = λ m c. let w = (all m).0 c in subst P w.2 (keep.stars w.0 (added_all (kept a) ms f (keep.keeps a h) w.0 w.1));
      }

  with_one : (e : Bool) (ms : List Address) (l : IsTrue (are_members e ms)) (a : Address) → ((m : Address) → Contains ms m → P m) → P a → IsMore (set_with e ms l) a
  with_one false ms l a f h =
      let r = set_with false (added (starred a) ms) (listed_added false a ms l (λ q. absurd (cc))) in
      record { set = r; is_set = set_added (set_with false ms l) r a refl refl; all = added_all (starred a) ms f (keep.stars a h) }
  with_one true ms l a f h = ⊎_elim (with_many ms l a f h) (with_few ms l a f h) (cases_lt most_exact (length (added (kept a) ms)))

  record IsJoined (s : Addrs) (others : List Address) : Type 0 where
    set : Addrs
    above : IsWithin s set
    has : (a : Address) → Contains others a → HasAddress set a
    least : (u : Addrs) → IsWithin s u → ((a : Address) → Contains others a → HasAddress u a) → IsWithin set u
    all : All P set

  joined : (others : List Address) (s : Addrs) → All P s → ((a : Address) → Contains others a → P a) → IsJoined s others
  joined [] s f g = record { set = s; above = λ a h. h; has = λ a c. absurd (none_in a c); least = λ u h k. h; all = f }
  joined (b ∷ others) s f g =
      let r = with_one s.is_exact s.members s.listed b f (g b (at_head b others)) in
      let j = joined others r.set r.all (λ a c. g a (behind_head b others a c)) in
      record {
        set = j.set;
        above = λ a h. j.above a (set_has (OneMore s b) r.set r.is_set a (inl h));
        has = λ a c. ⊎_elim
            (λ (e : b ≡ a). subst (λ (z : Address). HasAddress j.set z) e (j.above b (set_has (OneMore s b) r.set r.is_set b (inr refl))))
            (λ (t : Contains others a). j.has a t) (cons_cases b others a c);
        least = λ u h k. j.least u
            (set_in (OneMore s b) r.set u r.is_set (λ a. ⊎_elim (λ (m : HasAddress s a). h a m) (λ (e : a ≡ b). subst (λ (z : Address). HasAddress u z) (sym e) (k b (at_head b others)))))
            (λ a c. k a (behind_head b others a c));
        all = j.all;
      }

  -- ---- the least set above two sets, and above those of a list

  record IsBoth (s t : Addrs) : Type 0 where
    set : Addrs
    left : IsWithin s set
    right : IsWithin t set
    least : (u : Addrs) → IsWithin s u → IsWithin t u → IsWithin set u
    all : All P set

  both : (s t : Addrs) → All P s → All P t → IsBoth s t
  both s t f g = by_form t.is_exact refl
    where
      by_form : (e : Bool) → t.is_exact ≡ e → IsBoth s t
      by_form true e =
          let j = joined t.members s f g in
          record { set = j.set; left = j.above; right = members_within t j.set (inl e) j.has; least = λ u h k. j.least u h (λ a c. k a (has_member t a c)); all = j.all }
      by_form false e =
          let j = joined s.members t g f in
          record { set = j.set; left = members_within s j.set (inr (not_exact t j.set j.above e)) j.has; right = j.above; least = λ u h k. j.least u k (λ a c. h a (has_member s a c)); all = j.all }

  abbrev none_set : Addrs
  none_set = set_with true [] refl

  none_least : (u : Addrs) → IsWithin none_set u
  none_least u a h = absurd (none_in (kept a) h)

  pub record IsOver (sets : List Addrs) : Type 0 where
    pub set : Addrs
    pub above : (s : Addrs) → Contains sets s → IsWithin s set
    pub least : (u : Addrs) → ((s : Addrs) → Contains sets s → IsWithin s u) → IsWithin set u
    pub all : All P set

  pub over : (sets : List Addrs) → ((s : Addrs) → Contains sets s → All P s) → IsOver sets
  over [] f = record { set = none_set; above = λ s c. absurd (none_in s c); least = λ u h. none_least u; all = λ a c. absurd (none_in a c) }
  over (s ∷ sets) f =
      let r = over sets (λ t c. f t (behind_head s sets t c)) in
      let b = both s r.set (f s (at_head s sets)) r.all in
      record {
        set = b.set;
        above = λ t c. ⊎_elim
            (λ (e : s ≡ t). subst (λ (z : Addrs). IsWithin z b.set) e b.left)
            (λ (k : Contains sets t). λ a h. b.right a (r.above t k a h)) (cons_cases s sets t c);
        least = λ u h. b.least u (h s (at_head s sets)) (r.least u (λ t c. h t (behind_head s sets t c)));
        all = b.all;
      }

  -- a set that is the least with some addresses
  record HasListed (list : List Address) : Type 0 where
    set : Addrs
    has : (a : Address) → Contains list a → HasAddress set a
    least : (u : Addrs) → ((a : Address) → Contains list a → HasAddress u a) → IsWithin set u
    all : All P set

  listed_set : (list : List Address) → ((a : Address) → Contains list a → P a) → HasListed list
  listed_set list f =
      let j = joined list none_set (λ a c. absurd (none_in a c)) f in
      record { set = j.set; has = j.has; least = λ u h. j.least u (none_least u) h; all = j.all }

  pub listed_all : (list : List Address) → ((a : Address) → Contains list a → P a) → (y : Addrs) → ((a : Address) → Contains list a → HasAddress y a) → ((u : Addrs) → ((a : Address) → Contains list a → HasAddress u a) → IsWithin y u) → All P y
  listed_all list f y h l =
      let r = listed_set list f in
      subst (All P) (sets_same r.set y (r.least y h) (l r.set r.has)) r.all

-- ---- of a list those for which something holds, where nothing tells for which it does

pub record AreThose {A : Type 0} (W : A → Type 0) (xs : List A) : Type 0 where
  pub those : List A
  pub only : (a : A) → Contains those a → Contains xs a × W a
  pub each : (a : A) → Contains xs a → W a → Contains those a

pub those_never : {A : Type 0} (W : A → Type 0) (xs : List A) → (AreThose W xs → ⊥) → ⊥
those_never W [] h = h (record { those = []; only = λ a c. absurd (none_in a c); each = λ a c w. absurd (none_in a c) })
those_never {A = A} W (x ∷ xs) h = those_never W xs (λ r. h (record {
  those = r.those;
  only = λ a c. (let k = r.only a c in (behind_head x xs a k.0, k.1));
  each = λ a c w. ⊎_elim (λ (e : x ≡ a). absurd (h (with_first r (subst W (sym e) w)))) (λ (k : Contains xs a). r.each a k w) (cons_cases x xs a c);
}))
  where
    with_first : AreThose W xs → W x → AreThose W (x ∷ xs)
    with_first r w = record {
      those = x ∷ r.those;
      only = λ a c. ⊎_elim (λ (e : x ≡ a). (subst (λ (z : A). Contains (x ∷ xs) z) e (at_head x xs), subst W e w)) (λ (k : Contains r.those a). (let q = r.only a k in (behind_head x xs a q.0, q.1))) (cons_cases x r.those a c);
      each = λ a c v. ⊎_elim (λ (e : x ≡ a). subst (λ (z : A). Contains (x ∷ r.those) z) e (at_head x r.those)) (λ (k : Contains xs a). behind_head x r.those a (r.each a k v)) (cons_cases x xs a c);
    }
