-- Words that are opened for slots: what is in each.
use Rattle.std.proofs.Common.{◌≡◌, ◌≢◌, ◌≤◌, ◌<◌, ◌+◌, ◌++◌, ◌∙◌, ◌⊎◌, inl, inr, ⊎_elim, nat_le, ℕ, zero, suc, Bool, true, false, if◌then◌else◌, List, [], ◌∷◌, fold, map, All, Contains, Some, None, option_map, slice_get, refl, ap, sym, subst, arith}
use Rattle.std.proofs.lemmas.Bool.{cases_lt}
use Rattle.std.proofs.lemmas.Bool.Decides.{nat_tests}
use Rattle.std.proofs.lemmas.List.Elements.{All-nil, All-cons, All-head, All-tail, Contains-append_left}
use Rattle.std.proofs.lemmas.Option.{slice_get-map, slice_get_within, get_or_from_slice_get}
use Rattle.cc_bins.specs.declared.types.Field.{Field}
use Rattle.cc_bins.specs.declared.types.Want.{Want}
use Rattle.cc_bins.specs.declared.open_words.Open.{Open}
use Rattle.cc_bins.specs.declared.open_words.Placed.{Placed}
use Rattle.cc_bins.specs.Packed.{Follow, IsPacked}
use Rattle.cc_bins.specs.Placing.{field_of, fields_from, has_room, opened, opens, placed_at, put, with_slot}
use Rattle.cc_bins.proofs.Rooms.{put_yes, put_no}

le_false : (a b : ℕ) → nat_le a b ≡ false → b < a
le_false a b h = grind (arith, nat_tests)

-- ---- what is kept when slots are put into words

module _ (R : Want → Type 0) (Q : Open → Type 0) (new : (x : Want) → R x → Q (opened x)) (more : (x : Want) (w : Open) → R x → Q w → Q (with_slot w x)) where
  put_step : (x : Want) (w : Open) (ws : List Open) → R x → All Q (w ∷ ws) → All Q (put ws x) → (b : Bool) → has_room x.group x.bits w ≡ b → All Q (put (w ∷ ws) x)
  put_step x w ws r h k true e = subst (All Q) (sym (put_yes x w ws e)) (All-cons Q (with_slot w x) ws (more x w r (All-head Q w ws h)) (All-tail Q w ws h))
  put_step x w ws r h k false e = subst (All Q) (sym (put_no x w ws e)) (All-cons Q w (put ws x) (All-head Q w ws h) k)

  put_keeps : (x : Want) (ws : List Open) → R x → All Q ws → All Q (put ws x)
  put_keeps x [] r h = All-cons Q (opened x) [] (new x r) (All-nil Q)
  put_keeps x (w ∷ ws) r h = put_step x w ws r h (put_keeps x ws r (All-tail Q w ws h)) (has_room x.group x.bits w) refl

  fold_keeps : (order : List Want) (ws : List Open) → All R order → All Q ws → All Q (fold put ws order)
  fold_keeps [] ws r h = h
  fold_keeps (x ∷ order) ws r h = fold_keeps order (put ws x) (All-tail R x order r) (put_keeps x ws (All-head R x order r) h)

  pub opens_keep : (order : List Want) → All R order → All Q (opens order)
  opens_keep order r = fold_keeps order [] r (All-nil Q)

-- ---- a word of two bytes has a slot of more than 8 bits

pub record HasLarge (w : Open) : Type 0 where
  pub place : ℕ
  pub placed : Placed
  pub there : slice_get w.slots place ≡ Some placed
  pub large : w.bits ≡ 16 → 8 < placed.want.bits

front_stays : (xs ys : List Placed) (i : ℕ) (p : Placed) → slice_get xs i ≡ Some p → slice_get (xs ++ ys) i ≡ Some p
front_stays [] ys i p s = let f : None ≡ Some p = s in absurd (cc)
front_stays (x ∷ xs) ys zero p s = s
front_stays (x ∷ xs) ys (suc i) p s = front_stays xs ys i p s

pub large_new : (x : Want) → HasLarge (opened x)
large_new x = record { place = 0; placed = placed_at 0 x; there = refl; large = λ e. large_by x.bits (nat_le x.bits 8) refl e }
  where
    large_by : (n : ℕ) (b : Bool) → nat_le n 8 ≡ b → ◌≡◌ {A = ℕ} (if b then 8 else 16) 16 → 8 < n
    large_by n true t e = absurd (omega (arith, e))
    large_by n false t e = le_false n 8 t

pub large_more : (x : Want) (w : Open) → HasLarge w → HasLarge (with_slot w x)
large_more x w h = record { place = h.place; placed = h.placed; there = front_stays w.slots (placed_at w.used x ∷ []) h.place h.placed h.there; large = h.large }

-- ---- slots of a word lie apart, in the order of their bits

follow_within : (from to : ℕ) (ps : List Placed) → Follow from ps to → from ≤ to
follow_within from to [] h = omega (arith, h)
follow_within from to (q ∷ ps) h = let l = follow_within (from + q.want.bits) to ps h.1 in omega (arith, l)

within_follow : (from to : ℕ) (ps : List Placed) → Follow from ps to → (i : ℕ) (p : Placed) → slice_get ps i ≡ Some p → (from ≤ p.shift) × (p.shift + p.want.bits ≤ to)
within_follow from to [] h i p s = let f : None ≡ Some p = s in absurd (cc)
within_follow from to (q ∷ ps) h zero p s =
    let f : Some q ≡ Some p = s in
    let e : q ≡ p = cc in
    let shift : p.shift ≡ from = ap (λ (r : Placed). r.shift) (sym e) ∙ h.0 in
    let bits : q.want.bits ≡ p.want.bits = ap (λ (r : Placed). r.want.bits) e in
    let l = follow_within (from + q.want.bits) to ps h.1 in
    (omega (arith, shift), omega (arith, shift, bits, l))
within_follow from to (q ∷ ps) h (suc i) p s =
    let m = within_follow (from + q.want.bits) to ps h.1 i p s in
    (omega (arith, m.0), m.1)

apart_follow : (from to : ℕ) (ps : List Placed) → Follow from ps to → (i j : ℕ) (p q : Placed) → i < j → slice_get ps i ≡ Some p → slice_get ps j ≡ Some q → p.shift + p.want.bits ≤ q.shift
apart_follow from to [] h i j p q l s t = let f : None ≡ Some p = s in absurd (cc)
apart_follow from to (r ∷ ps) h zero zero p q l s t = absurd (omega (arith, l))
apart_follow from to (r ∷ ps) h zero (suc j) p q l s t =
    let f : Some r ≡ Some p = s in
    let e : r ≡ p = cc in
    let shift : p.shift ≡ from = ap (λ (r : Placed). r.shift) (sym e) ∙ h.0 in
    let bits : r.want.bits ≡ p.want.bits = ap (λ (r : Placed). r.want.bits) e in
    let m = within_follow (from + r.want.bits) to ps h.1 j q t in
    omega (arith, shift, bits, m.0)
apart_follow from to (r ∷ ps) h (suc i) zero p q l s t = absurd (omega (arith, l))
apart_follow from to (r ∷ ps) h (suc i) (suc j) p q l s t = apart_follow (from + r.want.bits) to ps h.1 i j p q (omega (arith, l)) s t

-- two slots of a word at different places share no bit
pub no_shared_bit : (w : Open) → IsPacked w → (i j : ℕ) (p q : Placed) → i ≢ j → slice_get w.slots i ≡ Some p → slice_get w.slots j ≡ Some q
    → (bit : ℕ) → p.shift ≤ bit → bit < p.shift + p.want.bits → q.shift ≤ bit → bit < q.shift + q.want.bits → ⊥
no_shared_bit w h i j p q n s t bit a b c d = ⊎_elim
    (λ (l : i < j). let m = apart_follow 0 w.used w.slots h.apart i j p q l s t in absurd (omega (arith, m, a, b, c, d)))
    (λ (l : j < i). let m = apart_follow 0 w.used w.slots h.apart j i q p l t s in absurd (omega (arith, m, a, b, c, d)))
    (sides i j n)
  where
    sides : (i j : ℕ) → i ≢ j → (i < j) ⊎ (j < i)
    sides i j n = ⊎_elim (λ (l : i < j). inl l) (λ (l : j ≤ i). inr (omega (arith, l, n))) (cases_lt i j)

pub ends_within : (w : Open) → IsPacked w → (i : ℕ) (p : Placed) → slice_get w.slots i ≡ Some p → p.shift + p.want.bits ≤ w.bits
ends_within w h i p s = let m = within_follow 0 w.used w.slots h.apart i p s in let l = h.within in omega (arith, m.1, l)

-- ---- fields are of slots in words

pub record IsPlaced (number : ℕ) (ws : List Open) (f : Field) : Type 0 where
  pub word : ℕ
  pub open_word : Open
  pub at_word : slice_get ws word ≡ Some open_word
  pub place : ℕ
  pub placed : Placed
  pub at_place : slice_get open_word.slots place ≡ Some placed
  pub is : f ≡ field_of (number + word) placed

join_cases : (xs ys : List Field) (j : ℕ) (f : Field) → slice_get (xs ++ ys) j ≡ Some f → (slice_get xs j ≡ Some f) ⊎ ((k : ℕ) × (slice_get ys k ≡ Some f))
join_cases [] ys j f s = inr (j, s)
join_cases (x ∷ xs) ys zero f s = inl s
join_cases (x ∷ xs) ys (suc j) f s = join_cases xs ys j f s

from_map : (number : ℕ) (ps : List Placed) (j : ℕ) (f : Field) → slice_get (map (field_of number) ps) j ≡ Some f → (p : Placed) × (slice_get ps j ≡ Some p) × (f ≡ field_of number p)
from_map number [] j f s = let g : None ≡ Some f = s in absurd (cc)
from_map number (p ∷ ps) zero f s = let g : Some (field_of number p) ≡ Some f = s in let e : f ≡ field_of number p = cc in (p, refl, e)
from_map number (p ∷ ps) (suc j) f s = from_map number ps j f s

pub its_place : (number : ℕ) (ws : List Open) (j : ℕ) (f : Field) → slice_get (fields_from number ws) j ≡ Some f → IsPlaced number ws f
its_place number [] j f s = let g : None ≡ Some f = s in absurd (cc)
its_place number (w ∷ ws) j f s = ⊎_elim
    (λ (here : slice_get (map (field_of number) w.slots) j ≡ Some f).
    let m = from_map number w.slots j f here in
    let z : number ≡ number + 0 = omega arith in
    record { word = 0; open_word = w; at_word = refl; place = j; placed = m.0; at_place = m.1; is = m.2 ∙ ap (λ (k : ℕ). field_of k m.0) z })
    (λ (there : (k : ℕ) × (slice_get (fields_from (number + 1) ws) k ≡ Some f)).
    let m = its_place (number + 1) ws there.0 f there.1 in
    let z : number + 1 + m.word ≡ number + suc m.word = omega arith in
    record { word = suc m.word; open_word = m.open_word; at_word = m.at_word; place = m.place; placed = m.placed; at_place = m.at_place; is = m.is ∙ ap (λ (k : ℕ). field_of k m.placed) z })
    (join_cases (map (field_of number) w.slots) (fields_from (number + 1) ws) j f s)

behind_join : (xs ys : List Field) (f : Field) → Contains ys f → Contains (xs ++ ys) f
behind_join [] ys f c = c
behind_join (x ∷ xs) ys f c = let m = behind_join xs ys f c in (suc m.0, omega (arith, m.1), m.2)

in_map : (number : ℕ) (ps : List Placed) (i : ℕ) (p : Placed) → slice_get ps i ≡ Some p → slice_get (map (field_of number) ps) i ≡ Some (field_of number p)
in_map number ps i p s = slice_get-map (field_of number) ps i ∙ ap (option_map (field_of number)) s

-- a slot in a word has a field
pub has_its_field : (number : ℕ) (ws : List Open) (i : ℕ) (w : Open) (place : ℕ) (p : Placed) → slice_get ws i ≡ Some w → slice_get w.slots place ≡ Some p → Contains (fields_from number ws) (field_of (number + i) p)
has_its_field number [] i w place p s t = let f : None ≡ Some w = s in absurd (cc)
has_its_field number (v ∷ ws) zero w place p s t =
    let f : Some v ≡ Some w = s in
    let e : w ≡ v = cc in
    let u : slice_get v.slots place ≡ Some p = subst (λ (o : Open). slice_get o.slots place ≡ Some p) e t in
    let m = in_map number v.slots place p u in
    let fields = map (field_of number) v.slots in
    let z : number ≡ number + 0 = omega arith in
    subst (λ (k : ℕ). Contains (fields_from number (v ∷ ws)) (field_of k p)) z
    (Contains-append_left fields (fields_from (number + 1) ws) (field_of number p) (place, slice_get_within fields place (field_of number p) m, get_or_from_slice_get fields place (field_of number p) (field_of number p) m))
has_its_field number (v ∷ ws) (suc i) w place p s t =
    let z : number + 1 + i ≡ number + suc i = omega arith in
    behind_join (map (field_of number) v.slots) (fields_from (number + 1) ws) (field_of (number + suc i) p)
    (subst (λ (k : ℕ). Contains (fields_from (number + 1) ws) (field_of k p)) z (has_its_field (number + 1) ws i w place p s t))
