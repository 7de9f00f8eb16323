-- What putting a slot keeps of the words: each is packed, and the slot goes into the first with room.
use Rattle.std.proofs.Common.{◌≡◌, ◌≤◌, ◌<◌, ◌+◌, ◌/◌, ◌++◌, ◌==◌, ◌&&◌, ◌⊎◌, inl, inr, ℕ, Bool, true, false, nat_le, if◌then◌else◌, List, [], ◌∷◌, fold, filter, sum_by, refl, ap, sym, subst, arith, All}
use Rattle.std.proofs.lemmas.Bool.{ltb-true}
use Rattle.std.proofs.lemmas.Bool.Decides.{nat_tests}
use Rattle.std.proofs.lemmas.List.Elements.{All-nil, All-cons, All-head, All-tail, All-push, All-weaker, filter_passes}
use Rattle.cc_bins.specs.declared.types.Want.{Want}
use Rattle.cc_bins.specs.declared.open_words.Open.{Open}
use Rattle.cc_bins.specs.declared.open_words.Placed.{Placed}
use Rattle.cc_bins.specs.Examples.{four, one_word}
use Rattle.cc_bins.specs.Packed.{HasNoRoom, GoesFirst, Joins, Opens, Follow, IsPacked}
use Rattle.cc_bins.specs.Placing.{has_room, with_slot, opened, placed_at, put, opens, saves, bins_of}
use Rattle.cc_bins.proofs.Rooms.{room_is, put_yes, put_no}

Follow-push : (from to : ℕ) (ps : List Placed) (x : Want) → Follow from ps to → Follow from (ps ++ placed_at to x ∷ []) (to + x.bits)
Follow-push from to [] x h = (sym h, ap (λ n. n + x.bits) h)
Follow-push from to (p ∷ ps) x h = (h.0, Follow-push (from + p.want.bits) to ps x h.1)

module _ (x : Want) where
  abbrev Same : ℕ → Placed → Type 0
  Same group p = p.want.group ≡ group

  packed_with : (w : Open) → IsPacked w → has_room x.group x.bits w ≡ true → IsPacked (with_slot w x)
  packed_with w h e =
      let room = room_is x.group x.bits w e in
      record {
        of_group = All-push (Same w.group) w.slots (placed_at w.used x) h.of_group (sym room.0);
        apart = Follow-push 0 w.used w.slots x h.apart;
        within = room.1;
        sized = h.sized;
      }

  abbrev chosen : Bool → ℕ
  chosen b = if b then 8 else 16

  size_of : (n : ℕ) → n ≤ 16 → (b : Bool) → nat_le n 8 ≡ b → (n ≤ chosen b) × ((chosen b ≡ 8) ⊎ (chosen b ≡ 16))
  size_of n h true e = (small n e, inl refl)
    where
      small : (n : ℕ) → nat_le n 8 ≡ true → n ≤ 8
      small n e = grind (arith, nat_tests)
  size_of n h false e = (h, inr refl)

  packed_new : x.bits ≤ 16 → IsPacked (opened x)
  packed_new h =
      let s = size_of x.bits h (nat_le x.bits 8) refl in
      record {
        of_group = All-cons (Same x.group) (placed_at 0 x) [] refl (All-nil (Same x.group));
        apart = (refl, let e : 0 + x.bits ≡ x.bits = omega arith in e);
        within = s.0;
        sized = s.1;
      }

  packed_step : (w : Open) (ws : List Open) → All IsPacked (w ∷ ws) → All IsPacked (put ws x) → (b : Bool) → has_room x.group x.bits w ≡ b → All IsPacked (put (w ∷ ws) x)
  packed_step w ws h more true e = subst (All IsPacked) (sym (put_yes x w ws e)) (All-cons IsPacked (with_slot w x) ws (packed_with w (All-head IsPacked w ws h) e) (All-tail IsPacked w ws h))
  packed_step w ws h more false e = subst (All IsPacked) (sym (put_no x w ws e)) (All-cons IsPacked w (put ws x) (All-head IsPacked w ws h) more)

  packed-put : x.bits ≤ 16 → (ws : List Open) → All IsPacked ws → All IsPacked (put ws x)
  packed-put k [] h = All-cons IsPacked (opened x) [] (packed_new k) (All-nil IsPacked)
  packed-put k (w ∷ ws) h = packed_step w ws h (packed-put k ws (All-tail IsPacked w ws h)) (has_room x.group x.bits w) refl

  has_no_room : (w : Open) → has_room x.group x.bits w ≡ false → HasNoRoom x w
  has_no_room w e = λ h. no_parts w.group (w.used + x.bits) w.bits e h.of_group h.bits
    where
      no_parts : (a n m : ℕ) → ((a == x.group) && nat_le n m) ≡ false → a ≡ x.group → n ≤ m → ⊥
      no_parts a n m e f l = grind (arith, nat_tests)

  behind : (w : Open) → HasNoRoom x w → (ws us : List Open) → GoesFirst x ws us → GoesFirst x (w ∷ ws) (w ∷ us)
  behind w n _ _ (Joins before v rest none room) = Joins (w ∷ before) v rest (All-cons (HasNoRoom x) w before n none) room
  behind w n _ _ (Opens words none) = Opens (w ∷ words) (All-cons (HasNoRoom x) w words n none)

  first_step : (w : Open) (ws : List Open) → GoesFirst x ws (put ws x) → (b : Bool) → has_room x.group x.bits w ≡ b → GoesFirst x (w ∷ ws) (put (w ∷ ws) x)
  first_step w ws h true e =
      let room = room_is x.group x.bits w e in
      subst (GoesFirst x (w ∷ ws)) (sym (put_yes x w ws e)) (Joins [] w ws (All-nil (HasNoRoom x)) (record { of_group = room.0; bits = room.1 }))
  first_step w ws h false e = subst (GoesFirst x (w ∷ ws)) (sym (put_no x w ws e)) (behind w (has_no_room w e) ws (put ws x) h)

  pub goes_first : (words : List Open) → GoesFirst x words (put words x)
  goes_first [] = Opens [] (All-nil (HasNoRoom x))
  goes_first (w ∷ ws) = first_step w ws (goes_first ws) (has_room x.group x.bits w) refl

packed-fold : (order : List Want) → All (λ x. x.bits ≤ 16) order → (ws : List Open) → All IsPacked ws → All IsPacked (fold put ws order)
packed-fold [] h ws k = k
packed-fold (x ∷ order) h ws k = packed-fold order (All-tail (λ (y : Want). y.bits ≤ 16) x order h) (put ws x) (packed-put x (All-head (λ (y : Want). y.bits ≤ 16) x order h) ws k)

pub all_packed : (order : List Want) → All (λ x. x.bits ≤ 16) order → All IsPacked (opens order)
all_packed order h = packed-fold order h [] (All-nil IsPacked)

pub all_save : (words : List Open) → All (λ word. word.bits / 8 < sum_by (λ placed. placed.want.bytes) word.slots) (filter saves words)
all_save words = All-weaker (λ (w : Open). saves w ≡ true) (λ w. w.bits / 8 < sum_by (λ (p : Placed). p.want.bytes) w.slots) (λ w e. ltb-true (w.bits / 8) (sum_by (λ (p : Placed). p.want.bytes) w.slots) e) (filter saves words) (filter_passes saves words)

pub four_placed : bins_of (opens four) ≡ one_word
four_placed = refl
