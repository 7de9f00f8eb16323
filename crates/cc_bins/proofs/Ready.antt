-- Where the search may begin for the slot that comes next, as slots come in order.
use Rattle.std.proofs.Common.{◌≡◌, ◌≤◌, ◌<◌, ◌+◌, ◌^◌, ◌==◌, ℕ, Bool, true, false, if◌then◌else◌, List, [], ◌∷◌, length, get_or, take, refl, ap, sym, ◌∙◌, subst, All, arith, IsSorted}
use Rattle.std.specs.declared.cmp.Ordering.{Ordering}
use Rattle.std.specs.Ordering.{is_lt, nat_cmp, ordering_then}
use Rattle.std.proofs.lemmas.Bool.Decides.{nat_tests}
use Rattle.std.proofs.lemmas.List.Elements.{All-nil, All-cons, All-head, All-tail, All-weaker, All-more}
use Rattle.std.proofs.lemmas.List.{get_or_default}
use Rattle.std.proofs.lemmas.List.Sums.{fold_more}
use Rattle.cc_bins.specs.declared.types.Want.{Want}
use Rattle.cc_bins.specs.declared.open_words.Open.{Open}
use Rattle.cc_bins.specs.declared.placing.Cursor.{Cursor}
use Rattle.cc_bins.specs.Placing.{place_order, has_room, with_slot, opened, put, opens}
use Rattle.cc_bins.specs.Search.{first, room_at, moved_to}
use Rattle.cc_bins.proofs.Rooms.{first_yes, first_no, first_none, first_later, room_is, put_yes, put_no}

abbrev pub of_group : ℕ → Open → Bool
of_group group w = w.group == group

-- no word before the cursor has room for its bits, and none before its start is of its group, nor of a later one anywhere
pub record Ready (words : List Open) (c : Cursor) : Type 0 where
  pub start : c.start ≤ first (of_group c.group) words
  pub at : c.at ≤ first (has_room c.group c.bits) words
  pub groups : All (λ w. w.group ≤ c.group) words

pub ready_none : Ready [] (record { group = 0; bits = 0; start = 0; at = 0 })
ready_none = record { start = omega arith; at = omega arith; groups = All-nil (λ (w : Open). w.group ≤ 0) }

room_of_group : (group bits : ℕ) (w : Open) → has_room group bits w ≡ true → of_group group w ≡ true
room_of_group group bits w h = let e = (room_is group bits w h).0 in grind (arith, nat_tests)

-- what a cursor is for the slot that comes next
pub record Begins (words : List Open) (c : Cursor) (x : Want) : Type 0 where
  pub group : c.group ≡ x.group
  pub bits : c.bits ≡ x.bits
  pub start : c.start ≤ first (of_group x.group) words
  pub at : c.at ≤ room_at x words

other_group : (g : ℕ) (words : List Open) (h : ℕ) → g < h → All (λ w. w.group ≤ g) words → All (λ w. of_group h w ≡ false) words
other_group g words h l all = All-weaker (λ (w : Open). w.group ≤ g) (λ w. of_group h w ≡ false) (λ w k. apart w.group k) words all
  where
    apart : (n : ℕ) → n ≤ g → (n == h) ≡ false
    apart n k = grind (arith, nat_tests)

module _ (words : List Open) (c : Cursor) (x : Want) (ready : Ready words c) (rises : c.group ≤ x.group) where
  abbrev next : Cursor
  next = moved_to c x (length words)

  later_room : first (of_group x.group) words ≤ room_at x words
  later_room = first_later (of_group x.group) (has_room x.group x.bits) (room_of_group x.group x.bits) words

  begins_bits : c.group ≡ x.group → (b : Bool) → (c.bits == x.bits) ≡ b → Begins words (if b then c else record { group = x.group; bits = x.bits; start = c.start; at = c.start }) x
  begins_bits e true t =
      let f : c.bits ≡ x.bits = grind (arith, nat_tests) in
      record {
        group = e;
        bits = f;
        start = subst (λ g. c.start ≤ first (of_group g) words) e ready.start;
        at = subst (λ g. c.at ≤ first (has_room g x.bits) words) e (subst (λ n. c.at ≤ first (has_room c.group n) words) f ready.at);
      }
  begins_bits e false t =
      let s : c.start ≤ first (of_group x.group) words = subst (λ g. c.start ≤ first (of_group g) words) e ready.start in
      record { group = refl; bits = refl; start = s; at = omega (arith, later_room) }

  begins_group : (b : Bool) → (c.group == x.group) ≡ b
      → Begins words (if b then (if c.bits == x.bits then c else record { group = x.group; bits = x.bits; start = c.start; at = c.start }) else record { group = x.group; bits = x.bits; start = length words; at = length words }) x
  begins_group true t = let e : c.group ≡ x.group = grind (arith, nat_tests) in begins_bits e (c.bits == x.bits) refl
  begins_group false t =
      let l : c.group < x.group = grind (arith, nat_tests) in
      let n = first_none (of_group x.group) words (other_group c.group words x.group l ready.groups) in
      record { group = refl; bits = refl; start = omega (arith, n); at = omega (arith, n, later_room) }

  pub begins : Begins words next x
  begins = begins_group (c.group == x.group) refl

-- what stays when a slot is put
module _ (x : Want) where
  abbrev room : Open → Bool
  room w = has_room x.group x.bits w

  group_step : (w : Open) (ws : List Open) → first (of_group x.group) ws ≤ first (of_group x.group) (put ws x) → (b c : Bool) → room w ≡ b → of_group x.group w ≡ c
      → first (of_group x.group) (w ∷ ws) ≤ first (of_group x.group) (put (w ∷ ws) x)
  group_step w ws h true c e f =
      let t = room_of_group x.group x.bits w e in
      omega (arith, first_yes (of_group x.group) w ws t)
  group_step w ws h false true e f = omega (arith, first_yes (of_group x.group) w ws f)
  group_step w ws h false false e f =
      let p = ap (first (of_group x.group)) (put_no x w ws e) in
      omega (arith, p, first_no (of_group x.group) w ws f, first_no (of_group x.group) w (put ws x) f)

  group_stays : (ws : List Open) → first (of_group x.group) ws ≤ first (of_group x.group) (put ws x)
  group_stays [] = omega arith
  group_stays (w ∷ ws) = group_step w ws (group_stays ws) (room w) (of_group x.group w) refl refl

  room_step : (w : Open) (ws : List Open) → room_at x ws ≤ room_at x (put ws x) → (b : Bool) → room w ≡ b → room_at x (w ∷ ws) ≤ room_at x (put (w ∷ ws) x)
  room_step w ws h true e = omega (arith, first_yes room w ws e)
  room_step w ws h false e =
      let p = ap (first room) (put_no x w ws e) in
      omega (arith, p, first_no room w ws e, first_no room w (put ws x) e)

  room_stays : (ws : List Open) → room_at x ws ≤ room_at x (put ws x)
  room_stays [] = omega arith
  room_stays (w ∷ ws) = room_step w ws (room_stays ws) (room w) refl

  abbrev Low : Open → Type 0
  Low w = w.group ≤ x.group

  low_step : (w : Open) (ws : List Open) → All Low (w ∷ ws) → All Low (put ws x) → (b : Bool) → room w ≡ b → All Low (put (w ∷ ws) x)
  low_step w ws h k true e = subst (All Low) (sym (put_yes x w ws e)) (All-cons Low (with_slot w x) ws (All-head Low w ws h) (All-tail Low w ws h))
  low_step w ws h k false e = subst (All Low) (sym (put_no x w ws e)) (All-cons Low w (put ws x) (All-head Low w ws h) k)

  low_stays : (ws : List Open) → All Low ws → All Low (put ws x)
  low_stays [] h = All-cons Low (opened x) [] (omega arith) (All-nil Low)
  low_stays (w ∷ ws) h = low_step w ws h (low_stays ws (All-tail Low w ws h)) (room w) refl

  pub ready_more : (words : List Open) (c : Cursor) → c.group ≤ x.group → All (λ w. w.group ≤ c.group) words → (n : Cursor) → Begins words n x → Ready (put words x) (record { group = n.group; bits = n.bits; start = n.start; at = room_at x words })
  ready_more words c rises groups n b = record {
    start = subst (λ g. n.start ≤ first (of_group g) (put words x)) (sym b.group) (let h = group_stays words in let s = b.start in omega arith);
    at =
        subst (λ g. room_at x words ≤ first (has_room g n.bits) (put words x)) (sym b.group)
        (subst (λ m. room_at x words ≤ first (has_room x.group m) (put words x)) (sym b.bits) (room_stays words));
    groups = subst (λ g. All (λ w. w.group ≤ g) (put words x)) (sym b.group) (low_stays words (All-weaker (λ (w : Open). w.group ≤ c.group) Low (λ w k. omega arith) words groups));
  }

-- the words of the first i slots, and the cursor for the one that comes next
pub record Filled (order : List Want) (i : ℕ) (words : List Open) (c : Cursor) : Type 0 where
  pub are : words ≡ opens (take i order)
  pub ready : Ready words c
  pub rises : (d : Want) → i < length order → c.group ≤ (get_or order i d).group
  pub slots : All (λ x. x.slot < 2 ^ 32) (take i order)

group_rises : (x y : Want) → is_lt (place_order y x) ≡ false → x.group ≤ y.group
group_rises x y h = rises_by x.group y.group (nat_cmp x.bits y.bits) (nat_cmp y.slot x.slot) h
  where
    rises_by : (m n : ℕ) (o p : Ordering) → is_lt (ordering_then (ordering_then (nat_cmp n m) o) p) ≡ false → m ≤ n
    rises_by m n o p h = grind (arith, nat_tests)

pub filled_none : (order : List Want) → Filled order 0 [] (record { group = 0; bits = 0; start = 0; at = 0 })
filled_none order = record { are = refl; ready = ready_none; rises = λ d l. omega arith; slots = All-nil (λ (x : Want). x.slot < 2 ^ 32) }

-- where the search begins for the slot that comes next
pub filled_begins : (order : List Want) (i : ℕ) (words : List Open) (c : Cursor) (x : Want) → i < length order → x ≡ get_or order i x → Filled order i words c → (n : Cursor) → n ≡ moved_to c x (length words) → n.at ≤ room_at x words
filled_begins order i words c x l e f n m =
    let rises : c.group ≤ x.group = subst (λ (y : Want). c.group ≤ y.group) (sym e) (f.rises x l) in
    subst (λ (k : Cursor). k.at ≤ room_at x words) (sym m) (begins words c x f.ready rises).at

pub filled_more : (order : List Want) → IsSorted place_order order → (i : ℕ) (words : List Open) (c : Cursor) (x : Want) → i < length order → x ≡ get_or order i x → x.slot < 2 ^ 32
    → Filled order i words c → (n : Cursor) → n ≡ moved_to c x (length words) → (more : List Open) → more ≡ put words x
    → Filled order (i + 1) more (record { group = n.group; bits = n.bits; start = n.start; at = room_at x words })
filled_more order up i words c x l e small f n m more p =
    let rises : c.group ≤ x.group = subst (λ (y : Want). c.group ≤ y.group) (sym e) (f.rises x l) in
    let b : Begins words n x = subst (λ k. Begins words k x) (sym m) (begins words c x f.ready rises) in
    record {
      are = p ∙ ap (λ ws. put ws x) f.are ∙ ap (put (opens (take i order))) e ∙ sym (fold_more put [] order i x l);
      ready = subst (λ ws. Ready ws (record { group = n.group; bits = n.bits; start = n.start; at = room_at x words })) (sym p) (ready_more x words c rises f.ready.groups n b);
      rises =
          λ d k.
          let h : (get_or order i d).group ≤ (get_or order (i + 1) d).group = group_rises (get_or order i d) (get_or order (i + 1) d) (up i d (omega arith) k) in
          let s : (get_or order i d).group ≡ x.group = ap (λ (y : Want). y.group) (get_or_default order i d x l ∙ sym e) in
          let g : n.group ≡ x.group = b.group in
          omega (arith, h, s, g);
      slots = All-more (λ (y : Want). y.slot < 2 ^ 32) order i x l f.slots (subst (λ (y : Want). y.slot < 2 ^ 32) e small);
    }
