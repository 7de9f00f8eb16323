-- What is known of a static object by its layout under a plan: the slot whose home gave it, and where the plan puts that.
use Rattle.std.proofs.Common.{◌≡◌, ◌≤◌, ◌<◌, ◌+◌, ◌*◌, ◌/◌, ◌∙◌, ◌==◌, ◌⊎◌, inl, inr, nat_eq, nat_le, nat_lt, ℕ, zero, suc, Bool, true, false, if◌then◌else◌, List, [], ◌∷◌, length, Option, Some, None, option_map, option_and_then, slice_get, get_or, refl, ap, sym, subst, arith}
use Rattle.std.specs.Option.{option_map_or}
use Rattle.std.proofs.lemmas.Bool.Decides.{nat_tests}
use Rattle.std.proofs.lemmas.List.Quantifiers.{position-Some}
use Rattle.std.proofs.lemmas.Option.{get_or_from_slice_get, same_Some, slice_get-map}
use Rattle.cc_bins.specs.declared.types.Field.{Field}
use Rattle.cc_bins.specs.declared.types.Word.{Word}
use Rattle.cc_plan_legal.specs.declared.candidate.Candidate.{Candidate}
use Rattle.cc_plan_legal.specs.declared.candidate.Form.{Form}
use Rattle.cc_plan_legal.specs.declared.candidate.Form.TheVariants as form
use Rattle.cc_plan_legal.specs.declared.kinds.Plan.{Plan}
use Rattle.cc_plan_legal.specs.Candidates.{candidate_of, form_by}
use Rattle.cc_plan_legal.specs.Legal.{IsLegal, IsSeated}
use Rattle.cc_plan_legal.specs.Legality.{end_of, field_of, is_among}
use Rattle.cc_plan_legal.specs.Short.{element_bits}
use Rattle.cc_plan_legal.proofs.Options.{any_at, found}
use Rattle.cc_program.specs.declared.program.Program.{Program}
use Rattle.cc_rewrite_codes.specs.FirstValues.{each_in}
use Rattle.cc_rewrite_codes.specs.Homes.{Home, Fixed, InArray}
use Rattle.cc_rewrite_codes.specs.Placed.{code_of, first_array, first_value, home_of, home_of_slot, in_word, is_of, number_of_key, of_field, place_among, rank_of, type_of_slot, word_number}
use Rattle.cc_rewrite_homes.specs.Homes.{Field as Part}
use Rattle.cc_rewrite_layouts.specs.Layouts.{Same, One, InField, InElements, Nowhere}
use Rattle.cc_rewrite_placed_sound.specs.PlacedLayouts.{candidates_of, field_in, layout_at, layout_by, layout_of}
use Rattle.cc_slots_accesses.specs.Arrays.{is_array}
use Rattle.cc_slots_types.specs.declared.class.Class.{Class}
use Rattle.cc_slots_types.specs.declared.class.Class.TheVariants.{Lone, Read, Written}
use Rattle.cc_slots_types.specs.declared.slot.Slot.{Slot}
use Rattle.cc_slots_types.specs.Slots.{class_number, group_of}
use Rattle.cc_state_points.specs.CcStateFacts.declared.facts.Key.{Key}
use Rattle.cc_state_points.specs.CcStateFacts.declared.facts.Key.TheVariants as key
use Rattle.cc_state_points.specs.CcStateKeys.Keys.{is_key}

-- ---- numbers and tests

same_number : (a b : ℕ) → (a == b) ≡ true → a ≡ b
same_number a b h = grind (arith, nat_tests)

le_true : (a b : ℕ) → nat_le a b ≡ true → a ≤ b
le_true a b h = grind (arith, nat_tests)

lt_true : (a b : ℕ) → nat_lt a b ≡ true → a < b
lt_true a b h = grind (arith, nat_tests)

same_object : (i : ℕ) (k : Key) → is_key (key.Object i) k ≡ true → k ≡ key.Object i
same_object i (key.Object j) h = ap (λ n. key.Object n) (sym (same_number i j h))
same_object i (key.Local f r) h = absurd (cc)
same_object i (key.Member s m) h = absurd (cc)

class_small : (class : Class) → class_number class < 3
class_small Lone = omega arith
class_small Read = omega arith
class_small Written = omega arith

-- words of the group of an object are the program's
of_program : (group class : ℕ) → class < 3 → group ≡ 3 * 0 + class → nat_eq (group / 3) 0 ≡ true
of_program group class l e = let h : group / 3 ≡ 0 = omega arith in ap (λ (n : ℕ). nat_eq n 0) h

some_bits : (bits : ℕ) (b : Bool) (its : Form) → its ≡ form_by bits b → (its ≡ form.Const → ⊥) → 0 < bits
some_bits zero b its e h = absurd (h e)
some_bits (suc n) b its e h = omega arith

few : (bits : ℕ) → 0 < bits → bits ≤ 2 → 0 < each_in bits
few zero l m = absurd (omega arith)
few (suc zero) l m = omega arith
few (suc (suc zero)) l m = omega arith
few (suc (suc (suc n))) l m = absurd (omega arith)

each_some : (bits : ℕ) → 0 < bits → 0 < each_in (element_bits bits)
each_some bits l = by (nat_le bits 2) (nat_le bits 4) (nat_le bits 8) refl
  where
    by : (x y z : Bool) → nat_le bits 2 ≡ x → 0 < each_in (if x then bits else (if y then 4 else (if z then 8 else 16)))
    by true y z t = few bits l (le_true bits 2 t)
    by false true z t = omega arith
    by false false true t = omega arith
    by false false false t = omega arith

pub whole_bytes : (bits most : ℕ) → (bits ≡ 8) ⊎ ((bits ≡ 16) × (8 < most)) → 8 * (bits / 8) ≡ bits
whole_bytes bits most (inl e) = omega arith
whole_bytes bits most (inr (e, l)) = omega arith

module _ (slots : List Slot) (plan : Plan) (p : Program) where
  -- ---- the slot of an object

  pub record IsAt (i n : ℕ) (s : Slot) : Type 0 where
    pub there : slice_get slots n ≡ Some s
    pub key : s.key ≡ key.Object i

  is_at : (i n : ℕ) (s : Slot) → number_of_key slots plan p (key.Object i) ≡ Some n → slice_get slots n ≡ Some s → IsAt i n s
  is_at i n s e h =
      let passes = (position-Some (λ (x : Slot). is_key (key.Object i) x.key) slots n s e).1 in
      let same : get_or slots n s ≡ s = get_or_from_slice_get slots n s s h in
      record { there = h; key = same_object i s.key (subst (λ (x : Slot). is_key (key.Object i) x.key ≡ true) same passes) }

  pub record HasHome (i : ℕ) (h : Home) : Type 0 where
    pub number : ℕ
    pub slot : Slot
    pub at : IsAt i number slot
    pub home : home_of_slot slots plan p number slot ≡ Some h

  slot_step : (i n : ℕ) (h : Home) → number_of_key slots plan p (key.Object i) ≡ Some n → (o : Option Slot) → slice_get slots n ≡ o → option_and_then (home_of_slot slots plan p n) o ≡ Some h → HasHome i h
  slot_step i n h t None r e = let f : None ≡ Some h = e in absurd (cc)
  slot_step i n h t (Some s) r e = record { number = n; slot = s; at = is_at i n s t r; home = e }

  has_home : (i : ℕ) (h : Home) → home_of slots plan p (key.Object i) ≡ Some h → HasHome i h
  has_home i h e = by (number_of_key slots plan p (key.Object i)) refl e
    where
      by : (o : Option ℕ) → number_of_key slots plan p (key.Object i) ≡ o → option_and_then (λ n. option_and_then (home_of_slot slots plan p n) (slice_get slots n)) o ≡ Some h → HasHome i h
      by None t k = let f : None ≡ Some h = k in absurd (cc)
      by (Some n) t k = slot_step i n h t (slice_get slots n) refl k

  -- objects of one slot are one
  pub one_object : (i j n m : ℕ) (s r : Slot) → IsAt i n s → IsAt j m r → n ≡ m → i ≡ j
  one_object i j n m s r a b e =
      let same : s ≡ r = same_Some s r (sym a.there ∙ ap (slice_get slots) e ∙ b.there) in
      let k : key.Object i ≡ key.Object j = sym a.key ∙ ap (λ (x : Slot). x.key) same ∙ b.key in
      cc

  -- ---- in a word

  pub record IsField (i : ℕ) (part : Part) : Type 0 where
    pub number : ℕ
    pub slot : Slot
    pub at : IsAt i number slot
    pub field : Field
    pub found : field_of plan.fields number ≡ Some field
    pub word : Word
    pub word_there : slice_get plan.words field.word ≡ Some word
    pub home : home_of slots plan p (key.Object i) ≡ Some (in_word slots plan p field word slot)
    pub is : field_in (length p.objects + rank_of slots plan 0 field.word) (word.bits / 8) field.shift slot.bits ≡ part

  word_step : (i n : ℕ) (s : Slot) (part : Part) (f : Field) → IsAt i n s → field_of plan.fields n ≡ Some f → (o : Option Word) → slice_get plan.words f.word ≡ o →
      (h : Home) → home_of slots plan p (key.Object i) ≡ Some h → option_map (λ (w : Word). in_word slots plan p f w s) o ≡ Some h → layout_at h ≡ InField part → IsField i part
  word_step i n s part f at t None r h u e k = let g : None ≡ Some h = e in absurd (cc)
  word_step i n s part f at t (Some w) r h u e k =
      let same : in_word slots plan p f w s ≡ h = same_Some (in_word slots plan p f w s) h e in
      let laid : InField (field_in (word_number slots plan p s.key f.word) (w.bits / 8) f.shift s.bits) ≡ InField part = ap layout_at same ∙ k in
      let is : field_in (word_number slots plan p s.key f.word) (w.bits / 8) f.shift s.bits ≡ part = cc in
      record {
        number = n;
        slot = s;
        at = at;
        field = f;
        found = t;
        word = w;
        word_there = r;
        home = u ∙ ap (λ (x : Home). Some x) (sym same);
        is = ap (λ (x : Key). field_in (word_number slots plan p x f.word) (w.bits / 8) f.shift s.bits) (sym at.key) ∙ is;
      }

  field_step : (i n : ℕ) (s : Slot) (part : Part) → IsAt i n s → (o : Option Field) → field_of plan.fields n ≡ o →
      (h : Home) → home_of slots plan p (key.Object i) ≡ Some h → of_field slots plan p n s o ≡ Some h → layout_at h ≡ InField part → IsField i part
  field_step i n s part at None t h u e k = let g : None ≡ Some h = e in absurd (cc)
  field_step i n s part at (Some f) t h u e k = word_step i n s part f at t (slice_get plan.words f.word) refl h u e k

  abbrev fixed : Slot → Home
  fixed s = Fixed (type_of_slot slots plan p s) (first_value slots plan p s)

  abbrev packed : ℕ → Slot → Home
  packed n s = InArray (first_array slots plan p + place_among slots plan plan.arrays n) (element_bits s.bits) (code_of slots plan p (s ∷ []) n s)

  abbrev home_by : Bool → Bool → ℕ → Slot → Option Home
  home_by a b n s = if a then Some (fixed s) else (if b then Some (packed n s) else of_field slots plan p n s (field_of plan.fields n))

  home_field : (i n : ℕ) (s : Slot) (part : Part) → IsAt i n s → (a b : Bool) → (h : Home) → home_of slots plan p (key.Object i) ≡ Some h → home_by a b n s ≡ Some h → layout_at h ≡ InField part → IsField i part
  home_field i n s part at true b h u e k =
      let same : fixed s ≡ h = same_Some (fixed s) h e in
      let laid : One (first_value slots plan p s) ≡ InField part = ap layout_at same ∙ k in
      absurd (cc)
  home_field i n s part at false true h u e k =
      let same : packed n s ≡ h = same_Some (packed n s) h e in
      let laid : InElements (first_array slots plan p + place_among slots plan plan.arrays n) (each_in (element_bits s.bits)) (element_bits s.bits) ≡ InField part = ap layout_at same ∙ k in
      absurd (cc)
  home_field i n s part at false false h u e k = field_step i n s part at (field_of plan.fields n) refl h u e k

  pub by_field : (i : ℕ) (part : Part) (o : Option Home) → home_of slots plan p (key.Object i) ≡ o → layout_by o ≡ InField part → IsField i part
  by_field i part None t k = let g : Same ≡ InField part = k in absurd (cc)
  by_field i part (Some h) t k =
      let has = has_home i h t in
      home_field i has.number has.slot part has.at (is_among plan.consts has.number) (is_among plan.arrays has.number) h t has.home k

  pub is_field : (i : ℕ) (part : Part) → layout_of slots plan p i ≡ InField part → IsField i part
  is_field i part e = by (nat_lt i (length p.objects)) e
    where
      by : (b : Bool) → (if b then layout_by (home_of slots plan p (key.Object i)) else Nowhere) ≡ InField part → IsField i part
      by true k = by_field i part (home_of slots plan p (key.Object i)) refl k
      by false k = let g : Nowhere ≡ InField part = k in absurd (cc)

  -- ---- in an array

  pub record IsPacked (i object count bits : ℕ) : Type 0 where
    pub number : ℕ
    pub slot : Slot
    pub at : IsAt i number slot
    pub among : is_among plan.arrays number ≡ true
    pub object_is : first_array slots plan p + place_among slots plan plan.arrays number ≡ object
    pub count_is : each_in (element_bits slot.bits) ≡ count
    pub bits_is : element_bits slot.bits ≡ bits

  module _ (i object count bits : ℕ) where
    no_word : (n : ℕ) (s : Slot) (f : Field) (o : Option Word) (h : Home) → option_map (λ (w : Word). in_word slots plan p f w s) o ≡ Some h → layout_at h ≡ InElements object count bits → ⊥
    no_word n s f None h e k = let g : None ≡ Some h = e in absurd (cc)
    no_word n s f (Some w) h e k =
        let same : in_word slots plan p f w s ≡ h = same_Some (in_word slots plan p f w s) h e in
        let laid : InField (field_in (word_number slots plan p s.key f.word) (w.bits / 8) f.shift s.bits) ≡ InElements object count bits = ap layout_at same ∙ k in
        absurd (cc)

    no_field : (n : ℕ) (s : Slot) (o : Option Field) (h : Home) → of_field slots plan p n s o ≡ Some h → layout_at h ≡ InElements object count bits → ⊥
    no_field n s None h e k = let g : None ≡ Some h = e in absurd (cc)
    no_field n s (Some f) h e k = no_word n s f (slice_get plan.words f.word) h e k

    home_packed : (n : ℕ) (s : Slot) → IsAt i n s → (a b : Bool) → is_among plan.arrays n ≡ b → (h : Home) → home_by a b n s ≡ Some h → layout_at h ≡ InElements object count bits → IsPacked i object count bits
    home_packed n s at true b t h e k =
        let same : fixed s ≡ h = same_Some (fixed s) h e in
        let laid : One (first_value slots plan p s) ≡ InElements object count bits = ap layout_at same ∙ k in
        absurd (cc)
    home_packed n s at false true t h e k =
        let same : packed n s ≡ h = same_Some (packed n s) h e in
        let laid : InElements (first_array slots plan p + place_among slots plan plan.arrays n) (each_in (element_bits s.bits)) (element_bits s.bits) ≡ InElements object count bits = ap layout_at same ∙ k in
        record { number = n; slot = s; at = at; among = t; object_is = cc; count_is = cc; bits_is = cc }
    home_packed n s at false false t h e k = absurd (no_field n s (field_of plan.fields n) h e k)

    pub by_packed : (o : Option Home) → home_of slots plan p (key.Object i) ≡ o → layout_by o ≡ InElements object count bits → IsPacked i object count bits
    by_packed None t k = let g : Same ≡ InElements object count bits = k in absurd (cc)
    by_packed (Some h) t k =
        let has = has_home i h t in
        home_packed has.number has.slot has.at (is_among plan.consts has.number) (is_among plan.arrays has.number) refl h has.home k

    pub is_packed : layout_of slots plan p i ≡ InElements object count bits → IsPacked i object count bits
    is_packed e = by (nat_lt i (length p.objects)) e
      where
        by : (b : Bool) → (if b then layout_by (home_of slots plan p (key.Object i)) else Nowhere) ≡ InElements object count bits → IsPacked i object count bits
        by true k = by_packed (home_of slots plan p (key.Object i)) refl k
        by false k = let g : Nowhere ≡ InElements object count bits = k in absurd (cc)

  -- ---- as it is

  pub is_within : (i : ℕ) → layout_of slots plan p i ≡ Same → i < length p.objects
  is_within i e = by (nat_lt i (length p.objects)) refl e
    where
      by : (b : Bool) → nat_lt i (length p.objects) ≡ b → (if b then layout_by (home_of slots plan p (key.Object i)) else Nowhere) ≡ Same → i < length p.objects
      by true t k = lt_true i (length p.objects) t
      by false t k = let g : Nowhere ≡ Same = k in absurd (cc)

  -- ---- what the rules of plans say of it

  module _ (legal : IsLegal (candidates_of p slots) plan) where
    seen : (n : ℕ) (s : Slot) → slice_get slots n ≡ Some s → slice_get (candidates_of p slots) n ≡ Some (candidate_of s (is_array p s.key))
    seen n s e =
        slice_get-map (λ (slot : Slot). candidate_of slot (is_array p slot.key)) slots n
        ∙ ap (option_map (λ (slot : Slot). candidate_of slot (is_array p slot.key))) e

    pub record IsSeatedField (i : ℕ) (part : Part) (a : IsField i part) : Type 0 where
      pub place : ℕ
      pub stands : slice_get plan.fields place ≡ Some a.field
      pub slot : a.field.slot ≡ a.number
      pub seated : IsSeated (candidates_of p slots) plan.fields (candidate_of a.slot (is_array p a.slot.key)) a.field a.word
      pub end : end_of (candidates_of p slots) a.field ≡ a.field.shift + a.slot.bits
      pub some : 0 < a.slot.bits
      pub owned : is_of slots plan 0 a.word ≡ true

    pub seated_field : (i : ℕ) (part : Part) (a : IsField i part) → IsSeatedField i part a
    seated_field i part a =
        let there = found (λ (g : Field). g.slot == a.number) plan.fields a.field a.found in
        let its : a.field.slot ≡ a.number = same_number a.field.slot a.number there.passes in
        let at_number = seen a.number a.slot a.at.there in
        let at_slot : slice_get (candidates_of p slots) a.field.slot ≡ Some (candidate_of a.slot (is_array p a.slot.key)) = ap (slice_get (candidates_of p slots)) its ∙ at_number in
        let seat = legal.seated there.place a.field (candidate_of a.slot (is_array p a.slot.key)) a.word there.there at_slot a.word_there in
        let in_list = any_at (λ (g : Field). g.slot == a.number) plan.fields there.place a.field there.there there.passes in
        let as_field = legal.in_form a.number (candidate_of a.slot (is_array p a.slot.key)) form.Field at_number in_list in
        record {
          place = there.place;
          stands = there.there;
          slot = its;
          seated = seat;
          end = ap (λ (o : Option Candidate). a.field.shift + option_map_or (λ (c : Candidate). c.bits) o 0) at_slot;
          some = some_bits a.slot.bits (is_array p a.slot.key) form.Field as_field (λ (e : form.Field ≡ form.Const). absurd (cc));
          owned = of_program a.word.group (class_number a.slot.class) (class_small a.slot.class) (seat.of_group ∙ ap (λ (k : Key). group_of k a.slot.class) a.at.key);
        }

    pub some_elements : (i object count bits : ℕ) → IsPacked i object count bits → 0 < count
    some_elements i object count bits a =
        let as_array = legal.in_form a.number (candidate_of a.slot (is_array p a.slot.key)) form.Array (seen a.number a.slot a.at.there) a.among in
        subst (λ (n : ℕ). 0 < n) a.count_is (each_some a.slot.bits (some_bits a.slot.bits (is_array p a.slot.key) form.Array as_array (λ (e : form.Array ≡ form.Const). absurd (cc))))
