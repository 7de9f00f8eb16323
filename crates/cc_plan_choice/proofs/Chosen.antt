-- The lists of a choice are those of a plan, and the plan is legal.
use Rattle.std.proofs.Common.{◌≡◌, ◌≢◌, ◌≤◌, ◌<◌, ◌+◌, ◌/◌, ◌∙◌, ◌==◌, ◌&&◌, ◌⊎◌, inl, inr, ⊎_elim, nat_le, nat_lt, ℕ, zero, suc, Bool, true, false, cond, List, [], ◌∷◌, length, get_or, filter, map, sum_by, count_by, All, Contains, IsPermutation, IsSorted, Option, Some, None, option_map, slice_get, refl, ap, sym, subst, arith}
use Rattle.std.specs.List.{list_all, list_any}
use Rattle.std.specs.Option.{is_none, option_map_or}
use Rattle.std.specs.Ordering.{is_lt, nat_cmp}
use Rattle.std.proofs.lemmas.Bool.Decides.{nat_tests}
use Rattle.std.proofs.lemmas.List.{length-map}
use Rattle.std.proofs.lemmas.List.Elements.{All-nil, All-cons, All-push, All-get_or, All-filter, All-weaker}
use Rattle.std.proofs.lemmas.List.Sorted.{All-permutation, Contains-permutation, IsPermutation-sym, sum_by-IsPermutation}
use Rattle.std.proofs.lemmas.List.Sums.{sum_by-cons}
use Rattle.std.proofs.lemmas.Option.{slice_get-map, slice_get_within, get_or_from_slice_get}
use Rattle.cc_bins.specs.declared.types.Bins.{Bins}
use Rattle.cc_bins.specs.declared.types.Field.{Field}
use Rattle.cc_bins.specs.declared.types.Want.{Want}
use Rattle.cc_bins.specs.declared.types.Word.{Word}
use Rattle.cc_bins.specs.declared.open_words.Open.{Open}
use Rattle.cc_bins.specs.declared.open_words.Placed.{Placed}
use Rattle.cc_bins.specs.Packed.{IsPacked}
use Rattle.cc_bins.specs.Placing.{field_of, fields_from, opens, placed_at, saves, word_of, IsPlacing}
use Rattle.cc_bins.proofs.PackedLaws.{all_packed, all_save}
use Rattle.cc_cost_ranking.specs.declared.types.Budgets.{Budgets}
use Rattle.cc_cost_ranking.specs.declared.types.Costed.{Costed}
use Rattle.cc_cost_ranking.specs.declared.types.Weights.{Weights}
use Rattle.cc_cost_ranking.specs.Ranking.{IsRanking}
use Rattle.cc_plan_choice.specs.declared.fate.Fate.{Fate}
use Rattle.cc_plan_choice.specs.declared.fate.Fate.TheVariants as fate
use Rattle.cc_plan_choice.specs.Choice.{AreOffers, IsChoice}
use Rattle.cc_plan_choice.specs.Fates.{fate_by, fate_number, has_fate, slots_with, wants_from}
use Rattle.cc_plan_choice.proofs.Bytes.{bytes_of_word, bytes_permuted, no_more, HasBytes}
use Rattle.cc_plan_choice.proofs.FateCases.{in_lists, stands_array, stands_const, stands_free, stands_once}
use Rattle.cc_plan_choice.proofs.Numbers.{among_numbers, ascends_numbers}
use Rattle.cc_plan_choice.proofs.Taken.{is_free, is_in, place_in, was_offered}
use Rattle.cc_plan_choice.proofs.Wanted.{all_wants, IsWant}
use Rattle.cc_plan_choice.proofs.Words.{ends_within, has_its_field, its_place, large_more, large_new, no_shared_bit, opens_keep, HasLarge, IsPlaced}
use Rattle.cc_plan_legal.specs.declared.candidate.Candidate.{Candidate}
use Rattle.cc_plan_legal.specs.declared.candidate.Form.{Form}
use Rattle.cc_plan_legal.specs.declared.candidate.Form.TheVariants as form
use Rattle.cc_plan_legal.specs.declared.kinds.Plan.{Plan}
use Rattle.cc_plan_legal.specs.declared.parts.Parts.{Parts}
use Rattle.cc_plan_legal.specs.Candidates.{bits_of}
use Rattle.cc_plan_legal.specs.Legal.{HasBit, IsSeated}
use Rattle.cc_plan_legal.specs.Legality.{bytes_in, end_of, first_illegal, is_among, most_bits, stands_as, times}
use Rattle.cc_plan_legal.specs.Parts.{is_plan, HasParts}
use Rattle.cc_plan_legal.specs.Plans.{are_in, are_used, ascends, ascends_from, slots_of}
use Rattle.cc_plan_legal.specs.Short.{AreShort, IsShort}
use Rattle.cc_plan_legal.proofs.IndexLemmas.{among_slots}
use Rattle.cc_plan_legal.proofs.LegalLaws.{is_legal}
use Rattle.cc_plan_legal.proofs.Options.{any_at, any_passes}

same_true : (a b : ℕ) → (a == b) ≡ true → a ≡ b
same_true a b h = grind (arith, nat_tests)

is_same : (a b : ℕ) → a ≡ b → (a == b) ≡ true
is_same a b h = grind (arith, nat_tests)

is_le : (a b : ℕ) → a ≤ b → nat_le a b ≡ true
is_le a b h = grind (arith, nat_tests)

is_below : (a b : ℕ) → a < b → nat_lt a b ≡ true
is_below a b h = grind (arith, nat_tests)

no_less : (a b : ℕ) → is_lt (nat_cmp b a) ≡ false → a ≤ b
no_less a b h = grind (arith, nat_tests)

both : (p q : Bool) → p ≡ true → q ≡ true → p && q ≡ true
both true q e h = h
both false q e h = absurd (cc)

at_place : {X : Type 0} (P : X → Type 0) (xs : List X) (j : ℕ) (x : X) → All P xs → slice_get xs j ≡ Some x → P x
at_place P xs j x h s = subst P (get_or_from_slice_get xs j x x s) (All-get_or P xs j x (slice_get_within xs j x s) h)

one_value : {X : Type 0} (o : Option X) (x y : X) → o ≡ Some x → o ≡ Some y → x ≡ y
one_value o x y e f = let k : Some x ≡ Some y = sym e ∙ f in cc

-- ---- fields in order of their slots

Once : List Field → Type 0
Once fields = (slot : ℕ) → count_by (λ (f : Field). f.slot == slot) fields ≤ 1

once_tail : (f : Field) (fields : List Field) → Once (f ∷ fields) → Once fields
unfolding Once
once_tail f fields h = λ slot. let a = sum_by-cons (λ (g : Field). cond (g.slot == slot) 1 0) f fields in let b = h slot in omega (arith, a, b)

sorted_tail : (f : Field) (fields : List Field) → IsSorted (λ (x y : Field). nat_cmp x.slot y.slot) (f ∷ fields) → IsSorted (λ (x y : Field). nat_cmp x.slot y.slot) fields
sorted_tail f fields h = λ k d z l.
    let e : suc k + 1 ≡ suc (k + 1) = omega arith in
    subst (λ (n : ℕ). is_lt (nat_cmp (get_or (f ∷ fields) n d).slot (get_or fields k d).slot) ≡ false) e (h (suc k) d (omega arith) (omega arith))

other_slot : (f g : Field) (fields : List Field) → Once (f ∷ g ∷ fields) → f.slot ≡ g.slot → ⊥
unfolding Once
other_slot f g fields h e =
    let a = sum_by-cons (λ (x : Field). cond (x.slot == f.slot) 1 0) f (g ∷ fields) in
    let b = sum_by-cons (λ (x : Field). cond (x.slot == f.slot) 1 0) g fields in
    let c = h f.slot in
    let here = ap {B = ℕ} (λ (t : Bool). cond t 1 0) (is_same f.slot f.slot refl) in
    let there = ap {B = ℕ} (λ (t : Bool). cond t 1 0) (is_same g.slot f.slot (sym e)) in
    absurd (omega (arith, a, b, c, here, there))

slots_ascend : (least : ℕ) (f : Field) (fields : List Field) → least ≤ f.slot → IsSorted (λ (x y : Field). nat_cmp x.slot y.slot) (f ∷ fields) → Once (f ∷ fields) → ascends_from least (slots_of (f ∷ fields)) ≡ true
slots_ascend least f [] l h o = both (nat_le least f.slot) true (is_le least f.slot l) refl
slots_ascend least f (g ∷ fields) l h o =
    let first : is_lt (nat_cmp g.slot f.slot) ≡ false = h 0 f (omega arith) (omega arith) in
    let m = no_less f.slot g.slot first in
    let next : f.slot + 1 ≤ g.slot = above f.slot g.slot m (other_slot f g fields o) in
    both (nat_le least f.slot) (ascends_from (f.slot + 1) (slots_of (g ∷ fields))) (is_le least f.slot l) (slots_ascend (f.slot + 1) g fields next (sorted_tail f (g ∷ fields) h) (once_tail f (g ∷ fields) o))
  where
    above : (a b : ℕ) → a ≤ b → a ≢ b → a + 1 ≤ b
    above a b l n = omega (arith, n)

fields_ascend : (fields : List Field) → IsSorted (λ (x y : Field). nat_cmp x.slot y.slot) fields → Once fields → ascends (slots_of fields) ≡ true
fields_ascend [] h o = refl
fields_ascend (f ∷ fields) h o = slots_ascend 0 f fields (omega arith) h o

each_once : (xs ys : List Field) → IsPermutation ys xs → ((slot : ℕ) → count_by (λ (f : Field). f.slot == slot) ys ≤ 1) → Once xs
unfolding Once
each_once xs ys p h = λ slot. let a = h slot in let b = sum_by-IsPermutation (λ (f : Field). cond (f.slot == slot) 1 0) ys xs p in omega (arith, a, b)

-- ---- words of fields

all_pass : {X : Type 0} (p : X → Bool) (xs : List X) → ((j : ℕ) (x : X) → slice_get xs j ≡ Some x → p x ≡ true) → list_all p xs ≡ true
all_pass p [] h = refl
all_pass p (x ∷ xs) h = both (p x) (list_all p xs) (h zero x refl) (all_pass p xs (λ j y s. h (suc j) y s))

all_used : (number : ℕ) (words : List Word) (fields : List Field) → ((i : ℕ) (w : Word) → slice_get words i ≡ Some w → list_any (λ (f : Field). f.word == number + i) fields ≡ true) → are_used number words fields ≡ true
all_used number [] fields h = refl
all_used number (w ∷ words) fields h =
    let z : number + 0 ≡ number = omega arith in
    both (list_any (λ (f : Field). f.word == number) fields) (are_used (number + 1) words fields)
    (subst (λ (k : ℕ). list_any (λ (f : Field). f.word == k) fields ≡ true) z (h zero w refl))
    (all_used (number + 1) words fields (λ i v s. let q : number + suc i ≡ number + 1 + i = omega arith in subst (λ (k : ℕ). list_any (λ (f : Field). f.word == k) fields ≡ true) q (h (suc i) v s)))

from_some : {X Y : Type 0} (g : X → Y) (o : Option X) (y : Y) → option_map g o ≡ Some y → (x : X) × (o ≡ Some x) × (y ≡ g x)
from_some g None y e = let f : None ≡ Some y = e in absurd (cc)
from_some g (Some x) y e = let f : Some (g x) ≡ Some y = e in let k : y ≡ g x = cc in (x, refl, k)

-- ---- what is chosen

module _ (slots : List Candidate) (offers : List Costed) (weights : Weights) (budgets : Budgets) (short : AreShort slots) (offered : AreOffers slots offers)
    (ranked : List ℕ) (ranking : IsRanking weights budgets offers ranked) (taken : List ℕ) (same : IsPermutation ranked taken) where
  abbrev wanted : List Want
  wanted = wants_from taken 0 slots

  -- a slot that is taken has no reason, so its code is short
  taken_free : (n : ℕ) (c : Candidate) → slice_get slots n ≡ Some c → is_among taken n ≡ true → c.reason ≡ None
  taken_free n c s t =
      let m = is_free slots offers offered n (was_offered weights budgets offers ranked ranking taken same n t) in
      ap (λ (d : Candidate). d.reason) (one_value (slice_get slots n) c m.candidate s m.there) ∙ m.free

  taken_short : (n : ℕ) (c : Candidate) → slice_get slots n ≡ Some c → is_among taken n ≡ true → IsShort c
  taken_short n c s t = at_place (λ (d : Candidate). d.reason ≡ None → IsShort d) slots n c short s (taken_free n c s t)

  -- what is wanted may be placed
  pub small_wants : All (λ (x : Want). (1 ≤ x.bits) × (x.bits ≤ 16)) wanted
  small_wants = All-weaker (IsWant slots taken) (λ (x : Want). (1 ≤ x.bits) × (x.bits ≤ 16)) small_want wanted (all_wants slots taken)
    where
      small_want : (x : Want) → IsWant slots taken x → (1 ≤ x.bits) × (x.bits ≤ 16)
      small_want x h =
          let k = taken_short x.slot h.candidate h.there h.is_taken in
          let bits : x.bits ≡ h.candidate.bits = ap (λ (y : Want). y.bits) h.is in
          let some = k.some h.in_form in
          let few = k.few in
          (omega (arith, bits, some), omega (arith, bits, few))

  pub few_wants : All (λ (x : Want). x.bits ≤ 16) wanted
  few_wants = All-weaker (λ (x : Want). (1 ≤ x.bits) × (x.bits ≤ 16)) (λ (x : Want). x.bits ≤ 16) (λ x h. h.1) wanted small_wants

  module _ (bins : Bins) (placing : IsPlacing wanted bins) where
    abbrev kept : List Open
    kept = filter saves (opens placing.order)

    all_are_wants : All (IsWant slots taken) placing.order
    all_are_wants = All-permutation (IsWant slots taken) wanted placing.order placing.permuted (all_wants slots taken)

    all_are_small : All (λ (x : Want). x.bits ≤ 16) placing.order
    all_are_small = All-permutation (λ (x : Want). x.bits ≤ 16) wanted placing.order placing.permuted few_wants

    kept_packed : All IsPacked kept
    kept_packed = All-filter saves IsPacked (opens placing.order) (all_packed placing.order all_are_small)

    kept_large : All HasLarge kept
    kept_large = All-filter saves HasLarge (opens placing.order) (opens_keep (IsWant slots taken) HasLarge (λ x r. large_new x) (λ x w r h. large_more x w h) placing.order all_are_wants)

    abbrev AreWants : Open → Type 0
    AreWants w = All (λ (p : Placed). IsWant slots taken p.want) w.slots

    kept_wants : All AreWants kept
    kept_wants = All-filter saves AreWants (opens placing.order) (opens_keep (IsWant slots taken) AreWants
        (λ x r. All-cons (λ (p : Placed). IsWant slots taken p.want) (placed_at 0 x) [] r (All-nil (λ (p : Placed). IsWant slots taken p.want)))
        (λ x w r h. All-push (λ (p : Placed). IsWant slots taken p.want) w.slots (placed_at w.used x) h r)
        placing.order all_are_wants)

    kept_saves : All (λ (w : Open). w.bits / 8 < sum_by (λ (p : Placed). p.want.bytes) w.slots) kept
    kept_saves = all_save (opens placing.order)

    words_are : bins.words ≡ map word_of kept
    words_are = ap (λ (b : Bins). b.words) placing.placed

    fields_are : bins.fields ≡ fields_from 0 kept
    fields_are = ap (λ (b : Bins). b.fields) placing.placed

    module _ (fields : List Field) (permuted : IsPermutation bins.fields fields) where
      placed_in : (j : ℕ) (f : Field) → slice_get fields j ≡ Some f → IsPlaced 0 kept f
      placed_in j f s =
          let there = Contains-permutation fields bins.fields f (IsPermutation-sym bins.fields fields permuted) (is_in fields j f s) in
          let at = place_in (fields_from 0 kept) f (subst (λ (fs : List Field). Contains fs f) fields_are there) in
          its_place 0 kept at.0 f at.1

      its_want : (f : Field) (m : IsPlaced 0 kept f) → IsWant slots taken m.placed.want
      its_want f m = at_place (λ (p : Placed). IsWant slots taken p.want) m.open_word.slots m.place m.placed (at_place AreWants kept m.word m.open_word kept_wants m.at_word) m.at_place

      its_slot : (f : Field) (m : IsPlaced 0 kept f) → f.slot ≡ m.placed.want.slot
      its_slot f m = ap (λ (g : Field). g.slot) m.is

      its_number : (f : Field) (m : IsPlaced 0 kept f) → f.word ≡ m.word
      its_number f m = let z : 0 + m.word ≡ m.word = omega arith in ap (λ (g : Field). g.word) m.is ∙ z

      its_shift : (f : Field) (m : IsPlaced 0 kept f) → f.shift ≡ m.placed.shift
      its_shift f m = ap (λ (g : Field). g.shift) m.is

      its_end : (f : Field) (m : IsPlaced 0 kept f) → end_of slots f ≡ m.placed.shift + m.placed.want.bits
      its_end f m =
          let h = its_want f m in
          let bits = ap (bits_of slots) (its_slot f m) ∙ ap (λ (o : Option Candidate). option_map_or (λ (c : Candidate). c.bits) o 0) h.there ∙ sym (ap (λ (x : Want). x.bits) h.is) in
          let shift = its_shift f m in
          omega (arith, bits, shift)

      -- a word of the bins by its number
      word_at : (i : ℕ) (w : Word) → slice_get bins.words i ≡ Some w → (o : Open) × (slice_get kept i ≡ Some o) × (w ≡ word_of o)
      word_at i w s = from_some word_of (slice_get kept i) w (sym (slice_get-map word_of kept i) ∙ ap (λ (ws : List Word). slice_get ws i) (sym words_are) ∙ s)

      pub fields_in : are_in bins.words fields ≡ true
      fields_in = all_pass (λ (f : Field). nat_lt f.word (length bins.words)) fields (λ j f s.
          let m = placed_in j f s in
          let l = slice_get_within kept m.word m.open_word m.at_word in
          let n : length bins.words ≡ length kept = ap length words_are ∙ length-map kept word_of in
          let e = its_number f m in
          is_below f.word (length bins.words) (omega (arith, l, n, e)))

      pub words_used : are_used 0 bins.words fields ≡ true
      words_used = all_used 0 bins.words fields (λ i w s.
          let o = word_at i w s in
          let large = at_place HasLarge kept i o.0 kept_large o.1 in
          let c = has_its_field 0 kept i o.0 large.place large.placed o.1 large.there in
          let f = field_of (0 + i) large.placed in
          let moved = Contains-permutation bins.fields fields f permuted (subst (λ (fs : List Field). Contains fs f) (sym fields_are) c) in
          let at = place_in fields f moved in
          any_at (λ (g : Field). g.word == 0 + i) fields at.0 f at.1 (is_same (0 + i) (0 + i) refl))

      -- ---- fields in their words

      module _ (j : ℕ) (f : Field) (c : Candidate) (w : Word) (at_j : slice_get fields j ≡ Some f) (at_slot : slice_get slots f.slot ≡ Some c) (at_word : slice_get bins.words f.word ≡ Some w) where
        m : IsPlaced 0 kept f
        m = placed_in j f at_j

        its_open : w ≡ word_of m.open_word
        its_open =
            let o = word_at f.word w at_word in
            let same = one_value (slice_get kept m.word) o.0 m.open_word (subst (λ (k : ℕ). slice_get kept k ≡ Some o.0) (its_number f m) o.1) m.at_word in
            o.2 ∙ ap word_of same

        packed : IsPacked m.open_word
        packed = at_place IsPacked kept m.word m.open_word kept_packed m.at_word

        its_candidate : (its_want f m).candidate ≡ c
        its_candidate = one_value (slice_get slots f.slot) (its_want f m).candidate c (subst (λ (k : ℕ). slice_get slots k ≡ Some (its_want f m).candidate) (sym (its_slot f m)) (its_want f m).there) at_slot

        of_group : w.group ≡ c.group
        of_group =
            let same : m.placed.want.group ≡ m.open_word.group = at_place (λ (p : Placed). p.want.group ≡ m.open_word.group) m.open_word.slots m.place m.placed packed.of_group m.at_place in
            ap (λ (v : Word). v.group) its_open ∙ sym same ∙ ap (λ (x : Want). x.group) (its_want f m).is ∙ ap (λ (d : Candidate). d.group) its_candidate

        apart : (k : ℕ) (g : Field) → slice_get fields k ≡ Some g → g.slot ≢ f.slot → g.word ≡ f.word → (bit : ℕ) → HasBit slots f bit → HasBit slots g bit → ⊥
        apart k g at_k other same bit a b =
            let n = placed_in k g at_k in
            let number : n.word ≡ m.word = sym (its_number g n) ∙ same ∙ its_number f m in
            let word : n.open_word ≡ m.open_word = one_value (slice_get kept m.word) n.open_word m.open_word (subst (λ (i : ℕ). slice_get kept i ≡ Some n.open_word) number n.at_word) m.at_word in
            let at_n : slice_get m.open_word.slots n.place ≡ Some n.placed = subst (λ (o : Open). slice_get o.slots n.place ≡ Some n.placed) word n.at_place in
            no_shared_bit m.open_word packed m.place n.place m.placed n.placed
            (λ e. other (its_slot g n ∙ ap (λ (p : Placed). p.want.slot) (one_value (slice_get m.open_word.slots n.place) n.placed m.placed at_n (subst (λ (i : ℕ). slice_get m.open_word.slots i ≡ Some m.placed) e m.at_place)) ∙ sym (its_slot f m)))
            m.at_place at_n bit
            (subst (λ (i : ℕ). i ≤ bit) (its_shift f m) a.from) (subst (λ (i : ℕ). bit < i) (its_end f m) a.below)
            (subst (λ (i : ℕ). i ≤ bit) (its_shift g n) b.from) (subst (λ (i : ℕ). bit < i) (its_end g n) b.below)

        bits_are : w.bits ≡ m.open_word.bits
        bits_are = ap (λ (v : Word). v.bits) its_open

        within : end_of slots f ≤ w.bits
        within = let l = ends_within m.open_word packed m.place m.placed m.at_place in let e = its_end f m in let b = bits_are in omega (arith, l, e, b)

        large_there : m.open_word.bits ≡ 16 → 8 < most_bits slots f.word 0 fields
        large_there e =
            let large = at_place HasLarge kept m.word m.open_word kept_large m.at_word in
            let g = field_of (0 + m.word) large.placed in
            let there = has_its_field 0 kept m.word m.open_word large.place large.placed m.at_word large.there in
            let moved = Contains-permutation bins.fields fields g permuted (subst (λ (fs : List Field). Contains fs g) (sym fields_are) there) in
            let at = place_in fields g moved in
            let h = at_place (λ (p : Placed). IsWant slots taken p.want) m.open_word.slots large.place large.placed (at_place AreWants kept m.word m.open_word kept_wants m.at_word) large.there in
            let bits = ap (λ (o : Option Candidate). option_map_or (λ (c : Candidate). c.bits) o 0) h.there ∙ sym (ap (λ (x : Want). x.bits) h.is) in
            let z : 0 + m.word ≡ f.word = (let y : 0 + m.word ≡ m.word = omega arith in y) ∙ sym (its_number f m) in
            let most = no_more slots f.word 0 fields at.0 g at.1 z in
            let l = large.large e in
            above large.placed.want.bits (bits_of slots large.placed.want.slot) (most_bits slots f.word 0 fields) l bits most
          where
            above : (a b c : ℕ) → 8 < a → b ≡ a → b ≤ c → 8 < c
            above a b c h e l = omega arith

        sized : (w.bits ≡ 8) ⊎ ((w.bits ≡ 16) × (8 < most_bits slots f.word 0 fields))
        sized = ⊎_elim (λ (e : m.open_word.bits ≡ 8). inl (bits_are ∙ e)) (λ (e : m.open_word.bits ≡ 16). inr (bits_are ∙ e, large_there e)) packed.sized

        saves_bytes : w.bits / 8 < bytes_in slots f.word fields
        saves_bytes =
            let less = at_place (λ (w : Open). w.bits / 8 < sum_by (λ (p : Placed). p.want.bytes) w.slots) kept m.word m.open_word kept_saves m.at_word in
            let bytes = All-weaker (λ (p : Placed). IsWant slots taken p.want) (HasBytes slots) (λ p h. ap (λ (o : Option Candidate). option_map_or (λ (c : Candidate). c.bytes) o 0) h.there ∙ sym (ap (λ (x : Want). x.bytes) h.is)) m.open_word.slots
            (at_place AreWants kept m.word m.open_word kept_wants m.at_word) in
            let sum = bytes_of_word slots 0 kept m.word m.open_word m.at_word bytes in
            let z : 0 + m.word ≡ f.word = (let y : 0 + m.word ≡ m.word = omega arith in y) ∙ sym (its_number f m) in
            let moved = ap (λ (k : ℕ). bytes_in slots k (fields_from 0 kept)) z ∙ ap (bytes_in slots f.word) (sym fields_are) ∙ bytes_permuted slots f.word bins.fields fields permuted in
            let size = ap (λ (k : ℕ). k / 8) bits_are in
            joined (w.bits / 8) (m.open_word.bits / 8) (sum_by (λ (p : Placed). p.want.bytes) m.open_word.slots) (bytes_in slots (0 + m.word) (fields_from 0 kept)) (bytes_in slots f.word fields) size less sum moved
          where
            joined : (a b c d e : ℕ) → a ≡ b → b < c → c ≤ d → d ≡ e → a < e
            joined a b c d e p l k q = omega arith

        pub seated : IsSeated slots fields c f w
        seated = record { of_group = of_group; apart = apart; within = within; sized = sized; saves = saves_bytes }

      -- a slot with a field is taken, and is to have one
      field_taken : (n : ℕ) (c : Candidate) → slice_get slots n ≡ Some c → is_among (slots_of fields) n ≡ true → (is_among taken n ≡ true) × (c.form ≡ form.Field)
      field_taken n c s h =
          let some = any_passes (λ (f : Field). f.slot == n) fields (sym (among_slots fields n) ∙ h) in
          let p = placed_in some.0 some.1 some.2 in
          let x = its_want some.1 p in
          let e : p.placed.want.slot ≡ n = sym (its_slot some.1 p) ∙ same_true some.1.slot n some.3 in
          let same = one_value (slice_get slots n) x.candidate c (subst (λ (k : ℕ). slice_get slots k ≡ Some x.candidate) e x.there) s in
          (subst (λ (k : ℕ). is_among taken k ≡ true) e x.is_taken, sym (ap (λ (d : Candidate). d.form) same) ∙ x.in_form)

  -- ---- lists of a plan

  pub parts_are : (bins : Bins) → IsPlacing wanted bins → ((slot : ℕ) → count_by (λ (f : Field). f.slot == slot) bins.fields ≤ 1) → (p : Parts) → p.words ≡ bins.words → IsPermutation bins.fields p.fields
      → IsSorted (λ (x y : Field). nat_cmp x.slot y.slot) p.fields → p.consts ≡ slots_with taken (slots_of p.fields) fate.Const slots → p.arrays ≡ slots_with taken (slots_of p.fields) fate.Array slots
      → p.budget ≡ slots_with taken (slots_of p.fields) fate.Left slots → p.dissolved ≡ slots_with taken (slots_of p.fields) fate.Dissolved slots → is_plan p ≡ true
  parts_are bins placing once p words permuted sorted consts arrays budget dissolved =
      let fields_in_order = fields_ascend p.fields sorted (each_once p.fields bins.fields permuted once) in
      let of_fate : (f : Fate) → ascends (slots_with taken (slots_of p.fields) f slots) ≡ true = λ f. ascends_numbers (has_fate taken (slots_of p.fields) f) 0 slots in
      let there = subst (λ (ws : List Word). are_in ws p.fields ≡ true) (sym words) (fields_in bins placing p.fields permuted) in
      let used = subst (λ (ws : List Word). are_used 0 ws p.fields ≡ true) (sym words) (words_used bins placing p.fields permuted) in
      seven (ascends (slots_of p.fields)) (ascends p.consts) (ascends p.arrays) (ascends p.budget) (ascends p.dissolved) (are_in p.words p.fields) (are_used 0 p.words p.fields)
      fields_in_order (ap ascends consts ∙ of_fate fate.Const) (ap ascends arrays ∙ of_fate fate.Array) (ap ascends budget ∙ of_fate fate.Left) (ap ascends dissolved ∙ of_fate fate.Dissolved) there used
    where
      seven : (a b c d e f g : Bool) → a ≡ true → b ≡ true → c ≡ true → d ≡ true → e ≡ true → f ≡ true → g ≡ true → a && b && c && d && e && f && g ≡ true
      seven a b c d e f g p q r s t u v = rw (p, q, r, s, t, u, v) refl

-- ---- the plan

-- a plan of these lists is the choice
pub choice_of : (slots : List Candidate) (offers : List Costed) (weights : Weights) (budgets : Budgets) (ranked : List ℕ) → IsRanking weights budgets offers ranked → (taken : List ℕ) → IsPermutation ranked taken
    → (bins : Bins) → IsPlacing (wants_from taken 0 slots) bins → (p : Parts) → p.words ≡ bins.words → IsPermutation bins.fields p.fields
    → p.consts ≡ slots_with taken (slots_of p.fields) fate.Const slots → p.arrays ≡ slots_with taken (slots_of p.fields) fate.Array slots
    → p.budget ≡ slots_with taken (slots_of p.fields) fate.Left slots → p.dissolved ≡ slots_with taken (slots_of p.fields) fate.Dissolved slots
    → (plan : Plan) → HasParts p plan → IsChoice slots offers weights budgets plan
choice_of slots offers weights budgets ranked ranking taken permuted bins placed p words fields consts arrays budget dissolved plan has = record {
  ranked = ranked;
  ranking = ranking;
  taken = taken;
  permuted = permuted;
  bins = bins;
  placed = placed;
  words = has.words ∙ words;
  fields = subst (IsPermutation bins.fields) (sym has.fields) fields;
  consts = has.consts ∙ consts ∙ moved fate.Const;
  arrays = has.arrays ∙ arrays ∙ moved fate.Array;
  budget = has.budget ∙ budget ∙ moved fate.Left;
  dissolved = has.dissolved ∙ dissolved ∙ moved fate.Dissolved;
}
  where
    moved : (f : Fate) → slots_with taken (slots_of p.fields) f slots ≡ slots_with taken (slots_of plan.fields) f slots
    moved f = ap (λ (fields : List Field). slots_with taken (slots_of fields) f slots) (sym has.fields)

module _ (slots : List Candidate) (offers : List Costed) (weights : Weights) (budgets : Budgets) (short : AreShort slots) (offered : AreOffers slots offers) (plan : Plan) (h : IsChoice slots offers weights budgets plan) where
  abbrev placed_words : IsPlacing (wants_from h.taken 0 slots) h.bins
  placed_words = h.placed

  module _ (n : ℕ) (c : Candidate) (there : slice_get slots n ≡ Some c) where
    abbrev its_fate : Fate
    its_fate = fate_by (is_among h.taken n) (is_none c.reason) c.form (is_among (slots_of plan.fields) n)

    stands_in : (f : Fate) (list : List ℕ) → list ≡ slots_with h.taken (slots_of plan.fields) f slots → is_among list n ≡ (fate_number its_fate == fate_number f)
    stands_in f list e = ap (λ (xs : List ℕ). is_among xs n) e ∙ among_numbers (has_fate h.taken (slots_of plan.fields) f) slots n c there

    in_const : is_among plan.consts n ≡ (fate_number its_fate == 2)
    in_const = stands_in fate.Const plan.consts h.consts

    in_array : is_among plan.arrays n ≡ (fate_number its_fate == 3)
    in_array = stands_in fate.Array plan.arrays h.arrays

    its_times : times plan n ≡ in_lists (is_among (slots_of plan.fields) n) (fate_number its_fate == 2) (fate_number its_fate == 3) (fate_number its_fate == 1) (fate_number its_fate == 5)
    its_times =
        five (list_any (λ (f : Field). f.slot == n) plan.fields) (is_among (slots_of plan.fields) n) (is_among plan.consts n) (is_among plan.arrays n) (is_among plan.budget n) (is_among plan.dissolved n)
        (fate_number its_fate == 2) (fate_number its_fate == 3) (fate_number its_fate == 1) (fate_number its_fate == 5)
        (sym (among_slots plan.fields n)) in_const in_array (stands_in fate.Left plan.budget h.budget) (stands_in fate.Dissolved plan.dissolved h.dissolved)
      where
        five : (a a' b c d e b' c' d' e' : Bool) → a ≡ a' → b ≡ b' → c ≡ c' → d ≡ d' → e ≡ e' → in_lists a b c d e ≡ in_lists a' b' c' d' e'
        five a a' b c d e b' c' d' e' o p q r s =
            ap (λ (x : Bool). in_lists x b c d e) o ∙ ap (λ (x : Bool). in_lists a' x c d e) p ∙ ap (λ (x : Bool). in_lists a' b' x d e) q ∙ ap (λ (x : Bool). in_lists a' b' c' x e) r ∙ ap (λ (x : Bool). in_lists a' b' c' d' x) s

    taken_field : is_among (slots_of plan.fields) n ≡ true → (is_among h.taken n ≡ true) × (c.form ≡ form.Field)
    taken_field t = field_taken slots offers weights budgets short offered h.ranked h.ranking h.taken h.permuted h.bins placed_words plan.fields h.fields n c there t

    once : times plan n ≤ 1
    once =
        let l = stands_once (is_among h.taken n) (is_none c.reason) c.form (is_among (slots_of plan.fields) n) (λ t. (taken_field t).0) (λ t. (taken_field t).1) in
        subst (λ (k : ℕ). k ≤ 1) (sym its_times) l

    free : 0 < times plan n → c.reason ≡ None
    free l =
        let k = stands_free (is_among h.taken n) (is_none c.reason) c.form (is_among (slots_of plan.fields) n) (λ t. (taken_field t).0) (subst (λ (k : ℕ). 0 < k) its_times l) in
        ⊎_elim
        (λ (t : is_among h.taken n ≡ true). taken_free slots offers weights budgets short offered h.ranked h.ranking h.taken h.permuted n c there t)
        (λ (t : is_none c.reason ≡ true). no_reason c.reason t) k
      where
        no_reason : {X : Type 0} (o : Option X) → is_none o ≡ true → o ≡ None
        no_reason None t = refl
        no_reason (Some r) t = let e : false ≡ true = t in absurd (cc)

    in_form : (as_form : Form) → stands_as plan n as_form ≡ true → as_form ≡ c.form
    in_form form.Field t = sym (taken_field (among_slots plan.fields n ∙ t)).1
    in_form form.Const t = sym (stands_const (is_among h.taken n) (is_none c.reason) c.form (is_among (slots_of plan.fields) n) (sym in_const ∙ t))
    in_form form.Array t = sym (stands_array (is_among h.taken n) (is_none c.reason) c.form (is_among (slots_of plan.fields) n) (sym in_array ∙ t))

  pub choice_legal : first_illegal slots plan ≡ None
  choice_legal = is_legal slots plan (record {
    free = λ n c s l. free n c s l;
    seated = λ j f c w at_j at_slot at_word.
        seated slots offers weights budgets short offered h.ranked h.ranking h.taken h.permuted h.bins placed_words plan.fields h.fields j f c w at_j at_slot (ap (λ (ws : List Word). slice_get ws f.word) (sym h.words) ∙ at_word);
    in_form = λ n c as_form s t. in_form n c s as_form t;
    once = λ n c s. once n c s;
  })
