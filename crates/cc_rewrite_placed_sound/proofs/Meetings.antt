-- The homes that a legal plan gives to static objects do not meet: words are told apart by their ranks among the program's and stand behind its
-- objects, fields of one word have no bit in common, and packed arrays stand behind the words, one for each slot.
use Rattle.std.proofs.Common.{◌≡◌, ◌≤◌, ◌<◌, ◌+◌, ◌*◌, ◌/◌, ◌∙◌, ◌==◌, ◌⊎◌, inl, inr, nat_eq, ℕ, true, length, List, Some, slice_get, refl, ap, sym, subst, arith}
use Rattle.std.proofs.lemmas.Bool.{cases_lt}
use Rattle.std.proofs.lemmas.Bool.Decides.{nat_tests}
use Rattle.std.proofs.lemmas.Option.{same_Some}
use Rattle.cc_bins.specs.declared.types.Field.{Field}
use Rattle.cc_bins.specs.declared.types.Word.{Word}
use Rattle.cc_plan_legal.specs.declared.kinds.Plan.{Plan}
use Rattle.cc_plan_legal.specs.Legal.{HasBit, IsLegal}
use Rattle.cc_plan_legal.specs.Legality.{end_of, most_bits}
use Rattle.cc_plan_legal.specs.Lookup.{in_word as fields_in}
use Rattle.cc_program.specs.declared.program.Program.{Program}
use Rattle.cc_rewrite_codes.specs.Homes.{Code, InWord}
use Rattle.cc_rewrite_codes.specs.Placed.{first_array, home_of, in_word, is_alone, is_of, place_among, rank_of, words_of}
use Rattle.cc_rewrite_homes.specs.Homes.{Beside, Field as Part}
use Rattle.cc_rewrite_layouts.specs.Layouts.{AreLayouts, InField}
use Rattle.cc_rewrite_placed_sound.proofs.Places.{one as one_place}
use Rattle.cc_rewrite_placed_sound.proofs.Ranks.{below, grows, one as one_rank}
use Rattle.cc_rewrite_placed_sound.proofs.Standing.{IsField, IsPacked, IsSeatedField, by_field, is_field, is_packed, is_within, one_object, seated_field, some_elements, whole_bytes}
use Rattle.cc_rewrite_placed_sound.specs.PlacedLayouts.{candidates_of, field_in, layout_of}
use Rattle.cc_slots_types.specs.declared.slot.Slot.{Slot}
use Rattle.cc_state_points.specs.CcStateFacts.declared.facts.Key.TheVariants as key

-- bits from `a` and from `c` up, so many, that have none in common
beside : (a b c d : ℕ) → 0 < b → 0 < d → ((bit : ℕ) → a ≤ bit → bit < a + b → c ≤ bit → bit < c + d → ⊥) → (a + b ≤ c) ⊎ (c + d ≤ a)
beside a b c d p q h = by (cases_lt c (a + b)) (cases_lt a (c + d))
  where
    meets : (c < a) ⊎ (a ≤ c) → c < a + b → a < c + d → ⊥
    meets (inl l) m n = h a (omega arith) (omega arith) (omega arith) n
    meets (inr l) m n = h c l m (omega arith) (omega arith)

    by : (c < a + b) ⊎ (a + b ≤ c) → (a < c + d) ⊎ (c + d ≤ a) → (a + b ≤ c) ⊎ (c + d ≤ a)
    by (inr l) m = inl l
    by (inl l) (inr m) = inr m
    by (inl l) (inl m) = absurd (meets (cases_lt c a) l m)

more : (n k : ℕ) → n ≤ n + k
more n k = omega arith

ahead : (n a b : ℕ) → a < b → n + a < n + b
ahead n a b l = omega arith

front : (n a b : ℕ) → n + a ≡ n + b → a ≡ b
front n a b e = omega arith

is_same : (a b : ℕ) → a ≡ b → (a == b) ≡ true
is_same a b h = grind (arith, nat_tests)

same_number : (a b : ℕ) → nat_eq a b ≡ true → a ≡ b
same_number a b h = grind (arith, nat_tests)

module _ (slots : List Slot) (plan : Plan) (p : Program) (legal : IsLegal (candidates_of p slots) plan) where
  abbrev In : ℕ → Part → Type 0
  In i part = IsField slots plan p i part

  -- ---- one field

  fits_word : (shift bits end word : ℕ) → end ≡ shift + bits → end ≤ word → 8 * (word / 8) ≡ word → shift + bits ≤ 8 * (word / 8)
  fits_word shift bits end word e l w = omega arith

  fits : (i : ℕ) (part : Part) → In i part → part.shift + part.width ≤ part.bits
  fits i part a =
      let s = seated_field slots plan p legal i part a in
      subst (λ (x : Part). x.shift + x.width ≤ x.bits) a.is
      (fits_word a.field.shift a.slot.bits (end_of (candidates_of p slots) a.field) a.word.bits s.end s.seated.within (whole_bytes a.word.bits (most_bits (candidates_of p slots) a.field.word 0 plan.fields) s.seated.sized))

  -- its word stands behind the program's objects, and in front of the packed arrays
  from : (i : ℕ) (part : Part) → In i part → length p.objects ≤ part.object
  from i part a = subst (λ (x : Part). length p.objects ≤ x.object) a.is (more (length p.objects) (rank_of slots plan 0 a.field.word))

  until : (i : ℕ) (part : Part) → In i part → part.object < first_array slots plan p
  until i part a =
      let s = seated_field slots plan p legal i part a in
      let l = below (is_of slots plan 0) plan.words a.field.word a.word a.word_there s.owned in
      subst (λ (x : Part). x.object < first_array slots plan p) a.is (ahead (length p.objects) (rank_of slots plan 0 a.field.word) (length (words_of slots plan 0)) l)

  -- ---- two fields

  same_word : (i j : ℕ) (f g : Part) (a : In i f) (b : In j g) → f.object ≡ g.object → a.field.word ≡ b.field.word
  same_word i j f g a b e =
      let s = seated_field slots plan p legal i f a in
      let t = seated_field slots plan p legal j g b in
      let numbers : length p.objects + rank_of slots plan 0 a.field.word ≡ length p.objects + rank_of slots plan 0 b.field.word = ap (λ (x : Part). x.object) a.is ∙ e ∙ ap (λ (x : Part). x.object) (sym b.is) in
      one_rank (is_of slots plan 0) plan.words a.field.word b.field.word a.word b.word a.word_there b.word_there s.owned t.owned
      (front (length p.objects) (rank_of slots plan 0 a.field.word) (rank_of slots plan 0 b.field.word) numbers)

  same_bits : (i j : ℕ) (f g : Part) (a : In i f) (b : In j g) → a.field.word ≡ b.field.word → f.bits ≡ g.bits
  same_bits i j f g a b e =
      let same : a.word ≡ b.word = same_Some a.word b.word (sym a.word_there ∙ ap (slice_get plan.words) e ∙ b.word_there) in
      ap (λ (x : Part). x.bits) (sym a.is) ∙ ap (λ (w : Word). 8 * (w.bits / 8)) same ∙ ap (λ (x : Part). x.bits) b.is

  -- their ends are these
  has_bit : (i : ℕ) (f : Part) (a : In i f) (bit : ℕ) → a.field.shift ≤ bit → bit < a.field.shift + a.slot.bits → HasBit (candidates_of p slots) a.field bit
  has_bit i f a bit l m =
      let s = seated_field slots plan p legal i f a in
      record { from = l; below = subst (λ (n : ℕ). bit < n) (sym s.end) m }

  apart : (i j : ℕ) (f g : Part) (a : In i f) (b : In j g) → (i ≡ j → ⊥) → a.field.word ≡ b.field.word → Beside f g
  apart i j f g a b other e =
      let s = seated_field slots plan p legal i f a in
      let t = seated_field slots plan p legal j g b in
      let slots_differ : b.field.slot ≡ a.field.slot → ⊥ = λ k. other (one_object slots plan p i j a.number b.number a.slot b.slot a.at b.at (sym s.slot ∙ sym k ∙ t.slot)) in
      let here = beside a.field.shift a.slot.bits b.field.shift b.slot.bits s.some t.some
      (λ bit l m n o. s.seated.apart t.place b.field t.stands slots_differ (sym e) bit (has_bit i f a bit l m) (has_bit j g b bit n o)) in
      subst (λ (x : Part). Beside x g) a.is (subst (λ (x : Part). Beside (field_in (length p.objects + rank_of slots plan 0 a.field.word) (a.word.bits / 8) a.field.shift a.slot.bits) x) b.is here)

  -- ---- alone

  -- two fields of a word are at least two
  two : (fields : List Field) (word j k : ℕ) (f g : Field) → slice_get fields j ≡ Some f → slice_get fields k ≡ Some g → f.word ≡ word → g.word ≡ word → j < k → nat_eq (length (fields_in word fields)) 1 ≡ true → ⊥
  two fields word j k f g s r d e l t =
      let a = is_same f.word word d in
      let b = is_same g.word word e in
      let m = grows (λ (x : Field). x.word == word) fields j f s a k l in
      let n = below (λ (x : Field). x.word == word) fields k g r b in
      let o = same_number (length (fields_in word fields)) 1 t in
      omega (arith, m, n, o)

  apart_places : (j k : ℕ) (f g : Field) → slice_get plan.fields j ≡ Some f → slice_get plan.fields k ≡ Some g → (f.slot ≡ g.slot → ⊥) → j ≡ k → ⊥
  apart_places j k f g s r other e = other (ap (λ (x : Field). x.slot) (same_Some f g (sym s ∙ ap (slice_get plan.fields) e ∙ r)))

  pub alone-there : (i word bytes shift bits : ℕ) (code : Code) → home_of slots plan p (key.Object i) ≡ Some (InWord word bytes shift bits true code) →
      (j : ℕ) (g : Part) → layout_of slots plan p j ≡ InField g → (i ≡ j → ⊥) → word ≡ g.object → ⊥
  alone-there i word bytes shift bits code h j g k other e = by (cases_lt s.place t.place) (cases_lt t.place s.place)
    where
      a : In i (field_in word bytes shift bits)
      a = by_field slots plan p i (field_in word bytes shift bits) (Some (InWord word bytes shift bits true code)) h refl

      b : In j g
      b = is_field slots plan p j g k

      s : IsSeatedField slots plan p legal i (field_in word bytes shift bits) a
      s = seated_field slots plan p legal i (field_in word bytes shift bits) a

      t : IsSeatedField slots plan p legal j g b
      t = seated_field slots plan p legal j g b

      one : is_alone slots plan p a.field ≡ true
      one =
          let told : in_word slots plan p a.field a.word a.slot ≡ InWord word bytes shift bits true code = same_Some (in_word slots plan p a.field a.word a.slot) (InWord word bytes shift bits true code) (sym a.home ∙ h) in
          cc

      same : a.field.word ≡ b.field.word
      same = same_word i j (field_in word bytes shift bits) g a b e

      differ : a.field.slot ≡ b.field.slot → ⊥
      differ d = other (one_object slots plan p i j a.number b.number a.slot b.slot a.at b.at (sym s.slot ∙ d ∙ t.slot))

      by : (s.place < t.place) ⊎ (t.place ≤ s.place) → (t.place < s.place) ⊎ (s.place ≤ t.place) → ⊥
      by (inl l) m = two plan.fields a.field.word s.place t.place a.field b.field s.stands t.stands refl (sym same) l one
      by (inr m) (inl l) = two plan.fields a.field.word t.place s.place b.field a.field t.stands s.stands (sym same) refl l one
      by (inr m) (inr n) = let z : s.place ≡ t.place = omega (arith, m, n) in apart_places s.place t.place a.field b.field s.stands t.stands differ z

  -- ---- packed arrays

  behind : (i object count bits : ℕ) → IsPacked slots plan p i object count bits → first_array slots plan p ≤ object
  behind i object count bits a = subst (λ (n : ℕ). first_array slots plan p ≤ n) a.object_is (more (first_array slots plan p) (place_among slots plan plan.arrays a.number))

  words_first : length p.objects ≤ first_array slots plan p
  words_first = more (length p.objects) (length (words_of slots plan 0))

  one_each : (i j a b count bits count' bits' : ℕ) → IsPacked slots plan p i a count bits → IsPacked slots plan p j b count' bits' → (i ≡ j → ⊥) → a ≡ b → ⊥
  one_each i j a b count bits count' bits' x y other e =
      let numbers = x.object_is ∙ e ∙ sym y.object_is in
      let places = front (first_array slots plan p) (place_among slots plan plan.arrays x.number) (place_among slots plan plan.arrays y.number) numbers in
      other (one_object slots plan p i j x.number y.number x.slot y.slot x.at y.at (one_place x.number y.number plan.arrays x.among y.among places))

  -- ---- all

  pub are-layouts : AreLayouts (layout_of slots plan p)
  are-layouts = record {
    fits = λ i f h. fits i f (is_field slots plan p i f h);
    some = λ i object count bits h. some_elements slots plan p legal i object count bits (is_packed slots plan p i object count bits h);
    fields = λ i j f g h k other e q.
        let a = is_field slots plan p i f h in
        let b = is_field slots plan p j g k in
        let w = same_word i j f g a b e in
        (same_bits i j f g a b w, apart i j f g a b other w);
    field_same = λ i j f h k e.
        let l = from i f (is_field slots plan p i f h) in
        let m = is_within slots plan p j k in
        absurd (omega (arith, l, m, e));
    field_elements = λ i j f object count bits h k e.
        let l = until i f (is_field slots plan p i f h) in
        let m = behind j object count bits (is_packed slots plan p j object count bits k) in
        absurd (omega (arith, l, m, e));
    elements_same = λ i j object count bits h k e.
        let l = behind i object count bits (is_packed slots plan p i object count bits h) in
        let m = is_within slots plan p j k in
        let n = words_first in
        absurd (omega (arith, l, m, n, e));
    elements = λ i j a b count bits count' bits' h k other e.
        one_each i j a b count bits count' bits' (is_packed slots plan p i a count bits h) (is_packed slots plan p j b count' bits' k) other e;
  }
