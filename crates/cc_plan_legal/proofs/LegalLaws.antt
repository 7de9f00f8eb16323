-- A plan is legal exactly where no slot breaks a rule.
use Rattle.std.proofs.Common.{◌≡◌, ◌≢◌, ◌≤◌, ◌<◌, ◌+◌, ◌/◌, ◌∙◌, ◌==◌, ◌&&◌, ◌||◌, ◌⊎◌, inl, inr, max, min, not, nat_le, nat_lt, ℕ, zero, suc, Bool, true, false, if◌then◌else◌, List, [], ◌∷◌, Option, Some, None, slice_get, refl, ap, sym, subst, arith}
use Rattle.std.specs.Option.{option_or, option_and_then}
use Rattle.std.proofs.lemmas.Bool.Decides.{nat_tests}
use Rattle.cc_bins.specs.declared.types.Field.{Field}
use Rattle.cc_bins.specs.declared.types.Word.{Word}
use Rattle.cc_plan_legal.specs.declared.candidate.Candidate.{Candidate}
use Rattle.cc_plan_legal.specs.declared.candidate.Form.{Form}
use Rattle.cc_plan_legal.specs.declared.candidate.Form.TheVariants as form
use Rattle.cc_plan_legal.specs.declared.kinds.Plan.{Plan}
use Rattle.cc_plan_legal.specs.declared.legal.Illegal.{Illegal}
use Rattle.cc_plan_legal.specs.Candidates.{form_number}
use Rattle.cc_plan_legal.specs.Legal.{HasBit, IsLegal, IsSeated}
use Rattle.cc_plan_legal.specs.Legality.{breach, breach_where, breaks, breaks_as_field, breaks_in_word, bytes_in, bytes_within, end_of, field_of, first_breach, first_illegal, first_overlapped, has_reason, is_size, misplaced, misplaced_as, most_bits, one_if, overlap, overlaps, passes_end, repeated, saves_nothing, stands_as, times, wrong_group, wrong_size}
use Rattle.cc_plan_legal.proofs.FieldLemmas.{its_field}
use Rattle.cc_plan_legal.proofs.Options.{any_at, five_none, found, four_none, mapped_none, none_mapped, none_of_five, none_of_four, none_of_three, none_of_two, none_passes, passes_none, three_none, two_none}
use Rattle.cc_slots_types.specs.declared.reason.Reason.{Reason}
use Rattle.cc_slots_types.specs.Slots.{reason_number}

-- ---- tests

where_none : (b : Bool) (x : Illegal) → breach_where b x ≡ None → b ≡ false
where_none true x e = let f : Some x ≡ None = e in absurd (cc)
where_none false x e = refl

none_where : (b : Bool) (x : Illegal) → b ≡ false → breach_where b x ≡ None
none_where b x e = ap (λ (c : Bool). breach_where c x) e

same_number : (a b : ℕ) → not (a == b) ≡ false → a ≡ b
same_number a b h = grind (arith, nat_tests)

no_other : (a b : ℕ) → a ≡ b → not (a == b) ≡ false
no_other a b h = grind (arith, nat_tests)

is_other : (a b : ℕ) → a ≢ b → not (a == b) ≡ true
is_other a b h = grind (arith, nat_tests)

lt_false : (a b : ℕ) → nat_lt a b ≡ false → b ≤ a
lt_false a b h = grind (arith, nat_tests)

not_lt : (a b : ℕ) → b ≤ a → nat_lt a b ≡ false
not_lt a b h = grind (arith, nat_tests)

le_false : (a b : ℕ) → nat_le a b ≡ false → b < a
le_false a b h = grind (arith, nat_tests)

lt_true : (a b : ℕ) → nat_lt a b ≡ true → a < b
lt_true a b h = grind (arith, nat_tests)

is_lt : (a b : ℕ) → a < b → nat_lt a b ≡ true
is_lt a b h = grind (arith, nat_tests)

is_same : (a b : ℕ) → a ≡ b → (a == b) ≡ true
is_same a b h = grind (arith, nat_tests)

same_true : (a b : ℕ) → (a == b) ≡ true → a ≡ b
same_true a b h = grind (arith, nat_tests)

second_false : (p q : Bool) → p && q ≡ false → p ≡ true → q ≡ false
second_false true q h e = h
second_false false q h e = absurd (cc)

unless_true : (p q : Bool) → (p ≡ true → q ≡ false) → p && q ≡ false
unless_true true q h = h refl
unless_true false q h = refl

no_true : (b : Bool) → (b ≡ true → ⊥) → b ≡ false
no_true true h = absurd (h refl)
no_true false h = refl

no_false : (b : Bool) → (b ≡ false → ⊥) → b ≡ true
no_false true h = refl
no_false false h = absurd (h refl)

not_false : (b : Bool) → not b ≡ false → b ≡ true
not_false true h = refl
not_false false h = absurd (cc)

not_true : (b : Bool) → b ≡ true → not b ≡ false
not_true b h = ap not h

-- ---- a field in its word

module _ (slots : List Candidate) (fields : List Field) where
  -- bits in common
  no_common : (f g : Field) → overlap slots f g ≡ false → g.word ≡ f.word → (bit : ℕ) → HasBit slots f bit → HasBit slots g bit → ⊥
  no_common f g h e bit a b =
      let k = second_false (f.word == g.word) (nat_lt (max f.shift g.shift) (min (end_of slots f) (end_of slots g))) h (is_same f.word g.word (sym e)) in
      ends f.shift g.shift (end_of slots f) (end_of slots g) bit (lt_false (max f.shift g.shift) (min (end_of slots f) (end_of slots g)) k) a.from b.from a.below b.below
    where
      ends : (a b c d bit : ℕ) → min c d ≤ max a b → a ≤ bit → b ≤ bit → bit < c → bit < d → ⊥
      ends a b c d bit h p q r s = omega arith

  no_overlap : (f g : Field) → (g.word ≡ f.word → (bit : ℕ) → HasBit slots f bit → HasBit slots g bit → ⊥) → overlap slots f g ≡ false
  no_overlap f g h =
      let within = nat_lt (max f.shift g.shift) (min (end_of slots f) (end_of slots g)) in
      unless_true (f.word == g.word) within (λ e. no_true within (λ t.
      let l = lt_true (max f.shift g.shift) (min (end_of slots f) (end_of slots g)) t in
      h (sym (same_true f.word g.word e)) (max f.shift g.shift)
      (record { from = left f.shift g.shift; below = first (max f.shift g.shift) (end_of slots f) (end_of slots g) l })
      (record { from = right f.shift g.shift; below = second (max f.shift g.shift) (end_of slots f) (end_of slots g) l })))
    where
      left : (a b : ℕ) → a ≤ max a b
      left a b = omega arith

      right : (a b : ℕ) → b ≤ max a b
      right a b = omega arith

      first : (n c d : ℕ) → n < min c d → n < c
      first n c d l = omega arith

      second : (n c d : ℕ) → n < min c d → n < d
      second n c d l = omega arith

  abbrev meets : Field → Field → Bool
  meets f g = not (g.slot == f.slot) && overlap slots f g

  -- sizes
  has_size : (bits most : ℕ) → is_size bits most ≡ true → (bits ≡ 8) ⊎ ((bits ≡ 16) × (8 < most))
  has_size bits most h = size_cases (bits == 8) (bits == 16) (nat_lt 8 most) refl refl refl h
    where
      size_cases : (p q r : Bool) → (bits == 8) ≡ p → (bits == 16) ≡ q → nat_lt 8 most ≡ r → p || (q && r) ≡ true → (bits ≡ 8) ⊎ ((bits ≡ 16) × (8 < most))
      size_cases true q r a b c h = inl (same_true bits 8 a)
      size_cases false true true a b c h = inr (same_true bits 16 b, lt_true 8 most c)
      size_cases false true false a b c h = absurd (cc)
      size_cases false false r a b c h = absurd (cc)

  size_from : (bits most : ℕ) → (bits ≡ 8) ⊎ ((bits ≡ 16) × (8 < most)) → is_size bits most ≡ true
  size_from bits most (inl e) = ap (λ (b : Bool). b || ((bits == 16) && nat_lt 8 most)) (is_same bits 8 e)
  size_from bits most (inr (e, l)) = either (bits == 8) (bits == 16) (nat_lt 8 most) (is_same bits 16 e) (is_lt 8 most l)
    where
      either : (p q r : Bool) → q ≡ true → r ≡ true → p || (q && r) ≡ true
      either true q r a b = refl
      either false q r a b = ap (λ (x : Bool). x && r) a ∙ b

  within_none : (bytes most : ℕ) → bytes_within bytes most ≡ None → most < bytes
  within_none bytes most e = within_step (nat_le bytes most) refl e
    where
      within_step : (b : Bool) → nat_le bytes most ≡ b → (if b then Some bytes else None) ≡ None → most < bytes
      within_step true t e = let f : Some bytes ≡ None = e in absurd (cc)
      within_step false t e = le_false bytes most t

  none_within : (bytes most : ℕ) → most < bytes → bytes_within bytes most ≡ None
  none_within bytes most l = let t : nat_le bytes most ≡ false = above bytes most l in ap (λ (b : Bool). if b then Some bytes else None) t
    where
      above : (bytes most : ℕ) → most < bytes → nat_le bytes most ≡ false
      above bytes most l = grind (arith, nat_tests)

  module _ (c : Candidate) (f : Field) (w : Word) where
    pub seated : breaks_in_word slots fields c f w ≡ None → IsSeated slots fields c f w
    seated e =
        let parts = none_of_five (wrong_group c f w) (overlaps slots fields f) (passes_end slots f w) (wrong_size slots fields f w) (saves_nothing slots fields f w) e in
        let meeting = none_mapped (λ (g : Field). breach f.slot 3 f.shift g.shift) (first_overlapped slots fields f) parts.1 in
        let most = most_bits slots f.word 0 fields in
        record {
          of_group = same_number w.group c.group (where_none (not (w.group == c.group)) (breach f.slot 2 w.group c.group) parts.0);
          apart = λ j g s o same bit a b.
              no_common f g (second_false (not (g.slot == f.slot)) (overlap slots f g) (none_passes (meets f) fields meeting j g s) (is_other g.slot f.slot o)) same bit a b;
          within = lt_false w.bits (end_of slots f) (where_none (nat_lt w.bits (end_of slots f)) (breach f.slot 4 (end_of slots f) w.bits) parts.2);
          sized = has_size w.bits most (not_false (is_size w.bits most) (where_none (not (is_size w.bits most)) (breach f.slot 5 w.bits most) parts.3));
          saves = within_none (bytes_in slots f.word fields) (w.bits / 8) (none_mapped (breach f.slot 6 (w.bits / 8)) (bytes_within (bytes_in slots f.word fields) (w.bits / 8)) parts.4);
        }

    pub keeps_rules : IsSeated slots fields c f w → breaks_in_word slots fields c f w ≡ None
    keeps_rules h =
        let most = most_bits slots f.word 0 fields in
        five_none (wrong_group c f w) (overlaps slots fields f) (passes_end slots f w) (wrong_size slots fields f w) (saves_nothing slots fields f w)
        (none_where (not (w.group == c.group)) (breach f.slot 2 w.group c.group) (no_other w.group c.group h.of_group))
        (mapped_none (λ (g : Field). breach f.slot 3 f.shift g.shift) (first_overlapped slots fields f)
        (passes_none (meets f) fields (λ j g s. unless_true (not (g.slot == f.slot)) (overlap slots f g) (λ o. no_overlap f g (h.apart j g s (others g.slot f.slot o))))))
        (none_where (nat_lt w.bits (end_of slots f)) (breach f.slot 4 (end_of slots f) w.bits) (not_lt w.bits (end_of slots f) h.within))
        (none_where (not (is_size w.bits most)) (breach f.slot 5 w.bits most) (not_true (is_size w.bits most) (size_from w.bits most h.sized)))
        (mapped_none (breach f.slot 6 (w.bits / 8)) (bytes_within (bytes_in slots f.word fields) (w.bits / 8)) (none_within (bytes_in slots f.word fields) (w.bits / 8) h.saves))
      where
        others : (a b : ℕ) → not (a == b) ≡ true → a ≢ b
        others a b h = grind (arith, nat_tests)

-- ---- where a slot stands

one_if_true : (b : Bool) → b ≡ true → one_if b ≡ 1
one_if_true b e = ap one_if e

-- a slot that stands in the list of a form stands in a list
pub stands_some : (plan : Plan) (n : ℕ) (as_form : Form) → stands_as plan n as_form ≡ true → 0 < times plan n
stands_some plan n form.Field e = let k = one_if_true (stands_as plan n form.Field) e in omega (arith, k)
stands_some plan n form.Const e = let k = one_if_true (stands_as plan n form.Const) e in omega (arith, k)
stands_some plan n form.Array e = let k = one_if_true (stands_as plan n form.Array) e in omega (arith, k)

-- forms by their numbers
same_form : (a b : Form) → form_number a ≡ form_number b → a ≡ b
same_form form.Field form.Field e = refl
same_form form.Field form.Const e = absurd (omega (arith, e))
same_form form.Field form.Array e = absurd (omega (arith, e))
same_form form.Const form.Field e = absurd (omega (arith, e))
same_form form.Const form.Const e = refl
same_form form.Const form.Array e = absurd (omega (arith, e))
same_form form.Array form.Field e = absurd (omega (arith, e))
same_form form.Array form.Const e = absurd (omega (arith, e))
same_form form.Array form.Array e = refl

module _ (plan : Plan) (n : ℕ) (c : Candidate) where
  placed_as : (as_form : Form) → misplaced_as plan n c as_form ≡ None → stands_as plan n as_form ≡ true → as_form ≡ c.form
  placed_as as_form e s =
      let test = where_none (stands_as plan n as_form && not (form_number as_form == form_number c.form)) (breach n 7 (form_number as_form) (form_number c.form)) e in
      same_form as_form c.form (same_number (form_number as_form) (form_number c.form) (second_false (stands_as plan n as_form) (not (form_number as_form == form_number c.form)) test s))

  not_misplaced : (as_form : Form) → (stands_as plan n as_form ≡ true → as_form ≡ c.form) → misplaced_as plan n c as_form ≡ None
  not_misplaced as_form h =
      none_where (stands_as plan n as_form && not (form_number as_form == form_number c.form)) (breach n 7 (form_number as_form) (form_number c.form))
      (unless_true (stands_as plan n as_form) (not (form_number as_form == form_number c.form)) (λ s. no_other (form_number as_form) (form_number c.form) (ap form_number (h s))))

  in_form : misplaced plan n c ≡ None → (as_form : Form) → stands_as plan n as_form ≡ true → as_form ≡ c.form
  in_form e form.Field s = placed_as form.Field (none_of_three (misplaced_as plan n c form.Field) (misplaced_as plan n c form.Const) (misplaced_as plan n c form.Array) e).0 s
  in_form e form.Const s = placed_as form.Const (none_of_three (misplaced_as plan n c form.Field) (misplaced_as plan n c form.Const) (misplaced_as plan n c form.Array) e).1 s
  in_form e form.Array s = placed_as form.Array (none_of_three (misplaced_as plan n c form.Field) (misplaced_as plan n c form.Const) (misplaced_as plan n c form.Array) e).2 s

  none_misplaced : ((as_form : Form) → stands_as plan n as_form ≡ true → as_form ≡ c.form) → misplaced plan n c ≡ None
  none_misplaced h =
      three_none (misplaced_as plan n c form.Field) (misplaced_as plan n c form.Const) (misplaced_as plan n c form.Array)
      (not_misplaced form.Field (h form.Field)) (not_misplaced form.Const (h form.Const)) (not_misplaced form.Array (h form.Array))

-- ---- the rules of one slot

module _ (slots : List Candidate) (plan : Plan) (n : ℕ) (c : Candidate) where
  abbrev all_rules : Option Illegal
  all_rules = option_or (has_reason n c) (option_or (breaks_as_field slots plan n c) (option_or (misplaced plan n c) (repeated plan n)))

  -- the slot breaks no rule, if it stands in a list
  pub record IsKept : Type 0 where
    pub reason : c.reason ≡ None
    pub field : breaks_as_field slots plan n c ≡ None
    pub in_place : misplaced plan n c ≡ None
    pub once : repeated plan n ≡ None

  rules_of : all_rules ≡ None → IsKept
  rules_of e =
      let parts = none_of_four (has_reason n c) (breaks_as_field slots plan n c) (misplaced plan n c) (repeated plan n) e in
      record { reason = none_mapped (λ (r : Reason). breach n 1 (reason_number r) 0) c.reason parts.0; field = parts.1; in_place = parts.2; once = parts.3 }

  kept_step : (b : Bool) → b ≡ true → (if b then all_rules else None) ≡ None → all_rules ≡ None
  kept_step true t e = e
  kept_step false t e = absurd (cc)

  kept : breaks slots plan n c ≡ None → 0 < times plan n → IsKept
  kept e s = rules_of (kept_step (nat_lt 0 (times plan n)) (is_lt 0 (times plan n) s) e)

  unbroken_step : (b : Bool) → nat_lt 0 (times plan n) ≡ b → (0 < times plan n → all_rules ≡ None) → (if b then all_rules else None) ≡ None
  unbroken_step true t h = h (lt_true 0 (times plan n) t)
  unbroken_step false t h = refl

  unbroken : (0 < times plan n → IsKept) → breaks slots plan n c ≡ None
  unbroken h = unbroken_step (nat_lt 0 (times plan n)) refl (λ s.
      let k = h s in
      four_none (has_reason n c) (breaks_as_field slots plan n c) (misplaced plan n c) (repeated plan n)
      (mapped_none (λ (r : Reason). breach n 1 (reason_number r) 0) c.reason k.reason) k.field k.in_place k.once)

  -- the rules of the slot's field
  field_step : (o : Option Field) (f : Field) → o ≡ Some f → (v : Option Word) (w : Word) → slice_get plan.words f.word ≡ Some w
      → option_and_then (λ (g : Field). option_and_then (breaks_in_word slots plan.fields c g) (slice_get plan.words g.word)) o ≡ None → breaks_in_word slots plan.fields c f w ≡ None
  field_step None f e v w s h = absurd (cc)
  field_step (Some g) f e v w s h =
      let k : g ≡ f = cc in
      let moved = subst (λ (g : Field). option_and_then (breaks_in_word slots plan.fields c g) (slice_get plan.words g.word) ≡ None) k h in
      subst (λ (o : Option Word). option_and_then (breaks_in_word slots plan.fields c f) o ≡ None) s moved

  in_word : breaks_as_field slots plan n c ≡ None → (f : Field) → field_of plan.fields n ≡ Some f → (w : Word) → slice_get plan.words f.word ≡ Some w → breaks_in_word slots plan.fields c f w ≡ None
  in_word h f e w s = field_step (field_of plan.fields n) f e None w s h

  word_step : (f : Field) (v : Option Word) → slice_get plan.words f.word ≡ v → ((w : Word) → slice_get plan.words f.word ≡ Some w → breaks_in_word slots plan.fields c f w ≡ None)
      → option_and_then (breaks_in_word slots plan.fields c f) v ≡ None
  word_step f None s h = refl
  word_step f (Some w) s h = h w s

  no_field_step : (o : Option Field) → field_of plan.fields n ≡ o → ((f : Field) → field_of plan.fields n ≡ Some f → (w : Word) → slice_get plan.words f.word ≡ Some w → breaks_in_word slots plan.fields c f w ≡ None)
      → option_and_then (λ (g : Field). option_and_then (breaks_in_word slots plan.fields c g) (slice_get plan.words g.word)) o ≡ None
  no_field_step None e h = refl
  no_field_step (Some f) e h = word_step f (slice_get plan.words f.word) refl (h f e)

  unbroken_field : ((f : Field) → field_of plan.fields n ≡ Some f → (w : Word) → slice_get plan.words f.word ≡ Some w → breaks_in_word slots plan.fields c f w ≡ None) → breaks_as_field slots plan n c ≡ None
  unbroken_field h = no_field_step (field_of plan.fields n) refl h

-- ---- the rules of all slots

module _ (slots : List Candidate) (plan : Plan) where
  each_unbroken : (m : ℕ) (cs : List Candidate) → first_breach slots plan m cs ≡ None → (i : ℕ) (c : Candidate) → slice_get cs i ≡ Some c → breaks slots plan (m + i) c ≡ None
  each_unbroken m [] e i c s = let f : None ≡ Some c = s in absurd (cc)
  each_unbroken m (d ∷ cs) e zero c s =
      let f : Some d ≡ Some c = s in
      let k : d ≡ c = cc in
      let p : m ≡ m + 0 = omega arith in
      subst (λ (k : ℕ). breaks slots plan k c ≡ None) p (subst (λ (x : Candidate). breaks slots plan m x ≡ None) k (none_of_two (breaks slots plan m d) (first_breach slots plan (m + 1) cs) e).0)
  each_unbroken m (d ∷ cs) e (suc i) c s =
      let p : m + 1 + i ≡ m + suc i = omega arith in
      subst (λ (k : ℕ). breaks slots plan k c ≡ None) p (each_unbroken (m + 1) cs (none_of_two (breaks slots plan m d) (first_breach slots plan (m + 1) cs) e).1 i c s)

  all_unbroken : (m : ℕ) (cs : List Candidate) → ((i : ℕ) (c : Candidate) → slice_get cs i ≡ Some c → breaks slots plan (m + i) c ≡ None) → first_breach slots plan m cs ≡ None
  all_unbroken m [] h = refl
  all_unbroken m (d ∷ cs) h =
      let p : m + 0 ≡ m = omega arith in
      two_none (breaks slots plan m d) (first_breach slots plan (m + 1) cs)
      (subst (λ (k : ℕ). breaks slots plan k d ≡ None) p (h zero d refl))
      (all_unbroken (m + 1) cs (λ i c s. let q : m + suc i ≡ m + 1 + i = omega arith in subst (λ (k : ℕ). breaks slots plan k c ≡ None) q (h (suc i) c s)))

  no_breach : first_illegal slots plan ≡ None → (n : ℕ) (c : Candidate) → slice_get slots n ≡ Some c → breaks slots plan n c ≡ None
  no_breach e n c s = let p : 0 + n ≡ n = omega arith in subst (λ (k : ℕ). breaks slots plan k c ≡ None) p (each_unbroken 0 slots e n c s)

  field_stands : (j : ℕ) (f : Field) → slice_get plan.fields j ≡ Some f → stands_as plan f.slot form.Field ≡ true
  field_stands j f s = any_at (λ (g : Field). g.slot == f.slot) plan.fields j f s (is_same f.slot f.slot refl)

  pub legal : first_illegal slots plan ≡ None → IsLegal slots plan
  legal e = record {
    free = λ n c s t. (kept slots plan n c (no_breach e n c s) t).reason;
    seated = λ j f c w at s v.
        let t = stands_some plan f.slot form.Field (field_stands j f at) in
        seated slots plan.fields c f w (in_word slots plan f.slot c (kept slots plan f.slot c (no_breach e f.slot c s) t).field f (its_field 0 plan.fields j f plan.fields_ascend at) w v);
    in_form = λ n c as_form s t. in_form plan n c (kept slots plan n c (no_breach e n c s) (stands_some plan n as_form t)).in_place as_form t;
    once = λ n c s. at_most n (times plan n) refl (λ t. (kept slots plan n c (no_breach e n c s) t).once);
  }
    where
      at_most : (n t : ℕ) → times plan n ≡ t → (0 < times plan n → repeated plan n ≡ None) → t ≤ 1
      at_most n zero e h = omega arith
      at_most n (suc t) e h =
          let k = h (omega (arith, e)) in
          let l = lt_false 1 (times plan n) (where_none (nat_lt 1 (times plan n)) (breach n 8 (times plan n) 1) k) in
          omega (arith, l, e)

  pub is_legal : IsLegal slots plan → first_illegal slots plan ≡ None
  is_legal h = all_unbroken 0 slots (λ i c s.
      let p : i ≡ 0 + i = omega arith in
      subst (λ (k : ℕ). breaks slots plan k c ≡ None) p (unbroken slots plan i c (λ t. record {
        reason = h.free i c s t;
        field = unbroken_field slots plan i c (λ f e w v. in_word_at i c s f e w v);
        in_place = none_misplaced plan i c (λ as_form t. h.in_form i c as_form s t);
        once = none_where (nat_lt 1 (times plan i)) (breach i 8 (times plan i) 1) (not_lt 1 (times plan i) (h.once i c s));
      })))
    where
      in_word_at : (n : ℕ) (c : Candidate) → slice_get slots n ≡ Some c → (f : Field) → field_of plan.fields n ≡ Some f → (w : Word) → slice_get plan.words f.word ≡ Some w → breaks_in_word slots plan.fields c f w ≡ None
      in_word_at n c s f e w v =
          let there = found (λ (g : Field). g.slot == n) plan.fields f e in
          let k : f.slot ≡ n = same_true f.slot n there.passes in
          keeps_rules slots plan.fields c f w (h.seated there.place f c w there.there (ap (slice_get slots) k ∙ s) v)
