-- What plans and costs ask of the slots of a program.
use Rattle.std.proofs.Common.{arith, ◌≡◌, ◌≤◌, ◌<◌, ◌+◌, ◌*◌, ◌^◌, ◌∙◌, ◌||◌, ℕ, Bool, true, false, true≢false, List, [], ◌∷◌, ◌++◌, length, get_or, map, All, Option, Some, None, slice_get, nat_eq, refl, ap, sym, subst, inl, inr, length-append}
use Rattle.std.specs.Prelude.{◌⊎◌, is_some, option_and_then}
use Rattle.std.specs.List.{Contains}
use Rattle.std.proofs.lemmas.Bool.Decides.{nat_tests}
use Rattle.std.proofs.lemmas.List.{length-map}
use Rattle.std.proofs.lemmas.List.Elements.{All-contains, All-contains_itself, All-map, All-weaker, Contains-get_or}
use Rattle.std.proofs.lemmas.Nat.{mul-le}
use Rattle.std.proofs.lemmas.Option.{none-some, slice_get_within}
use Rattle.cc_code.specs.Members.{has_coding}
use Rattle.cc_state_points.specs.CcFlow.Points.{count_of}
use Rattle.cc_layout.specs.Seats.{ram}
use Rattle.cc_program.proofs.CcNum.Conversions.{few_bytes}
use Rattle.cc_program.specs.CcNum.declared.target.Target.{Target}
use Rattle.cc_plan.proofs.Ascending.{few_ascending}
use Rattle.cc_plan.specs.Plans.{candidates_of}
use Rattle.cc_plan_costs.specs.Costs.{IsPriceable}
use Rattle.cc_plan_legal.specs.declared.candidate.Candidate.{Candidate}
use Rattle.cc_plan_legal.specs.Candidates.{candidate_of}
use Rattle.cc_plan_legal.specs.Short.{AreShort, IsShort}
use Rattle.cc_program.specs.declared.program.Program.{Program}
use Rattle.cc_program.specs.declared.types.CType.{CType}
use Rattle.cc_program.specs.declared.types.Shape.{Shape, out-Shape}
use Rattle.cc_program.specs.declared.types.Shape.TheOpen as shape
use Rattle.cc_program.specs.declared.types.Sig.{Sig}
use Rattle.cc_sets.specs.declared.vals.Vals.{Vals}
use Rattle.cc_slots.proofs.CodeLemmas.{short}
use Rattle.cc_slots.proofs.CountLemmas.{count_low}
use Rattle.cc_slots.proofs.Listed.{in_map}
use Rattle.cc_slots.proofs.SlotKeys.{object_scalars, scalar_scalars, slot_key}
use Rattle.cc_slots.specs.Counts.{bytes_in, element_shape, scalar_bytes}
use Rattle.cc_slots.specs.Domain.{vals_domain}
use Rattle.cc_slots.specs.Keys.{is_member_slot, is_object_slot, member_slots, slot_keys}
use Rattle.cc_slots.specs.Reasons.{HasNoCode, IsReason, IsWide}
use Rattle.cc_slots.specs.Slots.{AreSlots, IsSlotOf}
use Rattle.cc_slots_accesses.specs.Accesses.{IsAccess}
use Rattle.cc_slots_accesses.specs.Arrays.{is_array}
use Rattle.cc_slots_types.specs.declared.reason.Reason.{Reason}
use Rattle.cc_slots_types.specs.declared.reason.Reason.TheVariants as reason
use Rattle.cc_slots_types.specs.declared.slot.Slot.{Slot}
use Rattle.cc_state_points.specs.CcState.Covered.{IsInLimits}
use Rattle.cc_state_points.specs.CcState.Shape.{HaveShape, IsSlot, ctype_of, is_row_shape, is_scalar_type, is_slot_type}
use Rattle.cc_state_points.specs.CcStateFacts.declared.facts.Facts.{Facts}
use Rattle.cc_state_points.specs.CcStateFacts.declared.facts.Key.{Key}
use Rattle.cc_state_points.specs.CcStateFacts.declared.facts.Key.TheVariants as key
use Rattle.cc_state_points.specs.CcStateFacts.declared.facts.PointFact.{PointFact}
use Rattle.cc_state_points.specs.CcStateFacts.Facts.{fact_at}
use Rattle.cc_state_points.specs.CcStateKeys.Keys.{has_member_key, has_object_key, keys_of, local_keys, member_keys}
use Rattle.cc_state_points.specs.CcStateKeys.Lists.{all_from, made_from, only_if}
use Rattle.cc_state_points.specs.CcSyntax.Layout.{layouts, shape_layout, size_of}
use Rattle.cc_state_points.specs.CcSyntax.Values.{scalar_shape}
use Rattle.cc_state_points.proofs.CcSyntax.TypeLayouts.{layout-opens, parts_layout}

-- ---- a scalar has at most 8 bytes

two_or_four : (n : ℕ) → (nat_eq n 2 || nat_eq n 4) ≡ true → n ≤ 8
two_or_four n h = grind (arith, nat_tests)

module _ (p : Program) where
  shape_few : (x : shape.Shape-F Shape CType Sig) → is_some (scalar_shape x) ≡ true
      → (shape_layout p.target (layouts p.target p.structures) (parts_layout p.target (layouts p.target p.structures) x)).size ≤ 8
  shape_few (shape.Int i) h = few_bytes i p.target
  shape_few (shape.Pointer to) h = two_or_four p.target.pointer_bytes p.target.pointer
  shape_few shape.Void h = absurd (true≢false (sym h))
  shape_few (shape.Array of n) h = absurd (true≢false (sym h))
  shape_few (shape.Struct s) h = absurd (true≢false (sym h))
  shape_few (shape.Func sig) h = absurd (true≢false (sym h))

  scalar_few : (t : CType) → is_scalar_type t ≡ true → size_of t p.structures p.target ≤ 8
  scalar_few t h = subst (λ l. l.size ≤ 8) (sym (layout-opens p.target (layouts p.target p.structures) t)) (shape_few (out-Shape t.shape) h)

  by_shape : (t : CType) (x : shape.Shape-F Shape CType Sig) → out-Shape t.shape ≡ x → (is_some (scalar_shape x) || is_row_shape x) ≡ true → size_of (element_shape t x) p.structures p.target ≤ 8
  by_shape t (shape.Int i) e h = scalar_few t (ap (λ x. is_some (scalar_shape x)) e)
  by_shape t (shape.Pointer to) e h = scalar_few t (ap (λ x. is_some (scalar_shape x)) e)
  by_shape t (shape.Array of n) e h = scalar_few of h
  by_shape t shape.Void e h = absurd (true≢false (sym h))
  by_shape t (shape.Struct s) e h = absurd (true≢false (sym h))
  by_shape t (shape.Func sig) e h = absurd (true≢false (sym h))

  or_row : (a b : Bool) → a ≡ true → (a || b) ≡ true
  or_row a b h = ap (λ x. x || b) h

  typed_few : (k : Key) (t : CType) → is_slot_type k t ≡ true → bytes_in p (Some t) ≤ 8
  typed_few (key.Object i) t h = by_shape t (out-Shape t.shape) refl h
  typed_few (key.Local f r) t h = absurd (true≢false (sym h))
  typed_few (key.Member s m) t h = by_shape t (out-Shape t.shape) refl (or_row (is_scalar_type t) (is_row_shape (out-Shape t.shape)) h)

  pub bytes_few : (k : Key) → IsSlot p k → scalar_bytes p k ≤ 8
  bytes_few k s = subst (λ (o : Option CType). bytes_in p o ≤ 8) (sym s.1) (typed_few k s.0 s.2)

-- ---- there are no more slots than keys

module _ {A B : Type 0} (passes also : ℕ → A → Bool) (make : ℕ → B) (more : (i : ℕ) (x : A) → passes i x ≡ true → also i x ≡ true) where
  no_more : (b c : Bool) (x : B) → (b ≡ true → c ≡ true) → length (only_if b x) ≤ length (only_if c x)
  no_more true true x h = omega arith
  no_more true false x h = absurd (true≢false (sym (h refl)))
  no_more false true x h = omega arith
  no_more false false x h = omega arith

  made_less : (n : ℕ) (xs : List A) → length (made_from passes make n xs) ≤ length (made_from also make n xs)
  made_less n [] = omega arith
  made_less n (x ∷ xs) =
      let here = no_more (passes n x) (also n x) (make n) (more n x) in
      let rest = made_less (n + 1) xs in
      let left = length-append (only_if (passes n x) (make n)) (made_from passes make (n + 1) xs) in
      let right = length-append (only_if (also n x) (make n)) (made_from also make (n + 1) xs) in
      omega (arith, here, rest, left, right)

module _ {A B : Type 0} (f g : ℕ → A → List B) (less : (i : ℕ) (x : A) → length (f i x) ≤ length (g i x)) where
  all_less : (n : ℕ) (xs : List A) → length (all_from f n xs) ≤ length (all_from g n xs)
  all_less n [] = omega arith
  all_less n (x ∷ xs) =
      let here = less n x in
      let rest = all_less (n + 1) xs in
      let left = length-append (f n x) (all_from f (n + 1) xs) in
      let right = length-append (g n x) (all_from g (n + 1) xs) in
      omega (arith, here, rest, left, right)

pub few_keys : (p : Program) → length (slot_keys p) ≤ length (keys_of p)
few_keys p =
    let objects = made_less is_object_slot has_object_key key.Object (λ i o h. object_scalars i o.ctype h) 0 p.objects in
    let members = all_less member_slots member_keys (λ s structure. made_less (is_member_slot s) has_member_key (key.Member s) (λ m n h. scalar_scalars n.1 h) 0 structure.members) 0 p.structures in
    let left = length-append (made_from is_object_slot key.Object 0 p.objects) (all_from member_slots 0 p.structures) in
    let right = length-append (made_from has_object_key key.Object 0 p.objects) (all_from local_keys 0 p.funcs ++ all_from member_keys 0 p.structures) in
    let behind = length-append (all_from local_keys 0 p.funcs) (all_from member_keys 0 p.structures) in
    omega (arith, objects, members, left, right, behind)

-- ---- what costs and plans ask of each

module _ (p : Program) (facts : Facts Vals) where
  there_by : (n : ℕ) (fact : PointFact Vals) (o : Option (Option (PointFact Vals))) → slice_get facts.at n ≡ o → option_and_then (λ (x : Option (PointFact Vals)). x) o ≡ Some fact → n < length facts.at
  there_by n fact None e h = absurd (none-some fact h)
  there_by n fact (Some x) e h = slice_get_within facts.at n x e

  below : (few : length facts.at ≤ 65536) (writes : Bool) (k : Key) (n : ℕ) → IsAccess p vals_domain facts writes k n → n < 65536
  below few writes k n a = let w = there_by n a.names.fact (slice_get facts.at n) refl a.names.reached in omega (arith, w, few)

  told_by : (slot : Slot) → IsSlotOf p vals_domain facts slot → slot.reason ≡ None → (b : Bool) → has_coding slot.values ≡ b → has_coding slot.values ≡ true
  told_by slot s e true h = h
  told_by slot s e false h =
      absurd (subst (λ (r : Option Reason). IsReason p vals_domain facts slot.key slot.class slot.values slot.count slot.bytes slot.bits r) e s.reason reason.Wide (HasNoCode h))

  priceable : (few : length facts.at ≤ 65536) (slot : Slot) → IsSlotOf p vals_domain facts slot → IsPriceable slot
  priceable few slot s = record {
    reads = few_ascending slot.reads 65536 s.reads.ascend (λ i l. below few false slot.key (get_or slot.reads i 0) ((s.reads.all (get_or slot.reads i 0)).0 (Contains-get_or slot.reads i 0 l)));
    writes = few_ascending slot.writes 65536 s.writes.ascend (λ i l. below few true slot.key (get_or slot.writes i 0) ((s.writes.all (get_or slot.writes i 0)).0 (Contains-get_or slot.writes i 0 l)));
    told = λ e. told_by slot s e (has_coding slot.values) refl;
  }

  short_one : (slot : Slot) → IsSlotOf p vals_domain facts slot → slot.reason ≡ None → IsShort (candidate_of slot (is_array p slot.key))
  short_one slot s e =
      short p slot (λ wide. subst (λ (r : Option Reason). IsReason p vals_domain facts slot.key slot.class slot.values slot.count slot.bytes slot.bits r) e s.reason reason.Wide wide)

  are_short : (slots : List Slot) → All (IsSlotOf p vals_domain facts) slots → AreShort (candidates_of p slots)
  are_short slots h =
      All-map (λ (c : Candidate). c.reason ≡ None → IsShort c) (λ (slot : Slot). candidate_of slot (is_array p slot.key)) slots
      (All-weaker (IsSlotOf p vals_domain facts) (λ (slot : Slot). slot.reason ≡ None → IsShort (candidate_of slot (is_array p slot.key))) (λ slot s e. short_one slot s e) slots h)

  small_product : (count bytes : ℕ) → count ≤ 65536 → bytes ≤ 8 → count * bytes ≤ 2 ^ 35
  small_product count bytes l k = let m = mul-le count bytes 65536 8 l k in omega (arith, m)

  slot_bytes : (low : ram p ≤ 65536) (slots : List Slot) → AreSlots p vals_domain facts slots → (slot : Slot) → Contains slots slot → slot.count * slot.bytes ≤ 2 ^ 35
  slot_bytes low slots h slot c =
      let s = All-contains (IsSlotOf p vals_domain facts) slots slot h.each c in
      let listed = subst (λ (ks : List Key). Contains ks slot.key) h.keys (in_map (λ (x : Slot). x.key) slots slot c) in
      let is_slot = (slot_key p slot.key listed).is_slot in
      let count = count_low p slot.key is_slot in
      let bytes = bytes_few p slot.key is_slot in
      small_product slot.count slot.bytes (omega (arith, s.count, count, low)) (omega (arith, s.bytes, bytes))

  all_bytes : (low : ram p ≤ 65536) (slots : List Slot) → AreSlots p vals_domain facts slots → All (λ (c : Candidate). c.count * c.bytes ≤ 2 ^ 35) (candidates_of p slots)
  all_bytes low slots h =
      All-map (λ (c : Candidate). c.count * c.bytes ≤ 2 ^ 35) (λ (slot : Slot). candidate_of slot (is_array p slot.key)) slots
      (All-weaker (Contains slots) (λ (slot : Slot). slot.count * slot.bytes ≤ 2 ^ 35) (slot_bytes low slots h) slots (All-contains_itself slots))

  few_slots : (slots : List Slot) → AreSlots p vals_domain facts slots → length (keys_of p) ≤ 2 ^ 32 → length slots ≤ 2 ^ 32
  few_slots slots h few =
      let keys = few_keys p in
      let same = ap length h.keys in
      let mapped = length-map slots (λ (x : Slot). x.key) in
      omega (arith, keys, same, mapped, few)

  few_at : IsInLimits vals_domain p facts → HaveShape vals_domain p facts → length facts.at ≤ 65536
  few_at limits shape = subst (λ (n : ℕ). n ≤ 65536) (sym shape.points) limits.few_points

  low_keys : IsInLimits vals_domain p facts → length (keys_of p) ≤ 2 ^ 32
  low_keys limits = let few = limits.few_facts in omega (arith, few)

  -- what plans, costs and tables ask of the slots of a program within the limits
  pub record AreReady (slots : List Slot) : Type 0 where
    pub few : length slots ≤ 2 ^ 32
    pub priceable : All IsPriceable slots
    pub short : AreShort (candidates_of p slots)
    pub bytes : All (λ (c : Candidate). c.count * c.bytes ≤ 2 ^ 35) (candidates_of p slots)

  pub ready : IsInLimits vals_domain p facts → HaveShape vals_domain p facts → ram p ≤ 65536 → (slots : List Slot) → AreSlots p vals_domain facts slots → AreReady slots
  ready limits shape low slots are = record {
    few = few_slots slots are (low_keys limits);
    priceable = All-weaker (IsSlotOf p vals_domain facts) IsPriceable (priceable (few_at limits shape)) slots are.each;
    short = are_short slots are.each;
    bytes = all_bytes low slots are;
  }
