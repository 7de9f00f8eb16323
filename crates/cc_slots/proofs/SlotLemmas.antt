-- What is made of the accesses of a key, and of its values, is its slot.
use Rattle.std.proofs.Common.{arith, ◌≡◌, ◌≤◌, ℕ, Bool, true, false, List, [], ◌∷◌, ◌++◌, Some, refl, ap, sym, subst, ◌∙◌}
use Rattle.std.specs.Prelude.{◌↔◌, IsTrue, option_and_then, slice_get}
use Rattle.std.proofs.lemmas.List.{map-append}
use Rattle.std.proofs.lemmas.List.Elements.{All-nil, All-push}
use Rattle.cc_code.specs.Members.{has_coding}
use Rattle.cc_layout.specs.Seats.{ram}
use Rattle.cc_state_points.specs.CcPlaces.declared.abs.Abs.{Abs}
use Rattle.cc_program.specs.declared.program.Program.{Program}
use Rattle.cc_sets.specs.declared.vals.Vals.{Vals}
use Rattle.cc_slots.proofs.AccessLemmas.{are_reads, are_writes, is_class}
use Rattle.cc_slots.proofs.CountLemmas.{count_low}
use Rattle.cc_slots.proofs.FindingLemmas.{is_reason}
use Rattle.cc_slots.specs.Counts.{scalar_bytes, scalar_count, slot_name}
use Rattle.cc_slots.specs.Made.{IsMadeSlot}
use Rattle.cc_slots.specs.Reasons.{AreBits, IsReason}
use Rattle.cc_slots.specs.Slots.{AreSlotsOf, IsSlotOf}
use Rattle.cc_slots_accesses.specs.declared.access.Access.{Access}
use Rattle.cc_slots_accesses.specs.Accesses.{AreAccesses, IsClass}
use Rattle.cc_slots_points.specs.Lists.{AreAccessesOf}
use Rattle.cc_slots_structures.specs.Copies.{capped}
use Rattle.cc_slots_types.specs.declared.slot.Slot.{Slot}
use Rattle.cc_state_points.specs.CcState.Shape.{IsSlot}
use Rattle.cc_state_points.specs.CcStateFacts.declared.facts.Facts.{Facts}
use Rattle.cc_state_points.specs.CcStateFacts.declared.facts.Key.{Key}
use Rattle.cc_state_points.specs.CcStateKeys.Addressed.{IsAddressed}
use Rattle.cc_state_points.specs.CcStateKeys.Keys.{key_number}
use Rattle.cc_state_points.specs.CcStateOperators.Domains.{Domain}
use Rattle.cc_state_points.specs.CcStateReads.Reads.{whole_of}

low_count : (n bound : ℕ) → n ≤ bound → bound ≤ 65536 → capped n ≡ n
low_count n bound h k = omega (arith, h, k)

module _ (p : Program) (d : Domain Vals) (facts : Facts Vals) where
  module _ (k : Key) (number : ℕ) (accesses : List Access) (addressed : Bool) (values : Abs Vals) (slot : Slot) (numbered : key_number p k ≡ Some number) (own : AreAccessesOf d p facts k accesses) (made : IsMadeSlot p k accesses addressed values slot) where
    to_key : k ≡ slot.key
    to_key = sym made.key

    its_reason : IsTrue addressed ↔ IsAddressed p k → IsReason p d facts slot.key slot.class slot.values slot.count slot.bytes slot.bits slot.reason
    its_reason taken =
        subst (λ (j : Key). IsReason p d facts j slot.class slot.values slot.count slot.bytes slot.bits slot.reason) to_key
        (subst (λ (v : Abs Vals). IsReason p d facts k slot.class v slot.count slot.bytes slot.bits slot.reason) (sym made.values)
        (subst (IsReason p d facts k slot.class values slot.count slot.bytes slot.bits) (sym made.reason)
        (is_reason p d facts k number numbered accesses own addressed taken slot.class values slot.count slot.bytes (has_coding values) refl slot.bits)))

    pub slot_is : IsSlot p k → ram p ≤ 65536 → IsTrue addressed ↔ IsAddressed p k → slice_get facts.whole number ≡ Some values → IsSlotOf p d facts slot
    slot_is is_slot low taken whole = record {
      name = made.name ∙ ap (slot_name p) to_key;
      class = subst (λ (j : Key). IsClass p d facts j slot.class) to_key (subst (IsClass p d facts k) (sym made.class) (is_class p d facts k number numbered accesses own));
      values = ap (whole_of p facts) made.key ∙ (ap (option_and_then (slice_get facts.whole)) numbered ∙ (whole ∙ ap Some (sym made.values)));
      count = made.count ∙ (low_count (scalar_count p k) (ram p) (count_low p k is_slot) low ∙ ap (scalar_count p) to_key);
      bytes = made.bytes ∙ ap (scalar_bytes p) to_key;
      bits = subst (λ (j : Key). AreBits j slot.values slot.bytes slot.bits) to_key (subst (λ (v : Abs Vals). AreBits k v slot.bytes slot.bits) (sym made.values) made.bits);
      reads = subst (λ (j : Key). AreAccesses p d facts false j slot.reads) to_key (subst (AreAccesses p d facts false k) (sym made.reads) (are_reads p d facts k number numbered accesses own));
      writes = subst (λ (j : Key). AreAccesses p d facts true j slot.writes) to_key (subst (AreAccesses p d facts true k) (sym made.writes) (are_writes p d facts k number numbered accesses own));
      reason = its_reason taken;
    }

  -- ---- one behind the other

  pub no_slots : (slots : List Slot) → slots ≡ [] → AreSlotsOf p d facts [] slots
  no_slots slots e = subst (AreSlotsOf p d facts []) (sym e) (record { keys = refl; each = All-nil (IsSlotOf p d facts) })

  pub one_slot : (keys : List Key) (slots more : List Slot) (k : Key) (slot : Slot) → AreSlotsOf p d facts keys slots → slot.key ≡ k → IsSlotOf p d facts slot → more ≡ slots ++ slot ∷ [] → AreSlotsOf p d facts (keys ++ k ∷ []) more
  one_slot keys slots more k slot h e is push = subst (AreSlotsOf p d facts (keys ++ k ∷ [])) (sym push) (record {
    keys =
        map-append (λ (s : Slot). s.key) slots (slot ∷ [])
        ∙ (ap (λ (l : List Key). l ++ slot.key ∷ []) h.keys ∙ ap (λ (j : Key). keys ++ j ∷ []) e);
    each = All-push (IsSlotOf p d facts) slots slot h.each is;
  })
