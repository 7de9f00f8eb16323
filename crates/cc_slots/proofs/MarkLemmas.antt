-- Marks of keys, key by key.
use Rattle.std.proofs.Common.{arith, ◌≡◌, ◌≢◌, ◌<◌, ◌≤◌, ℕ, Bool, true, false, true≢false, List, [], ◌∷◌, ◌++◌, length, get_or, Option, Some, None, refl, ap, sym, subst, ◌∙◌, inl, inr}
use Rattle.std.specs.Prelude.{◌⊎◌, ◌↔◌, IsTrue, replicate, slice_set}
use Rattle.std.specs.List.{Contains}
use Rattle.std.proofs.lemmas.Bool.{cases_lt}
use Rattle.std.proofs.lemmas.Grind.{get_or-set_at}
use Rattle.std.proofs.lemmas.List.{get_or-replicate, get_or-set_other, length-replicate, length-set}
use Rattle.std.proofs.lemmas.List.Elements.{Contains-append_cases, Contains-append_left, Contains-append_right}
use Rattle.std.proofs.lemmas.Option.{same_Some, unwrap_or-slice_get}
use Rattle.cc_program.specs.declared.program.Program.{Program}
use Rattle.cc_slots.specs.Marks.{AreMarks}
use Rattle.cc_slots_accesses.proofs.Listed.{is_one, no_member, only_one}
use Rattle.cc_slots_accesses.proofs.PutAll.{number_below, one_key}
use Rattle.cc_state_points.specs.CcStateFacts.declared.facts.Key.{Key}
use Rattle.cc_state_points.specs.CcStateFacts.Facts.{mark_of}
use Rattle.cc_state_points.specs.CcStateKeys.Keys.{key_number, keys_of}

same_or : (m n : ℕ) → (m ≡ n) ⊎ (m ≢ n)
same_or m n = by (cases_lt m n) (cases_lt n m)
  where
    by : (m < n) ⊎ (n ≤ m) → (n < m) ⊎ (m ≤ n) → (m ≡ n) ⊎ (m ≢ n)
    by (inl h) k = inr (λ e. omega (arith, h, e))
    by (inr h) (inl k) = inr (λ e. omega (arith, k, e))
    by (inr h) (inr k) = inl (omega (arith, h, k))

-- ---- none

none_marked : (count n : ℕ) → n < count → mark_of (replicate count false) n ≡ false
none_marked count n lt = unwrap_or-slice_get (replicate count false) n false ∙ get_or-replicate count n false false lt

pub no_marks : (p : Program) (marks : List Bool) (count : ℕ) → marks ≡ replicate count false → count ≡ length (keys_of p) → AreMarks p [] marks
no_marks p marks count e many = subst (AreMarks p []) (sym e) (record {
  count = length-replicate count false ∙ many;
  each = λ k n numbered.
      let below = number_below p k n numbered in
      ((λ h. absurd (true≢false (sym h ∙ none_marked count n (omega (arith, below, many))))), (λ c. no_member k c));
})

-- ---- one more

module _ (p : Program) (named : List Key) (old new : List Bool) (x : Key) (h : AreMarks p named old) where
  -- one that the program lacks
  lacking : key_number p x ≡ None → new ≡ old → AreMarks p (named ++ x ∷ []) new
  lacking absent e = subst (AreMarks p (named ++ x ∷ [])) (sym e) (record {
    count = h.count;
    each = λ k n numbered. (
      (λ m. Contains-append_left named (x ∷ []) k ((h.each k n numbered).0 m)),
      (λ c. elim (Contains-append_cases named (x ∷ []) k c) [
        | inl m ↦ (h.each k n numbered).1 m
        | inr m ↦ let none : None ≡ Some n = sym absent ∙ (ap (key_number p) (only_one x k m) ∙ numbered) in absurd (cc)
      ]),
    );
  })

  module _ (number : ℕ) (is : key_number p x ≡ Some number) (lt : number < length old) (e : new ≡ slice_set old number true) where
    there : mark_of new number ≡ true
    there = unwrap_or-slice_get new number false ∙ (ap (λ l. get_or l number false) e ∙ get_or-set_at old number number true false refl lt)

    elsewhere : (n : ℕ) → n ≢ number → mark_of new n ≡ mark_of old n
    elsewhere n apart = unwrap_or-slice_get new n false ∙ (ap (λ l. get_or l n false) e ∙ (get_or-set_other old number n true false apart ∙ sym (unwrap_or-slice_get old n false)))

    one : (k : Key) (n : ℕ) → key_number p k ≡ Some n → (n ≡ number) ⊎ (n ≢ number) → IsTrue (mark_of new n) ↔ Contains (named ++ x ∷ []) k
    one k n numbered (inl same) = (
      (λ m. Contains-append_right named (x ∷ []) k (is_one x k (one_key p x k n (is ∙ ap Some (sym same)) numbered))),
      (λ c. ap (mark_of new) same ∙ there),
    )
    one k n numbered (inr apart) = (
      (λ m. Contains-append_left named (x ∷ []) k ((h.each k n numbered).0 (sym (elsewhere n apart) ∙ m))),
      (λ c. elim (Contains-append_cases named (x ∷ []) k c) [
        | inl m ↦ elsewhere n apart ∙ (h.each k n numbered).1 m
        | inr m ↦ absurd (apart (same_Some n number (sym numbered ∙ (ap (key_number p) (sym (only_one x k m)) ∙ is))))
      ]),
    )

    marked : AreMarks p (named ++ x ∷ []) new
    marked = record {
      count = ap length e ∙ (length-set old number true ∙ h.count);
      each = λ k n numbered. one k n numbered (same_or n number);
    }

  pub one_more : (key_number p x ≡ None → new ≡ old) → ((n : ℕ) → key_number p x ≡ Some n → new ≡ slice_set old n true) → AreMarks p (named ++ x ∷ []) new
  one_more none some = by (key_number p x) refl
    where
      by : (o : Option ℕ) → key_number p x ≡ o → AreMarks p (named ++ x ∷ []) new
      by None e = lacking e (none e)
      by (Some n) e = let below = number_below p x n e in let count = h.count in marked n e (omega (arith, below, count)) (some n e)
