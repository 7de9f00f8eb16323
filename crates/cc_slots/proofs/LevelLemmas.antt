-- A handler may enter that is of the levels of some accesses where it is of those of one of them.
use Rattle.std.proofs.Common.{arith, ◌≡◌, ℕ, zero, suc, Bool, true, false, true≢false, ◌&&◌, List, [], ◌∷◌, fold, Some, slice_get, refl, ap, sym, subst, ◌∙◌, inl, inr}
use Rattle.std.specs.Prelude.{◌⊎◌, bit_or, max, nat_eq, if◌then◌else◌}
use Rattle.std.specs.Int.{bit_at}
use Rattle.std.specs.List.{Contains}
use Rattle.std.proofs.lemmas.Nat.Bits.{bit_at_or}
use Rattle.std.proofs.lemmas.Option.{none-some, same_Some, slice_get-get_or}
use Rattle.cc_slots.specs.Judged.{levels_from, with_levels}
use Rattle.cc_slots_accesses.specs.declared.access.Access.{Access}
use Rattle.cc_slots_accesses.proofs.Listed.{contains_at}
use Rattle.cc_slots_points.proofs.Tests.{here, there}
use Rattle.cc_state_points.specs.CcStateFacts.Levels.{AreLevelsWithin, all_levels, has_level, may_enter, one_may_enter}
use Rattle.cc_state_points.proofs.CcStateFacts.LevelBits.{or_left, or_right}

one_from_eq : (p : ℕ) → nat_eq p 1 ≡ true → p ≡ 1
one_from_eq p h = grind arith

eq_from_one : (p : ℕ) → p ≡ 1 → nat_eq p 1 ≡ true
eq_from_one p e = subst (λ n. nat_eq n 1 ≡ true) (sym e) refl

either_one : (p q : ℕ) → max p q ≡ 1 → (p ≡ 1) ⊎ (q ≡ 1)
either_one p q e = grind arith

level_of_either : (x y l : ℕ) → has_level (bit_or x y) l ≡ true → (has_level x l ≡ true) ⊎ (has_level y l ≡ true)
level_of_either x y l h = elim (either_one (bit_at x l) (bit_at y l) (sym (bit_at_or x y l) ∙ one_from_eq (bit_at (bit_or x y) l) h)) [
  | inl e ↦ inl (eq_from_one (bit_at x l) e)
  | inr e ↦ inr (eq_from_one (bit_at y l) e)
]

both : (a b : Bool) → (a && b) ≡ true → (a ≡ true) × (b ≡ true)
both true b h = (refl, h)
both false b h = absurd (true≢false (sym h))

as_both : (a b : Bool) → a ≡ true → b ≡ true → (a && b) ≡ true
as_both a b h k = ap (λ x. x && b) h ∙ k

pub more_enter : (running x y : ℕ) → AreLevelsWithin x y → one_may_enter running x ≡ true → one_may_enter running y ≡ true
more_enter running x y within h =
    let w = there (λ l. has_level x l && may_enter running l) all_levels h in
    let t = both (has_level x w.0) (may_enter running w.0) w.2 in
    here (λ l. has_level y l && may_enter running l) all_levels w.0 w.1 (as_both (has_level y w.0) (may_enter running w.0) (within w.0 t.0) t.1)

pub either_enters : (running x y : ℕ) → one_may_enter running (bit_or x y) ≡ true → (one_may_enter running x ≡ true) ⊎ (one_may_enter running y ≡ true)
either_enters running x y h =
    let w = there (λ l. has_level (bit_or x y) l && may_enter running l) all_levels h in
    let t = both (has_level (bit_or x y) w.0) (may_enter running w.0) w.2 in
    elim (level_of_either x y w.0 t.0) [
      | inl e ↦ inl (here (λ l. has_level x l && may_enter running l) all_levels w.0 w.1 (as_both (has_level x w.0) (may_enter running w.0) e t.1))
      | inr e ↦ inr (here (λ l. has_level y l && may_enter running l) all_levels w.0 w.1 (as_both (has_level y w.0) (may_enter running w.0) e t.1))
    ]

none_enters : (running : ℕ) → one_may_enter running 0 ≡ false
none_enters running = refl

-- ---- of a list

-- an access that is reached from such a handler
pub record Enters (running : ℕ) (accesses : List Access) : Type 0 where
  pub it : Access
  pub one : Contains accesses it
  pub reached : it.is_reached ≡ true
  pub enters : one_may_enter running it.from ≡ true

later : (running : ℕ) (x : Access) (xs : List Access) → Enters running xs → Enters running (x ∷ xs)
later running x xs h = record { it = h.it; one = contains_at (x ∷ xs) (suc h.one.0) h.it (slice_get-get_or xs h.one.0 h.it h.one.1 ∙ ap Some h.one.2); reached = h.reached; enters = h.enters }

split : (running levels : ℕ) (x : Access) (xs : List Access) (b : Bool) → x.is_reached ≡ b → one_may_enter running (if b then bit_or levels x.from else levels) ≡ true → (one_may_enter running levels ≡ true) ⊎ Enters running (x ∷ xs)
split running levels x xs true e h = elim (either_enters running levels x.from h) [
  | inl k ↦ inl k
  | inr k ↦ inr (record { it = x; one = contains_at (x ∷ xs) 0 x refl; reached = e; enters = k })
]
split running levels x xs false e h = inl h

found_in : (running levels : ℕ) (xs : List Access) → one_may_enter running (fold with_levels levels xs) ≡ true → (one_may_enter running levels ≡ true) ⊎ Enters running xs
found_in running levels [] h = inl h
found_in running levels (x ∷ xs) h = elim (found_in running (with_levels levels x) xs h) [
  | inl k ↦ split running levels x xs x.is_reached refl k
  | inr k ↦ inr (later running x xs k)
]

kept_in : (running levels : ℕ) (xs : List Access) → one_may_enter running levels ≡ true → one_may_enter running (fold with_levels levels xs) ≡ true
kept_in running levels [] h = h
kept_in running levels (x ∷ xs) h = kept_in running (with_levels levels x) xs (by x.is_reached)
  where
    by : (b : Bool) → one_may_enter running (if b then bit_or levels x.from else levels) ≡ true
    by true = more_enter running levels (bit_or levels x.from) (or_left levels x.from) h
    by false = h

put_in : (running levels : ℕ) (xs : List Access) (k : ℕ) (it : Access) → slice_get xs k ≡ Some it → it.is_reached ≡ true → one_may_enter running it.from ≡ true → one_may_enter running (fold with_levels levels xs) ≡ true
put_in running levels [] k it at reached h = absurd (none-some it at)
put_in running levels (x ∷ xs) zero it at reached h =
    let same : x ≡ it = same_Some x it at in
    kept_in running (with_levels levels x) xs (subst (λ (b : Bool). one_may_enter running (if b then bit_or levels x.from else levels) ≡ true) (sym (ap (λ (a : Access). a.is_reached) same ∙ reached))
    (more_enter running x.from (bit_or levels x.from) (or_right levels x.from) (ap (λ (a : Access). one_may_enter running a.from) same ∙ h)))
put_in running levels (x ∷ xs) (suc k) it at reached h = put_in running (with_levels levels x) xs k it at reached h

pub entered : (running : ℕ) (xs : List Access) → one_may_enter running (levels_from xs) ≡ true → Enters running xs
entered running xs h = elim (found_in running 0 xs h) [
  | inl k ↦ absurd (true≢false (sym k ∙ none_enters running))
  | inr k ↦ k
]

pub enters_from : (running : ℕ) (xs : List Access) → Enters running xs → one_may_enter running (levels_from xs) ≡ true
enters_from running xs h = put_in running 0 xs h.one.0 h.it (slice_get-get_or xs h.one.0 h.it h.one.1 ∙ ap Some h.one.2) h.reached h.enters
