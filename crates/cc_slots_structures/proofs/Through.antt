-- What stands in RAM through structures, where a place is added for one of them.
use Rattle.std.proofs.Common.{arith, ◌≡◌, ◌≤◌, ◌<◌, ◌+◌, ◌*◌, ◌^◌, ℕ, zero, suc, Bool, true, false, ◌&&◌, ◌||◌, List, [], ◌∷◌, length, Some, slice_get, refl, ap, sym, subst, ◌∙◌}
use Rattle.std.specs.Prelude.{slice_set}
use Rattle.std.proofs.Math.Bool.{or_assoc}
use Rattle.std.proofs.Math.Nat.{add-mul}
use Rattle.std.proofs.lemmas.Option.{none-some, same_Some}
use Rattle.cc_slots_structures.specs.declared.standing.Standing.{Standing}
use Rattle.cc_slots_structures.specs.Added.{AreCounted, copies_through, stands_through}
use Rattle.cc_slots_structures.specs.Copies.{capped, copies_at}
use Rattle.cc_slots_structures.specs.Stands.{stands_at}
use Rattle.cc_slots_structures.proofs.Capped.{capped-sum, capped-times}

-- ---- how often

one_copied : (y x n c rest : ℕ) → capped y ≡ capped (x + n) → capped (y * c + rest) ≡ capped (x * c + rest + n * c)
one_copied y x n c rest h =
    capped-sum (y * c) rest ((x + n) * c) rest (capped-times y (x + n) c h) refl
    ∙ ap capped (let d = add-mul x n c in let e : (x + n) * c + rest ≡ x * c + rest + n * c = omega (arith, d) in e)

later_copied : (head new old more : ℕ) → capped new ≡ capped (old + more) → capped (head + new) ≡ capped (head + old + more)
later_copied head new old more h =
    capped-sum head new head (old + more) refl h ∙ ap capped (let e : head + (old + more) ≡ head + old + more = omega arith in e)

pub copies_set : (list : List Standing) (s : ℕ) (x y : Standing) (n : ℕ) (counts : List ℕ) → slice_get list s ≡ Some x → capped y.copies ≡ capped (x.copies + n) → s < length counts →
    capped (copies_through (slice_set list s y) counts) ≡ capped (copies_through list counts + n * copies_at counts s)
copies_set [] s x y n counts there h lt = absurd (none-some x there)
copies_set (z ∷ list) s x y n [] there h lt = absurd (omega (arith, lt))
copies_set (z ∷ list) zero x y n (c ∷ counts) there h lt =
    one_copied y.copies z.copies n c (copies_through list counts) (h ∙ ap (λ (a : Standing). capped (a.copies + n)) (sym (same_Some z x there)))
copies_set (z ∷ list) (suc s) x y n (c ∷ counts) there h lt =
    later_copied (z.copies * c) (copies_through (slice_set list s y) counts) (copies_through list counts) (n * copies_at counts s) (copies_set list s x y n counts there h (omega (arith, lt)))

-- beyond the end nothing stands
pub none_at : (counts : List ℕ) (s : ℕ) → length counts ≤ s → copies_at counts s ≡ 0
none_at [] s le = refl
none_at (c ∷ counts) zero le = absurd (omega (arith, le))
none_at (c ∷ counts) (suc s) le = none_at counts s (omega (arith, le))

-- ---- whether

one_stands : (x b one rest : Bool) → (((x || b) && one) || rest) ≡ (((x && one) || rest) || (b && one))
one_stands true true true rest = refl
one_stands true false true rest = refl
one_stands false true true true = refl
one_stands false true true false = refl
one_stands false false true true = refl
one_stands false false true false = refl
one_stands true true false true = refl
one_stands true true false false = refl
one_stands true false false true = refl
one_stands true false false false = refl
one_stands false true false true = refl
one_stands false true false false = refl
one_stands false false false true = refl
one_stands false false false false = refl

module _ (test : Standing → Bool) where
  pub stands_set : (list : List Standing) (s : ℕ) (x y : Standing) (b : Bool) (there : List Bool) → slice_get list s ≡ Some x → test y ≡ (test x || b) → s < length there →
      stands_through test (slice_set list s y) there ≡ (stands_through test list there || (b && stands_at there s))
  stands_set [] s x y b there at h lt = absurd (none-some x at)
  stands_set (z ∷ list) s x y b [] at h lt = absurd (omega (arith, lt))
  stands_set (z ∷ list) zero x y b (one ∷ there) at h lt =
      ap (λ t. (t && one) || stands_through test list there) (h ∙ ap (λ (a : Standing). test a || b) (sym (same_Some z x at))) ∙ one_stands (test z) b one (stands_through test list there)
  stands_set (z ∷ list) (suc s) x y b (one ∷ there) at h lt =
      ap (λ t. (test z && one) || t) (stands_set list s x y b there at h (omega (arith, lt)))
      ∙ sym (or_assoc (test z && one) (stands_through test list there) (b && stands_at there s))

pub not_at : (there : List Bool) (s : ℕ) → length there ≤ s → stands_at there s ≡ false
not_at [] s le = refl
not_at (c ∷ there) zero le = absurd (omega (arith, le))
not_at (c ∷ there) (suc s) le = not_at there s (omega (arith, le))

-- ---- the other structures

pub other_kept : (list : List Standing) (s n : ℕ) (y : Standing) → s < n → slice_get (slice_set list s y) n ≡ slice_get list n
other_kept [] s n y lt = refl
other_kept (z ∷ list) s zero y lt = absurd (omega (arith, lt))
other_kept (z ∷ list) zero (suc n) y lt = refl
other_kept (z ∷ list) (suc s) (suc n) y lt = other_kept list s n y (omega (arith, lt))

pub still_counted : (list : List Standing) (s : ℕ) (y : Standing) → AreCounted list → y.copies < 2 ^ 32 → AreCounted (slice_set list s y)
still_counted [] s y h few n place there = absurd (none-some place there)
still_counted (z ∷ list) zero y h few zero place there = subst (λ (a : Standing). a.copies < 2 ^ 32) (same_Some y place there) few
still_counted (z ∷ list) zero y h few (suc n) place there = h (suc n) place there
still_counted (z ∷ list) (suc s) y h few zero place there = h zero place there
still_counted (z ∷ list) (suc s) y h few (suc n) place there = still_counted list s y (λ m it at. h (suc m) it at) few n place there
