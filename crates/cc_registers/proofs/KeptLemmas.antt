-- What is kept of the locals of a function, as far as a loop has come.
use Rattle.std.proofs.Common.{arith, ◌≡◌, ◌<◌, ◌≤◌, ◌+◌, ◌⊎◌, inl, inr, ℕ, zero, suc, Bool, false, not, ◌&&◌, List, [], ◌∷◌, ◌++◌, length, Some, refl, ap, sym, ◌∙◌, slice_get}
use Rattle.std.proofs.lemmas.Option.{slice_get_past}
use Rattle.cc_program.specs.declared.func.Func.{Func}
use Rattle.cc_typed.specs.CcSyntax.Registers.{is_register, may_be_register, is_addressed}
use Rattle.cc_registers.specs.Kept.{AreKept, if_kept}
use Rattle.cc_registers.specs.Marks.{marks_of}
use Rattle.cc_registers.specs.Taken.{taken_by_all}
use Rattle.cc_registers.proofs.Addressed.{addressed-is}
use Rattle.cc_registers.proofs.MarkLemmas.{marks-are}

-- below a number
abbrev pub AreKeptBelow : Func → List Bool → ℕ → Type 0
AreKeptBelow f kept n = (local : ℕ) → local < n → if_kept (slice_get kept local) ≡ is_register f local

slice-first : (xs ys : List Bool) (k : ℕ) → k < length xs → slice_get (xs ++ ys) k ≡ slice_get xs k
slice-first [] ys k h = absurd (omega (arith, h))
slice-first (x ∷ xs) ys zero h = refl
slice-first (x ∷ xs) ys (suc k) h = slice-first xs ys k (omega (arith, h))

slice-next : (xs : List Bool) (y : Bool) (k : ℕ) → k ≡ length xs → slice_get (xs ++ y ∷ []) k ≡ Some y
slice-next [] y zero h = refl
slice-next [] y (suc k) h = absurd (omega (arith, h))
slice-next (x ∷ xs) y zero h = absurd (omega (arith, h))
slice-next (x ∷ xs) y (suc k) h = slice-next xs y k (omega (arith, h))

lt-or : (j k : ℕ) → (j < k) ⊎ (k ≤ j)
lt-or zero zero = inr (omega arith)
lt-or zero (suc k) = inl (omega arith)
lt-or (suc j) zero = inr (omega arith)
lt-or (suc j) (suc k) = elim (lt-or j k) [ inl h ↦ inl (omega (arith, h)) | inr h ↦ inr (omega (arith, h)) ]

past : (f : Func) (local : ℕ) → length f.locals ≤ local → is_register f local ≡ false
unfolding is_register
past f local h = ap (λ o. may_be_register o && not (is_addressed f local)) (slice_get_past f.locals local h)

-- a local that may be a register and is not marked
abbrev pub is_kept : Func → List Bool → ℕ → Bool
is_kept f addressed local = may_be_register (slice_get f.locals local) && not (if_kept (slice_get addressed local))

kept-is : (f : Func) (local : ℕ) → local < length f.locals → is_kept f (marks_of (length f.locals) (taken_by_all f.body)) local ≡ is_register f local
unfolding is_register
kept-is f local h = ap (λ b. may_be_register (slice_get f.locals local) && not b) (marks-are (length f.locals) (taken_by_all f.body) local h ∙ addressed-is local f)

last : (f : Func) (kept : List Bool) (i : ℕ) (b : Bool) → length kept ≡ i → b ≡ is_register f i → (local : ℕ) → local ≡ i → if_kept (slice_get (kept ++ b ∷ []) local) ≡ is_register f local
last f kept i b e is local here = ap if_kept (slice-next kept b local (here ∙ sym e)) ∙ is ∙ ap (is_register f) (sym here)

pub kept-more : (f : Func) (kept addressed : List Bool) (i : ℕ) (b : Bool) → addressed ≡ marks_of (length f.locals) (taken_by_all f.body) → i < length f.locals → b ≡ is_kept f addressed i →
    length kept ≡ i → AreKeptBelow f kept i → AreKeptBelow f (kept ++ b ∷ []) (i + 1)
kept-more f kept addressed i b are inside is e below local h = elim (lt-or local i) [
  | inl k ↦ ap if_kept (slice-first kept (b ∷ []) local (omega (arith, e, k))) ∙ below local k
  | inr k ↦ last f kept i b e (is ∙ ap (λ m. is_kept f m i) are ∙ kept-is f i inside) local (omega (arith, h, k))
]

pub kept-all : (f : Func) (kept : List Bool) → length kept ≡ length f.locals → AreKeptBelow f kept (length f.locals) → AreKept f kept
kept-all f kept e below local = elim (lt-or local (length f.locals)) [
  | inl b ↦ below local b
  | inr b ↦ ap if_kept (slice_get_past kept local (omega (arith, e, b))) ∙ sym (past f local b)
]

pub ruleset kept_rules = (kept-more, kept-all)
