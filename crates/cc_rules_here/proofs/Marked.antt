-- Marks of registers, function by function.
use Rattle.std.proofs.Common.{◌≡◌, ℕ, zero, suc, Bool, true, List, [], ◌∷◌, Some, is_some, slice_get, refl, ap, sym, subst, ◌∙◌}
use Rattle.std.proofs.lemmas.Option.{none-some, same_Some}
use Rattle.std.specs.List.{AllZip}
use Rattle.cc_program.specs.declared.func.Func.{Func}
use Rattle.cc_program.specs.declared.program.Program.{Program}
use Rattle.cc_state_points.specs.CcRegisters.Kept.{AreKept}
use Rattle.cc_rules_here.specs.Marks.{AreMarksOf}

zip_there : {A B : Type 0} (R : A → B → Type 0) (xs : List A) (ys : List B) (n : ℕ) (x : A) → AllZip R xs ys → slice_get xs n ≡ Some x → (y : B) × (slice_get ys n ≡ Some y) × R x y
zip_there R [] ys n x z e = absurd (none-some x e)
zip_there R (a ∷ xs) [] n x z e = absurd z
zip_there R (a ∷ xs) (b ∷ ys) zero x z e = (b, refl, subst (λ a. R a b) (same_Some a x e) z.0)
zip_there R (a ∷ xs) (b ∷ ys) (suc n) x z e = zip_there R xs ys n x z.1 e

-- of each function
pub marks_there : (p : Program) (marks : List (List Bool)) (id : ℕ) (f : Func) → AreMarksOf p marks → slice_get p.funcs id ≡ Some f → is_some (slice_get marks id) ≡ true
marks_there p marks id f h e = let k = zip_there AreKept p.funcs marks id f h e in ap is_some k.1

pub marks_kept : (p : Program) (marks : List (List Bool)) (id : ℕ) (f : Func) (kept : List Bool) → AreMarksOf p marks → slice_get p.funcs id ≡ Some f → slice_get marks id ≡ Some kept → AreKept f kept
marks_kept p marks id f kept h e g =
    let k = zip_there AreKept p.funcs marks id f h e in
    subst (AreKept f) (same_Some k.0 kept (sym k.1 ∙ g)) k.2
