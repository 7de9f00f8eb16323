-- The last step of a path tells whether it leads to an element.
use Rattle.std.proofs.Common.{arith, ◌≡◌, ◌-◌, ℕ, zero, suc, List, [], ◌∷◌, length, refl, ap, sym, ◌∙◌, Option, slice_get}
use Rattle.cc_program.specs.declared.value.Part.{Part}
use Rattle.cc_program.specs.declared.value.Part.TheVariants as part
use Rattle.cc_typed.specs.CcSyntax.Initial.{leads_to_element}
use Rattle.cc_sound.specs.Leaves.{is_index}

leads_at : (path : List Part) (k : ℕ) (o : Option Part) → length path ≡ suc k → slice_get path k ≡ o → leads_to_element path ≡ is_index o
leads_at [] k o h e = absurd (omega (arith, h))
leads_at (part.Index i ∷ []) zero o h e = ap is_index e
leads_at (part.Member m ∷ []) zero o h e = ap is_index e
leads_at (part.Index i ∷ []) (suc k) o h e = absurd (omega (arith, h))
leads_at (part.Member m ∷ []) (suc k) o h e = absurd (omega (arith, h))
leads_at (part.Index i ∷ y ∷ ys) zero o h e = absurd (omega (arith, h))
leads_at (part.Member m ∷ y ∷ ys) zero o h e = absurd (omega (arith, h))
leads_at (part.Index i ∷ y ∷ ys) (suc k) o h e = leads_at (y ∷ ys) k o (omega (arith, h)) e
leads_at (part.Member m ∷ y ∷ ys) (suc k) o h e = leads_at (y ∷ ys) k o (omega (arith, h)) e

pub leads_last : (path : List Part) (o : Option Part) → o ≡ slice_get path (length path - 1) → leads_to_element path ≡ is_index o
leads_last [] o h = ap is_index (sym h)
leads_last (x ∷ xs) o h =
    let e : length (x ∷ xs) - 1 ≡ length xs = omega arith in
    leads_at (x ∷ xs) (length xs) o refl (sym (h ∙ ap (slice_get (x ∷ xs)) e))
