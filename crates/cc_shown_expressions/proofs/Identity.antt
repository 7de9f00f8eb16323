-- Where each structure keeps its number, each type is as it was.
use Rattle.std.proofs.Common.{◌≡◌, ℕ, List, [], ◌∷◌, map, refl, ap, sym, ◌∙◌, subst}
use Rattle.cc_program.specs.declared.types.CType.{CType}
use Rattle.cc_program.specs.declared.types.Shape.{Shape, out-Shape, roll-Shape, out-roll-Shape}
use Rattle.cc_program.specs.declared.types.Shape.TheOpen as shape
use Rattle.cc_program.specs.declared.types.Sig.{Sig, out-Sig, roll-Sig, out-roll-Sig}
use Rattle.cc_program.proofs.Each.{Each}
use Rattle.cc_program.proofs.Levels.{sig_of_fields}
use Rattle.cc_program.proofs.TypeInduction.{with_shape, TypeParts, SigParts, by_type}
use Rattle.cc_shown_expressions.specs.Numbers.{type_numbered, sig_numbered}
use Rattle.cc_shown_expressions.proofs.Bases.{type-of-fields, shape-of-level}
use Rattle.cc_shown_expressions.proofs.Numbering.{level, level-at, constant-kept, volatile-kept, sig-level}

abbrev own : ℕ → ℕ
own i = i

abbrev Stays : CType → Type 0
Stays t = type_numbered own t ≡ t

abbrev SigStays : Sig → Type 0
SigStays s = sig_numbered own s ≡ s

level-stays : (x : shape.Shape-F Shape CType Sig) → TypeParts Stays SigStays x → level own x ≡ x
level-stays shape.Void h = refl
level-stays (shape.Int t) h = refl
level-stays (shape.Pointer to) h = ap (λ (t : CType). shape.Pointer t) h
level-stays (shape.Array of n) h = ap (λ (t : CType). shape.Array t n) h
level-stays (shape.Struct i) h = refl
level-stays (shape.Func s) h = ap (λ (s : Sig). shape.Func s) h

type-stays : (t : CType) (x : shape.Shape-F Shape CType Sig) → out-Shape t.shape ≡ x → TypeParts Stays SigStays x → Stays t
type-stays t x e h = type-of-fields (type_numbered own t) t (constant-kept own t) (volatile-kept own t) (shape-of-level (type_numbered own t).shape t.shape (level-at own t x e ∙ level-stays x h ∙ sym e))

all-stay : (ts : List CType) → Each Stays ts → map (type_numbered own) ts ≡ ts
all-stay [] h = refl
all-stay (t ∷ ts) h = ap (λ (u : CType). u ∷ map (type_numbered own) ts) h.0 ∙ ap (λ us. t ∷ us) (all-stay ts h.1)

sig-stays : (s : Sig) → SigParts Stays SigStays (out-Sig s) → SigStays s
sig-stays s h = sig_of_fields (sig_numbered own s) s (ap (λ (x : shape.Sig-F Shape CType Sig). x.result) (sig-level own s) ∙ h.0) (ap (λ (x : shape.Sig-F Shape CType Sig). x.params) (sig-level own s) ∙ all-stay (out-Sig s).params h.1)

pub stays : (t : CType) → type_numbered own t ≡ t
stays = by_type Stays SigStays (λ constant volatile x h. type-stays (with_shape constant volatile (roll-Shape x)) x (out-roll-Shape x) h)
    (λ x h. sig-stays (roll-Sig x) (subst (λ y. SigParts Stays SigStays y) (sym (out-roll-Sig x)) h))
