-- The measure of the recursion over a type and the structures that it stands on: how many arrays are
-- left to enter, each structure's members counted with the structure.
use Rattle.std.proofs.Common.{arith, ◌≡◌, ◌≤◌, ◌+◌, ℕ, zero, suc, List, [], ◌∷◌, take, subst, ap, ◌∙◌, Some, slice_get}
use Rattle.cc_program.specs.declared.types.CType.{CType, fold-CType, fold_out-CType}
use Rattle.cc_program.specs.declared.types.Shape.{Array, out-Shape, fold-Shape, fold_out-Shape, map-Shape, Shape}
use Rattle.cc_program.specs.declared.types.Shape.TheOpen as shape
use Rattle.cc_program.specs.declared.types.Shape.TheVariants.{outs-Array}
use Rattle.cc_program.specs.declared.types.Sig.{Sig, fold-Sig}
use Rattle.cc_program.specs.declared.types.Structure.{Structure}
use Rattle.cc_syntax.specs.Types.{Named}

abbrev shape_arrays : shape.Shape-F ℕ ℕ (Unit {0}) → ℕ
shape_arrays shape.Void = 0
shape_arrays (shape.Int t) = 0
shape_arrays (shape.Pointer t) = 0
shape_arrays (shape.Array t n) = t + 1
shape_arrays (shape.Struct s) = 0
shape_arrays (shape.Func s) = 0

unfoldable pub arrays : CType → ℕ
arrays t = fold-CType ℕ ℕ (Unit {0}) shape_arrays (λ t. t.shape) (λ s. tt) t

parts_arrays : shape.Shape-F Shape CType Sig → shape.Shape-F ℕ ℕ (Unit {0})
parts_arrays x = map-Shape Shape CType Sig ℕ ℕ (Unit {0}) (fold-Shape ℕ ℕ (Unit {0}) shape_arrays (λ t. t.shape) (λ s. tt)) arrays (fold-Sig ℕ ℕ (Unit {0}) shape_arrays (λ t. t.shape) (λ s. tt)) x

pub arrays-Array : (t e : CType) (n : ℕ) → t.shape ≡ Array e n → arrays t ≡ arrays e + 1
unfolding arrays parts_arrays
arrays-Array t e n h =
    fold_out-CType ℕ ℕ (Unit {0}) shape_arrays (λ t. t.shape) (λ s. tt) t
    ∙ fold_out-Shape ℕ ℕ (Unit {0}) shape_arrays (λ t. t.shape) (λ s. tt) t.shape
    ∙ ap (λ x. shape_arrays (parts_arrays x)) (ap out-Shape h ∙ outs-Array e n)

unfoldable pub in_members : List Named → ℕ
in_members [] = 0
in_members (m ∷ ms) = arrays m.1 + in_members ms

unfoldable pub in_structures : List Structure → ℕ
in_structures [] = 0
in_structures (s ∷ ss) = (in_members s.members + 2) + in_structures ss

pub member_below : (ms : List Named) (i : ℕ) (m : Named) → slice_get ms i ≡ Some m → arrays m.1 ≤ in_members ms
unfolding in_members
member_below [] i m h = absurd (cc)
member_below (n ∷ ms) zero m h = let e : n ≡ m = cc in subst (λ (m : Named). arrays m.1 ≤ arrays n.1 + in_members ms) e (omega arith)
member_below (n ∷ ms) (suc i) m h = let r = member_below ms i m h in omega (arith, r)

pub structure_below : (ss : List Structure) (i : ℕ) (s : Structure) → slice_get ss i ≡ Some s → in_structures (take i ss) + in_members s.members + 2 ≤ in_structures ss
unfolding in_structures
structure_below [] i s h = absurd (cc)
structure_below (r ∷ ss) zero s h = let e : r ≡ s = cc in subst (λ (s : Structure). 0 + in_members s.members + 2 ≤ (in_members r.members + 2) + in_structures ss) e (omega arith)
structure_below (r ∷ ss) (suc i) s h = let k = structure_below ss i s h in omega (arith, k)
