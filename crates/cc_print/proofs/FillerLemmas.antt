-- The value of a type by its shape; that of a structure stands on the structures before it.
use Rattle.std.proofs.Common.{arith, ◌≡◌, ◌<◌, ◌≤◌, ◌+◌, ℕ, zero, suc, fold, List, [], ◌∷◌, ◌++◌, length, length-append, take, drop, get_or, refl, ap, sym, ◌∙◌, Option, Some, None, slice_get, unwrap_or}
use Rattle.std.proofs.lemmas.Option.{slice_get_past}
use Rattle.cc_program.specs.CcNum.declared.int_type.IntType.{IntType}
use Rattle.cc_program.specs.declared.program.Program.{Program}
use Rattle.cc_program.specs.declared.types.CType.{CType, fold-CType, fold_out-CType}
use Rattle.cc_program.specs.declared.types.Shape.{Shape, Void, Int, Pointer, Array, Struct, Func, fold-Shape, fold_out-Shape, out-Shape, map-Shape}
use Rattle.cc_program.specs.declared.types.Shape.TheOpen as shape
use Rattle.cc_program.specs.declared.types.Shape.TheVariants.{outs-Void, outs-Int, outs-Pointer, outs-Array, outs-Struct, outs-Func}
use Rattle.cc_program.specs.declared.types.Sig.{Sig, fold-Sig}
use Rattle.cc_program.specs.declared.types.Structure.{Structure}
use Rattle.cc_program.specs.declared.value.Leaf.{Leaf}
use Rattle.cc_lex.specs.declared.token.Mark.TheVariants as m
use Rattle.cc_pieces.specs.Pieces.{Pieces, punct}
use Rattle.cc_typed.specs.CcSyntax.Types.{Named}
use Rattle.cc_typed.proofs.CcSyntax.Prefixes.{take_length}
use Rattle.cc_typed.proofs.CcSyntax.Shapes.{read_at}
use Rattle.cc_print.specs.Values.{Filled, Filler, filled, in_front, braced, elements, all_members, member_fillers, pointee_shape, int_leaf, pointer_leaf, scalar, shape_filler, filler_over, structure_filler, structure_fillers, filler}

some_same : {A : Type 0} → {x y : A} → Some x ≡ Some y → x ≡ y
some_same h = cc

get_before : {A : Type 0} → (xs ys : List A) (k : ℕ) → k < length xs → slice_get (xs ++ ys) k ≡ slice_get xs k
get_before [] ys k h = absurd (omega (arith, h))
get_before (x ∷ xs) ys zero h = refl
get_before (x ∷ xs) ys (suc k) h = get_before xs ys k (omega (arith, h))

get_at : {A : Type 0} → (xs : List A) (x : A) → slice_get (xs ++ x ∷ []) (length xs) ≡ Some x
get_at [] x = refl
get_at (y ∷ xs) x = get_at xs x

length_more : {A : Type 0} → (xs : List A) (x : A) → length (xs ++ x ∷ []) ≡ length xs + 1
length_more xs x = length-append xs (x ∷ [])

drop_there : {A : Type 0} → (xs : List A) (i : ℕ) (x : A) → slice_get xs i ≡ Some x → drop i xs ≡ x ∷ drop (suc i) xs
drop_there [] i x h = absurd (cc)
drop_there (y ∷ xs) zero x h = ap (λ z. z ∷ xs) (some_same h)
drop_there (y ∷ xs) (suc i) x h = drop_there xs i x h

module _ (p : Program) (leaves : List Leaf) where
  -- the values of structures behind others
  abbrev from : List Filler → List Structure → List Filler
  from before structures = fold (λ before s. before ++ structure_filler p leaves before s ∷ []) before structures

  from_keeps : (before : List Filler) (structures : List Structure) (k : ℕ) → k < length before → slice_get (from before structures) k ≡ slice_get before k
  from_keeps before [] k h = refl
  from_keeps before (s ∷ structures) k h =
      let l = structure_filler p leaves before s in
      let m = length_more before l in
      from_keeps (before ++ l ∷ []) structures k (omega (arith, h, m)) ∙ get_before before (l ∷ []) k h

  from-length : (before : List Filler) (structures : List Structure) → length (from before structures) ≡ length before + length structures
  from-length before [] = omega arith
  from-length before (s ∷ structures) =
      let l = structure_filler p leaves before s in
      let m = length_more before l in
      let r = from-length (before ++ l ∷ []) structures in
      omega (arith, m, r)

  from-split : (before : List Filler) (structures : List Structure) (i : ℕ) → from before structures ≡ from (from before (take i structures)) (drop i structures)
  from-split before [] zero = refl
  from-split before [] (suc i) = refl
  from-split before (s ∷ structures) zero = refl
  from-split before (s ∷ structures) (suc i) = from-split (before ++ structure_filler p leaves before s ∷ []) structures i

  fillers-at : (structures : List Structure) (i : ℕ) (s : Structure) → slice_get structures i ≡ Some s →
      slice_get (structure_fillers p leaves structures) i ≡ Some (structure_filler p leaves (structure_fillers p leaves (take i structures)) s)
  unfolding structure_fillers
  fillers-at structures i s h =
      let before = from [] (take i structures) in
      let n : length before ≡ i = from-length [] (take i structures) ∙ omega (arith, take_length structures i s h) in
      let l = structure_filler p leaves before s in
      let m = length_more before l in
      ap (λ ls. slice_get ls i) (from-split [] structures i ∙ ap (from before) (drop_there structures i s h))
      ∙ from_keeps (before ++ l ∷ []) (drop (suc i) structures) i (omega (arith, m, n))
      ∙ ap (slice_get (before ++ l ∷ [])) (sym n) ∙ get_at before l

  fillers-past : (structures : List Structure) (i : ℕ) → length structures ≤ i → slice_get (structure_fillers p leaves structures) i ≡ None
  unfolding structure_fillers
  fillers-past structures i h = let n = from-length [] structures in slice_get_past (from [] structures) i (omega (arith, n, h))

  module _ (fillers : List Filler) where
    abbrev parts : shape.Shape-F Shape CType Sig → shape.Shape-F (CType → Filler) (CType → Filler) (Unit {0})
    parts x = map-Shape Shape CType Sig (CType → Filler) (CType → Filler) (Unit {0})
        (fold-Shape (CType → Filler) (CType → Filler) (Unit {0}) (shape_filler p leaves fillers) (λ t. t.shape) (λ s. tt))
        (fold-CType (CType → Filler) (CType → Filler) (Unit {0}) (shape_filler p leaves fillers) (λ t. t.shape) (λ s. tt))
        (fold-Sig (CType → Filler) (CType → Filler) (Unit {0}) (shape_filler p leaves fillers) (λ t. t.shape) (λ s. tt)) x

    opens : (t : CType) → filler_over p leaves fillers t ≡ shape_filler p leaves fillers (parts (out-Shape t.shape)) t
    unfolding filler_over
    opens t = ap (λ (g : CType → Filler). g t)
        (fold_out-CType (CType → Filler) (CType → Filler) (Unit {0}) (shape_filler p leaves fillers) (λ t. t.shape) (λ s. tt) t
        ∙ fold_out-Shape (CType → Filler) (CType → Filler) (Unit {0}) (shape_filler p leaves fillers) (λ t. t.shape) (λ s. tt) t.shape)

  module _ (structures : List Structure) (t : CType) (st : Filled) where
    opened : (x : shape.Shape-F Shape CType Sig) → out-Shape t.shape ≡ x →
        filler p leaves structures t st ≡ shape_filler p leaves (structure_fillers p leaves structures) (parts (structure_fillers p leaves structures) x) t st
    opened x h = ap (λ (g : Filler). g st) (opens (structure_fillers p leaves structures) t ∙ ap (λ y. shape_filler p leaves (structure_fillers p leaves structures) (parts (structure_fillers p leaves structures) y) t) h)

    pub filler-Void : t.shape ≡ Void → filler p leaves structures t st ≡ st
    filler-Void h = opened shape.Void (ap out-Shape h ∙ outs-Void)

    pub filler-Func : (s : Sig) → t.shape ≡ Func s → filler p leaves structures t st ≡ st
    filler-Func s h = opened (shape.Func s) (ap out-Shape h ∙ outs-Func s)

    pub filler-Int : (i : IntType) → t.shape ≡ Int i → filler p leaves structures t st ≡ scalar p leaves (int_leaf p i) st.left st.text
    filler-Int i h = opened (shape.Int i) (ap out-Shape h ∙ outs-Int i)

    pub filler-Pointer : (to : CType) → t.shape ≡ Pointer to → filler p leaves structures t st ≡ scalar p leaves (pointer_leaf p to) st.left st.text
    filler-Pointer to h =
        let e = ap out-Shape h ∙ outs-Pointer to in
        opened (shape.Pointer to) e ∙ ap (λ (x : shape.Shape-F Shape CType Sig). scalar p leaves (pointer_leaf p (pointee_shape t x)) st.left st.text) e

    pub filler-past : (i : ℕ) → t.shape ≡ Struct i → length structures ≤ i → filler p leaves structures t st ≡ st
    filler-past i h b = opened (shape.Struct i) (ap out-Shape h ∙ outs-Struct i) ∙ ap (λ (l : Option Filler). unwrap_or {T = Filler} l (λ (s : Filled). s) st) (fillers-past structures i b)

    pub filler-Struct : (i : ℕ) (s : Structure) → t.shape ≡ Struct i → i < length structures → s ≡ get_or structures i s →
        filler p leaves structures t st ≡ structure_filler p leaves (structure_fillers p leaves (take i structures)) s st
    filler-Struct i s h b g = opened (shape.Struct i) (ap out-Shape h ∙ outs-Struct i) ∙ ap (λ (l : Option Filler). unwrap_or {T = Filler} l (λ (s : Filled). s) st) (fillers-at structures i s (read_at structures i s g b))

    pub filler-Array : (e : CType) (n : ℕ) → t.shape ≡ Array e n → filler p leaves structures t st ≡ braced (elements n (filler p leaves structures e)) st
    unfolding filler_over
    filler-Array e n h =
        let q = ap out-Shape h ∙ outs-Array e n in
        opened (shape.Array e n) q
        ∙ ap (λ (x : shape.Shape-F Shape CType Sig). braced (elements n (fold-CType (CType → Filler) (CType → Filler) (Unit {0}) (shape_filler p leaves (structure_fillers p leaves structures)) (λ t. t.shape) (λ s. tt) e (pointee_shape t x))) st) q

module _ (p : Program) (leaves : List Leaf) (structures : List Structure) (t : CType) where
  -- an array between its braces
  pub array_at : (e f : CType) (n left rest : ℕ) (ps one two three : Pieces) → t.shape ≡ Array e n → f ≡ e → one ≡ punct m.RBrace ∷ ps →
      filled rest two ≡ elements n (filler p leaves structures f) (filled left one) → three ≡ punct m.LBrace ∷ two → filled rest three ≡ filler p leaves structures t (filled left ps)
  array_at e f n left rest ps one two three is same b h k =
      ap (filled rest) k
      ∙ ap (in_front (λ zs. punct m.LBrace ∷ zs))
      (h ∙ ap (λ x. elements n (filler p leaves structures x) (filled left one)) same ∙ ap (λ zs. elements n (filler p leaves structures e) (filled left zs)) b)
      ∙ sym (filler-Array p leaves structures t (filled left ps) e n is)

  -- a structure between its braces
  pub structure_at : (i : ℕ) (s : Structure) (members : List Named) (left rest : ℕ) (ps one two three : Pieces) → t.shape ≡ Struct i → i < length structures → s ≡ get_or structures i s →
      members ≡ s.members → one ≡ punct m.RBrace ∷ ps →
      filled rest two ≡ all_members (member_fillers p leaves (structure_fillers p leaves (take i structures)) members) (filled left one) → three ≡ punct m.LBrace ∷ two →
      filled rest three ≡ filler p leaves structures t (filled left ps)
  structure_at i s members left rest ps one two three is l g same b h k =
      ap (filled rest) k
      ∙ ap (in_front (λ zs. punct m.LBrace ∷ zs))
      (h ∙ ap (λ ls. all_members (member_fillers p leaves (structure_fillers p leaves (take i structures)) ls) (filled left one)) same
      ∙ ap (λ zs. all_members (member_fillers p leaves (structure_fillers p leaves (take i structures)) s.members) (filled left zs)) b)
      ∙ sym (filler-Struct p leaves structures t (filled left ps) i s is l g)

pub ruleset of_fillers = (filler-Void, filler-Func)
