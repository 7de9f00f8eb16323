-- Types that compare as the same one are the same; and what two types have in common that are one, outermost qualifiers aside.
use Rattle.std.proofs.Common.{rules, ◌≡◌, ℕ, Bool, true, false, ◌&&◌, List, [], ◌∷◌, map, refl, ap, sym, ◌∙◌, subst, eqb}
use Rattle.std.proofs.lemmas.Bool.{eqb-true, eq-eqb}
use denote.Enum.Bare.{same_true}
use Rattle.cc_program.specs.CcNum.contracts.int_type.IntType as int_type
use Rattle.cc_program.specs.CcNum.declared.int_type.IntType.{IntType}
use Rattle.cc_program.specs.declared.types.CType.{CType, fold_out-CType}
use Rattle.cc_program.specs.declared.types.Shape.{Shape, map-Shape, fold_out-Shape, out-Shape, roll-Shape, out-roll-Shape, roll-out-Shape}
use Rattle.cc_program.specs.declared.types.Shape.TheOpen as shape
use Rattle.cc_program.specs.declared.types.Sig.{Sig, out-Sig, roll-Sig, out-roll-Sig, fold_out-Sig}
use Rattle.cc_program.proofs.Each.{Each}
use Rattle.cc_program.proofs.Levels.{sig_of_fields}
use Rattle.cc_program.proofs.TypeInduction.{with_shape, TypeParts, SigParts, by_type, by_sig}
use Rattle.cc_syntax.specs.Pairs.{all_pairs}
use Rattle.cc_syntax.specs.SameTypes.{same_int, same_flag, Comparison, is_void_shape, is_int_shape, is_pointer_shape, is_array_shape, is_struct_shape, is_func_shape, compare_shape, compare_type, compare_sig, comparison_of, shape_comparison, same_sig, same_type, same_shape, alike}
use Rattle.cc_syntax.proofs.Prefixes.{both_true}

pub int_same : (s t : IntType) → same_int s t ≡ true → s ≡ t
unfolding same_int
int_same s t h = same_true int_type.the_type (search rules) s t h

pub int_itself : (t : IntType) → same_int t t ≡ true
unfolding same_int
int_itself t = eq-eqb _ _ refl

flag_same : (a b : Bool) → same_flag a b ≡ true → a ≡ b
flag_same true true h = refl
flag_same true false h = absurd (cc)
flag_same false true h = absurd (cc)
flag_same false false h = refl

flag_itself : (a : Bool) → same_flag a a ≡ true
flag_itself true = refl
flag_itself false = refl

pub and_true : (a b : Bool) → a ≡ true → b ≡ true → a && b ≡ true
and_true a b h k = rw (h, k) refl

-- ---- what a shape is that passes

void_there : (y : shape.Shape-F Shape CType Sig) → is_void_shape y ≡ true → y ≡ shape.Void
void_there shape.Void h = refl
void_there (shape.Int t) h = absurd (cc)
void_there (shape.Pointer t) h = absurd (cc)
void_there (shape.Array t n) h = absurd (cc)
void_there (shape.Struct i) h = absurd (cc)
void_there (shape.Func s) h = absurd (cc)

pub int_there : (i : IntType) (y : shape.Shape-F Shape CType Sig) → is_int_shape i y ≡ true → y ≡ shape.Int i
int_there i (shape.Int t) h = ap (λ (x : IntType). shape.Int x) (sym (int_same i t h))
int_there i shape.Void h = absurd (cc)
int_there i (shape.Pointer t) h = absurd (cc)
int_there i (shape.Array t n) h = absurd (cc)
int_there i (shape.Struct s) h = absurd (cc)
int_there i (shape.Func s) h = absurd (cc)

pointer_there : (f : CType → Bool) (y : shape.Shape-F Shape CType Sig) → is_pointer_shape f y ≡ true → (t : CType) × (y ≡ shape.Pointer t) × (f t ≡ true)
pointer_there f (shape.Pointer t) h = (t, refl, h)
pointer_there f shape.Void h = absurd (cc)
pointer_there f (shape.Int t) h = absurd (cc)
pointer_there f (shape.Array t n) h = absurd (cc)
pointer_there f (shape.Struct s) h = absurd (cc)
pointer_there f (shape.Func s) h = absurd (cc)

array_there : (f : CType → Bool) (n : ℕ) (y : shape.Shape-F Shape CType Sig) → is_array_shape f n y ≡ true → (t : CType) × (y ≡ shape.Array t n) × (f t ≡ true)
array_there f n (shape.Array t m) h =
    let both = both_true (eqb n m) (f t) h in
    (t, ap (λ (k : ℕ). shape.Array t k) (sym (eqb-true n m both.0)), both.1)
array_there f n shape.Void h = absurd (cc)
array_there f n (shape.Int t) h = absurd (cc)
array_there f n (shape.Pointer t) h = absurd (cc)
array_there f n (shape.Struct s) h = absurd (cc)
array_there f n (shape.Func s) h = absurd (cc)

struct_there : (i : ℕ) (y : shape.Shape-F Shape CType Sig) → is_struct_shape i y ≡ true → y ≡ shape.Struct i
struct_there i (shape.Struct s) h = ap (λ (k : ℕ). shape.Struct k) (sym (eqb-true i s h))
struct_there i shape.Void h = absurd (cc)
struct_there i (shape.Int t) h = absurd (cc)
struct_there i (shape.Pointer t) h = absurd (cc)
struct_there i (shape.Array t n) h = absurd (cc)
struct_there i (shape.Func s) h = absurd (cc)

func_there : (f : Sig → Bool) (y : shape.Shape-F Shape CType Sig) → is_func_shape f y ≡ true → (s : Sig) × (y ≡ shape.Func s) × (f s ≡ true)
func_there f (shape.Func s) h = (s, refl, h)
func_there f shape.Void h = absurd (cc)
func_there f (shape.Int t) h = absurd (cc)
func_there f (shape.Pointer t) h = absurd (cc)
func_there f (shape.Array t n) h = absurd (cc)
func_there f (shape.Struct s) h = absurd (cc)

-- ---- comparisons, opened at a level

abbrev parts : shape.Shape-F Shape CType Sig → shape.Shape-F (Comparison Shape) (Comparison CType) (Sig → Bool)
parts x = map-Shape Shape CType Sig (Comparison Shape) (Comparison CType) (Sig → Bool) shape_comparison comparison_of same_sig x

shape-opens : (s : Shape) → shape_comparison s ≡ compare_shape (parts (out-Shape s))
unfolding shape_comparison comparison_of same_sig
shape-opens s = fold_out-Shape (Comparison Shape) (Comparison CType) (Sig → Bool) compare_shape compare_type compare_sig s

type-opens : (t : CType) → comparison_of t ≡ compare_type (record { constant = t.constant; volatile = t.volatile; shape = shape_comparison t.shape })
unfolding shape_comparison comparison_of same_sig
type-opens t = fold_out-CType (Comparison Shape) (Comparison CType) (Sig → Bool) compare_shape compare_type compare_sig t

sig-opens : (s : Sig) → same_sig s ≡ compare_sig (record { result = comparison_of (out-Sig s).result; params = map comparison_of (out-Sig s).params })
unfolding shape_comparison comparison_of same_sig
sig-opens s = fold_out-Sig (Comparison Shape) (Comparison CType) (Sig → Bool) compare_shape compare_type compare_sig s

-- of a type whose shape is known
same-at : (t u : CType) (x : shape.Shape-F Shape CType Sig) → out-Shape t.shape ≡ x →
    same_type t u ≡ (same_flag t.constant u.constant && (same_flag t.volatile u.volatile && (compare_shape (parts x)).same u.shape))
same-at t u x e =
    ap (λ (c : Comparison CType). c.same u) (type-opens t)
    ∙ ap (λ (c : Comparison Shape). same_flag t.constant u.constant && (same_flag t.volatile u.volatile && c.same u.shape)) (shape-opens t.shape ∙ ap (λ y. compare_shape (parts y)) e)

alike-at : (t u : CType) (x : shape.Shape-F Shape CType Sig) → out-Shape t.shape ≡ x → alike t u ≡ (compare_shape (parts x)).alike u.shape
alike-at t u x e =
    ap (λ (c : Comparison CType). c.alike u) (type-opens t) ∙ ap (λ (c : Comparison Shape). c.alike u.shape) (shape-opens t.shape ∙ ap (λ y. compare_shape (parts y)) e)

shape_of_level : (s t : Shape) → out-Shape s ≡ out-Shape t → s ≡ t
shape_of_level s t h = sym (roll-out-Shape s) ∙ ap roll-Shape h ∙ roll-out-Shape t

type_of_fields : (t u : CType) → t.constant ≡ u.constant → t.volatile ≡ u.volatile → t.shape ≡ u.shape → t ≡ u
type_of_fields t u h k l = ap (λ (b : Bool). record { constant = b; volatile = t.volatile; shape = t.shape }) h
    ∙ ap (λ (b : Bool). record { constant = u.constant; volatile = b; shape = t.shape }) k
    ∙ ap (λ (s : Shape). record { constant = u.constant; volatile = u.volatile; shape = s }) l

-- ---- what two types have in common that are alike: the shape, or the length of an array and what its elements have in common
pub data Alike : CType → CType → Type 0 where
  SameShape : (t u : CType) → out-Shape t.shape ≡ out-Shape u.shape → Alike t u
  Arrays : (t u of other : CType) (n : ℕ) → out-Shape t.shape ≡ shape.Array of n → out-Shape u.shape ≡ shape.Array other n → Alike of other → Alike t u

pub record IsCompared (t : CType) : Type 0 where
  pub same : (u : CType) → same_type t u ≡ true → t ≡ u
  pub itself : same_type t t ≡ true
  pub shares : (u : CType) → alike t u ≡ true → Alike t u
  pub shaped : (u : CType) → out-Shape t.shape ≡ out-Shape u.shape → alike t u ≡ true

pub record IsSigCompared (s : Sig) : Type 0 where
  pub same : (u : Sig) → same_sig s u ≡ true → s ≡ u
  pub itself : same_sig s s ≡ true

abbrev Shapes : shape.Shape-F Shape CType Sig → Type 0
Shapes x = TypeParts IsCompared IsSigCompared x

-- a shape that passes is the same one
shape_same : (x : shape.Shape-F Shape CType Sig) → Shapes x → (u : Shape) → (compare_shape (parts x)).same u ≡ true → x ≡ out-Shape u
shape_same shape.Void h u k = sym (void_there (out-Shape u) k)
shape_same (shape.Int t) h u k = sym (int_there t (out-Shape u) k)
shape_same (shape.Pointer to) h u k =
    let there = pointer_there (same_type to) (out-Shape u) k in
    ap (λ (t : CType). shape.Pointer t) (h.same there.0 there.2) ∙ sym there.1
shape_same (shape.Array of n) h u k =
    let there = array_there (same_type of) n (out-Shape u) k in
    ap (λ (t : CType). shape.Array t n) (h.same there.0 there.2) ∙ sym there.1
shape_same (shape.Struct i) h u k = sym (struct_there i (out-Shape u) k)
shape_same (shape.Func s) h u k =
    let there = func_there (same_sig s) (out-Shape u) k in
    ap (λ (t : Sig). shape.Func t) (h.same there.0 there.2) ∙ sym there.1

shape_itself : (x : shape.Shape-F Shape CType Sig) → Shapes x → (u : Shape) → x ≡ out-Shape u → (compare_shape (parts x)).same u ≡ true
shape_itself shape.Void h u e = rw (sym e) refl
shape_itself (shape.Int t) h u e = rw (sym e) (int_itself t)
shape_itself (shape.Pointer to) h u e = rw (sym e) h.itself
shape_itself (shape.Array of n) h u e = rw (sym e) (and_true (eqb n n) (same_type of of) (eq-eqb n n refl) h.itself)
shape_itself (shape.Struct i) h u e = rw (sym e) (eq-eqb i i refl)
shape_itself (shape.Func s) h u e = rw (sym e) h.itself

shape_alike : (t u : CType) (x : shape.Shape-F Shape CType Sig) → Shapes x → out-Shape t.shape ≡ x → (compare_shape (parts x)).alike u.shape ≡ true → Alike t u
shape_alike t u shape.Void h e k = SameShape t u (e ∙ sym (void_there (out-Shape u.shape) k))
shape_alike t u (shape.Int i) h e k = SameShape t u (e ∙ sym (int_there i (out-Shape u.shape) k))
shape_alike t u (shape.Pointer to) h e k = SameShape t u (e ∙ shape_same (shape.Pointer to) h u.shape k)
shape_alike t u (shape.Array of n) h e k =
    let there = array_there (alike of) n (out-Shape u.shape) k in
    Arrays t u of there.0 n e there.1 (h.shares there.0 there.2)
shape_alike t u (shape.Struct i) h e k = SameShape t u (e ∙ sym (struct_there i (out-Shape u.shape) k))
shape_alike t u (shape.Func s) h e k = SameShape t u (e ∙ shape_same (shape.Func s) h u.shape k)

shape_shaped : (x : shape.Shape-F Shape CType Sig) → Shapes x → (u : Shape) → x ≡ out-Shape u → (compare_shape (parts x)).alike u ≡ true
shape_shaped shape.Void h u e = rw (sym e) refl
shape_shaped (shape.Int t) h u e = rw (sym e) (int_itself t)
shape_shaped (shape.Pointer to) h u e = rw (sym e) h.itself
shape_shaped (shape.Array of n) h u e = rw (sym e) (and_true (eqb n n) (alike of of) (eq-eqb n n refl) (h.shaped of refl))
shape_shaped (shape.Struct i) h u e = rw (sym e) (eq-eqb i i refl)
shape_shaped (shape.Func s) h u e = rw (sym e) h.itself

types_same : (ts us : List CType) → Each IsCompared ts → all_pairs (λ (t : Comparison CType) (u : CType). t.same u) (map comparison_of ts) us ≡ true → ts ≡ us
types_same [] [] h k = refl
types_same [] (u ∷ us) h k = absurd (cc)
types_same (t ∷ ts) [] h k = absurd (cc)
types_same (t ∷ ts) (u ∷ us) h k =
    let both = both_true (same_type t u) (all_pairs (λ (t : Comparison CType) (u : CType). t.same u) (map comparison_of ts) us) k in
    ap (λ (x : CType). x ∷ ts) (h.0.same u both.0) ∙ ap (λ (xs : List CType). u ∷ xs) (types_same ts us h.1 both.1)

types_itself : (ts : List CType) → Each IsCompared ts → all_pairs (λ (t : Comparison CType) (u : CType). t.same u) (map comparison_of ts) ts ≡ true
types_itself [] h = refl
types_itself (t ∷ ts) h = and_true (same_type t t) (all_pairs (λ (t : Comparison CType) (u : CType). t.same u) (map comparison_of ts) ts) h.0.itself (types_itself ts h.1)

module _ (t : CType) (x : shape.Shape-F Shape CType Sig) (e : out-Shape t.shape ≡ x) (h : Shapes x) where
  made_same : (u : CType) → same_type t u ≡ true → t ≡ u
  made_same u k =
      let all = both_true (same_flag t.constant u.constant) (same_flag t.volatile u.volatile && (compare_shape (parts x)).same u.shape) (sym (same-at t u x e) ∙ k) in
      let those = both_true (same_flag t.volatile u.volatile) ((compare_shape (parts x)).same u.shape) all.1 in
      type_of_fields t u (flag_same t.constant u.constant all.0) (flag_same t.volatile u.volatile those.0) (shape_of_level t.shape u.shape (e ∙ shape_same x h u.shape those.1))

  made_itself : same_type t t ≡ true
  made_itself =
      same-at t t x e
      ∙ and_true (same_flag t.constant t.constant) (same_flag t.volatile t.volatile && (compare_shape (parts x)).same t.shape) (flag_itself t.constant)
      (and_true (same_flag t.volatile t.volatile) ((compare_shape (parts x)).same t.shape) (flag_itself t.volatile) (shape_itself x h t.shape (sym e)))

  made_type : IsCompared t
  made_type = record {
    same = made_same;
    itself = made_itself;
    shares = λ u k. shape_alike t u x h e (sym (alike-at t u x e) ∙ k);
    shaped = λ u k. alike-at t u x e ∙ shape_shaped x h u.shape (sym e ∙ k);
  }

module _ (s : Sig) (h : SigParts IsCompared IsSigCompared (out-Sig s)) where
  abbrev pairs : List CType → Bool
  pairs us = all_pairs (λ (t : Comparison CType) (u : CType). t.same u) (map comparison_of (out-Sig s).params) us

  sig-at : (u : Sig) → same_sig s u ≡ (same_type (out-Sig s).result (out-Sig u).result && pairs (out-Sig u).params)
  sig-at u = ap (λ (f : Sig → Bool). f u) (sig-opens s)

  sig_same : (u : Sig) → same_sig s u ≡ true → s ≡ u
  sig_same u k =
      let both = both_true (same_type (out-Sig s).result (out-Sig u).result) (pairs (out-Sig u).params) (sym (sig-at u) ∙ k) in
      sig_of_fields s u (h.0.same (out-Sig u).result both.0) (types_same (out-Sig s).params (out-Sig u).params h.1 both.1)

  made_of_sig : IsSigCompared s
  made_of_sig = record {
    same = sig_same;
    itself = sig-at s ∙ and_true (same_type (out-Sig s).result (out-Sig s).result) (pairs (out-Sig s).params) h.0.itself (types_itself (out-Sig s).params h.1);
  }

made_sig : (x : shape.Sig-F Shape CType Sig) → SigParts IsCompared IsSigCompared x → IsSigCompared (roll-Sig x)
made_sig x h = made_of_sig (roll-Sig x) (subst (λ y. SigParts IsCompared IsSigCompared y) (sym (out-roll-Sig x)) h)

pub compared : (t : CType) → IsCompared t
compared = by_type IsCompared IsSigCompared (λ constant volatile x h. made_type (with_shape constant volatile (roll-Shape x)) x (out-roll-Shape x) h) made_sig

pub sig_compared : (s : Sig) → IsSigCompared s
sig_compared = by_sig IsCompared IsSigCompared (λ constant volatile x h. made_type (with_shape constant volatile (roll-Shape x)) x (out-roll-Shape x) h) made_sig

pub arrays_compared : (t u of other : CType) (n : ℕ) → out-Shape t.shape ≡ shape.Array of n → out-Shape u.shape ≡ shape.Array other n → alike of other ≡ true → alike t u ≡ true
arrays_compared t u of other n e f h =
    alike-at t u (shape.Array of n) e ∙ ap (is_array_shape (alike of) n) f ∙ and_true (eqb n n) (alike of other) (eq-eqb n n refl) h

-- types of which the shapes pass have one shape
pub shape_of_same : (t u : CType) → same_shape t.shape u.shape ≡ true → t.shape ≡ u.shape
shape_of_same t u h =
    ap (λ (x : CType). x.shape) ((compared t).same (with_shape t.constant t.volatile u.shape)
    (ap (λ (c : Comparison CType). c.same (with_shape t.constant t.volatile u.shape)) (type-opens t)
    ∙ and_true (same_flag t.constant t.constant) (same_flag t.volatile t.volatile && same_shape t.shape u.shape) (flag_itself t.constant) (and_true (same_flag t.volatile t.volatile) (same_shape t.shape u.shape) (flag_itself t.volatile) h)))
