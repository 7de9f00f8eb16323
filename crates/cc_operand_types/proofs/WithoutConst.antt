-- A type without the const of its objects is the type but for qualifiers.
use Rattle.std.proofs.Common.{◌≡◌, ℕ, Bool, true, false, ◌||◌, refl, ap, sym, ◌∙◌, subst}
use Rattle.cc_operand_types.proofs.Requalified.{opens_as}
use Rattle.cc_operands.specs.Qualified.{at_element, no_const, without_const}
use Rattle.cc_program.specs.Qualifiers.{of_element, is_const, is_volatile}
use Rattle.cc_program.specs.declared.types.CType.{CType}
use Rattle.cc_program.specs.declared.types.Shape.{Shape, Array, out-Shape, roll-Shape, out-roll-Shape}
use Rattle.cc_program.specs.declared.types.Shape.TheOpen as shape
use Rattle.cc_program.specs.declared.types.Shape.TheVariants.{outs-Array}
use Rattle.cc_program.specs.declared.types.Sig.{Sig}
use Rattle.cc_program.proofs.QualifierLemmas.{const-opens, volatile-opens, parts_const, parts_volatile}
use Rattle.cc_program.proofs.TypeInduction.{with_shape, TypeParts, by_type}
use Rattle.cc_operands.specs.CcSyntax.Values.{implies}
use Rattle.cc_operands.proofs.CcSyntax.AlikeLemmas.{implies_itself}
use Rattle.cc_operands.proofs.CcSyntax.SameLemmas.{compared, arrays_compared}
use Rattle.cc_operand_types.specs.Reduced.{ReducedType}

pub reduced_itself : (t : CType) → ReducedType t t
reduced_itself t = record { one = (compared t).shaped t refl; constant = implies_itself (is_const t); volatile = implies_itself (is_volatile t) }

-- ---- at a type that is no array's

const_at : (t : CType) (x : shape.Shape-F Shape CType Sig) → out-Shape t.shape ≡ x → is_const t ≡ (t.constant || of_element (parts_const x))
const_at t x e = const-opens t ∙ ap (λ y. t.constant || of_element (parts_const y)) e

volatile_at : (t : CType) (x : shape.Shape-F Shape CType Sig) → out-Shape t.shape ≡ x → is_volatile t ≡ (t.volatile || of_element (parts_volatile x))
volatile_at t x e = volatile-opens t ∙ ap (λ y. t.volatile || of_element (parts_volatile y)) e

nothing_asked : (a b : Bool) → a ≡ false → implies a b ≡ true
nothing_asked a b e = ap (λ (c : Bool). implies c b) e

the_same : (a b : Bool) → a ≡ b → implies a b ≡ true
the_same a b e = ap (λ (c : Bool). implies c b) e ∙ implies_itself b

simple : (t : CType) (x : shape.Shape-F Shape CType Sig) → out-Shape t.shape ≡ x → of_element (parts_const x) ≡ false → without_const t ≡ no_const t → ReducedType (without_const t) t
simple t x e f g = subst (λ (u : CType). ReducedType u t) (sym g) (record {
  one = (compared (no_const t)).shaped t refl;
  constant = nothing_asked (is_const (no_const t)) (is_const t) (const_at (no_const t) x e ∙ f);
  volatile = the_same (is_volatile (no_const t)) (is_volatile t) (volatile_at (no_const t) x e ∙ sym (volatile_at t x e));
})

-- ---- at an array's

further : (f a b : Bool) → implies a b ≡ true → implies (f || a) (f || b) ≡ true
further true a b h = refl
further false a b h = h

abbrev of_type : CType → CType → ℕ → CType
of_type t of n = record { constant = t.constant; volatile = t.volatile; shape = Array of n }

array_alike : (t of : CType) (n : ℕ) → out-Shape t.shape ≡ shape.Array of n → ReducedType (without_const of) of → ReducedType (of_type t (without_const of) n) t
array_alike t of n e h =
    let u = of_type t (without_const of) n in
    let f : out-Shape u.shape ≡ shape.Array (without_const of) n = outs-Array (without_const of) n in
    record {
      one = arrays_compared u t (without_const of) of n f e h.one;
      constant = ap (λ (b : Bool). implies b (is_const t)) (const_at u (shape.Array (without_const of) n) f)
          ∙ (ap (λ (b : Bool). implies (t.constant || is_const (without_const of)) b) (const_at t (shape.Array of n) e) ∙ further t.constant (is_const (without_const of)) (is_const of) h.constant);
      volatile = ap (λ (b : Bool). implies b (is_volatile t)) (volatile_at u (shape.Array (without_const of) n) f)
          ∙ (ap (λ (b : Bool). implies (t.volatile || is_volatile (without_const of)) b) (volatile_at t (shape.Array of n) e) ∙ further t.volatile (is_volatile (without_const of)) (is_volatile of) h.volatile);
    }

array_opens : (t of : CType) (n : ℕ) → out-Shape t.shape ≡ shape.Array of n → without_const t ≡ of_type t (without_const of) n
unfolding at_element
array_opens t of n e = opens_as no_const t (shape.Array of n) e

-- ---- all

abbrev IsReduced : CType → Type 0
IsReduced t = ReducedType (without_const t) t

made : (t : CType) (x : shape.Shape-F Shape CType Sig) → out-Shape t.shape ≡ x → TypeParts IsReduced (λ s. Unit {0}) x → IsReduced t
made t shape.Void e h = simple t shape.Void e refl (opens_as no_const t shape.Void e)
made t (shape.Int i) e h = simple t (shape.Int i) e refl (opens_as no_const t (shape.Int i) e)
made t (shape.Pointer to) e h = simple t (shape.Pointer to) e refl (opens_as no_const t (shape.Pointer to) e)
made t (shape.Struct i) e h = simple t (shape.Struct i) e refl (opens_as no_const t (shape.Struct i) e)
made t (shape.Func s) e h = simple t (shape.Func s) e refl (opens_as no_const t (shape.Func s) e)
made t (shape.Array of n) e h = subst (λ (u : CType). ReducedType u t) (sym (array_opens t of n e)) (array_alike t of n e h)

pub reduced_const : (t : CType) → ReducedType (without_const t) t
reduced_const = by_type IsReduced (λ s. Unit {0}) (λ constant volatile x h. made (with_shape constant volatile (roll-Shape x)) x (out-roll-Shape x) h) (λ x h. tt)
