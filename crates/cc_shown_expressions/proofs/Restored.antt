-- A null of a pointer type is written by what it points to: a type that may stand in a program has its qualifiers at its
-- innermost element, so put there again they are as they were.
use Rattle.std.proofs.Common.{◌≡◌, ℕ, Bool, true, false, ◌||◌, length, refl, ap, sym, ◌∙◌, subst}
use Rattle.std.specs.Option.{is_some}
use Rattle.cc_terms.specs.CcOperands.Operands.{null_of}
use Rattle.cc_terms.specs.CcOperands.Qualified.{plain, qualified_as, instead, at_element}
use Rattle.cc_program.specs.Qualifiers.{of_element, is_const, is_volatile}
use Rattle.cc_program.specs.declared.expr.Expr.{Null}
use Rattle.cc_program.specs.declared.program.Program.{Program}
use Rattle.cc_program.specs.declared.types.CType.{CType}
use Rattle.cc_program.specs.declared.types.Shape.{Shape, Pointer, Array, Func, out-Shape, roll-Shape, out-roll-Shape}
use Rattle.cc_program.specs.declared.types.Shape.TheOpen as shape
use Rattle.cc_program.specs.declared.types.Shape.TheVariants.{outs-Pointer, outs-Array, outs-Func}
use Rattle.cc_program.specs.declared.types.Sig.{Sig}
use Rattle.cc_program.proofs.QualifierLemmas.{const-opens, volatile-opens, parts_const, parts_volatile}
use Rattle.cc_program.proofs.TypeInduction.{with_shape, TypeParts, by_type}
use Rattle.cc_terms.specs.CcSyntax.Programs.{kind_in}
use Rattle.cc_terms.specs.CcSyntax.Values.{pointer_shape, pointer_to}
use Rattle.cc_expression_trees.proofs.Levels.{array-type, func-type}
use Rattle.cc_shown_expressions.specs.Numbers.{type_numbered, sig_numbered, value_numbered}
use Rattle.cc_shown_expressions.proofs.Bases.{opens-as, type-of-fields, shape-of-level}
use Rattle.cc_shown_expressions.proofs.Numbering.{level-at, constant-kept, volatile-kept}
use Rattle.cc_shown_expressions.proofs.Standing.{rolled}

or-false : (b : Bool) → (b || false) ≡ b
or-false true = refl
or-false false = refl

array-opens : (c v : Bool) (t of : CType) (n : ℕ) → out-Shape t.shape ≡ shape.Array of n → qualified_as c v t ≡ record { constant = t.constant; volatile = t.volatile; shape = Array (qualified_as c v of) n }
unfolding at_element
array-opens c v t of n e = opens-as (instead c v) t (shape.Array of n) e

module _ (p : Program) (number : ℕ → ℕ) where
  abbrev numbered : CType → CType
  numbered t = type_numbered number t

  abbrev Restored : CType → Type 0
  Restored t = is_some (kind_in p t) ≡ true → qualified_as (is_const t) (is_volatile t) (numbered t) ≡ numbered t

  abbrev NoClaim : Sig → Type 0
  NoClaim s = Unit {0}

  -- of a type that is no array
  flat : (t : CType) (x : shape.Shape-F Shape CType Sig) → out-Shape t.shape ≡ x → of_element (parts_const x) ≡ false → of_element (parts_volatile x) ≡ false → qualified_as (is_const t) (is_volatile t) (numbered t) ≡ instead (is_const t) (is_volatile t) (numbered t) →
      qualified_as (is_const t) (is_volatile t) (numbered t) ≡ numbered t
  flat t x e c v o =
      o ∙ type-of-fields (instead (is_const t) (is_volatile t) (numbered t)) (numbered t)
      (const-opens t ∙ ap (λ y. t.constant || of_element (parts_const y)) e ∙ ap (λ (b : Bool). t.constant || b) c ∙ or-false t.constant ∙ sym (constant-kept number t))
      (volatile-opens t ∙ ap (λ y. t.volatile || of_element (parts_volatile y)) e ∙ ap (λ (b : Bool). t.volatile || b) v ∙ or-false t.volatile ∙ sym (volatile-kept number t))
      refl

  array-restored : (t of : CType) (n : ℕ) → out-Shape t.shape ≡ shape.Array of n → Restored of → Restored t
  array-restored t of n e h k =
      let q = array-type p.structures (length p.structures) p.target t.constant t.volatile of n (subst (λ (u : CType). is_some (kind_in p u) ≡ true) (rolled t (shape.Array of n) e) k) in
      let o = level-at number t (shape.Array of n) e in
      let c : is_const t ≡ is_const of = const-opens t ∙ ap (λ y. t.constant || of_element (parts_const y)) e ∙ ap (λ (b : Bool). b || is_const of) q.1.0 in
      let v : is_volatile t ≡ is_volatile of = volatile-opens t ∙ ap (λ y. t.volatile || of_element (parts_volatile y)) e ∙ ap (λ (b : Bool). b || is_volatile of) q.1.1 in
      array-opens (is_const t) (is_volatile t) (numbered t) (numbered of) n o
      ∙ ap (λ (b : Bool). record { constant = (numbered t).constant; volatile = (numbered t).volatile; shape = Array (qualified_as b (is_volatile t) (numbered of)) n }) c
      ∙ ap (λ (b : Bool). record { constant = (numbered t).constant; volatile = (numbered t).volatile; shape = Array (qualified_as (is_const of) b (numbered of)) n }) v
      ∙ ap (λ (u : CType). record { constant = (numbered t).constant; volatile = (numbered t).volatile; shape = Array u n }) (h q.0)
      ∙ type-of-fields (record { constant = (numbered t).constant; volatile = (numbered t).volatile; shape = Array (numbered of) n }) (numbered t) refl refl
      (shape-of-level (Array (numbered of) n) (numbered t).shape (outs-Array (numbered of) n ∙ sym o))

  restored-at : (t : CType) (x : shape.Shape-F Shape CType Sig) → out-Shape t.shape ≡ x → TypeParts Restored NoClaim x → Restored t
  restored-at t shape.Void e h k = flat t shape.Void e refl refl (opens-as (instead (is_const t) (is_volatile t)) (numbered t) shape.Void (level-at number t shape.Void e))
  restored-at t (shape.Int i) e h k = flat t (shape.Int i) e refl refl (opens-as (instead (is_const t) (is_volatile t)) (numbered t) (shape.Int i) (level-at number t (shape.Int i) e))
  restored-at t (shape.Pointer to) e h k = flat t (shape.Pointer to) e refl refl (opens-as (instead (is_const t) (is_volatile t)) (numbered t) (shape.Pointer (numbered to)) (level-at number t (shape.Pointer to) e))
  restored-at t (shape.Array of n) e h k = array-restored t of n e h k
  restored-at t (shape.Struct i) e h k = flat t (shape.Struct i) e refl refl (opens-as (instead (is_const t) (is_volatile t)) (numbered t) (shape.Struct (number i)) (level-at number t (shape.Struct i) e))
  restored-at t (shape.Func s) e h k = flat t (shape.Func s) e refl refl (opens-as (instead (is_const t) (is_volatile t)) (numbered t) (shape.Func (sig_numbered number s)) (level-at number t (shape.Func s) e))

  restored : (t : CType) → Restored t
  restored = by_type Restored NoClaim (λ constant volatile x h. restored-at (with_shape constant volatile (roll-Shape x)) x (out-roll-Shape x) h) (λ x h. tt)

  -- a pointer type without qualifiers is that of a value of it
  object-pointer : (t to : CType) → t.constant ≡ false → t.volatile ≡ false → out-Shape t.shape ≡ shape.Pointer to → is_some (kind_in p to) ≡ true → numbered t ≡ plain (Pointer (qualified_as (is_const to) (is_volatile to) (numbered to)))
  object-pointer t to c v e k =
      type-of-fields (numbered t) (plain (Pointer (qualified_as (is_const to) (is_volatile to) (numbered to)))) (constant-kept number t ∙ c) (volatile-kept number t ∙ v)
      (shape-of-level (numbered t).shape (Pointer (qualified_as (is_const to) (is_volatile to) (numbered to)))
      (level-at number t (shape.Pointer to) e ∙ ap (λ (u : CType). shape.Pointer u) (sym (restored to k)) ∙ sym (outs-Pointer (qualified_as (is_const to) (is_volatile to) (numbered to)))))

  function-pointer : (t to : CType) (s : Sig) → t.constant ≡ false → t.volatile ≡ false → out-Shape t.shape ≡ shape.Pointer to → out-Shape to.shape ≡ shape.Func s → is_some (kind_in p to) ≡ true → numbered t ≡ plain (Pointer (plain (Func (sig_numbered number s))))
  function-pointer t to s c v e g k =
      let q = func-type p.structures (length p.structures) p.target to.constant to.volatile s (subst (λ (u : CType). is_some (kind_in p u) ≡ true) (rolled to (shape.Func s) g) k) in
      let inner : numbered to ≡ plain (Func (sig_numbered number s)) =
      type-of-fields (numbered to) (plain (Func (sig_numbered number s))) (constant-kept number to ∙ q.1.0) (volatile-kept number to ∙ q.1.1)
      (shape-of-level (numbered to).shape (Func (sig_numbered number s)) (level-at number to (shape.Func s) g ∙ sym (outs-Func (sig_numbered number s)))) in
      type-of-fields (numbered t) (plain (Pointer (plain (Func (sig_numbered number s))))) (constant-kept number t ∙ c) (volatile-kept number t ∙ v)
      (shape-of-level (numbered t).shape (Pointer (plain (Func (sig_numbered number s))))
      (level-at number t (shape.Pointer to) e ∙ ap (λ (u : CType). shape.Pointer u) inner ∙ sym (outs-Pointer (plain (Func (sig_numbered number s))))))

  null-by : (t to : CType) (x : shape.Shape-F Shape CType Sig) → out-Shape to.shape ≡ x → t.constant ≡ false → t.volatile ≡ false → out-Shape t.shape ≡ shape.Pointer to → is_some (kind_in p to) ≡ true →
      Null (numbered t) ≡ null_of (value_numbered number (pointer_shape to x))
  null-by t to (shape.Func s) g c v e k = ap (λ (u : CType). Null u) (function-pointer t to s c v e g k)
  null-by t to shape.Void g c v e k = ap (λ (u : CType). Null u) (object-pointer t to c v e k)
  null-by t to (shape.Int i) g c v e k = ap (λ (u : CType). Null u) (object-pointer t to c v e k)
  null-by t to (shape.Pointer w) g c v e k = ap (λ (u : CType). Null u) (object-pointer t to c v e k)
  null-by t to (shape.Array of n) g c v e k = ap (λ (u : CType). Null u) (object-pointer t to c v e k)
  null-by t to (shape.Struct i) g c v e k = ap (λ (u : CType). Null u) (object-pointer t to c v e k)

  pub null-restored : (t to : CType) → t.constant ≡ false → t.volatile ≡ false → out-Shape t.shape ≡ shape.Pointer to → is_some (kind_in p to) ≡ true → Null (numbered t) ≡ null_of (value_numbered number (pointer_to to))
  null-restored t to c v e k = null-by t to (out-Shape to.shape) refl c v e k
