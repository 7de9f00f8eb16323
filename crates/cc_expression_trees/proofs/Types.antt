-- The types of nulls and of qualified pointers are read, and part.
use Rattle.std.proofs.Common.{◌≡◌, ◌&&◌, Bool, true, false, cond, length, Option, Some, None, refl, ap, sym, ◌∙◌, subst, slice_get, ℕ}
use Rattle.std.specs.Option.{is_some}
use Rattle.cc_program.specs.CcWords.Names.{is_name}
use Rattle.cc_program.specs.declared.program.Program.{Program}
use Rattle.cc_program.specs.declared.types.CType.{CType}
use Rattle.cc_program.specs.declared.types.Shape.{Shape, out-Shape, roll-Shape, roll-out-Shape}
use Rattle.cc_program.specs.declared.types.Shape.TheOpen as shape
use Rattle.cc_program.specs.declared.types.Sig.{Sig}
use Rattle.cc_program.specs.declared.types.Structure.{Structure}
use Rattle.cc_program.proofs.TypeInduction.{with_shape}
use Rattle.cc_pieces.specs.Declarators.{declarator}
use Rattle.cc_typed.specs.CcSyntax.Kinds.{is_plain_scalar}
use Rattle.cc_typed.specs.CcSyntax.Programs.{kind_in, null_type, pointer_type}
use Rattle.cc_typed.specs.CcSyntax.Operators.{pointer_in, void_pointer_in, first_of, is_unqualified}
use Rattle.cc_typed.specs.CcSyntax.SameTypes.{is_void_shape}
use Rattle.cc_typed.specs.CcSyntax.Values.{ValueType, is_void, pointer_to}
use Rattle.cc_expression_trees.proofs.Levels.{scalar-some}
use Rattle.cc_expression_trees.proofs.Parameters.{Reads}
use Rattle.cc_expression_trees.proofs.Declarators.{type-reads, void-level, pointer-level, FitsDeclarator, type-fits, void-fitting, pointer-fitting}
use Rattle.cc_expression_trees.proofs.TypeNames.{there}
use Rattle.cc_expression_trees.specs.Constants.{qualified}

-- what holds of types that may stand in a program, of void, and of a pointer to what it holds of, holds of these types
module _ (p : Program) (P : CType → Type 0) (known : (t : CType) → is_plain_scalar (kind_in p t) ≡ true → P t) (of_void : (c v : Bool) → P (with_shape c v (roll-Shape shape.Void)))
    (of_pointer : (c v : Bool) (t : CType) → P t → P (with_shape c v (roll-Shape (shape.Pointer t)))) where
  good-pointer : (good : Bool) (x : shape.Shape-F Shape CType Sig) → is_some (pointer_in good x) ≡ true → good ≡ true
  good-pointer true x h = refl
  good-pointer false (shape.Pointer to) h = absurd (cc)
  good-pointer false shape.Void h = absurd (cc)
  good-pointer false (shape.Int t) h = absurd (cc)
  good-pointer false (shape.Array of n) h = absurd (cc)
  good-pointer false (shape.Struct s) h = absurd (cc)
  good-pointer false (shape.Func s) h = absurd (cc)

  pub pointer-type-has : (t : CType) → is_some (pointer_type p t) ≡ true → P t
  pointer-type-has t h = known t (good-pointer (is_plain_scalar (kind_in p t)) (out-Shape t.shape) h)

  void-shape : (x : shape.Shape-F Shape CType Sig) → is_void_shape x ≡ true → x ≡ shape.Void
  void-shape shape.Void h = refl
  void-shape (shape.Int t) h = absurd (cc)
  void-shape (shape.Pointer to) h = absurd (cc)
  void-shape (shape.Array of n) h = absurd (cc)
  void-shape (shape.Struct s) h = absurd (cc)
  void-shape (shape.Func s) h = absurd (cc)

  rolled : (t : CType) (x : shape.Shape-F Shape CType Sig) → out-Shape t.shape ≡ x → qualified t.constant t.volatile x ≡ t
  rolled t x h = ap (λ s. with_shape t.constant t.volatile s) (sym (ap roll-Shape h) ∙ roll-out-Shape t.shape)

  void-has : (t : CType) → is_void t ≡ true → P t
  void-has t h = subst P (rolled t shape.Void (void-shape (out-Shape t.shape) h)) (of_void t.constant t.volatile)

  void-pointer-has : (t : CType) (x : shape.Shape-F Shape CType Sig) → out-Shape t.shape ≡ x → is_some (void_pointer_in (is_unqualified t) x) ≡ true → P t
  void-pointer-has t (shape.Pointer to) e h = subst P (rolled t (shape.Pointer to) e) (of_pointer t.constant t.volatile to (void-has to (when-void (is_unqualified t) (is_void to) (is_unqualified to) h))) where
    when-void : (a b c : Bool) → is_some (cond (a && (b && c)) (Some (pointer_to to)) None) ≡ true → b ≡ true
    when-void true true c h = refl
    when-void true false c h = absurd (cc)
    when-void false b c h = absurd (cc)
  void-pointer-has t shape.Void e h = absurd (cc)
  void-pointer-has t (shape.Int i) e h = absurd (cc)
  void-pointer-has t (shape.Array of n) e h = absurd (cc)
  void-pointer-has t (shape.Struct s) e h = absurd (cc)
  void-pointer-has t (shape.Func s) e h = absurd (cc)

  first-some : (a b : Option ValueType) → is_some (first_of a b) ≡ true → (is_some a ≡ false → is_some b ≡ true)
  first-some None b h k = h
  first-some (Some a) b h k = absurd (cc)

  pub null-has : (t : CType) → is_some (null_type p t) ≡ true → P t
  null-has t h = by (is_some (void_pointer_in (is_unqualified t) (out-Shape t.shape))) refl where
    by : (b : Bool) → is_some (void_pointer_in (is_unqualified t) (out-Shape t.shape)) ≡ b → P t
    by true e = void-pointer-has t (out-Shape t.shape) refl e
    by false e = pointer-type-has t (first-some (void_pointer_in (is_unqualified t) (out-Shape t.shape)) (pointer_type p t) h e)

module _ (p : Program) where
  abbrev ReadsType : CType → Type 0
  ReadsType t = Reads p.structures (declarator p.structures t) t

  known-reads : (t : CType) → is_plain_scalar (kind_in p t) ≡ true → ReadsType t
  known-reads t h = type-reads p.structures p.structures p.target (there p.structures) t (scalar-some p.structures (length p.structures) p.target (kind_in p t) h)

  pub pointer-type-reads : (t : CType) → is_some (pointer_type p t) ≡ true → ReadsType t
  pointer-type-reads t h = pointer-type-has p ReadsType known-reads (void-level p.structures) (pointer-level p.structures) t h

  pub null-reads : (t : CType) → is_some (null_type p t) ≡ true → ReadsType t
  null-reads t h = null-has p ReadsType known-reads (void-level p.structures) (pointer-level p.structures) t h

  module _ (named : (i : ℕ) (s : Structure) → slice_get p.structures i ≡ Some s → is_name s.tag ≡ true) where
    abbrev pub FitsType : CType → Type 0
    FitsType t = FitsDeclarator p.structures p.structures p.target (there p.structures) named (declarator p.structures t)

    known-fits : (t : CType) → is_plain_scalar (kind_in p t) ≡ true → FitsType t
    known-fits t h = type-fits p.structures p.structures p.target (there p.structures) named t (scalar-some p.structures (length p.structures) p.target (kind_in p t) h)

    pub pointer-type-fits : (t : CType) → is_some (pointer_type p t) ≡ true → FitsType t
    pointer-type-fits t h = pointer-type-has p FitsType known-fits (void-fitting p.structures p.structures p.target (there p.structures) named) (pointer-fitting p.structures p.structures p.target (there p.structures) named) t h

    pub null-type-fits : (t : CType) → is_some (null_type p t) ≡ true → FitsType t
    null-type-fits t h = null-has p FitsType known-fits (void-fitting p.structures p.structures p.target (there p.structures) named) (pointer-fitting p.structures p.structures p.target (there p.structures) named) t h
