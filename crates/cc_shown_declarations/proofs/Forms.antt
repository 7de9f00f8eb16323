-- What a declarator declares is told by the part of it next to its name: a function by a function's core alone, and the name
-- that it declares is the core's.
use Rattle.std.proofs.Common.{◌≡◌, true, false, List, Option, Some, None, refl, ap, sym, ◌∙◌}
use Rattle.cc_program.specs.declared.types.CType.{CType}
use Rattle.cc_program.specs.declared.types.Shape.{Shape, out-Shape}
use Rattle.cc_program.specs.declared.types.Shape.TheOpen as shape
use Rattle.cc_program.specs.declared.types.Sig.{Sig, out-Sig}
use Rattle.cc_program.specs.declared.types.Structure.{Structure}
use Rattle.cc_type.specs.CcSpecifiers.Declarators.{form_step, form_of, nearer, is_function_form, declares_function}
use Rattle.cc_type.specs.CcSpecifiers.declared.declarator.Form.{Form}
use Rattle.cc_type.specs.CcSpecifiers.declared.declarator.Form.TheVariants as form
use Rattle.cc_tree.specs.declared.at.At.{At}
use Rattle.cc_tree.specs.declared.tree.Declr as declr
use Rattle.cc_tree.specs.declared.tree.Declr.{Declr, out-Declr, map-Declr, fold_out-Declr, fold-Declr}
use Rattle.cc_tree.specs.declared.tree.Declr.TheOpen as one
use Rattle.cc_tree.specs.declared.tree.Declr.TheVariants as declr_rolls
use Rattle.cc_tree.specs.declared.tree.Enumr.{Enumr, fold-Enumr}
use Rattle.cc_tree.specs.declared.tree.MemberDecl.{MemberDecl, fold-MemberDecl}
use Rattle.cc_tree.specs.declared.tree.Param.{Param, fold-Param}
use Rattle.cc_tree.specs.declared.tree.Params.{Params, fold-Params}
use Rattle.cc_tree.specs.declared.tree.Spec.{Spec, fold-Spec}
use Rattle.cc_tree.specs.declared.tree.Tree as tree
use Rattle.cc_tree.specs.declared.tree.Tree.{Tree, fold-Tree}
use Rattle.cc_tree.specs.declared.tree.TypeName.{TypeName, fold-TypeName}
use Rattle.cc_tree.specs.Tokens.{Name}
use Rattle.cc_shown_declarations.specs.Parameters.{is_function_shape}
use Rattle.cc_expression_trees.specs.Types.{Core, Plain, Function, qualifier_words, plain_suffix, Declares, DeclaresNothing, DeclaresName, DeclaresFunction, InParens, DeclaresPointer, DeclaresArray, DeclaresFunc}

abbrev F : Type 0
F = Option Form

abbrev U : Type 0
U = Unit {0}

abbrev form_in : one.Declr-F Declr Params Spec Tree Enumr MemberDecl Param TypeName → F
form_in x = form_step (map-Declr Declr Params Spec Tree Enumr MemberDecl Param TypeName F U U U U U U U form_of
    (fold-Params F U U U U U U U form_step (λ _. tt) (λ _. tt) (λ _. tt) (λ _. tt) (λ _. tt) (λ _. tt) (λ _. tt)) (fold-Spec F U U U U U U U form_step (λ _. tt) (λ _. tt) (λ _. tt) (λ _. tt) (λ _. tt) (λ _. tt) (λ _. tt))
    (fold-Tree F U U U U U U U form_step (λ _. tt) (λ _. tt) (λ _. tt) (λ _. tt) (λ _. tt) (λ _. tt) (λ _. tt)) (fold-Enumr F U U U U U U U form_step (λ _. tt) (λ _. tt) (λ _. tt) (λ _. tt) (λ _. tt) (λ _. tt) (λ _. tt))
    (fold-MemberDecl F U U U U U U U form_step (λ _. tt) (λ _. tt) (λ _. tt) (λ _. tt) (λ _. tt) (λ _. tt) (λ _. tt)) (fold-Param F U U U U U U U form_step (λ _. tt) (λ _. tt) (λ _. tt) (λ _. tt) (λ _. tt) (λ _. tt) (λ _. tt))
    (fold-TypeName F U U U U U U U form_step (λ _. tt) (λ _. tt) (λ _. tt) (λ _. tt) (λ _. tt) (λ _. tt) (λ _. tt)) x)

form-out : (d : Declr) → form_of d ≡ form_in (out-Declr d)
unfolding form_of
form-out d = fold_out-Declr F U U U U U U U form_step (λ _. tt) (λ _. tt) (λ _. tt) (λ _. tt) (λ _. tt) (λ _. tt) (λ _. tt) d

form-at : (d : Declr) (x : one.Declr-F Declr Params Spec Tree Enumr MemberDecl Param TypeName) → out-Declr d ≡ x → form_of d ≡ form_in x
form-at d x e = form-out d ∙ ap form_in e

pub form-paren : (d : At Declr) → form_of (declr.Paren d) ≡ form_of d.node
form-paren d = form-at (declr.Paren d) (one.Declr::Paren d) (declr_rolls.outs-Paren d)

nearer-first : (o : F) (f g : Form) → o ≡ Some f → nearer o g ≡ Some f
nearer-first o f g h = ap (λ (p : F). nearer p g) h

module _ (structures : List Structure) where
  -- ---- a function's core

  core-form : (b t : CType) (d : Declr) (core : Core) (x : Name) (es : List (Option Name × CType)) → Declares structures b d core t → core ≡ Function x es → form_of d ≡ Some form.Function
  core-form _ _ _ _ x es (DeclaresNothing t) c = absurd (cc)
  core-form _ _ _ _ x es (DeclaresName t y) c = absurd (cc)
  core-form _ _ _ _ x es (DeclaresFunction t y fs ps k r) c =
      let d : At Declr = record { at = k; node = declr.Named y } in
      form-at (declr.Func d ps) (one.Func d ps) (declr_rolls.outs-Func d ps) ∙ ap (λ (o : F). nearer o form.Function) (form-at (declr.Named y) (one.Declr::Named y) (declr_rolls.outs-Named y))
  core-form _ _ _ _ x es (InParens b t d core r) c = form-paren d ∙ core-form b t d.node core x es r c
  core-form _ _ _ _ x es (DeclaresPointer k b t d core e r) c =
      let words = qualifier_words k.constant k.volatile in
      form-at (declr.Pointer words d) (one.Pointer words d) (declr_rolls.outs-Pointer words d) ∙ nearer-first (form_of d.node) form.Function form.Pointer (core-form k t d.node core x es r c)
  core-form _ _ _ _ x es (DeclaresArray k b t n d core at e f g r) c =
      let bound : Option (At Tree) = Some (record { at = at; node = tree.Number n (plain_suffix n) }) in
      form-at (declr.Array d bound) (one.Array d bound) (declr_rolls.outs-Array d bound) ∙ nearer-first (form_of d.node) form.Function form.Array (core-form k t d.node core x es r c)
  core-form _ _ _ _ x es (DeclaresFunc k t sig ps d core e f g l r) c =
      form-at (declr.Func d ps) (one.Func d ps) (declr_rolls.outs-Func d ps) ∙ nearer-first (form_of d.node) form.Function form.Function (core-form k t d.node core x es r c)

  pub function-form : (b t : CType) (d : Declr) (x : Name) (es : List (Option Name × CType)) → Declares structures b d (Function x es) t → declares_function false d ≡ true
  function-form b t d x es h = ap (is_function_form false) (core-form b t d (Function x es) x es h refl)

  -- ---- another one: it is the type of the specifiers, or its form is that of its type

  abbrev form_at : shape.Shape-F Shape CType Sig → F
  form_at (shape.Pointer to) = Some form.Pointer
  form_at (shape.Array of n) = Some form.Array
  form_at (shape.Func sig) = Some form.Function
  form_at _ = None

  data FormIs (b t : CType) (d : Declr) : Type 0 where
    NoForm : b ≡ t → form_of d ≡ None → FormIs b t d
    OfType : (f : Form) → form_of d ≡ Some f → form_at (out-Shape t.shape) ≡ Some f → FormIs b t d

  by-inner : (c b t : CType) (d : At Declr) (e : Declr) (f : Form) → form_of e ≡ nearer (form_of d.node) f → form_at (out-Shape c.shape) ≡ Some f → FormIs c t d.node → FormIs b t e
  by-inner c b t d e f h k (NoForm same none) = OfType f (h ∙ ap (λ (o : F). nearer o f) none) (ap (λ (u : CType). form_at (out-Shape u.shape)) (sym same) ∙ k)
  by-inner c b t d e f h k (OfType g i j) = OfType g (h ∙ nearer-first (form_of d.node) g f i) j

  plain-form : (b t : CType) (d : Declr) (core : Core) (x : Option Name) → Declares structures b d core t → core ≡ Plain x → FormIs b t d
  plain-form _ _ _ _ x (DeclaresNothing t) c = NoForm refl (form-at declr.Nothing one.Nothing declr_rolls.outs-Nothing)
  plain-form _ _ _ _ x (DeclaresName t y) c = NoForm refl (form-at (declr.Named y) (one.Declr::Named y) (declr_rolls.outs-Named y))
  plain-form _ _ _ _ x (DeclaresFunction t y fs ps k r) c = absurd (cc)
  plain-form _ _ _ _ x (InParens b t d core r) c = in-parens b t d (plain-form b t d.node core x r c)
    where
      in-parens : (b t : CType) (d : At Declr) → FormIs b t d.node → FormIs b t (declr.Paren d)
      in-parens b t d (NoForm same none) = NoForm same (form-paren d ∙ none)
      in-parens b t d (OfType g i j) = OfType g (form-paren d ∙ i) j
  plain-form _ _ _ _ x (DeclaresPointer k b t d core e r) c =
      let words = qualifier_words k.constant k.volatile in
      by-inner k b t d (declr.Pointer words d) form.Pointer (form-at (declr.Pointer words d) (one.Pointer words d) (declr_rolls.outs-Pointer words d)) (ap form_at e) (plain-form k t d.node core x r c)
  plain-form _ _ _ _ x (DeclaresArray k b t n d core at e f g r) c =
      let bound : Option (At Tree) = Some (record { at = at; node = tree.Number n (plain_suffix n) }) in
      by-inner k b t d (declr.Array d bound) form.Array (form-at (declr.Array d bound) (one.Array d bound) (declr_rolls.outs-Array d bound)) (ap form_at e) (plain-form k t d.node core x r c)
  plain-form _ _ _ _ x (DeclaresFunc k t sig ps d core e f g l r) c =
      by-inner k (out-Sig sig).result t d (declr.Func d ps) form.Function (form-at (declr.Func d ps) (one.Func d ps) (declr_rolls.outs-Func d ps)) (ap form_at e) (plain-form k t d.node core x r c)

  no-function : (x : shape.Shape-F Shape CType Sig) (f : Form) → is_function_shape x ≡ false → form_at x ≡ Some f → is_function_form false (Some f) ≡ false
  no-function shape.Void f h e = absurd (cc)
  no-function (shape.Int t) f h e = absurd (cc)
  no-function (shape.Pointer to) f h e = ap (is_function_form false) (sym e)
  no-function (shape.Array of n) f h e = ap (is_function_form false) (sym e)
  no-function (shape.Struct i) f h e = absurd (cc)
  no-function (shape.Func sig) f h e = absurd (cc)

  by-form : (b t : CType) (d : Declr) → is_function_shape (out-Shape t.shape) ≡ false → FormIs b t d → declares_function false d ≡ false
  by-form b t d h (NoForm same none) = ap (is_function_form false) none
  by-form b t d h (OfType f i j) = ap (is_function_form false) i ∙ no-function (out-Shape t.shape) f h j

  pub object-form : (b t : CType) (d : Declr) (x : Option Name) → Declares structures b d (Plain x) t → is_function_shape (out-Shape t.shape) ≡ false → declares_function false d ≡ false
  object-form b t d x h k = by-form b t d k (plain-form b t d (Plain x) x h refl)
