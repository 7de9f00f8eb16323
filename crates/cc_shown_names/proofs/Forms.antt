-- A declarator that shows a thing of a type that is no function's declares no function.
use Rattle.std.proofs.Common.{◌≡◌, ℕ, Bool, true, false, ◌||◌, List, Option, Some, None, refl, ap, sym, ◌∙◌}
use Rattle.std.specs.Prelude.{if◌then◌else◌}
use Rattle.cc_type.specs.CcOperands.Qualified.{is_function_type}
use Rattle.cc_program.specs.declared.program.Program.{Program}
use Rattle.cc_program.specs.declared.types.CType.{CType}
use Rattle.cc_program.specs.declared.types.Shape.{Shape, out-Shape}
use Rattle.cc_program.specs.declared.types.Shape.TheOpen as shape
use Rattle.cc_program.specs.declared.types.Sig.{Sig, out-Sig}
use Rattle.cc_program.specs.declared.types.Structure.{Structure}
use Rattle.cc_type.specs.CcSpecifiers.Declarators.{nearer, form_step, form_of, is_function_form, declares_function}
use Rattle.cc_type.specs.CcSpecifiers.declared.declarator.Form.{Form}
use Rattle.cc_type.specs.CcSpecifiers.declared.declarator.Form.TheVariants as form
use Rattle.cc_type.specs.CcSyntax.Kinds.{IsFunction, qualified_kind, is_sig, extent_in, is_object_type}
use Rattle.cc_type.specs.CcSyntax.Programs.{kind_in}
use Rattle.cc_type.specs.CcSyntax.SameTypes.{is_func_shape}
use Rattle.cc_tree.specs.Tokens.{Name}
use Rattle.cc_tree.specs.declared.at.At.{At}
use Rattle.cc_tree.specs.declared.tree.Declr as declr
use Rattle.cc_tree.specs.declared.tree.Declr.{Declr, out-Declr, map-Declr, fold_out-Declr}
use Rattle.cc_tree.specs.declared.tree.Declr.TheOpen as one
use Rattle.cc_tree.specs.declared.tree.Declr.TheVariants as declr_rolls
use Rattle.cc_tree.specs.declared.tree.Enumr.{Enumr}
use Rattle.cc_tree.specs.declared.tree.MemberDecl.{MemberDecl}
use Rattle.cc_tree.specs.declared.tree.Param.{Param}
use Rattle.cc_tree.specs.declared.tree.Params.{Params}
use Rattle.cc_tree.specs.declared.tree.Spec.{Spec}
use Rattle.cc_tree.specs.declared.tree.Tree as tree
use Rattle.cc_tree.specs.declared.tree.Tree.{Tree}
use Rattle.cc_tree.specs.declared.tree.TypeName.{TypeName}
use Rattle.cc_expression_trees.specs.Types.{Core, Plain, plain_suffix, qualifier_words, Declares, DeclaresNothing, DeclaresName, DeclaresFunction, InParens, DeclaresPointer, DeclaresArray, DeclaresFunc}
use Rattle.cc_shown_expressions.specs.Numbers.{type_numbered}
use Rattle.cc_shown_expressions.proofs.Numbering.{level, shape-level}
use Rattle.cc_shown_expressions.proofs.Standing.{kind-at}

abbrev formed : one.Declr-F Declr Params Spec Tree Enumr MemberDecl Param TypeName → Option Form
formed x = form_step (map-Declr Declr Params Spec Tree Enumr MemberDecl Param TypeName (Option Form) (Unit {0}) (Unit {0}) (Unit {0}) (Unit {0}) (Unit {0}) (Unit {0}) (Unit {0}) form_of (λ _. tt) (λ _. tt) (λ _. tt) (λ _. tt) (λ _. tt) (λ _. tt) (λ _. tt) x)

form-at : (d : Declr) (x : one.Declr-F Declr Params Spec Tree Enumr MemberDecl Param TypeName) → out-Declr d ≡ x → form_of d ≡ formed x
unfolding form_of
form-at d x h = fold_out-Declr (Option Form) (Unit {0}) (Unit {0}) (Unit {0}) (Unit {0}) (Unit {0}) (Unit {0}) (Unit {0}) form_step (λ _. tt) (λ _. tt) (λ _. tt) (λ _. tt) (λ _. tt) (λ _. tt) (λ _. tt) d ∙ ap formed h

abbrev is_function : Form → Bool
is_function f = is_function_form false (Some f)

-- what stands next to the name decides
nearer-is : (base own : Bool) (o : Option Form) (f : Form) → is_function f ≡ own → is_function_form base (nearer o f) ≡ is_function_form own o
nearer-is base own None form.Function h = h
nearer-is base own None form.Pointer h = h
nearer-is base own None form.Array h = h
nearer-is base own (Some form.Function) f h = refl
nearer-is base own (Some form.Pointer) f h = refl
nearer-is base own (Some form.Array) f h = refl

abbrev of_function : CType → Bool
of_function t = is_function_type t

-- the part of a declarator next to the name declares a function exactly where its type is one
declares-as : (structures : List Structure) (b t : CType) (d : Declr) (core : Core) (x : Option Name) → Declares structures b d core t → core ≡ Plain x → is_function_form (of_function b) (form_of d) ≡ of_function t
declares-as structures _ _ _ _ x (DeclaresNothing t) h = ap (is_function_form (of_function t)) (form-at declr.Nothing one.Nothing declr_rolls.outs-Nothing)
declares-as structures _ _ _ _ x (DeclaresName t y) h = ap (is_function_form (of_function t)) (form-at (declr.Named y) (one.Declr::Named y) (declr_rolls.outs-Named y))
declares-as structures _ _ _ _ x (DeclaresFunction t y entries ps at r) h = absurd (cc)
declares-as structures _ _ _ _ x (InParens b t d core r) h = ap (is_function_form (of_function b)) (form-at (declr.Paren d) (one.Declr::Paren d) (declr_rolls.outs-Paren d)) ∙ declares-as structures b t d.node core x r h
declares-as structures _ _ _ _ x (DeclaresPointer c b t d core e r) h =
    let words = qualifier_words c.constant c.volatile in
    ap (is_function_form (of_function b)) (form-at (declr.Pointer words d) (one.Pointer words d) (declr_rolls.outs-Pointer words d))
    ∙ nearer-is (of_function b) (of_function c) (form_of d.node) form.Pointer (sym (ap (is_func_shape (λ sig. true)) e)) ∙ declares-as structures c t d.node core x r h
declares-as structures _ _ _ _ x (DeclaresArray c b t n d core at e f g r) h =
    let bound : Option (At Tree) = Some (record { at = at; node = tree.Number n (plain_suffix n) }) in
    ap (is_function_form (of_function b)) (form-at (declr.Array d bound) (one.Array d bound) (declr_rolls.outs-Array d bound))
    ∙ nearer-is (of_function b) (of_function c) (form_of d.node) form.Array (sym (ap (is_func_shape (λ sig. true)) e)) ∙ declares-as structures c t d.node core x r h
declares-as structures _ _ _ _ x (DeclaresFunc c t sig ps d core e f g k r) h =
    ap (is_function_form (of_function (out-Sig sig).result)) (form-at (declr.Func d ps) (one.Func d ps) (declr_rolls.outs-Func d ps))
    ∙ nearer-is (of_function (out-Sig sig).result) (of_function c) (form_of d.node) form.Function (sym (ap (is_func_shape (λ sig. true)) e)) ∙ declares-as structures c t d.node core x r h

function-level : (number : ℕ → ℕ) (x : shape.Shape-F Shape CType Sig) → is_func_shape (λ sig. true) (level number x) ≡ is_func_shape (λ sig. true) x
function-level number shape.Void = refl
function-level number (shape.Int i) = refl
function-level number (shape.Pointer to) = refl
function-level number (shape.Array of n) = refl
function-level number (shape.Struct i) = refl
function-level number (shape.Func sig) = refl

function-numbered : (number : ℕ → ℕ) (t : CType) → of_function (type_numbered number t) ≡ of_function t
function-numbered number t = ap (is_func_shape (λ sig. true)) (shape-level number t) ∙ function-level number (out-Shape t.shape)

function-kind : (q good : Bool) → is_object_type (qualified_kind q (if good then Some IsFunction else None)) ≡ true → ⊥
function-kind true true h = cc
function-kind true false h = cc
function-kind false true h = cc
function-kind false false h = cc

object-no-function : (p : Program) (t : CType) (x : shape.Shape-F Shape CType Sig) → out-Shape t.shape ≡ x → is_object_type (kind_in p t) ≡ true → is_func_shape (λ sig. true) x ≡ false
object-no-function p t (shape.Func sig) e h = absurd (function-kind (t.constant || t.volatile) (is_sig p.target (extent_in p.structures p.target) sig) (sym (ap is_object_type (kind-at p t (shape.Func sig) e)) ∙ h))
object-no-function p t shape.Void e h = refl
object-no-function p t (shape.Int i) e h = refl
object-no-function p t (shape.Pointer to) e h = refl
object-no-function p t (shape.Array of n) e h = refl
object-no-function p t (shape.Struct i) e h = refl

-- an object's declarator declares no function, also where specifiers have a unit's numbers
pub no-function : (p : Program) (number : ℕ → ℕ) (b t : CType) (d : Declr) (x : Option Name) → Declares p.structures b d (Plain x) t → is_object_type (kind_in p t) ≡ true → declares_function (is_function_type (type_numbered number b)) d ≡ false
no-function p number b t d x h k =
    ap (λ c. is_function_form c (form_of d)) (function-numbered number b) ∙ declares-as p.structures b t d (Plain x) x h refl ∙ object-no-function p t (out-Shape t.shape) refl k
