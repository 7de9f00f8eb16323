-- The types that declarators derive (C99 6.7.5).
use Rattle.std.specs.Prelude.{ℕ, zero, Bool, true, false, not, ◌&&◌, ◌||◌, List, [], ◌∷◌, map, Option, Some, None, Ok, Err, if◌then◌else◌}
use Rattle.cc_program.specs.CcNum.declared.target.Target.{Target}
use Rattle.cc_operands.specs.Qualified.{plain, unqualified}
use Rattle.cc_operands.specs.declared.rule.Rule.{Rule}
use Rattle.cc_operands.specs.declared.rule.Rule.TheVariants as rule
use Rattle.cc_program.specs.declared.types.CType.{CType}
use Rattle.cc_program.specs.declared.types.Shape.{Shape, Pointer, Array, Func, out-Shape}
use Rattle.cc_program.specs.declared.types.Shape.TheOpen as shape
use Rattle.cc_program.specs.declared.types.Sig.{Sig, roll-Sig}
use Rattle.cc_program.specs.declared.types.Structure.{Structure}
use Rattle.cc_specifiers.specs.Objects.{is_object}
use Rattle.cc_specifiers.specs.Places.{JudgedAt}
use Rattle.cc_specifiers.specs.declared.declarator.Form.{Form}
use Rattle.cc_specifiers.specs.declared.declarator.Form.TheVariants as form
use Rattle.cc_specifiers.specs.declared.derivation.Allowed.{Allowed}
use Rattle.cc_specifiers.specs.declared.derivation.Derivation.{Derivation}
use Rattle.cc_specifiers.specs.declared.derivation.Derivation.TheVariants as to
use Rattle.cc_specifiers.specs.declared.derivation.Parameter.{Parameter}
use Rattle.cc_syntax.specs.Operators.{is_unqualified}
use Rattle.cc_syntax.specs.Values.{is_void}
use Rattle.cc_syntax.specs.declared.sizes.Layout.{Layout}
use Rattle.cc_tree.specs.declared.at.At.{At}
use Rattle.cc_tree.specs.declared.tree.Declr.{Declr, fold-Declr}
use Rattle.cc_tree.specs.declared.tree.Declr.TheOpen as one

-- ---- the type behind a derivation; an array without a bound is incomplete (6.2.5, 22), and has the bound 0

abbrev pub bound_or_none : Option ℕ → ℕ
bound_or_none None = 0
bound_or_none (Some n) = n

abbrev pub function_to : CType → List Parameter → CType
function_to result ps = plain (Func (roll-Sig (record { result = result; params = map (λ p. unqualified p.ctype) ps })))

abbrev pub derive_one : {S : Type 0} → Derivation S → CType → CType
derive_one (to.Pointer constant volatile) t = record { constant = constant; volatile = volatile; shape = Pointer t }
derive_one (to.Array n) t = plain (Array t (bound_or_none n))
derive_one (to.Function ps scope) t = function_to t ps

abbrev pub derive : {S : Type 0} → CType → List (At (Derivation S)) → CType
derive base [] = base
derive base (d ∷ ds) = derive_one d.node (derive base ds)

-- an array without a bound
abbrev pub is_unbounded_shape : shape.Shape-F Shape CType Sig → Bool
is_unbounded_shape (shape.Array of zero) = true
is_unbounded_shape _ = false

abbrev pub is_unbounded : CType → Bool
is_unbounded t = is_unbounded_shape (out-Shape t.shape)

-- ---- which of them may stand there

-- a function gives no structure, no array and no function (6.7.5.3, 1)
abbrev pub result_breach : shape.Shape-F Shape CType Sig → Option Rule
result_breach shape.Void = None
result_breach (shape.Int t) = None
result_breach (shape.Pointer to) = None
result_breach (shape.Array of n) = Some rule.FunctionResult
result_breach (shape.Struct i) = Some rule.StructureValue
result_breach (shape.Func sig) = Some rule.FunctionResult

abbrev pub broken_unless : Bool → Rule → Option Rule
broken_unless good broken = if good then None else Some broken

-- a derivation that breaks a rule is at fault where none in it does, which is nearer to the name
abbrev pub fault_or : ℕ → Option Rule → JudgedAt CType → JudgedAt CType
fault_or at None found = found
fault_or at (Some broken) found = Err (record { at = at; node = broken })

abbrev pub derived_further : {S : Type 0} → Derivation S → JudgedAt CType → JudgedAt CType
derived_further d (Ok t) = Ok (derive_one d t)
derived_further d (Err fault) = Err fault

-- a type, unless a derivation of it is at fault
abbrev pub with_fault : Option (At Rule) → CType → JudgedAt CType
with_fault None t = Ok t
with_fault (Some fault) t = Err fault

-- over structures whose layouts are known
module _ (target : Target) (structures : List Structure) (layouts : List Layout) where
  -- by the type behind it; the flag says that a pointer to void may stand there
  abbrev pub breach : {S : Type 0} → Bool → CType → Derivation S → Option Rule
  breach void t (to.Pointer constant volatile) = broken_unless (not (is_void t) || (void && is_unqualified t)) rule.PointerToVoid
  breach void t (to.Array n) = broken_unless (is_object target structures layouts t) rule.NoObjectType
  breach void t (to.Function ps scope) = result_breach (out-Shape t.shape)

  -- a pointer to void is allowed next to the name alone
  abbrev pub derived : {S : Type 0} → Bool → CType → List (At (Derivation S)) → JudgedAt CType
  derived void base [] = Ok base
  derived void base (d ∷ ds) = fault_or d.at (breach void (derive base ds) d.node) (derived_further d.node (derived false base ds))

  abbrev pub type_found : {S : Type 0} → Allowed → CType → List (At (Derivation S)) → JudgedAt CType
  type_found allowed base ds = derived allowed.void base ds

-- ---- what a declarator declares, by the part of it next to the name

abbrev pub nearer : Option Form → Form → Option Form
nearer None f = Some f
nearer (Some f) g = Some f

abbrev pub form_step : one.Declr-F (Option Form) Unit Unit Unit Unit Unit Unit Unit → Option Form
form_step one.Nothing = None
form_step (one.Declr::Named x) = None
form_step (one.Declr::Paren d) = d.node
form_step (one.Pointer q d) = nearer d.node form.Pointer
form_step (one.Array d e) = nearer d.node form.Array
form_step (one.Func d p) = nearer d.node form.Function

unfoldable pub form_of : Declr → Option Form
form_of d = fold-Declr (Option Form) Unit Unit Unit Unit Unit Unit Unit form_step (λ _. tt) (λ _. tt) (λ _. tt) (λ _. tt) (λ _. tt) (λ _. tt) (λ _. tt) d

abbrev pub is_function_form : Bool → Option Form → Bool
is_function_form base None = base
is_function_form base (Some form.Function) = true
is_function_form base (Some form.Pointer) = false
is_function_form base (Some form.Array) = false

-- whether it declares a function; the flag says that the specifiers name a function's type
abbrev pub declares_function : Bool → Declr → Bool
declares_function base d = is_function_form base (form_of d)
