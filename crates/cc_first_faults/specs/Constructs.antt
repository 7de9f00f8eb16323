-- The constructs of declarations and of what stands in them (C99 6.5, 6.7), each with what has been found in front of it,
-- and where each begins.
use Rattle.std.specs.Prelude.{ℕ, ℤ, Bool, List, Option, Some, None}
use Rattle.cc_typed_bodies.specs.CcTypedTerms.Specifiers.{begin}
use Rattle.cc_typed_bodies.specs.CcDesignators.Designators.{TypedExpr, IsPlace, IsValue, IsFunction, IsIntrinsic, IsAddress}
use Rattle.cc_typed_bodies.specs.CcInitialisers.Initialisers.{Step, Give, Character, Zero, Visit, Break}
use Rattle.cc_typed_bodies.specs.CcObjects.declared.category.Category.{Category}
use Rattle.cc_program.specs.declared.types.CType.{CType}
use Rattle.cc_typed_bodies.specs.CcScopes.State.{Name, Scope}
use Rattle.cc_typed_bodies.specs.CcSpecifiers.Derivations.{outermost}
use Rattle.cc_typed_bodies.specs.CcSpecifiers.declared.attribute.Attribute.{Attribute}
use Rattle.cc_typed_bodies.specs.CcSpecifiers.declared.attribute.Entity.{Entity}
use Rattle.cc_typed_bodies.specs.CcSpecifiers.declared.derivation.Allowed.{Allowed}
use Rattle.cc_typed_bodies.specs.CcSpecifiers.declared.derivation.Declarator.{Declarator}
use Rattle.cc_typed_bodies.specs.CcSpecifiers.declared.derivation.Derivation.{Derivation}
use Rattle.cc_typed_bodies.specs.CcSpecifiers.declared.derivation.Parameter.{Parameter}
use Rattle.cc_typed_bodies.specs.CcSpecifiers.declared.specifier.Specified.{Specified}
use Rattle.cc_typed_bodies.specs.CcSpecifiers.declared.specifier.Specs.{Specs}
use Rattle.cc_typed_bodies.specs.CcSpecifiers.declared.storage.Setting.{Setting}
use Rattle.cc_typed_bodies.specs.CcSpecifiers.declared.storage.Where.{Where}
use Rattle.cc_typed_bodies.specs.CcSyntax.Types.{Named}
use Rattle.cc_tree.specs.declared.at.At.{At}
use Rattle.cc_tree.specs.declared.tree.Attr.{Attr}
use Rattle.cc_tree.specs.declared.tree.Declr.{Declr}
use Rattle.cc_tree.specs.declared.tree.Declr.TheOpen as one
use Rattle.cc_tree.specs.declared.tree.Enumr.{Enumr}
use Rattle.cc_tree.specs.declared.tree.MemberDecl.{MemberDecl}
use Rattle.cc_tree.specs.declared.tree.Param.{Param}
use Rattle.cc_tree.specs.declared.tree.Params.{Params, out-Params}
use Rattle.cc_tree.specs.declared.tree.Spec.{Spec}
use Rattle.cc_tree.specs.declared.tree.Tree.{Tree}
use Rattle.cc_tree.specs.declared.tree.TypeName.{TypeName, out-TypeName}
use Rattle.cc_tree.specs.declared.unit.Decl.{Decl}
use Rattle.cc_tree.specs.declared.unit.Init.{Init}

pub data Construct : Type 0 where
  -- an expression (6.5); it as a value, and as what it designates (6.3.2.1)
  Expression : At Tree → Construct
  ValueOf : At Tree → Construct
  DesignatedBy : At Tree → Construct
  -- what an expression at this place is found to be, as a value and as what it designates
  Valued : ℕ → TypedExpr → Construct
  Designated : TypedExpr → Construct
  -- a type name; the flag says that it stands in a cast (6.7.6)
  TypeNamed : Bool → TypeName → Construct
  -- specifiers, one of them behind others, and one by itself (6.7)
  Specifiers : Setting → List (At Spec) → Construct
  SpecifierBehind : Setting → Specs → At Spec → Construct
  Specifier : At Spec → Construct
  -- an attribute that is said of these
  OneAttribute : List Entity → At Attr → Construct
  -- a declaration of members behind others, and one of its declarators (6.7.2.1)
  MembersBehind : List Named → At MemberDecl → Construct
  MemberBehind : CType → List Named → At Declr → Construct
  -- a constant of an enumeration, from the value that it has where none is given (6.7.2.2)
  ConstantBehind : ℤ → At Enumr → Construct
  -- a declarator (6.7.5); its outermost derivation, behind which a function's parameters stand, or else a bound; what it
  -- derives of a type
  Declaring : Allowed → At Declr → Construct
  Suffixed : Bool → List (At (Derivation Scope)) → Construct
  Derived : Bool → CType → At (Derivation Scope) → Construct
  -- parameters, one behind others, and what it declares of this type (6.7.5.3)
  ParameterList : Bool → Params → Construct
  ParameterBehind : Bool → List Parameter → At Param → Construct
  ParameterNamed : Bool → List Parameter → CType → ℕ → Declarator Scope → Construct
  -- a declaration; a declarator of it with all that belongs to it; its name (6.7)
  Declaration : Where → Decl → Construct
  Declared : Where → Specified → At Init → Construct
  NameDeclared : ℕ → Category → CType → Name → List (At (List Attribute)) → Construct
  -- a step of the initialiser of a static object, and of an automatic one (6.7.8)
  LeafGiven : Step → Construct
  ScalarAssigned : Step → Construct

-- the name of an intrinsic, or an integer constant that is cast to a pointer type, stands where it says
abbrev pub stands_at : ℕ → TypedExpr → ℕ
stands_at at (IsPlace a t) = at
stands_at at (IsValue x) = at
stands_at at (IsFunction f sig) = at
stands_at at (IsIntrinsic i place) = place
stands_at at (IsAddress n t place) = place

abbrev pub begin_of : {A : Type 0} → Option (At A) → ℕ
begin_of None = 0
begin_of (Some x) = x.at

abbrev pub parameters_begin : one.Params-F Declr Params Spec Tree Enumr MemberDecl Param TypeName → ℕ
parameters_begin one.Empty = 0
parameters_begin one.Void = 0
parameters_begin (one.Many ps) = begin ps

-- what a step is done for
abbrev pub step_at : Step → ℕ
step_at (Give constant t e) = e.at
step_at (Character at constant t byte) = at
step_at (Zero at constant t) = at
step_at (Visit e) = e.at
step_at (Break at rule) = at

abbrev pub place : Construct → ℕ
place (Expression e) = e.at
place (ValueOf e) = e.at
place (DesignatedBy e) = e.at
place (Valued at x) = stands_at at x
place (Designated x) = stands_at 0 x
place (TypeNamed cast t) = begin (out-TypeName t).specs
place (Specifiers setting xs) = begin xs
place (SpecifierBehind setting specs x) = x.at
place (Specifier x) = x.at
place (OneAttribute entities x) = x.at
place (MembersBehind before d) = d.at
place (MemberBehind base before d) = d.at
place (ConstantBehind next c) = c.at
place (Declaring allowed d) = d.at
place (Suffixed function ds) = begin_of (outermost ds)
place (Derived void t d) = d.at
place (ParameterList unnamed ps) = parameters_begin (out-Params ps)
place (ParameterBehind unnamed before p) = p.at
place (ParameterNamed unnamed before base at x) = at
place (Declaration stands d) = begin d.specs
place (Declared stands base i) = i.at
place (NameDeclared at c t x marks) = at
place (LeafGiven step) = step_at step
place (ScalarAssigned step) = step_at step
