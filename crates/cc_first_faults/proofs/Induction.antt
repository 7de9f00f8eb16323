-- Induction over constructs of the trees: the law of each is shown from the law of those in it.
use Rattle.std.proofs.Common.{ℕ, ℤ, Bool, List}
use Rattle.cc_program.specs.CcNum.declared.target.Target.{Target}
use Rattle.cc_program.specs.declared.program.Roles.{Roles}
use Rattle.cc_typed_bodies.specs.CcScopes.State.{State, Name}
use Rattle.cc_typed_bodies.specs.CcSpecifiers.declared.derivation.Allowed.{Allowed}
use Rattle.cc_typed_bodies.specs.CcSpecifiers.declared.derivation.Parameter.{Parameter}
use Rattle.cc_typed_bodies.specs.CcSyntax.Types.{Named}
use Rattle.cc_tree.specs.declared.at.At.{At}
use Rattle.cc_tree.specs.declared.tree.Declr.{Declr, map-Declr}
use Rattle.cc_tree.specs.declared.tree.Declr.TheOpen as one
use Rattle.cc_tree.specs.declared.tree.Enumr.{Enumr, map-Enumr}
use Rattle.cc_tree.specs.declared.tree.MemberDecl.{MemberDecl, map-MemberDecl}
use Rattle.cc_tree.specs.declared.tree.Param.{Param, map-Param}
use Rattle.cc_tree.specs.declared.tree.Params.{Params, map-Params}
use Rattle.cc_tree.specs.declared.tree.Spec.{Spec, map-Spec}
use Rattle.cc_tree.specs.declared.tree.Tree.{Tree, map-Tree}
use Rattle.cc_tree.specs.declared.tree.TypeName.{TypeName, map-TypeName}
use Rattle.cc_first_faults.specs.Constructs.{Expression, TypeNamed, Specifier, MembersBehind, ConstantBehind, Declaring, ParameterList, ParameterBehind}
use Rattle.cc_first_faults.proofs.Laws.{Law}

-- something of a kind at its place, with what holds of it
abbrev pub plain : {A : Type 0} {P : A → Type 0} → At ((x : A) × P x) → At A
plain x = record { at = x.at; node = x.node.0 }

module _ (target : Target) (roles : Roles) (defined : List Name) where
  abbrev pub OfDeclr : Declr → Type 0
  OfDeclr d = (at : ℕ) (allowed : Allowed) (s : State) → Law target roles defined (Declaring allowed (record { at = at; node = d })) s

  abbrev pub OfParams : Params → Type 0
  OfParams ps = (unnamed : Bool) (s : State) → Law target roles defined (ParameterList unnamed ps) s

  abbrev pub OfSpec : Spec → Type 0
  OfSpec x = (at : ℕ) (s : State) → Law target roles defined (Specifier (record { at = at; node = x })) s

  abbrev pub OfTree : Tree → Type 0
  OfTree e = (at : ℕ) (s : State) → Law target roles defined (Expression (record { at = at; node = e })) s

  abbrev pub OfEnumr : Enumr → Type 0
  OfEnumr c = (at : ℕ) (next : ℤ) (s : State) → Law target roles defined (ConstantBehind next (record { at = at; node = c })) s

  abbrev pub OfMembers : MemberDecl → Type 0
  OfMembers d = (at : ℕ) (before : List Named) (s : State) → Law target roles defined (MembersBehind before (record { at = at; node = d })) s

  abbrev pub OfParam : Param → Type 0
  OfParam p = (at : ℕ) (unnamed : Bool) (before : List Parameter) (s : State) → Law target roles defined (ParameterBehind unnamed before (record { at = at; node = p })) s

  abbrev pub OfTypeName : TypeName → Type 0
  OfTypeName t = (cast : Bool) (s : State) → Law target roles defined (TypeNamed cast t) s

  abbrev pub SomeDeclr : Type 0
  SomeDeclr = (x : Declr) × OfDeclr x

  abbrev pub SomeParams : Type 0
  SomeParams = (x : Params) × OfParams x

  abbrev pub SomeSpec : Type 0
  SomeSpec = (x : Spec) × OfSpec x

  abbrev pub SomeTree : Type 0
  SomeTree = (x : Tree) × OfTree x

  abbrev pub SomeEnumr : Type 0
  SomeEnumr = (x : Enumr) × OfEnumr x

  abbrev pub SomeMembers : Type 0
  SomeMembers = (x : MemberDecl) × OfMembers x

  abbrev pub SomeParam : Type 0
  SomeParam = (x : Param) × OfParam x

  abbrev pub SomeTypeName : Type 0
  SomeTypeName = (x : TypeName) × OfTypeName x

  abbrev pub bare_declr : one.Declr-F SomeDeclr SomeParams SomeSpec SomeTree SomeEnumr SomeMembers SomeParam SomeTypeName → one.Declr-F Declr Params Spec Tree Enumr MemberDecl Param TypeName
  bare_declr x = map-Declr SomeDeclr SomeParams SomeSpec SomeTree SomeEnumr SomeMembers SomeParam SomeTypeName Declr Params Spec Tree Enumr MemberDecl Param TypeName (λ x. x.0) (λ x. x.0) (λ x. x.0) (λ x. x.0) (λ x. x.0) (λ x. x.0) (λ x. x.0) (λ x. x.0) x

  abbrev pub bare_params : one.Params-F SomeDeclr SomeParams SomeSpec SomeTree SomeEnumr SomeMembers SomeParam SomeTypeName → one.Params-F Declr Params Spec Tree Enumr MemberDecl Param TypeName
  bare_params x = map-Params SomeDeclr SomeParams SomeSpec SomeTree SomeEnumr SomeMembers SomeParam SomeTypeName Declr Params Spec Tree Enumr MemberDecl Param TypeName (λ x. x.0) (λ x. x.0) (λ x. x.0) (λ x. x.0) (λ x. x.0) (λ x. x.0) (λ x. x.0) (λ x. x.0) x

  abbrev pub bare_spec : one.Spec-F SomeDeclr SomeParams SomeSpec SomeTree SomeEnumr SomeMembers SomeParam SomeTypeName → one.Spec-F Declr Params Spec Tree Enumr MemberDecl Param TypeName
  bare_spec x = map-Spec SomeDeclr SomeParams SomeSpec SomeTree SomeEnumr SomeMembers SomeParam SomeTypeName Declr Params Spec Tree Enumr MemberDecl Param TypeName (λ x. x.0) (λ x. x.0) (λ x. x.0) (λ x. x.0) (λ x. x.0) (λ x. x.0) (λ x. x.0) (λ x. x.0) x

  abbrev pub bare_tree : one.Tree-F SomeDeclr SomeParams SomeSpec SomeTree SomeEnumr SomeMembers SomeParam SomeTypeName → one.Tree-F Declr Params Spec Tree Enumr MemberDecl Param TypeName
  bare_tree x = map-Tree SomeDeclr SomeParams SomeSpec SomeTree SomeEnumr SomeMembers SomeParam SomeTypeName Declr Params Spec Tree Enumr MemberDecl Param TypeName (λ x. x.0) (λ x. x.0) (λ x. x.0) (λ x. x.0) (λ x. x.0) (λ x. x.0) (λ x. x.0) (λ x. x.0) x

  abbrev pub bare_enumr : one.Enumr-F SomeDeclr SomeParams SomeSpec SomeTree SomeEnumr SomeMembers SomeParam SomeTypeName → one.Enumr-F Declr Params Spec Tree Enumr MemberDecl Param TypeName
  bare_enumr x = map-Enumr SomeDeclr SomeParams SomeSpec SomeTree SomeEnumr SomeMembers SomeParam SomeTypeName Declr Params Spec Tree Enumr MemberDecl Param TypeName (λ x. x.0) (λ x. x.0) (λ x. x.0) (λ x. x.0) (λ x. x.0) (λ x. x.0) (λ x. x.0) (λ x. x.0) x

  abbrev pub bare_members : one.MemberDecl-F SomeDeclr SomeParams SomeSpec SomeTree SomeEnumr SomeMembers SomeParam SomeTypeName → one.MemberDecl-F Declr Params Spec Tree Enumr MemberDecl Param TypeName
  bare_members x = map-MemberDecl SomeDeclr SomeParams SomeSpec SomeTree SomeEnumr SomeMembers SomeParam SomeTypeName Declr Params Spec Tree Enumr MemberDecl Param TypeName (λ x. x.0) (λ x. x.0) (λ x. x.0) (λ x. x.0) (λ x. x.0) (λ x. x.0) (λ x. x.0) (λ x. x.0) x

  abbrev pub bare_param : one.Param-F SomeDeclr SomeParams SomeSpec SomeTree SomeEnumr SomeMembers SomeParam SomeTypeName → one.Param-F Declr Params Spec Tree Enumr MemberDecl Param TypeName
  bare_param x = map-Param SomeDeclr SomeParams SomeSpec SomeTree SomeEnumr SomeMembers SomeParam SomeTypeName Declr Params Spec Tree Enumr MemberDecl Param TypeName (λ x. x.0) (λ x. x.0) (λ x. x.0) (λ x. x.0) (λ x. x.0) (λ x. x.0) (λ x. x.0) (λ x. x.0) x

  abbrev pub bare_type_name : one.TypeName-F SomeDeclr SomeParams SomeSpec SomeTree SomeEnumr SomeMembers SomeParam SomeTypeName → one.TypeName-F Declr Params Spec Tree Enumr MemberDecl Param TypeName
  bare_type_name x = map-TypeName SomeDeclr SomeParams SomeSpec SomeTree SomeEnumr SomeMembers SomeParam SomeTypeName Declr Params Spec Tree Enumr MemberDecl Param TypeName (λ x. x.0) (λ x. x.0) (λ x. x.0) (λ x. x.0) (λ x. x.0) (λ x. x.0) (λ x. x.0) (λ x. x.0) x
