-- Induction over expressions, declarators, specifiers and what stands in them: a claim of each kind of construct holds of all where it holds
-- of each one whose parts it holds of.
use Rattle.std.proofs.Common.{subst}
use Rattle.cc_tree.specs.declared.tree.Declr.TheOpen as one
use Rattle.cc_tree.specs.declared.tree.Declr.{Declr, roll-Declr, map-Declr, ind-Declr}
use Rattle.cc_tree.specs.declared.tree.Params.{Params, roll-Params, map-Params, ind-Params}
use Rattle.cc_tree.specs.declared.tree.Spec.{Spec, roll-Spec, map-Spec, ind-Spec}
use Rattle.cc_tree.specs.declared.tree.Tree.{Tree, roll-Tree, map-Tree, ind-Tree}
use Rattle.cc_tree.specs.declared.tree.Enumr.{Enumr, roll-Enumr, map-Enumr, ind-Enumr}
use Rattle.cc_tree.specs.declared.tree.MemberDecl.{MemberDecl, roll-MemberDecl, map-MemberDecl, ind-MemberDecl}
use Rattle.cc_tree.specs.declared.tree.Param.{Param, roll-Param, map-Param, ind-Param}
use Rattle.cc_tree.specs.declared.tree.TypeName.{TypeName, roll-TypeName, map-TypeName, ind-TypeName}

module _ (PD : Declr → Type 0) (PP : Params → Type 0) (PS : Spec → Type 0) (PT : Tree → Type 0) (PE : Enumr → Type 0) (PM : MemberDecl → Type 0) (PA : Param → Type 0) (PN : TypeName → Type 0) where
  abbrev pub SomeDeclr : Type 0
  SomeDeclr = (x : Declr) × PD x

  abbrev pub SomeParams : Type 0
  SomeParams = (x : Params) × PP x

  abbrev pub SomeSpec : Type 0
  SomeSpec = (x : Spec) × PS x

  abbrev pub SomeTree : Type 0
  SomeTree = (x : Tree) × PT x

  abbrev pub SomeEnumr : Type 0
  SomeEnumr = (x : Enumr) × PE x

  abbrev pub SomeMembers : Type 0
  SomeMembers = (x : MemberDecl) × PM x

  abbrev pub SomeParam : Type 0
  SomeParam = (x : Param) × PA x

  abbrev pub SomeTypeName : Type 0
  SomeTypeName = (x : TypeName) × PN x

  abbrev pub bare_declr : one.Declr-F SomeDeclr SomeParams SomeSpec SomeTree SomeEnumr SomeMembers SomeParam SomeTypeName → one.Declr-F Declr Params Spec Tree Enumr MemberDecl Param TypeName
  bare_declr x = map-Declr SomeDeclr SomeParams SomeSpec SomeTree SomeEnumr SomeMembers SomeParam SomeTypeName Declr Params Spec Tree Enumr MemberDecl Param TypeName (λ x. x.0) (λ x. x.0) (λ x. x.0) (λ x. x.0) (λ x. x.0) (λ x. x.0) (λ x. x.0) (λ x. x.0) x

  abbrev pub bare_params : one.Params-F SomeDeclr SomeParams SomeSpec SomeTree SomeEnumr SomeMembers SomeParam SomeTypeName → one.Params-F Declr Params Spec Tree Enumr MemberDecl Param TypeName
  bare_params x = map-Params SomeDeclr SomeParams SomeSpec SomeTree SomeEnumr SomeMembers SomeParam SomeTypeName Declr Params Spec Tree Enumr MemberDecl Param TypeName (λ x. x.0) (λ x. x.0) (λ x. x.0) (λ x. x.0) (λ x. x.0) (λ x. x.0) (λ x. x.0) (λ x. x.0) x

  abbrev pub bare_spec : one.Spec-F SomeDeclr SomeParams SomeSpec SomeTree SomeEnumr SomeMembers SomeParam SomeTypeName → one.Spec-F Declr Params Spec Tree Enumr MemberDecl Param TypeName
  bare_spec x = map-Spec SomeDeclr SomeParams SomeSpec SomeTree SomeEnumr SomeMembers SomeParam SomeTypeName Declr Params Spec Tree Enumr MemberDecl Param TypeName (λ x. x.0) (λ x. x.0) (λ x. x.0) (λ x. x.0) (λ x. x.0) (λ x. x.0) (λ x. x.0) (λ x. x.0) x

  abbrev pub bare_tree : one.Tree-F SomeDeclr SomeParams SomeSpec SomeTree SomeEnumr SomeMembers SomeParam SomeTypeName → one.Tree-F Declr Params Spec Tree Enumr MemberDecl Param TypeName
  bare_tree x = map-Tree SomeDeclr SomeParams SomeSpec SomeTree SomeEnumr SomeMembers SomeParam SomeTypeName Declr Params Spec Tree Enumr MemberDecl Param TypeName (λ x. x.0) (λ x. x.0) (λ x. x.0) (λ x. x.0) (λ x. x.0) (λ x. x.0) (λ x. x.0) (λ x. x.0) x

  abbrev pub bare_enumr : one.Enumr-F SomeDeclr SomeParams SomeSpec SomeTree SomeEnumr SomeMembers SomeParam SomeTypeName → one.Enumr-F Declr Params Spec Tree Enumr MemberDecl Param TypeName
  bare_enumr x = map-Enumr SomeDeclr SomeParams SomeSpec SomeTree SomeEnumr SomeMembers SomeParam SomeTypeName Declr Params Spec Tree Enumr MemberDecl Param TypeName (λ x. x.0) (λ x. x.0) (λ x. x.0) (λ x. x.0) (λ x. x.0) (λ x. x.0) (λ x. x.0) (λ x. x.0) x

  abbrev pub bare_members : one.MemberDecl-F SomeDeclr SomeParams SomeSpec SomeTree SomeEnumr SomeMembers SomeParam SomeTypeName → one.MemberDecl-F Declr Params Spec Tree Enumr MemberDecl Param TypeName
  bare_members x = map-MemberDecl SomeDeclr SomeParams SomeSpec SomeTree SomeEnumr SomeMembers SomeParam SomeTypeName Declr Params Spec Tree Enumr MemberDecl Param TypeName (λ x. x.0) (λ x. x.0) (λ x. x.0) (λ x. x.0) (λ x. x.0) (λ x. x.0) (λ x. x.0) (λ x. x.0) x

  abbrev pub bare_param : one.Param-F SomeDeclr SomeParams SomeSpec SomeTree SomeEnumr SomeMembers SomeParam SomeTypeName → one.Param-F Declr Params Spec Tree Enumr MemberDecl Param TypeName
  bare_param x = map-Param SomeDeclr SomeParams SomeSpec SomeTree SomeEnumr SomeMembers SomeParam SomeTypeName Declr Params Spec Tree Enumr MemberDecl Param TypeName (λ x. x.0) (λ x. x.0) (λ x. x.0) (λ x. x.0) (λ x. x.0) (λ x. x.0) (λ x. x.0) (λ x. x.0) x

  abbrev pub bare_type_name : one.TypeName-F SomeDeclr SomeParams SomeSpec SomeTree SomeEnumr SomeMembers SomeParam SomeTypeName → one.TypeName-F Declr Params Spec Tree Enumr MemberDecl Param TypeName
  bare_type_name x = map-TypeName SomeDeclr SomeParams SomeSpec SomeTree SomeEnumr SomeMembers SomeParam SomeTypeName Declr Params Spec Tree Enumr MemberDecl Param TypeName (λ x. x.0) (λ x. x.0) (λ x. x.0) (λ x. x.0) (λ x. x.0) (λ x. x.0) (λ x. x.0) (λ x. x.0) x

  module _ (made_declr : (y : one.Declr-F SomeDeclr SomeParams SomeSpec SomeTree SomeEnumr SomeMembers SomeParam SomeTypeName) → PD (roll-Declr (bare_declr y)))
      (made_params : (y : one.Params-F SomeDeclr SomeParams SomeSpec SomeTree SomeEnumr SomeMembers SomeParam SomeTypeName) → PP (roll-Params (bare_params y)))
      (made_spec : (y : one.Spec-F SomeDeclr SomeParams SomeSpec SomeTree SomeEnumr SomeMembers SomeParam SomeTypeName) → PS (roll-Spec (bare_spec y)))
      (made_tree : (y : one.Tree-F SomeDeclr SomeParams SomeSpec SomeTree SomeEnumr SomeMembers SomeParam SomeTypeName) → PT (roll-Tree (bare_tree y)))
      (made_enumr : (y : one.Enumr-F SomeDeclr SomeParams SomeSpec SomeTree SomeEnumr SomeMembers SomeParam SomeTypeName) → PE (roll-Enumr (bare_enumr y)))
      (made_members : (y : one.MemberDecl-F SomeDeclr SomeParams SomeSpec SomeTree SomeEnumr SomeMembers SomeParam SomeTypeName) → PM (roll-MemberDecl (bare_members y)))
      (made_param : (y : one.Param-F SomeDeclr SomeParams SomeSpec SomeTree SomeEnumr SomeMembers SomeParam SomeTypeName) → PA (roll-Param (bare_param y)))
      (made_type_name : (y : one.TypeName-F SomeDeclr SomeParams SomeSpec SomeTree SomeEnumr SomeMembers SomeParam SomeTypeName) → PN (roll-TypeName (bare_type_name y))) where
    pub by_declr : (x : Declr) → PD x
    by_declr = ind-Declr PD PP PS PT PE PM PA PN
        (λ x y e. subst (λ (z : one.Declr-F Declr Params Spec Tree Enumr MemberDecl Param TypeName). PD (roll-Declr z)) e (made_declr y))
        (λ x y e. subst (λ (z : one.Params-F Declr Params Spec Tree Enumr MemberDecl Param TypeName). PP (roll-Params z)) e (made_params y))
        (λ x y e. subst (λ (z : one.Spec-F Declr Params Spec Tree Enumr MemberDecl Param TypeName). PS (roll-Spec z)) e (made_spec y))
        (λ x y e. subst (λ (z : one.Tree-F Declr Params Spec Tree Enumr MemberDecl Param TypeName). PT (roll-Tree z)) e (made_tree y))
        (λ x y e. subst (λ (z : one.Enumr-F Declr Params Spec Tree Enumr MemberDecl Param TypeName). PE (roll-Enumr z)) e (made_enumr y))
        (λ x y e. subst (λ (z : one.MemberDecl-F Declr Params Spec Tree Enumr MemberDecl Param TypeName). PM (roll-MemberDecl z)) e (made_members y))
        (λ x y e. subst (λ (z : one.Param-F Declr Params Spec Tree Enumr MemberDecl Param TypeName). PA (roll-Param z)) e (made_param y))
        (λ x y e. subst (λ (z : one.TypeName-F Declr Params Spec Tree Enumr MemberDecl Param TypeName). PN (roll-TypeName z)) e (made_type_name y))

    pub by_params : (x : Params) → PP x
    by_params = ind-Params PD PP PS PT PE PM PA PN
        (λ x y e. subst (λ (z : one.Declr-F Declr Params Spec Tree Enumr MemberDecl Param TypeName). PD (roll-Declr z)) e (made_declr y))
        (λ x y e. subst (λ (z : one.Params-F Declr Params Spec Tree Enumr MemberDecl Param TypeName). PP (roll-Params z)) e (made_params y))
        (λ x y e. subst (λ (z : one.Spec-F Declr Params Spec Tree Enumr MemberDecl Param TypeName). PS (roll-Spec z)) e (made_spec y))
        (λ x y e. subst (λ (z : one.Tree-F Declr Params Spec Tree Enumr MemberDecl Param TypeName). PT (roll-Tree z)) e (made_tree y))
        (λ x y e. subst (λ (z : one.Enumr-F Declr Params Spec Tree Enumr MemberDecl Param TypeName). PE (roll-Enumr z)) e (made_enumr y))
        (λ x y e. subst (λ (z : one.MemberDecl-F Declr Params Spec Tree Enumr MemberDecl Param TypeName). PM (roll-MemberDecl z)) e (made_members y))
        (λ x y e. subst (λ (z : one.Param-F Declr Params Spec Tree Enumr MemberDecl Param TypeName). PA (roll-Param z)) e (made_param y))
        (λ x y e. subst (λ (z : one.TypeName-F Declr Params Spec Tree Enumr MemberDecl Param TypeName). PN (roll-TypeName z)) e (made_type_name y))

    pub by_spec : (x : Spec) → PS x
    by_spec = ind-Spec PD PP PS PT PE PM PA PN
        (λ x y e. subst (λ (z : one.Declr-F Declr Params Spec Tree Enumr MemberDecl Param TypeName). PD (roll-Declr z)) e (made_declr y))
        (λ x y e. subst (λ (z : one.Params-F Declr Params Spec Tree Enumr MemberDecl Param TypeName). PP (roll-Params z)) e (made_params y))
        (λ x y e. subst (λ (z : one.Spec-F Declr Params Spec Tree Enumr MemberDecl Param TypeName). PS (roll-Spec z)) e (made_spec y))
        (λ x y e. subst (λ (z : one.Tree-F Declr Params Spec Tree Enumr MemberDecl Param TypeName). PT (roll-Tree z)) e (made_tree y))
        (λ x y e. subst (λ (z : one.Enumr-F Declr Params Spec Tree Enumr MemberDecl Param TypeName). PE (roll-Enumr z)) e (made_enumr y))
        (λ x y e. subst (λ (z : one.MemberDecl-F Declr Params Spec Tree Enumr MemberDecl Param TypeName). PM (roll-MemberDecl z)) e (made_members y))
        (λ x y e. subst (λ (z : one.Param-F Declr Params Spec Tree Enumr MemberDecl Param TypeName). PA (roll-Param z)) e (made_param y))
        (λ x y e. subst (λ (z : one.TypeName-F Declr Params Spec Tree Enumr MemberDecl Param TypeName). PN (roll-TypeName z)) e (made_type_name y))

    pub by_tree : (x : Tree) → PT x
    by_tree = ind-Tree PD PP PS PT PE PM PA PN
        (λ x y e. subst (λ (z : one.Declr-F Declr Params Spec Tree Enumr MemberDecl Param TypeName). PD (roll-Declr z)) e (made_declr y))
        (λ x y e. subst (λ (z : one.Params-F Declr Params Spec Tree Enumr MemberDecl Param TypeName). PP (roll-Params z)) e (made_params y))
        (λ x y e. subst (λ (z : one.Spec-F Declr Params Spec Tree Enumr MemberDecl Param TypeName). PS (roll-Spec z)) e (made_spec y))
        (λ x y e. subst (λ (z : one.Tree-F Declr Params Spec Tree Enumr MemberDecl Param TypeName). PT (roll-Tree z)) e (made_tree y))
        (λ x y e. subst (λ (z : one.Enumr-F Declr Params Spec Tree Enumr MemberDecl Param TypeName). PE (roll-Enumr z)) e (made_enumr y))
        (λ x y e. subst (λ (z : one.MemberDecl-F Declr Params Spec Tree Enumr MemberDecl Param TypeName). PM (roll-MemberDecl z)) e (made_members y))
        (λ x y e. subst (λ (z : one.Param-F Declr Params Spec Tree Enumr MemberDecl Param TypeName). PA (roll-Param z)) e (made_param y))
        (λ x y e. subst (λ (z : one.TypeName-F Declr Params Spec Tree Enumr MemberDecl Param TypeName). PN (roll-TypeName z)) e (made_type_name y))

    pub by_enumr : (x : Enumr) → PE x
    by_enumr = ind-Enumr PD PP PS PT PE PM PA PN
        (λ x y e. subst (λ (z : one.Declr-F Declr Params Spec Tree Enumr MemberDecl Param TypeName). PD (roll-Declr z)) e (made_declr y))
        (λ x y e. subst (λ (z : one.Params-F Declr Params Spec Tree Enumr MemberDecl Param TypeName). PP (roll-Params z)) e (made_params y))
        (λ x y e. subst (λ (z : one.Spec-F Declr Params Spec Tree Enumr MemberDecl Param TypeName). PS (roll-Spec z)) e (made_spec y))
        (λ x y e. subst (λ (z : one.Tree-F Declr Params Spec Tree Enumr MemberDecl Param TypeName). PT (roll-Tree z)) e (made_tree y))
        (λ x y e. subst (λ (z : one.Enumr-F Declr Params Spec Tree Enumr MemberDecl Param TypeName). PE (roll-Enumr z)) e (made_enumr y))
        (λ x y e. subst (λ (z : one.MemberDecl-F Declr Params Spec Tree Enumr MemberDecl Param TypeName). PM (roll-MemberDecl z)) e (made_members y))
        (λ x y e. subst (λ (z : one.Param-F Declr Params Spec Tree Enumr MemberDecl Param TypeName). PA (roll-Param z)) e (made_param y))
        (λ x y e. subst (λ (z : one.TypeName-F Declr Params Spec Tree Enumr MemberDecl Param TypeName). PN (roll-TypeName z)) e (made_type_name y))

    pub by_members : (x : MemberDecl) → PM x
    by_members = ind-MemberDecl PD PP PS PT PE PM PA PN
        (λ x y e. subst (λ (z : one.Declr-F Declr Params Spec Tree Enumr MemberDecl Param TypeName). PD (roll-Declr z)) e (made_declr y))
        (λ x y e. subst (λ (z : one.Params-F Declr Params Spec Tree Enumr MemberDecl Param TypeName). PP (roll-Params z)) e (made_params y))
        (λ x y e. subst (λ (z : one.Spec-F Declr Params Spec Tree Enumr MemberDecl Param TypeName). PS (roll-Spec z)) e (made_spec y))
        (λ x y e. subst (λ (z : one.Tree-F Declr Params Spec Tree Enumr MemberDecl Param TypeName). PT (roll-Tree z)) e (made_tree y))
        (λ x y e. subst (λ (z : one.Enumr-F Declr Params Spec Tree Enumr MemberDecl Param TypeName). PE (roll-Enumr z)) e (made_enumr y))
        (λ x y e. subst (λ (z : one.MemberDecl-F Declr Params Spec Tree Enumr MemberDecl Param TypeName). PM (roll-MemberDecl z)) e (made_members y))
        (λ x y e. subst (λ (z : one.Param-F Declr Params Spec Tree Enumr MemberDecl Param TypeName). PA (roll-Param z)) e (made_param y))
        (λ x y e. subst (λ (z : one.TypeName-F Declr Params Spec Tree Enumr MemberDecl Param TypeName). PN (roll-TypeName z)) e (made_type_name y))

    pub by_param : (x : Param) → PA x
    by_param = ind-Param PD PP PS PT PE PM PA PN
        (λ x y e. subst (λ (z : one.Declr-F Declr Params Spec Tree Enumr MemberDecl Param TypeName). PD (roll-Declr z)) e (made_declr y))
        (λ x y e. subst (λ (z : one.Params-F Declr Params Spec Tree Enumr MemberDecl Param TypeName). PP (roll-Params z)) e (made_params y))
        (λ x y e. subst (λ (z : one.Spec-F Declr Params Spec Tree Enumr MemberDecl Param TypeName). PS (roll-Spec z)) e (made_spec y))
        (λ x y e. subst (λ (z : one.Tree-F Declr Params Spec Tree Enumr MemberDecl Param TypeName). PT (roll-Tree z)) e (made_tree y))
        (λ x y e. subst (λ (z : one.Enumr-F Declr Params Spec Tree Enumr MemberDecl Param TypeName). PE (roll-Enumr z)) e (made_enumr y))
        (λ x y e. subst (λ (z : one.MemberDecl-F Declr Params Spec Tree Enumr MemberDecl Param TypeName). PM (roll-MemberDecl z)) e (made_members y))
        (λ x y e. subst (λ (z : one.Param-F Declr Params Spec Tree Enumr MemberDecl Param TypeName). PA (roll-Param z)) e (made_param y))
        (λ x y e. subst (λ (z : one.TypeName-F Declr Params Spec Tree Enumr MemberDecl Param TypeName). PN (roll-TypeName z)) e (made_type_name y))

    pub by_type_name : (x : TypeName) → PN x
    by_type_name = ind-TypeName PD PP PS PT PE PM PA PN
        (λ x y e. subst (λ (z : one.Declr-F Declr Params Spec Tree Enumr MemberDecl Param TypeName). PD (roll-Declr z)) e (made_declr y))
        (λ x y e. subst (λ (z : one.Params-F Declr Params Spec Tree Enumr MemberDecl Param TypeName). PP (roll-Params z)) e (made_params y))
        (λ x y e. subst (λ (z : one.Spec-F Declr Params Spec Tree Enumr MemberDecl Param TypeName). PS (roll-Spec z)) e (made_spec y))
        (λ x y e. subst (λ (z : one.Tree-F Declr Params Spec Tree Enumr MemberDecl Param TypeName). PT (roll-Tree z)) e (made_tree y))
        (λ x y e. subst (λ (z : one.Enumr-F Declr Params Spec Tree Enumr MemberDecl Param TypeName). PE (roll-Enumr z)) e (made_enumr y))
        (λ x y e. subst (λ (z : one.MemberDecl-F Declr Params Spec Tree Enumr MemberDecl Param TypeName). PM (roll-MemberDecl z)) e (made_members y))
        (λ x y e. subst (λ (z : one.Param-F Declr Params Spec Tree Enumr MemberDecl Param TypeName). PA (roll-Param z)) e (made_param y))
        (λ x y e. subst (λ (z : one.TypeName-F Declr Params Spec Tree Enumr MemberDecl Param TypeName). PN (roll-TypeName z)) e (made_type_name y))
