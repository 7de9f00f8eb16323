-- Induction over what expressions, declarators, specifiers and what stands in them mean: a claim of each construct and its meaning holds of all where it holds of each one whose parts it holds of.
use Rattle.std.proofs.Common.{◌≡◌, sym, subst}
use Rattle.cc_program.specs.CcNum.declared.target.Target.{Target}
use Rattle.cc_program.specs.declared.program.Roles.{Roles}
use Rattle.cc_tree.specs.declared.tree.Declr.TheOpen as one
use Rattle.cc_tree.specs.declared.tree.Declr.{Declr, roll-Declr, map-Declr, fold-roll-Declr}
use Rattle.cc_tree.specs.declared.tree.Params.{Params, roll-Params, map-Params, fold-roll-Params}
use Rattle.cc_tree.specs.declared.tree.Spec.{Spec, roll-Spec, map-Spec, fold-roll-Spec}
use Rattle.cc_tree.specs.declared.tree.Tree.{Tree, roll-Tree, map-Tree, fold-roll-Tree}
use Rattle.cc_tree.specs.declared.tree.Enumr.{Enumr, roll-Enumr, map-Enumr, fold-roll-Enumr}
use Rattle.cc_tree.specs.declared.tree.MemberDecl.{MemberDecl, roll-MemberDecl, map-MemberDecl, fold-roll-MemberDecl}
use Rattle.cc_tree.specs.declared.tree.Param.{Param, roll-Param, map-Param, fold-roll-Param}
use Rattle.cc_tree.specs.declared.tree.TypeName.{TypeName, roll-TypeName, map-TypeName, fold-roll-TypeName}
use Rattle.cc_type.specs.CcTerms.Constants.{enumr_step}
use Rattle.cc_type.specs.CcTerms.Declarators.{declr_step, params_step, param_step, type_name_step}
use Rattle.cc_type.specs.CcTerms.Expressions.{tree_step}
use Rattle.cc_type.specs.CcTerms.Meanings.{TreeMeaning, DeclrMeaning, ParamsMeaning, ParamMeaning, SpecMeaning, MembersMeaning, EnumrMeaning, TypeNameMeaning}
use Rattle.cc_type.specs.CcTerms.Members.{members_step}
use Rattle.cc_type.specs.CcTerms.Specifiers.{spec_step}
use Rattle.cc_type.specs.CcTerms.Terms.{tree_of, declr_of, params_of, param_of, spec_of, members_of, enumr_of, type_name_of}
use Rattle.cc_sound_terms.proofs.TreeInduction.{by_declr, by_params, by_spec, by_tree, by_enumr, by_members, by_param, by_type_name}

module _ (target : Target) (roles : Roles) (CD : Declr → DeclrMeaning → Type 0) (CP : Params → ParamsMeaning → Type 0) (CS : Spec → SpecMeaning → Type 0) (CT : Tree → TreeMeaning → Type 0) (CE : Enumr → EnumrMeaning → Type 0) (CM : MemberDecl → MembersMeaning → Type 0) (CA : Param → ParamMeaning → Type 0) (CN : TypeName → TypeNameMeaning → Type 0) where
  abbrev PD : Declr → Type 0
  PD x = CD x (declr_of target roles x)

  abbrev PP : Params → Type 0
  PP x = CP x (params_of target roles x)

  abbrev PS : Spec → Type 0
  PS x = CS x (spec_of target roles x)

  abbrev PT : Tree → Type 0
  PT x = CT x (tree_of target roles x)

  abbrev PE : Enumr → Type 0
  PE x = CE x (enumr_of target roles x)

  abbrev PM : MemberDecl → Type 0
  PM x = CM x (members_of target roles x)

  abbrev PA : Param → Type 0
  PA x = CA x (param_of target roles x)

  abbrev PN : TypeName → Type 0
  PN x = CN x (type_name_of target roles x)

  abbrev pub SomeDeclr : Type 0
  SomeDeclr = (x : Declr) × PD x

  abbrev pub SomeParams : Type 0
  SomeParams = (x : Params) × PP x

  abbrev pub SomeSpec : Type 0
  SomeSpec = (x : Spec) × PS x

  abbrev pub SomeTree : Type 0
  SomeTree = (x : Tree) × PT x

  abbrev pub SomeEnumr : Type 0
  SomeEnumr = (x : Enumr) × PE x

  abbrev pub SomeMembers : Type 0
  SomeMembers = (x : MemberDecl) × PM x

  abbrev pub SomeParam : Type 0
  SomeParam = (x : Param) × PA x

  abbrev pub SomeTypeName : Type 0
  SomeTypeName = (x : TypeName) × PN x

  abbrev pub bare_declr : one.Declr-F SomeDeclr SomeParams SomeSpec SomeTree SomeEnumr SomeMembers SomeParam SomeTypeName → one.Declr-F Declr Params Spec Tree Enumr MemberDecl Param TypeName
  bare_declr x = map-Declr SomeDeclr SomeParams SomeSpec SomeTree SomeEnumr SomeMembers SomeParam SomeTypeName Declr Params Spec Tree Enumr MemberDecl Param TypeName (λ x. x.0) (λ x. x.0) (λ x. x.0) (λ x. x.0) (λ x. x.0) (λ x. x.0) (λ x. x.0) (λ x. x.0) x

  abbrev pub meant_declr : one.Declr-F Declr Params Spec Tree Enumr MemberDecl Param TypeName → DeclrMeaning
  meant_declr x = declr_step (map-Declr Declr Params Spec Tree Enumr MemberDecl Param TypeName DeclrMeaning ParamsMeaning SpecMeaning TreeMeaning EnumrMeaning MembersMeaning ParamMeaning TypeNameMeaning (declr_of target roles) (params_of target roles) (spec_of target roles) (tree_of target roles) (enumr_of target roles) (members_of target roles) (param_of target roles) (type_name_of target roles) x)

  declr-means : (x : one.Declr-F Declr Params Spec Tree Enumr MemberDecl Param TypeName) → declr_of target roles (roll-Declr x) ≡ meant_declr x
  unfolding declr_of params_of spec_of tree_of enumr_of members_of param_of type_name_of
  declr-means x = fold-roll-Declr DeclrMeaning ParamsMeaning SpecMeaning TreeMeaning EnumrMeaning MembersMeaning ParamMeaning TypeNameMeaning declr_step params_step (spec_step target) (tree_step target roles) (enumr_step target roles) (members_step target) (param_step target roles) (type_name_step target) x

  abbrev pub bare_params : one.Params-F SomeDeclr SomeParams SomeSpec SomeTree SomeEnumr SomeMembers SomeParam SomeTypeName → one.Params-F Declr Params Spec Tree Enumr MemberDecl Param TypeName
  bare_params x = map-Params SomeDeclr SomeParams SomeSpec SomeTree SomeEnumr SomeMembers SomeParam SomeTypeName Declr Params Spec Tree Enumr MemberDecl Param TypeName (λ x. x.0) (λ x. x.0) (λ x. x.0) (λ x. x.0) (λ x. x.0) (λ x. x.0) (λ x. x.0) (λ x. x.0) x

  abbrev pub meant_params : one.Params-F Declr Params Spec Tree Enumr MemberDecl Param TypeName → ParamsMeaning
  meant_params x = params_step (map-Params Declr Params Spec Tree Enumr MemberDecl Param TypeName DeclrMeaning ParamsMeaning SpecMeaning TreeMeaning EnumrMeaning MembersMeaning ParamMeaning TypeNameMeaning (declr_of target roles) (params_of target roles) (spec_of target roles) (tree_of target roles) (enumr_of target roles) (members_of target roles) (param_of target roles) (type_name_of target roles) x)

  params-means : (x : one.Params-F Declr Params Spec Tree Enumr MemberDecl Param TypeName) → params_of target roles (roll-Params x) ≡ meant_params x
  unfolding declr_of params_of spec_of tree_of enumr_of members_of param_of type_name_of
  params-means x = fold-roll-Params DeclrMeaning ParamsMeaning SpecMeaning TreeMeaning EnumrMeaning MembersMeaning ParamMeaning TypeNameMeaning declr_step params_step (spec_step target) (tree_step target roles) (enumr_step target roles) (members_step target) (param_step target roles) (type_name_step target) x

  abbrev pub bare_spec : one.Spec-F SomeDeclr SomeParams SomeSpec SomeTree SomeEnumr SomeMembers SomeParam SomeTypeName → one.Spec-F Declr Params Spec Tree Enumr MemberDecl Param TypeName
  bare_spec x = map-Spec SomeDeclr SomeParams SomeSpec SomeTree SomeEnumr SomeMembers SomeParam SomeTypeName Declr Params Spec Tree Enumr MemberDecl Param TypeName (λ x. x.0) (λ x. x.0) (λ x. x.0) (λ x. x.0) (λ x. x.0) (λ x. x.0) (λ x. x.0) (λ x. x.0) x

  abbrev pub meant_spec : one.Spec-F Declr Params Spec Tree Enumr MemberDecl Param TypeName → SpecMeaning
  meant_spec x = spec_step target (map-Spec Declr Params Spec Tree Enumr MemberDecl Param TypeName DeclrMeaning ParamsMeaning SpecMeaning TreeMeaning EnumrMeaning MembersMeaning ParamMeaning TypeNameMeaning (declr_of target roles) (params_of target roles) (spec_of target roles) (tree_of target roles) (enumr_of target roles) (members_of target roles) (param_of target roles) (type_name_of target roles) x)

  spec-means : (x : one.Spec-F Declr Params Spec Tree Enumr MemberDecl Param TypeName) → spec_of target roles (roll-Spec x) ≡ meant_spec x
  unfolding declr_of params_of spec_of tree_of enumr_of members_of param_of type_name_of
  spec-means x = fold-roll-Spec DeclrMeaning ParamsMeaning SpecMeaning TreeMeaning EnumrMeaning MembersMeaning ParamMeaning TypeNameMeaning declr_step params_step (spec_step target) (tree_step target roles) (enumr_step target roles) (members_step target) (param_step target roles) (type_name_step target) x

  abbrev pub bare_tree : one.Tree-F SomeDeclr SomeParams SomeSpec SomeTree SomeEnumr SomeMembers SomeParam SomeTypeName → one.Tree-F Declr Params Spec Tree Enumr MemberDecl Param TypeName
  bare_tree x = map-Tree SomeDeclr SomeParams SomeSpec SomeTree SomeEnumr SomeMembers SomeParam SomeTypeName Declr Params Spec Tree Enumr MemberDecl Param TypeName (λ x. x.0) (λ x. x.0) (λ x. x.0) (λ x. x.0) (λ x. x.0) (λ x. x.0) (λ x. x.0) (λ x. x.0) x

  abbrev pub meant_tree : one.Tree-F Declr Params Spec Tree Enumr MemberDecl Param TypeName → TreeMeaning
  meant_tree x = tree_step target roles (map-Tree Declr Params Spec Tree Enumr MemberDecl Param TypeName DeclrMeaning ParamsMeaning SpecMeaning TreeMeaning EnumrMeaning MembersMeaning ParamMeaning TypeNameMeaning (declr_of target roles) (params_of target roles) (spec_of target roles) (tree_of target roles) (enumr_of target roles) (members_of target roles) (param_of target roles) (type_name_of target roles) x)

  tree-means : (x : one.Tree-F Declr Params Spec Tree Enumr MemberDecl Param TypeName) → tree_of target roles (roll-Tree x) ≡ meant_tree x
  unfolding declr_of params_of spec_of tree_of enumr_of members_of param_of type_name_of
  tree-means x = fold-roll-Tree DeclrMeaning ParamsMeaning SpecMeaning TreeMeaning EnumrMeaning MembersMeaning ParamMeaning TypeNameMeaning declr_step params_step (spec_step target) (tree_step target roles) (enumr_step target roles) (members_step target) (param_step target roles) (type_name_step target) x

  abbrev pub bare_enumr : one.Enumr-F SomeDeclr SomeParams SomeSpec SomeTree SomeEnumr SomeMembers SomeParam SomeTypeName → one.Enumr-F Declr Params Spec Tree Enumr MemberDecl Param TypeName
  bare_enumr x = map-Enumr SomeDeclr SomeParams SomeSpec SomeTree SomeEnumr SomeMembers SomeParam SomeTypeName Declr Params Spec Tree Enumr MemberDecl Param TypeName (λ x. x.0) (λ x. x.0) (λ x. x.0) (λ x. x.0) (λ x. x.0) (λ x. x.0) (λ x. x.0) (λ x. x.0) x

  abbrev pub meant_enumr : one.Enumr-F Declr Params Spec Tree Enumr MemberDecl Param TypeName → EnumrMeaning
  meant_enumr x = enumr_step target roles (map-Enumr Declr Params Spec Tree Enumr MemberDecl Param TypeName DeclrMeaning ParamsMeaning SpecMeaning TreeMeaning EnumrMeaning MembersMeaning ParamMeaning TypeNameMeaning (declr_of target roles) (params_of target roles) (spec_of target roles) (tree_of target roles) (enumr_of target roles) (members_of target roles) (param_of target roles) (type_name_of target roles) x)

  enumr-means : (x : one.Enumr-F Declr Params Spec Tree Enumr MemberDecl Param TypeName) → enumr_of target roles (roll-Enumr x) ≡ meant_enumr x
  unfolding declr_of params_of spec_of tree_of enumr_of members_of param_of type_name_of
  enumr-means x = fold-roll-Enumr DeclrMeaning ParamsMeaning SpecMeaning TreeMeaning EnumrMeaning MembersMeaning ParamMeaning TypeNameMeaning declr_step params_step (spec_step target) (tree_step target roles) (enumr_step target roles) (members_step target) (param_step target roles) (type_name_step target) x

  abbrev pub bare_members : one.MemberDecl-F SomeDeclr SomeParams SomeSpec SomeTree SomeEnumr SomeMembers SomeParam SomeTypeName → one.MemberDecl-F Declr Params Spec Tree Enumr MemberDecl Param TypeName
  bare_members x = map-MemberDecl SomeDeclr SomeParams SomeSpec SomeTree SomeEnumr SomeMembers SomeParam SomeTypeName Declr Params Spec Tree Enumr MemberDecl Param TypeName (λ x. x.0) (λ x. x.0) (λ x. x.0) (λ x. x.0) (λ x. x.0) (λ x. x.0) (λ x. x.0) (λ x. x.0) x

  abbrev pub meant_members : one.MemberDecl-F Declr Params Spec Tree Enumr MemberDecl Param TypeName → MembersMeaning
  meant_members x = members_step target (map-MemberDecl Declr Params Spec Tree Enumr MemberDecl Param TypeName DeclrMeaning ParamsMeaning SpecMeaning TreeMeaning EnumrMeaning MembersMeaning ParamMeaning TypeNameMeaning (declr_of target roles) (params_of target roles) (spec_of target roles) (tree_of target roles) (enumr_of target roles) (members_of target roles) (param_of target roles) (type_name_of target roles) x)

  members-means : (x : one.MemberDecl-F Declr Params Spec Tree Enumr MemberDecl Param TypeName) → members_of target roles (roll-MemberDecl x) ≡ meant_members x
  unfolding declr_of params_of spec_of tree_of enumr_of members_of param_of type_name_of
  members-means x = fold-roll-MemberDecl DeclrMeaning ParamsMeaning SpecMeaning TreeMeaning EnumrMeaning MembersMeaning ParamMeaning TypeNameMeaning declr_step params_step (spec_step target) (tree_step target roles) (enumr_step target roles) (members_step target) (param_step target roles) (type_name_step target) x

  abbrev pub bare_param : one.Param-F SomeDeclr SomeParams SomeSpec SomeTree SomeEnumr SomeMembers SomeParam SomeTypeName → one.Param-F Declr Params Spec Tree Enumr MemberDecl Param TypeName
  bare_param x = map-Param SomeDeclr SomeParams SomeSpec SomeTree SomeEnumr SomeMembers SomeParam SomeTypeName Declr Params Spec Tree Enumr MemberDecl Param TypeName (λ x. x.0) (λ x. x.0) (λ x. x.0) (λ x. x.0) (λ x. x.0) (λ x. x.0) (λ x. x.0) (λ x. x.0) x

  abbrev pub meant_param : one.Param-F Declr Params Spec Tree Enumr MemberDecl Param TypeName → ParamMeaning
  meant_param x = param_step target roles (map-Param Declr Params Spec Tree Enumr MemberDecl Param TypeName DeclrMeaning ParamsMeaning SpecMeaning TreeMeaning EnumrMeaning MembersMeaning ParamMeaning TypeNameMeaning (declr_of target roles) (params_of target roles) (spec_of target roles) (tree_of target roles) (enumr_of target roles) (members_of target roles) (param_of target roles) (type_name_of target roles) x)

  param-means : (x : one.Param-F Declr Params Spec Tree Enumr MemberDecl Param TypeName) → param_of target roles (roll-Param x) ≡ meant_param x
  unfolding declr_of params_of spec_of tree_of enumr_of members_of param_of type_name_of
  param-means x = fold-roll-Param DeclrMeaning ParamsMeaning SpecMeaning TreeMeaning EnumrMeaning MembersMeaning ParamMeaning TypeNameMeaning declr_step params_step (spec_step target) (tree_step target roles) (enumr_step target roles) (members_step target) (param_step target roles) (type_name_step target) x

  abbrev pub bare_type_name : one.TypeName-F SomeDeclr SomeParams SomeSpec SomeTree SomeEnumr SomeMembers SomeParam SomeTypeName → one.TypeName-F Declr Params Spec Tree Enumr MemberDecl Param TypeName
  bare_type_name x = map-TypeName SomeDeclr SomeParams SomeSpec SomeTree SomeEnumr SomeMembers SomeParam SomeTypeName Declr Params Spec Tree Enumr MemberDecl Param TypeName (λ x. x.0) (λ x. x.0) (λ x. x.0) (λ x. x.0) (λ x. x.0) (λ x. x.0) (λ x. x.0) (λ x. x.0) x

  abbrev pub meant_type_name : one.TypeName-F Declr Params Spec Tree Enumr MemberDecl Param TypeName → TypeNameMeaning
  meant_type_name x = type_name_step target (map-TypeName Declr Params Spec Tree Enumr MemberDecl Param TypeName DeclrMeaning ParamsMeaning SpecMeaning TreeMeaning EnumrMeaning MembersMeaning ParamMeaning TypeNameMeaning (declr_of target roles) (params_of target roles) (spec_of target roles) (tree_of target roles) (enumr_of target roles) (members_of target roles) (param_of target roles) (type_name_of target roles) x)

  type_name-means : (x : one.TypeName-F Declr Params Spec Tree Enumr MemberDecl Param TypeName) → type_name_of target roles (roll-TypeName x) ≡ meant_type_name x
  unfolding declr_of params_of spec_of tree_of enumr_of members_of param_of type_name_of
  type_name-means x = fold-roll-TypeName DeclrMeaning ParamsMeaning SpecMeaning TreeMeaning EnumrMeaning MembersMeaning ParamMeaning TypeNameMeaning declr_step params_step (spec_step target) (tree_step target roles) (enumr_step target roles) (members_step target) (param_step target roles) (type_name_step target) x

  module _ (declr_level : (y : one.Declr-F SomeDeclr SomeParams SomeSpec SomeTree SomeEnumr SomeMembers SomeParam SomeTypeName) → CD (roll-Declr (bare_declr y)) (meant_declr (bare_declr y)))
      (params_level : (y : one.Params-F SomeDeclr SomeParams SomeSpec SomeTree SomeEnumr SomeMembers SomeParam SomeTypeName) → CP (roll-Params (bare_params y)) (meant_params (bare_params y)))
      (spec_level : (y : one.Spec-F SomeDeclr SomeParams SomeSpec SomeTree SomeEnumr SomeMembers SomeParam SomeTypeName) → CS (roll-Spec (bare_spec y)) (meant_spec (bare_spec y)))
      (tree_level : (y : one.Tree-F SomeDeclr SomeParams SomeSpec SomeTree SomeEnumr SomeMembers SomeParam SomeTypeName) → CT (roll-Tree (bare_tree y)) (meant_tree (bare_tree y)))
      (enumr_level : (y : one.Enumr-F SomeDeclr SomeParams SomeSpec SomeTree SomeEnumr SomeMembers SomeParam SomeTypeName) → CE (roll-Enumr (bare_enumr y)) (meant_enumr (bare_enumr y)))
      (members_level : (y : one.MemberDecl-F SomeDeclr SomeParams SomeSpec SomeTree SomeEnumr SomeMembers SomeParam SomeTypeName) → CM (roll-MemberDecl (bare_members y)) (meant_members (bare_members y)))
      (param_level : (y : one.Param-F SomeDeclr SomeParams SomeSpec SomeTree SomeEnumr SomeMembers SomeParam SomeTypeName) → CA (roll-Param (bare_param y)) (meant_param (bare_param y)))
      (type_name_level : (y : one.TypeName-F SomeDeclr SomeParams SomeSpec SomeTree SomeEnumr SomeMembers SomeParam SomeTypeName) → CN (roll-TypeName (bare_type_name y)) (meant_type_name (bare_type_name y))) where
    made_declr : (y : one.Declr-F SomeDeclr SomeParams SomeSpec SomeTree SomeEnumr SomeMembers SomeParam SomeTypeName) → PD (roll-Declr (bare_declr y))
    made_declr y = subst (λ (m : DeclrMeaning). CD (roll-Declr (bare_declr y)) m) (sym (declr-means (bare_declr y))) (declr_level y)

    made_params : (y : one.Params-F SomeDeclr SomeParams SomeSpec SomeTree SomeEnumr SomeMembers SomeParam SomeTypeName) → PP (roll-Params (bare_params y))
    made_params y = subst (λ (m : ParamsMeaning). CP (roll-Params (bare_params y)) m) (sym (params-means (bare_params y))) (params_level y)

    made_spec : (y : one.Spec-F SomeDeclr SomeParams SomeSpec SomeTree SomeEnumr SomeMembers SomeParam SomeTypeName) → PS (roll-Spec (bare_spec y))
    made_spec y = subst (λ (m : SpecMeaning). CS (roll-Spec (bare_spec y)) m) (sym (spec-means (bare_spec y))) (spec_level y)

    made_tree : (y : one.Tree-F SomeDeclr SomeParams SomeSpec SomeTree SomeEnumr SomeMembers SomeParam SomeTypeName) → PT (roll-Tree (bare_tree y))
    made_tree y = subst (λ (m : TreeMeaning). CT (roll-Tree (bare_tree y)) m) (sym (tree-means (bare_tree y))) (tree_level y)

    made_enumr : (y : one.Enumr-F SomeDeclr SomeParams SomeSpec SomeTree SomeEnumr SomeMembers SomeParam SomeTypeName) → PE (roll-Enumr (bare_enumr y))
    made_enumr y = subst (λ (m : EnumrMeaning). CE (roll-Enumr (bare_enumr y)) m) (sym (enumr-means (bare_enumr y))) (enumr_level y)

    made_members : (y : one.MemberDecl-F SomeDeclr SomeParams SomeSpec SomeTree SomeEnumr SomeMembers SomeParam SomeTypeName) → PM (roll-MemberDecl (bare_members y))
    made_members y = subst (λ (m : MembersMeaning). CM (roll-MemberDecl (bare_members y)) m) (sym (members-means (bare_members y))) (members_level y)

    made_param : (y : one.Param-F SomeDeclr SomeParams SomeSpec SomeTree SomeEnumr SomeMembers SomeParam SomeTypeName) → PA (roll-Param (bare_param y))
    made_param y = subst (λ (m : ParamMeaning). CA (roll-Param (bare_param y)) m) (sym (param-means (bare_param y))) (param_level y)

    made_type_name : (y : one.TypeName-F SomeDeclr SomeParams SomeSpec SomeTree SomeEnumr SomeMembers SomeParam SomeTypeName) → PN (roll-TypeName (bare_type_name y))
    made_type_name y = subst (λ (m : TypeNameMeaning). CN (roll-TypeName (bare_type_name y)) m) (sym (type_name-means (bare_type_name y))) (type_name_level y)

    pub each_declr : (x : Declr) → CD x (declr_of target roles x)
    each_declr x = by_declr PD PP PS PT PE PM PA PN made_declr made_params made_spec made_tree made_enumr made_members made_param made_type_name x

    pub each_params : (x : Params) → CP x (params_of target roles x)
    each_params x = by_params PD PP PS PT PE PM PA PN made_declr made_params made_spec made_tree made_enumr made_members made_param made_type_name x

    pub each_spec : (x : Spec) → CS x (spec_of target roles x)
    each_spec x = by_spec PD PP PS PT PE PM PA PN made_declr made_params made_spec made_tree made_enumr made_members made_param made_type_name x

    pub each_tree : (x : Tree) → CT x (tree_of target roles x)
    each_tree x = by_tree PD PP PS PT PE PM PA PN made_declr made_params made_spec made_tree made_enumr made_members made_param made_type_name x

    pub each_enumr : (x : Enumr) → CE x (enumr_of target roles x)
    each_enumr x = by_enumr PD PP PS PT PE PM PA PN made_declr made_params made_spec made_tree made_enumr made_members made_param made_type_name x

    pub each_members : (x : MemberDecl) → CM x (members_of target roles x)
    each_members x = by_members PD PP PS PT PE PM PA PN made_declr made_params made_spec made_tree made_enumr made_members made_param made_type_name x

    pub each_param : (x : Param) → CA x (param_of target roles x)
    each_param x = by_param PD PP PS PT PE PM PA PN made_declr made_params made_spec made_tree made_enumr made_members made_param made_type_name x

    pub each_type_name : (x : TypeName) → CN x (type_name_of target roles x)
    each_type_name x = by_type_name PD PP PS PT PE PM PA PN made_declr made_params made_spec made_tree made_enumr made_members made_param made_type_name x
