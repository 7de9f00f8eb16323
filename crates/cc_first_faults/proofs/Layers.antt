-- What constructs mean, by their layers.
use Rattle.std.proofs.Common.{◌≡◌}
use Rattle.cc_program.specs.CcNum.declared.target.Target.{Target}
use Rattle.cc_program.specs.declared.program.Roles.{Roles}
use Rattle.cc_typed_bodies.specs.CcTerms.Constants.{enumr_step}
use Rattle.cc_typed_bodies.specs.CcTerms.Declarators.{declr_step, params_step, param_step, type_name_step}
use Rattle.cc_typed_bodies.specs.CcTerms.Expressions.{tree_step}
use Rattle.cc_typed_bodies.specs.CcTerms.Meanings.{TreeMeaning, DeclrMeaning, ParamsMeaning, ParamMeaning, SpecMeaning, MembersMeaning, EnumrMeaning, TypeNameMeaning}
use Rattle.cc_typed_bodies.specs.CcTerms.Members.{members_step}
use Rattle.cc_typed_bodies.specs.CcTerms.Specifiers.{spec_step}
use Rattle.cc_typed_bodies.specs.CcTerms.Terms.{declr_of, params_of, spec_of, tree_of, enumr_of, members_of, param_of, type_name_of}
use Rattle.cc_tree.specs.declared.tree.Declr.{Declr, out-Declr, fold_out-Declr, map-Declr}
use Rattle.cc_tree.specs.declared.tree.Declr.TheOpen as one
use Rattle.cc_tree.specs.declared.tree.Enumr.{Enumr, out-Enumr, fold_out-Enumr, map-Enumr}
use Rattle.cc_tree.specs.declared.tree.MemberDecl.{MemberDecl, out-MemberDecl, fold_out-MemberDecl, map-MemberDecl}
use Rattle.cc_tree.specs.declared.tree.Param.{Param, out-Param, fold_out-Param, map-Param}
use Rattle.cc_tree.specs.declared.tree.Params.{Params, out-Params, fold_out-Params, map-Params}
use Rattle.cc_tree.specs.declared.tree.Spec.{Spec, out-Spec, fold_out-Spec, map-Spec}
use Rattle.cc_tree.specs.declared.tree.Tree.{Tree}
use Rattle.cc_tree.specs.declared.tree.TypeName.{TypeName, out-TypeName, fold_out-TypeName, map-TypeName}

module _ (target : Target) (roles : Roles) where
  abbrev pub declr_in : one.Declr-F Declr Params Spec Tree Enumr MemberDecl Param TypeName → DeclrMeaning
  declr_in x = declr_step (map-Declr Declr Params Spec Tree Enumr MemberDecl Param TypeName DeclrMeaning ParamsMeaning SpecMeaning TreeMeaning EnumrMeaning MembersMeaning ParamMeaning TypeNameMeaning (declr_of target roles) (params_of target roles) (spec_of target roles) (tree_of target roles) (enumr_of target roles) (members_of target roles) (param_of target roles) (type_name_of target roles) x)

  pub declr-out : (x : Declr) → declr_of target roles x ≡ declr_in (out-Declr x)
  unfolding declr_of params_of spec_of tree_of enumr_of members_of param_of type_name_of
  declr-out x = fold_out-Declr DeclrMeaning ParamsMeaning SpecMeaning TreeMeaning EnumrMeaning MembersMeaning ParamMeaning TypeNameMeaning declr_step params_step (spec_step target) (tree_step target roles) (enumr_step target roles) (members_step target) (param_step target roles) (type_name_step target) x

  abbrev pub params_in : one.Params-F Declr Params Spec Tree Enumr MemberDecl Param TypeName → ParamsMeaning
  params_in x = params_step (map-Params Declr Params Spec Tree Enumr MemberDecl Param TypeName DeclrMeaning ParamsMeaning SpecMeaning TreeMeaning EnumrMeaning MembersMeaning ParamMeaning TypeNameMeaning (declr_of target roles) (params_of target roles) (spec_of target roles) (tree_of target roles) (enumr_of target roles) (members_of target roles) (param_of target roles) (type_name_of target roles) x)

  pub params-out : (x : Params) → params_of target roles x ≡ params_in (out-Params x)
  unfolding declr_of params_of spec_of tree_of enumr_of members_of param_of type_name_of
  params-out x = fold_out-Params DeclrMeaning ParamsMeaning SpecMeaning TreeMeaning EnumrMeaning MembersMeaning ParamMeaning TypeNameMeaning declr_step params_step (spec_step target) (tree_step target roles) (enumr_step target roles) (members_step target) (param_step target roles) (type_name_step target) x

  abbrev pub spec_in : one.Spec-F Declr Params Spec Tree Enumr MemberDecl Param TypeName → SpecMeaning
  spec_in x = spec_step target (map-Spec Declr Params Spec Tree Enumr MemberDecl Param TypeName DeclrMeaning ParamsMeaning SpecMeaning TreeMeaning EnumrMeaning MembersMeaning ParamMeaning TypeNameMeaning (declr_of target roles) (params_of target roles) (spec_of target roles) (tree_of target roles) (enumr_of target roles) (members_of target roles) (param_of target roles) (type_name_of target roles) x)

  pub spec-out : (x : Spec) → spec_of target roles x ≡ spec_in (out-Spec x)
  unfolding declr_of params_of spec_of tree_of enumr_of members_of param_of type_name_of
  spec-out x = fold_out-Spec DeclrMeaning ParamsMeaning SpecMeaning TreeMeaning EnumrMeaning MembersMeaning ParamMeaning TypeNameMeaning declr_step params_step (spec_step target) (tree_step target roles) (enumr_step target roles) (members_step target) (param_step target roles) (type_name_step target) x

  abbrev pub enumr_in : one.Enumr-F Declr Params Spec Tree Enumr MemberDecl Param TypeName → EnumrMeaning
  enumr_in x = enumr_step target roles (map-Enumr Declr Params Spec Tree Enumr MemberDecl Param TypeName DeclrMeaning ParamsMeaning SpecMeaning TreeMeaning EnumrMeaning MembersMeaning ParamMeaning TypeNameMeaning (declr_of target roles) (params_of target roles) (spec_of target roles) (tree_of target roles) (enumr_of target roles) (members_of target roles) (param_of target roles) (type_name_of target roles) x)

  pub enumr-out : (x : Enumr) → enumr_of target roles x ≡ enumr_in (out-Enumr x)
  unfolding declr_of params_of spec_of tree_of enumr_of members_of param_of type_name_of
  enumr-out x = fold_out-Enumr DeclrMeaning ParamsMeaning SpecMeaning TreeMeaning EnumrMeaning MembersMeaning ParamMeaning TypeNameMeaning declr_step params_step (spec_step target) (tree_step target roles) (enumr_step target roles) (members_step target) (param_step target roles) (type_name_step target) x

  abbrev pub members_in : one.MemberDecl-F Declr Params Spec Tree Enumr MemberDecl Param TypeName → MembersMeaning
  members_in x = members_step target (map-MemberDecl Declr Params Spec Tree Enumr MemberDecl Param TypeName DeclrMeaning ParamsMeaning SpecMeaning TreeMeaning EnumrMeaning MembersMeaning ParamMeaning TypeNameMeaning (declr_of target roles) (params_of target roles) (spec_of target roles) (tree_of target roles) (enumr_of target roles) (members_of target roles) (param_of target roles) (type_name_of target roles) x)

  pub members-out : (x : MemberDecl) → members_of target roles x ≡ members_in (out-MemberDecl x)
  unfolding declr_of params_of spec_of tree_of enumr_of members_of param_of type_name_of
  members-out x = fold_out-MemberDecl DeclrMeaning ParamsMeaning SpecMeaning TreeMeaning EnumrMeaning MembersMeaning ParamMeaning TypeNameMeaning declr_step params_step (spec_step target) (tree_step target roles) (enumr_step target roles) (members_step target) (param_step target roles) (type_name_step target) x

  abbrev pub param_in : one.Param-F Declr Params Spec Tree Enumr MemberDecl Param TypeName → ParamMeaning
  param_in x = param_step target roles (map-Param Declr Params Spec Tree Enumr MemberDecl Param TypeName DeclrMeaning ParamsMeaning SpecMeaning TreeMeaning EnumrMeaning MembersMeaning ParamMeaning TypeNameMeaning (declr_of target roles) (params_of target roles) (spec_of target roles) (tree_of target roles) (enumr_of target roles) (members_of target roles) (param_of target roles) (type_name_of target roles) x)

  pub param-out : (x : Param) → param_of target roles x ≡ param_in (out-Param x)
  unfolding declr_of params_of spec_of tree_of enumr_of members_of param_of type_name_of
  param-out x = fold_out-Param DeclrMeaning ParamsMeaning SpecMeaning TreeMeaning EnumrMeaning MembersMeaning ParamMeaning TypeNameMeaning declr_step params_step (spec_step target) (tree_step target roles) (enumr_step target roles) (members_step target) (param_step target roles) (type_name_step target) x

  abbrev pub type_name_in : one.TypeName-F Declr Params Spec Tree Enumr MemberDecl Param TypeName → TypeNameMeaning
  type_name_in x = type_name_step target (map-TypeName Declr Params Spec Tree Enumr MemberDecl Param TypeName DeclrMeaning ParamsMeaning SpecMeaning TreeMeaning EnumrMeaning MembersMeaning ParamMeaning TypeNameMeaning (declr_of target roles) (params_of target roles) (spec_of target roles) (tree_of target roles) (enumr_of target roles) (members_of target roles) (param_of target roles) (type_name_of target roles) x)

  pub type_name-out : (x : TypeName) → type_name_of target roles x ≡ type_name_in (out-TypeName x)
  unfolding declr_of params_of spec_of tree_of enumr_of members_of param_of type_name_of
  type_name-out x = fold_out-TypeName DeclrMeaning ParamsMeaning SpecMeaning TreeMeaning EnumrMeaning MembersMeaning ParamMeaning TypeNameMeaning declr_step params_step (spec_step target) (tree_step target roles) (enumr_step target roles) (members_step target) (param_step target roles) (type_name_step target) x
