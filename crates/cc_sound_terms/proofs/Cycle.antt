-- What expressions, type names, specifiers and declarators mean is typed and stands, by induction over them.
use Rattle.std.proofs.Common.{◌≡◌, ℕ, ◌^◌, Bool, true, ◌&&◌, List, [], ◌∷◌, map, Option, Some, None, sym, ◌∙◌, subst, ltb-true}
use Rattle.cc_terms.specs.CcSyntax.Views.{View}
use Rattle.cc_program.proofs.Each.{Each}
use Rattle.cc_program.specs.declared.program.Roles.{Roles}
use Rattle.cc_terms.specs.CcSyntax.Types.{Named}
use Rattle.cc_terms.proofs.CcSyntax.Prefixes.{both_true}
use Rattle.cc_tree.specs.declared.at.At.{At}
use Rattle.cc_tree.specs.declared.tree.Declr.TheOpen as one
use Rattle.cc_tree.specs.declared.tree.Declr.{Declr, roll-Declr, map-Declr, fold-roll-Declr}
use Rattle.cc_tree.specs.declared.tree.Params.{Params, roll-Params, map-Params, fold-roll-Params}
use Rattle.cc_tree.specs.declared.tree.Spec.{Spec, roll-Spec, map-Spec, fold-roll-Spec}
use Rattle.cc_tree.specs.declared.tree.Tree.{Tree, roll-Tree, map-Tree, fold-roll-Tree}
use Rattle.cc_tree.specs.declared.tree.Enumr.{Enumr, roll-Enumr, map-Enumr, fold-roll-Enumr}
use Rattle.cc_tree.specs.declared.tree.MemberDecl.{MemberDecl, roll-MemberDecl, map-MemberDecl, fold-roll-MemberDecl}
use Rattle.cc_tree.specs.declared.tree.Param.{Param, roll-Param, map-Param, fold-roll-Param}
use Rattle.cc_tree.specs.declared.tree.TypeName.{TypeName, roll-TypeName, map-TypeName, fold-roll-TypeName}
use Rattle.cc_terms.specs.Constants.{enumr_step}
use Rattle.cc_terms.specs.Declarators.{declr_step, params_step, param_step, type_name_step}
use Rattle.cc_terms.specs.Expressions.{tree_step}
use Rattle.cc_terms.specs.Meanings.{TreeMeaning, DeclrMeaning, ParamsMeaning, ParamMeaning, SpecMeaning, MembersMeaning, EnumrMeaning, TypeNameMeaning}
use Rattle.cc_terms.specs.Members.{members_step}
use Rattle.cc_terms.specs.Specifiers.{spec_step}
use Rattle.cc_terms.specs.Terms.{tree_of, declr_of, params_of, param_of, spec_of, members_of, enumr_of, type_name_of}
use Rattle.cc_sound_terms.specs.Ranges.{all_fit, declr_fits, params_fit, spec_fits, tree_fits, enumr_fits, members_fit, param_fits, type_name_fits, fits, declr_in_range, params_in_range, spec_in_range, enumr_in_range, members_in_range, param_in_range, type_name_in_range}
use Rattle.cc_sound_terms.proofs.Leaves.{named_holds, number_holds, character_holds, string_holds}
use Rattle.cc_sound_terms.proofs.Meant.{TreeGrows, TreeHolds, DeclrHolds, ParamsHold, ParamHolds, SpecHolds, MembersHold, EnumrHolds, TypeNameHolds}
use Rattle.cc_sound_terms.proofs.TreeInduction.{by_declr, by_params, by_spec, by_tree, by_enumr, by_members, by_param, by_type_name}
use Rattle.cc_sound_terms.proofs.Trees.{comma_holds, choose_holds, binary_holds, assign_holds, postfix_holds, prefixed_holds, sizeof_holds, sizeof_type_holds, cast_holds, subscript_holds, call_holds, member_holds, arrow_holds}
use Rattle.cc_sound_terms.proofs.Types.{word_holds, type_named_holds, marked_holds, structure_tag_holds, structure_holds, enumeration_holds, enumeration_tag_holds, enumr_holds, nothing_holds, name_holds, pointer_holds, array_holds, function_holds, type_name_holds, member_list_holds}
use Rattle.cc_sound_terms.proofs.Parameters.{param_holds, empty_holds, many_hold}

one_is : {A : Type 0} (a b : A) → Some a ≡ Some b → a ≡ b
one_is a b h = cc

module _ (v : View) (locals : List Named) (roles : Roles) where
  abbrev PD : Declr → Type 0
  PD x = declr_in_range x ≡ true → DeclrHolds v (declr_of v.target roles x)

  abbrev PP : Params → Type 0
  PP x = params_in_range x ≡ true → ParamsHold v (params_of v.target roles x)

  abbrev PS : Spec → Type 0
  PS x = spec_in_range x ≡ true → SpecHolds v (spec_of v.target roles x)

  abbrev PT : Tree → Type 0
  PT x = fits x ≡ true → TreeHolds v locals (tree_of v.target roles x)

  abbrev PE : Enumr → Type 0
  PE x = enumr_in_range x ≡ true → EnumrHolds v (enumr_of v.target roles x)

  abbrev PM : MemberDecl → Type 0
  PM x = members_in_range x ≡ true → MembersHold v (members_of v.target roles x)

  abbrev PA : Param → Type 0
  PA x = param_in_range x ≡ true → ParamHolds v (param_of v.target roles x)

  abbrev PN : TypeName → Type 0
  PN x = type_name_in_range x ≡ true → TypeNameHolds v (type_name_of v.target roles x)

  abbrev SomeDeclr : Type 0
  SomeDeclr = (x : Declr) × PD x

  abbrev SomeParams : Type 0
  SomeParams = (x : Params) × PP x

  abbrev SomeSpec : Type 0
  SomeSpec = (x : Spec) × PS x

  abbrev SomeTree : Type 0
  SomeTree = (x : Tree) × PT x

  abbrev SomeEnumr : Type 0
  SomeEnumr = (x : Enumr) × PE x

  abbrev SomeMembers : Type 0
  SomeMembers = (x : MemberDecl) × PM x

  abbrev SomeParam : Type 0
  SomeParam = (x : Param) × PA x

  abbrev SomeTypeName : Type 0
  SomeTypeName = (x : TypeName) × PN x

  abbrev bare_declr : one.Declr-F SomeDeclr SomeParams SomeSpec SomeTree SomeEnumr SomeMembers SomeParam SomeTypeName → one.Declr-F Declr Params Spec Tree Enumr MemberDecl Param TypeName
  bare_declr x = map-Declr SomeDeclr SomeParams SomeSpec SomeTree SomeEnumr SomeMembers SomeParam SomeTypeName Declr Params Spec Tree Enumr MemberDecl Param TypeName (λ x. x.0) (λ x. x.0) (λ x. x.0) (λ x. x.0) (λ x. x.0) (λ x. x.0) (λ x. x.0) (λ x. x.0) x

  abbrev ranged_declr : one.Declr-F Declr Params Spec Tree Enumr MemberDecl Param TypeName → Bool
  ranged_declr x = declr_fits (map-Declr Declr Params Spec Tree Enumr MemberDecl Param TypeName Bool Bool Bool Bool Bool Bool Bool Bool declr_in_range params_in_range spec_in_range fits enumr_in_range members_in_range param_in_range type_name_in_range x)

  abbrev meant_declr : one.Declr-F Declr Params Spec Tree Enumr MemberDecl Param TypeName → DeclrMeaning
  meant_declr x = declr_step (map-Declr Declr Params Spec Tree Enumr MemberDecl Param TypeName DeclrMeaning ParamsMeaning SpecMeaning TreeMeaning EnumrMeaning MembersMeaning ParamMeaning TypeNameMeaning (declr_of v.target roles) (params_of v.target roles) (spec_of v.target roles) (tree_of v.target roles) (enumr_of v.target roles) (members_of v.target roles) (param_of v.target roles) (type_name_of v.target roles) x)

  declr-ranges : (x : one.Declr-F Declr Params Spec Tree Enumr MemberDecl Param TypeName) → declr_in_range (roll-Declr x) ≡ ranged_declr x
  unfolding declr_in_range params_in_range spec_in_range fits enumr_in_range members_in_range param_in_range type_name_in_range
  declr-ranges x = fold-roll-Declr Bool Bool Bool Bool Bool Bool Bool Bool declr_fits params_fit spec_fits tree_fits enumr_fits members_fit param_fits type_name_fits x

  declr-means : (x : one.Declr-F Declr Params Spec Tree Enumr MemberDecl Param TypeName) → declr_of v.target roles (roll-Declr x) ≡ meant_declr x
  unfolding declr_of params_of spec_of tree_of enumr_of members_of param_of type_name_of
  declr-means x = fold-roll-Declr DeclrMeaning ParamsMeaning SpecMeaning TreeMeaning EnumrMeaning MembersMeaning ParamMeaning TypeNameMeaning declr_step params_step (spec_step v.target) (tree_step v.target roles) (enumr_step v.target roles) (members_step v.target) (param_step v.target roles) (type_name_step v.target) x

  abbrev bare_params : one.Params-F SomeDeclr SomeParams SomeSpec SomeTree SomeEnumr SomeMembers SomeParam SomeTypeName → one.Params-F Declr Params Spec Tree Enumr MemberDecl Param TypeName
  bare_params x = map-Params SomeDeclr SomeParams SomeSpec SomeTree SomeEnumr SomeMembers SomeParam SomeTypeName Declr Params Spec Tree Enumr MemberDecl Param TypeName (λ x. x.0) (λ x. x.0) (λ x. x.0) (λ x. x.0) (λ x. x.0) (λ x. x.0) (λ x. x.0) (λ x. x.0) x

  abbrev ranged_params : one.Params-F Declr Params Spec Tree Enumr MemberDecl Param TypeName → Bool
  ranged_params x = params_fit (map-Params Declr Params Spec Tree Enumr MemberDecl Param TypeName Bool Bool Bool Bool Bool Bool Bool Bool declr_in_range params_in_range spec_in_range fits enumr_in_range members_in_range param_in_range type_name_in_range x)

  abbrev meant_params : one.Params-F Declr Params Spec Tree Enumr MemberDecl Param TypeName → ParamsMeaning
  meant_params x = params_step (map-Params Declr Params Spec Tree Enumr MemberDecl Param TypeName DeclrMeaning ParamsMeaning SpecMeaning TreeMeaning EnumrMeaning MembersMeaning ParamMeaning TypeNameMeaning (declr_of v.target roles) (params_of v.target roles) (spec_of v.target roles) (tree_of v.target roles) (enumr_of v.target roles) (members_of v.target roles) (param_of v.target roles) (type_name_of v.target roles) x)

  params-ranges : (x : one.Params-F Declr Params Spec Tree Enumr MemberDecl Param TypeName) → params_in_range (roll-Params x) ≡ ranged_params x
  unfolding declr_in_range params_in_range spec_in_range fits enumr_in_range members_in_range param_in_range type_name_in_range
  params-ranges x = fold-roll-Params Bool Bool Bool Bool Bool Bool Bool Bool declr_fits params_fit spec_fits tree_fits enumr_fits members_fit param_fits type_name_fits x

  params-means : (x : one.Params-F Declr Params Spec Tree Enumr MemberDecl Param TypeName) → params_of v.target roles (roll-Params x) ≡ meant_params x
  unfolding declr_of params_of spec_of tree_of enumr_of members_of param_of type_name_of
  params-means x = fold-roll-Params DeclrMeaning ParamsMeaning SpecMeaning TreeMeaning EnumrMeaning MembersMeaning ParamMeaning TypeNameMeaning declr_step params_step (spec_step v.target) (tree_step v.target roles) (enumr_step v.target roles) (members_step v.target) (param_step v.target roles) (type_name_step v.target) x

  abbrev bare_spec : one.Spec-F SomeDeclr SomeParams SomeSpec SomeTree SomeEnumr SomeMembers SomeParam SomeTypeName → one.Spec-F Declr Params Spec Tree Enumr MemberDecl Param TypeName
  bare_spec x = map-Spec SomeDeclr SomeParams SomeSpec SomeTree SomeEnumr SomeMembers SomeParam SomeTypeName Declr Params Spec Tree Enumr MemberDecl Param TypeName (λ x. x.0) (λ x. x.0) (λ x. x.0) (λ x. x.0) (λ x. x.0) (λ x. x.0) (λ x. x.0) (λ x. x.0) x

  abbrev ranged_spec : one.Spec-F Declr Params Spec Tree Enumr MemberDecl Param TypeName → Bool
  ranged_spec x = spec_fits (map-Spec Declr Params Spec Tree Enumr MemberDecl Param TypeName Bool Bool Bool Bool Bool Bool Bool Bool declr_in_range params_in_range spec_in_range fits enumr_in_range members_in_range param_in_range type_name_in_range x)

  abbrev meant_spec : one.Spec-F Declr Params Spec Tree Enumr MemberDecl Param TypeName → SpecMeaning
  meant_spec x = spec_step v.target (map-Spec Declr Params Spec Tree Enumr MemberDecl Param TypeName DeclrMeaning ParamsMeaning SpecMeaning TreeMeaning EnumrMeaning MembersMeaning ParamMeaning TypeNameMeaning (declr_of v.target roles) (params_of v.target roles) (spec_of v.target roles) (tree_of v.target roles) (enumr_of v.target roles) (members_of v.target roles) (param_of v.target roles) (type_name_of v.target roles) x)

  spec-ranges : (x : one.Spec-F Declr Params Spec Tree Enumr MemberDecl Param TypeName) → spec_in_range (roll-Spec x) ≡ ranged_spec x
  unfolding declr_in_range params_in_range spec_in_range fits enumr_in_range members_in_range param_in_range type_name_in_range
  spec-ranges x = fold-roll-Spec Bool Bool Bool Bool Bool Bool Bool Bool declr_fits params_fit spec_fits tree_fits enumr_fits members_fit param_fits type_name_fits x

  spec-means : (x : one.Spec-F Declr Params Spec Tree Enumr MemberDecl Param TypeName) → spec_of v.target roles (roll-Spec x) ≡ meant_spec x
  unfolding declr_of params_of spec_of tree_of enumr_of members_of param_of type_name_of
  spec-means x = fold-roll-Spec DeclrMeaning ParamsMeaning SpecMeaning TreeMeaning EnumrMeaning MembersMeaning ParamMeaning TypeNameMeaning declr_step params_step (spec_step v.target) (tree_step v.target roles) (enumr_step v.target roles) (members_step v.target) (param_step v.target roles) (type_name_step v.target) x

  abbrev bare_tree : one.Tree-F SomeDeclr SomeParams SomeSpec SomeTree SomeEnumr SomeMembers SomeParam SomeTypeName → one.Tree-F Declr Params Spec Tree Enumr MemberDecl Param TypeName
  bare_tree x = map-Tree SomeDeclr SomeParams SomeSpec SomeTree SomeEnumr SomeMembers SomeParam SomeTypeName Declr Params Spec Tree Enumr MemberDecl Param TypeName (λ x. x.0) (λ x. x.0) (λ x. x.0) (λ x. x.0) (λ x. x.0) (λ x. x.0) (λ x. x.0) (λ x. x.0) x

  abbrev ranged_tree : one.Tree-F Declr Params Spec Tree Enumr MemberDecl Param TypeName → Bool
  ranged_tree x = tree_fits (map-Tree Declr Params Spec Tree Enumr MemberDecl Param TypeName Bool Bool Bool Bool Bool Bool Bool Bool declr_in_range params_in_range spec_in_range fits enumr_in_range members_in_range param_in_range type_name_in_range x)

  abbrev meant_tree : one.Tree-F Declr Params Spec Tree Enumr MemberDecl Param TypeName → TreeMeaning
  meant_tree x = tree_step v.target roles (map-Tree Declr Params Spec Tree Enumr MemberDecl Param TypeName DeclrMeaning ParamsMeaning SpecMeaning TreeMeaning EnumrMeaning MembersMeaning ParamMeaning TypeNameMeaning (declr_of v.target roles) (params_of v.target roles) (spec_of v.target roles) (tree_of v.target roles) (enumr_of v.target roles) (members_of v.target roles) (param_of v.target roles) (type_name_of v.target roles) x)

  tree-ranges : (x : one.Tree-F Declr Params Spec Tree Enumr MemberDecl Param TypeName) → fits (roll-Tree x) ≡ ranged_tree x
  unfolding declr_in_range params_in_range spec_in_range fits enumr_in_range members_in_range param_in_range type_name_in_range
  tree-ranges x = fold-roll-Tree Bool Bool Bool Bool Bool Bool Bool Bool declr_fits params_fit spec_fits tree_fits enumr_fits members_fit param_fits type_name_fits x

  tree-means : (x : one.Tree-F Declr Params Spec Tree Enumr MemberDecl Param TypeName) → tree_of v.target roles (roll-Tree x) ≡ meant_tree x
  unfolding declr_of params_of spec_of tree_of enumr_of members_of param_of type_name_of
  tree-means x = fold-roll-Tree DeclrMeaning ParamsMeaning SpecMeaning TreeMeaning EnumrMeaning MembersMeaning ParamMeaning TypeNameMeaning declr_step params_step (spec_step v.target) (tree_step v.target roles) (enumr_step v.target roles) (members_step v.target) (param_step v.target roles) (type_name_step v.target) x

  abbrev bare_enumr : one.Enumr-F SomeDeclr SomeParams SomeSpec SomeTree SomeEnumr SomeMembers SomeParam SomeTypeName → one.Enumr-F Declr Params Spec Tree Enumr MemberDecl Param TypeName
  bare_enumr x = map-Enumr SomeDeclr SomeParams SomeSpec SomeTree SomeEnumr SomeMembers SomeParam SomeTypeName Declr Params Spec Tree Enumr MemberDecl Param TypeName (λ x. x.0) (λ x. x.0) (λ x. x.0) (λ x. x.0) (λ x. x.0) (λ x. x.0) (λ x. x.0) (λ x. x.0) x

  abbrev ranged_enumr : one.Enumr-F Declr Params Spec Tree Enumr MemberDecl Param TypeName → Bool
  ranged_enumr x = enumr_fits (map-Enumr Declr Params Spec Tree Enumr MemberDecl Param TypeName Bool Bool Bool Bool Bool Bool Bool Bool declr_in_range params_in_range spec_in_range fits enumr_in_range members_in_range param_in_range type_name_in_range x)

  abbrev meant_enumr : one.Enumr-F Declr Params Spec Tree Enumr MemberDecl Param TypeName → EnumrMeaning
  meant_enumr x = enumr_step v.target roles (map-Enumr Declr Params Spec Tree Enumr MemberDecl Param TypeName DeclrMeaning ParamsMeaning SpecMeaning TreeMeaning EnumrMeaning MembersMeaning ParamMeaning TypeNameMeaning (declr_of v.target roles) (params_of v.target roles) (spec_of v.target roles) (tree_of v.target roles) (enumr_of v.target roles) (members_of v.target roles) (param_of v.target roles) (type_name_of v.target roles) x)

  enumr-ranges : (x : one.Enumr-F Declr Params Spec Tree Enumr MemberDecl Param TypeName) → enumr_in_range (roll-Enumr x) ≡ ranged_enumr x
  unfolding declr_in_range params_in_range spec_in_range fits enumr_in_range members_in_range param_in_range type_name_in_range
  enumr-ranges x = fold-roll-Enumr Bool Bool Bool Bool Bool Bool Bool Bool declr_fits params_fit spec_fits tree_fits enumr_fits members_fit param_fits type_name_fits x

  enumr-means : (x : one.Enumr-F Declr Params Spec Tree Enumr MemberDecl Param TypeName) → enumr_of v.target roles (roll-Enumr x) ≡ meant_enumr x
  unfolding declr_of params_of spec_of tree_of enumr_of members_of param_of type_name_of
  enumr-means x = fold-roll-Enumr DeclrMeaning ParamsMeaning SpecMeaning TreeMeaning EnumrMeaning MembersMeaning ParamMeaning TypeNameMeaning declr_step params_step (spec_step v.target) (tree_step v.target roles) (enumr_step v.target roles) (members_step v.target) (param_step v.target roles) (type_name_step v.target) x

  abbrev bare_members : one.MemberDecl-F SomeDeclr SomeParams SomeSpec SomeTree SomeEnumr SomeMembers SomeParam SomeTypeName → one.MemberDecl-F Declr Params Spec Tree Enumr MemberDecl Param TypeName
  bare_members x = map-MemberDecl SomeDeclr SomeParams SomeSpec SomeTree SomeEnumr SomeMembers SomeParam SomeTypeName Declr Params Spec Tree Enumr MemberDecl Param TypeName (λ x. x.0) (λ x. x.0) (λ x. x.0) (λ x. x.0) (λ x. x.0) (λ x. x.0) (λ x. x.0) (λ x. x.0) x

  abbrev ranged_members : one.MemberDecl-F Declr Params Spec Tree Enumr MemberDecl Param TypeName → Bool
  ranged_members x = members_fit (map-MemberDecl Declr Params Spec Tree Enumr MemberDecl Param TypeName Bool Bool Bool Bool Bool Bool Bool Bool declr_in_range params_in_range spec_in_range fits enumr_in_range members_in_range param_in_range type_name_in_range x)

  abbrev meant_members : one.MemberDecl-F Declr Params Spec Tree Enumr MemberDecl Param TypeName → MembersMeaning
  meant_members x = members_step v.target (map-MemberDecl Declr Params Spec Tree Enumr MemberDecl Param TypeName DeclrMeaning ParamsMeaning SpecMeaning TreeMeaning EnumrMeaning MembersMeaning ParamMeaning TypeNameMeaning (declr_of v.target roles) (params_of v.target roles) (spec_of v.target roles) (tree_of v.target roles) (enumr_of v.target roles) (members_of v.target roles) (param_of v.target roles) (type_name_of v.target roles) x)

  members-ranges : (x : one.MemberDecl-F Declr Params Spec Tree Enumr MemberDecl Param TypeName) → members_in_range (roll-MemberDecl x) ≡ ranged_members x
  unfolding declr_in_range params_in_range spec_in_range fits enumr_in_range members_in_range param_in_range type_name_in_range
  members-ranges x = fold-roll-MemberDecl Bool Bool Bool Bool Bool Bool Bool Bool declr_fits params_fit spec_fits tree_fits enumr_fits members_fit param_fits type_name_fits x

  members-means : (x : one.MemberDecl-F Declr Params Spec Tree Enumr MemberDecl Param TypeName) → members_of v.target roles (roll-MemberDecl x) ≡ meant_members x
  unfolding declr_of params_of spec_of tree_of enumr_of members_of param_of type_name_of
  members-means x = fold-roll-MemberDecl DeclrMeaning ParamsMeaning SpecMeaning TreeMeaning EnumrMeaning MembersMeaning ParamMeaning TypeNameMeaning declr_step params_step (spec_step v.target) (tree_step v.target roles) (enumr_step v.target roles) (members_step v.target) (param_step v.target roles) (type_name_step v.target) x

  abbrev bare_param : one.Param-F SomeDeclr SomeParams SomeSpec SomeTree SomeEnumr SomeMembers SomeParam SomeTypeName → one.Param-F Declr Params Spec Tree Enumr MemberDecl Param TypeName
  bare_param x = map-Param SomeDeclr SomeParams SomeSpec SomeTree SomeEnumr SomeMembers SomeParam SomeTypeName Declr Params Spec Tree Enumr MemberDecl Param TypeName (λ x. x.0) (λ x. x.0) (λ x. x.0) (λ x. x.0) (λ x. x.0) (λ x. x.0) (λ x. x.0) (λ x. x.0) x

  abbrev ranged_param : one.Param-F Declr Params Spec Tree Enumr MemberDecl Param TypeName → Bool
  ranged_param x = param_fits (map-Param Declr Params Spec Tree Enumr MemberDecl Param TypeName Bool Bool Bool Bool Bool Bool Bool Bool declr_in_range params_in_range spec_in_range fits enumr_in_range members_in_range param_in_range type_name_in_range x)

  abbrev meant_param : one.Param-F Declr Params Spec Tree Enumr MemberDecl Param TypeName → ParamMeaning
  meant_param x = param_step v.target roles (map-Param Declr Params Spec Tree Enumr MemberDecl Param TypeName DeclrMeaning ParamsMeaning SpecMeaning TreeMeaning EnumrMeaning MembersMeaning ParamMeaning TypeNameMeaning (declr_of v.target roles) (params_of v.target roles) (spec_of v.target roles) (tree_of v.target roles) (enumr_of v.target roles) (members_of v.target roles) (param_of v.target roles) (type_name_of v.target roles) x)

  param-ranges : (x : one.Param-F Declr Params Spec Tree Enumr MemberDecl Param TypeName) → param_in_range (roll-Param x) ≡ ranged_param x
  unfolding declr_in_range params_in_range spec_in_range fits enumr_in_range members_in_range param_in_range type_name_in_range
  param-ranges x = fold-roll-Param Bool Bool Bool Bool Bool Bool Bool Bool declr_fits params_fit spec_fits tree_fits enumr_fits members_fit param_fits type_name_fits x

  param-means : (x : one.Param-F Declr Params Spec Tree Enumr MemberDecl Param TypeName) → param_of v.target roles (roll-Param x) ≡ meant_param x
  unfolding declr_of params_of spec_of tree_of enumr_of members_of param_of type_name_of
  param-means x = fold-roll-Param DeclrMeaning ParamsMeaning SpecMeaning TreeMeaning EnumrMeaning MembersMeaning ParamMeaning TypeNameMeaning declr_step params_step (spec_step v.target) (tree_step v.target roles) (enumr_step v.target roles) (members_step v.target) (param_step v.target roles) (type_name_step v.target) x

  abbrev bare_type_name : one.TypeName-F SomeDeclr SomeParams SomeSpec SomeTree SomeEnumr SomeMembers SomeParam SomeTypeName → one.TypeName-F Declr Params Spec Tree Enumr MemberDecl Param TypeName
  bare_type_name x = map-TypeName SomeDeclr SomeParams SomeSpec SomeTree SomeEnumr SomeMembers SomeParam SomeTypeName Declr Params Spec Tree Enumr MemberDecl Param TypeName (λ x. x.0) (λ x. x.0) (λ x. x.0) (λ x. x.0) (λ x. x.0) (λ x. x.0) (λ x. x.0) (λ x. x.0) x

  abbrev ranged_type_name : one.TypeName-F Declr Params Spec Tree Enumr MemberDecl Param TypeName → Bool
  ranged_type_name x = type_name_fits (map-TypeName Declr Params Spec Tree Enumr MemberDecl Param TypeName Bool Bool Bool Bool Bool Bool Bool Bool declr_in_range params_in_range spec_in_range fits enumr_in_range members_in_range param_in_range type_name_in_range x)

  abbrev meant_type_name : one.TypeName-F Declr Params Spec Tree Enumr MemberDecl Param TypeName → TypeNameMeaning
  meant_type_name x = type_name_step v.target (map-TypeName Declr Params Spec Tree Enumr MemberDecl Param TypeName DeclrMeaning ParamsMeaning SpecMeaning TreeMeaning EnumrMeaning MembersMeaning ParamMeaning TypeNameMeaning (declr_of v.target roles) (params_of v.target roles) (spec_of v.target roles) (tree_of v.target roles) (enumr_of v.target roles) (members_of v.target roles) (param_of v.target roles) (type_name_of v.target roles) x)

  type_name-ranges : (x : one.TypeName-F Declr Params Spec Tree Enumr MemberDecl Param TypeName) → type_name_in_range (roll-TypeName x) ≡ ranged_type_name x
  unfolding declr_in_range params_in_range spec_in_range fits enumr_in_range members_in_range param_in_range type_name_in_range
  type_name-ranges x = fold-roll-TypeName Bool Bool Bool Bool Bool Bool Bool Bool declr_fits params_fit spec_fits tree_fits enumr_fits members_fit param_fits type_name_fits x

  type_name-means : (x : one.TypeName-F Declr Params Spec Tree Enumr MemberDecl Param TypeName) → type_name_of v.target roles (roll-TypeName x) ≡ meant_type_name x
  unfolding declr_of params_of spec_of tree_of enumr_of members_of param_of type_name_of
  type_name-means x = fold-roll-TypeName DeclrMeaning ParamsMeaning SpecMeaning TreeMeaning EnumrMeaning MembersMeaning ParamMeaning TypeNameMeaning declr_step params_step (spec_step v.target) (tree_step v.target roles) (enumr_step v.target roles) (members_step v.target) (param_step v.target roles) (type_name_step v.target) x

  abbrev declr_at : At Declr → At DeclrMeaning
  declr_at x = record { at = x.at; node = declr_of v.target roles x.node }

  abbrev declr_fits_at : At Declr → At Bool
  declr_fits_at x = record { at = x.at; node = declr_in_range x.node }

  abbrev declr_bare_at : At SomeDeclr → At Declr
  declr_bare_at x = record { at = x.at; node = x.node.0 }

  each_declr : (xs : List (At SomeDeclr)) → all_fit (map declr_fits_at (map declr_bare_at xs)) ≡ true → Each (λ (a : At DeclrMeaning). DeclrHolds v a.node) (map declr_at (map declr_bare_at xs))
  each_declr [] h = tt
  each_declr (x ∷ xs) h = let c = both_true (declr_in_range x.node.0) (all_fit (map declr_fits_at (map declr_bare_at xs))) h in (x.node.1 c.0, each_declr xs c.1)

  abbrev spec_at : At Spec → At SpecMeaning
  spec_at x = record { at = x.at; node = spec_of v.target roles x.node }

  abbrev spec_fits_at : At Spec → At Bool
  spec_fits_at x = record { at = x.at; node = spec_in_range x.node }

  abbrev spec_bare_at : At SomeSpec → At Spec
  spec_bare_at x = record { at = x.at; node = x.node.0 }

  each_spec : (xs : List (At SomeSpec)) → all_fit (map spec_fits_at (map spec_bare_at xs)) ≡ true → Each (λ (a : At SpecMeaning). SpecHolds v a.node) (map spec_at (map spec_bare_at xs))
  each_spec [] h = tt
  each_spec (x ∷ xs) h = let c = both_true (spec_in_range x.node.0) (all_fit (map spec_fits_at (map spec_bare_at xs))) h in (x.node.1 c.0, each_spec xs c.1)

  abbrev tree_at : At Tree → At TreeMeaning
  tree_at x = record { at = x.at; node = tree_of v.target roles x.node }

  abbrev tree_fits_at : At Tree → At Bool
  tree_fits_at x = record { at = x.at; node = fits x.node }

  abbrev tree_bare_at : At SomeTree → At Tree
  tree_bare_at x = record { at = x.at; node = x.node.0 }

  each_tree : (xs : List (At SomeTree)) → all_fit (map tree_fits_at (map tree_bare_at xs)) ≡ true → Each (λ (a : At TreeMeaning). TreeHolds v locals a.node) (map tree_at (map tree_bare_at xs))
  each_tree [] h = tt
  each_tree (x ∷ xs) h = let c = both_true (fits x.node.0) (all_fit (map tree_fits_at (map tree_bare_at xs))) h in (x.node.1 c.0, each_tree xs c.1)

  abbrev enumr_at : At Enumr → At EnumrMeaning
  enumr_at x = record { at = x.at; node = enumr_of v.target roles x.node }

  abbrev enumr_fits_at : At Enumr → At Bool
  enumr_fits_at x = record { at = x.at; node = enumr_in_range x.node }

  abbrev enumr_bare_at : At SomeEnumr → At Enumr
  enumr_bare_at x = record { at = x.at; node = x.node.0 }

  each_enumr : (xs : List (At SomeEnumr)) → all_fit (map enumr_fits_at (map enumr_bare_at xs)) ≡ true → Each (λ (a : At EnumrMeaning). EnumrHolds v a.node) (map enumr_at (map enumr_bare_at xs))
  each_enumr [] h = tt
  each_enumr (x ∷ xs) h = let c = both_true (enumr_in_range x.node.0) (all_fit (map enumr_fits_at (map enumr_bare_at xs))) h in (x.node.1 c.0, each_enumr xs c.1)

  abbrev members_at : At MemberDecl → At MembersMeaning
  members_at x = record { at = x.at; node = members_of v.target roles x.node }

  abbrev members_fits_at : At MemberDecl → At Bool
  members_fits_at x = record { at = x.at; node = members_in_range x.node }

  abbrev members_bare_at : At SomeMembers → At MemberDecl
  members_bare_at x = record { at = x.at; node = x.node.0 }

  each_members : (xs : List (At SomeMembers)) → all_fit (map members_fits_at (map members_bare_at xs)) ≡ true → Each (λ (a : At MembersMeaning). MembersHold v a.node) (map members_at (map members_bare_at xs))
  each_members [] h = tt
  each_members (x ∷ xs) h = let c = both_true (members_in_range x.node.0) (all_fit (map members_fits_at (map members_bare_at xs))) h in (x.node.1 c.0, each_members xs c.1)

  abbrev param_at : At Param → At ParamMeaning
  param_at x = record { at = x.at; node = param_of v.target roles x.node }

  abbrev param_fits_at : At Param → At Bool
  param_fits_at x = record { at = x.at; node = param_in_range x.node }

  abbrev param_bare_at : At SomeParam → At Param
  param_bare_at x = record { at = x.at; node = x.node.0 }

  each_param : (xs : List (At SomeParam)) → all_fit (map param_fits_at (map param_bare_at xs)) ≡ true → Each (λ (a : At ParamMeaning). ParamHolds v a.node) (map param_at (map param_bare_at xs))
  each_param [] h = tt
  each_param (x ∷ xs) h = let c = both_true (param_in_range x.node.0) (all_fit (map param_fits_at (map param_bare_at xs))) h in (x.node.1 c.0, each_param xs c.1)

  tree_grows : (m : TreeMeaning) → TreeHolds v locals m → TreeGrows v m
  tree_grows m h at s r f = (h at s r f).grows

  abbrev tree_here : At SomeTree → At TreeMeaning
  tree_here a = tree_at (tree_bare_at a)

  abbrev declr_here : At SomeDeclr → At DeclrMeaning
  declr_here a = declr_at (declr_bare_at a)

  -- ---- each construct, from its parts

  tree_level : (y : one.Tree-F SomeDeclr SomeParams SomeSpec SomeTree SomeEnumr SomeMembers SomeParam SomeTypeName) → ranged_tree (bare_tree y) ≡ true → TreeHolds v locals (meant_tree (bare_tree y))
  tree_level (one.Tree::Named x) h = λ at s r f. named_holds v locals roles at x s r f
  tree_level (one.Number n suffix) h = λ at s r f. number_holds v locals n suffix (ltb-true n (2 ^ 64) h) s r f
  tree_level (one.Character byte) h = λ at s r f. character_holds v locals byte s r f
  tree_level (one.Text bytes) h = λ at s r f. string_holds v locals at bytes s r f
  tree_level (one.Tree::Paren e) h = λ at s r f. e.node.1 h e.at s r f
  tree_level (one.Extension e) h = λ at s r f. e.node.1 h e.at s r f
  tree_level (one.Comma a b) h = let c = both_true (fits a.node.0) (fits b.node.0) h in comma_holds v locals (tree_here a) (tree_here b) (a.node.1 c.0) (b.node.1 c.1)
  tree_level (one.Assign o a b) h = let c = both_true (fits a.node.0) (fits b.node.0) h in assign_holds v locals o (tree_here a) (tree_here b) (a.node.1 c.0) (b.node.1 c.1)
  tree_level (one.Choose q a b) h =
      let c = both_true (fits q.node.0) (fits a.node.0 && fits b.node.0) h in
      let d = both_true (fits a.node.0) (fits b.node.0) c.1 in
      choose_holds v locals (tree_here q) (tree_here a) (tree_here b) (q.node.1 c.0) (a.node.1 d.0) (b.node.1 d.1)
  tree_level (one.Binary o a b) h = let c = both_true (fits a.node.0) (fits b.node.0) h in binary_holds v locals o (tree_here a) (tree_here b) (a.node.1 c.0) (b.node.1 c.1)
  tree_level (one.Prefix o e) h = prefixed_holds v locals o (tree_here e) (e.node.1 h)
  tree_level (one.Postfix e o) h = postfix_holds v locals o (tree_here e) (e.node.1 h)
  tree_level (one.SizeOf e) h = sizeof_holds v locals (tree_here e) (e.node.1 h)
  tree_level (one.SizeOfType t) h = sizeof_type_holds v locals (type_name_of v.target roles t.0) (t.1 h)
  tree_level (one.Cast t e) h = let c = both_true (type_name_in_range t.0) (fits e.node.0) h in cast_holds v locals (type_name_of v.target roles t.0) (tree_here e) (t.1 c.0) (e.node.1 c.1)
  tree_level (one.Subscript a i) h = let c = both_true (fits a.node.0) (fits i.node.0) h in subscript_holds v locals (tree_here a) (tree_here i) (a.node.1 c.0) (i.node.1 c.1)
  tree_level (one.Call f args) h =
      let c = both_true (fits f.node.0) (all_fit (map tree_fits_at (map tree_bare_at args))) h in
      call_holds v locals (tree_here f) (map tree_at (map tree_bare_at args)) (f.node.1 c.0) (each_tree args c.1)
  tree_level (one.Member e x) h = member_holds v locals (tree_here e) x (e.node.1 h)
  tree_level (one.Arrow e x) h = arrow_holds v locals (tree_here e) x (e.node.1 h)

  declr_level : (y : one.Declr-F SomeDeclr SomeParams SomeSpec SomeTree SomeEnumr SomeMembers SomeParam SomeTypeName) → ranged_declr (bare_declr y) ≡ true → DeclrHolds v (meant_declr (bare_declr y))
  declr_level one.Nothing h = nothing_holds v
  declr_level (one.Declr::Named x) h = name_holds v x
  declr_level (one.Declr::Paren d) h = λ allowed at s r f. d.node.1 h allowed d.at s r f
  declr_level (one.Pointer words d) h = pointer_holds v words (declr_here d) (d.node.1 h)
  declr_level (one.Array d None) h = let c = both_true (declr_in_range d.node.0) true h in array_holds v (declr_here d) None (d.node.1 c.0) (λ e f. absurd (cc))
  declr_level (one.Array d (Some n)) h =
      let c = both_true (declr_in_range d.node.0) (fits n.node.0) h in
      array_holds v (declr_here d) (Some (tree_here n)) (d.node.1 c.0) (λ e f. subst (λ (x : At TreeMeaning). TreeGrows v x.node) (one_is (tree_here n) e f) (tree_grows (tree_of v.target roles n.node.0) (n.node.1 c.1)))
  declr_level (one.Func d ps) h = let c = both_true (declr_in_range d.node.0) (params_in_range ps.0) h in function_holds v (declr_here d) (params_of v.target roles ps.0) (d.node.1 c.0) (ps.1 c.1)

  params_level : (y : one.Params-F SomeDeclr SomeParams SomeSpec SomeTree SomeEnumr SomeMembers SomeParam SomeTypeName) → ranged_params (bare_params y) ≡ true → ParamsHold v (meant_params (bare_params y))
  params_level one.Empty h = empty_holds v
  params_level one.Void h = empty_holds v
  params_level (one.Many ps) h = many_hold v (map param_at (map param_bare_at ps)) (each_param ps h)

  spec_level : (y : one.Spec-F SomeDeclr SomeParams SomeSpec SomeTree SomeEnumr SomeMembers SomeParam SomeTypeName) → ranged_spec (bare_spec y) ≡ true → SpecHolds v (meant_spec (bare_spec y))
  spec_level (one.Word x) h = word_holds v x
  spec_level (one.Spec::Named x) h = type_named_holds v x
  spec_level (one.Struct tag None front behind) h = structure_tag_holds v tag
  spec_level (one.Struct tag (Some ds) front behind) h = structure_holds v tag (map members_at (map members_bare_at ds)) front behind (each_members ds h)
  spec_level (one.Enum tag None) h = enumeration_tag_holds v tag
  spec_level (one.Enum tag (Some cs)) h = enumeration_holds v tag (map enumr_at (map enumr_bare_at cs)) (each_enumr cs h)
  spec_level (one.Attr a) h = marked_holds v a

  enumr_by : (x : List ℕ) (o : Option (At SomeTree)) → ranged_enumr (bare_enumr (record { name = x; value = o })) ≡ true → EnumrHolds v (meant_enumr (bare_enumr (record { name = x; value = o })))
  enumr_by x None h = enumr_holds v roles x None (λ e f. absurd (cc))
  enumr_by x (Some n) h = enumr_holds v roles x (Some (tree_here n)) (λ e f. subst (λ (x : At TreeMeaning). TreeGrows v x.node) (one_is (tree_here n) e f) (tree_grows (tree_of v.target roles n.node.0) (n.node.1 h)))

  enumr_level : (y : one.Enumr-F SomeDeclr SomeParams SomeSpec SomeTree SomeEnumr SomeMembers SomeParam SomeTypeName) → ranged_enumr (bare_enumr y) ≡ true → EnumrHolds v (meant_enumr (bare_enumr y))
  enumr_level y h = enumr_by y.name y.value h

  members_level : (y : one.MemberDecl-F SomeDeclr SomeParams SomeSpec SomeTree SomeEnumr SomeMembers SomeParam SomeTypeName) → ranged_members (bare_members y) ≡ true → MembersHold v (meant_members (bare_members y))
  members_level y h =
      let c = both_true (all_fit (map spec_fits_at (map spec_bare_at y.specs))) (all_fit (map declr_fits_at (map declr_bare_at y.declrs))) h in
      member_list_holds v (map spec_at (map spec_bare_at y.specs)) (map declr_at (map declr_bare_at y.declrs)) (each_spec y.specs c.0) (each_declr y.declrs c.1)

  param_level : (y : one.Param-F SomeDeclr SomeParams SomeSpec SomeTree SomeEnumr SomeMembers SomeParam SomeTypeName) → ranged_param (bare_param y) ≡ true → ParamHolds v (meant_param (bare_param y))
  param_level y h =
      let c = both_true (all_fit (map spec_fits_at (map spec_bare_at y.specs))) (declr_in_range y.declr.node.0) h in
      param_holds v roles (map spec_at (map spec_bare_at y.specs)) (declr_here y.declr) (each_spec y.specs c.0) (y.declr.node.1 c.1)

  type_name_level : (y : one.TypeName-F SomeDeclr SomeParams SomeSpec SomeTree SomeEnumr SomeMembers SomeParam SomeTypeName) → ranged_type_name (bare_type_name y) ≡ true → TypeNameHolds v (meant_type_name (bare_type_name y))
  type_name_level y h =
      let c = both_true (all_fit (map spec_fits_at (map spec_bare_at y.specs))) (declr_in_range y.declr.node.0) h in
      type_name_holds v (map spec_at (map spec_bare_at y.specs)) (declr_here y.declr) (each_spec y.specs c.0) (y.declr.node.1 c.1)

  made_declr : (y : one.Declr-F SomeDeclr SomeParams SomeSpec SomeTree SomeEnumr SomeMembers SomeParam SomeTypeName) → PD (roll-Declr (bare_declr y))
  made_declr y h = subst (λ (m : DeclrMeaning). DeclrHolds v m) (sym (declr-means (bare_declr y))) (declr_level y (sym (declr-ranges (bare_declr y)) ∙ h))

  made_params : (y : one.Params-F SomeDeclr SomeParams SomeSpec SomeTree SomeEnumr SomeMembers SomeParam SomeTypeName) → PP (roll-Params (bare_params y))
  made_params y h = subst (λ (m : ParamsMeaning). ParamsHold v m) (sym (params-means (bare_params y))) (params_level y (sym (params-ranges (bare_params y)) ∙ h))

  made_spec : (y : one.Spec-F SomeDeclr SomeParams SomeSpec SomeTree SomeEnumr SomeMembers SomeParam SomeTypeName) → PS (roll-Spec (bare_spec y))
  made_spec y h = subst (λ (m : SpecMeaning). SpecHolds v m) (sym (spec-means (bare_spec y))) (spec_level y (sym (spec-ranges (bare_spec y)) ∙ h))

  made_tree : (y : one.Tree-F SomeDeclr SomeParams SomeSpec SomeTree SomeEnumr SomeMembers SomeParam SomeTypeName) → PT (roll-Tree (bare_tree y))
  made_tree y h = subst (λ (m : TreeMeaning). TreeHolds v locals m) (sym (tree-means (bare_tree y))) (tree_level y (sym (tree-ranges (bare_tree y)) ∙ h))

  made_enumr : (y : one.Enumr-F SomeDeclr SomeParams SomeSpec SomeTree SomeEnumr SomeMembers SomeParam SomeTypeName) → PE (roll-Enumr (bare_enumr y))
  made_enumr y h = subst (λ (m : EnumrMeaning). EnumrHolds v m) (sym (enumr-means (bare_enumr y))) (enumr_level y (sym (enumr-ranges (bare_enumr y)) ∙ h))

  made_members : (y : one.MemberDecl-F SomeDeclr SomeParams SomeSpec SomeTree SomeEnumr SomeMembers SomeParam SomeTypeName) → PM (roll-MemberDecl (bare_members y))
  made_members y h = subst (λ (m : MembersMeaning). MembersHold v m) (sym (members-means (bare_members y))) (members_level y (sym (members-ranges (bare_members y)) ∙ h))

  made_param : (y : one.Param-F SomeDeclr SomeParams SomeSpec SomeTree SomeEnumr SomeMembers SomeParam SomeTypeName) → PA (roll-Param (bare_param y))
  made_param y h = subst (λ (m : ParamMeaning). ParamHolds v m) (sym (param-means (bare_param y))) (param_level y (sym (param-ranges (bare_param y)) ∙ h))

  made_type_name : (y : one.TypeName-F SomeDeclr SomeParams SomeSpec SomeTree SomeEnumr SomeMembers SomeParam SomeTypeName) → PN (roll-TypeName (bare_type_name y))
  made_type_name y h = subst (λ (m : TypeNameMeaning). TypeNameHolds v m) (sym (type_name-means (bare_type_name y))) (type_name_level y (sym (type_name-ranges (bare_type_name y)) ∙ h))

  pub declr_holds : (x : Declr) → declr_in_range x ≡ true → DeclrHolds v (declr_of v.target roles x)
  declr_holds x h = by_declr PD PP PS PT PE PM PA PN made_declr made_params made_spec made_tree made_enumr made_members made_param made_type_name x h

  pub params_hold : (x : Params) → params_in_range x ≡ true → ParamsHold v (params_of v.target roles x)
  params_hold x h = by_params PD PP PS PT PE PM PA PN made_declr made_params made_spec made_tree made_enumr made_members made_param made_type_name x h

  pub spec_holds : (x : Spec) → spec_in_range x ≡ true → SpecHolds v (spec_of v.target roles x)
  spec_holds x h = by_spec PD PP PS PT PE PM PA PN made_declr made_params made_spec made_tree made_enumr made_members made_param made_type_name x h

  pub tree_holds : (x : Tree) → fits x ≡ true → TreeHolds v locals (tree_of v.target roles x)
  tree_holds x h = by_tree PD PP PS PT PE PM PA PN made_declr made_params made_spec made_tree made_enumr made_members made_param made_type_name x h

  pub enumr_is : (x : Enumr) → enumr_in_range x ≡ true → EnumrHolds v (enumr_of v.target roles x)
  enumr_is x h = by_enumr PD PP PS PT PE PM PA PN made_declr made_params made_spec made_tree made_enumr made_members made_param made_type_name x h

  pub member_decl_holds : (x : MemberDecl) → members_in_range x ≡ true → MembersHold v (members_of v.target roles x)
  member_decl_holds x h = by_members PD PP PS PT PE PM PA PN made_declr made_params made_spec made_tree made_enumr made_members made_param made_type_name x h

  pub param_is : (x : Param) → param_in_range x ≡ true → ParamHolds v (param_of v.target roles x)
  param_is x h = by_param PD PP PS PT PE PM PA PN made_declr made_params made_spec made_tree made_enumr made_members made_param made_type_name x h

  pub type_name_is : (x : TypeName) → type_name_in_range x ≡ true → TypeNameHolds v (type_name_of v.target roles x)
  type_name_is x h = by_type_name PD PP PS PT PE PM PA PN made_declr made_params made_spec made_tree made_enumr made_members made_param made_type_name x h
