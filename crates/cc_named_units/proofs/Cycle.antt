-- What expressions, type names, specifiers and declarators of a text add, by induction over them: no more than they count.
use Rattle.std.proofs.Common.{◌≡◌, ◌≤◌, ◌+◌, ℕ, suc, Bool, true, ◌&&◌, List, [], ◌∷◌, map, Option, Some, None, refl, ap, sym, ◌∙◌, subst, arith}
use Rattle.std.specs.List.{list_all}
use Rattle.cc_named_units.specs.Counts.{total, declr_counts, params_counts, spec_counts, tree_counts, enumr_counts, members_counts, param_counts, type_name_counts, declr_count, params_count, spec_count, tree_count, enumr_count, members_count, param_count, type_name_count}
use Rattle.cc_type.specs.CcDesignators.Assignments.{assign_of, stepped_after}
use Rattle.cc_type.specs.CcDesignators.Casts.{cast_of}
use Rattle.cc_type.specs.CcDesignators.Postfix.{dot, arrow}
use Rattle.cc_named_units.specs.Names.{HasNames, all_named, one_or_more, is_member_named, declr_names, params_names, spec_names, tree_names, enumr_names, members_names, param_names, type_name_names, declr_named, params_named, spec_named, tree_named, enumr_named, members_named, param_named, type_name_named, tag_named}
use Rattle.cc_program.specs.CcNum.declared.target.Target.{Target}
use Rattle.cc_type.specs.CcOperands.Choices.{choose_of, comma_of}
use Rattle.cc_type.specs.CcOperands.Operators.{operator_of}
use Rattle.cc_type.specs.CcTypedTerms.Operators.{binary_by, is_minus}
use Rattle.cc_type.specs.CcTypedTerms.Primary.{named, number, character}
use Rattle.cc_program.specs.declared.program.Roles.{Roles}
use Rattle.cc_type.specs.CcScopes.State.{structures_of}
use Rattle.cc_type.proofs.CcSyntax.Prefixes.{both_true}
use Rattle.cc_tree.specs.declared.at.At.{At}
use Rattle.cc_tree.specs.declared.tree.Declr.TheOpen as one
use Rattle.cc_tree.specs.declared.tree.Declr.{Declr, roll-Declr, map-Declr, fold-roll-Declr}
use Rattle.cc_tree.specs.declared.tree.Params.{Params, roll-Params, map-Params, fold-roll-Params}
use Rattle.cc_tree.specs.declared.tree.Spec.{Spec, roll-Spec, map-Spec, fold-roll-Spec}
use Rattle.cc_tree.specs.declared.tree.Tree.{Tree, roll-Tree, map-Tree, fold-roll-Tree}
use Rattle.cc_tree.specs.declared.tree.Enumr.{Enumr, roll-Enumr, map-Enumr, fold-roll-Enumr}
use Rattle.cc_tree.specs.declared.tree.MemberDecl.{MemberDecl, roll-MemberDecl, map-MemberDecl, fold-roll-MemberDecl}
use Rattle.cc_tree.specs.declared.tree.Param.{Param, roll-Param, map-Param, fold-roll-Param}
use Rattle.cc_tree.specs.declared.tree.TypeName.{TypeName, roll-TypeName, map-TypeName, fold-roll-TypeName}
use Rattle.cc_type.specs.CcTerms.Meanings.{TreeMeaning, DeclrMeaning, ParamsMeaning, ParamMeaning, SpecMeaning, MembersMeaning, EnumrMeaning, TypeNameMeaning}
use Rattle.cc_type.specs.CcTerms.Terms.{tree_of, declr_of, params_of, param_of, spec_of, members_of, enumr_of, type_name_of}
use Rattle.cc_named_units.specs.Named.{Limits}
use Rattle.cc_named_units.proofs.Adding.{AreCounted, done, judged}
use Rattle.cc_named_units.proofs.Declarators.{DeclrAdds, NamedDeclrAdds, ParamsAdd, ParamAdds, nothing_adds, name_adds, pointer_adds, open_array_adds, array_adds, function_adds, type_name_adds, member_list_adds, empty_adds, many_add, param_adds}
use Rattle.cc_named_units.proofs.Induction as by
use Rattle.cc_named_units.proofs.Specifiers.{SpecAdds, EnumrAdds, MembersAdd, word_adds, type_named_adds, marked_adds, structure_tag_adds, enumeration_tag_adds, structure_adds, enumeration_adds, no_value_adds, some_value_adds}
use Rattle.cc_named_units.proofs.TermSteps.{TreeAdds}
use Rattle.cc_named_units.proofs.Trees.{TypeNameAdds, string_adds, prefixed_adds, sizeof_adds, sizeof_type_adds, subscript_adds, call_adds, one_value, one_place, place_given, two_values, place_and_value, three_values, cast_adds}

pub front_few : (a b n : ℕ) → a + b ≤ n → a ≤ n
front_few a b n h = omega arith

pub rest_few : (a b n : ℕ) → a + b ≤ n → b ≤ n
rest_few a b n h = omega arith

one_kept : {A B C : Type 0} (f : A → B) (g : A → C) (xs : List A) → one_or_more (map f xs) ≡ true → one_or_more (map g xs) ≡ true
one_kept f g [] h = h
one_kept f g (x ∷ xs) h = refl

pub few_but_one : (a n : ℕ) → suc a ≤ n → a ≤ n
few_but_one a n h = omega arith

abbrev named_declr : one.Declr-F Declr Params Spec Tree Enumr MemberDecl Param TypeName → HasNames
named_declr x = declr_names (map-Declr Declr Params Spec Tree Enumr MemberDecl Param TypeName HasNames Bool Bool Bool Bool Bool Bool Bool declr_named params_named spec_named tree_named enumr_named members_named param_named type_name_named x)

declr-names : (x : one.Declr-F Declr Params Spec Tree Enumr MemberDecl Param TypeName) → declr_named (roll-Declr x) ≡ named_declr x
unfolding declr_named params_named spec_named tree_named enumr_named members_named param_named type_name_named
declr-names x = fold-roll-Declr HasNames Bool Bool Bool Bool Bool Bool Bool declr_names params_names spec_names tree_names enumr_names members_names param_names type_name_names x

abbrev count_declr : one.Declr-F Declr Params Spec Tree Enumr MemberDecl Param TypeName → ℕ
count_declr x = declr_counts (map-Declr Declr Params Spec Tree Enumr MemberDecl Param TypeName ℕ ℕ ℕ ℕ ℕ ℕ ℕ ℕ declr_count params_count spec_count tree_count enumr_count members_count param_count type_name_count x)

declr-counts : (x : one.Declr-F Declr Params Spec Tree Enumr MemberDecl Param TypeName) → declr_count (roll-Declr x) ≡ count_declr x
unfolding declr_count params_count spec_count tree_count enumr_count members_count param_count type_name_count
declr-counts x = fold-roll-Declr ℕ ℕ ℕ ℕ ℕ ℕ ℕ ℕ declr_counts params_counts spec_counts tree_counts enumr_counts members_counts param_counts type_name_counts x

abbrev named_params : one.Params-F Declr Params Spec Tree Enumr MemberDecl Param TypeName → Bool
named_params x = params_names (map-Params Declr Params Spec Tree Enumr MemberDecl Param TypeName HasNames Bool Bool Bool Bool Bool Bool Bool declr_named params_named spec_named tree_named enumr_named members_named param_named type_name_named x)

params-names : (x : one.Params-F Declr Params Spec Tree Enumr MemberDecl Param TypeName) → params_named (roll-Params x) ≡ named_params x
unfolding declr_named params_named spec_named tree_named enumr_named members_named param_named type_name_named
params-names x = fold-roll-Params HasNames Bool Bool Bool Bool Bool Bool Bool declr_names params_names spec_names tree_names enumr_names members_names param_names type_name_names x

abbrev count_params : one.Params-F Declr Params Spec Tree Enumr MemberDecl Param TypeName → ℕ
count_params x = params_counts (map-Params Declr Params Spec Tree Enumr MemberDecl Param TypeName ℕ ℕ ℕ ℕ ℕ ℕ ℕ ℕ declr_count params_count spec_count tree_count enumr_count members_count param_count type_name_count x)

params-counts : (x : one.Params-F Declr Params Spec Tree Enumr MemberDecl Param TypeName) → params_count (roll-Params x) ≡ count_params x
unfolding declr_count params_count spec_count tree_count enumr_count members_count param_count type_name_count
params-counts x = fold-roll-Params ℕ ℕ ℕ ℕ ℕ ℕ ℕ ℕ declr_counts params_counts spec_counts tree_counts enumr_counts members_counts param_counts type_name_counts x

abbrev pub named_spec : one.Spec-F Declr Params Spec Tree Enumr MemberDecl Param TypeName → Bool
named_spec x = spec_names (map-Spec Declr Params Spec Tree Enumr MemberDecl Param TypeName HasNames Bool Bool Bool Bool Bool Bool Bool declr_named params_named spec_named tree_named enumr_named members_named param_named type_name_named x)

pub spec-names : (x : one.Spec-F Declr Params Spec Tree Enumr MemberDecl Param TypeName) → spec_named (roll-Spec x) ≡ named_spec x
unfolding declr_named params_named spec_named tree_named enumr_named members_named param_named type_name_named
spec-names x = fold-roll-Spec HasNames Bool Bool Bool Bool Bool Bool Bool declr_names params_names spec_names tree_names enumr_names members_names param_names type_name_names x

abbrev count_spec : one.Spec-F Declr Params Spec Tree Enumr MemberDecl Param TypeName → ℕ
count_spec x = spec_counts (map-Spec Declr Params Spec Tree Enumr MemberDecl Param TypeName ℕ ℕ ℕ ℕ ℕ ℕ ℕ ℕ declr_count params_count spec_count tree_count enumr_count members_count param_count type_name_count x)

spec-counts : (x : one.Spec-F Declr Params Spec Tree Enumr MemberDecl Param TypeName) → spec_count (roll-Spec x) ≡ count_spec x
unfolding declr_count params_count spec_count tree_count enumr_count members_count param_count type_name_count
spec-counts x = fold-roll-Spec ℕ ℕ ℕ ℕ ℕ ℕ ℕ ℕ declr_counts params_counts spec_counts tree_counts enumr_counts members_counts param_counts type_name_counts x

abbrev named_tree : one.Tree-F Declr Params Spec Tree Enumr MemberDecl Param TypeName → Bool
named_tree x = tree_names (map-Tree Declr Params Spec Tree Enumr MemberDecl Param TypeName HasNames Bool Bool Bool Bool Bool Bool Bool declr_named params_named spec_named tree_named enumr_named members_named param_named type_name_named x)

tree-names : (x : one.Tree-F Declr Params Spec Tree Enumr MemberDecl Param TypeName) → tree_named (roll-Tree x) ≡ named_tree x
unfolding declr_named params_named spec_named tree_named enumr_named members_named param_named type_name_named
tree-names x = fold-roll-Tree HasNames Bool Bool Bool Bool Bool Bool Bool declr_names params_names spec_names tree_names enumr_names members_names param_names type_name_names x

abbrev count_tree : one.Tree-F Declr Params Spec Tree Enumr MemberDecl Param TypeName → ℕ
count_tree x = tree_counts (map-Tree Declr Params Spec Tree Enumr MemberDecl Param TypeName ℕ ℕ ℕ ℕ ℕ ℕ ℕ ℕ declr_count params_count spec_count tree_count enumr_count members_count param_count type_name_count x)

tree-counts : (x : one.Tree-F Declr Params Spec Tree Enumr MemberDecl Param TypeName) → tree_count (roll-Tree x) ≡ count_tree x
unfolding declr_count params_count spec_count tree_count enumr_count members_count param_count type_name_count
tree-counts x = fold-roll-Tree ℕ ℕ ℕ ℕ ℕ ℕ ℕ ℕ declr_counts params_counts spec_counts tree_counts enumr_counts members_counts param_counts type_name_counts x

abbrev named_enumr : one.Enumr-F Declr Params Spec Tree Enumr MemberDecl Param TypeName → Bool
named_enumr x = enumr_names (map-Enumr Declr Params Spec Tree Enumr MemberDecl Param TypeName HasNames Bool Bool Bool Bool Bool Bool Bool declr_named params_named spec_named tree_named enumr_named members_named param_named type_name_named x)

enumr-names : (x : one.Enumr-F Declr Params Spec Tree Enumr MemberDecl Param TypeName) → enumr_named (roll-Enumr x) ≡ named_enumr x
unfolding declr_named params_named spec_named tree_named enumr_named members_named param_named type_name_named
enumr-names x = fold-roll-Enumr HasNames Bool Bool Bool Bool Bool Bool Bool declr_names params_names spec_names tree_names enumr_names members_names param_names type_name_names x

abbrev count_enumr : one.Enumr-F Declr Params Spec Tree Enumr MemberDecl Param TypeName → ℕ
count_enumr x = enumr_counts (map-Enumr Declr Params Spec Tree Enumr MemberDecl Param TypeName ℕ ℕ ℕ ℕ ℕ ℕ ℕ ℕ declr_count params_count spec_count tree_count enumr_count members_count param_count type_name_count x)

enumr-counts : (x : one.Enumr-F Declr Params Spec Tree Enumr MemberDecl Param TypeName) → enumr_count (roll-Enumr x) ≡ count_enumr x
unfolding declr_count params_count spec_count tree_count enumr_count members_count param_count type_name_count
enumr-counts x = fold-roll-Enumr ℕ ℕ ℕ ℕ ℕ ℕ ℕ ℕ declr_counts params_counts spec_counts tree_counts enumr_counts members_counts param_counts type_name_counts x

abbrev named_members : one.MemberDecl-F Declr Params Spec Tree Enumr MemberDecl Param TypeName → Bool
named_members x = members_names (map-MemberDecl Declr Params Spec Tree Enumr MemberDecl Param TypeName HasNames Bool Bool Bool Bool Bool Bool Bool declr_named params_named spec_named tree_named enumr_named members_named param_named type_name_named x)

members-names : (x : one.MemberDecl-F Declr Params Spec Tree Enumr MemberDecl Param TypeName) → members_named (roll-MemberDecl x) ≡ named_members x
unfolding declr_named params_named spec_named tree_named enumr_named members_named param_named type_name_named
members-names x = fold-roll-MemberDecl HasNames Bool Bool Bool Bool Bool Bool Bool declr_names params_names spec_names tree_names enumr_names members_names param_names type_name_names x

abbrev count_members : one.MemberDecl-F Declr Params Spec Tree Enumr MemberDecl Param TypeName → ℕ
count_members x = members_counts (map-MemberDecl Declr Params Spec Tree Enumr MemberDecl Param TypeName ℕ ℕ ℕ ℕ ℕ ℕ ℕ ℕ declr_count params_count spec_count tree_count enumr_count members_count param_count type_name_count x)

members-counts : (x : one.MemberDecl-F Declr Params Spec Tree Enumr MemberDecl Param TypeName) → members_count (roll-MemberDecl x) ≡ count_members x
unfolding declr_count params_count spec_count tree_count enumr_count members_count param_count type_name_count
members-counts x = fold-roll-MemberDecl ℕ ℕ ℕ ℕ ℕ ℕ ℕ ℕ declr_counts params_counts spec_counts tree_counts enumr_counts members_counts param_counts type_name_counts x

abbrev named_param : one.Param-F Declr Params Spec Tree Enumr MemberDecl Param TypeName → Bool
named_param x = param_names (map-Param Declr Params Spec Tree Enumr MemberDecl Param TypeName HasNames Bool Bool Bool Bool Bool Bool Bool declr_named params_named spec_named tree_named enumr_named members_named param_named type_name_named x)

param-names : (x : one.Param-F Declr Params Spec Tree Enumr MemberDecl Param TypeName) → param_named (roll-Param x) ≡ named_param x
unfolding declr_named params_named spec_named tree_named enumr_named members_named param_named type_name_named
param-names x = fold-roll-Param HasNames Bool Bool Bool Bool Bool Bool Bool declr_names params_names spec_names tree_names enumr_names members_names param_names type_name_names x

abbrev count_param : one.Param-F Declr Params Spec Tree Enumr MemberDecl Param TypeName → ℕ
count_param x = param_counts (map-Param Declr Params Spec Tree Enumr MemberDecl Param TypeName ℕ ℕ ℕ ℕ ℕ ℕ ℕ ℕ declr_count params_count spec_count tree_count enumr_count members_count param_count type_name_count x)

param-counts : (x : one.Param-F Declr Params Spec Tree Enumr MemberDecl Param TypeName) → param_count (roll-Param x) ≡ count_param x
unfolding declr_count params_count spec_count tree_count enumr_count members_count param_count type_name_count
param-counts x = fold-roll-Param ℕ ℕ ℕ ℕ ℕ ℕ ℕ ℕ declr_counts params_counts spec_counts tree_counts enumr_counts members_counts param_counts type_name_counts x

abbrev named_type_name : one.TypeName-F Declr Params Spec Tree Enumr MemberDecl Param TypeName → Bool
named_type_name x = type_name_names (map-TypeName Declr Params Spec Tree Enumr MemberDecl Param TypeName HasNames Bool Bool Bool Bool Bool Bool Bool declr_named params_named spec_named tree_named enumr_named members_named param_named type_name_named x)

type_name-names : (x : one.TypeName-F Declr Params Spec Tree Enumr MemberDecl Param TypeName) → type_name_named (roll-TypeName x) ≡ named_type_name x
unfolding declr_named params_named spec_named tree_named enumr_named members_named param_named type_name_named
type_name-names x = fold-roll-TypeName HasNames Bool Bool Bool Bool Bool Bool Bool declr_names params_names spec_names tree_names enumr_names members_names param_names type_name_names x

abbrev count_type_name : one.TypeName-F Declr Params Spec Tree Enumr MemberDecl Param TypeName → ℕ
count_type_name x = type_name_counts (map-TypeName Declr Params Spec Tree Enumr MemberDecl Param TypeName ℕ ℕ ℕ ℕ ℕ ℕ ℕ ℕ declr_count params_count spec_count tree_count enumr_count members_count param_count type_name_count x)

type_name-counts : (x : one.TypeName-F Declr Params Spec Tree Enumr MemberDecl Param TypeName) → type_name_count (roll-TypeName x) ≡ count_type_name x
unfolding declr_count params_count spec_count tree_count enumr_count members_count param_count type_name_count
type_name-counts x = fold-roll-TypeName ℕ ℕ ℕ ℕ ℕ ℕ ℕ ℕ declr_counts params_counts spec_counts tree_counts enumr_counts members_counts param_counts type_name_counts x

module _ (target : Target) (roles : Roles) (most : Limits) where
  abbrev CD : Declr → DeclrMeaning → Type 0
  CD x m = (declr_named x).0 ≡ true → declr_count x ≤ most.few → DeclrAdds target most (declr_count x) (declr_named x).1 m

  abbrev CP : Params → ParamsMeaning → Type 0
  CP x m = params_named x ≡ true → params_count x ≤ most.few → ParamsAdd target most (params_count x) m

  abbrev CS : Spec → SpecMeaning → Type 0
  CS x m = spec_named x ≡ true → spec_count x ≤ most.few → SpecAdds target most (spec_count x) m

  abbrev CT : Tree → TreeMeaning → Type 0
  CT x m = tree_named x ≡ true → tree_count x ≤ most.few → TreeAdds most (tree_count x) m

  abbrev CE : Enumr → EnumrMeaning → Type 0
  CE x m = enumr_named x ≡ true → enumr_count x ≤ most.few → EnumrAdds target most (enumr_count x) m

  abbrev CM : MemberDecl → MembersMeaning → Type 0
  CM x m = members_named x ≡ true → members_count x ≤ most.few → MembersAdd target most (members_count x) m

  abbrev CA : Param → ParamMeaning → Type 0
  CA x m = param_named x ≡ true → param_count x ≤ most.few → ParamAdds target most (param_count x) m

  abbrev CN : TypeName → TypeNameMeaning → Type 0
  CN x m = type_name_named x ≡ true → type_name_count x ≤ most.few → TypeNameAdds target most (type_name_count x) m

  abbrev SomeDeclr : Type 0
  SomeDeclr = (x : Declr) × CD x (declr_of target roles x)

  abbrev SomeParams : Type 0
  SomeParams = (x : Params) × CP x (params_of target roles x)

  abbrev SomeSpec : Type 0
  SomeSpec = (x : Spec) × CS x (spec_of target roles x)

  abbrev SomeTree : Type 0
  SomeTree = (x : Tree) × CT x (tree_of target roles x)

  abbrev SomeEnumr : Type 0
  SomeEnumr = (x : Enumr) × CE x (enumr_of target roles x)

  abbrev SomeMembers : Type 0
  SomeMembers = (x : MemberDecl) × CM x (members_of target roles x)

  abbrev SomeParam : Type 0
  SomeParam = (x : Param) × CA x (param_of target roles x)

  abbrev SomeTypeName : Type 0
  SomeTypeName = (x : TypeName) × CN x (type_name_of target roles x)

  abbrev bare_declr : one.Declr-F SomeDeclr SomeParams SomeSpec SomeTree SomeEnumr SomeMembers SomeParam SomeTypeName → one.Declr-F Declr Params Spec Tree Enumr MemberDecl Param TypeName
  bare_declr y = by.bare_declr target roles CD CP CS CT CE CM CA CN y

  abbrev meant_declr : one.Declr-F SomeDeclr SomeParams SomeSpec SomeTree SomeEnumr SomeMembers SomeParam SomeTypeName → DeclrMeaning
  meant_declr y = by.meant_declr target roles CD CP CS CT CE CM CA CN (bare_declr y)

  abbrev bare_params : one.Params-F SomeDeclr SomeParams SomeSpec SomeTree SomeEnumr SomeMembers SomeParam SomeTypeName → one.Params-F Declr Params Spec Tree Enumr MemberDecl Param TypeName
  bare_params y = by.bare_params target roles CD CP CS CT CE CM CA CN y

  abbrev meant_params : one.Params-F SomeDeclr SomeParams SomeSpec SomeTree SomeEnumr SomeMembers SomeParam SomeTypeName → ParamsMeaning
  meant_params y = by.meant_params target roles CD CP CS CT CE CM CA CN (bare_params y)

  abbrev bare_spec : one.Spec-F SomeDeclr SomeParams SomeSpec SomeTree SomeEnumr SomeMembers SomeParam SomeTypeName → one.Spec-F Declr Params Spec Tree Enumr MemberDecl Param TypeName
  bare_spec y = by.bare_spec target roles CD CP CS CT CE CM CA CN y

  abbrev meant_spec : one.Spec-F SomeDeclr SomeParams SomeSpec SomeTree SomeEnumr SomeMembers SomeParam SomeTypeName → SpecMeaning
  meant_spec y = by.meant_spec target roles CD CP CS CT CE CM CA CN (bare_spec y)

  abbrev bare_tree : one.Tree-F SomeDeclr SomeParams SomeSpec SomeTree SomeEnumr SomeMembers SomeParam SomeTypeName → one.Tree-F Declr Params Spec Tree Enumr MemberDecl Param TypeName
  bare_tree y = by.bare_tree target roles CD CP CS CT CE CM CA CN y

  abbrev meant_tree : one.Tree-F SomeDeclr SomeParams SomeSpec SomeTree SomeEnumr SomeMembers SomeParam SomeTypeName → TreeMeaning
  meant_tree y = by.meant_tree target roles CD CP CS CT CE CM CA CN (bare_tree y)

  abbrev bare_enumr : one.Enumr-F SomeDeclr SomeParams SomeSpec SomeTree SomeEnumr SomeMembers SomeParam SomeTypeName → one.Enumr-F Declr Params Spec Tree Enumr MemberDecl Param TypeName
  bare_enumr y = by.bare_enumr target roles CD CP CS CT CE CM CA CN y

  abbrev meant_enumr : one.Enumr-F SomeDeclr SomeParams SomeSpec SomeTree SomeEnumr SomeMembers SomeParam SomeTypeName → EnumrMeaning
  meant_enumr y = by.meant_enumr target roles CD CP CS CT CE CM CA CN (bare_enumr y)

  abbrev bare_members : one.MemberDecl-F SomeDeclr SomeParams SomeSpec SomeTree SomeEnumr SomeMembers SomeParam SomeTypeName → one.MemberDecl-F Declr Params Spec Tree Enumr MemberDecl Param TypeName
  bare_members y = by.bare_members target roles CD CP CS CT CE CM CA CN y

  abbrev meant_members : one.MemberDecl-F SomeDeclr SomeParams SomeSpec SomeTree SomeEnumr SomeMembers SomeParam SomeTypeName → MembersMeaning
  meant_members y = by.meant_members target roles CD CP CS CT CE CM CA CN (bare_members y)

  abbrev bare_param : one.Param-F SomeDeclr SomeParams SomeSpec SomeTree SomeEnumr SomeMembers SomeParam SomeTypeName → one.Param-F Declr Params Spec Tree Enumr MemberDecl Param TypeName
  bare_param y = by.bare_param target roles CD CP CS CT CE CM CA CN y

  abbrev meant_param : one.Param-F SomeDeclr SomeParams SomeSpec SomeTree SomeEnumr SomeMembers SomeParam SomeTypeName → ParamMeaning
  meant_param y = by.meant_param target roles CD CP CS CT CE CM CA CN (bare_param y)

  abbrev bare_type_name : one.TypeName-F SomeDeclr SomeParams SomeSpec SomeTree SomeEnumr SomeMembers SomeParam SomeTypeName → one.TypeName-F Declr Params Spec Tree Enumr MemberDecl Param TypeName
  bare_type_name y = by.bare_type_name target roles CD CP CS CT CE CM CA CN y

  abbrev meant_type_name : one.TypeName-F SomeDeclr SomeParams SomeSpec SomeTree SomeEnumr SomeMembers SomeParam SomeTypeName → TypeNameMeaning
  meant_type_name y = by.meant_type_name target roles CD CP CS CT CE CM CA CN (bare_type_name y)

  -- ---- lists of parts

  abbrev declr_bare_at : At SomeDeclr → At Declr
  declr_bare_at x = record { at = x.at; node = x.node.0 }

  abbrev declr_at : At Declr → At DeclrMeaning
  declr_at x = record { at = x.at; node = declr_of target roles x.node }

  abbrev declr_named_at : At Declr → At HasNames
  declr_named_at x = record { at = x.at; node = declr_named x.node }

  abbrev declr_count_at : At Declr → At ℕ
  declr_count_at x = record { at = x.at; node = declr_count x.node }

  counted_declr : (xs : List (At SomeDeclr)) → list_all is_member_named (map declr_named_at (map declr_bare_at xs)) ≡ true → total (map declr_count_at (map declr_bare_at xs)) ≤ most.few →
      AreCounted (NamedDeclrAdds target most) (map declr_at (map declr_bare_at xs)) (total (map declr_count_at (map declr_bare_at xs)))
  counted_declr [] h l = tt
  counted_declr (x ∷ xs) h l =
      let c = both_true (is_member_named (declr_named_at (declr_bare_at x))) (list_all is_member_named (map declr_named_at (map declr_bare_at xs))) h in
      let rest = total (map declr_count_at (map declr_bare_at xs)) in
      let k = both_true (declr_named x.node.0).0 (declr_named x.node.0).1 c.0 in
      let adds = subst (λ (b : Bool). DeclrAdds target most (declr_count x.node.0) b (declr_of target roles x.node.0)) k.1 (x.node.1 k.0 (front_few (declr_count x.node.0) rest most.few l)) in
      (declr_count x.node.0, rest, refl, adds, counted_declr xs c.1 (rest_few (declr_count x.node.0) rest most.few l))

  abbrev spec_bare_at : At SomeSpec → At Spec
  spec_bare_at x = record { at = x.at; node = x.node.0 }

  abbrev spec_at : At Spec → At SpecMeaning
  spec_at x = record { at = x.at; node = spec_of target roles x.node }

  abbrev spec_named_at : At Spec → At Bool
  spec_named_at x = record { at = x.at; node = spec_named x.node }

  abbrev spec_count_at : At Spec → At ℕ
  spec_count_at x = record { at = x.at; node = spec_count x.node }

  counted_spec : (xs : List (At SomeSpec)) → all_named (map spec_named_at (map spec_bare_at xs)) ≡ true → total (map spec_count_at (map spec_bare_at xs)) ≤ most.few →
      AreCounted (SpecAdds target most) (map spec_at (map spec_bare_at xs)) (total (map spec_count_at (map spec_bare_at xs)))
  counted_spec [] h l = tt
  counted_spec (x ∷ xs) h l =
      let c = both_true (spec_named x.node.0) (all_named (map spec_named_at (map spec_bare_at xs))) h in
      let rest = total (map spec_count_at (map spec_bare_at xs)) in
      (spec_count x.node.0, rest, refl, x.node.1 c.0 (front_few (spec_count x.node.0) rest most.few l), counted_spec xs c.1 (rest_few (spec_count x.node.0) rest most.few l))

  abbrev tree_bare_at : At SomeTree → At Tree
  tree_bare_at x = record { at = x.at; node = x.node.0 }

  abbrev tree_at : At Tree → At TreeMeaning
  tree_at x = record { at = x.at; node = tree_of target roles x.node }

  abbrev tree_named_at : At Tree → At Bool
  tree_named_at x = record { at = x.at; node = tree_named x.node }

  abbrev tree_count_at : At Tree → At ℕ
  tree_count_at x = record { at = x.at; node = tree_count x.node }

  counted_tree : (xs : List (At SomeTree)) → all_named (map tree_named_at (map tree_bare_at xs)) ≡ true → total (map tree_count_at (map tree_bare_at xs)) ≤ most.few →
      AreCounted (TreeAdds most) (map tree_at (map tree_bare_at xs)) (total (map tree_count_at (map tree_bare_at xs)))
  counted_tree [] h l = tt
  counted_tree (x ∷ xs) h l =
      let c = both_true (tree_named x.node.0) (all_named (map tree_named_at (map tree_bare_at xs))) h in
      let rest = total (map tree_count_at (map tree_bare_at xs)) in
      (tree_count x.node.0, rest, refl, x.node.1 c.0 (front_few (tree_count x.node.0) rest most.few l), counted_tree xs c.1 (rest_few (tree_count x.node.0) rest most.few l))

  abbrev enumr_bare_at : At SomeEnumr → At Enumr
  enumr_bare_at x = record { at = x.at; node = x.node.0 }

  abbrev enumr_at : At Enumr → At EnumrMeaning
  enumr_at x = record { at = x.at; node = enumr_of target roles x.node }

  abbrev enumr_named_at : At Enumr → At Bool
  enumr_named_at x = record { at = x.at; node = enumr_named x.node }

  abbrev enumr_count_at : At Enumr → At ℕ
  enumr_count_at x = record { at = x.at; node = enumr_count x.node }

  counted_enumr : (xs : List (At SomeEnumr)) → all_named (map enumr_named_at (map enumr_bare_at xs)) ≡ true → total (map enumr_count_at (map enumr_bare_at xs)) ≤ most.few →
      AreCounted (EnumrAdds target most) (map enumr_at (map enumr_bare_at xs)) (total (map enumr_count_at (map enumr_bare_at xs)))
  counted_enumr [] h l = tt
  counted_enumr (x ∷ xs) h l =
      let c = both_true (enumr_named x.node.0) (all_named (map enumr_named_at (map enumr_bare_at xs))) h in
      let rest = total (map enumr_count_at (map enumr_bare_at xs)) in
      (enumr_count x.node.0, rest, refl, x.node.1 c.0 (front_few (enumr_count x.node.0) rest most.few l), counted_enumr xs c.1 (rest_few (enumr_count x.node.0) rest most.few l))

  abbrev members_bare_at : At SomeMembers → At MemberDecl
  members_bare_at x = record { at = x.at; node = x.node.0 }

  abbrev members_at : At MemberDecl → At MembersMeaning
  members_at x = record { at = x.at; node = members_of target roles x.node }

  abbrev members_named_at : At MemberDecl → At Bool
  members_named_at x = record { at = x.at; node = members_named x.node }

  abbrev members_count_at : At MemberDecl → At ℕ
  members_count_at x = record { at = x.at; node = members_count x.node }

  counted_members : (xs : List (At SomeMembers)) → all_named (map members_named_at (map members_bare_at xs)) ≡ true → total (map members_count_at (map members_bare_at xs)) ≤ most.few →
      AreCounted (MembersAdd target most) (map members_at (map members_bare_at xs)) (total (map members_count_at (map members_bare_at xs)))
  counted_members [] h l = tt
  counted_members (x ∷ xs) h l =
      let c = both_true (members_named x.node.0) (all_named (map members_named_at (map members_bare_at xs))) h in
      let rest = total (map members_count_at (map members_bare_at xs)) in
      (members_count x.node.0, rest, refl, x.node.1 c.0 (front_few (members_count x.node.0) rest most.few l), counted_members xs c.1 (rest_few (members_count x.node.0) rest most.few l))

  abbrev param_bare_at : At SomeParam → At Param
  param_bare_at x = record { at = x.at; node = x.node.0 }

  abbrev param_at : At Param → At ParamMeaning
  param_at x = record { at = x.at; node = param_of target roles x.node }

  abbrev param_named_at : At Param → At Bool
  param_named_at x = record { at = x.at; node = param_named x.node }

  abbrev param_count_at : At Param → At ℕ
  param_count_at x = record { at = x.at; node = param_count x.node }

  counted_param : (xs : List (At SomeParam)) → all_named (map param_named_at (map param_bare_at xs)) ≡ true → total (map param_count_at (map param_bare_at xs)) ≤ most.few →
      AreCounted (ParamAdds target most) (map param_at (map param_bare_at xs)) (total (map param_count_at (map param_bare_at xs)))
  counted_param [] h l = tt
  counted_param (x ∷ xs) h l =
      let c = both_true (param_named x.node.0) (all_named (map param_named_at (map param_bare_at xs))) h in
      let rest = total (map param_count_at (map param_bare_at xs)) in
      (param_count x.node.0, rest, refl, x.node.1 c.0 (front_few (param_count x.node.0) rest most.few l), counted_param xs c.1 (rest_few (param_count x.node.0) rest most.few l))

  abbrev tree_here : At SomeTree → At TreeMeaning
  tree_here a = tree_at (tree_bare_at a)

  abbrev declr_here : At SomeDeclr → At DeclrMeaning
  declr_here a = declr_at (declr_bare_at a)

  -- ---- each construct, from its parts

  tree_level : (y : one.Tree-F SomeDeclr SomeParams SomeSpec SomeTree SomeEnumr SomeMembers SomeParam SomeTypeName) → named_tree (bare_tree y) ≡ true → count_tree (bare_tree y) ≤ most.few → TreeAdds most (count_tree (bare_tree y)) (meant_tree y)
  tree_level (one.Tree::Named x) h l = λ at s r f. judged most 0 at s (named roles at x s) r f
  tree_level (one.Number k suffix) h l = λ at s r f. done most 0 (number target k suffix) s r f
  tree_level (one.Character byte) h l = λ at s r f. done most 0 (character target byte) s r f
  tree_level (one.Text bytes) h l = string_adds target most bytes
  tree_level (one.Tree::Paren e) h l = λ at s r f. e.node.1 h l e.at s r f
  tree_level (one.Extension e) h l = λ at s r f. e.node.1 h l e.at s r f
  tree_level (one.Comma a b) h l =
      let c = both_true (tree_named a.node.0) (tree_named b.node.0) h in
      two_values target most (tree_count a.node.0) (tree_count b.node.0) (tree_here a) (tree_here b) (a.node.1 c.0 (front_few (tree_count a.node.0) (tree_count b.node.0) most.few l)) (b.node.1 c.1 (rest_few (tree_count a.node.0) (tree_count b.node.0) most.few l)) (λ x y s. comma_of x y)
  tree_level (one.Assign o a b) h l =
      let c = both_true (tree_named a.node.0) (tree_named b.node.0) h in
      place_and_value target most (tree_count a.node.0) (tree_count b.node.0) (tree_here a) (tree_here b) (a.node.1 c.0 (front_few (tree_count a.node.0) (tree_count b.node.0) most.few l)) (b.node.1 c.1 (rest_few (tree_count a.node.0) (tree_count b.node.0) most.few l)) (λ x y s. assign_of target (structures_of s) o x y)
  tree_level (one.Choose q a b) h l =
      let c = both_true (tree_named q.node.0) (tree_named a.node.0 && tree_named b.node.0) h in
      let d = both_true (tree_named a.node.0) (tree_named b.node.0) c.1 in
      let few = rest_few (tree_count q.node.0) (tree_count a.node.0 + tree_count b.node.0) most.few l in
      three_values target most (tree_count q.node.0) (tree_count a.node.0) (tree_count b.node.0) (tree_here q) (tree_here a) (tree_here b) (q.node.1 c.0 (front_few (tree_count q.node.0) (tree_count a.node.0 + tree_count b.node.0) most.few l))
      (a.node.1 d.0 (front_few (tree_count a.node.0) (tree_count b.node.0) most.few few)) (b.node.1 d.1 (rest_few (tree_count a.node.0) (tree_count b.node.0) most.few few)) (λ x y z. choose_of target x y z)
  tree_level (one.Binary o a b) h l =
      let c = both_true (tree_named a.node.0) (tree_named b.node.0) h in
      two_values target most (tree_count a.node.0) (tree_count b.node.0) (tree_here a) (tree_here b) (a.node.1 c.0 (front_few (tree_count a.node.0) (tree_count b.node.0) most.few l)) (b.node.1 c.1 (rest_few (tree_count a.node.0) (tree_count b.node.0) most.few l)) (λ x y s. binary_by target (structures_of s) (operator_of o) x y)
  tree_level (one.Prefix o e) h l = prefixed_adds target most (tree_count e.node.0) o (tree_here e) (e.node.1 h (few_but_one (tree_count e.node.0) most.few l))
  tree_level (one.Postfix e o) h l = place_given target most (tree_count e.node.0) (tree_here e) (e.node.1 h l) (λ x s. stepped_after (structures_of s) (is_minus o) x)
  tree_level (one.SizeOf e) h l = sizeof_adds target most (tree_count e.node.0) (tree_here e) (e.node.1 h l)
  tree_level (one.SizeOfType t) h l = sizeof_type_adds target most (type_name_count t.0) (type_name_of target roles t.0) (t.1 h l)
  tree_level (one.Cast t e) h l =
      let c = both_true (type_name_named t.0) (tree_named e.node.0) h in
      cast_adds target most (type_name_count t.0) (tree_count e.node.0) (type_name_of target roles t.0) (tree_here e) (t.1 c.0 (front_few (type_name_count t.0) (tree_count e.node.0) most.few l))
      (e.node.1 c.1 (rest_few (type_name_count t.0) (tree_count e.node.0) most.few l)) (λ at t x. cast_of target at t x)
  tree_level (one.Subscript a b) h l =
      let c = both_true (tree_named a.node.0) (tree_named b.node.0) h in
      subscript_adds target most (tree_count a.node.0) (tree_count b.node.0) (tree_here a) (tree_here b) (a.node.1 c.0 (front_few (tree_count a.node.0) (tree_count b.node.0) most.few l)) (b.node.1 c.1 (rest_few (tree_count a.node.0) (tree_count b.node.0) most.few l))
  tree_level (one.Call f args) h l =
      let c = both_true (tree_named f.node.0) (all_named (map tree_named_at (map tree_bare_at args))) h in
      let more = total (map tree_count_at (map tree_bare_at args)) in
      call_adds target most (tree_count f.node.0) more (tree_here f) (map tree_at (map tree_bare_at args)) (f.node.1 c.0 (front_few (tree_count f.node.0) more most.few l)) (counted_tree args c.1 (rest_few (tree_count f.node.0) more most.few l))
  tree_level (one.Member e x) h l = one_place target most (tree_count e.node.0) (tree_here e) (e.node.1 h l) (λ y s. dot (structures_of s) x y)
  tree_level (one.Arrow e x) h l = one_value target most (tree_count e.node.0) (tree_here e) (e.node.1 h l) (λ y s. arrow (structures_of s) x y)

  declr_level : (y : one.Declr-F SomeDeclr SomeParams SomeSpec SomeTree SomeEnumr SomeMembers SomeParam SomeTypeName) → (named_declr (bare_declr y)).0 ≡ true → count_declr (bare_declr y) ≤ most.few → DeclrAdds target most (count_declr (bare_declr y)) (named_declr (bare_declr y)).1 (meant_declr y)
  declr_level one.Nothing h l = nothing_adds target most
  declr_level (one.Declr::Named x) h l = name_adds target most x h
  declr_level (one.Declr::Paren d) h l = λ allowed at s r f. d.node.1 h l allowed d.at s r f
  declr_level (one.Pointer words d) h l = pointer_adds target most (declr_count d.node.0) (declr_named d.node.0).1 words (declr_here d) (d.node.1 h l)
  declr_level (one.Array d None) h l =
      let c = both_true (declr_named d.node.0).0 true h in
      open_array_adds target most (declr_count d.node.0) (declr_named d.node.0).1 (declr_here d) (d.node.1 c.0 (front_few (declr_count d.node.0) 0 most.few l))
  declr_level (one.Array d (Some k)) h l =
      let c = both_true (declr_named d.node.0).0 (tree_named k.node.0) h in
      array_adds target most (declr_count d.node.0) (tree_count k.node.0) (declr_named d.node.0).1 (declr_here d) (tree_here k) (d.node.1 c.0 (front_few (declr_count d.node.0) (tree_count k.node.0) most.few l)) (k.node.1 c.1 (rest_few (declr_count d.node.0) (tree_count k.node.0) most.few l))
  declr_level (one.Func d ps) h l =
      let c = both_true (declr_named d.node.0).0 (params_named ps.0) h in
      function_adds target most (declr_count d.node.0) (params_count ps.0) (declr_named d.node.0).1 (declr_here d) (params_of target roles ps.0) (d.node.1 c.0 (front_few (declr_count d.node.0) (params_count ps.0) most.few l))
      (ps.1 c.1 (rest_few (declr_count d.node.0) (params_count ps.0) most.few l))

  params_level : (y : one.Params-F SomeDeclr SomeParams SomeSpec SomeTree SomeEnumr SomeMembers SomeParam SomeTypeName) → named_params (bare_params y) ≡ true → count_params (bare_params y) ≤ most.few → ParamsAdd target most (count_params (bare_params y)) (meant_params y)
  params_level one.Empty h l = empty_adds target most
  params_level one.Void h l = empty_adds target most
  params_level (one.Many ps) h l = many_add target most (map param_at (map param_bare_at ps)) (total (map param_count_at (map param_bare_at ps))) (counted_param ps h l)

  spec_level : (y : one.Spec-F SomeDeclr SomeParams SomeSpec SomeTree SomeEnumr SomeMembers SomeParam SomeTypeName) → named_spec (bare_spec y) ≡ true → count_spec (bare_spec y) ≤ most.few → SpecAdds target most (count_spec (bare_spec y)) (meant_spec y)
  spec_level (one.Word x) h l = word_adds target most x
  spec_level (one.Spec::Named x) h l = type_named_adds target most x
  spec_level (one.Struct tag None front behind) h l = structure_tag_adds target most tag (both_true (tag_named tag) true h).0
  spec_level (one.Struct tag (Some ds) front behind) h l =
      let e = both_true (tag_named tag) (one_or_more (map members_named_at (map members_bare_at ds)) && all_named (map members_named_at (map members_bare_at ds))) h in
      let c = both_true (one_or_more (map members_named_at (map members_bare_at ds))) (all_named (map members_named_at (map members_bare_at ds))) e.1 in
      let count = total (map members_count_at (map members_bare_at ds)) in
      structure_adds target most tag (map members_at (map members_bare_at ds)) count (counted_members ds c.1 (few_but_one count most.few (few_but_one (suc count) most.few l))) (one_kept members_named_at members_at (map members_bare_at ds) c.0) l front behind e.0
  spec_level (one.Enum tag None) h l = enumeration_tag_adds target most tag
  spec_level (one.Enum tag (Some cs)) h l = enumeration_adds target most tag (map enumr_at (map enumr_bare_at cs)) (total (map enumr_count_at (map enumr_bare_at cs))) (counted_enumr cs h l)
  spec_level (one.Attr a) h l = marked_adds target most a

  enumr_by : (x : List ℕ) (o : Option (At SomeTree)) → named_enumr (bare_enumr (record { name = x; value = o })) ≡ true → count_enumr (bare_enumr (record { name = x; value = o })) ≤ most.few →
      EnumrAdds target most (count_enumr (bare_enumr (record { name = x; value = o }))) (meant_enumr (record { name = x; value = o }))
  enumr_by x None h l = no_value_adds target most roles x
  enumr_by x (Some k) h l = some_value_adds target most roles (tree_count k.node.0) x (tree_here k) (k.node.1 h l)

  enumr_level : (y : one.Enumr-F SomeDeclr SomeParams SomeSpec SomeTree SomeEnumr SomeMembers SomeParam SomeTypeName) → named_enumr (bare_enumr y) ≡ true → count_enumr (bare_enumr y) ≤ most.few → EnumrAdds target most (count_enumr (bare_enumr y)) (meant_enumr y)
  enumr_level y h l = enumr_by y.name y.value h l

  members_level : (y : one.MemberDecl-F SomeDeclr SomeParams SomeSpec SomeTree SomeEnumr SomeMembers SomeParam SomeTypeName) → named_members (bare_members y) ≡ true → count_members (bare_members y) ≤ most.few → MembersAdd target most (count_members (bare_members y)) (meant_members y)
  members_level y h l =
      let declrs = map declr_named_at (map declr_bare_at y.declrs) in
      let c = both_true (all_named (map spec_named_at (map spec_bare_at y.specs))) (one_or_more declrs && list_all is_member_named declrs) h in
      let e = both_true (one_or_more declrs) (list_all is_member_named declrs) c.1 in
      let front = total (map spec_count_at (map spec_bare_at y.specs)) in
      let rest = total (map declr_count_at (map declr_bare_at y.declrs)) in
      member_list_adds target most (map spec_at (map spec_bare_at y.specs)) (map declr_at (map declr_bare_at y.declrs)) front rest (counted_spec y.specs c.0 (front_few front rest most.few l)) (counted_declr y.declrs e.1 (rest_few front rest most.few l))
      (one_kept declr_named_at declr_at (map declr_bare_at y.declrs) e.0)

  param_level : (y : one.Param-F SomeDeclr SomeParams SomeSpec SomeTree SomeEnumr SomeMembers SomeParam SomeTypeName) → named_param (bare_param y) ≡ true → count_param (bare_param y) ≤ most.few → ParamAdds target most (count_param (bare_param y)) (meant_param y)
  param_level y h l =
      let c = both_true (all_named (map spec_named_at (map spec_bare_at y.specs))) (declr_named y.declr.node.0).0 h in
      let front = total (map spec_count_at (map spec_bare_at y.specs)) in
      let rest = declr_count y.declr.node.0 in
      let few = few_but_one (front + rest) most.few l in
      param_adds target most roles front rest (declr_named y.declr.node.0).1 (map spec_at (map spec_bare_at y.specs)) (declr_here y.declr) (counted_spec y.specs c.0 (front_few front rest most.few few)) (y.declr.node.1 c.1 (rest_few front rest most.few few))

  type_name_level : (y : one.TypeName-F SomeDeclr SomeParams SomeSpec SomeTree SomeEnumr SomeMembers SomeParam SomeTypeName) → named_type_name (bare_type_name y) ≡ true → count_type_name (bare_type_name y) ≤ most.few → TypeNameAdds target most (count_type_name (bare_type_name y)) (meant_type_name y)
  type_name_level y h l =
      let c = both_true (all_named (map spec_named_at (map spec_bare_at y.specs))) (declr_named y.declr.node.0).0 h in
      let front = total (map spec_count_at (map spec_bare_at y.specs)) in
      let rest = declr_count y.declr.node.0 in
      type_name_adds target most front rest (declr_named y.declr.node.0).1 (map spec_at (map spec_bare_at y.specs)) (declr_here y.declr) (counted_spec y.specs c.0 (front_few front rest most.few l)) (y.declr.node.1 c.1 (rest_few front rest most.few l))

  made_declr : (y : one.Declr-F SomeDeclr SomeParams SomeSpec SomeTree SomeEnumr SomeMembers SomeParam SomeTypeName) → CD (roll-Declr (bare_declr y)) (meant_declr y)
  made_declr y h l = subst (λ (b : Bool). DeclrAdds target most (declr_count (roll-Declr (bare_declr y))) b (meant_declr y)) (sym (ap (λ (b : HasNames). b.1) (declr-names (bare_declr y))))
      (subst (λ c. DeclrAdds target most c (named_declr (bare_declr y)).1 (meant_declr y)) (sym (declr-counts (bare_declr y))) (declr_level y (sym (ap (λ (b : HasNames). b.0) (declr-names (bare_declr y))) ∙ h) (subst (λ c. c ≤ most.few) (declr-counts (bare_declr y)) l)))

  made_params : (y : one.Params-F SomeDeclr SomeParams SomeSpec SomeTree SomeEnumr SomeMembers SomeParam SomeTypeName) → CP (roll-Params (bare_params y)) (meant_params y)
  made_params y h l = subst (λ c. ParamsAdd target most c (meant_params y)) (sym (params-counts (bare_params y))) (params_level y (sym (params-names (bare_params y)) ∙ h) (subst (λ c. c ≤ most.few) (params-counts (bare_params y)) l))

  made_spec : (y : one.Spec-F SomeDeclr SomeParams SomeSpec SomeTree SomeEnumr SomeMembers SomeParam SomeTypeName) → CS (roll-Spec (bare_spec y)) (meant_spec y)
  made_spec y h l = subst (λ c. SpecAdds target most c (meant_spec y)) (sym (spec-counts (bare_spec y))) (spec_level y (sym (spec-names (bare_spec y)) ∙ h) (subst (λ c. c ≤ most.few) (spec-counts (bare_spec y)) l))

  made_tree : (y : one.Tree-F SomeDeclr SomeParams SomeSpec SomeTree SomeEnumr SomeMembers SomeParam SomeTypeName) → CT (roll-Tree (bare_tree y)) (meant_tree y)
  made_tree y h l = subst (λ c. TreeAdds most c (meant_tree y)) (sym (tree-counts (bare_tree y))) (tree_level y (sym (tree-names (bare_tree y)) ∙ h) (subst (λ c. c ≤ most.few) (tree-counts (bare_tree y)) l))

  made_enumr : (y : one.Enumr-F SomeDeclr SomeParams SomeSpec SomeTree SomeEnumr SomeMembers SomeParam SomeTypeName) → CE (roll-Enumr (bare_enumr y)) (meant_enumr y)
  made_enumr y h l = subst (λ c. EnumrAdds target most c (meant_enumr y)) (sym (enumr-counts (bare_enumr y))) (enumr_level y (sym (enumr-names (bare_enumr y)) ∙ h) (subst (λ c. c ≤ most.few) (enumr-counts (bare_enumr y)) l))

  made_members : (y : one.MemberDecl-F SomeDeclr SomeParams SomeSpec SomeTree SomeEnumr SomeMembers SomeParam SomeTypeName) → CM (roll-MemberDecl (bare_members y)) (meant_members y)
  made_members y h l = subst (λ c. MembersAdd target most c (meant_members y)) (sym (members-counts (bare_members y))) (members_level y (sym (members-names (bare_members y)) ∙ h) (subst (λ c. c ≤ most.few) (members-counts (bare_members y)) l))

  made_param : (y : one.Param-F SomeDeclr SomeParams SomeSpec SomeTree SomeEnumr SomeMembers SomeParam SomeTypeName) → CA (roll-Param (bare_param y)) (meant_param y)
  made_param y h l = subst (λ c. ParamAdds target most c (meant_param y)) (sym (param-counts (bare_param y))) (param_level y (sym (param-names (bare_param y)) ∙ h) (subst (λ c. c ≤ most.few) (param-counts (bare_param y)) l))

  made_type_name : (y : one.TypeName-F SomeDeclr SomeParams SomeSpec SomeTree SomeEnumr SomeMembers SomeParam SomeTypeName) → CN (roll-TypeName (bare_type_name y)) (meant_type_name y)
  made_type_name y h l = subst (λ c. TypeNameAdds target most c (meant_type_name y)) (sym (type_name-counts (bare_type_name y))) (type_name_level y (sym (type_name-names (bare_type_name y)) ∙ h) (subst (λ c. c ≤ most.few) (type_name-counts (bare_type_name y)) l))

  pub declr_adds : (x : Declr) → (declr_named x).0 ≡ true → declr_count x ≤ most.few → DeclrAdds target most (declr_count x) (declr_named x).1 (declr_of target roles x)
  declr_adds x h l = by.each_declr target roles CD CP CS CT CE CM CA CN made_declr made_params made_spec made_tree made_enumr made_members made_param made_type_name x h l

  pub spec_adds : (x : Spec) → spec_named x ≡ true → spec_count x ≤ most.few → SpecAdds target most (spec_count x) (spec_of target roles x)
  spec_adds x h l = by.each_spec target roles CD CP CS CT CE CM CA CN made_declr made_params made_spec made_tree made_enumr made_members made_param made_type_name x h l

  pub tree_adds : (x : Tree) → tree_named x ≡ true → tree_count x ≤ most.few → TreeAdds most (tree_count x) (tree_of target roles x)
  tree_adds x h l = by.each_tree target roles CD CP CS CT CE CM CA CN made_declr made_params made_spec made_tree made_enumr made_members made_param made_type_name x h l
