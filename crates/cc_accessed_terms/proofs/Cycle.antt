-- What expressions account for, and that type names, specifiers and declarators declare no device without a name, by induction over them.
use Rattle.std.proofs.Common.{◌≡◌, ℕ, List, [], ◌∷◌, map, Option, Some, None, sym, subst}
use Rattle.cc_program.specs.CcNum.declared.target.Target.{Target}
use Rattle.cc_program.proofs.Each.{Each}
use Rattle.cc_program.specs.declared.program.Roles.{Roles}
use Rattle.cc_terms.specs.CcSpecifiers.Derivations.{with_derivation, pointer_derivation}
use Rattle.cc_terms.specs.CcSpecifiers.declared.specifier.Specifier.TheVariants as specifier
use Rattle.cc_terms.specs.Constants.{enumr_step}
use Rattle.cc_terms.specs.Declarators.{declr_step, params_step, param_step, type_name_step}
use Rattle.cc_terms.specs.Expressions.{tree_step}
use Rattle.cc_terms.specs.Meanings.{TreeMeaning, DeclrMeaning, ParamsMeaning, ParamMeaning, SpecMeaning, MembersMeaning, EnumrMeaning, TypeNameMeaning}
use Rattle.cc_terms.specs.Members.{members_step}
use Rattle.cc_terms.specs.Specifiers.{spec_step}
use Rattle.cc_terms.specs.Terms.{tree_of, declr_of, params_of, param_of, spec_of, members_of, enumr_of, type_name_of}
use Rattle.cc_tree.specs.declared.at.At.{At}
use Rattle.cc_tree.specs.declared.tree.Declr.TheOpen as one
use Rattle.cc_tree.specs.declared.tree.Declr.{Declr, roll-Declr, map-Declr, fold-roll-Declr, ind-Declr}
use Rattle.cc_tree.specs.declared.tree.Params.{Params, roll-Params, map-Params, fold-roll-Params, ind-Params}
use Rattle.cc_tree.specs.declared.tree.Spec.{Spec, roll-Spec, map-Spec, fold-roll-Spec, ind-Spec}
use Rattle.cc_tree.specs.declared.tree.Tree.{Tree, roll-Tree, map-Tree, fold-roll-Tree, ind-Tree}
use Rattle.cc_tree.specs.declared.tree.Enumr.{Enumr, roll-Enumr, map-Enumr, fold-roll-Enumr}
use Rattle.cc_tree.specs.declared.tree.MemberDecl.{MemberDecl, roll-MemberDecl, map-MemberDecl, fold-roll-MemberDecl}
use Rattle.cc_tree.specs.declared.tree.Param.{Param, roll-Param, map-Param, fold-roll-Param}
use Rattle.cc_tree.specs.declared.tree.TypeName.{TypeName, roll-TypeName, map-TypeName, fold-roll-TypeName, ind-TypeName}
use Rattle.cc_accessed_terms.proofs.Specifiers.{SpecDeclares, EnumrDeclares, MembersDeclare, word_declares, type_named_declares, marked_declares, structure_tag_declares, structure_declares, enumeration_tag_declares, enumeration_declares, no_value_declares, some_value_declares}
use Rattle.cc_accessed_terms.proofs.Trees.{named_accounts, number_accounts, character_accounts, string_accounts, comma_accounts, choose_accounts, binary_accounts, assign_accounts, postfix_accounts, prefixed_accounts, sizeof_accounts, sizeof_type_accounts, cast_accounts, subscript_accounts, call_accounts, member_accounts, arrow_accounts}
use Rattle.cc_accessed_terms.proofs.Types.{DeclrDeclares, ParamsDeclare, ParamDeclares, TypeNameDeclares, name_declares, more_declares, array_declares, function_declares, empty_declares, many_declare, param_declares, type_name_declares, members_declare}
use Rattle.cc_accessed_terms.proofs.Values.{TreeAccounts}

-- constructs at their places, with what holds of their meanings
abbrev bare : {A M : Type 0} → (f : A → M) → (P : M → Type 0) → At ((x : A) × P (f x)) → At A
bare f P x = record { at = x.at; node = x.node.0 }

abbrev meant : {A M : Type 0} → (A → M) → At A → At M
meant f x = record { at = x.at; node = f x.node }

abbrev here : {A M : Type 0} → (f : A → M) → (P : M → Type 0) → At ((x : A) × P (f x)) → At M
here f P x = meant f (bare f P x)

abbrev all_here : {A M : Type 0} → (f : A → M) → (P : M → Type 0) → List (At ((x : A) × P (f x))) → List (At M)
all_here f P xs = map (meant f) (map (bare f P) xs)

each_here : {A M : Type 0} (f : A → M) (P : M → Type 0) (xs : List (At ((x : A) × P (f x)))) → Each (λ (a : At M). P a.node) (all_here f P xs)
each_here f P [] = tt
each_here f P (x ∷ xs) = (x.node.1, each_here f P xs)

module _ (target : Target) (roles : Roles) where
  abbrev PDeclr : Declr → Type 0
  PDeclr x = DeclrDeclares (declr_of target roles x)

  abbrev SomeDeclr : Type 0
  SomeDeclr = (x : Declr) × PDeclr x

  abbrev PParams : Params → Type 0
  PParams x = ParamsDeclare (params_of target roles x)

  abbrev SomeParams : Type 0
  SomeParams = (x : Params) × PParams x

  abbrev PSpec : Spec → Type 0
  PSpec x = SpecDeclares (spec_of target roles x)

  abbrev SomeSpec : Type 0
  SomeSpec = (x : Spec) × PSpec x

  abbrev PTree : Tree → Type 0
  PTree x = TreeAccounts (tree_of target roles x)

  abbrev SomeTree : Type 0
  SomeTree = (x : Tree) × PTree x

  abbrev PEnumr : Enumr → Type 0
  PEnumr x = EnumrDeclares (enumr_of target roles x)

  abbrev SomeEnumr : Type 0
  SomeEnumr = (x : Enumr) × PEnumr x

  abbrev PMembers : MemberDecl → Type 0
  PMembers x = MembersDeclare (members_of target roles x)

  abbrev SomeMembers : Type 0
  SomeMembers = (x : MemberDecl) × PMembers x

  abbrev PParam : Param → Type 0
  PParam x = ParamDeclares (param_of target roles x)

  abbrev SomeParam : Type 0
  SomeParam = (x : Param) × PParam x

  abbrev PTypeName : TypeName → Type 0
  PTypeName x = TypeNameDeclares (type_name_of target roles x)

  abbrev SomeTypeName : Type 0
  SomeTypeName = (x : TypeName) × PTypeName x

  abbrev declr_parts : Type 0
  declr_parts = one.Declr-F SomeDeclr SomeParams SomeSpec SomeTree SomeEnumr SomeMembers SomeParam SomeTypeName

  abbrev bare_declr : declr_parts → one.Declr-F Declr Params Spec Tree Enumr MemberDecl Param TypeName
  bare_declr x = map-Declr SomeDeclr SomeParams SomeSpec SomeTree SomeEnumr SomeMembers SomeParam SomeTypeName Declr Params Spec Tree Enumr MemberDecl Param TypeName (λ x. x.0) (λ x. x.0) (λ x. x.0) (λ x. x.0) (λ x. x.0) (λ x. x.0) (λ x. x.0) (λ x. x.0) x

  abbrev meant_declr : one.Declr-F Declr Params Spec Tree Enumr MemberDecl Param TypeName → DeclrMeaning
  meant_declr x = declr_step (map-Declr Declr Params Spec Tree Enumr MemberDecl Param TypeName DeclrMeaning ParamsMeaning SpecMeaning TreeMeaning EnumrMeaning MembersMeaning ParamMeaning TypeNameMeaning (declr_of target roles) (params_of target roles) (spec_of target roles) (tree_of target roles) (enumr_of target roles) (members_of target roles) (param_of target roles) (type_name_of target roles) x)

  declr-means : (x : one.Declr-F Declr Params Spec Tree Enumr MemberDecl Param TypeName) → declr_of target roles (roll-Declr x) ≡ meant_declr x
  unfolding declr_of params_of spec_of tree_of enumr_of members_of param_of type_name_of
  declr-means x = fold-roll-Declr DeclrMeaning ParamsMeaning SpecMeaning TreeMeaning EnumrMeaning MembersMeaning ParamMeaning TypeNameMeaning declr_step params_step (spec_step target) (tree_step target roles) (enumr_step target roles) (members_step target) (param_step target roles) (type_name_step target) x

  abbrev params_parts : Type 0
  params_parts = one.Params-F SomeDeclr SomeParams SomeSpec SomeTree SomeEnumr SomeMembers SomeParam SomeTypeName

  abbrev bare_params : params_parts → one.Params-F Declr Params Spec Tree Enumr MemberDecl Param TypeName
  bare_params x = map-Params SomeDeclr SomeParams SomeSpec SomeTree SomeEnumr SomeMembers SomeParam SomeTypeName Declr Params Spec Tree Enumr MemberDecl Param TypeName (λ x. x.0) (λ x. x.0) (λ x. x.0) (λ x. x.0) (λ x. x.0) (λ x. x.0) (λ x. x.0) (λ x. x.0) x

  abbrev meant_params : one.Params-F Declr Params Spec Tree Enumr MemberDecl Param TypeName → ParamsMeaning
  meant_params x = params_step (map-Params Declr Params Spec Tree Enumr MemberDecl Param TypeName DeclrMeaning ParamsMeaning SpecMeaning TreeMeaning EnumrMeaning MembersMeaning ParamMeaning TypeNameMeaning (declr_of target roles) (params_of target roles) (spec_of target roles) (tree_of target roles) (enumr_of target roles) (members_of target roles) (param_of target roles) (type_name_of target roles) x)

  params-means : (x : one.Params-F Declr Params Spec Tree Enumr MemberDecl Param TypeName) → params_of target roles (roll-Params x) ≡ meant_params x
  unfolding declr_of params_of spec_of tree_of enumr_of members_of param_of type_name_of
  params-means x = fold-roll-Params DeclrMeaning ParamsMeaning SpecMeaning TreeMeaning EnumrMeaning MembersMeaning ParamMeaning TypeNameMeaning declr_step params_step (spec_step target) (tree_step target roles) (enumr_step target roles) (members_step target) (param_step target roles) (type_name_step target) x

  abbrev spec_parts : Type 0
  spec_parts = one.Spec-F SomeDeclr SomeParams SomeSpec SomeTree SomeEnumr SomeMembers SomeParam SomeTypeName

  abbrev bare_spec : spec_parts → one.Spec-F Declr Params Spec Tree Enumr MemberDecl Param TypeName
  bare_spec x = map-Spec SomeDeclr SomeParams SomeSpec SomeTree SomeEnumr SomeMembers SomeParam SomeTypeName Declr Params Spec Tree Enumr MemberDecl Param TypeName (λ x. x.0) (λ x. x.0) (λ x. x.0) (λ x. x.0) (λ x. x.0) (λ x. x.0) (λ x. x.0) (λ x. x.0) x

  abbrev meant_spec : one.Spec-F Declr Params Spec Tree Enumr MemberDecl Param TypeName → SpecMeaning
  meant_spec x = spec_step target (map-Spec Declr Params Spec Tree Enumr MemberDecl Param TypeName DeclrMeaning ParamsMeaning SpecMeaning TreeMeaning EnumrMeaning MembersMeaning ParamMeaning TypeNameMeaning (declr_of target roles) (params_of target roles) (spec_of target roles) (tree_of target roles) (enumr_of target roles) (members_of target roles) (param_of target roles) (type_name_of target roles) x)

  spec-means : (x : one.Spec-F Declr Params Spec Tree Enumr MemberDecl Param TypeName) → spec_of target roles (roll-Spec x) ≡ meant_spec x
  unfolding declr_of params_of spec_of tree_of enumr_of members_of param_of type_name_of
  spec-means x = fold-roll-Spec DeclrMeaning ParamsMeaning SpecMeaning TreeMeaning EnumrMeaning MembersMeaning ParamMeaning TypeNameMeaning declr_step params_step (spec_step target) (tree_step target roles) (enumr_step target roles) (members_step target) (param_step target roles) (type_name_step target) x

  abbrev tree_parts : Type 0
  tree_parts = one.Tree-F SomeDeclr SomeParams SomeSpec SomeTree SomeEnumr SomeMembers SomeParam SomeTypeName

  abbrev bare_tree : tree_parts → one.Tree-F Declr Params Spec Tree Enumr MemberDecl Param TypeName
  bare_tree x = map-Tree SomeDeclr SomeParams SomeSpec SomeTree SomeEnumr SomeMembers SomeParam SomeTypeName Declr Params Spec Tree Enumr MemberDecl Param TypeName (λ x. x.0) (λ x. x.0) (λ x. x.0) (λ x. x.0) (λ x. x.0) (λ x. x.0) (λ x. x.0) (λ x. x.0) x

  abbrev meant_tree : one.Tree-F Declr Params Spec Tree Enumr MemberDecl Param TypeName → TreeMeaning
  meant_tree x = tree_step target roles (map-Tree Declr Params Spec Tree Enumr MemberDecl Param TypeName DeclrMeaning ParamsMeaning SpecMeaning TreeMeaning EnumrMeaning MembersMeaning ParamMeaning TypeNameMeaning (declr_of target roles) (params_of target roles) (spec_of target roles) (tree_of target roles) (enumr_of target roles) (members_of target roles) (param_of target roles) (type_name_of target roles) x)

  tree-means : (x : one.Tree-F Declr Params Spec Tree Enumr MemberDecl Param TypeName) → tree_of target roles (roll-Tree x) ≡ meant_tree x
  unfolding declr_of params_of spec_of tree_of enumr_of members_of param_of type_name_of
  tree-means x = fold-roll-Tree DeclrMeaning ParamsMeaning SpecMeaning TreeMeaning EnumrMeaning MembersMeaning ParamMeaning TypeNameMeaning declr_step params_step (spec_step target) (tree_step target roles) (enumr_step target roles) (members_step target) (param_step target roles) (type_name_step target) x

  abbrev enumr_parts : Type 0
  enumr_parts = one.Enumr-F SomeDeclr SomeParams SomeSpec SomeTree SomeEnumr SomeMembers SomeParam SomeTypeName

  abbrev bare_enumr : enumr_parts → one.Enumr-F Declr Params Spec Tree Enumr MemberDecl Param TypeName
  bare_enumr x = map-Enumr SomeDeclr SomeParams SomeSpec SomeTree SomeEnumr SomeMembers SomeParam SomeTypeName Declr Params Spec Tree Enumr MemberDecl Param TypeName (λ x. x.0) (λ x. x.0) (λ x. x.0) (λ x. x.0) (λ x. x.0) (λ x. x.0) (λ x. x.0) (λ x. x.0) x

  abbrev meant_enumr : one.Enumr-F Declr Params Spec Tree Enumr MemberDecl Param TypeName → EnumrMeaning
  meant_enumr x = enumr_step target roles (map-Enumr Declr Params Spec Tree Enumr MemberDecl Param TypeName DeclrMeaning ParamsMeaning SpecMeaning TreeMeaning EnumrMeaning MembersMeaning ParamMeaning TypeNameMeaning (declr_of target roles) (params_of target roles) (spec_of target roles) (tree_of target roles) (enumr_of target roles) (members_of target roles) (param_of target roles) (type_name_of target roles) x)

  enumr-means : (x : one.Enumr-F Declr Params Spec Tree Enumr MemberDecl Param TypeName) → enumr_of target roles (roll-Enumr x) ≡ meant_enumr x
  unfolding declr_of params_of spec_of tree_of enumr_of members_of param_of type_name_of
  enumr-means x = fold-roll-Enumr DeclrMeaning ParamsMeaning SpecMeaning TreeMeaning EnumrMeaning MembersMeaning ParamMeaning TypeNameMeaning declr_step params_step (spec_step target) (tree_step target roles) (enumr_step target roles) (members_step target) (param_step target roles) (type_name_step target) x

  abbrev members_parts : Type 0
  members_parts = one.MemberDecl-F SomeDeclr SomeParams SomeSpec SomeTree SomeEnumr SomeMembers SomeParam SomeTypeName

  abbrev bare_members : members_parts → one.MemberDecl-F Declr Params Spec Tree Enumr MemberDecl Param TypeName
  bare_members x = map-MemberDecl SomeDeclr SomeParams SomeSpec SomeTree SomeEnumr SomeMembers SomeParam SomeTypeName Declr Params Spec Tree Enumr MemberDecl Param TypeName (λ x. x.0) (λ x. x.0) (λ x. x.0) (λ x. x.0) (λ x. x.0) (λ x. x.0) (λ x. x.0) (λ x. x.0) x

  abbrev meant_members : one.MemberDecl-F Declr Params Spec Tree Enumr MemberDecl Param TypeName → MembersMeaning
  meant_members x = members_step target (map-MemberDecl Declr Params Spec Tree Enumr MemberDecl Param TypeName DeclrMeaning ParamsMeaning SpecMeaning TreeMeaning EnumrMeaning MembersMeaning ParamMeaning TypeNameMeaning (declr_of target roles) (params_of target roles) (spec_of target roles) (tree_of target roles) (enumr_of target roles) (members_of target roles) (param_of target roles) (type_name_of target roles) x)

  members-means : (x : one.MemberDecl-F Declr Params Spec Tree Enumr MemberDecl Param TypeName) → members_of target roles (roll-MemberDecl x) ≡ meant_members x
  unfolding declr_of params_of spec_of tree_of enumr_of members_of param_of type_name_of
  members-means x = fold-roll-MemberDecl DeclrMeaning ParamsMeaning SpecMeaning TreeMeaning EnumrMeaning MembersMeaning ParamMeaning TypeNameMeaning declr_step params_step (spec_step target) (tree_step target roles) (enumr_step target roles) (members_step target) (param_step target roles) (type_name_step target) x

  abbrev param_parts : Type 0
  param_parts = one.Param-F SomeDeclr SomeParams SomeSpec SomeTree SomeEnumr SomeMembers SomeParam SomeTypeName

  abbrev bare_param : param_parts → one.Param-F Declr Params Spec Tree Enumr MemberDecl Param TypeName
  bare_param x = map-Param SomeDeclr SomeParams SomeSpec SomeTree SomeEnumr SomeMembers SomeParam SomeTypeName Declr Params Spec Tree Enumr MemberDecl Param TypeName (λ x. x.0) (λ x. x.0) (λ x. x.0) (λ x. x.0) (λ x. x.0) (λ x. x.0) (λ x. x.0) (λ x. x.0) x

  abbrev meant_param : one.Param-F Declr Params Spec Tree Enumr MemberDecl Param TypeName → ParamMeaning
  meant_param x = param_step target roles (map-Param Declr Params Spec Tree Enumr MemberDecl Param TypeName DeclrMeaning ParamsMeaning SpecMeaning TreeMeaning EnumrMeaning MembersMeaning ParamMeaning TypeNameMeaning (declr_of target roles) (params_of target roles) (spec_of target roles) (tree_of target roles) (enumr_of target roles) (members_of target roles) (param_of target roles) (type_name_of target roles) x)

  param-means : (x : one.Param-F Declr Params Spec Tree Enumr MemberDecl Param TypeName) → param_of target roles (roll-Param x) ≡ meant_param x
  unfolding declr_of params_of spec_of tree_of enumr_of members_of param_of type_name_of
  param-means x = fold-roll-Param DeclrMeaning ParamsMeaning SpecMeaning TreeMeaning EnumrMeaning MembersMeaning ParamMeaning TypeNameMeaning declr_step params_step (spec_step target) (tree_step target roles) (enumr_step target roles) (members_step target) (param_step target roles) (type_name_step target) x

  abbrev type_name_parts : Type 0
  type_name_parts = one.TypeName-F SomeDeclr SomeParams SomeSpec SomeTree SomeEnumr SomeMembers SomeParam SomeTypeName

  abbrev bare_type_name : type_name_parts → one.TypeName-F Declr Params Spec Tree Enumr MemberDecl Param TypeName
  bare_type_name x = map-TypeName SomeDeclr SomeParams SomeSpec SomeTree SomeEnumr SomeMembers SomeParam SomeTypeName Declr Params Spec Tree Enumr MemberDecl Param TypeName (λ x. x.0) (λ x. x.0) (λ x. x.0) (λ x. x.0) (λ x. x.0) (λ x. x.0) (λ x. x.0) (λ x. x.0) x

  abbrev meant_type_name : one.TypeName-F Declr Params Spec Tree Enumr MemberDecl Param TypeName → TypeNameMeaning
  meant_type_name x = type_name_step target (map-TypeName Declr Params Spec Tree Enumr MemberDecl Param TypeName DeclrMeaning ParamsMeaning SpecMeaning TreeMeaning EnumrMeaning MembersMeaning ParamMeaning TypeNameMeaning (declr_of target roles) (params_of target roles) (spec_of target roles) (tree_of target roles) (enumr_of target roles) (members_of target roles) (param_of target roles) (type_name_of target roles) x)

  type_name-means : (x : one.TypeName-F Declr Params Spec Tree Enumr MemberDecl Param TypeName) → type_name_of target roles (roll-TypeName x) ≡ meant_type_name x
  unfolding declr_of params_of spec_of tree_of enumr_of members_of param_of type_name_of
  type_name-means x = fold-roll-TypeName DeclrMeaning ParamsMeaning SpecMeaning TreeMeaning EnumrMeaning MembersMeaning ParamMeaning TypeNameMeaning declr_step params_step (spec_step target) (tree_step target roles) (enumr_step target roles) (members_step target) (param_step target roles) (type_name_step target) x

  -- ---- each construct, from its parts

  abbrev tree_here : At SomeTree → At TreeMeaning
  tree_here x = here (tree_of target roles) TreeAccounts x

  abbrev declr_here : At SomeDeclr → At DeclrMeaning
  declr_here x = here (declr_of target roles) DeclrDeclares x

  abbrev specs_here : List (At SomeSpec) → List (At SpecMeaning)
  specs_here xs = all_here (spec_of target roles) SpecDeclares xs

  tree_level : (y : tree_parts) → TreeAccounts (meant_tree (bare_tree y))
  tree_level (one.Tree::Named x) = named_accounts roles x
  tree_level (one.Number n suffix) = number_accounts target n suffix
  tree_level (one.Character byte) = character_accounts target byte
  tree_level (one.Text bytes) = string_accounts target bytes
  tree_level (one.Tree::Paren e) = λ at s r h. e.node.1 e.at s r h
  tree_level (one.Extension e) = λ at s r h. e.node.1 e.at s r h
  tree_level (one.Comma a b) = comma_accounts target (tree_here a) (tree_here b) a.node.1 b.node.1
  tree_level (one.Assign o a b) = assign_accounts target o (tree_here a) (tree_here b) a.node.1 b.node.1
  tree_level (one.Choose c a b) = choose_accounts target (tree_here c) (tree_here a) (tree_here b) c.node.1 a.node.1 b.node.1
  tree_level (one.Binary o a b) = binary_accounts target o (tree_here a) (tree_here b) a.node.1 b.node.1
  tree_level (one.Prefix o e) = prefixed_accounts target o (tree_here e) e.node.1
  tree_level (one.Postfix e o) = postfix_accounts target o (tree_here e) e.node.1
  tree_level (one.SizeOf e) = sizeof_accounts target (tree_here e) e.node.1
  tree_level (one.SizeOfType t) = sizeof_type_accounts target (type_name_of target roles t.0) t.1
  tree_level (one.Cast t e) = cast_accounts target (type_name_of target roles t.0) (tree_here e) t.1 e.node.1
  tree_level (one.Subscript a i) = subscript_accounts target (tree_here a) (tree_here i) a.node.1 i.node.1
  tree_level (one.Call f args) = call_accounts target (tree_here f) (all_here (tree_of target roles) TreeAccounts args) f.node.1 (each_here (tree_of target roles) TreeAccounts args)
  tree_level (one.Member e x) = member_accounts target (tree_here e) x e.node.1
  tree_level (one.Arrow e x) = arrow_accounts target (tree_here e) x e.node.1

  declr_level : (y : declr_parts) → DeclrDeclares (meant_declr (bare_declr y))
  declr_level one.Nothing = name_declares None
  declr_level (one.Declr::Named x) = name_declares (Some x)
  declr_level (one.Declr::Paren d) = λ allowed at s r h. d.node.1 allowed d.at s r h
  declr_level (one.Pointer words d) = more_declares (declr_here d) (λ at d. with_derivation at (pointer_derivation words) d) d.node.1
  declr_level (one.Array d None) = array_declares (declr_here d) None d.node.1 tt
  declr_level (one.Array d (Some n)) = array_declares (declr_here d) (Some (tree_here n)) d.node.1 n.node.1
  declr_level (one.Func d ps) = function_declares (declr_here d) (params_of target roles ps.0) d.node.1 ps.1

  params_level : (y : params_parts) → ParamsDeclare (meant_params (bare_params y))
  params_level one.Empty = empty_declares
  params_level one.Void = empty_declares
  params_level (one.Many ps) = many_declare (all_here (param_of target roles) ParamDeclares ps) (each_here (param_of target roles) ParamDeclares ps)

  spec_level : (y : spec_parts) → SpecDeclares (meant_spec (bare_spec y))
  spec_level (one.Word x) = word_declares (specifier.Word x)
  spec_level (one.Spec::Named x) = type_named_declares x
  spec_level (one.Struct tag None front behind) = structure_tag_declares tag
  spec_level (one.Struct tag (Some ds) front behind) =
      structure_declares target tag (all_here (members_of target roles) MembersDeclare ds) (each_here (members_of target roles) MembersDeclare ds) front behind
  spec_level (one.Enum tag None) = enumeration_tag_declares tag
  spec_level (one.Enum tag (Some cs)) = enumeration_declares tag (all_here (enumr_of target roles) EnumrDeclares cs) (each_here (enumr_of target roles) EnumrDeclares cs)
  spec_level (one.Attr a) = marked_declares a

  enumr_by : (x : List ℕ) (o : Option (At SomeTree)) → EnumrDeclares (meant_enumr (bare_enumr (record { name = x; value = o })))
  enumr_by x None = no_value_declares target roles x
  enumr_by x (Some n) = some_value_declares target roles x (tree_here n) n.node.1

  enumr_level : (y : enumr_parts) → EnumrDeclares (meant_enumr (bare_enumr y))
  enumr_level y = enumr_by y.name y.value

  members_level : (y : members_parts) → MembersDeclare (meant_members (bare_members y))
  members_level y =
      members_declare target (specs_here y.specs) (all_here (declr_of target roles) DeclrDeclares y.declrs) (each_here (spec_of target roles) SpecDeclares y.specs) (each_here (declr_of target roles) DeclrDeclares y.declrs)

  param_level : (y : param_parts) → ParamDeclares (meant_param (bare_param y))
  param_level y = param_declares target roles (specs_here y.specs) (declr_here y.declr) (each_here (spec_of target roles) SpecDeclares y.specs) y.declr.node.1

  type_name_level : (y : type_name_parts) → TypeNameDeclares (meant_type_name (bare_type_name y))
  type_name_level y = type_name_declares target (specs_here y.specs) (declr_here y.declr) (each_here (spec_of target roles) SpecDeclares y.specs) y.declr.node.1

  -- ---- the induction

  declr_made : (x : one.Declr-F Declr Params Spec Tree Enumr MemberDecl Param TypeName) (y : declr_parts) → bare_declr y ≡ x → PDeclr (roll-Declr x)
  declr_made x y e = subst (λ (z : one.Declr-F Declr Params Spec Tree Enumr MemberDecl Param TypeName). PDeclr (roll-Declr z)) e (subst DeclrDeclares (sym (declr-means (bare_declr y))) (declr_level y))

  params_made : (x : one.Params-F Declr Params Spec Tree Enumr MemberDecl Param TypeName) (y : params_parts) → bare_params y ≡ x → PParams (roll-Params x)
  params_made x y e = subst (λ (z : one.Params-F Declr Params Spec Tree Enumr MemberDecl Param TypeName). PParams (roll-Params z)) e (subst ParamsDeclare (sym (params-means (bare_params y))) (params_level y))

  spec_made : (x : one.Spec-F Declr Params Spec Tree Enumr MemberDecl Param TypeName) (y : spec_parts) → bare_spec y ≡ x → PSpec (roll-Spec x)
  spec_made x y e = subst (λ (z : one.Spec-F Declr Params Spec Tree Enumr MemberDecl Param TypeName). PSpec (roll-Spec z)) e (subst SpecDeclares (sym (spec-means (bare_spec y))) (spec_level y))

  tree_made : (x : one.Tree-F Declr Params Spec Tree Enumr MemberDecl Param TypeName) (y : tree_parts) → bare_tree y ≡ x → PTree (roll-Tree x)
  tree_made x y e = subst (λ (z : one.Tree-F Declr Params Spec Tree Enumr MemberDecl Param TypeName). PTree (roll-Tree z)) e (subst TreeAccounts (sym (tree-means (bare_tree y))) (tree_level y))

  enumr_made : (x : one.Enumr-F Declr Params Spec Tree Enumr MemberDecl Param TypeName) (y : enumr_parts) → bare_enumr y ≡ x → PEnumr (roll-Enumr x)
  enumr_made x y e = subst (λ (z : one.Enumr-F Declr Params Spec Tree Enumr MemberDecl Param TypeName). PEnumr (roll-Enumr z)) e (subst EnumrDeclares (sym (enumr-means (bare_enumr y))) (enumr_level y))

  members_made : (x : one.MemberDecl-F Declr Params Spec Tree Enumr MemberDecl Param TypeName) (y : members_parts) → bare_members y ≡ x → PMembers (roll-MemberDecl x)
  members_made x y e = subst (λ (z : one.MemberDecl-F Declr Params Spec Tree Enumr MemberDecl Param TypeName). PMembers (roll-MemberDecl z)) e (subst MembersDeclare (sym (members-means (bare_members y))) (members_level y))

  param_made : (x : one.Param-F Declr Params Spec Tree Enumr MemberDecl Param TypeName) (y : param_parts) → bare_param y ≡ x → PParam (roll-Param x)
  param_made x y e = subst (λ (z : one.Param-F Declr Params Spec Tree Enumr MemberDecl Param TypeName). PParam (roll-Param z)) e (subst ParamDeclares (sym (param-means (bare_param y))) (param_level y))

  type_name_made : (x : one.TypeName-F Declr Params Spec Tree Enumr MemberDecl Param TypeName) (y : type_name_parts) → bare_type_name y ≡ x → PTypeName (roll-TypeName x)
  type_name_made x y e = subst (λ (z : one.TypeName-F Declr Params Spec Tree Enumr MemberDecl Param TypeName). PTypeName (roll-TypeName z)) e (subst TypeNameDeclares (sym (type_name-means (bare_type_name y))) (type_name_level y))

  pub each_declr : (x : Declr) → PDeclr x
  each_declr = ind-Declr PDeclr PParams PSpec PTree PEnumr PMembers PParam PTypeName declr_made params_made spec_made tree_made enumr_made members_made param_made type_name_made

  pub each_params : (x : Params) → PParams x
  each_params = ind-Params PDeclr PParams PSpec PTree PEnumr PMembers PParam PTypeName declr_made params_made spec_made tree_made enumr_made members_made param_made type_name_made

  pub each_spec : (x : Spec) → PSpec x
  each_spec = ind-Spec PDeclr PParams PSpec PTree PEnumr PMembers PParam PTypeName declr_made params_made spec_made tree_made enumr_made members_made param_made type_name_made

  pub each_tree : (x : Tree) → PTree x
  each_tree = ind-Tree PDeclr PParams PSpec PTree PEnumr PMembers PParam PTypeName declr_made params_made spec_made tree_made enumr_made members_made param_made type_name_made

  pub each_type_name : (x : TypeName) → PTypeName x
  each_type_name = ind-TypeName PDeclr PParams PSpec PTree PEnumr PMembers PParam PTypeName declr_made params_made spec_made tree_made enumr_made members_made param_made type_name_made
