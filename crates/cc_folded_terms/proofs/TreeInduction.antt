-- What expressions designate is folded, by induction over them; of types, specifiers and declarators nothing is asked.
use Rattle.std.proofs.Common.{◌≡◌, List, [], ◌∷◌, map, sym, subst}
use Rattle.cc_program.specs.CcNum.declared.target.Target.{Target}
use Rattle.cc_program.proofs.Each.{Each}
use Rattle.cc_program.specs.declared.program.Roles.{Roles}
use Rattle.cc_terms.specs.Constants.{enumr_step}
use Rattle.cc_terms.specs.Declarators.{declr_step, params_step, param_step, type_name_step}
use Rattle.cc_terms.specs.Expressions.{tree_step}
use Rattle.cc_terms.specs.Meanings.{TreeMeaning, DeclrMeaning, ParamsMeaning, ParamMeaning, SpecMeaning, MembersMeaning, EnumrMeaning, TypeNameMeaning}
use Rattle.cc_terms.specs.Members.{members_step}
use Rattle.cc_terms.specs.Specifiers.{spec_step}
use Rattle.cc_terms.specs.Terms.{tree_of, declr_of, params_of, param_of, spec_of, members_of, enumr_of, type_name_of}
use Rattle.cc_tree.specs.declared.at.At.{At}
use Rattle.cc_tree.specs.declared.tree.Declr.TheOpen as one
use Rattle.cc_tree.specs.declared.tree.Declr.{Declr}
use Rattle.cc_tree.specs.declared.tree.Enumr.{Enumr}
use Rattle.cc_tree.specs.declared.tree.MemberDecl.{MemberDecl}
use Rattle.cc_tree.specs.declared.tree.Param.{Param}
use Rattle.cc_tree.specs.declared.tree.Params.{Params}
use Rattle.cc_tree.specs.declared.tree.Spec.{Spec}
use Rattle.cc_tree.specs.declared.tree.Tree.{Tree, roll-Tree, map-Tree, fold-roll-Tree, ind-Tree}
use Rattle.cc_tree.specs.declared.tree.TypeName.{TypeName}
use Rattle.cc_folded_terms.proofs.Trees.{TreeFolds, named_folds, number_folds, character_folds, string_folds, comma_folds, choose_folds, binary_folds, assign_folds, postfix_folds, prefixed_folds, sizeof_folds, sizeof_type_folds, cast_folds, subscript_folds, call_folds, member_folds, arrow_folds}

module _ (target : Target) (roles : Roles) where
  abbrev meant_tree : one.Tree-F Declr Params Spec Tree Enumr MemberDecl Param TypeName → TreeMeaning
  meant_tree x =
      tree_step target roles
      (map-Tree Declr Params Spec Tree Enumr MemberDecl Param TypeName DeclrMeaning ParamsMeaning SpecMeaning TreeMeaning EnumrMeaning MembersMeaning ParamMeaning TypeNameMeaning (declr_of target roles) (params_of target roles) (spec_of target roles) (tree_of target roles) (enumr_of target roles) (members_of target roles) (param_of target roles) (type_name_of target roles) x)

  tree-means : (x : one.Tree-F Declr Params Spec Tree Enumr MemberDecl Param TypeName) → tree_of target roles (roll-Tree x) ≡ meant_tree x
  unfolding tree_of declr_of params_of param_of spec_of members_of enumr_of type_name_of
  tree-means x = fold-roll-Tree DeclrMeaning ParamsMeaning SpecMeaning TreeMeaning EnumrMeaning MembersMeaning ParamMeaning TypeNameMeaning declr_step params_step (spec_step target) (tree_step target roles) (enumr_step target roles) (members_step target) (param_step target roles) (type_name_step target) x

  abbrev Folds : Tree → Type 0
  Folds x = TreeFolds target (tree_of target roles x)

  abbrev Some : Type 0 → Type 0
  Some A = (x : A) × Unit {0}

  abbrev SomeTree : Type 0
  SomeTree = (x : Tree) × Folds x

  abbrev bare_tree : one.Tree-F (Some Declr) (Some Params) (Some Spec) SomeTree (Some Enumr) (Some MemberDecl) (Some Param) (Some TypeName) → one.Tree-F Declr Params Spec Tree Enumr MemberDecl Param TypeName
  bare_tree x = map-Tree (Some Declr) (Some Params) (Some Spec) SomeTree (Some Enumr) (Some MemberDecl) (Some Param) (Some TypeName) Declr Params Spec Tree Enumr MemberDecl Param TypeName (λ x. x.0) (λ x. x.0) (λ x. x.0) (λ x. x.0) (λ x. x.0) (λ x. x.0) (λ x. x.0) (λ x. x.0) x

  abbrev tree_here : At SomeTree → At TreeMeaning
  tree_here x = record { at = x.at; node = tree_of target roles x.node.0 }

  abbrev bare_at : At SomeTree → At Tree
  bare_at x = record { at = x.at; node = x.node.0 }

  abbrev meant_at : At Tree → At TreeMeaning
  meant_at x = record { at = x.at; node = tree_of target roles x.node }

  each_tree : (xs : List (At SomeTree)) → Each (λ (a : At TreeMeaning). TreeFolds target a.node) (map meant_at (map bare_at xs))
  each_tree [] = tt
  each_tree (x ∷ xs) = (x.node.1, each_tree xs)

  level : (y : one.Tree-F (Some Declr) (Some Params) (Some Spec) SomeTree (Some Enumr) (Some MemberDecl) (Some Param) (Some TypeName)) → TreeFolds target (meant_tree (bare_tree y))
  level (one.Tree::Named x) = named_folds target roles x
  level (one.Number n suffix) = number_folds target n suffix
  level (one.Character byte) = character_folds target byte
  level (one.Text bytes) = string_folds target bytes
  level (one.Tree::Paren e) = λ at s r h. e.node.1 e.at s r h
  level (one.Extension e) = λ at s r h. e.node.1 e.at s r h
  level (one.Comma a b) = comma_folds target (tree_here a) (tree_here b) a.node.1 b.node.1
  level (one.Assign o a b) = assign_folds target o (tree_here a) (tree_here b) a.node.1 b.node.1
  level (one.Choose c a b) = choose_folds target (tree_here c) (tree_here a) (tree_here b) c.node.1 a.node.1 b.node.1
  level (one.Binary o a b) = binary_folds target o (tree_here a) (tree_here b) a.node.1 b.node.1
  level (one.Prefix o e) = prefixed_folds target o (tree_here e) e.node.1
  level (one.Postfix e o) = postfix_folds target o (tree_here e) e.node.1
  level (one.SizeOf e) = sizeof_folds target (tree_here e)
  level (one.SizeOfType t) = sizeof_type_folds target (type_name_of target roles t.0)
  level (one.Cast t e) = cast_folds target (type_name_of target roles t.0) (tree_here e) e.node.1
  level (one.Subscript a i) = subscript_folds target (tree_here a) (tree_here i) a.node.1 i.node.1
  level (one.Call f args) = call_folds target (tree_here f) (map meant_at (map bare_at args)) f.node.1 (each_tree args)
  level (one.Member e x) = member_folds target (tree_here e) x e.node.1
  level (one.Arrow e x) = arrow_folds target (tree_here e) x e.node.1

  made : (y : one.Tree-F (Some Declr) (Some Params) (Some Spec) SomeTree (Some Enumr) (Some MemberDecl) (Some Param) (Some TypeName)) → Folds (roll-Tree (bare_tree y))
  made y = subst (TreeFolds target) (sym (tree-means (bare_tree y))) (level y)

  pub tree_folds : (x : Tree) → Folds x
  tree_folds =
      ind-Tree (λ (x : Declr). Unit {0}) (λ (x : Params). Unit {0}) (λ (x : Spec). Unit {0}) Folds (λ (x : Enumr). Unit {0}) (λ (x : MemberDecl). Unit {0}) (λ (x : Param). Unit {0}) (λ (x : TypeName). Unit {0})
      (λ x y e. tt) (λ x y e. tt) (λ x y e. tt) (λ x y e. subst (λ (z : one.Tree-F Declr Params Spec Tree Enumr MemberDecl Param TypeName). Folds (roll-Tree z)) e (made y)) (λ x y e. tt) (λ x y e. tt) (λ x y e. tt) (λ x y e. tt)
