-- The law of all constructs of the trees, by induction.
use Rattle.std.proofs.Common.{List}
use Rattle.cc_program.specs.CcNum.declared.target.Target.{Target}
use Rattle.cc_program.specs.declared.program.Roles.{Roles}
use Rattle.cc_typed_bodies.specs.CcScopes.State.{Name}
use Rattle.cc_tree.specs.declared.tree.Declr.{Declr, ind-Declr}
use Rattle.cc_tree.specs.declared.tree.Enumr.{Enumr, ind-Enumr}
use Rattle.cc_tree.specs.declared.tree.MemberDecl.{MemberDecl, ind-MemberDecl}
use Rattle.cc_tree.specs.declared.tree.Param.{Param, ind-Param}
use Rattle.cc_tree.specs.declared.tree.Params.{Params, ind-Params}
use Rattle.cc_tree.specs.declared.tree.Spec.{Spec, ind-Spec}
use Rattle.cc_tree.specs.declared.tree.Tree.{Tree, ind-Tree}
use Rattle.cc_tree.specs.declared.tree.TypeName.{TypeName, ind-TypeName}
use Rattle.cc_first_faults.proofs.Declarators.{of-declr, of-params, of-param, of-type_name}
use Rattle.cc_first_faults.proofs.Expressions.{of-tree}
use Rattle.cc_first_faults.proofs.Induction.{OfDeclr, OfParams, OfSpec, OfTree, OfEnumr, OfMembers, OfParam, OfTypeName}
use Rattle.cc_first_faults.proofs.Structures.{of-spec, of-enumr, of-members}

module _ (target : Target) (roles : Roles) (defined : List Name) where
  pub every-declr : (x : Declr) → OfDeclr target roles defined x
  every-declr x = ind-Declr (OfDeclr target roles defined) (OfParams target roles defined) (OfSpec target roles defined) (OfTree target roles defined) (OfEnumr target roles defined) (OfMembers target roles defined) (OfParam target roles defined) (OfTypeName target roles defined) (of-declr target roles defined) (of-params target roles defined) (of-spec target roles defined) (of-tree target roles defined) (of-enumr target roles defined) (of-members target roles defined) (of-param target roles defined) (of-type_name target roles defined) x

  pub every-params : (x : Params) → OfParams target roles defined x
  every-params x = ind-Params (OfDeclr target roles defined) (OfParams target roles defined) (OfSpec target roles defined) (OfTree target roles defined) (OfEnumr target roles defined) (OfMembers target roles defined) (OfParam target roles defined) (OfTypeName target roles defined) (of-declr target roles defined) (of-params target roles defined) (of-spec target roles defined) (of-tree target roles defined) (of-enumr target roles defined) (of-members target roles defined) (of-param target roles defined) (of-type_name target roles defined) x

  pub every-spec : (x : Spec) → OfSpec target roles defined x
  every-spec x = ind-Spec (OfDeclr target roles defined) (OfParams target roles defined) (OfSpec target roles defined) (OfTree target roles defined) (OfEnumr target roles defined) (OfMembers target roles defined) (OfParam target roles defined) (OfTypeName target roles defined) (of-declr target roles defined) (of-params target roles defined) (of-spec target roles defined) (of-tree target roles defined) (of-enumr target roles defined) (of-members target roles defined) (of-param target roles defined) (of-type_name target roles defined) x

  pub every-tree : (x : Tree) → OfTree target roles defined x
  every-tree x = ind-Tree (OfDeclr target roles defined) (OfParams target roles defined) (OfSpec target roles defined) (OfTree target roles defined) (OfEnumr target roles defined) (OfMembers target roles defined) (OfParam target roles defined) (OfTypeName target roles defined) (of-declr target roles defined) (of-params target roles defined) (of-spec target roles defined) (of-tree target roles defined) (of-enumr target roles defined) (of-members target roles defined) (of-param target roles defined) (of-type_name target roles defined) x

  pub every-enumr : (x : Enumr) → OfEnumr target roles defined x
  every-enumr x = ind-Enumr (OfDeclr target roles defined) (OfParams target roles defined) (OfSpec target roles defined) (OfTree target roles defined) (OfEnumr target roles defined) (OfMembers target roles defined) (OfParam target roles defined) (OfTypeName target roles defined) (of-declr target roles defined) (of-params target roles defined) (of-spec target roles defined) (of-tree target roles defined) (of-enumr target roles defined) (of-members target roles defined) (of-param target roles defined) (of-type_name target roles defined) x

  pub every-members : (x : MemberDecl) → OfMembers target roles defined x
  every-members x = ind-MemberDecl (OfDeclr target roles defined) (OfParams target roles defined) (OfSpec target roles defined) (OfTree target roles defined) (OfEnumr target roles defined) (OfMembers target roles defined) (OfParam target roles defined) (OfTypeName target roles defined) (of-declr target roles defined) (of-params target roles defined) (of-spec target roles defined) (of-tree target roles defined) (of-enumr target roles defined) (of-members target roles defined) (of-param target roles defined) (of-type_name target roles defined) x

  pub every-param : (x : Param) → OfParam target roles defined x
  every-param x = ind-Param (OfDeclr target roles defined) (OfParams target roles defined) (OfSpec target roles defined) (OfTree target roles defined) (OfEnumr target roles defined) (OfMembers target roles defined) (OfParam target roles defined) (OfTypeName target roles defined) (of-declr target roles defined) (of-params target roles defined) (of-spec target roles defined) (of-tree target roles defined) (of-enumr target roles defined) (of-members target roles defined) (of-param target roles defined) (of-type_name target roles defined) x

  pub every-type_name : (x : TypeName) → OfTypeName target roles defined x
  every-type_name x = ind-TypeName (OfDeclr target roles defined) (OfParams target roles defined) (OfSpec target roles defined) (OfTree target roles defined) (OfEnumr target roles defined) (OfMembers target roles defined) (OfParam target roles defined) (OfTypeName target roles defined) (of-declr target roles defined) (of-params target roles defined) (of-spec target roles defined) (of-tree target roles defined) (of-enumr target roles defined) (of-members target roles defined) (of-param target roles defined) (of-type_name target roles defined) x
