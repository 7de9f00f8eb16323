-- Trees whose numbers fit 64 bits, as those of each text do (C99 6.4.4.1, 5).
use Rattle.std.specs.Prelude.{◌^◌, Bool, true, ◌&&◌, nat_lt, List, Option, Some, None}
use Rattle.std.specs.List.{list_all}
use Rattle.cc_tree.specs.declared.at.At.{At}
use Rattle.cc_tree.specs.declared.tree.Declr.{Declr, fold-Declr}
use Rattle.cc_tree.specs.declared.tree.Declr.TheOpen as one
use Rattle.cc_tree.specs.declared.tree.Enumr.{Enumr, fold-Enumr}
use Rattle.cc_tree.specs.declared.tree.MemberDecl.{MemberDecl, fold-MemberDecl}
use Rattle.cc_tree.specs.declared.tree.Param.{Param, fold-Param}
use Rattle.cc_tree.specs.declared.tree.Params.{Params, fold-Params}
use Rattle.cc_tree.specs.declared.tree.Spec.{Spec, fold-Spec}
use Rattle.cc_tree.specs.declared.tree.Tree.{Tree, fold-Tree}
use Rattle.cc_tree.specs.declared.tree.TypeName.{TypeName, fold-TypeName}

abbrev pub all_fit : List (At Bool) → Bool
all_fit xs = list_all (λ x. x.node) xs

abbrev pub one_fits : Option (At Bool) → Bool
one_fits None = true
one_fits (Some x) = x.node

abbrev pub lists_fit : Option (List (At Bool)) → Bool
lists_fit None = true
lists_fit (Some xs) = all_fit xs

abbrev pub tree_fits : one.Tree-F Bool Bool Bool Bool Bool Bool Bool Bool → Bool
tree_fits (one.Number n suffix) = nat_lt n (2 ^ 64)
tree_fits (one.Tree::Named x) = true
tree_fits (one.Character byte) = true
tree_fits (one.Text bytes) = true
tree_fits (one.Tree::Paren e) = e.node
tree_fits (one.Comma a b) = a.node && b.node
tree_fits (one.Assign o a b) = a.node && b.node
tree_fits (one.Choose c a b) = c.node && (a.node && b.node)
tree_fits (one.Binary o a b) = a.node && b.node
tree_fits (one.Prefix o e) = e.node
tree_fits (one.Postfix e o) = e.node
tree_fits (one.SizeOf e) = e.node
tree_fits (one.SizeOfType t) = t
tree_fits (one.Extension e) = e.node
tree_fits (one.Cast t e) = t && e.node
tree_fits (one.Subscript a i) = a.node && i.node
tree_fits (one.Call f args) = f.node && all_fit args
tree_fits (one.Member e x) = e.node
tree_fits (one.Arrow e x) = e.node

abbrev pub declr_fits : one.Declr-F Bool Bool Bool Bool Bool Bool Bool Bool → Bool
declr_fits one.Nothing = true
declr_fits (one.Declr::Named x) = true
declr_fits (one.Declr::Paren d) = d.node
declr_fits (one.Pointer words d) = d.node
declr_fits (one.Array d n) = d.node && one_fits n
declr_fits (one.Func d ps) = d.node && ps

abbrev pub params_fit : one.Params-F Bool Bool Bool Bool Bool Bool Bool Bool → Bool
params_fit one.Empty = true
params_fit one.Void = true
params_fit (one.Many ps) = all_fit ps

abbrev pub spec_fits : one.Spec-F Bool Bool Bool Bool Bool Bool Bool Bool → Bool
spec_fits (one.Word x) = true
spec_fits (one.Spec::Named x) = true
spec_fits (one.Struct tag members front behind) = lists_fit members
spec_fits (one.Enum tag constants) = lists_fit constants
spec_fits (one.Attr a) = true

abbrev pub enumr_fits : one.Enumr-F Bool Bool Bool Bool Bool Bool Bool Bool → Bool
enumr_fits c = one_fits c.value

abbrev pub members_fit : one.MemberDecl-F Bool Bool Bool Bool Bool Bool Bool Bool → Bool
members_fit d = all_fit d.specs && all_fit d.declrs

abbrev pub param_fits : one.Param-F Bool Bool Bool Bool Bool Bool Bool Bool → Bool
param_fits p = all_fit p.specs && p.declr.node

abbrev pub type_name_fits : one.TypeName-F Bool Bool Bool Bool Bool Bool Bool Bool → Bool
type_name_fits t = all_fit t.specs && t.declr.node

unfoldable pub fits : Tree → Bool
fits x = fold-Tree Bool Bool Bool Bool Bool Bool Bool Bool declr_fits params_fit spec_fits tree_fits enumr_fits members_fit param_fits type_name_fits x

unfoldable pub declr_in_range : Declr → Bool
declr_in_range x = fold-Declr Bool Bool Bool Bool Bool Bool Bool Bool declr_fits params_fit spec_fits tree_fits enumr_fits members_fit param_fits type_name_fits x

unfoldable pub params_in_range : Params → Bool
params_in_range x = fold-Params Bool Bool Bool Bool Bool Bool Bool Bool declr_fits params_fit spec_fits tree_fits enumr_fits members_fit param_fits type_name_fits x

unfoldable pub spec_in_range : Spec → Bool
spec_in_range x = fold-Spec Bool Bool Bool Bool Bool Bool Bool Bool declr_fits params_fit spec_fits tree_fits enumr_fits members_fit param_fits type_name_fits x

unfoldable pub enumr_in_range : Enumr → Bool
enumr_in_range x = fold-Enumr Bool Bool Bool Bool Bool Bool Bool Bool declr_fits params_fit spec_fits tree_fits enumr_fits members_fit param_fits type_name_fits x

unfoldable pub members_in_range : MemberDecl → Bool
members_in_range x = fold-MemberDecl Bool Bool Bool Bool Bool Bool Bool Bool declr_fits params_fit spec_fits tree_fits enumr_fits members_fit param_fits type_name_fits x

unfoldable pub param_in_range : Param → Bool
param_in_range x = fold-Param Bool Bool Bool Bool Bool Bool Bool Bool declr_fits params_fit spec_fits tree_fits enumr_fits members_fit param_fits type_name_fits x

unfoldable pub type_name_in_range : TypeName → Bool
type_name_in_range x = fold-TypeName Bool Bool Bool Bool Bool Bool Bool Bool declr_fits params_fit spec_fits tree_fits enumr_fits members_fit param_fits type_name_fits x
