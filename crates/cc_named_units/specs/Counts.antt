-- How much a tree can add to what is known: the names that its declarators declare, its parameters, specifiers of structures, strings and prefixes, and its declarations (C99 6.4.5, 6.5.3, 6.7, 6.7.2.1, 6.7.5).
use Rattle.std.specs.Prelude.{ℕ, suc, ◌+◌, List, [], ◌∷◌, Option, Some, None}
use Rattle.cc_tree.specs.declared.at.At.{At}
use Rattle.cc_tree.specs.declared.tree.Declr.{Declr, fold-Declr}
use Rattle.cc_tree.specs.declared.tree.Declr.TheOpen as one
use Rattle.cc_tree.specs.declared.tree.Enumr.{Enumr, fold-Enumr}
use Rattle.cc_tree.specs.declared.tree.MemberDecl.{MemberDecl, fold-MemberDecl}
use Rattle.cc_tree.specs.declared.tree.Param.{Param, fold-Param}
use Rattle.cc_tree.specs.declared.tree.Params.{Params, fold-Params}
use Rattle.cc_tree.specs.declared.tree.Spec.{Spec, fold-Spec}
use Rattle.cc_tree.specs.declared.tree.Tree.{Tree, fold-Tree}
use Rattle.cc_tree.specs.declared.tree.TypeName.{TypeName, fold-TypeName}
use Rattle.cc_tree.specs.declared.unit.Decl.{Decl}
use Rattle.cc_tree.specs.declared.unit.First.{First}
use Rattle.cc_tree.specs.declared.unit.First.TheVariants as first
use Rattle.cc_tree.specs.declared.unit.Given.{Given, fold-Given}
use Rattle.cc_tree.specs.declared.unit.Given.TheOpen as one_given
use Rattle.cc_tree.specs.declared.unit.Init.{Init}
use Rattle.cc_tree.specs.declared.unit.Item.{Item}
use Rattle.cc_tree.specs.declared.unit.Item.TheVariants as item
use Rattle.cc_tree.specs.declared.unit.Line.{Line, fold-Line}
use Rattle.cc_tree.specs.declared.unit.Line.TheOpen as one_line
use Rattle.cc_tree.specs.declared.unit.Unit.{Unit as UnitTree}

-- ---- lists, and parts that may be missing

-- of nodes of trees
abbrev pub each_count : {A : Type 0} → (A → ℕ) → List (At A) → ℕ
each_count count [] = 0
each_count count (x ∷ xs) = count x.node + each_count count xs

abbrev pub total : List (At ℕ) → ℕ
total xs = each_count (λ n. n) xs

abbrev pub part_total : Option (At ℕ) → ℕ
part_total None = 0
part_total (Some x) = x.node

-- a structure, which is completed where its members are there
abbrev pub structure_total : Option (List (At ℕ)) → ℕ
structure_total None = 1
structure_total (Some xs) = suc (suc (total xs))

abbrev pub lists_total : Option (List (At ℕ)) → ℕ
lists_total None = 0
lists_total (Some xs) = total xs

abbrev pub maybe_count : {A : Type 0} → (A → ℕ) → Option (At A) → ℕ
maybe_count count None = 0
maybe_count count (Some x) = count x.node

-- ---- expressions and types

-- its name, where it has one, and what its parts have
abbrev pub declr_counts : one.Declr-F ℕ ℕ ℕ ℕ ℕ ℕ ℕ ℕ → ℕ
declr_counts one.Nothing = 0
declr_counts (one.Declr::Named x) = 1
declr_counts (one.Declr::Paren d) = d.node
declr_counts (one.Pointer words d) = d.node
declr_counts (one.Array d n) = d.node + part_total n
declr_counts (one.Func d ps) = d.node + ps

-- a string is an object of its own, and a prefix may name a device
abbrev pub tree_counts : one.Tree-F ℕ ℕ ℕ ℕ ℕ ℕ ℕ ℕ → ℕ
tree_counts (one.Number n suffix) = 0
tree_counts (one.Tree::Named x) = 0
tree_counts (one.Character byte) = 0
tree_counts (one.Text bytes) = 1
tree_counts (one.Tree::Paren e) = e.node
tree_counts (one.Comma a b) = a.node + b.node
tree_counts (one.Assign o a b) = a.node + b.node
tree_counts (one.Choose c a b) = c.node + (a.node + b.node)
tree_counts (one.Binary o a b) = a.node + b.node
tree_counts (one.Prefix o e) = suc e.node
tree_counts (one.Postfix e o) = e.node
tree_counts (one.SizeOf e) = e.node
tree_counts (one.SizeOfType t) = t
tree_counts (one.Extension e) = e.node
tree_counts (one.Cast t e) = t + e.node
tree_counts (one.Subscript a i) = a.node + i.node
tree_counts (one.Call f args) = f.node + total args
tree_counts (one.Member e x) = e.node
tree_counts (one.Arrow e x) = e.node

abbrev pub params_counts : one.Params-F ℕ ℕ ℕ ℕ ℕ ℕ ℕ ℕ → ℕ
params_counts one.Empty = 0
params_counts one.Void = 0
params_counts (one.Many ps) = total ps

abbrev pub spec_counts : one.Spec-F ℕ ℕ ℕ ℕ ℕ ℕ ℕ ℕ → ℕ
spec_counts (one.Word x) = 0
spec_counts (one.Spec::Named x) = 0
spec_counts (one.Struct tag members front behind) = structure_total members
spec_counts (one.Enum tag constants) = lists_total constants
spec_counts (one.Attr a) = 0

abbrev pub enumr_counts : one.Enumr-F ℕ ℕ ℕ ℕ ℕ ℕ ℕ ℕ → ℕ
enumr_counts c = part_total c.value

abbrev pub members_counts : one.MemberDecl-F ℕ ℕ ℕ ℕ ℕ ℕ ℕ ℕ → ℕ
members_counts d = total d.specs + total d.declrs

-- with a name or without one, it is one more
abbrev pub param_counts : one.Param-F ℕ ℕ ℕ ℕ ℕ ℕ ℕ ℕ → ℕ
param_counts p = suc (total p.specs + p.declr.node)

abbrev pub type_name_counts : one.TypeName-F ℕ ℕ ℕ ℕ ℕ ℕ ℕ ℕ → ℕ
type_name_counts t = total t.specs + t.declr.node

unfoldable pub tree_count : Tree → ℕ
tree_count x = fold-Tree ℕ ℕ ℕ ℕ ℕ ℕ ℕ ℕ declr_counts params_counts spec_counts tree_counts enumr_counts members_counts param_counts type_name_counts x

unfoldable pub declr_count : Declr → ℕ
declr_count x = fold-Declr ℕ ℕ ℕ ℕ ℕ ℕ ℕ ℕ declr_counts params_counts spec_counts tree_counts enumr_counts members_counts param_counts type_name_counts x

unfoldable pub params_count : Params → ℕ
params_count x = fold-Params ℕ ℕ ℕ ℕ ℕ ℕ ℕ ℕ declr_counts params_counts spec_counts tree_counts enumr_counts members_counts param_counts type_name_counts x

unfoldable pub spec_count : Spec → ℕ
spec_count x = fold-Spec ℕ ℕ ℕ ℕ ℕ ℕ ℕ ℕ declr_counts params_counts spec_counts tree_counts enumr_counts members_counts param_counts type_name_counts x

unfoldable pub enumr_count : Enumr → ℕ
enumr_count x = fold-Enumr ℕ ℕ ℕ ℕ ℕ ℕ ℕ ℕ declr_counts params_counts spec_counts tree_counts enumr_counts members_counts param_counts type_name_counts x

unfoldable pub members_count : MemberDecl → ℕ
members_count x = fold-MemberDecl ℕ ℕ ℕ ℕ ℕ ℕ ℕ ℕ declr_counts params_counts spec_counts tree_counts enumr_counts members_counts param_counts type_name_counts x

unfoldable pub param_count : Param → ℕ
param_count x = fold-Param ℕ ℕ ℕ ℕ ℕ ℕ ℕ ℕ declr_counts params_counts spec_counts tree_counts enumr_counts members_counts param_counts type_name_counts x

unfoldable pub type_name_count : TypeName → ℕ
type_name_count x = fold-TypeName ℕ ℕ ℕ ℕ ℕ ℕ ℕ ℕ declr_counts params_counts spec_counts tree_counts enumr_counts members_counts param_counts type_name_counts x

-- ---- declarations (6.7)

abbrev pub given_counts : one_given.Given-F ℕ → ℕ
given_counts (one_given.One e) = tree_count e.node
given_counts (one_given.Many gs) = total gs

-- an initialiser
unfoldable pub given_count : Given → ℕ
given_count g = fold-Given ℕ given_counts g

abbrev pub init_count : Init → ℕ
init_count i = declr_count i.declr.node + maybe_count given_count i.value

-- its tag may be one more, where it stands alone
abbrev pub decl_count : Decl → ℕ
decl_count d = suc (each_count spec_count d.specs + each_count init_count d.inits)

-- ---- statements (6.8)

abbrev pub first_count : First → ℕ
first_count (first.Decl d) = decl_count d
first_count (first.Expr e) = maybe_count tree_count e

abbrev pub line_counts : one_line.Line-F ℕ → ℕ
line_counts (one_line.Block ls) = total ls
line_counts (one_line.Decl d) = decl_count d
line_counts (one_line.Expr e) = maybe_count tree_count e
line_counts (one_line.If e a b) = tree_count e.node + (a.node + part_total b)
line_counts (one_line.While e a) = tree_count e.node + a.node
line_counts (one_line.DoWhile a e) = tree_count e.node + a.node
line_counts (one_line.For f test step a) = first_count f + (maybe_count tree_count test + (maybe_count tree_count step + a.node))
line_counts (one_line.Switch e a) = tree_count e.node + a.node
line_counts (one_line.Case e a) = tree_count e.node + a.node
line_counts (one_line.Default a) = a.node
line_counts one_line.Break = 0
line_counts one_line.Continue = 0
line_counts (one_line.Return e) = maybe_count tree_count e

unfoldable pub line_count : Line → ℕ
line_count l = fold-Line ℕ line_counts l

-- ---- units (6.9)

abbrev pub item_count : Item → ℕ
item_count (item.Decl d) = decl_count d
item_count (item.Func specs d attrs body) = each_count spec_count specs + (declr_count d.node + each_count line_count body)

abbrev pub unit_count : UnitTree → ℕ
unit_count u = each_count item_count u.items
