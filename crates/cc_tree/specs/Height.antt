-- The height of a tree: how many nodes stand on its longest branch. Operators, calls, subscripts, members,
-- casts, parentheses, lists of values, parts of declarators and statements are nodes. Names, constants and
-- declarations are none, and neither are the body of a function and a structure.
use Rattle.std.specs.Prelude.{ℕ, suc, List, [], ◌∷◌, Option, Some, None, max}
use Rattle.cc_tree.specs.declared.at.At.{At}
use Rattle.cc_tree.specs.declared.tree.Tree.{Tree, fold-Tree}
use Rattle.cc_tree.specs.declared.tree.Declr.{Declr, fold-Declr}
use Rattle.cc_tree.specs.declared.tree.Spec.{Spec, fold-Spec}
use Rattle.cc_tree.specs.declared.tree.Params.{Params, fold-Params}
use Rattle.cc_tree.specs.declared.tree.TypeName.{TypeName, fold-TypeName}
use Rattle.cc_tree.specs.declared.tree.Param.{Param, fold-Param}
use Rattle.cc_tree.specs.declared.tree.MemberDecl.{MemberDecl, fold-MemberDecl}
use Rattle.cc_tree.specs.declared.tree.Enumr.{Enumr, fold-Enumr}
use Rattle.cc_tree.specs.declared.tree.Declr.TheOpen as one
use Rattle.cc_tree.specs.declared.unit.Decl.{Decl}
use Rattle.cc_tree.specs.declared.unit.First.{First}
use Rattle.cc_tree.specs.declared.unit.First.TheVariants as first
use Rattle.cc_tree.specs.declared.unit.Given.{Given, fold-Given}
use Rattle.cc_tree.specs.declared.unit.Given.TheOpen as one_given
use Rattle.cc_tree.specs.declared.unit.Init.{Init}
use Rattle.cc_tree.specs.declared.unit.Item.{Item}
use Rattle.cc_tree.specs.declared.unit.Item.TheVariants as item
use Rattle.cc_tree.specs.declared.unit.Line.{Line, fold-Line}
use Rattle.cc_tree.specs.declared.unit.Line.TheOpen as one_line
use Rattle.cc_tree.specs.declared.unit.Unit.{Unit as UnitTree}

abbrev pub of_list : List (At ℕ) → ℕ
of_list [] = 0
of_list (x ∷ xs) = max x.node (of_list xs)

abbrev pub of_option : Option (At ℕ) → ℕ
of_option None = 0
of_option (Some x) = x.node

abbrev pub of_lists : Option (List (At ℕ)) → ℕ
of_lists None = 0
of_lists (Some xs) = of_list xs

abbrev pub tree_height : one.Tree-F ℕ ℕ ℕ ℕ ℕ ℕ ℕ ℕ → ℕ
tree_height (one.Tree::Named x) = 0
tree_height (one.Number n s) = 0
tree_height (one.Character c) = 0
tree_height (one.Text b) = 0
tree_height (one.Tree::Paren e) = suc e.node
tree_height (one.Comma a b) = suc (max a.node b.node)
tree_height (one.Assign m a b) = suc (max a.node b.node)
tree_height (one.Choose a b c) = suc (max a.node (max b.node c.node))
tree_height (one.Binary m a b) = suc (max a.node b.node)
tree_height (one.Prefix m e) = suc e.node
tree_height (one.Postfix e m) = suc e.node
tree_height (one.SizeOf e) = suc e.node
tree_height (one.SizeOfType t) = suc t
tree_height (one.Extension e) = suc e.node
tree_height (one.Cast t e) = suc (max t e.node)
tree_height (one.Subscript a b) = suc (max a.node b.node)
tree_height (one.Call f args) = suc (max f.node (of_list args))
tree_height (one.Member e x) = suc e.node
tree_height (one.Arrow e x) = suc e.node

abbrev pub declr_height : one.Declr-F ℕ ℕ ℕ ℕ ℕ ℕ ℕ ℕ → ℕ
declr_height one.Nothing = 0
declr_height (one.Declr::Named x) = 0
declr_height (one.Declr::Paren d) = suc d.node
declr_height (one.Pointer q d) = suc d.node
declr_height (one.Array d e) = suc (max d.node (of_option e))
declr_height (one.Func d p) = suc (max d.node p)

abbrev pub params_height : one.Params-F ℕ ℕ ℕ ℕ ℕ ℕ ℕ ℕ → ℕ
params_height one.Empty = 0
params_height one.Void = 0
params_height (one.Many ps) = of_list ps

abbrev pub spec_height : one.Spec-F ℕ ℕ ℕ ℕ ℕ ℕ ℕ ℕ → ℕ
spec_height (one.Word w) = 0
spec_height (one.Spec::Named x) = 0
spec_height (one.Struct x ms a b) = of_lists ms
spec_height (one.Enum x es) = of_lists es
spec_height (one.Attr a) = 0

abbrev pub enumr_height : one.Enumr-F ℕ ℕ ℕ ℕ ℕ ℕ ℕ ℕ → ℕ
enumr_height e = of_option e.value

abbrev pub member_height : one.MemberDecl-F ℕ ℕ ℕ ℕ ℕ ℕ ℕ ℕ → ℕ
member_height m = max (of_list m.specs) (of_list m.declrs)

abbrev pub param_height : one.Param-F ℕ ℕ ℕ ℕ ℕ ℕ ℕ ℕ → ℕ
param_height p = max (of_list p.specs) p.declr.node

abbrev pub type_name_height : one.TypeName-F ℕ ℕ ℕ ℕ ℕ ℕ ℕ ℕ → ℕ
type_name_height t = max (of_list t.specs) t.declr.node

abbrev pub height : Tree → ℕ
height t = fold-Tree ℕ ℕ ℕ ℕ ℕ ℕ ℕ ℕ declr_height params_height spec_height tree_height enumr_height member_height param_height type_name_height t

abbrev pub height_of_declr : Declr → ℕ
height_of_declr d = fold-Declr ℕ ℕ ℕ ℕ ℕ ℕ ℕ ℕ declr_height params_height spec_height tree_height enumr_height member_height param_height type_name_height d

abbrev pub height_of_spec : Spec → ℕ
height_of_spec s = fold-Spec ℕ ℕ ℕ ℕ ℕ ℕ ℕ ℕ declr_height params_height spec_height tree_height enumr_height member_height param_height type_name_height s

abbrev pub height_of_params : Params → ℕ
height_of_params ps = fold-Params ℕ ℕ ℕ ℕ ℕ ℕ ℕ ℕ declr_height params_height spec_height tree_height enumr_height member_height param_height type_name_height ps

abbrev pub height_of_type : TypeName → ℕ
height_of_type t = fold-TypeName ℕ ℕ ℕ ℕ ℕ ℕ ℕ ℕ declr_height params_height spec_height tree_height enumr_height member_height param_height type_name_height t

abbrev pub height_of_param : Param → ℕ
height_of_param p = fold-Param ℕ ℕ ℕ ℕ ℕ ℕ ℕ ℕ declr_height params_height spec_height tree_height enumr_height member_height param_height type_name_height p

abbrev pub height_of_member : MemberDecl → ℕ
height_of_member d = fold-MemberDecl ℕ ℕ ℕ ℕ ℕ ℕ ℕ ℕ declr_height params_height spec_height tree_height enumr_height member_height param_height type_name_height d

abbrev pub height_of_enumr : Enumr → ℕ
height_of_enumr e = fold-Enumr ℕ ℕ ℕ ℕ ℕ ℕ ℕ ℕ declr_height params_height spec_height tree_height enumr_height member_height param_height type_name_height e

-- the greatest of some heights
abbrev pub heights : {A : Type 0} → (A → ℕ) → List (At A) → ℕ
heights of [] = 0
heights of (x ∷ xs) = max (of x.node) (heights of xs)

abbrev pub specs_height : List (At Spec) → ℕ
specs_height specs = heights height_of_spec specs

abbrev pub maybe_height : Option (At Tree) → ℕ
maybe_height None = 0
maybe_height (Some e) = height e.node

abbrev pub given_layer : one_given.Given-F ℕ → ℕ
given_layer (one_given.One e) = height e.node
given_layer (one_given.Many gs) = suc (of_list gs)

abbrev pub given_height : Given → ℕ
given_height g = fold-Given ℕ given_layer g

abbrev pub value_height : Option (At Given) → ℕ
value_height None = 0
value_height (Some g) = given_height g.node

abbrev pub init_height : Init → ℕ
init_height i = max (height_of_declr i.declr.node) (value_height i.value)

abbrev pub decl_height : Decl → ℕ
decl_height d = max (specs_height d.specs) (heights init_height d.inits)

abbrev pub first_height : First → ℕ
first_height (first.Decl d) = decl_height d
first_height (first.Expr e) = maybe_height e

abbrev pub line_layer : one_line.Line-F ℕ → ℕ
line_layer (one_line.Block ls) = suc (of_list ls)
line_layer (one_line.Decl d) = decl_height d
line_layer (one_line.Expr e) = suc (maybe_height e)
line_layer (one_line.If c a b) = suc (max (height c.node) (max a.node (of_option b)))
line_layer (one_line.While c a) = suc (max (height c.node) a.node)
line_layer (one_line.DoWhile a c) = suc (max a.node (height c.node))
line_layer (one_line.For f t s a) = suc (max (first_height f) (max (maybe_height t) (max (maybe_height s) a.node)))
line_layer (one_line.Switch c a) = suc (max (height c.node) a.node)
line_layer (one_line.Case c a) = suc (max (height c.node) a.node)
line_layer (one_line.Default a) = suc a.node
line_layer one_line.Break = 1
line_layer one_line.Continue = 1
line_layer (one_line.Return e) = suc (maybe_height e)

abbrev pub line_height : Line → ℕ
line_height l = fold-Line ℕ line_layer l

abbrev pub item_height : Item → ℕ
item_height (item.Decl d) = decl_height d
item_height (item.Func specs d attrs body) = max (specs_height specs) (max (height_of_declr d.node) (heights line_height body))

-- the height of a sentence
abbrev pub unit_height : UnitTree → ℕ
unit_height u = heights item_height u.items

-- up to this height a sentence is read
abbrev pub greatest_height : ℕ
greatest_height = 128
