-- Trees whose declared names and tags may name something, and of whose structures each has members, with names; and tokens (C99 6.4.2.1, 6.7.2.1, 6.7.5).
use Rattle.std.specs.Prelude.{Bool, true, false, ◌&&◌, List, [], ◌∷◌, Option, Some, None}
use Rattle.std.specs.List.{list_all}
use Rattle.cc_type.specs.CcLex.declared.token.Kind.{Kind}
use Rattle.cc_type.specs.CcLex.declared.token.Kind.TheVariants as kind
use Rattle.cc_type.specs.CcLex.declared.token.Token.{Token}
use Rattle.cc_tree.specs.Tokens.{Name}
use Rattle.cc_tree.specs.declared.at.At.{At}
use Rattle.cc_tree.specs.declared.tree.Declr.{Declr, fold-Declr}
use Rattle.cc_tree.specs.declared.tree.Declr.TheOpen as one
use Rattle.cc_tree.specs.declared.tree.Enumr.{Enumr, fold-Enumr}
use Rattle.cc_tree.specs.declared.tree.MemberDecl.{MemberDecl, fold-MemberDecl}
use Rattle.cc_tree.specs.declared.tree.Param.{Param, fold-Param}
use Rattle.cc_tree.specs.declared.tree.Params.{Params, fold-Params}
use Rattle.cc_tree.specs.declared.tree.Spec.{Spec, fold-Spec}
use Rattle.cc_tree.specs.declared.tree.Tree.{Tree, fold-Tree}
use Rattle.cc_tree.specs.declared.tree.TypeName.{TypeName, fold-TypeName}
use Rattle.cc_tree.specs.declared.unit.Decl.{Decl}
use Rattle.cc_tree.specs.declared.unit.First.{First}
use Rattle.cc_tree.specs.declared.unit.First.TheVariants as first
use Rattle.cc_tree.specs.declared.unit.Given.{Given, fold-Given}
use Rattle.cc_tree.specs.declared.unit.Given.TheOpen as one_given
use Rattle.cc_tree.specs.declared.unit.Init.{Init}
use Rattle.cc_tree.specs.declared.unit.Item.{Item}
use Rattle.cc_tree.specs.declared.unit.Item.TheVariants as item
use Rattle.cc_tree.specs.declared.unit.Line.{Line, fold-Line}
use Rattle.cc_tree.specs.declared.unit.Line.TheOpen as one_line
use Rattle.cc_tree.specs.declared.unit.Unit.{Unit as UnitTree}
use Rattle.cc_program.specs.CcWords.Names.{is_name}

-- ---- tokens

abbrev pub kind_named : Kind → Bool
kind_named (kind.Ident x) = is_name x
kind_named _ = true

abbrev pub tokens_named : List Token → Bool
tokens_named ts = list_all (λ (t : Token). kind_named t.kind) ts

-- ---- lists, and parts that may be missing

abbrev pub all_named : List (At Bool) → Bool
all_named xs = list_all (λ x. x.node) xs

abbrev pub part_named : Option (At Bool) → Bool
part_named None = true
part_named (Some x) = x.node

abbrev pub lists_named : Option (List (At Bool)) → Bool
lists_named None = true
lists_named (Some xs) = all_named xs

-- at least one
abbrev pub one_or_more : {A : Type 0} → List A → Bool
one_or_more [] = false
one_or_more (x ∷ xs) = true

-- declarations of members, where they are there (6.7.2.1)
abbrev pub content_named : Option (List (At Bool)) → Bool
content_named None = true
content_named (Some xs) = one_or_more xs && all_named xs

-- nodes of trees
abbrev pub each_named : {A : Type 0} → (A → Bool) → List (At A) → Bool
each_named test xs = list_all (λ x. test x.node) xs

abbrev pub maybe_named : {A : Type 0} → (A → Bool) → Option (At A) → Bool
maybe_named test None = true
maybe_named test (Some x) = test x.node

abbrev pub tag_named : Option Name → Bool
tag_named None = true
tag_named (Some x) = is_name x

-- ---- of a declarator: whether the names in it are names, and whether it has one of its own

abbrev pub HasNames : Type 0
HasNames = Bool × Bool

abbrev pub declr_names : one.Declr-F HasNames Bool Bool Bool Bool Bool Bool Bool → HasNames
declr_names one.Nothing = (true, false)
declr_names (one.Declr::Named x) = (is_name x, true)
declr_names (one.Declr::Paren d) = d.node
declr_names (one.Pointer words d) = d.node
declr_names (one.Array d n) = (d.node.0 && part_named n, d.node.1)
declr_names (one.Func d ps) = (d.node.0 && ps, d.node.1)

abbrev pub tree_names : one.Tree-F HasNames Bool Bool Bool Bool Bool Bool Bool → Bool
tree_names (one.Number n suffix) = true
tree_names (one.Tree::Named x) = true
tree_names (one.Character byte) = true
tree_names (one.Text bytes) = true
tree_names (one.Tree::Paren e) = e.node
tree_names (one.Comma a b) = a.node && b.node
tree_names (one.Assign o a b) = a.node && b.node
tree_names (one.Choose c a b) = c.node && (a.node && b.node)
tree_names (one.Binary o a b) = a.node && b.node
tree_names (one.Prefix o e) = e.node
tree_names (one.Postfix e o) = e.node
tree_names (one.SizeOf e) = e.node
tree_names (one.SizeOfType t) = t
tree_names (one.Extension e) = e.node
tree_names (one.Cast t e) = t && e.node
tree_names (one.Subscript a i) = a.node && i.node
tree_names (one.Call f args) = f.node && all_named args
tree_names (one.Member e x) = e.node
tree_names (one.Arrow e x) = e.node

abbrev pub params_names : one.Params-F HasNames Bool Bool Bool Bool Bool Bool Bool → Bool
params_names one.Empty = true
params_names one.Void = true
params_names (one.Many ps) = all_named ps

abbrev pub spec_names : one.Spec-F HasNames Bool Bool Bool Bool Bool Bool Bool → Bool
spec_names (one.Word x) = true
spec_names (one.Spec::Named x) = true
spec_names (one.Struct tag members front behind) = tag_named tag && content_named members
spec_names (one.Enum tag constants) = lists_named constants
spec_names (one.Attr a) = true

abbrev pub enumr_names : one.Enumr-F HasNames Bool Bool Bool Bool Bool Bool Bool → Bool
enumr_names c = part_named c.value

abbrev pub is_member_named : At HasNames → Bool
is_member_named d = d.node.0 && d.node.1

abbrev pub members_names : one.MemberDecl-F HasNames Bool Bool Bool Bool Bool Bool Bool → Bool
members_names d = all_named d.specs && (one_or_more d.declrs && list_all is_member_named d.declrs)

abbrev pub param_names : one.Param-F HasNames Bool Bool Bool Bool Bool Bool Bool → Bool
param_names p = all_named p.specs && p.declr.node.0

abbrev pub type_name_names : one.TypeName-F HasNames Bool Bool Bool Bool Bool Bool Bool → Bool
type_name_names t = all_named t.specs && t.declr.node.0

unfoldable pub tree_named : Tree → Bool
tree_named x = fold-Tree HasNames Bool Bool Bool Bool Bool Bool Bool declr_names params_names spec_names tree_names enumr_names members_names param_names type_name_names x

unfoldable pub declr_named : Declr → HasNames
declr_named x = fold-Declr HasNames Bool Bool Bool Bool Bool Bool Bool declr_names params_names spec_names tree_names enumr_names members_names param_names type_name_names x

unfoldable pub params_named : Params → Bool
params_named x = fold-Params HasNames Bool Bool Bool Bool Bool Bool Bool declr_names params_names spec_names tree_names enumr_names members_names param_names type_name_names x

unfoldable pub spec_named : Spec → Bool
spec_named x = fold-Spec HasNames Bool Bool Bool Bool Bool Bool Bool declr_names params_names spec_names tree_names enumr_names members_names param_names type_name_names x

unfoldable pub enumr_named : Enumr → Bool
enumr_named x = fold-Enumr HasNames Bool Bool Bool Bool Bool Bool Bool declr_names params_names spec_names tree_names enumr_names members_names param_names type_name_names x

unfoldable pub members_named : MemberDecl → Bool
members_named x = fold-MemberDecl HasNames Bool Bool Bool Bool Bool Bool Bool declr_names params_names spec_names tree_names enumr_names members_names param_names type_name_names x

unfoldable pub param_named : Param → Bool
param_named x = fold-Param HasNames Bool Bool Bool Bool Bool Bool Bool declr_names params_names spec_names tree_names enumr_names members_names param_names type_name_names x

unfoldable pub type_name_named : TypeName → Bool
type_name_named x = fold-TypeName HasNames Bool Bool Bool Bool Bool Bool Bool declr_names params_names spec_names tree_names enumr_names members_names param_names type_name_names x

-- ---- declarations: each of a declaration has a name (6.7)

abbrev pub member_named : Declr → Bool
member_named d = (declr_named d).0 && (declr_named d).1

abbrev pub given_names : one_given.Given-F Bool → Bool
given_names (one_given.One e) = tree_named e.node
given_names (one_given.Many gs) = all_named gs

-- an initialiser
unfoldable pub given_named : Given → Bool
given_named g = fold-Given Bool given_names g

abbrev pub init_named : Init → Bool
init_named i = member_named i.declr.node && maybe_named given_named i.value

abbrev pub decl_named : Decl → Bool
decl_named d = each_named spec_named d.specs && each_named init_named d.inits

-- ---- statements (6.8)

abbrev pub first_named : First → Bool
first_named (first.Decl d) = decl_named d
first_named (first.Expr e) = maybe_named tree_named e

abbrev pub line_names : one_line.Line-F Bool → Bool
line_names (one_line.Block ls) = all_named ls
line_names (one_line.Decl d) = decl_named d
line_names (one_line.Expr e) = maybe_named tree_named e
line_names (one_line.If e a b) = tree_named e.node && (a.node && part_named b)
line_names (one_line.While e a) = tree_named e.node && a.node
line_names (one_line.DoWhile a e) = tree_named e.node && a.node
line_names (one_line.For f test step a) = first_named f && (maybe_named tree_named test && (maybe_named tree_named step && a.node))
line_names (one_line.Switch e a) = tree_named e.node && a.node
line_names (one_line.Case e a) = tree_named e.node && a.node
line_names (one_line.Default a) = a.node
line_names one_line.Break = true
line_names one_line.Continue = true
line_names (one_line.Return e) = maybe_named tree_named e

unfoldable pub line_named : Line → Bool
line_named l = fold-Line Bool line_names l

-- ---- units (6.9)

abbrev pub item_named : Item → Bool
item_named (item.Decl d) = decl_named d
item_named (item.Func specs d attrs body) = each_named spec_named specs && (member_named d.node && each_named line_named body)

abbrev pub unit_named : UnitTree → Bool
unit_named u = each_named item_named u.items
