-- A twin of the code: the machine's turns on expressions (C99 6.5).
use Rattle.std.specs.Prelude.{ℕ, suc, Bool, true, false, ◌&&◌, List, [], ◌∷◌, ◌++◌, Option, Some, None, max, nat_le}
use Rattle.cc_lex.specs.declared.token.Kind.{Kind}
use Rattle.cc_lex.specs.declared.token.Kind.TheVariants as kind
use Rattle.cc_lex.specs.declared.token.Mark.{Mark}
use Rattle.cc_lex.specs.declared.token.Mark.TheVariants as m
use Rattle.cc_words.specs.declared.word.Word.{Word}
use Rattle.cc_words.specs.declared.word.Word.TheVariants as w
use Rattle.cc_tree.specs.declared.at.At.{At}
use Rattle.cc_tree.specs.declared.state.Control.TheVariants as control
use Rattle.cc_tree.specs.declared.state.Frame.TheVariants as frame
use Rattle.cc_tree.specs.declared.state.SpecsFrame.TheVariants as for_specs
use Rattle.cc_tree.specs.declared.state.Tall.{Tall}
use Rattle.cc_tree.specs.declared.state.TreeFrame.{TreeFrame}
use Rattle.cc_tree.specs.declared.state.TreeFrame.TheVariants as for_tree
use Rattle.cc_tree.specs.declared.state.Use.{Use}
use Rattle.cc_tree.specs.declared.state.Use.TheVariants as used
use Rattle.cc_tree.specs.declared.tree.Tree as tree
use Rattle.cc_tree.specs.declared.tree.Tree.{Tree}
use Rattle.cc_tree.specs.Operators.{comma_level, assignment_level, conditional_level, cast_level, unary_level, postfix_level, binary_level, is_assignment, operand_level}
use Rattle.cc_tree.specs.Reading.{◌>>=◌, wrong, after, eat, first_mark, name, same_mark}
use Rattle.cc_tree.specs.ReadTypes.{begins_specs, texts}
use Rattle.cc_tree.specs.Scopes.{Scope, is_typedef}
use Rattle.cc_tree.specs.Tokens.{Tokens, Name}
use Rattle.cc_tree.specs.Turns.{Turn, on, opens, made, tall}

-- an expression of this level is wanted
abbrev pub expr : ℕ → Tokens → Turn
expr level ts = opens (frame.Tree (for_tree.Operators level)) (control.Operand level) ts

-- the specifiers of a type name in parentheses
abbrev pub type_name : Use → ℕ → Tokens → Turn
type_name u n ts = opens (frame.Specs (for_specs.TypeName u n)) (control.Specs (tall [] 0)) ts

abbrev pub operand_name : Tokens → Tokens → ℕ → Name → Bool → Turn
operand_name all ts n x true = wrong all
operand_name all ts n x false = on (control.Postfix (made n (tree.Named x) 0)) ts

abbrev pub in_parens : Tokens → ℕ → Bool → Turn
in_parens ts n true = type_name used.Cast n ts
in_parens ts n false = opens (frame.Tree (for_tree.Paren n)) (control.Expr comma_level) ts

abbrev pub operand_paren : Scope → ℕ → Tokens → Tokens → ℕ → Bool → Turn
operand_paren scope level all ts n true = in_parens ts n (nat_le level cast_level && begins_specs scope ts)
operand_paren scope level all ts n false = wrong all

abbrev pub operand_mark : Scope → ℕ → Tokens → Tokens → ℕ → Mark → Option ℕ → Turn
operand_mark scope level all ts n o None = operand_paren scope level all ts n (same_mark o m.LParen)
operand_mark scope level all ts n o (Some k) = opens (frame.Tree (for_tree.Prefix n o)) (control.Expr k) ts

abbrev pub size_of_type : Tokens → Tokens → ℕ → Bool → Turn
size_of_type all ts n true = type_name used.SizeOf n ts
size_of_type all ts n false = opens (frame.Tree (for_tree.SizeOf n)) (control.Expr unary_level) all

abbrev pub size_of : Scope → Tokens → ℕ → Option Tokens → Turn
size_of scope all n None = opens (frame.Tree (for_tree.SizeOf n)) (control.Expr unary_level) all
size_of scope all n (Some ts) = size_of_type all ts n (begins_specs scope ts)

abbrev pub operand_word : Scope → Tokens → Tokens → ℕ → Word → Turn
operand_word scope all ts n w.Sizeof = size_of scope ts n (after m.LParen ts)
operand_word scope all ts n w.Extension = opens (frame.Tree (for_tree.Extension n)) (control.Expr cast_level) ts
operand_word scope all ts n _ = wrong all

abbrev pub operand_at : Scope → ℕ → Tokens → Tokens → ℕ → Kind → Turn
operand_at scope level all ts n (kind.Ident x) = operand_name all ts n x (is_typedef scope x)
operand_at scope level all ts n (kind.Number k f) = on (control.Postfix (made n (tree.Number k f) 0)) ts
operand_at scope level all ts n (kind.Character c) = on (control.Postfix (made n (tree.Character c) 0)) ts
operand_at scope level all ts n (kind.Text b) = on (control.Postfix (made n (tree.Text (texts all).0) 0)) (texts all).1
operand_at scope level all ts n (kind.Punct o) = operand_mark scope level all ts n o (operand_level o)
operand_at scope level all ts n (kind.Keyword x) = operand_word scope all ts n x

-- an operand, where an expression of this level is wanted
unfoldable pub operand : Scope → ℕ → Tokens → Turn
operand scope level [] = wrong []
operand scope level (t ∷ ts) = operand_at scope level (t ∷ ts) ts t.at t.kind

-- 6.5.2: what stands behind a postfix expression

-- a node over an expression, which begins where that begins
abbrev pub grows : Tall (At Tree) → Tree → ℕ → Tall (At Tree)
grows e node height = made e.node.at node (suc height)

abbrev pub call : Tall (At Tree) → Tokens → Option Tokens → Turn
call e ts (Some us) = on (control.Postfix (grows e (tree.Call e.node []) e.height)) us
call e ts None = opens (frame.Tree (for_tree.Call e [])) (control.Expr assignment_level) ts

abbrev pub member : Tall (At Tree) → Tokens → Turn
member e ts = name ts >>= λ x. on (control.Postfix (grows e (tree.Member e.node x.0) e.height)) x.1

abbrev pub arrow : Tall (At Tree) → Tokens → Turn
arrow e ts = name ts >>= λ x. on (control.Postfix (grows e (tree.Arrow e.node x.0) e.height)) x.1

abbrev pub postfix_by : Tall (At Tree) → Tokens → Tokens → Mark → Turn
postfix_by e all ts m.LBracket = opens (frame.Tree (for_tree.Subscript e)) (control.Expr comma_level) ts
postfix_by e all ts m.LParen = call e ts (after m.RParen ts)
postfix_by e all ts m.Dot = member e ts
postfix_by e all ts m.Arrow = arrow e ts
postfix_by e all ts m.PlusPlus = on (control.Postfix (grows e (tree.Postfix e.node m.PlusPlus) e.height)) ts
postfix_by e all ts m.MinusMinus = on (control.Postfix (grows e (tree.Postfix e.node m.MinusMinus) e.height)) ts
postfix_by e all ts _ = on (control.Tree postfix_level e) all

abbrev pub postfix_at : Tall (At Tree) → Tokens → Option (Mark × Tokens) → Turn
postfix_at e all None = on (control.Tree postfix_level e) all
postfix_at e all (Some o) = postfix_by e all o.1 o.0

unfoldable pub postfix : Tall (At Tree) → Tokens → Turn
postfix e ts = postfix_at e ts (first_mark ts)

-- 6.5.5 to 6.5.17: an operator of the level `least` or a tighter one, behind an expression of `level`

abbrev pub binary : ℕ → ℕ → Tall (At Tree) → Tokens → Tokens → Mark → ℕ → Bool → Turn
binary least level e all ts o k true = opens (frame.Tree (for_tree.Binary least o k e)) (control.Expr (suc k)) ts
binary least level e all ts o k false = on (control.Tree level e) all

abbrev pub choice : ℕ → ℕ → Tall (At Tree) → Tokens → Tokens → Bool → Turn
choice least level e all ts true = opens (frame.Tree (for_tree.Choice least e)) (control.Expr comma_level) ts
choice least level e all ts false = on (control.Tree level e) all

abbrev pub comma : ℕ → ℕ → Tall (At Tree) → Tokens → Tokens → Bool → Turn
comma least level e all ts true = opens (frame.Tree (for_tree.Comma least e)) (control.Expr assignment_level) ts
comma least level e all ts false = on (control.Tree level e) all

abbrev pub assign : ℕ → ℕ → Tall (At Tree) → Tokens → Tokens → Mark → Bool → Turn
assign least level e all ts o true = opens (frame.Tree (for_tree.Assign least o e)) (control.Expr assignment_level) ts
assign least level e all ts o false = on (control.Tree level e) all

abbrev pub other : ℕ → ℕ → Tall (At Tree) → Tokens → Tokens → Mark → Turn
other least level e all ts m.Question = choice least level e all ts (nat_le least conditional_level && nat_le (suc conditional_level) level)
other least level e all ts m.Comma = comma least level e all ts (nat_le least comma_level)
other least level e all ts o = assign least level e all ts o (is_assignment o && (nat_le least assignment_level && nat_le unary_level level))

abbrev pub operators_by : ℕ → ℕ → Tall (At Tree) → Tokens → Tokens → Mark → Option ℕ → Turn
operators_by least level e all ts o (Some k) = binary least level e all ts o k (nat_le least k && nat_le k level)
operators_by least level e all ts o None = other least level e all ts o

abbrev pub operators_at : ℕ → ℕ → Tall (At Tree) → Tokens → Option (Mark × Tokens) → Turn
operators_at least level e all None = on (control.Tree level e) all
operators_at least level e all (Some o) = operators_by least level e all o.1 o.0 (binary_level o.0)

unfoldable pub operators : ℕ → ℕ → Tall (At Tree) → Tokens → Turn
operators least level e ts = operators_at least level e ts (first_mark ts)

-- what waits for an expression gets it

abbrev pub operation : ℕ → ℕ → Tall (At Tree) → Tree → ℕ → Tokens → Turn
operation least level e node height ts = on (control.Operators least level (grows e node height)) ts

abbrev pub chosen : ℕ → Tall (At Tree) → Tall (At Tree) → Tokens → Turn
chosen least c a ts = eat m.Colon ts >>= λ us. opens (frame.Tree (for_tree.Otherwise least c a)) (control.Expr conditional_level) us

abbrev pub paren : ℕ → Tall (At Tree) → Tokens → Turn
paren n e ts = eat m.RParen ts >>= λ us. on (control.Postfix (made n (tree.Paren e.node) (suc e.height))) us

abbrev pub subscript : Tall (At Tree) → Tall (At Tree) → Tokens → Turn
subscript a i ts = eat m.RBracket ts >>= λ us. on (control.Postfix (grows a (tree.Subscript a.node i.node) (max a.height i.height))) us

-- the height of what is called is that of it and its arguments so far
abbrev pub argument_at : Tall (At Tree) → List (At Tree) → Tokens → Option Tokens → Turn
argument_at f es ts (Some us) = opens (frame.Tree (for_tree.Call f es)) (control.Expr assignment_level) us
argument_at f es ts None = eat m.RParen ts >>= λ us. on (control.Postfix (grows f (tree.Call f.node es) f.height)) us

abbrev pub argument : Tall (At Tree) → List (At Tree) → Tall (At Tree) → Tokens → Turn
argument f es e ts = argument_at (tall f.node (max f.height e.height)) (es ++ e.node ∷ []) ts (after m.Comma ts)

abbrev pub unary : ℕ → Tree → ℕ → Tokens → Turn
unary n node height ts = on (control.Tree unary_level (made n node (suc height))) ts

abbrev pub give_tree : ℕ → Tall (At Tree) → Tokens → TreeFrame → Turn
give_tree level e ts (for_tree.Operators least) = on (control.Operators least level e) ts
give_tree level e ts (for_tree.Binary least o k a) = operation least k a (tree.Binary o a.node e.node) (max a.height e.height) ts
give_tree level e ts (for_tree.Choice least c) = chosen least c e ts
give_tree level e ts (for_tree.Otherwise least c a) = operation least conditional_level c (tree.Choose c.node a.node e.node) (max c.height (max a.height e.height)) ts
give_tree level e ts (for_tree.Assign least o a) = operation least assignment_level a (tree.Assign o a.node e.node) (max a.height e.height) ts
give_tree level e ts (for_tree.Comma least a) = operation least comma_level a (tree.Comma a.node e.node) (max a.height e.height) ts
give_tree level e ts (for_tree.Paren n) = paren n e ts
give_tree level e ts (for_tree.Subscript a) = subscript a e ts
give_tree level e ts (for_tree.Call f es) = argument f es e ts
give_tree level e ts (for_tree.Prefix n o) = unary n (tree.Prefix o e.node) e.height ts
give_tree level e ts (for_tree.SizeOf n) = unary n (tree.SizeOf e.node) e.height ts
give_tree level e ts (for_tree.Extension n) = unary n (tree.Extension e.node) e.height ts
give_tree level e ts (for_tree.Cast n t) = on (control.Tree cast_level (made n (tree.Cast t.node e.node) (suc (max t.height e.height)))) ts
