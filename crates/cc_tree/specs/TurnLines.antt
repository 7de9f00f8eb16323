-- A twin of the code: the machine's turns on declarations, statements and translation units (C99 6.7 to 6.9).
use Rattle.std.specs.Prelude.{ℕ, suc, Bool, true, false, ◌&&◌, List, [], ◌∷◌, ◌++◌, Option, Some, None, Ok, Err, length, max, is_some}
use Rattle.cc_lex.specs.declared.token.Kind.{Kind}
use Rattle.cc_lex.specs.declared.token.Kind.TheVariants as kind
use Rattle.cc_lex.specs.declared.token.Mark.{Mark}
use Rattle.cc_lex.specs.declared.token.Mark.TheVariants as m
use Rattle.cc_words.specs.declared.word.Word.{Word}
use Rattle.cc_words.specs.declared.word.Word.TheVariants as w
use Rattle.cc_tree.specs.declared.at.At.{At}
use Rattle.cc_tree.specs.declared.state.Block.{Block}
use Rattle.cc_tree.specs.declared.state.Control.TheVariants as control
use Rattle.cc_tree.specs.declared.state.Declaration.{Declaration}
use Rattle.cc_tree.specs.declared.state.DeclrFrame.{DeclrFrame}
use Rattle.cc_tree.specs.declared.state.DeclrFrame.TheVariants as for_declr
use Rattle.cc_tree.specs.declared.state.For.{For}
use Rattle.cc_tree.specs.declared.state.Frame.{Frame}
use Rattle.cc_tree.specs.declared.state.Frame.TheVariants as frame
use Rattle.cc_tree.specs.declared.state.Items.{Items}
use Rattle.cc_tree.specs.declared.state.LineFrame.{LineFrame}
use Rattle.cc_tree.specs.declared.state.LineFrame.TheVariants as for_line
use Rattle.cc_tree.specs.declared.state.PartFrame.{PartFrame}
use Rattle.cc_tree.specs.declared.state.PartFrame.TheVariants as for_part
use Rattle.cc_tree.specs.declared.state.Scoping.{Scoping}
use Rattle.cc_tree.specs.declared.state.Scoping.TheVariants as scoping
use Rattle.cc_tree.specs.declared.state.SpecsFrame.{SpecsFrame}
use Rattle.cc_tree.specs.declared.state.SpecsFrame.TheVariants as for_specs
use Rattle.cc_tree.specs.declared.state.Tall.{Tall}
use Rattle.cc_tree.specs.declared.state.ValueFrame.{ValueFrame}
use Rattle.cc_tree.specs.declared.state.ValueFrame.TheVariants as for_value
use Rattle.cc_tree.specs.declared.tree.Attr.{Attr}
use Rattle.cc_tree.specs.declared.tree.Declr as declr
use Rattle.cc_tree.specs.declared.tree.Declr.{Declr}
use Rattle.cc_tree.specs.declared.tree.Tree.{Tree}
use Rattle.cc_tree.specs.declared.unit.Decl.{Decl}
use Rattle.cc_tree.specs.declared.unit.First.{First}
use Rattle.cc_tree.specs.declared.unit.First.TheVariants as first
use Rattle.cc_tree.specs.declared.unit.Given as given
use Rattle.cc_tree.specs.declared.unit.Given.{Given}
use Rattle.cc_tree.specs.declared.unit.Init.{Init}
use Rattle.cc_tree.specs.declared.unit.Item.{Item}
use Rattle.cc_tree.specs.declared.unit.Item.TheVariants as item
use Rattle.cc_tree.specs.declared.unit.Line as line
use Rattle.cc_tree.specs.declared.unit.Line.{Line}
use Rattle.cc_tree.specs.Operators.{comma_level, assignment_level, conditional_level}
use Rattle.cc_tree.specs.Reading.{◌>>=◌, wrong, after, eat, begins_with}
use Rattle.cc_tree.specs.ReadTypes.{begins_specs, attrs}
use Rattle.cc_tree.specs.Scopes.{Scope, name_of, declares_types}
use Rattle.cc_tree.specs.Terms.{is_nothing}
use Rattle.cc_tree.specs.Tokens.{Tokens, Name, offset}
use Rattle.cc_tree.specs.Turns.{Turn, on, opens, made, tall}
use Rattle.cc_tree.specs.TurnTrees as trees
use Rattle.cc_tree.specs.TurnTypes as types
use Rattle.cc_tree.specs.TurnTypes.{Specs}

-- goes on with other typedef names
abbrev pub scoped : Scoping → Turn → Turn
scoped s (Err e) = Err e
scoped s (Ok t) = Ok (record { frame = t.frame; control = t.control; rest = t.rest; scoping = s })

-- initialisers, 6.7.8

abbrev pub value_by : Tokens → Option Tokens → Turn
value_by ts None = opens (frame.Part for_part.Value) (control.Expr assignment_level) ts
value_by ts (Some us) = opens (frame.Value (for_value.Many (offset ts) (tall [] 0))) control.Value us

unfoldable pub value : Tokens → Turn
value ts = value_by ts (after m.LBrace ts)

abbrev pub close_values : ℕ → Tall (List (At Given)) → Tokens → Turn
close_values n gs ts = eat m.RBrace ts >>= λ us. on (control.HaveValue (made n (given.Many gs.node) (suc gs.height))) us

abbrev pub behind_comma : ℕ → Tall (List (At Given)) → Tokens → Bool → Turn
behind_comma n gs ts true = close_values n gs ts
behind_comma n gs ts false = opens (frame.Value (for_value.Many n gs)) control.Value ts

abbrev pub values_by : ℕ → Tall (List (At Given)) → Tokens → Option Tokens → Turn
values_by n gs ts None = close_values n gs ts
values_by n gs ts (Some us) = behind_comma n gs us (begins_with m.RBrace us)

-- one value more in braces
abbrev pub values : ℕ → Tall (List (At Given)) → Tall (At Given) → Tokens → Turn
values n gs g ts = values_by n (tall (gs.node ++ g.node ∷ []) (max gs.height g.height)) ts (after m.Comma ts)

-- declarations, 6.7

abbrev pub declaration : Bool → Tokens → Turn
declaration outside ts = opens (frame.Specs (for_specs.Decl outside (offset ts))) (control.Specs (tall [] 0)) ts

abbrev pub with_init : Declaration → At Declr → List (At Attr) → Option (At Given) → ℕ → Declaration
with_init d e a v height = record {
  outside = d.outside;
  at = d.at;
  specs = d.specs;
  inits = d.inits ++ record { at = e.at; node = record { declr = e; attrs = a; value = v } } ∷ [];
  height = max d.height height;
}

abbrev pub with_height : Declaration → ℕ → Declaration
with_height d height = record { outside = d.outside; at = d.at; specs = d.specs; inits = d.inits; height = max d.height height }

-- what waits for the value of a declarator, or the declarators with this one more
abbrev pub init_value : Declaration → Tall (At Declr) → List (At Attr) → Tokens → Option Tokens → Turn
init_value d e a ts (Some us) = opens (frame.Value (for_value.Init (with_height d e.height) e.node a)) control.Value us
init_value d e a ts None = on (control.Inits (with_init d e.node a None e.height)) ts

abbrev pub declared : Bool → Name → Scoping
declared true x = scoping.Declares x
declared false x = scoping.Same

abbrev pub init : Declaration → Tall (At Declr) → List (At Attr) → Name → Tokens → Turn
init d e a x ts = scoped (declared (declares_types d.specs) x) (init_value d e a ts (after m.Assign ts))

abbrev pub no_init : List (At Init) → Bool
no_init [] = true
no_init (i ∷ is) = false

-- a function's body
abbrev pub body : Scope → Declaration → Tall (At Declr) → List (At Attr) → Tokens → Turn
body scope d e a ts = opens (frame.Body (record { at = d.at; specs = d.specs; declr = e.node; attrs = a; height = max d.height e.height }))
    (control.Block (record { body = true; scope = length scope; at = offset ts; lines = []; height = 0 })) ts

abbrev pub init_or_body : Scope → Declaration → Tall (At Declr) → List (At Attr) → Name → Tokens → Option Tokens → Bool → Turn
init_or_body scope d e a x ts (Some us) true = body scope d e a us
init_or_body scope d e a x ts _ _ = init d e a x ts

abbrev pub declr_attrs : Scope → Declaration → Tall (At Declr) → Name → Tokens → Turn
declr_attrs scope d e x ts = attrs ts >>= λ a. init_or_body scope d e a.0 x a.1 (after m.LBrace a.1) (d.outside && no_init d.inits)

-- behind a declarator of a declaration
abbrev pub declr_done : Scope → Declaration → Tall (At Declr) → Tokens → Option Name → Turn
declr_done scope d e ts None = wrong ts
declr_done scope d e ts (Some x) = declr_attrs scope d e x ts

abbrev pub have_decl : Declaration → Tokens → Turn
have_decl d ts = on (control.HaveDecl d.at (tall (record { specs = d.specs; inits = d.inits }) d.height)) ts

abbrev pub inits_by : Declaration → Tokens → Option Tokens → Turn
inits_by d ts (Some us) = opens (frame.Declr (for_declr.Init d)) control.Declr us
inits_by d ts None = eat m.Semi ts >>= λ us. have_decl d us

-- behind a declarator with its attributes and its value
unfoldable pub inits : Declaration → Tokens → Turn
inits d ts = inits_by d ts (after m.Comma ts)

abbrev pub decl_by : Declaration → Tokens → Option Tokens → Turn
decl_by d ts (Some us) = have_decl d us
decl_by d ts None = opens (frame.Declr (for_declr.Init d)) control.Declr ts

-- behind the specifiers of a declaration
abbrev pub decl_specs : Bool → ℕ → Specs → Tokens → Turn
decl_specs outside n specs ts = decl_by (record { outside = outside; at = n; specs = specs.node; inits = []; height = specs.height }) ts (after m.Semi ts)

-- statements, 6.8

abbrev pub have_line : ℕ → Line → ℕ → Tokens → Turn
have_line n l height ts = on (control.HaveLine (made n l (suc height))) ts

-- an expression in parentheses behind a word
abbrev pub head : PartFrame → Tokens → Turn
head f ts = eat m.LParen ts >>= λ us. opens (frame.Part f) (control.Expr comma_level) us

abbrev pub ends : ℕ → Line → Tokens → Turn
ends n l ts = eat m.Semi ts >>= λ us. have_line n l 0 us

-- an expression, or nothing in front of a `;`
abbrev pub maybe_expr : PartFrame → ℕ → Line → Tokens → Option Tokens → Turn
maybe_expr f n l ts (Some us) = have_line n l 0 us
maybe_expr f n l ts None = opens (frame.Part f) (control.Expr comma_level) ts

abbrev pub new_for : ℕ → ℕ → First → ℕ → For
new_for n count f height = record { at = n; scope = count; first = f; test = None; step = None; height = height }

abbrev pub for_first : Scope → ℕ → Tokens → Bool → Option Tokens → Turn
for_first scope n ts true _ = opens (frame.First n (length scope)) (control.Decl false) ts
for_first scope n ts false (Some us) = on (control.Test (new_for n (length scope) (first.Expr None) 0)) us
for_first scope n ts false None = opens (frame.Part (for_part.First n (length scope))) (control.Expr comma_level) ts

-- behind `for`
abbrev pub for_head : Scope → ℕ → Tokens → Turn
for_head scope n ts = eat m.LParen ts >>= λ us. for_first scope n us (begins_specs scope us) (after m.Semi us)

abbrev pub label : ℕ → Tokens → Turn
label n ts = eat m.Colon ts >>= λ us. opens (frame.Line (for_line.Default n)) control.Statement us

abbrev pub expr_statement : Tokens → ℕ → Turn
expr_statement all n = opens (frame.Part (for_part.Expr n)) (control.Expr comma_level) all

abbrev pub statement_word : Scope → Tokens → Tokens → ℕ → Word → Turn
statement_word scope all ts n w.If = head (for_part.If n) ts
statement_word scope all ts n w.While = head (for_part.While n) ts
statement_word scope all ts n w.Switch = head (for_part.Switch n) ts
statement_word scope all ts n w.Do = opens (frame.Line (for_line.Do n)) control.Statement ts
statement_word scope all ts n w.For = for_head scope n ts
statement_word scope all ts n w.Case = opens (frame.Part (for_part.Case n)) (control.Expr conditional_level) ts
statement_word scope all ts n w.Default = label n ts
statement_word scope all ts n w.Break = ends n line.Break ts
statement_word scope all ts n w.Continue = ends n line.Continue ts
statement_word scope all ts n w.Return = maybe_expr (for_part.Return n) n (line.Return None) ts (after m.Semi ts)
statement_word scope all ts n _ = expr_statement all n

abbrev pub statement_mark : Scope → Tokens → Tokens → ℕ → Mark → Turn
statement_mark scope all ts n m.LBrace = on (control.Block (record { body = false; scope = length scope; at = n; lines = []; height = 0 })) ts
statement_mark scope all ts n m.Semi = have_line n (line.Expr None) 0 ts
statement_mark scope all ts n _ = expr_statement all n

abbrev pub statement_at : Scope → Tokens → Tokens → ℕ → Kind → Turn
statement_at scope all ts n (kind.Keyword x) = statement_word scope all ts n x
statement_at scope all ts n (kind.Punct o) = statement_mark scope all ts n o
statement_at scope all ts n _ = expr_statement all n

unfoldable pub statement : Scope → Tokens → Turn
statement scope [] = wrong []
statement scope (t ∷ ts) = statement_at scope (t ∷ ts) ts t.at t.kind

-- blocks

abbrev pub close_by : Bool → Block → Tokens → Turn
close_by true b ts = on (control.HaveBody (tall b.lines b.height)) ts
close_by false b ts = have_line b.at (line.Block b.lines) b.height ts

abbrev pub close_block : Block → Tokens → Turn
close_block b ts = scoped (scoping.Leaves b.scope) (close_by b.body b ts)

abbrev pub block_line : Block → Tokens → Bool → Turn
block_line b ts true = opens (frame.Block b) (control.Decl false) ts
block_line b ts false = opens (frame.Block b) control.Statement ts

abbrev pub block_by : Scope → Block → Tokens → Option Tokens → Turn
block_by scope b ts (Some us) = close_block b us
block_by scope b ts None = block_line b ts (begins_specs scope ts)

-- a line of a block, or its end
unfoldable pub block : Scope → Block → Tokens → Turn
block scope b ts = block_by scope b ts (after m.RBrace ts)

abbrev pub with_line : Block → At Line → ℕ → Block
with_line b l height = record { body = b.body; scope = b.scope; at = b.at; lines = b.lines ++ l ∷ []; height = max b.height height }

-- the parts of a `for`

abbrev pub with_test : For → Option (At Tree) → ℕ → For
with_test f t height = record { at = f.at; scope = f.scope; first = f.first; test = t; step = f.step; height = max f.height height }

abbrev pub with_step : For → Option (At Tree) → ℕ → For
with_step f s height = record { at = f.at; scope = f.scope; first = f.first; test = f.test; step = s; height = max f.height height }

abbrev pub for_test_by : For → Tokens → Option Tokens → Turn
for_test_by f ts (Some us) = on (control.Step f) us
for_test_by f ts None = opens (frame.Part (for_part.Test f)) (control.Expr comma_level) ts

unfoldable pub for_test : For → Tokens → Turn
for_test f ts = for_test_by f ts (after m.Semi ts)

abbrev pub for_step_by : For → Tokens → Option Tokens → Turn
for_step_by f ts (Some us) = opens (frame.Line (for_line.For f)) control.Statement us
for_step_by f ts None = opens (frame.Part (for_part.Step f)) (control.Expr comma_level) ts

unfoldable pub for_step : For → Tokens → Turn
for_step f ts = for_step_by f ts (after m.RParen ts)

-- translation units, 6.9

abbrev pub items_by : Items → Tokens → Turn
items_by is [] = on (control.Done (tall (record { items = is.items }) is.height)) []
items_by is (t ∷ ts) = opens (frame.Items is) (control.Decl true) (t ∷ ts)

unfoldable pub items : Items → Tokens → Turn
items is ts = items_by is ts

abbrev pub with_item : Items → At Item → ℕ → Items
with_item is i height = record { items = is.items ++ i ∷ []; height = max is.height height }

-- what waits for an expression outside of expressions gets it

abbrev pub give_part : Tall (At Tree) → Tokens → PartFrame → Turn
give_part e ts (for_part.Bound d) = eat m.RBracket ts >>= λ us. on (control.Suffix (types.around d (declr.Array d.node (Some e.node)) (max d.height e.height))) us
give_part e ts (for_part.Enumr en n x) = on (control.Enumeration (types.with_enumr en n x (Some e.node) e.height)) ts
give_part e ts for_part.Value = on (control.HaveValue (made e.node.at (given.One e.node) e.height)) ts
give_part e ts (for_part.If n) = eat m.RParen ts >>= λ us. opens (frame.Line (for_line.Then n e)) control.Statement us
give_part e ts (for_part.While n) = eat m.RParen ts >>= λ us. opens (frame.Line (for_line.While n e)) control.Statement us
give_part e ts (for_part.Switch n) = eat m.RParen ts >>= λ us. opens (frame.Line (for_line.Switch n e)) control.Statement us
give_part e ts (for_part.Do n a) = eat m.RParen ts >>= λ us. eat m.Semi us >>= λ vs. have_line n (line.DoWhile a.node e.node) (max a.height e.height) vs
give_part e ts (for_part.First n count) = eat m.Semi ts >>= λ us. on (control.Test (new_for n count (first.Expr (Some e.node)) e.height)) us
give_part e ts (for_part.Test f) = eat m.Semi ts >>= λ us. on (control.Step (with_test f (Some e.node) e.height)) us
give_part e ts (for_part.Step f) = eat m.RParen ts >>= λ us. opens (frame.Line (for_line.For (with_step f (Some e.node) e.height))) control.Statement us
give_part e ts (for_part.Case n) = eat m.Colon ts >>= λ us. opens (frame.Line (for_line.Case n e)) control.Statement us
give_part e ts (for_part.Return n) = eat m.Semi ts >>= λ us. have_line n (line.Return (Some e.node)) e.height us
give_part e ts (for_part.Expr n) = eat m.Semi ts >>= λ us. have_line n (line.Expr (Some e.node)) e.height us

abbrev pub give_specs : Specs → Tokens → SpecsFrame → Turn
give_specs s ts (for_specs.TypeName u n) = opens (frame.Declr (for_declr.TypeName u n s)) control.Declr ts
give_specs s ts (for_specs.Param f n) = opens (frame.Declr (for_declr.Param f n s)) control.Declr ts
give_specs s ts (for_specs.Member st n) = opens (frame.Declr (for_declr.Member (types.open_members st n s))) control.Declr ts
give_specs s ts (for_specs.Decl outside n) = decl_specs outside n s ts

abbrev pub give_declr : Scope → Tall (At Declr) → Tokens → DeclrFrame → Turn
give_declr scope d ts (for_declr.Paren n) = types.paren_declr n d ts (is_nothing d.node.node)
give_declr scope d ts (for_declr.Pointer n qs) = on (control.HaveDeclr (made n (declr.Pointer qs d.node) (suc d.height))) ts
give_declr scope d ts (for_declr.TypeName u n s) = types.close_type u n s d ts (is_some (name_of d.node.node))
give_declr scope d ts (for_declr.Param f n s) = types.param f n s d ts
give_declr scope d ts (for_declr.Member ms) = types.member_declr ms d ts (is_some (name_of d.node.node))
give_declr scope d ts (for_declr.Init dn) = declr_done scope dn d ts (name_of d.node.node)

abbrev pub give_value : Tall (At Given) → Tokens → ValueFrame → Turn
give_value g ts (for_value.Init d e a) = on (control.Inits (with_init d e a (Some g.node) g.height)) ts
give_value g ts (for_value.Many n gs) = values n gs g ts

abbrev pub begins_else : Kind → Bool
begins_else (kind.Keyword w.Else) = true
begins_else _ = false

-- the tokens behind `else`, where it stands first
abbrev pub behind_else : Tokens → Bool → Option Tokens
behind_else ts true = Some ts
behind_else ts false = None

unfoldable pub after_else : Tokens → Option Tokens
after_else [] = None
after_else (t ∷ ts) = behind_else ts (begins_else t.kind)

abbrev pub then_done : ℕ → Tall (At Tree) → Tall (At Line) → Tokens → Option Tokens → Turn
then_done n c a ts None = have_line n (line.If c.node a.node None) (max c.height a.height) ts
then_done n c a ts (Some us) = opens (frame.Line (for_line.Else n c a)) control.Statement us

abbrev pub is_while : Kind → Bool
is_while (kind.Keyword w.While) = true
is_while _ = false

abbrev pub do_while : ℕ → Tall (At Line) → Tokens → Tokens → Bool → Turn
do_while n a all ts true = head (for_part.Do n a) ts
do_while n a all ts false = wrong all

unfoldable pub do_done : ℕ → Tall (At Line) → Tokens → Turn
do_done n a [] = wrong []
do_done n a (t ∷ ts) = do_while n a (t ∷ ts) ts (is_while t.kind)

abbrev pub give_line : Tall (At Line) → Tokens → LineFrame → Turn
give_line a ts (for_line.Then n c) = then_done n c a ts (after_else ts)
give_line a ts (for_line.Else n c b) = have_line n (line.If c.node b.node (Some a.node)) (max c.height (max b.height a.height)) ts
give_line a ts (for_line.While n c) = have_line n (line.While c.node a.node) (max c.height a.height) ts
give_line a ts (for_line.Switch n c) = have_line n (line.Switch c.node a.node) (max c.height a.height) ts
give_line a ts (for_line.Do n) = do_done n a ts
give_line a ts (for_line.For f) = scoped (scoping.Leaves f.scope) (have_line f.at (line.For f.first f.test f.step a.node) (max f.height a.height) ts)
give_line a ts (for_line.Case n c) = have_line n (line.Case c.node a.node) (max c.height a.height) ts
give_line a ts (for_line.Default n) = have_line n (line.Default a.node) a.height ts

-- what is handed over, to the frame that waits for it

abbrev pub to_tree : ℕ → Tall (At Tree) → Tokens → Frame → Turn
to_tree level e ts (frame.Tree f) = trees.give_tree level e ts f
to_tree level e ts (frame.Part f) = give_part e ts f
to_tree level e ts _ = wrong ts

abbrev pub to_specs : Specs → Tokens → Frame → Turn
to_specs s ts (frame.Specs f) = give_specs s ts f
to_specs s ts _ = wrong ts

abbrev pub to_declr : Scope → Tall (At Declr) → Tokens → Frame → Turn
to_declr scope d ts (frame.Declr f) = give_declr scope d ts f
to_declr scope d ts _ = wrong ts

abbrev pub to_value : Tall (At Given) → Tokens → Frame → Turn
to_value g ts (frame.Value f) = give_value g ts f
to_value g ts _ = wrong ts

abbrev pub to_decl : ℕ → Tall Decl → Tokens → Frame → Turn
to_decl n d ts (frame.Block b) = on (control.Block (with_line b (record { at = n; node = line.Decl d.node }) d.height)) ts
to_decl n d ts (frame.First k count) = on (control.Test (new_for k count (first.Decl d.node) d.height)) ts
to_decl n d ts (frame.Items is) = on (control.Items (with_item is (record { at = n; node = item.Decl d.node }) d.height)) ts
to_decl n d ts _ = wrong ts

abbrev pub to_line : Tall (At Line) → Tokens → Frame → Turn
to_line a ts (frame.Line f) = give_line a ts f
to_line a ts (frame.Block b) = on (control.Block (with_line b a.node a.height)) ts
to_line a ts _ = wrong ts

abbrev pub to_body : Tall (List (At Line)) → Tokens → Frame → Turn
to_body b ts (frame.Body h) = on (control.HaveItem (made h.at (item.Func h.specs h.declr h.attrs b.node) (max h.height b.height))) ts
to_body b ts _ = wrong ts

abbrev pub to_item : Tall (At Item) → Tokens → Frame → Turn
to_item i ts (frame.Items is) = on (control.Items (with_item is i.node i.height)) ts
to_item i ts _ = wrong ts
