-- Turns on declarations, statements and translation units: what they leave weighs less than what they were given.
use Rattle.std.proofs.Common.{◌≤◌, ◌<◌, ◌+◌, ◌*◌, ℕ, suc, Bool, true, false, ◌&&◌, is_some, List, [], ◌∷◌, ◌++◌, Option, Some, None, IfSome, length, max, arith}
use Rattle.cc_lex.specs.declared.token.Kind.{Kind}
use Rattle.cc_lex.specs.declared.token.Kind.TheVariants as kind
use Rattle.cc_lex.specs.declared.token.Mark.{Mark}
use Rattle.cc_lex.specs.declared.token.Mark.TheVariants as m
use Rattle.cc_words.specs.declared.word.Word.{Word}
use Rattle.cc_words.specs.declared.word.Word.TheVariants as w
use Rattle.cc_tree.specs.declared.at.At.{At}
use Rattle.cc_tree.specs.declared.state.Block.{Block}
use Rattle.cc_tree.specs.declared.state.Control.TheVariants as control
use Rattle.cc_tree.specs.declared.state.Declaration.{Declaration}
use Rattle.cc_tree.specs.declared.state.DeclrFrame.{DeclrFrame}
use Rattle.cc_tree.specs.declared.state.DeclrFrame.TheVariants as for_declr
use Rattle.cc_tree.specs.declared.state.For.{For}
use Rattle.cc_tree.specs.declared.state.Frame.{Frame}
use Rattle.cc_tree.specs.declared.state.Frame.TheVariants as frame
use Rattle.cc_tree.specs.declared.state.Items.{Items}
use Rattle.cc_tree.specs.declared.state.LineFrame.{LineFrame}
use Rattle.cc_tree.specs.declared.state.LineFrame.TheVariants as for_line
use Rattle.cc_tree.specs.declared.state.PartFrame.{PartFrame}
use Rattle.cc_tree.specs.declared.state.PartFrame.TheVariants as for_part
use Rattle.cc_tree.specs.declared.state.Scoping.TheVariants as scoping
use Rattle.cc_tree.specs.declared.state.SpecsFrame.{SpecsFrame}
use Rattle.cc_tree.specs.declared.state.SpecsFrame.TheVariants as for_specs
use Rattle.cc_tree.specs.declared.state.Tall.{Tall}
use Rattle.cc_tree.specs.declared.state.ValueFrame.{ValueFrame}
use Rattle.cc_tree.specs.declared.state.ValueFrame.TheVariants as for_value
use Rattle.cc_tree.specs.declared.tree.Attr.{Attr}
use Rattle.cc_tree.specs.declared.tree.Declr as declr
use Rattle.cc_tree.specs.declared.tree.Declr.{Declr}
use Rattle.cc_tree.specs.declared.tree.Tree.{Tree}
use Rattle.cc_tree.specs.declared.unit.Decl.{Decl}
use Rattle.cc_tree.specs.declared.unit.First.TheVariants as first
use Rattle.cc_tree.specs.declared.unit.Given as given
use Rattle.cc_tree.specs.declared.unit.Given.{Given}
use Rattle.cc_tree.specs.declared.unit.Item.{Item}
use Rattle.cc_tree.specs.declared.unit.Line as line
use Rattle.cc_tree.specs.declared.unit.Line.{Line}
use Rattle.cc_tree.specs.Operators.{comma_level}
use Rattle.cc_tree.specs.Reading.{◌>>=◌, after, eat, begins_with}
use Rattle.cc_tree.specs.ReadTypes.{begins_specs, attrs}
use Rattle.cc_tree.specs.Scopes.{Scope, name_of, declares_types}
use Rattle.cc_tree.specs.Terms.{is_nothing}
use Rattle.cc_tree.specs.Tokens.{Tokens, Name}
use Rattle.cc_tree.specs.Turns.{on, opens, made, tall}
use Rattle.cc_tree.specs.TurnTypes.{Specs, around}
use Rattle.cc_tree.specs.TurnLines.{value_by, value, close_values, behind_comma, values_by, values, declaration, init_value, declared, init, no_init, init_or_body, declr_done, have_decl, inits_by, inits, decl_by, decl_specs, have_line, head, ends, maybe_expr, new_for, for_first, for_head, label, statement_word, statement_mark, statement_at, statement, close_by, block_line, block_by, block, with_test, with_step, for_test_by, for_test, for_step_by, for_step, items, give_part, give_specs, give_declr, give_value, begins_else, behind_else, after_else, then_done, is_while, do_while, do_done, give_line, to_tree, to_specs, to_declr, to_value, to_decl, to_line, to_body, to_item}
use Rattle.cc_tree.proofs.MeasureTokens.{weight, Falls, heavier, scoped-falls, after-fewer, eat-fewer, attrs-fewer}
use Rattle.cc_tree.proofs.MeasureTrees.{give_tree-falls}
use Rattle.cc_tree.proofs.MeasureTypes.{param-falls, paren_declr-falls, close_type-falls, member_declr-falls}
use Rattle.cc_tree.proofs.ReadingBasics.{ok_bind}

-- initialisers

value_by-falls : (ts : Tokens) (r : Option Tokens) → IfSome r (λ us. length us < length ts) → Falls (16 * length ts + 6) (value_by ts r)
value_by-falls ts None h = omega arith
value_by-falls ts (Some us) h = omega arith

pub value-falls : (ts : Tokens) → Falls (16 * length ts + 6) (value ts)
unfolding value
value-falls ts = value_by-falls ts (after m.LBrace ts) (after-fewer m.LBrace ts (length ts) (omega arith))

module _ (at n : ℕ) (gs : Tall (List (At Given))) where
  close_values-falls : (ts : Tokens) → length ts ≤ n → Falls (16 * n) (close_values at gs ts)
  close_values-falls ts h = eat-fewer m.RBrace ts (λ us. on (control.HaveValue (made at (given.Many gs.node) (suc gs.height))) us) n (λ t. weight t < 16 * n) h (λ us g. omega arith)

  behind_comma-falls : (ts : Tokens) (b : Bool) → length ts < n → Falls (16 * n) (behind_comma at gs ts b)
  behind_comma-falls ts true h = close_values-falls ts (omega arith)
  behind_comma-falls ts false h = omega arith

  values_by-falls : (ts : Tokens) (r : Option Tokens) → length ts ≤ n → IfSome r (λ us. length us < n) → Falls (16 * n) (values_by at gs ts r)
  values_by-falls ts None h k = close_values-falls ts h
  values_by-falls ts (Some us) h k = behind_comma-falls us (begins_with m.RBrace us) k

values-falls : (at : ℕ) (gs : Tall (List (At Given))) (g : Tall (At Given)) (ts : Tokens) → Falls (16 * length ts) (values at gs g ts)
values-falls at gs g ts = values_by-falls at (length ts) (tall (gs.node ++ g.node ∷ []) (max gs.height g.height)) ts (after m.Comma ts) (omega arith) (after-fewer m.Comma ts (length ts) (omega arith))

-- declarations

pub declaration-falls : (outside : Bool) (ts : Tokens) → Falls (16 * length ts + 7) (declaration outside ts)
declaration-falls outside ts = omega arith

module _ (scope : Scope) (d : Declaration) (e : Tall (At Declr)) (n : ℕ) where
  init_value-falls : (a : List (At Attr)) (ts : Tokens) (r : Option Tokens) → length ts ≤ n → IfSome r (λ us. length us < n) → Falls (16 * n + 2) (init_value d e a ts r)
  init_value-falls a ts (Some us) h k = omega arith
  init_value-falls a ts None h k = omega arith

  init-falls : (a : List (At Attr)) (x : Name) (ts : Tokens) → length ts ≤ n → Falls (16 * n + 2) (init d e a x ts)
  init-falls a x ts h = scoped-falls (16 * n + 2) (declared (declares_types d.specs) x) (init_value d e a ts (after m.Assign ts)) (init_value-falls a ts (after m.Assign ts) h (after-fewer m.Assign ts n h))

  init_or_body-falls : (a : List (At Attr)) (x : Name) (ts : Tokens) (r : Option Tokens) (b : Bool) → length ts ≤ n → IfSome r (λ us. length us < n) → Falls (16 * n + 2) (init_or_body scope d e a x ts r b)
  init_or_body-falls a x ts (Some us) true h k = omega arith
  init_or_body-falls a x ts (Some us) false h k = init-falls a x ts h
  init_or_body-falls a x ts None b h k = init-falls a x ts h

declr_done-falls : (scope : Scope) (d : Declaration) (e : Tall (At Declr)) (ts : Tokens) (x : Option Name) → Falls (16 * length ts + 2) (declr_done scope d e ts x)
declr_done-falls scope d e ts None = tt
declr_done-falls scope d e ts (Some x) = ok_bind (attrs ts) (λ a. init_or_body scope d e a.0 x a.1 (after m.LBrace a.1) (d.outside && no_init d.inits)) (λ a. length a.1 ≤ length ts) (λ t. weight t < 16 * length ts + 2)
    (attrs-fewer ts) (λ a h. init_or_body-falls scope d e (length ts) a.0 x a.1 (after m.LBrace a.1) (d.outside && no_init d.inits) h (after-fewer m.LBrace a.1 (length ts) h))

inits_by-falls : (d : Declaration) (ts : Tokens) (r : Option Tokens) → IfSome r (λ us. length us < length ts) → Falls (16 * length ts) (inits_by d ts r)
inits_by-falls d ts (Some us) h = omega arith
inits_by-falls d ts None h = eat-fewer m.Semi ts (λ us. have_decl d us) (length ts) (λ t. weight t < 16 * length ts) (omega arith) (λ us g. omega arith)

pub inits-falls : (d : Declaration) (ts : Tokens) → Falls (16 * length ts) (inits d ts)
unfolding inits
inits-falls d ts = inits_by-falls d ts (after m.Comma ts) (after-fewer m.Comma ts (length ts) (omega arith))

decl_by-falls : (d : Declaration) (ts : Tokens) (r : Option Tokens) → IfSome r (λ us. length us < length ts) → Falls (16 * length ts + 5) (decl_by d ts r)
decl_by-falls d ts (Some us) h = omega arith
decl_by-falls d ts None h = omega arith

decl_specs-falls : (outside : Bool) (n : ℕ) (s : Specs) (ts : Tokens) → Falls (16 * length ts + 5) (decl_specs outside n s ts)
decl_specs-falls outside n s ts = decl_by-falls (record { outside = outside; at = n; specs = s.node; inits = []; height = s.height }) ts (after m.Semi ts) (after-fewer m.Semi ts (length ts) (omega arith))

-- statements

module _ (n : ℕ) where
  head-falls : (f : PartFrame) (ts : Tokens) → length ts < n → Falls (16 * n) (head f ts)
  head-falls f ts h = eat-fewer m.LParen ts (λ us. opens (frame.Part f) (control.Expr comma_level) us) n (λ t. weight t < 16 * n) (omega arith) (λ us g. omega arith)

  ends-falls : (at : ℕ) (l : Line) (ts : Tokens) → length ts < n → Falls (16 * n) (ends at l ts)
  ends-falls at l ts h = eat-fewer m.Semi ts (λ us. have_line at l 0 us) n (λ t. weight t < 16 * n) (omega arith) (λ us g. omega arith)

  maybe_expr-falls : (f : PartFrame) (at : ℕ) (l : Line) (ts : Tokens) (r : Option Tokens) → length ts < n → IfSome r (λ us. length us < n) → Falls (16 * n) (maybe_expr f at l ts r)
  maybe_expr-falls f at l ts (Some us) h k = omega arith
  maybe_expr-falls f at l ts None h k = omega arith

  for_first-falls : (scope : Scope) (at : ℕ) (ts : Tokens) (b : Bool) (r : Option Tokens) → length ts < n → IfSome r (λ us. length us < n) → Falls (16 * n) (for_first scope at ts b r)
  for_first-falls scope at ts true r h k = omega arith
  for_first-falls scope at ts false (Some us) h k = omega arith
  for_first-falls scope at ts false None h k = omega arith

  for_head-falls : (scope : Scope) (at : ℕ) (ts : Tokens) → length ts < n → Falls (16 * n) (for_head scope at ts)
  for_head-falls scope at ts h = eat-fewer m.LParen ts (λ us. for_first scope at us (begins_specs scope us) (after m.Semi us)) n (λ t. weight t < 16 * n) (omega arith)
      (λ us g. for_first-falls scope at us (begins_specs scope us) (after m.Semi us) g (after-fewer m.Semi us n (omega arith)))

  label-falls : (at : ℕ) (ts : Tokens) → length ts < n → Falls (16 * n) (label at ts)
  label-falls at ts h = eat-fewer m.Colon ts (λ us. opens (frame.Line (for_line.Default at)) control.Statement us) n (λ t. weight t < 16 * n) (omega arith) (λ us g. omega arith)

  -- a statement that begins with a word of its own
  module _ (scope : Scope) (all ts : Tokens) (at : ℕ) (l : length all ≤ n) (h : length ts < n) where
    word-falls : (x : Word) → Falls (16 * n + 6) (statement_word scope all ts at x)
    word-falls w.If = heavier (16 * n) (16 * n + 6) (head (for_part.If at) ts) (head-falls (for_part.If at) ts h) (omega arith)
    word-falls w.While = heavier (16 * n) (16 * n + 6) (head (for_part.While at) ts) (head-falls (for_part.While at) ts h) (omega arith)
    word-falls w.Switch = heavier (16 * n) (16 * n + 6) (head (for_part.Switch at) ts) (head-falls (for_part.Switch at) ts h) (omega arith)
    word-falls w.Do = omega arith
    word-falls w.For = heavier (16 * n) (16 * n + 6) (for_head scope at ts) (for_head-falls scope at ts h) (omega arith)
    word-falls w.Case = omega arith
    word-falls w.Default = heavier (16 * n) (16 * n + 6) (label at ts) (label-falls at ts h) (omega arith)
    word-falls w.Break = heavier (16 * n) (16 * n + 6) (ends at line.Break ts) (ends-falls at line.Break ts h) (omega arith)
    word-falls w.Continue = heavier (16 * n) (16 * n + 6) (ends at line.Continue ts) (ends-falls at line.Continue ts h) (omega arith)
    word-falls w.Return = heavier (16 * n) (16 * n + 6) (maybe_expr (for_part.Return at) at (line.Return None) ts (after m.Semi ts))
        (maybe_expr-falls (for_part.Return at) at (line.Return None) ts (after m.Semi ts) h (after-fewer m.Semi ts n (omega arith))) (omega arith)
    word-falls x = omega arith

    mark-falls : (o : Mark) → Falls (16 * n + 6) (statement_mark scope all ts at o)
    mark-falls m.LBrace = omega arith
    mark-falls m.Semi = omega arith
    mark-falls o = omega arith

    at-falls : (k : Kind) → Falls (16 * n + 6) (statement_at scope all ts at k)
    at-falls (kind.Keyword x) = word-falls x
    at-falls (kind.Punct o) = mark-falls o
    at-falls k = omega arith

pub statement-falls : (scope : Scope) (ts : Tokens) → Falls (16 * length ts + 6) (statement scope ts)
unfolding statement
statement-falls scope [] = tt
statement-falls scope (t ∷ ts) = at-falls (suc (length ts)) scope (t ∷ ts) ts t.at (omega arith) (omega arith) t.kind

-- blocks

close_by-falls : (b : Bool) (bl : Block) (ts : Tokens) (n : ℕ) → length ts < n → Falls (16 * n + 10) (close_by b bl ts)
close_by-falls true bl ts n h = omega arith
close_by-falls false bl ts n h = omega arith

block_line-falls : (bl : Block) (ts : Tokens) (b : Bool) → Falls (16 * length ts + 10) (block_line bl ts b)
block_line-falls bl ts true = omega arith
block_line-falls bl ts false = omega arith

block_by-falls : (scope : Scope) (bl : Block) (ts : Tokens) (r : Option Tokens) → IfSome r (λ us. length us < length ts) → Falls (16 * length ts + 10) (block_by scope bl ts r)
block_by-falls scope bl ts (Some us) h = scoped-falls (16 * length ts + 10) (scoping.Leaves bl.scope) (close_by bl.body bl us) (close_by-falls bl.body bl us (length ts) h)
block_by-falls scope bl ts None h = block_line-falls bl ts (begins_specs scope ts)

pub block-falls : (scope : Scope) (bl : Block) (ts : Tokens) → Falls (16 * length ts + 10) (block scope bl ts)
unfolding block
block-falls scope bl ts = block_by-falls scope bl ts (after m.RBrace ts) (after-fewer m.RBrace ts (length ts) (omega arith))

-- the parts of a `for`

for_test_by-falls : (f : For) (ts : Tokens) (r : Option Tokens) → IfSome r (λ us. length us < length ts) → Falls (16 * length ts + 6) (for_test_by f ts r)
for_test_by-falls f ts (Some us) h = omega arith
for_test_by-falls f ts None h = omega arith

pub for_test-falls : (f : For) (ts : Tokens) → Falls (16 * length ts + 6) (for_test f ts)
unfolding for_test
for_test-falls f ts = for_test_by-falls f ts (after m.Semi ts) (after-fewer m.Semi ts (length ts) (omega arith))

for_step_by-falls : (f : For) (ts : Tokens) (r : Option Tokens) → IfSome r (λ us. length us < length ts) → Falls (16 * length ts + 6) (for_step_by f ts r)
for_step_by-falls f ts (Some us) h = omega arith
for_step_by-falls f ts None h = omega arith

pub for_step-falls : (f : For) (ts : Tokens) → Falls (16 * length ts + 6) (for_step f ts)
unfolding for_step
for_step-falls f ts = for_step_by-falls f ts (after m.RParen ts) (after-fewer m.RParen ts (length ts) (omega arith))

-- translation units

pub items-falls : (is : Items) (ts : Tokens) → Falls (16 * length ts + 10) (items is ts)
unfolding items
items-falls is [] = omega arith
items-falls is (t ∷ ts) = omega arith

-- what is handed over

module _ (e : Tall (At Tree)) (ts : Tokens) where
  then-falls : (o : Mark) (f : LineFrame) → Falls (16 * length ts + 2) (eat o ts >>= λ us. opens (frame.Line f) control.Statement us)
  then-falls o f = eat-fewer o ts (λ us. opens (frame.Line f) control.Statement us) (length ts) (λ t. weight t < 16 * length ts + 2) (omega arith) (λ us g. omega arith)

  line-falls : (at : ℕ) (l : Line) (n : ℕ) → Falls (16 * length ts + 2) (eat m.Semi ts >>= λ us. have_line at l n us)
  line-falls at l n = eat-fewer m.Semi ts (λ us. have_line at l n us) (length ts) (λ t. weight t < 16 * length ts + 2) (omega arith) (λ us g. omega arith)

  give_part-falls : (f : PartFrame) → Falls (16 * length ts + 2) (give_part e ts f)
  give_part-falls (for_part.Bound d) = eat-fewer m.RBracket ts (λ us. on (control.Suffix (around d (declr.Array d.node (Some e.node)) (max d.height e.height))) us) (length ts) (λ t. weight t < 16 * length ts + 2) (omega arith) (λ us g. omega arith)
  give_part-falls (for_part.Enumr en n x) = omega arith
  give_part-falls for_part.Value = omega arith
  give_part-falls (for_part.If n) = then-falls m.RParen (for_line.Then n e)
  give_part-falls (for_part.While n) = then-falls m.RParen (for_line.While n e)
  give_part-falls (for_part.Switch n) = then-falls m.RParen (for_line.Switch n e)
  give_part-falls (for_part.Do n a) = eat-fewer m.RParen ts (λ us. eat m.Semi us >>= λ vs. have_line n (line.DoWhile a.node e.node) (max a.height e.height) vs) (length ts) (λ t. weight t < 16 * length ts + 2) (omega arith)
      (λ us g. eat-fewer m.Semi us (λ vs. have_line n (line.DoWhile a.node e.node) (max a.height e.height) vs) (length ts) (λ t. weight t < 16 * length ts + 2) (omega arith) (λ vs k. omega arith))
  give_part-falls (for_part.First n count) = eat-fewer m.Semi ts (λ us. on (control.Test (new_for n count (first.Expr (Some e.node)) e.height)) us) (length ts) (λ t. weight t < 16 * length ts + 2) (omega arith) (λ us g. omega arith)
  give_part-falls (for_part.Test f) = eat-fewer m.Semi ts (λ us. on (control.Step (with_test f (Some e.node) e.height)) us) (length ts) (λ t. weight t < 16 * length ts + 2) (omega arith) (λ us g. omega arith)
  give_part-falls (for_part.Step f) = then-falls m.RParen (for_line.For (with_step f (Some e.node) e.height))
  give_part-falls (for_part.Case n) = then-falls m.Colon (for_line.Case n e)
  give_part-falls (for_part.Return n) = line-falls n (line.Return (Some e.node)) e.height
  give_part-falls (for_part.Expr n) = line-falls n (line.Expr (Some e.node)) e.height

pub to_tree-falls : (level : ℕ) (e : Tall (At Tree)) (ts : Tokens) (f : Frame) → Falls (16 * length ts + 2) (to_tree level e ts f)
to_tree-falls level e ts (frame.Tree f) = give_tree-falls level e ts f
to_tree-falls level e ts (frame.Part f) = give_part-falls e ts f
to_tree-falls level e ts f = tt

give_specs-falls : (s : Specs) (ts : Tokens) (f : SpecsFrame) → Falls (16 * length ts + 5) (give_specs s ts f)
give_specs-falls s ts (for_specs.TypeName u n) = omega arith
give_specs-falls s ts (for_specs.Param f n) = omega arith
give_specs-falls s ts (for_specs.Member st n) = omega arith
give_specs-falls s ts (for_specs.Decl outside n) = decl_specs-falls outside n s ts

pub to_specs-falls : (s : Specs) (ts : Tokens) (f : Frame) → Falls (16 * length ts + 5) (to_specs s ts f)
to_specs-falls s ts (frame.Specs f) = give_specs-falls s ts f
to_specs-falls s ts f = tt

give_declr-falls : (scope : Scope) (d : Tall (At Declr)) (ts : Tokens) (f : DeclrFrame) → Falls (16 * length ts + 2) (give_declr scope d ts f)
give_declr-falls scope d ts (for_declr.Paren n) = paren_declr-falls n d ts (is_nothing d.node.node)
give_declr-falls scope d ts (for_declr.Pointer n qs) = omega arith
give_declr-falls scope d ts (for_declr.TypeName u n s) = close_type-falls u n s d ts (is_some (name_of d.node.node))
give_declr-falls scope d ts (for_declr.Param f n s) = param-falls f n s d ts
give_declr-falls scope d ts (for_declr.Member ms) = member_declr-falls ms d ts (is_some (name_of d.node.node))
give_declr-falls scope d ts (for_declr.Init dn) = declr_done-falls scope dn d ts (name_of d.node.node)

pub to_declr-falls : (scope : Scope) (d : Tall (At Declr)) (ts : Tokens) (f : Frame) → Falls (16 * length ts + 2) (to_declr scope d ts f)
to_declr-falls scope d ts (frame.Declr f) = give_declr-falls scope d ts f
to_declr-falls scope d ts f = tt

give_value-falls : (g : Tall (At Given)) (ts : Tokens) (f : ValueFrame) → Falls (16 * length ts + 2) (give_value g ts f)
give_value-falls g ts (for_value.Init d e a) = omega arith
give_value-falls g ts (for_value.Many n gs) = heavier (16 * length ts) (16 * length ts + 2) (values n gs g ts) (values-falls n gs g ts) (omega arith)

pub to_value-falls : (g : Tall (At Given)) (ts : Tokens) (f : Frame) → Falls (16 * length ts + 2) (to_value g ts f)
to_value-falls g ts (frame.Value f) = give_value-falls g ts f
to_value-falls g ts f = tt

pub to_decl-falls : (n : ℕ) (d : Tall Decl) (ts : Tokens) (f : Frame) → Falls (16 * length ts + 11) (to_decl n d ts f)
to_decl-falls n d ts (frame.Block b) = omega arith
to_decl-falls n d ts (frame.First k count) = omega arith
to_decl-falls n d ts (frame.Items is) = omega arith
to_decl-falls n d ts f = tt

behind_else-fewer : (ts : Tokens) (b : Bool) (n : ℕ) → length ts < n → IfSome (behind_else ts b) (λ us. length us < n)
behind_else-fewer ts true n h = h
behind_else-fewer ts false n h = tt

after_else-fewer : (ts : Tokens) → IfSome (after_else ts) (λ us. length us < length ts)
unfolding after_else
after_else-fewer [] = tt
after_else-fewer (t ∷ ts) = behind_else-fewer ts (begins_else t.kind) (suc (length ts)) (omega arith)

then_done-falls : (n : ℕ) (c : Tall (At Tree)) (a : Tall (At Line)) (ts : Tokens) (r : Option Tokens) → IfSome r (λ us. length us < length ts) → Falls (16 * length ts + 11) (then_done n c a ts r)
then_done-falls n c a ts None h = omega arith
then_done-falls n c a ts (Some us) h = omega arith

do_while-falls : (n : ℕ) (a : Tall (At Line)) (all ts : Tokens) (b : Bool) → length ts < length all → Falls (16 * length all) (do_while n a all ts b)
do_while-falls n a all ts true h = head-falls (length all) (for_part.Do n a) ts h
do_while-falls n a all ts false h = tt

do_done-falls : (n : ℕ) (a : Tall (At Line)) (ts : Tokens) → Falls (16 * length ts) (do_done n a ts)
unfolding do_done
do_done-falls n a [] = tt
do_done-falls n a (t ∷ ts) = do_while-falls n a (t ∷ ts) ts (is_while t.kind) (omega arith)

give_line-falls : (a : Tall (At Line)) (ts : Tokens) (f : LineFrame) → Falls (16 * length ts + 11) (give_line a ts f)
give_line-falls a ts (for_line.Then n c) = then_done-falls n c a ts (after_else ts) (after_else-fewer ts)
give_line-falls a ts (for_line.Else n c b) = omega arith
give_line-falls a ts (for_line.While n c) = omega arith
give_line-falls a ts (for_line.Switch n c) = omega arith
give_line-falls a ts (for_line.Do n) = heavier (16 * length ts) (16 * length ts + 11) (do_done n a ts) (do_done-falls n a ts) (omega arith)
give_line-falls a ts (for_line.For f) = omega arith
give_line-falls a ts (for_line.Case n c) = omega arith
give_line-falls a ts (for_line.Default n) = omega arith

pub to_line-falls : (a : Tall (At Line)) (ts : Tokens) (f : Frame) → Falls (16 * length ts + 11) (to_line a ts f)
to_line-falls a ts (frame.Line f) = give_line-falls a ts f
to_line-falls a ts (frame.Block b) = omega arith
to_line-falls a ts f = tt

pub to_body-falls : (b : Tall (List (At Line))) (ts : Tokens) (f : Frame) → Falls (16 * length ts + 10) (to_body b ts f)
to_body-falls b ts (frame.Body h) = omega arith
to_body-falls b ts f = tt

pub to_item-falls : (i : Tall (At Item)) (ts : Tokens) (f : Frame) → Falls (16 * length ts + 11) (to_item i ts f)
to_item-falls i ts (frame.Items is) = omega arith
to_item-falls i ts f = tt
