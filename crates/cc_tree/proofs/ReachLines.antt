-- Turns on declarations, statements and translation units: what they leave reaches as high as what they were given, or
-- one higher for a token.
use Rattle.std.proofs.Common.{◌≡◌, ◌≤◌, ◌<◌, ◌+◌, ℕ, suc, Bool, true, false, ◌&&◌, is_some, List, [], ◌∷◌, ◌++◌, Option, Some, None, IfSome, length, max, arith}
use Rattle.cc_lex.specs.declared.token.Kind.{Kind}
use Rattle.cc_lex.specs.declared.token.Kind.TheVariants as kind
use Rattle.cc_lex.specs.declared.token.Mark.{Mark}
use Rattle.cc_lex.specs.declared.token.Mark.TheVariants as m
use Rattle.cc_words.specs.declared.word.Word.{Word}
use Rattle.cc_words.specs.declared.word.Word.TheVariants as w
use Rattle.cc_tree.specs.declared.at.At.{At}
use Rattle.cc_tree.specs.declared.state.Block.{Block}
use Rattle.cc_tree.specs.declared.state.Control.TheVariants as control
use Rattle.cc_tree.specs.declared.state.Declaration.{Declaration}
use Rattle.cc_tree.specs.declared.state.DeclrFrame.{DeclrFrame}
use Rattle.cc_tree.specs.declared.state.DeclrFrame.TheVariants as for_declr
use Rattle.cc_tree.specs.declared.state.For.{For}
use Rattle.cc_tree.specs.declared.state.Frame.{Frame}
use Rattle.cc_tree.specs.declared.state.Frame.TheVariants as frame
use Rattle.cc_tree.specs.declared.state.Items.{Items}
use Rattle.cc_tree.specs.declared.state.LineFrame.{LineFrame}
use Rattle.cc_tree.specs.declared.state.LineFrame.TheVariants as for_line
use Rattle.cc_tree.specs.declared.state.PartFrame.{PartFrame}
use Rattle.cc_tree.specs.declared.state.PartFrame.TheVariants as for_part
use Rattle.cc_tree.specs.declared.state.Scoping.TheVariants as scoping
use Rattle.cc_tree.specs.declared.state.SpecsFrame.{SpecsFrame}
use Rattle.cc_tree.specs.declared.state.SpecsFrame.TheVariants as for_specs
use Rattle.cc_tree.specs.declared.state.Tall.{Tall}
use Rattle.cc_tree.specs.declared.state.ValueFrame.{ValueFrame}
use Rattle.cc_tree.specs.declared.state.ValueFrame.TheVariants as for_value
use Rattle.cc_tree.specs.declared.tree.Attr.{Attr}
use Rattle.cc_tree.specs.declared.tree.Declr as declr
use Rattle.cc_tree.specs.declared.tree.Declr.{Declr}
use Rattle.cc_tree.specs.declared.tree.Tree.{Tree}
use Rattle.cc_tree.specs.declared.unit.Decl.{Decl}
use Rattle.cc_tree.specs.declared.unit.First.TheVariants as first
use Rattle.cc_tree.specs.declared.unit.Given as given
use Rattle.cc_tree.specs.declared.unit.Given.{Given}
use Rattle.cc_tree.specs.declared.unit.Item.{Item}
use Rattle.cc_tree.specs.declared.unit.Line as line
use Rattle.cc_tree.specs.declared.unit.Line.{Line}
use Rattle.cc_tree.specs.Operators.{comma_level}
use Rattle.cc_tree.specs.Reading.{◌>>=◌, after, eat, begins_with}
use Rattle.cc_tree.specs.ReadTypes.{begins_specs, attrs}
use Rattle.cc_tree.specs.Scopes.{Scope, name_of, declares_types}
use Rattle.cc_tree.specs.Terms.{is_nothing}
use Rattle.cc_tree.specs.Tokens.{Tokens, Name}
use Rattle.cc_tree.specs.Turns.{on, opens, made, tall}
use Rattle.cc_tree.specs.TurnTypes.{Specs, around, param, paren_declr, close_type, member_declr}
use Rattle.cc_tree.specs.TurnLines.{value_by, value, close_values, behind_comma, values_by, values, declaration, init_value, declared, init, no_init, init_or_body, declr_done, have_decl, inits_by, inits, decl_by, decl_specs, have_line, head, ends, maybe_expr, new_for, for_first, for_head, label, statement_word, statement_mark, statement_at, statement, close_by, block_line, block_by, block, with_test, with_step, for_test_by, for_test, for_step_by, for_step, items, give_part, give_specs, give_declr, give_value, begins_else, behind_else, after_else, then_done, is_while, do_while, do_done, give_line, to_tree, to_specs, to_declr, to_value, to_decl, to_line, to_body, to_item}
use Rattle.cc_tree.specs.Depth.{nodes_of_block}
use Rattle.cc_tree.proofs.MeasureTokens.{after-fewer, eat-fewer, attrs-fewer}
use Rattle.cc_tree.proofs.ReachSteps.{over, Climb, Climbs, same, scoped-climbs}
use Rattle.cc_tree.proofs.ReachTrees.{give_tree-climbs}
use Rattle.cc_tree.proofs.ReachTypes.{param-climbs, paren_declr-climbs, close_type-climbs, member_declr-climbs}
use Rattle.cc_tree.proofs.ReadingBasics.{ok_bind}

-- initialisers

value_by-climbs : (ts : Tokens) (r : Option Tokens) → IfSome r (λ us. length us < length ts) → Climbs 0 (length ts) (value_by ts r)
value_by-climbs ts None h = (omega arith, omega arith, omega arith)
value_by-climbs ts (Some us) h = (omega arith, omega arith, omega arith)

pub value-climbs : (ts : Tokens) → Climbs 0 (length ts) (value ts)
unfolding value
value-climbs ts = value_by-climbs ts (after m.LBrace ts) (after-fewer m.LBrace ts (length ts) (omega arith))

module _ (at n : ℕ) (gs : Tall (List (At Given))) where
  close_values-climbs : (ts : Tokens) → length ts ≤ n → Climbs (suc gs.height) n (close_values at gs ts)
  close_values-climbs ts h = eat-fewer m.RBrace ts (λ us. on (control.HaveValue (made at (given.Many gs.node) (suc gs.height))) us) n (Climb (suc gs.height) n) h (λ us g. (omega arith, omega arith, omega arith))

  behind_comma-climbs : (ts : Tokens) (b : Bool) → length ts < n → Climbs (suc gs.height) n (behind_comma at gs ts b)
  behind_comma-climbs ts true h = close_values-climbs ts (omega arith)
  behind_comma-climbs ts false h = (omega arith, omega arith, omega arith)

  values_by-climbs : (ts : Tokens) (r : Option Tokens) → length ts ≤ n → IfSome r (λ us. length us < n) → Climbs (suc gs.height) n (values_by at gs ts r)
  values_by-climbs ts None h k = close_values-climbs ts h
  values_by-climbs ts (Some us) h k = behind_comma-climbs us (begins_with m.RBrace us) k

values-climbs : (at : ℕ) (gs : Tall (List (At Given))) (g : Tall (At Given)) (ts : Tokens) → Climbs (suc (max gs.height g.height)) (length ts) (values at gs g ts)
values-climbs at gs g ts = values_by-climbs at (length ts) (tall (gs.node ++ g.node ∷ []) (max gs.height g.height)) ts (after m.Comma ts) (omega arith) (after-fewer m.Comma ts (length ts) (omega arith))

-- declarations

pub declaration-climbs : (outside : Bool) (ts : Tokens) → Climbs 0 (length ts) (declaration outside ts)
declaration-climbs outside ts = (omega arith, omega arith, omega arith)

module _ (scope : Scope) (d : Declaration) (e : Tall (At Declr)) (n : ℕ) where
  init_value-climbs : (a : List (At Attr)) (ts : Tokens) (r : Option Tokens) → length ts ≤ n → IfSome r (λ us. length us < n) → Climbs (max d.height e.height) n (init_value d e a ts r)
  init_value-climbs a ts (Some us) h k = (omega arith, omega arith, omega arith)
  init_value-climbs a ts None h k = (omega arith, omega arith, omega arith)

  init-climbs : (a : List (At Attr)) (x : Name) (ts : Tokens) → length ts ≤ n → Climbs (max d.height e.height) n (init d e a x ts)
  init-climbs a x ts h = scoped-climbs (max d.height e.height) n (declared (declares_types d.specs) x) (init_value d e a ts (after m.Assign ts)) (init_value-climbs a ts (after m.Assign ts) h (after-fewer m.Assign ts n h))

  init_or_body-climbs : (a : List (At Attr)) (x : Name) (ts : Tokens) (r : Option Tokens) (b : Bool) → length ts ≤ n → IfSome r (λ us. length us < n) → Climbs (max d.height e.height) n (init_or_body scope d e a x ts r b)
  init_or_body-climbs a x ts (Some us) true h k = (omega arith, omega arith, omega arith)
  init_or_body-climbs a x ts (Some us) false h k = init-climbs a x ts h
  init_or_body-climbs a x ts None b h k = init-climbs a x ts h

declr_done-climbs : (scope : Scope) (d : Declaration) (e : Tall (At Declr)) (ts : Tokens) (x : Option Name) → Climbs (max d.height e.height) (length ts) (declr_done scope d e ts x)
declr_done-climbs scope d e ts None = tt
declr_done-climbs scope d e ts (Some x) = ok_bind (attrs ts) (λ a. init_or_body scope d e a.0 x a.1 (after m.LBrace a.1) (d.outside && no_init d.inits)) (λ a. length a.1 ≤ length ts) (Climb (max d.height e.height) (length ts))
    (attrs-fewer ts) (λ a h. init_or_body-climbs scope d e (length ts) a.0 x a.1 (after m.LBrace a.1) (d.outside && no_init d.inits) h (after-fewer m.LBrace a.1 (length ts) h))

inits_by-climbs : (d : Declaration) (ts : Tokens) (r : Option Tokens) → IfSome r (λ us. length us < length ts) → Climbs d.height (length ts) (inits_by d ts r)
inits_by-climbs d ts (Some us) h = (omega arith, omega arith, omega arith)
inits_by-climbs d ts None h = eat-fewer m.Semi ts (λ us. have_decl d us) (length ts) (Climb d.height (length ts)) (omega arith) (λ us g. (omega arith, omega arith, omega arith))

pub inits-climbs : (d : Declaration) (ts : Tokens) → Climbs d.height (length ts) (inits d ts)
unfolding inits
inits-climbs d ts = inits_by-climbs d ts (after m.Comma ts) (after-fewer m.Comma ts (length ts) (omega arith))

decl_by-climbs : (d : Declaration) (ts : Tokens) (r : Option Tokens) → IfSome r (λ us. length us < length ts) → Climbs d.height (length ts) (decl_by d ts r)
decl_by-climbs d ts (Some us) h = (omega arith, omega arith, omega arith)
decl_by-climbs d ts None h = (omega arith, omega arith, omega arith)

decl_specs-climbs : (outside : Bool) (n : ℕ) (s : Specs) (ts : Tokens) → Climbs s.height (length ts) (decl_specs outside n s ts)
decl_specs-climbs outside n s ts = decl_by-climbs (record { outside = outside; at = n; specs = s.node; inits = []; height = s.height }) ts (after m.Semi ts) (after-fewer m.Semi ts (length ts) (omega arith))

-- statements

module _ (n : ℕ) where
  head-climbs : (a : ℕ) (f : PartFrame) (ts : Tokens) → a ≤ over (frame.Part f) 0 → over (frame.Part f) 0 ≤ suc a → length ts < n → Climbs a n (head f ts)
  head-climbs a f ts l g h = eat-fewer m.LParen ts (λ us. opens (frame.Part f) (control.Expr comma_level) us) n (Climb a n) (omega arith) (λ us k. (l, g, omega arith))

  ends-climbs : (at : ℕ) (l : Line) (ts : Tokens) → length ts < n → Climbs 0 n (ends at l ts)
  ends-climbs at l ts h = eat-fewer m.Semi ts (λ us. have_line at l 0 us) n (Climb 0 n) (omega arith) (λ us g. (omega arith, omega arith, omega arith))

  return-climbs : (at : ℕ) (ts : Tokens) (r : Option Tokens) → length ts < n → IfSome r (λ us. length us < n) → Climbs 0 n (maybe_expr (for_part.Return at) at (line.Return None) ts r)
  return-climbs at ts (Some us) h k = (omega arith, omega arith, omega arith)
  return-climbs at ts None h k = (omega arith, omega arith, omega arith)

  for_first-climbs : (scope : Scope) (at : ℕ) (ts : Tokens) (b : Bool) (r : Option Tokens) → length ts < n → IfSome r (λ us. length us < n) → Climbs 0 n (for_first scope at ts b r)
  for_first-climbs scope at ts true r h k = (omega arith, omega arith, omega arith)
  for_first-climbs scope at ts false (Some us) h k = (omega arith, omega arith, omega arith)
  for_first-climbs scope at ts false None h k = (omega arith, omega arith, omega arith)

  for_head-climbs : (scope : Scope) (at : ℕ) (ts : Tokens) → length ts < n → Climbs 0 n (for_head scope at ts)
  for_head-climbs scope at ts h = eat-fewer m.LParen ts (λ us. for_first scope at us (begins_specs scope us) (after m.Semi us)) n (Climb 0 n) (omega arith)
      (λ us g. for_first-climbs scope at us (begins_specs scope us) (after m.Semi us) g (after-fewer m.Semi us n (omega arith)))

  label-climbs : (at : ℕ) (ts : Tokens) → length ts < n → Climbs 0 n (label at ts)
  label-climbs at ts h = eat-fewer m.Colon ts (λ us. opens (frame.Line (for_line.Default at)) control.Statement us) n (Climb 0 n) (omega arith) (λ us g. (omega arith, omega arith, omega arith))

  -- a statement that begins with a word of its own
  module _ (scope : Scope) (all ts : Tokens) (at : ℕ) (l : length all ≤ n) (h : length ts < n) where
    word-climbs : (x : Word) → Climbs 0 n (statement_word scope all ts at x)
    word-climbs w.If = head-climbs 0 (for_part.If at) ts (omega arith) (omega arith) h
    word-climbs w.While = head-climbs 0 (for_part.While at) ts (omega arith) (omega arith) h
    word-climbs w.Switch = head-climbs 0 (for_part.Switch at) ts (omega arith) (omega arith) h
    word-climbs w.Do = (omega arith, omega arith, omega arith)
    word-climbs w.For = for_head-climbs scope at ts h
    word-climbs w.Case = (omega arith, omega arith, omega arith)
    word-climbs w.Default = label-climbs at ts h
    word-climbs w.Break = ends-climbs at line.Break ts h
    word-climbs w.Continue = ends-climbs at line.Continue ts h
    word-climbs w.Return = return-climbs at ts (after m.Semi ts) h (after-fewer m.Semi ts n (omega arith))
    word-climbs x = (omega arith, omega arith, omega arith)

    mark-climbs : (o : Mark) → Climbs 0 n (statement_mark scope all ts at o)
    mark-climbs m.LBrace = (omega arith, omega arith, omega arith)
    mark-climbs m.Semi = (omega arith, omega arith, omega arith)
    mark-climbs o = (omega arith, omega arith, omega arith)

    at-climbs : (k : Kind) → Climbs 0 n (statement_at scope all ts at k)
    at-climbs (kind.Keyword x) = word-climbs x
    at-climbs (kind.Punct o) = mark-climbs o
    at-climbs k = (omega arith, omega arith, omega arith)

pub statement-climbs : (scope : Scope) (ts : Tokens) → Climbs 0 (length ts) (statement scope ts)
unfolding statement
statement-climbs scope [] = tt
statement-climbs scope (t ∷ ts) = at-climbs (suc (length ts)) scope (t ∷ ts) ts t.at (omega arith) (omega arith) t.kind

-- blocks

close_by-climbs : (b : Bool) (bl : Block) (ts : Tokens) (n : ℕ) → length ts < n → Climbs (nodes_of_block b + bl.height) n (close_by b bl ts)
close_by-climbs true bl ts n h = (omega arith, omega arith, omega arith)
close_by-climbs false bl ts n h = (omega arith, omega arith, omega arith)

block_line-climbs : (bl : Block) (ts : Tokens) (b : Bool) → Climbs (nodes_of_block bl.body + bl.height) (length ts) (block_line bl ts b)
block_line-climbs bl ts true = (omega arith, omega arith, omega arith)
block_line-climbs bl ts false = (omega arith, omega arith, omega arith)

block_by-climbs : (scope : Scope) (bl : Block) (ts : Tokens) (r : Option Tokens) → IfSome r (λ us. length us < length ts) → Climbs (nodes_of_block bl.body + bl.height) (length ts) (block_by scope bl ts r)
block_by-climbs scope bl ts (Some us) h = scoped-climbs (nodes_of_block bl.body + bl.height) (length ts) (scoping.Leaves bl.scope) (close_by bl.body bl us) (close_by-climbs bl.body bl us (length ts) h)
block_by-climbs scope bl ts None h = block_line-climbs bl ts (begins_specs scope ts)

pub block-climbs : (scope : Scope) (bl : Block) (ts : Tokens) → Climbs (nodes_of_block bl.body + bl.height) (length ts) (block scope bl ts)
unfolding block
block-climbs scope bl ts = block_by-climbs scope bl ts (after m.RBrace ts) (after-fewer m.RBrace ts (length ts) (omega arith))

-- the parts of a `for`

for_test_by-climbs : (f : For) (ts : Tokens) (r : Option Tokens) → IfSome r (λ us. length us < length ts) → Climbs (suc f.height) (length ts) (for_test_by f ts r)
for_test_by-climbs f ts (Some us) h = (omega arith, omega arith, omega arith)
for_test_by-climbs f ts None h = (omega arith, omega arith, omega arith)

pub for_test-climbs : (f : For) (ts : Tokens) → Climbs (suc f.height) (length ts) (for_test f ts)
unfolding for_test
for_test-climbs f ts = for_test_by-climbs f ts (after m.Semi ts) (after-fewer m.Semi ts (length ts) (omega arith))

for_step_by-climbs : (f : For) (ts : Tokens) (r : Option Tokens) → IfSome r (λ us. length us < length ts) → Climbs (suc f.height) (length ts) (for_step_by f ts r)
for_step_by-climbs f ts (Some us) h = (omega arith, omega arith, omega arith)
for_step_by-climbs f ts None h = (omega arith, omega arith, omega arith)

pub for_step-climbs : (f : For) (ts : Tokens) → Climbs (suc f.height) (length ts) (for_step f ts)
unfolding for_step
for_step-climbs f ts = for_step_by-climbs f ts (after m.RParen ts) (after-fewer m.RParen ts (length ts) (omega arith))

-- translation units

pub items-climbs : (is : Items) (ts : Tokens) → Climbs is.height (length ts) (items is ts)
unfolding items
items-climbs is [] = (omega arith, omega arith, omega arith)
items-climbs is (t ∷ ts) = (omega arith, omega arith, omega arith)

-- what is handed over

module _ (e : Tall (At Tree)) (ts : Tokens) where
  then-climbs : (a : ℕ) (o : Mark) (f : LineFrame) → a ≡ over (frame.Line f) 0 → Climbs a (length ts) (eat o ts >>= λ us. opens (frame.Line f) control.Statement us)
  then-climbs a o f h = eat-fewer o ts (λ us. opens (frame.Line f) control.Statement us) (length ts) (Climb a (length ts)) (omega arith) (λ us g. (omega (arith, h), omega (arith, h), omega (arith, h)))

  line-climbs : (a at : ℕ) (l : Line) (n : ℕ) → a ≤ suc n → n ≤ a → Climbs a (length ts) (eat m.Semi ts >>= λ us. have_line at l n us)
  line-climbs a at l n h k = eat-fewer m.Semi ts (λ us. have_line at l n us) (length ts) (Climb a (length ts)) (omega arith) (λ us g. (omega arith, omega arith, omega arith))

  give_part-climbs : (f : PartFrame) → Climbs (over (frame.Part f) e.height) (length ts) (give_part e ts f)
  give_part-climbs (for_part.Bound d) = eat-fewer m.RBracket ts (λ us. on (control.Suffix (around d (declr.Array d.node (Some e.node)) (max d.height e.height))) us) (length ts)
      (Climb (over (frame.Part (for_part.Bound d)) e.height) (length ts)) (omega arith) (λ us g. (omega arith, omega arith, omega arith))
  give_part-climbs (for_part.Enumr en n x) = (omega arith, omega arith, omega arith)
  give_part-climbs for_part.Value = (omega arith, omega arith, omega arith)
  give_part-climbs (for_part.If n) = then-climbs (over (frame.Part (for_part.If n)) e.height) m.RParen (for_line.Then n e) (omega arith)
  give_part-climbs (for_part.While n) = then-climbs (over (frame.Part (for_part.While n)) e.height) m.RParen (for_line.While n e) (omega arith)
  give_part-climbs (for_part.Switch n) = then-climbs (over (frame.Part (for_part.Switch n)) e.height) m.RParen (for_line.Switch n e) (omega arith)
  give_part-climbs (for_part.Do n a) = eat-fewer m.RParen ts (λ us. eat m.Semi us >>= λ vs. have_line n (line.DoWhile a.node e.node) (max a.height e.height) vs) (length ts)
      (Climb (over (frame.Part (for_part.Do n a)) e.height) (length ts)) (omega arith)
      (λ us g. eat-fewer m.Semi us (λ vs. have_line n (line.DoWhile a.node e.node) (max a.height e.height) vs) (length ts)
      (Climb (over (frame.Part (for_part.Do n a)) e.height) (length ts)) (omega arith) (λ vs k. (omega arith, omega arith, omega arith)))
  give_part-climbs (for_part.First n count) = eat-fewer m.Semi ts (λ us. on (control.Test (new_for n count (first.Expr (Some e.node)) e.height)) us) (length ts)
      (Climb (over (frame.Part (for_part.First n count)) e.height) (length ts)) (omega arith) (λ us g. (omega arith, omega arith, omega arith))
  give_part-climbs (for_part.Test f) = eat-fewer m.Semi ts (λ us. on (control.Step (with_test f (Some e.node) e.height)) us) (length ts)
      (Climb (over (frame.Part (for_part.Test f)) e.height) (length ts)) (omega arith) (λ us g. (omega arith, omega arith, omega arith))
  give_part-climbs (for_part.Step f) = then-climbs (over (frame.Part (for_part.Step f)) e.height) m.RParen (for_line.For (with_step f (Some e.node) e.height)) (omega arith)
  give_part-climbs (for_part.Case n) = then-climbs (over (frame.Part (for_part.Case n)) e.height) m.Colon (for_line.Case n e) (omega arith)
  give_part-climbs (for_part.Return n) = line-climbs (over (frame.Part (for_part.Return n)) e.height) n (line.Return (Some e.node)) e.height (omega arith) (omega arith)
  give_part-climbs (for_part.Expr n) = line-climbs (over (frame.Part (for_part.Expr n)) e.height) n (line.Expr (Some e.node)) e.height (omega arith) (omega arith)

pub to_tree-climbs : (level : ℕ) (e : Tall (At Tree)) (ts : Tokens) (f : Frame) → Climbs (over f e.height) (length ts) (to_tree level e ts f)
to_tree-climbs level e ts (frame.Tree f) = give_tree-climbs level e ts f
to_tree-climbs level e ts (frame.Part f) = give_part-climbs e ts f
to_tree-climbs level e ts f = tt

give_specs-climbs : (s : Specs) (ts : Tokens) (f : SpecsFrame) → Climbs (over (frame.Specs f) s.height) (length ts) (give_specs s ts f)
give_specs-climbs s ts (for_specs.TypeName u n) = (omega arith, omega arith, omega arith)
give_specs-climbs s ts (for_specs.Param f n) = (omega arith, omega arith, omega arith)
give_specs-climbs s ts (for_specs.Member st n) = (omega arith, omega arith, omega arith)
give_specs-climbs s ts (for_specs.Decl outside n) = same (over (frame.Specs (for_specs.Decl outside n)) s.height) s.height (length ts) (omega arith) (decl_specs outside n s ts) (decl_specs-climbs outside n s ts)

pub to_specs-climbs : (s : Specs) (ts : Tokens) (f : Frame) → Climbs (over f s.height) (length ts) (to_specs s ts f)
to_specs-climbs s ts (frame.Specs f) = give_specs-climbs s ts f
to_specs-climbs s ts f = tt

give_declr-climbs : (scope : Scope) (d : Tall (At Declr)) (ts : Tokens) (f : DeclrFrame) → Climbs (over (frame.Declr f) d.height) (length ts) (give_declr scope d ts f)
give_declr-climbs scope d ts (for_declr.Paren n) = same (over (frame.Declr (for_declr.Paren n)) d.height) (suc d.height) (length ts) (omega arith) (paren_declr n d ts (is_nothing d.node.node)) (paren_declr-climbs n d ts (is_nothing d.node.node))
give_declr-climbs scope d ts (for_declr.Pointer n qs) = (omega arith, omega arith, omega arith)
give_declr-climbs scope d ts (for_declr.TypeName u n s) = same (over (frame.Declr (for_declr.TypeName u n s)) d.height) (suc (max s.height d.height)) (length ts) (omega arith) (close_type u n s d ts (is_some (name_of d.node.node))) (close_type-climbs u n s d ts (is_some (name_of d.node.node)))
give_declr-climbs scope d ts (for_declr.Param f n s) = same (over (frame.Declr (for_declr.Param f n s)) d.height) (suc (max f.height (max s.height d.height))) (length ts) (omega arith) (param f n s d ts) (param-climbs f n s d ts)
give_declr-climbs scope d ts (for_declr.Member ms) = same (over (frame.Declr (for_declr.Member ms)) d.height) (max ms.height d.height) (length ts) (omega arith) (member_declr ms d ts (is_some (name_of d.node.node))) (member_declr-climbs ms d ts (is_some (name_of d.node.node)))
give_declr-climbs scope d ts (for_declr.Init dn) = same (over (frame.Declr (for_declr.Init dn)) d.height) (max dn.height d.height) (length ts) (omega arith) (declr_done scope dn d ts (name_of d.node.node)) (declr_done-climbs scope dn d ts (name_of d.node.node))

pub to_declr-climbs : (scope : Scope) (d : Tall (At Declr)) (ts : Tokens) (f : Frame) → Climbs (over f d.height) (length ts) (to_declr scope d ts f)
to_declr-climbs scope d ts (frame.Declr f) = give_declr-climbs scope d ts f
to_declr-climbs scope d ts f = tt

give_value-climbs : (g : Tall (At Given)) (ts : Tokens) (f : ValueFrame) → Climbs (over (frame.Value f) g.height) (length ts) (give_value g ts f)
give_value-climbs g ts (for_value.Init d e a) = (omega arith, omega arith, omega arith)
give_value-climbs g ts (for_value.Many n gs) = same (over (frame.Value (for_value.Many n gs)) g.height) (suc (max gs.height g.height)) (length ts) (omega arith) (values n gs g ts) (values-climbs n gs g ts)

pub to_value-climbs : (g : Tall (At Given)) (ts : Tokens) (f : Frame) → Climbs (over f g.height) (length ts) (to_value g ts f)
to_value-climbs g ts (frame.Value f) = give_value-climbs g ts f
to_value-climbs g ts f = tt

pub to_decl-climbs : (n : ℕ) (d : Tall Decl) (ts : Tokens) (f : Frame) → Climbs (over f d.height) (length ts) (to_decl n d ts f)
to_decl-climbs n d ts (frame.Block b) = (omega arith, omega arith, omega arith)
to_decl-climbs n d ts (frame.First k count) = (omega arith, omega arith, omega arith)
to_decl-climbs n d ts (frame.Items is) = (omega arith, omega arith, omega arith)
to_decl-climbs n d ts f = tt

behind_else-fewer : (ts : Tokens) (b : Bool) (n : ℕ) → length ts < n → IfSome (behind_else ts b) (λ us. length us < n)
behind_else-fewer ts true n h = h
behind_else-fewer ts false n h = tt

after_else-fewer : (ts : Tokens) → IfSome (after_else ts) (λ us. length us < length ts)
unfolding after_else
after_else-fewer [] = tt
after_else-fewer (t ∷ ts) = behind_else-fewer ts (begins_else t.kind) (suc (length ts)) (omega arith)

then_done-climbs : (n : ℕ) (c : Tall (At Tree)) (a : Tall (At Line)) (ts : Tokens) (r : Option Tokens) → IfSome r (λ us. length us < length ts) → Climbs (suc (max c.height a.height)) (length ts) (then_done n c a ts r)
then_done-climbs n c a ts None h = (omega arith, omega arith, omega arith)
then_done-climbs n c a ts (Some us) h = (omega arith, omega arith, omega arith)

do_while-climbs : (n : ℕ) (a : Tall (At Line)) (all ts : Tokens) (b : Bool) → length ts < length all → Climbs (suc a.height) (length all) (do_while n a all ts b)
do_while-climbs n a all ts true h = head-climbs (length all) (suc a.height) (for_part.Do n a) ts (omega arith) (omega arith) h
do_while-climbs n a all ts false h = tt

do_done-climbs : (n : ℕ) (a : Tall (At Line)) (ts : Tokens) → Climbs (suc a.height) (length ts) (do_done n a ts)
unfolding do_done
do_done-climbs n a [] = tt
do_done-climbs n a (t ∷ ts) = do_while-climbs n a (t ∷ ts) ts (is_while t.kind) (omega arith)

give_line-climbs : (a : Tall (At Line)) (ts : Tokens) (f : LineFrame) → Climbs (over (frame.Line f) a.height) (length ts) (give_line a ts f)
give_line-climbs a ts (for_line.Then n c) = same (over (frame.Line (for_line.Then n c)) a.height) (suc (max c.height a.height)) (length ts) (omega arith) (then_done n c a ts (after_else ts)) (then_done-climbs n c a ts (after_else ts) (after_else-fewer ts))
give_line-climbs a ts (for_line.Else n c b) = (omega arith, omega arith, omega arith)
give_line-climbs a ts (for_line.While n c) = (omega arith, omega arith, omega arith)
give_line-climbs a ts (for_line.Switch n c) = (omega arith, omega arith, omega arith)
give_line-climbs a ts (for_line.Do n) = same (over (frame.Line (for_line.Do n)) a.height) (suc a.height) (length ts) (omega arith) (do_done n a ts) (do_done-climbs n a ts)
give_line-climbs a ts (for_line.For f) = (omega arith, omega arith, omega arith)
give_line-climbs a ts (for_line.Case n c) = (omega arith, omega arith, omega arith)
give_line-climbs a ts (for_line.Default n) = (omega arith, omega arith, omega arith)

pub to_line-climbs : (a : Tall (At Line)) (ts : Tokens) (f : Frame) → Climbs (over f a.height) (length ts) (to_line a ts f)
to_line-climbs a ts (frame.Line f) = give_line-climbs a ts f
to_line-climbs a ts (frame.Block b) = (omega arith, omega arith, omega arith)
to_line-climbs a ts f = tt

pub to_body-climbs : (b : Tall (List (At Line))) (ts : Tokens) (f : Frame) → Climbs (over f b.height) (length ts) (to_body b ts f)
to_body-climbs b ts (frame.Body h) = (omega arith, omega arith, omega arith)
to_body-climbs b ts f = tt

pub to_item-climbs : (i : Tall (At Item)) (ts : Tokens) (f : Frame) → Climbs (over f i.height) (length ts) (to_item i ts f)
to_item-climbs i ts (frame.Items is) = (omega arith, omega arith, omega arith)
to_item-climbs i ts f = tt
