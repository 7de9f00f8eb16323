-- What the lines of a function's body mean (C99 6.8), in a function with such a result.
use Rattle.std.specs.Prelude.{ℤ, List, Option, Err, if◌then◌else◌}
use Rattle.cc_program.specs.CcNum.declared.int_type.IntType.{IntType}
use Rattle.cc_program.specs.CcNum.declared.target.Target.{Target}
use Rattle.cc_terms.specs.CcOperands.Verdicts.{Judged}
use Rattle.cc_terms.specs.CcOperands.declared.rule.Rule.TheVariants as rule
use Rattle.cc_program.specs.declared.program.Roles.{Roles}
use Rattle.cc_program.specs.declared.stmt.Stmt.{Stmt}
use Rattle.cc_program.specs.declared.types.CType.{CType}
use Rattle.cc_scopes.specs.State.{Name}
use Rattle.cc_scopes.specs.Verdicts.{Meaning, whole, and_then, maybe_found}
use Rattle.cc_tree.specs.declared.at.At.{At}
use Rattle.cc_tree.specs.declared.tree.Tree.{Tree}
use Rattle.cc_tree.specs.declared.unit.First.{First}
use Rattle.cc_tree.specs.declared.unit.Line.{Line, fold-Line}
use Rattle.cc_tree.specs.declared.unit.Line.TheOpen as one_line
use Rattle.cc_typed_bodies.specs.Meanings.{LineMeaning, scoped, opens_scope, block_found, body_found, maybe_body, cases_inside, not_switched, switch_body, is_empty, counts, unlabelled}
use Rattle.cc_typed_bodies.specs.Parts.{value_here, effect_found, expression_found, return_found, declared_found, first_found}
use Rattle.cc_typed_statements.specs.Jumps.{in_loop, in_switch, break_of, continue_of}
use Rattle.cc_typed_statements.specs.Labels.{case_label, default_label, cases_behind, label_done}
use Rattle.cc_typed_statements.specs.Statements.{if_of, while_of, do_of, for_of}
use Rattle.cc_typed_statements.specs.Switch.{switch_type, switch_of}
use Rattle.cc_typed_statements.specs.declared.cases.Cases.{Cases}
use Rattle.cc_typed_statements.specs.declared.jumps.Jumps.{Jumps}

-- ---- labels (6.8.1)

-- elsewhere than in the body of a `switch` a label is at fault behind its expression and its statement
unfoldable pub misplaced : At LineMeaning → Jumps → Meaning (List Stmt)
misplaced a j at s = and_then (a.node.line j a.at s) (λ ss s. whole at s (Err rule.CaseLabel))

unfoldable pub label_found : Judged (Option ℤ) → At LineMeaning → Jumps → IntType → Cases → Meaning Cases
label_found l a j t cases at s = and_then (a.node.item j t (cases_behind l cases) a.at s) (λ cases s. whole at s (label_done l cases))

module _ (target : Target) (roles : Roles) where
  unfoldable pub misplaced_case : At Tree → At LineMeaning → Jumps → Meaning (List Stmt)
  misplaced_case e a j at s = and_then (value_here target roles e s) (λ x s. misplaced a j at s)

  unfoldable pub case_found : At Tree → At LineMeaning → Jumps → IntType → Cases → Meaning Cases
  case_found e a j t cases at s = and_then (value_here target roles e s) (λ x s. label_found (case_label target t x cases) a j t cases at s)

  -- ---- choices and loops, inside their scope (6.8.4, 6.8.5)

  unfoldable pub if_found : At Tree → At LineMeaning → Option (At LineMeaning) → Jumps → Meaning (List Stmt)
  if_found e a b j at s =
      and_then (value_here target roles e s) (λ x s.
      and_then (body_found j a s) (λ these s.
      and_then (maybe_body j b s) (λ those s. whole at s (if_of x these those))))

  unfoldable pub while_found : At Tree → At LineMeaning → Jumps → Meaning (List Stmt)
  while_found e a j at s = and_then (value_here target roles e s) (λ x s. and_then (body_found (in_loop j) a s) (λ body s. whole at s (while_of x body)))

  unfoldable pub do_found : At LineMeaning → At Tree → Jumps → Meaning (List Stmt)
  do_found a e j at s = and_then (body_found (in_loop j) a s) (λ body s. and_then (value_here target roles e s) (λ x s. whole at s (do_of body x)))

  unfoldable pub switch_found : At Tree → At LineMeaning → Jumps → Meaning (List Stmt)
  switch_found e a j at s =
      and_then (value_here target roles e s) (λ x s.
      and_then (switch_body (in_switch j) (switch_type target x.type) a s) (λ cases s. whole at s (switch_of target x cases)))

module _ (target : Target) (roles : Roles) (defined : List Name) where
  unfoldable pub for_found : First → Option (At Tree) → Option (At Tree) → At LineMeaning → Jumps → Meaning (List Stmt)
  for_found f test step a j at s =
      and_then (first_found target roles defined f s) (λ f s.
      and_then (maybe_found (value_here target roles) test s) (λ test s.
      and_then (maybe_found (effect_found target roles) step s) (λ step s.
      and_then (body_found (in_loop j) a s) (λ body s. whole at s (for_of f test step body)))))

module _ (target : Target) (roles : Roles) (defined : List Name) (result : CType) where
  -- ---- a line inside its scope

  abbrev pub inside : one_line.Line-F LineMeaning → Jumps → Meaning (List Stmt)
  inside (one_line.Block ls) j at s = block_found j ls s
  inside (one_line.Decl d) j at s = declared_found target roles defined d s
  inside (one_line.Expr e) j at s = expression_found target roles e s
  inside (one_line.If e a b) j at s = if_found target roles e a b j at s
  inside (one_line.While e a) j at s = while_found target roles e a j at s
  inside (one_line.DoWhile a e) j at s = do_found target roles a e j at s
  inside (one_line.For f test step a) j at s = for_found target roles defined f test step a j at s
  inside (one_line.Switch e a) j at s = switch_found target roles e a j at s
  inside (one_line.Case e a) j at s = misplaced_case target roles e a j at s
  inside (one_line.Default a) j at s = misplaced a j at s
  inside one_line.Break j at s = whole at s (break_of j)
  inside one_line.Continue j at s = whole at s (continue_of j)
  inside (one_line.Return e) j at s = return_found target roles result e at s

  abbrev pub line_by : one_line.Line-F LineMeaning → Jumps → Meaning (List Stmt)
  line_by l j at s = if opens_scope l then scoped (inside l j at) s else inside l j at s

  -- ---- as the body of a `switch`, and at the top level of one (6.8.4.2)

  abbrev pub switched_by : one_line.Line-F LineMeaning → Jumps → IntType → Meaning (Option Cases)
  switched_by (one_line.Block ls) j t at s = scoped (cases_inside j t ls) s
  switched_by l j t at s = not_switched (line_by l) j at s

  abbrev pub item_by : one_line.Line-F LineMeaning → Jumps → IntType → Cases → Meaning Cases
  item_by (one_line.Case e a) j t cases at s = case_found target roles e a j t cases at s
  item_by (one_line.Default a) j t cases at s = label_found (default_label cases) a j t cases at s
  item_by l j t cases at s = unlabelled (is_empty l) (counts l) (line_by l) j cases at s

  abbrev pub line_step : one_line.Line-F LineMeaning → LineMeaning
  line_step l = record { inside = inside l; line = line_by l; switched = switched_by l; item = item_by l }

  unfoldable pub line_of : Line → LineMeaning
  line_of l = fold-Line LineMeaning line_step l

  abbrev pub line_here : At Line → At LineMeaning
  line_here l = record { at = l.at; node = line_of l.node }
