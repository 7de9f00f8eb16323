-- What a line of a function's body means (C99 6.8): a statement, or a declaration in a block.
use Rattle.std.specs.Prelude.{Bool, true, false, List, [], ◌∷◌, ◌++◌, Option, Some, None, Ok, if◌then◌else◌}
use Rattle.std.specs.List.{list_any}
use Rattle.cc_program.specs.CcNum.declared.int_type.IntType.{IntType}
use Rattle.cc_objects.specs.Categories.{is_given}
use Rattle.cc_program.specs.declared.stmt.Stmt.{Stmt, Empty, Block}
use Rattle.cc_scopes.specs.State.{State, empty, entered, left}
use Rattle.cc_scopes.specs.Verdicts.{Found, Meaning, and_then}
use Rattle.cc_terms.specs.InTurn.{in_turn}
use Rattle.cc_tree.specs.declared.at.At.{At}
use Rattle.cc_tree.specs.declared.unit.Line.TheOpen as one_line
use Rattle.cc_typed_statements.specs.Conditions.{body_of}
use Rattle.cc_typed_statements.specs.Labels.{no_case, behind, behind_empty}
use Rattle.cc_typed_statements.specs.declared.cases.Cases.{Cases}
use Rattle.cc_typed_statements.specs.declared.jumps.Jumps.{Jumps}

-- as a statement or a declaration where it stands, inside the scope that it may have of its own and with it; as the
-- body of a `switch`, which is none where it isn't a block; and at the top level of such a body, behind other cases
pub record LineMeaning : Type 0 where
  pub inside : Jumps → Meaning (List Stmt)
  pub line : Jumps → Meaning (List Stmt)
  pub switched : Jumps → IntType → Meaning (Option Cases)
  pub item : Jumps → IntType → Cases → Meaning Cases

abbrev pub done : Stmt → State → Found (List Stmt)
done x s = Ok (x ∷ [], s)

-- ---- a scope of its own have a block, each choice and each loop, and each statement in one (6.8.2; 6.8.4, 3; 6.8.5, 5)

unfoldable pub scoped : {A : Type 0} → (State → Found A) → State → Found A
scoped inner s = and_then (inner (entered empty s)) (λ x s. Ok (x, left s))

abbrev pub opens_scope : {A : Type 0} → one_line.Line-F A → Bool
opens_scope (one_line.Block ls) = true
opens_scope (one_line.If e a b) = true
opens_scope (one_line.While e a) = true
opens_scope (one_line.DoWhile a e) = true
opens_scope (one_line.For first test step a) = true
opens_scope (one_line.Switch e a) = true
opens_scope _ = false

-- ---- lines one behind another

abbrev pub line_found : Jumps → At LineMeaning → List Stmt → State → Found (List Stmt)
line_found j l before s = and_then (l.node.line j l.at s) (λ ss s. Ok (before ++ ss, s))

unfoldable pub lines_found : Jumps → List (At LineMeaning) → State → Found (List Stmt)
lines_found j ls s = in_turn (line_found j) ls [] s

unfoldable pub block_found : Jumps → List (At LineMeaning) → State → Found (List Stmt)
block_found j ls s = and_then (lines_found j ls s) (λ ss s. done (Block ss) s)

-- ---- a statement in another

unfoldable pub body_inside : Jumps → At LineMeaning → State → Found (List Stmt)
body_inside j l s = and_then (l.node.line j l.at s) (λ ss s. Ok (body_of ss, s))

abbrev pub body_found : Jumps → At LineMeaning → State → Found (List Stmt)
body_found j l s = scoped (body_inside j l) s

unfoldable pub maybe_body : Jumps → Option (At LineMeaning) → State → Found (List Stmt)
maybe_body j None s = Ok ([], s)
maybe_body j (Some l) s = body_found j l s

-- ---- the body of a `switch` (6.8.4.2): the lines of a block with their cases; what is no block has none

abbrev pub item_found : Jumps → IntType → At LineMeaning → Cases → State → Found Cases
item_found j t l cases s = l.node.item j t cases l.at s

unfoldable pub items_found : Jumps → IntType → List (At LineMeaning) → State → Found Cases
items_found j t ls s = in_turn (item_found j t) ls no_case s

unfoldable pub cases_inside : Jumps → IntType → List (At LineMeaning) → State → Found (Option Cases)
cases_inside j t ls s = and_then (items_found j t ls s) (λ cases s. Ok (Some cases, s))

unfoldable pub not_switched : (Jumps → Meaning (List Stmt)) → Jumps → Meaning (Option Cases)
not_switched line j at s = and_then (line j at s) (λ ss s. Ok (None, s))

abbrev pub switch_body : Jumps → IntType → At LineMeaning → State → Found (Option Cases)
switch_body j t l s = scoped (l.node.switched j t l.at) s

-- ---- what has no label stands behind the last one; an empty statement right behind labels is none

abbrev pub is_empty : {A : Type 0} → one_line.Line-F A → Bool
is_empty (one_line.Expr None) = true
is_empty _ = false

abbrev pub empty_item : Cases → State → Found Cases
empty_item cases s = Ok (behind_empty (Empty ∷ []) cases, s)

unfoldable pub unlabelled : Bool → Bool → (Jumps → Meaning (List Stmt)) → Jumps → Cases → Meaning Cases
unlabelled empty counts line j cases at s =
    if empty then empty_item cases s
    else and_then (line j at s) (λ ss s. Ok (behind counts ss cases, s))

-- whether a line may not stand in front of the first label: a declaration may that gives no value
abbrev pub counts : {A : Type 0} → one_line.Line-F A → Bool
counts (one_line.Decl d) = list_any is_given d.inits
counts _ = true
