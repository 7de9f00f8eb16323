-- Which constraints are asked again where one has raised facts: those that read, by their form and by the facts, a thing that it raises. They
-- are told by their numbers.
use Rattle.std.specs.Prelude.{ℕ, ◌+◌, ◌*◌, ◌==◌, nat_lt, Bool, true, false, ◌&&◌, List, [], ◌∷◌, ◌++◌, map, length, Option, Some, None, is_none, slice_get, if◌then◌else◌}
use Rattle.std.specs.List.{filter, flat_map, list_any}
use Rattle.cc_rules_grow.specs.CcFlow.declared.types.Point.{Point}
use Rattle.cc_rules_grow.specs.CcFlow.Points.{flow_of}
use Rattle.cc_rules_grow.specs.CcFlowSound.Moves.{entry}
use Rattle.cc_program.specs.declared.expr.Expr.{Expr, out-Expr}
use Rattle.cc_program.specs.declared.expr.Expr.TheOpen as one
use Rattle.cc_program.specs.declared.expr.Place.{Place, out-Place}
use Rattle.cc_program.specs.declared.func.Func.{Func}
use Rattle.cc_program.specs.declared.program.Program.{Program}
use Rattle.cc_rules_grow.specs.CcRules.Constraints.{Rule, Initial, Start, Flow, Write, Touch, Call, Back, Return, Handler, Stability, Constraint}
use Rattle.cc_rules_grow.specs.CcRules.Rules.{act_at, handlers}
use Rattle.cc_rules_again.specs.Named.{Named, NoKey, LocalsOf, EachKey, concerns, is_named, is_each, named}
use Rattle.cc_rules_grow.specs.CcRulesFlows.Acts.{Act, Reads, Writes, Calls, Returns}
use Rattle.cc_rules_grow.specs.CcRulesFlows.Nexts.{statement_of, exit_of}
use Rattle.cc_rules_grow.specs.CcRulesNeeds.Flowing.{numbers}
use Rattle.cc_rules_grow.specs.CcStateFacts.declared.facts.Facts.{Facts}
use Rattle.cc_rules_grow.specs.CcStateFacts.declared.facts.Key.TheVariants as key
use Rattle.cc_rules_grow.specs.CcStateFacts.Facts.{levels_of}
use Rattle.cc_rules_grow.specs.CcStateFacts.Levels.{one_may_enter}
use Rattle.cc_rules_grow.specs.CcStateKeys.Keys.{key_number}
use Rattle.cc_rules_grow.specs.CcStateKeys.Tracked.{tracked}
use Rattle.cc_rules_grow.specs.CcStateReads.Reads.{tracked_in}

-- ---- the number of a constraint in the list of all

abbrev pub place_of : Rule → ℕ
place_of Initial = 0
place_of Start = 0
place_of Flow = 1
place_of Write = 2
place_of Touch = 3
place_of Call = 4
place_of Back = 5
place_of Return = 6
place_of Handler = 7
place_of Stability = 8

abbrev pub number_at : Rule → ℕ → ℕ
number_at rule n = 1 + (n * 9 + place_of rule)

abbrev pub number_of : Constraint → ℕ
number_of c = by_rule c.rule
  where
    by_rule : Rule → ℕ
    by_rule Initial = 0
    by_rule rule = number_at rule c.point

-- ---- what a statement does, as far as that decides who reads it

abbrev pub is_callee : one.Expr-F Expr Place → ℕ → Bool
is_callee (one.FuncAddr h) g = g == h
is_callee _ g = true

abbrev pub may_call : Act → ℕ → Bool
may_call (Calls result e args) g = is_callee (out-Expr e) g
may_call _ g = false

abbrev pub is_call : Act → Bool
is_call (Calls result e args) = true
is_call _ = false

abbrev pub returns : Act → Bool
returns (Returns (Some e)) = true
returns _ = false

-- the keys that are written, and accessed
abbrev pub written : ℕ → Act → Named
written id (Writes a e) = named id a
written id _ = NoKey

abbrev pub accessed : ℕ → Act → Named
accessed id (Reads r a) = named id a
accessed id (Writes a e) = named id a
accessed id _ = NoKey

module _ (p : Program) where
  -- a read of a tracked cell reads what is known at its point
  abbrev pub read : ℕ → Act → Named
  read id (Reads r a) = if is_none (tracked_in p (out-Place a)) then named id a else NoKey
  read id _ = NoKey

  -- ---- points by their statements

  abbrev pub ids : List ℕ
  ids = numbers 0 (length p.funcs)

  abbrev pub does_in : (ℕ → Act → Bool) → Point → Option Func → Bool
  does_in test point None = false
  does_in test point (Some f) = test point.func (act_at (statement_of f point) f)

  abbrev pub does : (ℕ → Act → Bool) → Option Point → Bool
  does test None = false
  does test (Some point) = does_in test point (slice_get p.funcs point.func)

  -- a constraint of each point where a statement does something
  abbrev pub at_each : Rule → (ℕ → Act → Bool) → List ℕ
  at_each rule test = map (number_at rule) (filter (λ n. does test (slice_get (flow_of p).points n)) (numbers 0 (length (flow_of p).points)))

  -- ---- who reads something

  -- what is known at a point: the constraints there, and those behind calls of a function whose exit it is
  abbrev pub result_readers : ℕ → List ℕ
  result_readers g = at_each Back (λ id act. may_call act g)

  abbrev pub exit_is : ℕ → ℕ → Option Func → Bool
  exit_is n g None = false
  exit_is n g (Some f) = exit_of p g f == n

  abbrev pub own : ℕ → List ℕ
  own n = if nat_lt n (length (flow_of p).points) then map (λ rule. number_at rule n) (Flow ∷ Write ∷ Touch ∷ Call ∷ Back ∷ Return ∷ Handler ∷ Stability ∷ []) else []

  abbrev pub point_readers : ℕ → List ℕ
  point_readers n = own n ++ flat_map result_readers (filter (λ g. exit_is n g (slice_get p.funcs g)) ids)

  abbrev pub reach_readers : ℕ → List ℕ
  reach_readers g = flat_map (λ rule. at_each rule (λ id act. id == g)) (Touch ∷ Call ∷ Handler ∷ Stability ∷ [])

  abbrev pub through_pointers : List ℕ
  through_pointers = at_each Flow (λ id act. is_each (read id act))

  -- of tracked cells among some keys
  abbrev pub has_tracked : Named → Bool
  has_tracked keys = list_any (λ i. concerns keys (key.Object i)) (tracked p)

  abbrev pub touch_readers : Named → List ℕ
  touch_readers keys = if has_tracked keys then at_each Stability (λ id act. true) else []

  abbrev pub entry_readers : ℕ → List ℕ
  entry_readers g = reach_readers g ++ point_readers (entry p g)

  module _ {I : Type 0} (facts : Facts I) where
    abbrev pub is_entered : ℕ → Option ℕ → Bool
    is_entered id None = false
    is_entered id (Some k) = one_may_enter (levels_of facts.levels id) (levels_of facts.write_levels k)

    -- whether handlers that may enter over a function may write a tracked cell among some keys
    abbrev pub is_unstable : Named → ℕ → Bool
    is_unstable keys id = list_any (λ i. concerns keys (key.Object i) && is_entered id (key_number p (key.Object i))) (tracked p)

    abbrev pub whole_readers : Named → List ℕ
    whole_readers keys = at_each Flow (λ id act. is_named keys (read id act)) ++ (through_pointers ++ at_each Stability (λ id act. is_unstable keys id))

    -- the arguments of a call
    abbrev pub call_readers : ℕ → List ℕ
    call_readers g = entry_readers g ++ whole_readers (LocalsOf g)

    -- ---- who reads what a constraint raises

    abbrev pub again_here : Rule → ℕ → Point → Act → List ℕ
    again_here Initial n point act = []
    again_here Start n point act = []
    again_here Flow n point act = flat_map point_readers point.next
    again_here Write n point act = whole_readers (written point.func act)
    again_here Touch n point act = touch_readers (accessed point.func act)
    again_here Call n point act = flat_map call_readers (filter (may_call act) ids)
    again_here Back n point act = if is_call act then flat_map point_readers point.next else []
    again_here Return n point act = if returns act then result_readers point.func else []
    again_here Handler n point act = flat_map entry_readers (handlers p)
    again_here Stability n point act = point_readers n

    abbrev pub again_in : Rule → ℕ → Point → Option Func → List ℕ
    again_in rule n point None = []
    again_in rule n point (Some f) = again_here rule n point (act_at (statement_of f point) f)

    abbrev pub again_at : Rule → ℕ → Option Point → List ℕ
    again_at rule n None = []
    again_at rule n (Some point) = again_in rule n point (slice_get p.funcs point.func)

    abbrev pub again_of : Constraint → List ℕ
    again_of c = by_rule c.rule
      where
        by_rule : Rule → List ℕ
        by_rule Initial = whole_readers EachKey
        by_rule Start = if c.point == entry p p.main then entry_readers p.main else []
        by_rule rule = again_at rule c.point (slice_get (flow_of p).points c.point)
