-- Each number that is listed is that of a constraint.
use Rattle.std.proofs.Common.{arith, ◌≡◌, ℕ, ◌+◌, ◌*◌, ◌<◌, Bool, true, false, List, [], ◌∷◌, ◌++◌, map, length, Option, Some, None, slice_get, refl}
use Rattle.std.specs.Prelude.{◌==◌, nat_lt, if◌then◌else◌}
use Rattle.std.specs.List.{filter, flat_map}
use Rattle.cc_rules_grow.specs.CcFlow.declared.types.Point.{Point}
use Rattle.cc_rules_grow.specs.CcFlow.Points.{flow_of}
use Rattle.cc_rules_grow.specs.CcFlowSound.Moves.{entry}
use Rattle.cc_program.specs.declared.func.Func.{Func}
use Rattle.cc_program.specs.declared.program.Program.{Program}
use Rattle.cc_rules_grow.specs.CcRules.Constraints.{Rule, Initial, Start, Flow, Write, Touch, Call, Back, Return, Handler, Stability, Constraint}
use Rattle.cc_rules_grow.specs.CcRules.Rules.{act_at, handlers}
use Rattle.cc_rules_again.proofs.Lists.{number_below, each_flat_in}
use Rattle.cc_rules_again.specs.Again.{place_of, number_at, may_call, is_call, returns, written, accessed, read, ids, does, at_each, result_readers, exit_is, own, point_readers, reach_readers, through_pointers, has_tracked, entry_readers, is_unstable, whole_readers, call_readers, again_here, again_in, again_at, again_of}
use Rattle.cc_rules_again.specs.Named.{Named, LocalsOf, EachKey, is_named, is_each}
use Rattle.cc_rules_grow.specs.CcRulesFlows.Acts.{Act}
use Rattle.cc_rules_grow.specs.CcRulesFlows.Nexts.{statement_of}
use Rattle.cc_rules_grow.proofs.Elements.{Each, each_append, each_map}
use Rattle.cc_rules_grow.specs.CcRulesNeeds.Flowing.{numbers}
use Rattle.cc_rules_grow.proofs.CcState.Lists.{from_filter}
use Rattle.cc_rules_grow.specs.CcStateFacts.declared.facts.Facts.{Facts}

place_below : (rule : Rule) → place_of rule < 9
place_below Initial = omega arith
place_below Start = omega arith
place_below Flow = omega arith
place_below Write = omega arith
place_below Touch = omega arith
place_below Call = omega arith
place_below Back = omega arith
place_below Return = omega arith
place_below Handler = omega arith
place_below Stability = omega arith

module _ (p : Program) where
  abbrev pub count : ℕ
  count = length (flow_of p).points

  abbrev pub IsCounted : ℕ → Type 0
  IsCounted number = number < 1 + count * 9

  abbrev AreCounted : List ℕ → Type 0
  AreCounted list = Each IsCounted list

  one_counted : (rule : Rule) (n : ℕ) → n < count → IsCounted (number_at rule n)
  one_counted rule n l = let b = place_below rule in omega (arith, l, b)

  each_counted : (rule : Rule) (test : ℕ → Act → Bool) → AreCounted (at_each p rule test)
  each_counted rule test = each_map IsCounted (number_at rule) (filter (λ n. does p test (slice_get (flow_of p).points n)) (numbers 0 count))
      (λ n c. (let b = number_below 0 count n (from_filter (λ n. does p test (slice_get (flow_of p).points n)) (numbers 0 count) n c).0 in one_counted rule n (omega (arith, b))))

  abbrev later : List Rule
  later = Flow ∷ Write ∷ Touch ∷ Call ∷ Back ∷ Return ∷ Handler ∷ Stability ∷ []

  less_of : (m n : ℕ) → nat_lt m n ≡ true → m < n
  less_of m n h = grind (arith, h)

  own_counted : (n : ℕ) → AreCounted (own p n)
  own_counted n = by (nat_lt n count) refl
    where
      by : (b : Bool) → nat_lt n count ≡ b → AreCounted (if b then map (λ rule. number_at rule n) later else [])
      by true h = each_map IsCounted (λ rule. number_at rule n) later (λ rule c. one_counted rule n (less_of n count h))
      by false h = tt

  points_counted : (n : ℕ) → AreCounted (point_readers p n)
  points_counted n =
      each_append IsCounted (own p n) (flat_map (result_readers p) (filter (λ g. exit_is p n g (slice_get p.funcs g)) (ids p))) (own_counted n)
      (each_flat_in IsCounted (result_readers p) (filter (λ g. exit_is p n g (slice_get p.funcs g)) (ids p)) (λ g c. each_counted Back (λ id act. may_call act g)))

  reach_counted : (g : ℕ) → AreCounted (reach_readers p g)
  reach_counted g = each_flat_in IsCounted (λ rule. at_each p rule (λ id act. id == g)) (Touch ∷ Call ∷ Handler ∷ Stability ∷ []) (λ rule c. each_counted rule (λ id act. id == g))

  entry_counted : (g : ℕ) → AreCounted (entry_readers p g)
  entry_counted g = each_append IsCounted (reach_readers p g) (point_readers p (entry p g)) (reach_counted g) (points_counted (entry p g))

  where_counted : (b : Bool) (list : List ℕ) → AreCounted list → AreCounted (if b then list else [])
  where_counted true list h = h
  where_counted false list h = tt

  module _ {I : Type 0} (facts : Facts I) where
    whole_counted : (keys : Named) → AreCounted (whole_readers p facts keys)
    whole_counted keys =
        each_append IsCounted (at_each p Flow (λ id act. is_named keys (read p id act))) (through_pointers p ++ at_each p Stability (λ id act. is_unstable p facts keys id)) (each_counted Flow (λ id act. is_named keys (read p id act)))
        (each_append IsCounted (through_pointers p) (at_each p Stability (λ id act. is_unstable p facts keys id)) (each_counted Flow (λ id act. is_each (read p id act))) (each_counted Stability (λ id act. is_unstable p facts keys id)))

    call_counted : (g : ℕ) → AreCounted (call_readers p facts g)
    call_counted g = each_append IsCounted (entry_readers p g) (whole_readers p facts (LocalsOf g)) (entry_counted g) (whole_counted (LocalsOf g))

    nexts_counted : (next : List ℕ) → AreCounted (flat_map (point_readers p) next)
    nexts_counted next = each_flat_in IsCounted (point_readers p) next (λ k c. points_counted k)

    here_counted : (rule : Rule) (n : ℕ) (point : Point) (act : Act) → AreCounted (again_here p facts rule n point act)
    here_counted Initial n point act = tt
    here_counted Start n point act = tt
    here_counted Flow n point act = nexts_counted point.next
    here_counted Write n point act = whole_counted (written point.func act)
    here_counted Touch n point act = where_counted (has_tracked p (accessed point.func act)) (at_each p Stability (λ id act. true)) (each_counted Stability (λ id act. true))
    here_counted Call n point act = each_flat_in IsCounted (call_readers p facts) (filter (may_call act) (ids p)) (λ g c. call_counted g)
    here_counted Back n point act = where_counted (is_call act) (flat_map (point_readers p) point.next) (nexts_counted point.next)
    here_counted Return n point act = where_counted (returns act) (result_readers p point.func) (each_counted Back (λ id act. may_call act point.func))
    here_counted Handler n point act = each_flat_in IsCounted (entry_readers p) (handlers p) (λ g c. entry_counted g)
    here_counted Stability n point act = points_counted n

    in_counted : (rule : Rule) (n : ℕ) (point : Point) (f : Option Func) → AreCounted (again_in p facts rule n point f)
    in_counted rule n point None = tt
    in_counted rule n point (Some f) = here_counted rule n point (act_at (statement_of f point) f)

    at_counted : (rule : Rule) (n : ℕ) (point : Option Point) → AreCounted (again_at p facts rule n point)
    at_counted rule n None = tt
    at_counted rule n (Some point) = in_counted rule n point (slice_get p.funcs point.func)

    pub again_counted : (c : Constraint) → AreCounted (again_of p facts c)
    again_counted c = by c.rule
      where
        by : (rule : Rule) → AreCounted (again_of p facts (record { rule = rule; point = c.point }))
        by Initial = whole_counted EachKey
        by Start = where_counted (c.point == entry p p.main) (entry_readers p p.main) (entry_counted p.main)
        by Flow = at_counted Flow c.point (slice_get (flow_of p).points c.point)
        by Write = at_counted Write c.point (slice_get (flow_of p).points c.point)
        by Touch = at_counted Touch c.point (slice_get (flow_of p).points c.point)
        by Call = at_counted Call c.point (slice_get (flow_of p).points c.point)
        by Back = at_counted Back c.point (slice_get (flow_of p).points c.point)
        by Return = at_counted Return c.point (slice_get (flow_of p).points c.point)
        by Handler = at_counted Handler c.point (slice_get (flow_of p).points c.point)
        by Stability = at_counted Stability c.point (slice_get (flow_of p).points c.point)
