use Rattle.std.proofs.Common.{◌≤◌, ◌++◌, ℕ, List, All, sym, subst, ap, ◌∙◌}
use Rattle.std.proofs.lemmas.Result.{on_ok_weaker}
use Rattle.cc_rules_readers.specs.Points.{reach_numbers}
use Rattle.cc_rules_readers.proofs.Candidates.{small_functions, functions_are}
use Rattle.cc_rules_readers.proofs.Rules.{put_four}
use Rattle.cc_rules_readers.proofs.points.put_reach_readers.Goals as goal

pub put_rule-requires : goal.put_rule-requires
put_rule-requires c = subst (λ (xs : List ℕ). All (λ n. n ≤ 65536) xs) (sym c.points-points.ensures) (small_functions c.args.index.now c.requires c.args.g)

pub put_rule-requires-2 : goal.put_rule-requires-2
put_rule-requires-2 c = subst (λ (xs : List ℕ). All (λ n. n ≤ 65536) xs) (sym c.points-points.ensures) (small_functions c.args.index.now c.requires c.args.g)

pub put_rule-requires-3 : goal.put_rule-requires-3
put_rule-requires-3 c = subst (λ (xs : List ℕ). All (λ n. n ≤ 65536) xs) (sym c.points-points.ensures) (small_functions c.args.index.now c.requires c.args.g)

pub put_rule-requires-4 : goal.put_rule-requires-4
put_rule-requires-4 c = subst (λ (xs : List ℕ). All (λ n. n ≤ 65536) xs) (sym c.points-points.ensures) (small_functions c.args.index.now c.requires c.args.g)

pub returns : goal.returns
returns c =
    on_ok_weaker c.put_rule-4.result
    (λ h. put_four c.args.list.now.items _ _ _ _ _ _ _ _ c.in_ok-put_rule.ensures c.in_ok-put_rule-2.ensures c.in_ok-put_rule-3.ensures h
    ∙ ap (λ (xs : List ℕ). c.args.list.now.items ++ reach_numbers xs) (c.points-points.ensures ∙ functions_are c.args.index.now c.requires c.args.g))
    c.put_rule-4.ensures
