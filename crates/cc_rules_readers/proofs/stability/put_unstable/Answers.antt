use Rattle.std.proofs.Common.{◌≤◌, ◌++◌, ℕ, List, map, length, All, sym, subst, ap, ◌∙◌}
use Rattle.std.proofs.lemmas.Result.{on_ok_weaker}
use Rattle.cc_rules_asked.specs.CcRules.Constraints.{Stability}
use Rattle.cc_rules_again.specs.Again.{number_at}
use Rattle.cc_rules_readers.specs.declared.deeds.Deed.{Deed}
use Rattle.cc_rules_readers.specs.declared.picked.Test.TheVariants as test
use Rattle.cc_rules_readers.specs.Points.{points_that, passes_in}
use Rattle.cc_rules_readers.specs.View.{named_view}
use Rattle.cc_rules_readers.proofs.Candidates.{small_points}
use Rattle.cc_rules_readers.proofs.Unstable.{functions_few, unstable_at}
use Rattle.cc_rules_readers.proofs.stability.put_unstable.Goals as goal

pub unstable_functions-requires-clause-few : goal.unstable_functions-requires-clause-few
unstable_functions-requires-clause-few g c = functions_few c.args.rules.now.program.now c.args.rules.now c.args.index.now c.requires.rules c.requires.index

pub put_rule-requires : goal.put_rule-requires
put_rule-requires g c =
    subst (λ (xs : List ℕ). All (λ n. n ≤ 65536) xs) (sym (c.deref-2.ensures.value ∙ c.in_ok-points.ensures))
    (small_points c.all-deeds.result.now (passes_in (test.StandsIn c.deref.result)) (subst (λ (ds : List Deed). length ds ≤ 65536) (sym c.all-deeds.ensures) c.requires.index.lists.few))

pub returns : goal.returns
returns g c =
    on_ok_weaker c.put_rule.result
    (λ h. h ∙ ap (λ (xs : List ℕ). c.args.list.now.items ++ xs)
    (ap (map (number_at Stability)) (c.deref-2.ensures.value ∙ (c.in_ok-points.ensures ∙ ap (λ (ds : List Deed). points_that ds (passes_in (test.StandsIn c.deref.result))) c.all-deeds.ensures))
    ∙ sym (unstable_at c.args.rules.now.program.now c.args.facts.now (named_view c.args.keys) c.args.index.now.deeds c.deref.result.now c.requires.index.deeds (c.deref.ensures.value ∙ c.in_ok-unstable.ensures))))
    c.put_rule.ensures
