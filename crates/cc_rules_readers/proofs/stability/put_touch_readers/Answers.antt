use Rattle.std.proofs.Common.{◌≤◌, ◌++◌, ℕ, true, List, [], map, cond, length, All, sym, subst, ap, ◌∙◌}
use Rattle.std.proofs.lemmas.Result.{on_ok_weaker}
use Rattle.cc_rules_asked.specs.CcRules.Constraints.{Stability}
use Rattle.cc_rules_again.specs.Again.{number_at, at_each}
use Rattle.cc_rules_readers.specs.declared.deeds.Deed.{Deed}
use Rattle.cc_rules_readers.specs.declared.picked.Test.TheVariants as test
use Rattle.cc_rules_readers.specs.Points.{points_that, passes_in, concern_any}
use Rattle.cc_rules_readers.specs.View.{named_view}
use Rattle.cc_rules_readers.proofs.Candidates.{small_points}
use Rattle.cc_rules_readers.proofs.Unstable.{each_stability}
use Rattle.cc_rules_readers.proofs.stability.put_touch_readers.Goals as goal

pub put_rule-requires : goal.put_rule-requires
put_rule-requires c =
    subst (λ (xs : List ℕ). All (λ n. n ≤ 65536) xs) (sym (c.deref.ensures.value ∙ c.in_ok-points.ensures))
    (small_points c.all-deeds.result.now (passes_in test.IsThere) (subst (λ (ds : List Deed). length ds ≤ 65536) (sym c.all-deeds.ensures) c.requires.index.lists.few))

pub returns-in_ok-points : goal.returns-in_ok-points
returns-in_ok-points c =
    on_ok_weaker c.put_rule.result
    (λ h. h ∙ (ap (λ (xs : List ℕ). c.args.list.now.items ++ xs)
    (ap (map (number_at Stability)) (c.deref.ensures.value ∙ (c.in_ok-points.ensures ∙ ap (λ (ds : List Deed). points_that ds (passes_in test.IsThere)) c.all-deeds.ensures))
    ∙ sym (each_stability c.args.rules.now.program.now c.args.index.now.deeds c.requires.index.deeds))
    ∙ ap (λ b. c.args.list.now.items ++ cond b (at_each c.args.rules.now.program.now Stability (λ id act. true)) []) (c.if-has_tracked.ensures ∙ ap (concern_any (named_view c.args.keys)) (c.all-objects.ensures ∙ c.requires.rules.tracked))))
    c.put_rule.ensures
