use Rattle.std.proofs.Common.{◌≤◌, ◌++◌, ℕ, List, map, All, sym, subst, ap, ◌∙◌}
use Rattle.std.proofs.lemmas.Result.{on_ok_weaker}
use Rattle.cc_rules_asked.specs.CcRules.Constraints.{Back}
use Rattle.cc_rules_again.specs.Again.{number_at}
use Rattle.cc_rules_readers.specs.Points.{group_at, merged}
use Rattle.cc_rules_readers.proofs.Candidates.{small_callers, small_pointer_calls, callers_merged}
use Rattle.cc_rules_readers.proofs.points.put_callers.Goals as goal

pub put_merged-requires : goal.put_merged-requires
put_merged-requires c = record {
  these = subst (λ (xs : List ℕ). All (λ n. n ≤ 65536) xs) (sym c.points-named.ensures) (small_callers c.args.index.now c.requires c.args.g);
  those = subst (λ (xs : List ℕ). All (λ n. n ≤ 65536) xs) (sym c.all-pointed.ensures) (small_pointer_calls c.args.index.now c.requires);
}

pub returns : goal.returns
returns c =
    on_ok_weaker c.put_merged.result
    (λ h. h ∙ ap (λ (xs : List ℕ). c.args.list.now.items ++ map (number_at Back) xs)
    (ap (λ (xs : List ℕ). merged xs c.all-pointed.result.now) c.points-named.ensures
    ∙ (ap (merged (group_at c.args.index.now.callers c.args.g)) c.all-pointed.ensures ∙ callers_merged c.args.index.now c.requires c.args.g)))
    c.put_merged.ensures
