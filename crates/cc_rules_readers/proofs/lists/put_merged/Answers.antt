use Rattle.std.proofs.Common.{◌≤◌, ◌+◌, ◌++◌, ◌∷◌, [], ℕ, List, map, take, drop, All, sym, subst, ap, ◌∙◌}
use Rattle.std.proofs.lemmas.List.Elements.{All-take, All-drop}
use Rattle.std.proofs.lemmas.Result.{on_ok_weaker}
use Rattle.cc_rules_again.specs.Again.{number_at}
use Rattle.cc_rules_numbered.specs.Numbered.{rule_view}
use Rattle.cc_rules_readers.specs.Points.{merged}
use Rattle.cc_rules_readers.proofs.Merging.{merging_on, merging_all}
use Rattle.cc_rules_readers.proofs.lists.put_merged.Goals as goal

pub put_rule-requires : goal.put_rule-requires
put_rule-requires c = subst (λ (xs : List ℕ). All (λ n. n ≤ 65536) xs) (sym c.front.ensures) (All-take (λ n. n ≤ 65536) c.count_before-before.result c.loop-point.left.now c.loop-point.invariant.low)

pub loop-point-preserved : goal.loop-point-preserved
loop-point-preserved c =
    let f : ℕ → ℕ = number_at (rule_view c.args.rule) in
    record {
      low = subst (λ (xs : List ℕ). All (λ n. n ≤ 65536) xs) (sym c.behind-left.ensures) (All-drop (λ n. n ≤ 65536) c.count_before-before.result c.loop-point.left.now c.loop-point.invariant.low);
      list =
          ap (λ (ys : List ℕ). c.push.new.self.items ++ map f (merged (drop (c.loop-point.point-index + 1) c.args.these.now) ys)) (c.behind-left.ensures ∙ ap (λ n. drop n c.loop-point.left.now) c.count_before-before.ensures.is)
          ∙ merging_on f c.args.these.now c.loop-point.left.now (c.args.list.now.items ++ map f (merged c.args.these.now c.args.those.now)) c.loop-point.list.items c.put_rule.new.list.items c.push.new.self.items c.loop-point.point-index c.loop-point-test.true c.loop-point.invariant.list
          (c.in_ok-put_rule.ensures ∙ ap (λ (ys : List ℕ). c.loop-point.list.items ++ map f ys) (c.front.ensures ∙ ap (λ n. take n c.loop-point.left.now) c.count_before-before.ensures.is))
          (c.in_ok-push.ensures.items ∙ ap (λ (n : ℕ). c.put_rule.new.list.items ++ n ∷ []) c.number_at.ensures);
    }

pub returns : goal.returns
returns c =
    let f : ℕ → ℕ = number_at (rule_view c.args.rule) in
    on_ok_weaker c.put_rule-2.result
    (λ h. merging_all f c.args.these.now c.loop-point.left.now (c.args.list.now.items ++ map f (merged c.args.these.now c.args.those.now)) c.loop-point.list.items c.put_rule-2.new.list.items c.loop-point.point-index c.loop-point-test.false c.loop-point.invariant.list h)
    c.put_rule-2.ensures
