use Rattle.std.proofs.Common.{arith, [], ◌∷◌, ◌++◌, length, Some, ap, ◌∙◌}
use Rattle.std.proofs.lemmas.Iterator.Adapters.{YieldsList-from_vec}
use Rattle.std.proofs.lemmas.Iterator.Consumers.{YieldsList-turn}
use Rattle.cc_rules_asked.specs.declared.asked.Asked.TheVariants as asked
use Rattle.cc_rules_firsts.proofs.Listed.{so_many, one_more}
use Rattle.cc_rules_firsts.proofs.firsts.asked_of_sets.Goals as goal
use Rattle.cc_rules_asked.specs.CcRulesNeeds.declared.needs.Part.TheVariants.{Values}
use Rattle.cc_rules_asked.specs.CcRulesNeeds.declared.needs.Slot.TheVariants.{Whole}

pub overflow_cast-slot : goal.overflow_cast-slot
overflow_cast-slot g c =
    let k = c.into_iter-set-iterator.ensures in
    let t = YieldsList-turn (YieldsList-from_vec {s = c.into_iter-set-iterator.result} c.args.sets.items k.into_iter_gives.0 (k.into_iter_gives.1 ∙ c.args.sets.ok.0)) c.loop-set.yielded c.loop-set.set-iterator c.loop-set.yielded_by c.next.result c.next.new.self c.in-Some.set c.in-Some.is c.next.ensures.steps in
    omega (arith, c.len.ensures, c.loop-set.asked.ok.0, ap length c.loop-set.invariant, so_many 0 c.loop-set.yielded, t.0, c.requires)

pub loop-set-preserved : goal.loop-set-preserved
loop-set-preserved g c =
    c.in_ok-push.ensures.items ∙ (ap (λ l. l ++ asked.Part (Whole c.len.result) (Values (Some c.in-Some.set)) ∷ []) c.loop-set.invariant
    ∙ one_more 0 c.len.result c.loop-set.yielded c.in-Some.set (omega (arith, c.len.ensures, c.loop-set.asked.ok.0, ap length c.loop-set.invariant, so_many 0 c.loop-set.yielded)))
