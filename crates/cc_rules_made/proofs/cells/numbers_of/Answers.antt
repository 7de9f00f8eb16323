use Rattle.std.proofs.Common.{◌++◌, ◌∷◌, [], ℕ, map, take, ap, sym, ◌∙◌}
use Rattle.cc_rules_made.proofs.cells.numbers_of.Goals as goal
use Rattle.cc_rules_asked.specs.CcStateFacts.declared.facts.Key.TheVariants as key
use Rattle.cc_rules_asked.specs.CcStateKeys.Keys.{key_number}
use Rattle.cc_rules_asked.proofs.CcSteps.StartLemmas.{map-more}

pub loop-object-preserved : goal.loop-object-preserved
loop-object-preserved c =
    c.in_ok-push.ensures.items
    ∙ (ap (λ ns. ns ++ c.key_of.result ∷ []) c.loop-object.invariant
    ∙ (ap (λ k. map (λ (i : ℕ). key_number c.args.p.now (key.Object i)) (take c.loop-object.object-index c.args.objects.now) ++ k ∷ []) c.key_of.ensures
    ∙ sym (map-more (λ (i : ℕ). key_number c.args.p.now (key.Object i)) c.args.objects.now c.loop-object.object-index 0 c.loop-object-test.true)))
