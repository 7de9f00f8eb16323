use Rattle.std.proofs.Common.{◌∷◌, [], refl, sym, subst, true≢false}
use Rattle.cc_rules_lacking.proofs.Firsts.{one_has, one_lacks}
use Rattle.cc_rules_lacking.proofs.asked.lacking_part.Goals as goal
use Rattle.cc_rules_lacking.specs.First.{IsFirst}
use Rattle.cc_rules_asked.specs.CcRulesNeeds.Needs.{HasAll}

pub returns-then-has : goal.returns-then-has
returns-then-has g c =
    subst (λ part. HasAll g.I.Lattice.IsBelow ((c.args.slot, part) ∷ []) c.args.facts.now) c.in_ok-copy.ensures (one_has g.I.Lattice.IsBelow c.args.facts.now (c.args.slot, c.in_ok-copy.copy) (c.if-has.ensures.0 refl))

pub returns-else-has : goal.returns-else-has
returns-else-has g c =
    subst (λ part. IsFirst g.I.Lattice.IsBelow ((c.args.slot, part) ∷ []) c.args.facts.now (c.args.slot, c.in_ok-copy.copy)) c.in_ok-copy.ensures
    (one_lacks g.I.Lattice.IsBelow c.args.facts.now (c.args.slot, c.in_ok-copy.copy) (λ h. true≢false (sym (c.if-has.ensures.1 h))))
