use Rattle.std.proofs.lemmas.Result.{IfOk-weaker}
use Rattle.cc_rules_needs.specs.Raised.{IsLeastIn}
use Rattle.cc_rules_needs.proofs.Puts.{whole_put_is, result_put_is}
use Rattle.cc_rules_needs.proofs.raise.put_values.Goals as goal

pub returns-in-Whole-clause-raised : goal.returns-in-Whole-clause-raised
returns-in-Whole-clause-raised g c =
    IfOk-weaker c.raise_values.result (λ x. IsLeastIn g.I.Lattice.IsBelow c.args.facts.now.whole c.in-Whole.k c.args.values.now c.raise_values.new.sets) _
    (λ x h. whole_put_is g.I.Lattice.IsBelow c.args.slot c.args.facts.now c.in-Whole.k c.args.values.now c.raise_values.new.sets c.in-Whole.is h) c.raise_values.ensures.raised

pub returns-in-Result-clause-raised : goal.returns-in-Result-clause-raised
returns-in-Result-clause-raised g c =
    IfOk-weaker c.raise_values-in-Result.result (λ x. IsLeastIn g.I.Lattice.IsBelow c.args.facts.now.results c.in-Result.g c.args.values.now c.raise_values-in-Result.new.sets) _
    (λ x h. result_put_is g.I.Lattice.IsBelow c.args.slot c.args.facts.now c.in-Result.g c.args.values.now c.raise_values-in-Result.new.sets c.in-Result.is h) c.raise_values-in-Result.ensures.raised
