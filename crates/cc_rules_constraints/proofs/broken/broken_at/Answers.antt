use Rattle.std.proofs.Common.{sym, subst, ◌∙◌}
use Rattle.std.proofs.lemmas.Option.{same_Some}
use Rattle.cc_rules_asked.specs.Asked.{all_needs}
use Rattle.cc_rules_constraints.proofs.Breaks.{met, lacking}
use Rattle.cc_rules_constraints.proofs.broken.broken_at.Goals as goal
use Rattle.cc_rules_numbered.specs.Numbered.{constraint_view}
use Rattle.cc_rules_lacking.specs.First.{LacksFirst}
use Rattle.cc_rules_asked.specs.CcStateOperators.Domains.{domain}

pub returns-in-None : goal.returns-in-None
returns-in-None g c k at =
    met (domain g.I.Concrete.Has g.I.Lattice.IsBelow g.I.IntDomain.OpGives g.I.IntDomain.OpOneGives g.I.IntDomain.ToGives g.I.IntDomain.KeepGives g.I.IntDomain.members_of) c.args.rules.now.program.now c.args.facts.now k (all_needs c.args.rules.now.program.now c.in_ok-list.list.items) (c.in_ok-list.ensures.asks k at)
    (subst (LacksFirst g.I.Lattice.IsBelow (all_needs c.args.rules.now.program.now c.in_ok-list.list.items) c.args.facts.now) c.in-None.is
    (subst (λ list. LacksFirst g.I.Lattice.IsBelow (all_needs c.args.rules.now.program.now list) c.args.facts.now c.in_ok-lacking.lacking) c.deref.ensures.value (c.in_ok-lacking.ensures c.args.rules.now.program.now c.tracked_count.ensures)))

pub returns : goal.returns
returns g c k at = (
  same_Some (constraint_view c.constraint_at.result) k (sym (c.constraint_at.ensures c.args.rules.now.program.now c.requires.there) ∙ at),
  lacking (domain g.I.Concrete.Has g.I.Lattice.IsBelow g.I.IntDomain.OpGives g.I.IntDomain.OpOneGives g.I.IntDomain.ToGives g.I.IntDomain.KeepGives g.I.IntDomain.members_of) c.args.rules.now.program.now c.args.facts.now k (all_needs c.args.rules.now.program.now c.in_ok-list.list.items) c.in-Some.need (c.in_ok-list.ensures.asks k at)
      (subst (LacksFirst g.I.Lattice.IsBelow (all_needs c.args.rules.now.program.now c.in_ok-list.list.items) c.args.facts.now) c.in-Some.is
      (subst (λ list. LacksFirst g.I.Lattice.IsBelow (all_needs c.args.rules.now.program.now list) c.args.facts.now c.in_ok-lacking.lacking) c.deref.ensures.value (c.in_ok-lacking.ensures c.args.rules.now.program.now c.tracked_count.ensures))),
)
