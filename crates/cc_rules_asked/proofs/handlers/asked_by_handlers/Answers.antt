use Rattle.std.proofs.Common.{◌≡◌, [], cond}
use Rattle.std.proofs.lemmas.Result.{IfOk-weaker}
use Rattle.cc_rules.specs.Rules.{handlers}
use Rattle.cc_rules_asked.specs.Handlers.{asked_of_all}
use Rattle.cc_rules_asked.proofs.HandlerLemmas.{low_levels, handlers_as_asked}
use Rattle.cc_rules_asked.proofs.handlers.asked_by_handlers.Goals as goal
use Rattle.cc_rules.specs.CcStateOperators.Domains.{domain}

pub asked_if_on-requires : goal.asked_if_on-requires
asked_if_on-requires g c = low_levels c.args.here.now c.args.handlers.now (handlers c.args.here.now.context.program.now) c.requires.handlers

pub returns : goal.returns
returns g c = record {
  is = c.asked_if_on.ensures;
  asked =
      IfOk-weaker c.asked_if_on.result (λ list. list.items ≡ cond c.args.here.now.fact.now.on (asked_of_all c.args.here.now c.args.handlers.now) []) _
      (λ list e. handlers_as_asked (domain g.I.Concrete.Has g.I.Lattice.IsBelow g.I.IntDomain.OpGives g.I.IntDomain.OpOneGives g.I.IntDomain.ToGives g.I.IntDomain.KeepGives g.I.IntDomain.members_of) c.args.here.now list.items c.args.handlers.now c.requires.handlers e)
      c.asked_if_on.ensures;
}
