use Rattle.std.proofs.lemmas.Result.{IfOk-weaker}
use Rattle.cc_rules_flows.specs.Here.{IsWithFlags}
use Rattle.cc_state_reads.specs.CcStateOperators.Domains.{domain}
use Rattle.cc_rules_flows.proofs.AfterLemmas.{of_either}
use Rattle.cc_rules_flows.proofs.after.Here.restores.Goals as goal

pub value_of-requires : goal.value_of-requires
value_of-requires g c = record { sized = c.requires.here.sized; sets = c.requires.here.known; pure = c.requires.may }

pub returns : goal.returns
returns g c =
    let d = domain g.I.Concrete.Has g.I.Lattice.IsBelow g.I.IntDomain.OpGives g.I.IntDomain.OpOneGives g.I.IntDomain.ToGives g.I.IntDomain.KeepGives g.I.IntDomain.members_of in
    IfOk-weaker c.with_either.result (IsWithFlags d c.args.self.now c.may_be.result c.may_be-2.result) _
    (λ fact t. of_either d c.args.self.now c.args.e.now c.in_ok-set.set c.may_be.result c.may_be-2.result fact c.requires.here c.in_ok-set.ensures.value c.may_be.ensures c.may_be-2.ensures t)
    c.with_either.ensures
