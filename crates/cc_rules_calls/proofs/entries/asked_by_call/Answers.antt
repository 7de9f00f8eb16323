use Rattle.std.proofs.Common.{true, [], sym, subst}
use Rattle.std.proofs.lemmas.Result.{IfOk-weaker}
use Rattle.cc_rules_asked.specs.CcRules.Constraints.{Call}
use Rattle.cc_rules_asked.specs.Asks.{AsksHere, ArePureHere}
use Rattle.cc_rules_calls.specs.Here.{MayCallHere}
use Rattle.cc_rules_calls.proofs.CallActs.{as_call}
use Rattle.cc_rules_calls.proofs.EntryLemmas.{no_call}
use Rattle.cc_state_points.specs.CcRulesFlows.Acts.{Act, Calls}
use Rattle.cc_state_points.specs.CcRulesFlows.View.{act_view}
use Rattle.cc_state_points.specs.CcStateOperators.Domains.{domain}
use Rattle.cc_rules_calls.proofs.entries.asked_by_call.Goals as goal

pub asked_of_call-requires : goal.asked_of_call-requires
asked_of_call-requires g c =
    let is = as_call (act_view c.args.act) c.in-Some.call.result c.in-Some.call.function.now c.in-Some.call.args.now (sym c.in-Some.ensures) in
    record {
      here = c.requires.here;
      functions = c.requires.functions;
      pure = subst (ArePureHere (domain g.I.Concrete.Has g.I.Lattice.IsBelow g.I.IntDomain.OpGives g.I.IntDomain.OpOneGives g.I.IntDomain.ToGives g.I.IntDomain.KeepGives g.I.IntDomain.members_of) c.args.here.now) is c.requires.pure;
      calls = subst (MayCallHere (domain g.I.Concrete.Has g.I.Lattice.IsBelow g.I.IntDomain.OpGives g.I.IntDomain.OpOneGives g.I.IntDomain.ToGives g.I.IntDomain.KeepGives g.I.IntDomain.members_of) c.args.here.now) is c.requires.calls;
      few_keys = c.requires.few_keys;
      few_locals = c.requires.few_locals;
    }

pub returns-in-None : goal.returns-in-None
returns-in-None g c = record {
  asked = subst (AsksHere (domain g.I.Concrete.Has g.I.Lattice.IsBelow g.I.IntDomain.OpGives g.I.IntDomain.OpOneGives g.I.IntDomain.ToGives g.I.IntDomain.KeepGives g.I.IntDomain.members_of) c.args.here.now Call (act_view c.args.act)) (sym c.new.ensures.items) (no_call (domain g.I.Concrete.Has g.I.Lattice.IsBelow g.I.IntDomain.OpGives g.I.IntDomain.OpOneGives g.I.IntDomain.ToGives g.I.IntDomain.KeepGives g.I.IntDomain.members_of) c.args.here.now true (act_view c.args.act) (sym c.in-None.ensures));
  entries = ([], [], c.new.ensures.items);
}

pub returns-in-Some : goal.returns-in-Some
returns-in-Some g c =
    let is = as_call (act_view c.args.act) c.in-Some.call.result c.in-Some.call.function.now c.in-Some.call.args.now (sym c.in-Some.ensures) in
    record {
      asked =
          IfOk-weaker c.asked_of_call.result (λ list. AsksHere (domain g.I.Concrete.Has g.I.Lattice.IsBelow g.I.IntDomain.OpGives g.I.IntDomain.OpOneGives g.I.IntDomain.ToGives g.I.IntDomain.KeepGives g.I.IntDomain.members_of) c.args.here.now Call (Calls c.in-Some.call.result c.in-Some.call.function.now c.in-Some.call.args.now) list.items) _
          (λ list k. subst (λ (act : Act). AsksHere (domain g.I.Concrete.Has g.I.Lattice.IsBelow g.I.IntDomain.OpGives g.I.IntDomain.OpOneGives g.I.IntDomain.ToGives g.I.IntDomain.KeepGives g.I.IntDomain.members_of) c.args.here.now Call act list.items) (sym is) k)
          c.asked_of_call.ensures.asked;
      entries = c.asked_of_call.ensures.entries;
    }
