use Rattle.std.proofs.Common.{arith, ◌≡◌, [], List, All, length, slice_get, ap, sym, subst, ◌∙◌}
use Rattle.std.specs.Prelude.{if◌then◌else◌}
use Rattle.std.proofs.lemmas.List.{length-map}
use Rattle.std.proofs.lemmas.Result.{IfOk-weaker}
use Rattle.cc_rules_asked.specs.CcRules.Constraints.{Flow, Write, Touch, Call, Back, Return, Handler, Stability}
use Rattle.cc_rules_asked.specs.Asks.{AsksHere}
use Rattle.cc_rules_asked.specs.declared.handlers.Handler.{Handler as HandlerOf}
use Rattle.cc_rules_asked.specs.Handlers.{AreHandlersOf, asked_of_all}
use Rattle.cc_rules_asked.specs.Unstable.{AreCellKeysOf}
use Rattle.cc_rules_calls.specs.Backs.{IsBehind}
use Rattle.cc_rules_calls.specs.Here.{AreEntries}
use Rattle.cc_rules_choices.specs.Choices.{AreTestsWorkedHere}
use Rattle.cc_rules_constraints.proofs.here.asked_here.Goals as goal
use Rattle.cc_rules_constraints.proofs.HereAsks.{of_none, of_flows, of_write, of_touch, of_call, of_back, of_return, of_handlers, of_stability}
use Rattle.cc_rules_constraints.proofs.Results.{by_two, by_three}
use Rattle.cc_rules_asked.specs.CcRulesFlows.Acts.{Act}
use Rattle.cc_rules_asked.specs.CcRulesFlows.View.{act_view}
use Rattle.cc_rules_functions.specs.declared.functions.Function.{Function}
use Rattle.cc_rules_functions.specs.Functions.{AreFunctionsOf}
use Rattle.cc_rules_nexts.specs.Told.{IsOnward}
use Rattle.cc_rules_asked.specs.CcStateFacts.declared.facts.Key.TheVariants as key
use Rattle.cc_rules_asked.proofs.CcStateKeys.FactCounts.{few_tracked}
use Rattle.cc_rules_asked.specs.CcStateKeys.Keys.{key_number}
use Rattle.cc_rules_asked.specs.CcStateKeys.Tracked.{tracked}
use Rattle.cc_rules_asked.specs.CcStateOperators.Domains.{domain}

pub asked_by_flows-requires : goal.asked_by_flows-requires
asked_by_flows-requires g c = record { here = c.requires.is; may = c.requires.may; tests = c.requires.tests }

pub asked_by_write-requires : goal.asked_by_write-requires
asked_by_write-requires g c = record { here = c.requires.is; pure = c.requires.pure; few = c.requires.few_keys }

pub asked_by_touch-requires : goal.asked_by_touch-requires
asked_by_touch-requires g c = record { here = c.requires.is; pure = c.requires.pure; few = c.requires.few_keys }

pub asked_by_return-requires : goal.asked_by_return-requires
asked_by_return-requires g c = record { here = c.requires.is; pure = c.requires.pure }

pub asked_by_call-requires : goal.asked_by_call-requires
asked_by_call-requires g c = record {
  here = c.requires.is;
  functions = subst (AreFunctionsOf c.args.here.now.context.program.now) (sym c.all.ensures) c.requires.made.functions;
  pure = c.requires.pure;
  calls = c.requires.calls;
  few_keys = c.requires.few_keys;
  few_locals = c.requires.few_locals;
}

pub asked_by_back-requires : goal.asked_by_back-requires
asked_by_back-requires g c = record {
  here = c.requires.is;
  functions = subst (AreFunctionsOf c.args.here.now.context.program.now) (sym c.all-in-Back.ensures) c.requires.made.functions;
  pure = c.requires.pure;
  calls = c.requires.calls;
  gets = λ h f at. c.requires.results h f (ap (λ (fs : List Function). slice_get fs h) (sym c.all-in-Back.ensures) ∙ at);
}

pub asked_by_handlers-requires : goal.asked_by_handlers-requires
asked_by_handlers-requires g c = record {
  here = c.requires.is;
  handlers = subst (AreHandlersOf c.args.here.now.context.program.now) (sym c.all-in-Handler.ensures) c.requires.made.handlers;
}

pub asked_by_stability-requires : goal.asked_by_stability-requires
asked_by_stability-requires g c = record {
  here = c.requires.is;
  keys = subst (AreCellKeysOf c.args.here.now.context.program.now) (sym c.all-in-Stability.ensures) c.requires.made.cell_keys;
  few = let few = few_tracked c.args.here.now.context.program.now in omega (arith, few, ap length (c.all-in-Stability.ensures ∙ c.requires.made.cell_keys), length-map (tracked c.args.here.now.context.program.now) (λ i. key_number c.args.here.now.context.program.now (key.Object i)));
}

pub returns-in-Initial : goal.returns-in-Initial
returns-in-Initial g c = of_none (domain g.I.Concrete.Has g.I.Lattice.IsBelow g.I.IntDomain.OpGives g.I.IntDomain.OpOneGives g.I.IntDomain.ToGives g.I.IntDomain.KeepGives g.I.IntDomain.members_of) c.args.here.now (act_view c.args.act) c.new.result.items c.args.rule c.in-Initial.is c.new.ensures.items

pub returns-in-Flow : goal.returns-in-Flow
returns-in-Flow g c =
    rw c.in-Flow.is (by_three c.asked_by_flows.result (λ list. AsksHere (domain g.I.Concrete.Has g.I.Lattice.IsBelow g.I.IntDomain.OpGives g.I.IntDomain.OpOneGives g.I.IntDomain.ToGives g.I.IntDomain.KeepGives g.I.IntDomain.members_of) c.args.here.now Flow (act_view c.args.act) list.items) (λ _. AreTestsWorkedHere (domain g.I.Concrete.Has g.I.Lattice.IsBelow g.I.IntDomain.OpGives g.I.IntDomain.OpOneGives g.I.IntDomain.ToGives g.I.IntDomain.KeepGives g.I.IntDomain.members_of) c.args.here.now (act_view c.args.act)) (λ list. All (IsOnward (domain g.I.Concrete.Has g.I.Lattice.IsBelow g.I.IntDomain.OpGives g.I.IntDomain.OpOneGives g.I.IntDomain.ToGives g.I.IntDomain.KeepGives g.I.IntDomain.members_of) c.args.here.now) list.items) _
    (λ list. of_flows (domain g.I.Concrete.Has g.I.Lattice.IsBelow g.I.IntDomain.OpGives g.I.IntDomain.OpOneGives g.I.IntDomain.ToGives g.I.IntDomain.KeepGives g.I.IntDomain.members_of) c.args.here.now (act_view c.args.act) list.items c.args.rules.now c.requires) c.asked_by_flows.ensures.asked c.asked_by_flows.ensures.worked c.asked_by_flows.ensures.onward)

pub returns-in-Write : goal.returns-in-Write
returns-in-Write g c =
    rw c.in-Write.is (IfOk-weaker c.asked_by_write.result (λ list. AsksHere (domain g.I.Concrete.Has g.I.Lattice.IsBelow g.I.IntDomain.OpGives g.I.IntDomain.OpOneGives g.I.IntDomain.ToGives g.I.IntDomain.KeepGives g.I.IntDomain.members_of) c.args.here.now Write (act_view c.args.act) list.items) _ (λ list. of_write (domain g.I.Concrete.Has g.I.Lattice.IsBelow g.I.IntDomain.OpGives g.I.IntDomain.OpOneGives g.I.IntDomain.ToGives g.I.IntDomain.KeepGives g.I.IntDomain.members_of) c.args.here.now (act_view c.args.act) list.items c.args.rules.now c.requires) c.asked_by_write.ensures)

pub returns-in-Touch : goal.returns-in-Touch
returns-in-Touch g c =
    rw c.in-Touch.is (IfOk-weaker c.asked_by_touch.result (λ list. AsksHere (domain g.I.Concrete.Has g.I.Lattice.IsBelow g.I.IntDomain.OpGives g.I.IntDomain.OpOneGives g.I.IntDomain.ToGives g.I.IntDomain.KeepGives g.I.IntDomain.members_of) c.args.here.now Touch (act_view c.args.act) list.items) _ (λ list. of_touch (domain g.I.Concrete.Has g.I.Lattice.IsBelow g.I.IntDomain.OpGives g.I.IntDomain.OpOneGives g.I.IntDomain.ToGives g.I.IntDomain.KeepGives g.I.IntDomain.members_of) c.args.here.now (act_view c.args.act) list.items c.args.rules.now c.requires) c.asked_by_touch.ensures)

pub returns-in-Call : goal.returns-in-Call
returns-in-Call g c =
    rw c.in-Call.is (by_two c.asked_by_call.result (λ list. AsksHere (domain g.I.Concrete.Has g.I.Lattice.IsBelow g.I.IntDomain.OpGives g.I.IntDomain.OpOneGives g.I.IntDomain.ToGives g.I.IntDomain.KeepGives g.I.IntDomain.members_of) c.args.here.now Call (act_view c.args.act) list.items) (λ list. AreEntries c.args.here.now c.all.result.now list.items) _
    (λ list asks entries. of_call (domain g.I.Concrete.Has g.I.Lattice.IsBelow g.I.IntDomain.OpGives g.I.IntDomain.OpOneGives g.I.IntDomain.ToGives g.I.IntDomain.KeepGives g.I.IntDomain.members_of) c.args.here.now (act_view c.args.act) list.items c.args.rules.now c.requires asks (subst (λ (fs : List Function). AreEntries c.args.here.now fs list.items) c.all.ensures entries)) c.asked_by_call.ensures.asked c.asked_by_call.ensures.entries)

pub returns-in-Back : goal.returns-in-Back
returns-in-Back g c =
    rw c.in-Back.is (by_two c.asked_by_back.result (λ list. AsksHere (domain g.I.Concrete.Has g.I.Lattice.IsBelow g.I.IntDomain.OpGives g.I.IntDomain.OpOneGives g.I.IntDomain.ToGives g.I.IntDomain.KeepGives g.I.IntDomain.members_of) c.args.here.now Back (act_view c.args.act) list.items) (λ list. All (IsBehind (domain g.I.Concrete.Has g.I.Lattice.IsBelow g.I.IntDomain.OpGives g.I.IntDomain.OpOneGives g.I.IntDomain.ToGives g.I.IntDomain.KeepGives g.I.IntDomain.members_of) c.args.here.now) list.items) _
    (λ list. of_back (domain g.I.Concrete.Has g.I.Lattice.IsBelow g.I.IntDomain.OpGives g.I.IntDomain.OpOneGives g.I.IntDomain.ToGives g.I.IntDomain.KeepGives g.I.IntDomain.members_of) c.args.here.now (act_view c.args.act) list.items c.args.rules.now c.requires) c.asked_by_back.ensures.asked c.asked_by_back.ensures.behind)

pub returns-in-Return : goal.returns-in-Return
returns-in-Return g c =
    rw c.in-Return.is (IfOk-weaker c.asked_by_return.result (λ list. AsksHere (domain g.I.Concrete.Has g.I.Lattice.IsBelow g.I.IntDomain.OpGives g.I.IntDomain.OpOneGives g.I.IntDomain.ToGives g.I.IntDomain.KeepGives g.I.IntDomain.members_of) c.args.here.now Return (act_view c.args.act) list.items) _ (λ list. of_return (domain g.I.Concrete.Has g.I.Lattice.IsBelow g.I.IntDomain.OpGives g.I.IntDomain.OpOneGives g.I.IntDomain.ToGives g.I.IntDomain.KeepGives g.I.IntDomain.members_of) c.args.here.now (act_view c.args.act) list.items c.args.rules.now c.requires) c.asked_by_return.ensures)

pub returns-in-Handler : goal.returns-in-Handler
returns-in-Handler g c =
    rw c.in-Handler.is (by_two c.asked_by_handlers.result (λ list. (act : Act) → AsksHere (domain g.I.Concrete.Has g.I.Lattice.IsBelow g.I.IntDomain.OpGives g.I.IntDomain.OpOneGives g.I.IntDomain.ToGives g.I.IntDomain.KeepGives g.I.IntDomain.members_of) c.args.here.now Handler act list.items) (λ list. list.items ≡ (if c.args.here.now.fact.now.on then asked_of_all c.args.here.now c.all-in-Handler.result.now else [])) _
    (λ list asks is. of_handlers (domain g.I.Concrete.Has g.I.Lattice.IsBelow g.I.IntDomain.OpGives g.I.IntDomain.OpOneGives g.I.IntDomain.ToGives g.I.IntDomain.KeepGives g.I.IntDomain.members_of) c.args.here.now (act_view c.args.act) list.items c.args.rules.now c.requires (asks (act_view c.args.act)) (subst (λ (hs : List HandlerOf). list.items ≡ (if c.args.here.now.fact.now.on then asked_of_all c.args.here.now hs else [])) c.all-in-Handler.ensures is)) c.asked_by_handlers.ensures.asked c.asked_by_handlers.ensures.is)

pub returns-in-Stability : goal.returns-in-Stability
returns-in-Stability g c =
    rw c.in-Stability.is (IfOk-weaker c.asked_by_stability.result (λ list. (act : Act) → AsksHere (domain g.I.Concrete.Has g.I.Lattice.IsBelow g.I.IntDomain.OpGives g.I.IntDomain.OpOneGives g.I.IntDomain.ToGives g.I.IntDomain.KeepGives g.I.IntDomain.members_of) c.args.here.now Stability act list.items) _
    (λ list asks. of_stability (domain g.I.Concrete.Has g.I.Lattice.IsBelow g.I.IntDomain.OpGives g.I.IntDomain.OpOneGives g.I.IntDomain.ToGives g.I.IntDomain.KeepGives g.I.IntDomain.members_of) c.args.here.now (act_view c.args.act) list.items c.args.rules.now c.requires (asks (act_view c.args.act))) c.asked_by_stability.ensures)
