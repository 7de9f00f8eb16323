use Rattle.std.proofs.Common.{◌≡◌, sym, subst}
use Rattle.std.specs.List.{AllZip}
use Rattle.std.proofs.lemmas.Result.{IfOk-weaker}
use Rattle.cc_rules_calls.specs.Here.{AreFunctionsIn, asked_of_all}
use Rattle.cc_rules_calls.proofs.CalledLemmas.{functions_there}
use Rattle.cc_rules_calls.proofs.EntryLemmas.{entries_asked}
use Rattle.cc_state_points.specs.CcStateOperators.Domains.{domain}
use Rattle.cc_state_points.specs.CcStateValues.Contexts.{IsValIn}
use Rattle.cc_rules_calls.proofs.entries.asked_of_call.Goals as goal

pub called_here-requires : goal.called_here-requires
called_here-requires g c = record { sized = c.requires.here.sized; sets = c.requires.here.known; pure = c.requires.pure.0 }

pub values_here-requires : goal.values_here-requires
values_here-requires g c = record { sized = c.requires.here.sized; sets = c.requires.here.known; pure = c.requires.pure.1 }

pub asked_of_functions-requires : goal.asked_of_functions-requires
asked_of_functions-requires g c =
    let found = subst (AreFunctionsIn (domain g.I.Concrete.Has g.I.Lattice.IsBelow g.I.IntDomain.OpGives g.I.IntDomain.OpOneGives g.I.IntDomain.ToGives g.I.IntDomain.KeepGives g.I.IntDomain.members_of) c.args.here.now c.args.call.function.now) (sym c.as_slice-ids.ensures.value) c.in_ok-found.ensures in
    record {
      keys = c.requires.here.keys;
      few_keys = c.requires.few_keys;
      few_locals = c.requires.few_locals;
      functions = c.requires.functions;
      there = functions_there (domain g.I.Concrete.Has g.I.Lattice.IsBelow g.I.IntDomain.OpGives g.I.IntDomain.OpOneGives g.I.IntDomain.ToGives g.I.IntDomain.KeepGives g.I.IntDomain.members_of) c.args.here.now c.args.call.function.now c.as_slice-ids.result.now c.args.functions.now found c.requires.functions c.requires.calls;
    }

pub returns : goal.returns
returns g c =
    let found = subst (AreFunctionsIn (domain g.I.Concrete.Has g.I.Lattice.IsBelow g.I.IntDomain.OpGives g.I.IntDomain.OpOneGives g.I.IntDomain.ToGives g.I.IntDomain.KeepGives g.I.IntDomain.members_of) c.args.here.now c.args.call.function.now) (sym c.as_slice-ids.ensures.value) c.in_ok-found.ensures in
    let given = subst (AllZip (IsValIn (domain g.I.Concrete.Has g.I.Lattice.IsBelow g.I.IntDomain.OpGives g.I.IntDomain.OpOneGives g.I.IntDomain.ToGives g.I.IntDomain.KeepGives g.I.IntDomain.members_of) c.args.here.now.context) c.args.call.args.now) (sym c.as_slice-sets.ensures.value) c.in_ok-given.ensures in
    let there = functions_there (domain g.I.Concrete.Has g.I.Lattice.IsBelow g.I.IntDomain.OpGives g.I.IntDomain.OpOneGives g.I.IntDomain.ToGives g.I.IntDomain.KeepGives g.I.IntDomain.members_of) c.args.here.now c.args.call.function.now c.as_slice-ids.result.now c.args.functions.now found c.requires.functions c.requires.calls in
    record {
      asked =
          IfOk-weaker c.asked_of_functions.result (λ list. list.items ≡ asked_of_all c.args.here.now c.args.functions.now c.as_slice-ids.result.now c.as_slice-sets.result.now) _
          (λ list e. entries_asked (domain g.I.Concrete.Has g.I.Lattice.IsBelow g.I.IntDomain.OpGives g.I.IntDomain.OpOneGives g.I.IntDomain.ToGives g.I.IntDomain.KeepGives g.I.IntDomain.members_of) c.args.here.now c.args.call.result c.args.call.function.now c.args.call.args.now c.args.functions.now c.as_slice-ids.result.now c.as_slice-sets.result.now list.items c.requires.here c.requires.functions found there given e)
          c.asked_of_functions.ensures;
      entries =
          IfOk-weaker c.asked_of_functions.result (λ list. list.items ≡ asked_of_all c.args.here.now c.args.functions.now c.as_slice-ids.result.now c.as_slice-sets.result.now) _
          (λ list e. (c.as_slice-ids.result.now, c.as_slice-sets.result.now, e)) c.asked_of_functions.ensures;
    }
