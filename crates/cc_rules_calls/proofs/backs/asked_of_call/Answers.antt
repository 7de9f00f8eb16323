use Rattle.std.proofs.Common.{sym, subst}
use Rattle.std.proofs.lemmas.Result.{IfOk-weaker}
use Rattle.cc_rules_calls.specs.Backs.{EachReturns}
use Rattle.cc_rules_calls.specs.Here.{AreFunctionsIn}
use Rattle.cc_rules_calls.proofs.CalledLemmas.{functions_there}
use Rattle.cc_rules_calls.proofs.BackLemmas.{backs_asked}
use Rattle.cc_state_points.specs.CcStateOperators.Domains.{domain}
use Rattle.cc_rules_calls.proofs.backs.asked_of_call.Goals as goal

pub called_here-requires : goal.called_here-requires
called_here-requires g c = record { sized = c.requires.here.sized; sets = c.requires.here.known; pure = c.requires.pure.0 }

pub asked_of_functions-requires : goal.asked_of_functions-requires
asked_of_functions-requires g c =
    let found = subst (AreFunctionsIn (domain g.I.Concrete.Has g.I.Lattice.IsBelow g.I.IntDomain.OpGives g.I.IntDomain.OpOneGives g.I.IntDomain.ToGives g.I.IntDomain.KeepGives g.I.IntDomain.members_of) c.args.here.now c.args.call.function.now) (sym c.as_slice.ensures.value) c.in_ok-found.ensures in
    record {
      here = c.requires.here;
      functions = c.requires.functions;
      gets = c.requires.gets;
      there = functions_there (domain g.I.Concrete.Has g.I.Lattice.IsBelow g.I.IntDomain.OpGives g.I.IntDomain.OpOneGives g.I.IntDomain.ToGives g.I.IntDomain.KeepGives g.I.IntDomain.members_of) c.args.here.now c.args.call.function.now c.as_slice.result.now c.args.functions.now found c.requires.functions c.requires.calls;
    }

pub returns : goal.returns
returns g c =
    let found = subst (AreFunctionsIn (domain g.I.Concrete.Has g.I.Lattice.IsBelow g.I.IntDomain.OpGives g.I.IntDomain.OpOneGives g.I.IntDomain.ToGives g.I.IntDomain.KeepGives g.I.IntDomain.members_of) c.args.here.now c.args.call.function.now) (sym c.as_slice.ensures.value) c.in_ok-found.ensures in
    record {
      asked =
          IfOk-weaker c.asked_of_functions.result (λ list. EachReturns (domain g.I.Concrete.Has g.I.Lattice.IsBelow g.I.IntDomain.OpGives g.I.IntDomain.OpOneGives g.I.IntDomain.ToGives g.I.IntDomain.KeepGives g.I.IntDomain.members_of) c.args.here.now c.args.call.result c.as_slice.result.now list.items) _
          (λ list e. backs_asked (domain g.I.Concrete.Has g.I.Lattice.IsBelow g.I.IntDomain.OpGives g.I.IntDomain.OpOneGives g.I.IntDomain.ToGives g.I.IntDomain.KeepGives g.I.IntDomain.members_of) c.args.here.now c.args.call.result c.args.call.function.now c.args.call.args.now c.as_slice.result.now list.items c.requires.here found e)
          c.asked_of_functions.ensures.each;
      behind = c.asked_of_functions.ensures.behind;
    }
