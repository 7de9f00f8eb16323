use Rattle.std.proofs.Common.{sym, subst}
use Rattle.std.proofs.lemmas.Result.{IfOk-weaker}
use Rattle.cc_rules_calls.specs.Backs.{AskMore, AskMoreOf}
use Rattle.cc_state_points.specs.CcStateOperators.Domains.{domain}
use Rattle.cc_rules_calls.proofs.backs.put_called_back.Goals as goal

pub put_back-requires : goal.put_back-requires
put_back-requires g c = record {
  here = c.requires.here;
  function = c.requires.functions.each c.args.id c.in-Some.function.now (sym c.in-Some.ensures);
  gets = c.requires.gets c.args.id c.in-Some.function.now (sym c.in-Some.ensures);
}

pub returns : goal.returns
returns g c =
    IfOk-weaker c.put_back.result (λ _. AskMore (domain g.I.Concrete.Has g.I.Lattice.IsBelow g.I.IntDomain.OpGives g.I.IntDomain.OpOneGives g.I.IntDomain.ToGives g.I.IntDomain.KeepGives g.I.IntDomain.members_of) c.args.here.now c.args.register c.args.id c.in-Some.function.now c.args.asked.now.items c.put_back.new.asked.items) _
    (λ _ e. subst (λ o. AskMoreOf (domain g.I.Concrete.Has g.I.Lattice.IsBelow g.I.IntDomain.OpGives g.I.IntDomain.OpOneGives g.I.IntDomain.ToGives g.I.IntDomain.KeepGives g.I.IntDomain.members_of) c.args.here.now c.args.register c.args.id o c.args.asked.now.items c.put_back.new.asked.items) c.in-Some.ensures e) c.put_back.ensures
