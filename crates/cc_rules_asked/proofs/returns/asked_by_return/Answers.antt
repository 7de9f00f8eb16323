use Rattle.std.proofs.Common.{◌≡◌, [], ◌∷◌, Some, sym, subst}
use Rattle.std.proofs.lemmas.Result.{IfOk-weaker}
use Rattle.cc_rules.specs.Constraints.{Return}
use Rattle.cc_rules_asked.specs.declared.asked.Asked.TheVariants as asked
use Rattle.cc_rules_asked.specs.Asks.{AsksHere}
use Rattle.cc_rules_asked.proofs.ReturnLemmas.{none_returned, one_returned, pure_returned}
use Rattle.cc_rules_asked.proofs.returns.asked_by_return.Goals as goal
use Rattle.cc_rules.specs.CcRulesFlows.View.{act_view}
use Rattle.cc_rules.specs.CcRulesNeeds.declared.needs.Part.TheVariants.{Values}
use Rattle.cc_rules.specs.CcRulesNeeds.declared.needs.Slot.TheVariants.{Result}
use Rattle.cc_rules.specs.CcStateOperators.Domains.{domain}

pub value_of-requires : goal.value_of-requires
value_of-requires g c = record {
  sized = c.requires.here.sized;
  sets = c.requires.here.known;
  pure = pure_returned (domain g.I.Concrete.Has g.I.Lattice.IsBelow g.I.IntDomain.OpGives g.I.IntDomain.OpOneGives g.I.IntDomain.ToGives g.I.IntDomain.KeepGives g.I.IntDomain.members_of) c.args.here.now (act_view c.args.act) c.in-Some.e.now (sym c.in-Some.ensures) c.requires.pure;
}

pub returns-in-None : goal.returns-in-None
returns-in-None g c =
    subst (AsksHere (domain g.I.Concrete.Has g.I.Lattice.IsBelow g.I.IntDomain.OpGives g.I.IntDomain.OpOneGives g.I.IntDomain.ToGives g.I.IntDomain.KeepGives g.I.IntDomain.members_of) c.args.here.now Return (act_view c.args.act)) (sym c.new.ensures.items) (none_returned (domain g.I.Concrete.Has g.I.Lattice.IsBelow g.I.IntDomain.OpGives g.I.IntDomain.OpOneGives g.I.IntDomain.ToGives g.I.IntDomain.KeepGives g.I.IntDomain.members_of) c.args.here.now (act_view c.args.act) (sym c.in-None.ensures))

pub returns-in_ok-set-in-Some : goal.returns-in_ok-set-in-Some
returns-in_ok-set-in-Some g c =
    IfOk-weaker c.only_part.result (λ list. list.items ≡ asked.Part (Result c.args.here.now.context.id) (Values (Some c.in_ok-set-in-Some.set)) ∷ []) _
    (λ list e. subst (AsksHere (domain g.I.Concrete.Has g.I.Lattice.IsBelow g.I.IntDomain.OpGives g.I.IntDomain.OpOneGives g.I.IntDomain.ToGives g.I.IntDomain.KeepGives g.I.IntDomain.members_of) c.args.here.now Return (act_view c.args.act)) (sym e)
    (one_returned (domain g.I.Concrete.Has g.I.Lattice.IsBelow g.I.IntDomain.OpGives g.I.IntDomain.OpOneGives g.I.IntDomain.ToGives g.I.IntDomain.KeepGives g.I.IntDomain.members_of) c.args.here.now (act_view c.args.act) c.in-Some.e.now c.in_ok-set-in-Some.set (sym c.in-Some.ensures) c.requires.here c.in_ok-set-in-Some.ensures.value))
    c.only_part.ensures
