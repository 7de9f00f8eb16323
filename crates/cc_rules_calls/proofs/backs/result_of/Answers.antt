use Rattle.std.proofs.Common.{◌≡◌, Some, ap, sym, slice_get, ◌∙◌}
use Rattle.std.proofs.lemmas.Result.{IfOk-weaker}
use Rattle.cc_rules_calls.specs.Backs.{IsWithZero}
use Rattle.cc_rules_calls.proofs.ResultLemmas.{gives_with_zero, gives_as_known}
use Rattle.cc_state_points.specs.CcStateOperators.Domains.{domain}
use Rattle.cc_rules_calls.proofs.backs.result_of.Goals as goal

pub with_zero-requires : goal.with_zero-requires
with_zero-requires g c = c.requires.kind c.in-Some.set.now c.if-function.true (ap (λ sets. slice_get sets c.args.id) (sym c.all.ensures) ∙ sym c.in-Some.ensures)

pub returns-then-function : goal.returns-then-function
returns-then-function g c =
    let at : slice_get c.args.here.now.facts.now.results c.args.id ≡ Some c.in-Some.set.now = ap (λ sets. slice_get sets c.args.id) (sym c.all.ensures) ∙ sym c.in-Some.ensures in
    IfOk-weaker c.with_zero.result (λ both. IsWithZero (domain g.I.Concrete.Has g.I.Lattice.IsBelow g.I.IntDomain.OpGives g.I.IntDomain.OpOneGives g.I.IntDomain.ToGives g.I.IntDomain.KeepGives g.I.IntDomain.members_of) c.in-Some.set.now both) _
    (λ both w. gives_with_zero (domain g.I.Concrete.Has g.I.Lattice.IsBelow g.I.IntDomain.OpGives g.I.IntDomain.OpOneGives g.I.IntDomain.ToGives g.I.IntDomain.KeepGives g.I.IntDomain.members_of) c.args.here.now c.args.id c.args.function.now c.in-Some.set.now both c.requires.function c.if-function.true at w) c.with_zero.ensures

pub returns-else-function : goal.returns-else-function
returns-else-function g c =
    let at : slice_get c.args.here.now.facts.now.results c.args.id ≡ Some c.in-Some.set.now = ap (λ sets. slice_get sets c.args.id) (sym c.all.ensures) ∙ sym c.in-Some.ensures in
    IfOk-weaker c.copied_set.result (λ copy. copy ≡ c.in-Some.set.now) _
    (λ copy e. gives_as_known (domain g.I.Concrete.Has g.I.Lattice.IsBelow g.I.IntDomain.OpGives g.I.IntDomain.OpOneGives g.I.IntDomain.ToGives g.I.IntDomain.KeepGives g.I.IntDomain.members_of) c.args.here.now c.args.id c.args.function.now copy c.requires.function c.if-function.false (at ∙ ap Some (sym e))) c.copied_set.ensures
