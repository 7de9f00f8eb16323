-- By its reach, its level and its function.
use Rattle.std.proofs.Common.{List, slice_get, ap, sym, ◌∙◌}
use Rattle.std.proofs.lemmas.Result.{IfOk-weaker}
use Rattle.cc_program.specs.declared.func.Func.{Func}
use Rattle.cc_state_holds.proofs.Activity.{other_reach, other_level, other_function, by_body}
use Rattle.cc_state_holds.proofs.activations.is_activation_in.Goals as goal
use Rattle.cc_state_reads.specs.CcStateOperators.Domains.{domain}
use Rattle.cc_steps.specs.View.{active_of, actives_of}

pub is_body_in-requires-clause-basis : goal.is_body_in-requires-clause-basis
is_body_in-requires-clause-basis g c = c.requires

pub is_body_in-requires-clause-there : goal.is_body_in-requires-clause-there
is_body_in-requires-clause-there g c = sym (c.in-Some.ensures ∙ ap (λ (fs : List Func). slice_get fs c.args.a.now.func) c.all.ensures)

pub returns-then-not-is_reached_from : goal.returns-then-not-is_reached_from
returns-then-not-is_reached_from g c = λ m below top s.
    other_reach (domain g.I.Concrete.Has g.I.Lattice.IsBelow g.I.IntDomain.OpGives g.I.IntDomain.OpOneGives g.I.IntDomain.ToGives g.I.IntDomain.KeepGives g.I.IntDomain.members_of) c.args.b.now.program.now c.args.b.now.facts.now m c.args.around.now.flag (actives_of c.args.stack.now) (active_of c.args.a.now) below top c.innermost.result c.innermost.ensures c.if-not-is_reached_from.ensures

pub returns-then-not-may_run_at : goal.returns-then-not-may_run_at
returns-then-not-may_run_at g c = λ m below top s.
    other_level (domain g.I.Concrete.Has g.I.Lattice.IsBelow g.I.IntDomain.OpGives g.I.IntDomain.OpOneGives g.I.IntDomain.ToGives g.I.IntDomain.KeepGives g.I.IntDomain.members_of) c.args.b.now.program.now c.args.b.now.facts.now m c.args.around.now.flag (actives_of c.args.stack.now) (active_of c.args.a.now) below top c.running_level.result c.running_level.ensures c.if-not-may_run_at.ensures

pub returns-in-None : goal.returns-in-None
returns-in-None g c = λ m below top s.
    other_function (domain g.I.Concrete.Has g.I.Lattice.IsBelow g.I.IntDomain.OpGives g.I.IntDomain.OpOneGives g.I.IntDomain.ToGives g.I.IntDomain.KeepGives g.I.IntDomain.members_of) c.args.b.now.program.now c.args.b.now.facts.now m c.args.around.now.flag (actives_of c.args.stack.now) (active_of c.args.a.now) below top (c.in-None.ensures ∙ ap (λ (fs : List Func). slice_get fs c.args.a.now.func) c.all.ensures)

pub returns-in-Some : goal.returns-in-Some
returns-in-Some g c =
    IfOk-weaker c.is_body_in.result _ _
    (λ yes k m below top s.
    by_body (domain g.I.Concrete.Has g.I.Lattice.IsBelow g.I.IntDomain.OpGives g.I.IntDomain.OpOneGives g.I.IntDomain.ToGives g.I.IntDomain.KeepGives g.I.IntDomain.members_of) c.args.b.now.program.now c.args.b.now.facts.now m c.args.around.now.flag (actives_of c.args.stack.now) (active_of c.args.a.now) below top c.innermost.result c.innermost.ensures c.running_level.result c.running_level.ensures c.in-Some.f.now yes
    (c.in-Some.ensures ∙ ap (λ (fs : List Func). slice_get fs c.args.a.now.func) c.all.ensures) c.if-not-is_reached_from.ensures c.if-not-may_run_at.ensures (k m s))
    c.is_body_in.ensures
