-- By the kind of the object.
use Rattle.std.proofs.Common.{sym, subst}
use Rattle.std.specs.Prelude.{◌↔◌, IsTrue}
use Rattle.std.proofs.lemmas.Result.{IfOk-weaker}
use Rattle.cc_program.specs.declared.value.Cell.TheVariants as cell
use Rattle.cc_program.specs.declared.value.Root.{Root}
use Rattle.cc_proof_covers.specs.Covers.{WasIn}
use Rattle.cc_state.specs.View.{view}
use Rattle.cc_state_holds.proofs.operands.was_object_in.Goals as goal
use Rattle.cc_state_reads.specs.CcStateOperators.Domains.{domain}
use Rattle.cc_steps.specs.View.{active_of}

pub was_static_in-requires-clause-basis : goal.was_static_in-requires-clause-basis
was_static_in-requires-clause-basis g c = c.requires.basis

pub was_static_in-requires-clause-place : goal.was_static_in-requires-clause-place
was_static_in-requires-clause-place g c = c.requires.place

pub was_auto_in-requires-clause-basis : goal.was_auto_in-requires-clause-basis
was_auto_in-requires-clause-basis g c = c.requires.basis

pub was_auto_in-requires-clause-place : goal.was_auto_in-requires-clause-place
was_auto_in-requires-clause-place g c = c.requires.place

pub returns-in-Static : goal.returns-in-Static
returns-in-Static g c = λ f e.
    subst (λ (r : Root). IsTrue c.was_static_in.result ↔ WasIn c.args.b.now.program.now (view (domain g.I.Concrete.Has g.I.Lattice.IsBelow g.I.IntDomain.OpGives g.I.IntDomain.OpOneGives g.I.IntDomain.ToGives g.I.IntDomain.KeepGives g.I.IntDomain.members_of) c.args.b.now.program.now c.args.b.now.facts.now) (active_of c.args.a.now) f c.args.place.now.number (cell.At r c.args.path.now) c.args.value.now) (sym c.in-Static.is)
    (c.was_static_in.ensures (active_of c.args.a.now) f)

pub returns-in-Auto : goal.returns-in-Auto
returns-in-Auto g c =
    IfOk-weaker c.was_auto_in.result _ _
    (λ yes k f e.
    subst (λ (r : Root). IsTrue yes ↔ WasIn c.args.b.now.program.now (view (domain g.I.Concrete.Has g.I.Lattice.IsBelow g.I.IntDomain.OpGives g.I.IntDomain.OpOneGives g.I.IntDomain.ToGives g.I.IntDomain.KeepGives g.I.IntDomain.members_of) c.args.b.now.program.now c.args.b.now.facts.now) (active_of c.args.a.now) f c.args.place.now.number (cell.At r c.args.path.now) c.args.value.now) (sym c.in-Auto.is) (k f e))
    c.was_auto_in.ensures
