use Rattle.std.proofs.Common.{◌↔◌, IsTrue, sym, subst}
use Rattle.cc_program.specs.declared.program.Program.{Program}
use Rattle.cc_state.specs.Shape.{HaveShape}
use Rattle.cc_state_reads.specs.CcStateOperators.Domains.{domain}
use Rattle.cc_state_shaped.specs.Layout.{IsLayoutOf}
use Rattle.cc_state_shaped.proofs.shape.has_shape.Goals as goal
use Rattle.cc_state_reads.proofs.CcSyntax.NameRules.{sound-typed}

pub layout_of-requires : goal.layout_of-requires
layout_of-requires g c = record { typed = sound-typed c.args.p.now c.requires.normal.sound; flow = c.requires.flow }

pub have_shape-requires : goal.have_shape-requires
have_shape-requires g c = subst (λ (q : Program). IsLayoutOf q c.in_ok-layout.layout) (sym c.in_ok-layout.ensures.program) c.in_ok-layout.ensures

pub returns : goal.returns
returns g c =
    let d = domain g.I.Concrete.Has g.I.Lattice.IsBelow g.I.IntDomain.OpGives g.I.IntDomain.OpOneGives g.I.IntDomain.ToGives g.I.IntDomain.KeepGives g.I.IntDomain.members_of in
    subst (λ (q : Program). IsTrue c.have_shape.result ↔ HaveShape d q c.args.facts.now) c.in_ok-layout.ensures.program c.have_shape.ensures
