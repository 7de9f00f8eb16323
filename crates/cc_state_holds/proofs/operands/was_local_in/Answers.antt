-- By its function, if that is there.
use Rattle.std.proofs.Common.{List, slice_get, ap, sym, ◌∙◌}
use Rattle.cc_program.specs.declared.func.Func.{Func}
use Rattle.cc_state_holds.proofs.Positions.{missing_read}
use Rattle.cc_state_holds.proofs.operands.was_local_in.Goals as goal
use Rattle.cc_state_reads.specs.CcStateOperators.Domains.{domain}

pub is_local_value-requires-clause-basis : goal.is_local_value-requires-clause-basis
is_local_value-requires-clause-basis g c = c.requires

pub is_local_value-requires-clause-there : goal.is_local_value-requires-clause-there
is_local_value-requires-clause-there g c = sym (c.in-Some.ensures ∙ ap (λ (fs : List Func). slice_get fs c.args.local.func) c.all.ensures)

pub returns-in-None : goal.returns-in-None
returns-in-None g c =
    let l = c.args.local in
    missing_read (domain g.I.Concrete.Has g.I.Lattice.IsBelow g.I.IntDomain.OpGives g.I.IntDomain.OpOneGives g.I.IntDomain.ToGives g.I.IntDomain.KeepGives g.I.IntDomain.members_of) c.args.b.now.program.now c.args.b.now.facts.now l.activation l.func l.local c.args.path.now c.args.value.now (c.in-None.ensures ∙ ap (λ (fs : List Func). slice_get fs c.args.local.func) c.all.ensures)

pub returns-in-Some : goal.returns-in-Some
returns-in-Some g c = c.is_local_value.ensures
