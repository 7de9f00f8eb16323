-- By what is found at the place.
use Rattle.std.proofs.Common.{None, Some, ap, sym, ◌∙◌}
use Rattle.std.specs.Prelude.{option_map}
use Rattle.std.specs.Option.{option_copied}
use Rattle.cc_state_reads.specs.CcStateKeys.Tracked.{tracked}
use Rattle.cc_state_reads.specs.CcStateOperators.Domains.{domain}
use Rattle.cc_state_shaped.proofs.Typed.{found_at, no_cell, no_object, of_tracked}
use Rattle.cc_state_shaped.proofs.lists.is_tracked_set.Goals as goal
use Rattle.cc_state_reads.specs.CcTyped.View.{value_view}

pub returns-in-None : goal.returns-in-None
returns-in-None g c =
    let d = domain g.I.Concrete.Has g.I.Lattice.IsBelow g.I.IntDomain.OpGives g.I.IntDomain.OpOneGives g.I.IntDomain.ToGives g.I.IntDomain.KeepGives g.I.IntDomain.members_of in
    let p = c.args.layout.now.program.now in
    no_cell d p c.args.set.now c.args.number (found_at (tracked p) c.all.result.now c.args.number None (c.all.ensures ∙ c.requires.tracked) (sym (ap option_copied c.in-None.is) ∙ c.at.ensures))

pub returns-in-None-at : goal.returns-in-None-at
returns-in-None-at g c =
    let d = domain g.I.Concrete.Has g.I.Lattice.IsBelow g.I.IntDomain.OpGives g.I.IntDomain.OpOneGives g.I.IntDomain.ToGives g.I.IntDomain.KeepGives g.I.IntDomain.members_of in
    let p = c.args.layout.now.program.now in
    no_object d p c.args.set.now c.args.number c.in-Some.object.now (found_at (tracked p) c.all.result.now c.args.number (Some c.in-Some.object.now) (c.all.ensures ∙ c.requires.tracked) (sym (ap option_copied c.in-Some.is) ∙ c.at.ensures))
    (found_at p.objects c.all-in-Some.result.now c.in-Some.object.now None (c.all-in-Some.ensures) (sym (ap option_copied c.in-None-at.is) ∙ c.at-in-Some.ensures))

pub returns-in-Some-at : goal.returns-in-Some-at
returns-in-Some-at g c =
    let d = domain g.I.Concrete.Has g.I.Lattice.IsBelow g.I.IntDomain.OpGives g.I.IntDomain.OpOneGives g.I.IntDomain.ToGives g.I.IntDomain.KeepGives g.I.IntDomain.members_of in
    let p = c.args.layout.now.program.now in
    of_tracked d p c.args.set.now c.args.number c.in-Some.object.now c.in-Some-at.object.now (option_map value_view c.scalar_value.result) c.is_set_of.result
    (found_at (tracked p) c.all.result.now c.args.number (Some c.in-Some.object.now) (c.all.ensures ∙ c.requires.tracked) (sym (ap option_copied c.in-Some.is) ∙ c.at.ensures))
    (found_at p.objects c.all-in-Some.result.now c.in-Some.object.now (Some c.in-Some-at.object.now) (c.all-in-Some.ensures) (sym (ap option_copied c.in-Some-at.is) ∙ c.at-in-Some.ensures)) c.scalar_value.ensures c.is_set_of.ensures
