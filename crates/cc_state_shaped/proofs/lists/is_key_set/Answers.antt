-- By what is found at the place.
use Rattle.std.proofs.Common.{None, Some, ap, sym, ◌∙◌}
use Rattle.std.specs.Option.{option_copied}
use Rattle.cc_state_reads.specs.CcStateKeys.Keys.{keys_of}
use Rattle.cc_state_reads.specs.CcStateOperators.Domains.{domain}
use Rattle.cc_state_shaped.proofs.Typed.{found_at, no_key, no_key_type, of_key}
use Rattle.cc_state_shaped.proofs.lists.is_key_set.Goals as goal

pub returns-in-None : goal.returns-in-None
returns-in-None g c =
    let d = domain g.I.Concrete.Has g.I.Lattice.IsBelow g.I.IntDomain.OpGives g.I.IntDomain.OpOneGives g.I.IntDomain.ToGives g.I.IntDomain.KeepGives g.I.IntDomain.members_of in
    let p = c.args.layout.now.program.now in
    no_key d p c.args.set.now c.args.number (found_at (keys_of p) c.all.result.now c.args.number None (c.all.ensures ∙ c.requires.keys) (sym (ap option_copied c.in-None.is) ∙ c.at.ensures))

pub returns-in-None-ctype_of : goal.returns-in-None-ctype_of
returns-in-None-ctype_of g c =
    let d = domain g.I.Concrete.Has g.I.Lattice.IsBelow g.I.IntDomain.OpGives g.I.IntDomain.OpOneGives g.I.IntDomain.ToGives g.I.IntDomain.KeepGives g.I.IntDomain.members_of in
    let p = c.args.layout.now.program.now in
    no_key_type d p c.args.set.now c.args.number c.in-Some.key.now (found_at (keys_of p) c.all.result.now c.args.number (Some c.in-Some.key.now) (c.all.ensures ∙ c.requires.keys) (sym (ap option_copied c.in-Some.is) ∙ c.at.ensures)) (sym c.ctype_of.ensures ∙ ap option_copied c.in-None-ctype_of.is)

pub returns-in-Some-ctype_of : goal.returns-in-Some-ctype_of
returns-in-Some-ctype_of g c =
    let d = domain g.I.Concrete.Has g.I.Lattice.IsBelow g.I.IntDomain.OpGives g.I.IntDomain.OpOneGives g.I.IntDomain.ToGives g.I.IntDomain.KeepGives g.I.IntDomain.members_of in
    let p = c.args.layout.now.program.now in
    of_key d p c.args.set.now c.args.number c.in-Some.key.now c.in-Some-ctype_of.t.now c.is_cell_set.result (found_at (keys_of p) c.all.result.now c.args.number (Some c.in-Some.key.now) (c.all.ensures ∙ c.requires.keys) (sym (ap option_copied c.in-Some.is) ∙ c.at.ensures)) (sym c.ctype_of.ensures ∙ ap option_copied c.in-Some-ctype_of.is) c.is_cell_set.ensures
