-- One step of the search, by the lemmas on a list that is opened at its first file.
use Rattle.std.proofs.Common.{◌∙◌, sym}
use Rattle.cc_edge.proofs.Places.{opened, here, next_rest, next_later}
use Rattle.cc_edge.proofs.memory.place.Goals as goal

pub returns-then-is_named-clause-found : goal.returns-then-is_named-clause-found
returns-then-is_named-clause-found c =
    let d = opened c.args.files.now c.loop-i.i c.index-files-i.result c.loop-i-test.true c.index-files-i.is in
    here c.args.name.now c.args.files.now c.loop-i.i c.index-files-i.result d c.loop-i.invariant.later (sym c.is_named.ensures ∙ c.if-is_named.true)

pub loop-i-preserved : goal.loop-i-preserved
loop-i-preserved c =
    let d = opened c.args.files.now c.loop-i.i c.index-files-i.result c.loop-i-test.true c.index-files-i.is in
    let h = sym c.is_named.ensures ∙ c.if-is_named.false in
    record {
      rest = c.loop-i.invariant.rest ∙ next_rest c.args.name.now c.args.files.now c.loop-i.i c.index-files-i.result d c.loop-i.invariant.later h;
      later = next_later c.args.name.now c.args.files.now c.loop-i.i c.index-files-i.result d c.loop-i.invariant.later h;
    }
