use Rattle.std.proofs.Common.{◌+◌, Bool, List, get_or, refl, subst, sym}
use Rattle.cc_things.proofs.Flags.{Flagged, flagged-more}
use Rattle.cc_things.proofs.mention.flags.Goals as goal

pub loop-spoken-preserved : goal.loop-spoken-preserved
loop-spoken-preserved c =
    let numbers = c.args.numbers.now in
    let i = c.loop-spoken.spoken-index in
    subst (λ (fs : List Bool). Flagged c.args.count (i + 1) numbers fs) (sym c.flag.ensures)
    (flagged-more c.args.count i (get_or numbers i 0) numbers c.loop-spoken.flags.items c.loop-spoken.invariant c.loop-spoken-test.true refl)
