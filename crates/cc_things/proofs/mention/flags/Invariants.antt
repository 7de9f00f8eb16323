use Rattle.cc_things.proofs.Flags.{Flagged}
use Rattle.cc_things.proofs.mention.flags.Given as goal

abbrev pub invariant-loop-spoken : goal.invariant-loop-spoken
invariant-loop-spoken l = Flagged l.count l.spoken-index l.numbers l.flags.items
