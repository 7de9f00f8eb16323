-- By the lemmas on them.
use Rattle.cc_rewrite_accesses_follows.proofs.WriteTurns.{plain-write, plain-bad-write}
use Rattle.cc_rewrite_accesses_follows.proofs.law.plain_writes.Goals as goal

pub returns : goal.returns
returns g c =
    let pairs = g.S.ComparedPrograms in record {
      writes = λ q p x frame f ps slot qs ql pl agree these load store source those s h back rest n m qa pa joined unguarded.
          plain-write (pairs.compared q p x) frame f slot qs ql pl agree these load store source those back rest n m qa pa s h joined unguarded;
      bad = λ q p x frame f ps slot qs ql pl agree these load store source those s h back rest n m qa pa before.
          plain-bad-write (pairs.compared q p x) frame f slot qs ql pl agree these load store source those back rest n m qa pa s h before;
    }
