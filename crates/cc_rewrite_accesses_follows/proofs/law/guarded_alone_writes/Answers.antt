-- By the lemmas on them.
use Rattle.cc_rewrite_accesses_follows.proofs.GuardedAloneTurns.{guarded-alone-write, guarded-alone-bad-write}
use Rattle.cc_rewrite_accesses_follows.proofs.law.guarded_alone_writes.Goals as goal

pub returns : goal.returns
returns g c =
    let pairs = g.S.ComparedPrograms in record {
      writes = λ q p x frame f ps slot qs ql pl agree store source flag those s h guard back rest n m qa pa joined inside.
          guarded-alone-write (pairs.compared q p x) frame f slot qs ql pl agree store source flag those back rest n m qa pa s h guard joined inside;
      bad = λ q p x frame f ps slot qs ql pl agree store source flag those s h guard back rest n m qa pa before.
          guarded-alone-bad-write (pairs.compared q p x) frame f slot qs ql pl agree store source flag those back rest n m qa pa s h guard before;
    }
