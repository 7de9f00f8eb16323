-- By the lemmas on them.
use Rattle.cc_rewrite_accesses_follows.proofs.GuardedWriteTurns.{guarded-write, guarded-bad-write}
use Rattle.cc_rewrite_accesses_follows.proofs.law.guarded_writes.Goals as goal

pub returns : goal.returns
returns g c =
    let pairs = g.S.ComparedPrograms in record {
      writes = λ q p x frame f ps slot qs ql pl agree load store source flag those s h guard back rest n m qa pa joined.
          guarded-write (pairs.compared q p x) frame f slot qs ql pl agree load store source flag those back rest n m qa pa s h guard joined;
      bad = λ q p x frame f ps slot qs ql pl agree load store source flag those s h guard back rest n m qa pa before.
          guarded-bad-write (pairs.compared q p x) frame f slot qs ql pl agree load store source flag those back rest n m qa pa s h guard before;
    }
