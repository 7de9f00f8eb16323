-- By the lemmas on them.
use Rattle.cc_rewrite_accesses_follows.proofs.AloneWriteTurns.{alone-write}
use Rattle.cc_rewrite_accesses_follows.proofs.law.alone_writes.Goals as goal

pub returns : goal.returns
returns g c =
    let pairs = g.S.ComparedPrograms in record {
      writes = λ q p x frame f ps slot qs ql pl agree these those asked others store source h back rest n m qa pa joined on.
          alone-write (pairs.compared q p x) frame f slot qs ql pl agree these those asked others store source h back rest n m qa pa joined on;
    }
