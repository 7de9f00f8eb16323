-- By the lemmas on them.
use Rattle.cc_rewrite_accesses_follows.proofs.GuardedReadTurns.{guarded-read}
use Rattle.cc_rewrite_accesses_follows.proofs.law.guarded_reads.Goals as goal

pub returns : goal.returns
returns g c =
    let pairs = g.S.ComparedPrograms in record {
      reads = λ q p x frame f ps slot qs ql pl agree load take source h guard by back rest n m qa pa joined.
          guarded-read (pairs.compared q p x) frame f slot qs ql pl agree load take source h guard by back rest n m qa pa joined;
    }
