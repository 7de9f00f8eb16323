-- By the lemmas on them.
use Rattle.cc_rewrite_accesses_follows.proofs.ReadTurns.{plain-read}
use Rattle.cc_rewrite_accesses_follows.proofs.law.plain_reads.Goals as goal

pub returns : goal.returns
returns g c =
    let pairs = g.S.ComparedPrograms in record {
      reads = λ q p x frame f ps slot qs ql pl agree these those load take source h back rest n m qa pa joined.
          plain-read (pairs.compared q p x) frame f slot qs ql pl agree these those load take source h back rest n m qa pa joined;
    }
