-- By the lemmas on them.
use Rattle.cc_rewrite_accesses_follows.proofs.ConstantReads.{constant-read}
use Rattle.cc_rewrite_accesses_follows.proofs.ConstantWrites.{constant-write, bad-write}
use Rattle.cc_rewrite_accesses_follows.proofs.law.constants.Goals as goal

pub returns : goal.returns
returns g c =
    let pairs = g.S.ComparedPrograms in record {
      reads = λ q p x frame f ps those take source h back rest n m qa pa joined qs ql pl agree. constant-read (pairs.compared q p x) frame f ps those take source h back rest n m qa pa joined qs ql pl agree;
      writes = λ q p x frame f these those asked others keep source back rest n m qa pa qs ps ql pl agree on h joined. constant-write (pairs.compared q p x) frame f these those asked others keep source back rest n m qa pa qs ps ql pl agree on h joined;
      bad = λ q p x frame f these those asked others store source back rest n m qa pa qs ps ql pl agree on h. bad-write (pairs.compared q p x) frame f these those asked others store source back rest n m qa pa qs ps ql pl agree on h;
    }
