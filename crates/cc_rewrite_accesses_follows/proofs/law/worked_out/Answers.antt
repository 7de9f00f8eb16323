-- By the lemma on them.
use Rattle.cc_rewrite_accesses_follows.specs.Accesses.{ApartFrom}
use Rattle.cc_rewrite_accesses_follows.proofs.WorkingOut.{worked-out}
use Rattle.cc_rewrite_accesses_follows.proofs.law.worked_out.Goals as goal

pub returns : goal.returns
returns g c =
    let pairs = g.S.ComparedPrograms in record {
      writes = λ q p x frame f qs ps ql pl agree these those keep source back rest n m qa pa field asked h on behind.
          worked-out (pairs.compared q p x) frame f qs ps ql pl agree these those keep source back rest n m qa pa (ApartFrom (pairs.compared q p x) frame f field) asked h on behind;
    }
