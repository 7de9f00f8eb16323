-- By the lemma on them.
use Rattle.cc_rewrite_accesses_follows.proofs.Asking.{ask-together}
use Rattle.cc_rewrite_accesses_follows.proofs.law.asked_alike.Goals as goal

pub returns : goal.returns
returns g c q p x frame f qs ps ql pl agree these those a b first source h k back rest n m qa pa joined =
    let pairs = g.S.ComparedPrograms in ask-together (pairs.compared q p x) frame f qs ps ql pl agree these those a b first source h k back rest n m qa pa joined
