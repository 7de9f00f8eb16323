use Rattle.cc_rewrite_actions.proofs.Actions.{performs}
use Rattle.cc_rewrite_actions.proofs.law.actions_alike.Goals as goal

pub returns : goal.returns
returns g c q p h frame sq sp joined marks rq rp flag qs ps ql pl shared agree action known =
    let s = g.S.KeptActions in
    performs (s.compared q p h) (Unit {0}) (s.kept q p h) (s.unguarded q p h) frame sq sp joined marks rq rp flag qs ps ql pl shared agree action known
