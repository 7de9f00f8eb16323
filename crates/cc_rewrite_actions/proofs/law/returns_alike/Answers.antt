use Rattle.cc_rewrite_actions.proofs.Calls.{returns-both}
use Rattle.cc_rewrite_actions.proofs.law.returns_alike.Goals as goal

pub returns : goal.returns
returns g c q p h nothing frame sq sp joined rq rp flag qs ps ql pl shared agree v value resumes =
    let s = g.S.KeptActions in
    returns-both (s.compared q p h) (Unit {0}) rq rp flag qs ps frame ql pl sq sp shared agree joined (s.kept q p h) nothing v value resumes
