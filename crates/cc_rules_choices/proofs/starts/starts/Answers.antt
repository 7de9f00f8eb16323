-- What waits at the end starts behind them all.
use Rattle.std.proofs.Common.{◌++◌, arith, map, replicate, ap, sym, ◌∙◌}
use Rattle.std.proofs.lemmas.List.{drop_all}
use Rattle.cc_flow.specs.Laws.{starts}
use Rattle.cc_flow.specs.View.{case_total}
use Rattle.cc_rules_choices.proofs.StartLemmas.{ended}
use Rattle.cc_rules_choices.proofs.starts.starts.Goals as goal

pub returns : goal.returns
returns c =
    let cases = c.args.cases.now in
    let i = c.loop-case.case-index in
    let all = c.loop-case.all.items in
    let number = c.loop-case.number in
    let behind = c.args.behind in
    let waiting = c.loop-case.waiting in
    c.in_ok-put_times.ensures
    ∙ ap (λ ns. all ++ ns) (sym (ended number behind waiting))
    ∙ ap (λ xs. all ++ starts number behind (replicate waiting 0 ++ map case_total xs)) (sym (drop_all i cases (omega (arith, c.loop-case-test.false))))
    ∙ c.loop-case.invariant.all
