use Rattle.std.proofs.Common.{◌≡◌, ◌+◌, ◌<◌, ◌^◌, length, true, false, arith, sym, ◌∙◌}
use Rattle.std.specs.List.{list_any}
use Rattle.cc_control.specs.Control.{counted}
use Rattle.cc_control.specs.View.{is_wanted}
use Rattle.cc_control.proofs.CaseLemmas.{label_here, label_behind}
use Rattle.cc_control.proofs.labels.from_case.Goals as goal

pub returns-then-has_wanted : goal.returns-then-has_wanted
returns-then-has_wanted c =
    let r : c.loop-case.before < 2 ^ 32 = c.loop-case.invariant.0 in
    let k : list_any (is_wanted c.args.wanted.now) c.in-Some.case.now.labels ≡ true = cc in
    label_here (list_any (is_wanted c.args.wanted.now)) c.loop-case.before c.in-Some.case.now c.in-Some.behind.now c.loop-case.left.now c.in-Some.ensures.cases.0 (omega arith) k
    ∙ sym c.loop-case.invariant.1

pub loop-case-preserved : goal.loop-case-preserved
loop-case-preserved c =
    let k : list_any (is_wanted c.args.wanted.now) c.in-Some.case.now.labels ≡ false = cc in
    let z : c.all-in-Some.result.now ≡ c.in-Some.case.now.body = c.all-in-Some.ensures in
    let m : counted (c.loop-case.before + length c.in-Some.case.now.body) ≡ counted c.saturating_add-before.result = rw (sym z) (omega arith) in (
      omega arith,
      c.loop-case.invariant.1
          ∙ label_behind (list_any (is_wanted c.args.wanted.now)) c.loop-case.before c.saturating_add-before.result c.in-Some.case.now c.in-Some.behind.now c.loop-case.left.now c.in-Some.ensures.cases.0 m k,
    )
