use Rattle.std.proofs.Common.{◌<◌, length, set, ap, sym, ◌∙◌, arith}
use Rattle.std.proofs.lemmas.Result.{on_ok_weaker}
use Rattle.cc_plan_legal.proofs.GroupLemmas.{put_is, put_past}
use Rattle.cc_plan_legal.proofs.groups.put.Goals as goal

pub returns-then-at-len : goal.returns-then-at-len
returns-then-at-len c =
    let f = c.args.field.now in
    let gs = c.args.groups.now.items in
    let g = c.index_mut.result.now in
    let l : f.word < length gs = omega (arith, c.if-at-len.true, c.len.ensures) in
    on_ok_weaker c.add.result (λ e. ap (set gs f.word) e ∙ put_is f.word f gs g l c.index_mut.ensures.value) c.add.ensures

pub returns-else-at-len : goal.returns-else-at-len
returns-else-at-len c =
    let f = c.args.field.now in
    let gs = c.args.groups.now.items in
    sym (put_past f.word f gs (omega (arith, c.if-at-len.false, c.len.ensures)))
