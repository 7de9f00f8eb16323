use Rattle.std.proofs.Common.{ℕ, List, get_or, take, sym, subst}
use Rattle.std.proofs.lemmas.List.{take_more}
use Rattle.cc_fix.proofs.Steps.{put_then}
use Rattle.cc_fix.proofs.work.put_all.Goals as goal
use Rattle.cc_fix.specs.Work.{listed, ArePut}

pub loop-index-preserved : goal.loop-index-preserved
loop-index-preserved g c =
    let n = c.loop-index.index-index in
    let old = c.args.work.now in
    let new = c.put.new.work in
    subst (λ (more : List ℕ). ArePut more old.pending.items (listed old) new.pending.items (listed new)) (sym (take_more c.args.list.now n 0 c.loop-index-test.true))
    (put_then (take n c.args.list.now) (get_or c.args.list.now n 0) old.pending.items c.loop-index.work.pending.items new.pending.items (listed old) (listed c.loop-index.work) (listed new) c.loop-index.invariant c.in_ok-put.ensures)
