-- The first line that gives no arrival behind those before it is told.
use Rattle.std.proofs.Common.{◌+◌, ◌-◌, ◌^◌, min, drop, map, ap, sym, refl, ◌∙◌}
use Rattle.cc_run.specs.Arrivals.{written_of, arrivals_from}
use Rattle.cc_run.proofs.Coming.{came-bad, picked, no-arrival}
use Rattle.cc_run.proofs.arrivals.arrivals_in.Goals as goal

pub returns-in-None-clause-fault : goal.returns-in-None-clause-fault
returns-in-None-clause-fault c =
    let fs = c.args.funcs.now in
    let ls = c.args.lines.now in
    let i = c.loop-line.line-index in
    let w = written_of c.line-item.result in
    let none = sym c.in-None.ensures in
    came-bad (arrivals_from fs 0 (map written_of ls)) c.loop-line.arrivals.items _ (arrivals_from fs c.loop-line.last (map written_of (drop i ls))) (arrivals_from fs c.loop-line.last (map written_of (drop (i + 1) ls))) c.row_behind.result
    c.loop-line.invariant
    (no-arrival fs c.loop-line.last (map written_of (drop i ls)) w (map written_of (drop (i + 1) ls)) (picked written_of ls i c.line-item.result c.loop-line-test.true c.line-item.is) none)
    refl
    (c.row_behind.ensures ∙ ap (λ n. min (n + 1) (2 ^ 32 - 1)) (c.len.ensures ∙ c.loop-line.arrivals.ok.0))
