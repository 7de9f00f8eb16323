use Rattle.std.proofs.Common.{arith, ◌≡◌, ◌+◌, ℕ, length, sum_by, ap, ◌∙◌}
use Rattle.cc_flow.specs.declared.types.Flow.{Flow}
use Rattle.cc_state_keys.specs.Counts.{facts_at}
use Rattle.cc_state_keys.specs.Keys.{keys_of}
use Rattle.cc_state_keys.specs.Tracked.{tracked}
use Rattle.cc_state_keys.proofs.FactCounts.{all_counted, few_tracked}
use Rattle.cc_state_keys.proofs.counts.count_facts.Goals as goal

pub overflow_cast-len : goal.overflow_cast-len
overflow_cast-len c = record { fits = omega (arith, c.len-2.ensures, ap length c.in_ok-tracked.ensures, few_tracked c.args.p.now) }

pub returns : goal.returns
returns c =
    let p = c.args.p.now in
    let keys : c.len.result ≡ length (keys_of p) = omega (arith, c.len.ensures, ap length c.in_ok-keys.ensures) in
    let count : c.len-2.result ≡ length (tracked p) = omega (arith, c.len-2.ensures, ap length c.in_ok-tracked.ensures) in
    let points = c.all.ensures ∙ ap (λ (flow : Flow). flow.points) c.requires.own in
    ap (λ (n : ℕ). n + c.facts_at_points.result) keys
    ∙ ap (λ (n : ℕ). length (keys_of p) + n) (c.facts_at_points.ensures.sum
    ∙ all_counted p c.deref.result.now c.len-2.result c.all.result.now (c.deref.ensures.value ∙ c.in_ok-counts.ensures) count
    ∙ ap (sum_by (facts_at p)) points)
