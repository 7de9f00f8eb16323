use Rattle.std.proofs.Common.{◌≡◌, ◌∙◌, ◌+◌, ap, sym, arith, take, sum_by, if◌then◌else◌}
use Rattle.cc_things.specs.Mentions.{Mention}
use Rattle.cc_things.specs.View.{views_of}
use Rattle.cc_things.proofs.Counted.{sum-all, sum-more, more-than-one}
use Rattle.cc_things.proofs.facts.is_defined_twice.Goals.{then-m-eq1+else-is_defined, else-m-eq1}
use Rattle.cc_things.proofs.facts.is_defined_twice.Goals as goal

pub returns-then-m-gt1 : goal.returns-then-m-gt1
returns-then-m-gt1 c =
    let all = sum-all (λ m. m.name.count) c.args.t.now.mentions.items c.as_slice-m-items.result.now c.loop-m.m-index c.m-item.result c.as_slice-m-items.ensures.value c.loop-m-test.true c.m-item.is in
    let many = c.if-m-gt1.true in
    more-than-one _ (omega (arith, all, many))

pub returns-then-is_defined : goal.returns-then-is_defined
returns-then-is_defined c =
    let all = sum-all (λ m. m.name.count) c.args.t.now.mentions.items c.as_slice-m-items.result.now c.loop-m.m-index c.m-item.result c.as_slice-m-items.ensures.value c.loop-m-test.true c.m-item.is in
    let one = c.if-m-eq1.true in
    let before = c.loop-m.invariant ∙ ap (λ b. if b then 1 else 0) c.if-is_defined.true in
    more-than-one _ (omega (arith, all, one, before))

pub loop-m-preserved : goal.loop-m-preserved
loop-m-preserved c =
    let more = sum-more (λ m. m.name.count) c.args.t.now.mentions.items c.as_slice-m-items.result.now c.loop-m.m-index c.m-item.result c.as_slice-m-items.ensures.value c.loop-m-test.true c.m-item.is in
    elim c.if-m-eq1.branch [
      | then-m-eq1+else-is_defined w ↦
          let before : sum_by (λ (m : Mention). m.name.count) (views_of (take c.loop-m.m-index c.args.t.now.mentions.items)) ≡ 0 = c.loop-m.invariant ∙ ap (λ b. if b then 1 else 0) w.if-is_defined.false in
          let one = w.if-m-eq1.true in
          let now : sum_by (λ (m : Mention). m.name.count) (views_of (take (c.loop-m.m-index + 1) c.args.t.now.mentions.items)) ≡ 1 = omega (arith, more, before, one) in
          now ∙ ap (λ b. if b then 1 else 0) (sym w.is_defined-is)
      | else-m-eq1 w ↦
          let few = c.if-m-gt1.false in
          let other = w.if-m-eq1.false in
          let same : sum_by (λ (m : Mention). m.name.count) (views_of (take (c.loop-m.m-index + 1) c.args.t.now.mentions.items)) ≡ sum_by (λ (m : Mention). m.name.count) (views_of (take c.loop-m.m-index c.args.t.now.mentions.items)) = omega (arith, more, few, other) in
          same ∙ (c.loop-m.invariant ∙ ap (λ b. if b then 1 else 0) (sym w.is_defined-is))
    ]
