use Rattle.std.proofs.Common.{◌∙◌, ◌+◌, ap, sym, if◌then◌else◌}
use Rattle.std.proofs.lemmas.List.{take_all}
use Rattle.cc_lower_numbers.specs.Temporaries.{named_count}
use Rattle.cc_lower_numbers.proofs.Counts.{count_more}
use Rattle.cc_lower_numbers.proofs.temporaries.named_count.Goals as goal

pub loop-local-preserved : goal.loop-local-preserved
loop-local-preserved c = record {
  at = ap (λ n. n + 1) c.loop-local.invariant.at;
  done =
      c.counted-count.ensures
      ∙ (λ i. if c.has_name.ensures i then c.loop-local.invariant.at i + 1 else c.loop-local.invariant.done i)
      ∙ sym (count_more c.args.locals.now c.loop-local.local-index c.local-item.result c.loop-local-test.true c.local-item.is);
}

pub returns : goal.returns
returns c = c.loop-local.invariant.done ∙ ap named_count (take_all c.loop-local.local-index c.args.locals.now c.loop-local-test.false)
