use Rattle.std.proofs.Common.{sym, ◌∙◌}
use Rattle.cc_things.specs.Things.{is_external_linkage}
use Rattle.cc_things.proofs.Counted.{any-found, any-not}
use Rattle.cc_things.proofs.facts.is_external.Goals as goal

pub returns-then-is_external_name : goal.returns-then-is_external_name
returns-then-is_external_name c = any-found (λ m. is_external_linkage m.name.linkage) c.args.t.now.mentions.items c.as_slice-m-items.result.now c.loop-m.m-index c.m-item.result c.as_slice-m-items.ensures.value c.loop-m-test.true c.m-item.is (sym c.is_external_name.ensures ∙ c.if-is_external_name.true)

pub loop-m-preserved : goal.loop-m-preserved
loop-m-preserved c = any-not (λ m. is_external_linkage m.name.linkage) c.args.t.now.mentions.items c.as_slice-m-items.result.now c.loop-m.m-index c.m-item.result c.as_slice-m-items.ensures.value c.loop-m-test.true c.m-item.is c.loop-m.invariant (sym c.is_external_name.ensures ∙ c.if-is_external_name.false)
