use Rattle.std.proofs.Common.{sym, ◌∙◌}
use Rattle.cc_things.specs.Things.{is_func_kind}
use Rattle.cc_things.proofs.Counted.{any-found, any-not}
use Rattle.cc_things.proofs.facts.is_func.Goals as goal

pub returns-then-is_func_name : goal.returns-then-is_func_name
returns-then-is_func_name c = any-found (λ m. is_func_kind m.name.kind) c.args.t.now.mentions.items c.as_slice-m-items.result.now c.loop-m.m-index c.m-item.result c.as_slice-m-items.ensures.value c.loop-m-test.true c.m-item.is (sym c.is_func_name.ensures ∙ c.if-is_func_name.true)

pub loop-m-preserved : goal.loop-m-preserved
loop-m-preserved c = any-not (λ m. is_func_kind m.name.kind) c.args.t.now.mentions.items c.as_slice-m-items.result.now c.loop-m.m-index c.m-item.result c.as_slice-m-items.ensures.value c.loop-m-test.true c.m-item.is c.loop-m.invariant (sym c.is_func_name.ensures ∙ c.if-is_func_name.false)
