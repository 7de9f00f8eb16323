use Rattle.std.proofs.Common.{arith, ◌&&◌, not, Bool, ap, ◌∙◌}
use Rattle.cc_state_facts.specs.declared.facts.Key.TheVariants as key
use Rattle.cc_state_keys.specs.Keys.{are_scalars, has_local_key}
use Rattle.cc_state_keys.specs.Lists.{made_from}
use Rattle.cc_state_keys.proofs.Grown.{made_grown, whole}
use Rattle.cc_state_keys.proofs.listed.put_locals_by.Goals as goal

pub loop-r-preserved : goal.loop-r-preserved
loop-r-preserved c =
    made_grown (has_local_key c.args.f.now) (key.Local c.args.id) c.args.keys.now.items c.loop-r.keys.items c.put_if.new.items.items c.all-local-items.result.now c.loop-r.r c.local-item.result c.has_local_key.result
    c.loop-r.invariant c.in_ok-put_if.ensures (c.has_local_key.ensures ∙ ap (λ (b : Bool). are_scalars c.local-item.result.1 && not b) (c.requires.marks c.loop-r.r)) c.loop-r-test.true c.local-item.is

pub returns : goal.returns
returns c =
    whole (made_from (has_local_key c.args.f.now) (key.Local c.args.id) 0) c.args.keys.now.items c.loop-r.keys.items c.all-local-items.result.now c.args.f.now.locals c.loop-r.r
    c.loop-r.invariant (omega (arith, c.loop-r-test.false)) c.all-local-items.ensures
