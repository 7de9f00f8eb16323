use Rattle.std.proofs.Common.{◌≡◌, List, take, subst, ◌∙◌}
use Rattle.std.specs.Prelude.{IfOk}
use Rattle.cc_state_facts.specs.declared.facts.Key.{Key}
use Rattle.cc_state_keys.specs.Tracked.{most_tracked, numbers, may_be_tracked}
use Rattle.cc_state_keys.proofs.Typed.{few-objects}
use Rattle.cc_state_keys.proofs.numbers.tracked.Goals as goal

pub tracked_but-requires : goal.tracked_but-requires
tracked_but-requires c = few-objects c.args.p.now c.requires

pub returns : goal.returns
returns c =
    subst (λ (ks : List Key). IfOk c.tracked_but.result (λ tracked. tracked.items ≡ take most_tracked (numbers (may_be_tracked ks) c.args.p.now.objects))) (c.deref.ensures.value ∙ c.in_ok-taken.ensures) c.tracked_but.ensures
