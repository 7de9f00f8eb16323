-- One more register and one more set come first.
use Rattle.std.proofs.Common.{◌++◌, ◌∷◌, [], ap, ◌∙◌}
use Rattle.cc_rules_flows.specs.CcPlaces.declared.abs.Abs.TheVariants as abs
use Rattle.cc_rules_tests.proofs.changed.Changed.new.Goals as goal

pub returns : goal.returns
returns g c = (
  0,
  abs.Ints c.none.result,
  c.in_ok-registers.ensures,
  c.in_ok-put_shared.ensures ∙ ap (λ xs. xs ++ c.args.c.now.sets.now) (c.in_ok-push.ensures.items ∙ (ap (λ xs. xs ++ c.in_ok-first.first ∷ []) c.new-sets.ensures.items ∙ ap (λ s. s ∷ []) c.in_ok-first.ensures)),
)
