use Rattle.std.proofs.Common.{◌∙◌, ℕ, List, map, ap}
use Rattle.cc_linked_names.proofs.Giving.{wished_more, wished_end}
use Rattle.cc_names.specs.Names.{Own}
use Rattle.cc_names.specs.declared.wish.Wish.TheVariants as wish
use Rattle.cc_program.specs.declared.types.CType.{CType}
use Rattle.cc_linked_names.proofs.wishes.wishes_in.Goals as goal

pub loop-local-preserved : goal.loop-local-preserved
loop-local-preserved c =
    wished_more (λ (x : List ℕ × CType). Own x.0) c.all-local-items.result.now c.loop-local.local-index c.local-item.result c.loop-local.wishes.items c.push.new.self.items (wish.Own c.all.result) c.loop-local-test.true c.local-item.is (ap Own c.all.ensures) c.in_ok-push.ensures.items c.loop-local.invariant

pub returns : goal.returns
returns c =
    wished_end (λ (x : List ℕ × CType). Own x.0) c.all-local-items.result.now c.loop-local.local-index c.loop-local.wishes.items c.loop-local-test.false c.loop-local.invariant
    ∙ ap (map (λ (x : List ℕ × CType). Own x.0)) c.all-local-items.ensures
