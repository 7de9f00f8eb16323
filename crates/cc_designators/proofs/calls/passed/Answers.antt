use Rattle.std.proofs.Common.{rules, ◌≡◌, ◌∷◌, ◌++◌, []}
use Rattle.std.specs.Vec.Iter.{into_iter_items}
use Rattle.cc_designators.proofs.Arguments.{passed-more}
use Rattle.cc_operands.specs.View.{operand_view}
use Rattle.cc_designators.proofs.calls.passed.Goals as goal

pub loop-t-preserved : goal.loop-t-preserved
loop-t-preserved c =
    let first : into_iter_items c.loop-t.xs ≡ c.in-Some.x ∷ into_iter_items c.next.new.self = search rules in
    let pushed : c.push.new.self.items ≡ c.loop-t.values.items ++ (operand_view c.in_ok-y.y).value ∷ [] = search rules in
    passed-more c.args.target.now c.args.params.now c.loop-t.t-index c.t-item.result c.loop-t.values.items c.push.new.self.items c.in-Some.x (into_iter_items c.loop-t.xs) (into_iter_items c.next.new.self) (operand_view c.in_ok-y.y) _ c.loop-t-test.true c.t-item.is first c.in_ok-y.ensures pushed c.loop-t.invariant
