use Rattle.std.proofs.Common.{arith, ◌≡◌, ◌++◌, ap}
use Rattle.cc_initialisers.specs.Scalars.{index_at, scalars_from}
use Rattle.cc_initialisers.specs.View.{part_view, content_view}
use Rattle.cc_initialisers.proofs.Places.{element-placed}
use Rattle.cc_initialisers.proofs.Sizes.{nodes, part-below}
use Rattle.cc_program.specs.declared.expr.Place.{Element}
use Rattle.cc_initialisers.proofs.scalars.+scalars.Goals as goal

pub put_elements-loop-i-preserved : goal.put_elements-loop-i-preserved
put_elements-loop-i-preserved t c =
    let scalars = scalars_from c.args.target.now (part_view c.args.of) 0 in
    let placed : c.put_scalars.new.out.items ≡ c.loop-i.out.items ++ scalars (Element c.args.array.now (index_at c.args.target.now c.loop-i.i)) = cc (c.in_ok-put_scalars.ensures, c.content.ensures, c.in_ok-a.ensures) in
    element-placed c.args.target.now scalars c.args.array.now c.args.n c.loop-i.i c.loop-i.out.items c.put_scalars.new.out.items _ c.loop-i-test.true placed c.loop-i.invariant

pub put_members-put_scalars-requires : goal.put_members-put_scalars-requires
put_members-put_scalars-requires t c =
    let same : nodes (content_view c.content.result) ≡ nodes (part_view c.part.result) = ap nodes c.content.ensures in
    let member = ap nodes c.part.ensures in
    let below = part-below c.args.members c.loop-named.named-index c.named-item.result c.loop-named-test.true c.named-item.is in
    (omega (arith, below, same, member), tt)
