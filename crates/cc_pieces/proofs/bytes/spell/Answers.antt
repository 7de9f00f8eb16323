use Rattle.std.proofs.Common.{arith, ◌≡◌, ◌-◌}
use Rattle.std.proofs.lemmas.Grind.{common_steps}
use Rattle.cc_pieces.proofs.PieceLemmas.{spell-all, spell-next, spell-none}
use Rattle.cc_pieces.proofs.bytes.spell.Goals as goal

pub loop-left-init : goal.loop-left-init
loop-left-init c = (omega arith, spell-all c.args.last_first.now _ _ c.new-out.ensures.items c.new-bytes.ensures.items)

pub loop-left-preserved : goal.loop-left-preserved
loop-left-preserved c =
    let seen : c.deref.result.now ≡ c.loop-left.bytes.items = grind (arith, common_steps) in (
      omega arith,
      spell-next c.args.last_first.now (c.loop-left.left - 1) c.loop-left.left _ c.loop-left.out.items _ c.loop-left.bytes.items _ _ (omega arith) (omega arith) seen c.loop-left.invariant.1 c.in_ok-spell_ended.ensures c.in_ok-keep_byte.ensures,
    )

pub returns : goal.returns
returns c = spell-none c.args.last_first.now c.loop-left.left c.loop-left.out.items c.loop-left.bytes.items (omega arith) c.loop-left.invariant.1
