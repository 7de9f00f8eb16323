use Rattle.std.proofs.Common.{◌≡◌, ◌+◌, ◌++◌, length}
use Rattle.cc_plan_table.specs.Table.{rows_text, slot_rows}
use Rattle.cc_plan_table.proofs.rows.put_slots.Given as goal

abbrev pub invariant-loop-left : goal.invariant-loop-left
invariant-loop-left l = record {
  number : l.number + length l.left ≡ length l.slots;
  rows : l.text.items ++ rows_text (slot_rows l.p l.words l.plan l.number l.left) ≡ l.fn.text.items ++ rows_text (slot_rows l.p l.words l.plan 0 l.slots);
}

abbrev pub decreases-loop-left : goal.decreases-loop-left
decreases-loop-left l = length l.left
