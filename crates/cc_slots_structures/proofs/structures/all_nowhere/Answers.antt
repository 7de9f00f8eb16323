use Rattle.cc_slots_structures.proofs.Nowhere.{first_nowhere, more_nowhere}
use Rattle.cc_slots_structures.proofs.structures.all_nowhere.Goals as goal

pub loop-number-init : goal.loop-number-init
loop-number-init c = first_nowhere c.new-list.result.items c.new-list.ensures.items

pub loop-number-preserved : goal.loop-number-preserved
loop-number-preserved c =
    more_nowhere c.loop-number.number c.loop-number.list.items c.push.new.self.items c.nowhere.result c.in_ok-push.ensures.items c.nowhere.ensures.copies c.nowhere.ensures.is_open c.nowhere.ensures.is_automatic c.loop-number.invariant
