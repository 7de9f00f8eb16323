use Rattle.std.proofs.Common.{◌∙◌, sym}
use Rattle.cc_plan_choice.specs.Fates.{wants_from}
use Rattle.cc_plan_choice.proofs.Wanted.{next_fits}
use Rattle.cc_plan_choice.proofs.lists.wants.Goals as goal

pub want_of-requires : goal.want_of-requires
want_of-requires c =
    next_fits c.args.taken.now c.loop-left.number c.loop-left.left.now _ c.in-len1-up.len_at_least (sym c.is_wanted.ensures ∙ c.if-is_wanted.true)
    c.loop-left.wanted.items (wants_from c.args.taken.now 0 c.args.slots.now) c.loop-left.invariant.wanted c.requires.bits
