-- The walk ends where its answer is known.
use Rattle.std.proofs.Common.{◌∙◌, true, false, sym}
use Rattle.cc_explicit.proofs.Walk.{walked, none_left, none_beside, less_first}
use Rattle.cc_explicit.proofs.within.are_within.Goals as goal

pub returns-in_default-right : goal.returns-in_default-right
returns-in_default-right c =
    walked false c.args.members.now c.args.others.now
    (sym (none_beside c.loop-left.left.now c.loop-left.right.now c.in-len1-up.len_at_least c.in_default-right.len_below) ∙ c.loop-left.invariant)
    c.requires.members c.requires.others

pub returns-in-Less : goal.returns-in-Less
returns-in-Less c =
    walked false c.args.members.now c.args.others.now
    (sym (less_first c.loop-left.left.now c.loop-left.right.now _ _ c.in-len1-up.len_at_least c.in-len1-up-right.len_at_least (sym c.cmp.ensures ∙ c.in-Less.is)) ∙ c.loop-left.invariant)
    c.requires.members c.requires.others

pub returns : goal.returns
returns c =
    walked true c.args.members.now c.args.others.now
    (sym (none_left c.loop-left.left.now c.loop-left.right.now c.in_default.len_below) ∙ c.loop-left.invariant)
    c.requires.members c.requires.others
