-- By whether the expression reads the register.
use Rattle.std.proofs.Common.{sym, ◌∙◌}
use Rattle.cc_rules_tests.proofs.tested.Tested.of_members.Goals as goal

pub of_read-requires : goal.of_read-requires
of_read-requires g c = record { tested = c.requires.tested; trial = c.requires.trial; holds = c.requires.holds; members = c.requires.members }

pub returns-then-reads : goal.returns-then-reads
returns-then-reads g c = record { trial = c.of_read.ensures.trial; left = c.of_read.ensures.left; below = c.of_read.ensures.below; worked = c.of_read.ensures.worked }

pub of_unread-requires : goal.of_unread-requires
of_unread-requires g c = record { tested = c.requires.tested; trial = c.requires.trial; holds = c.requires.holds; members = c.requires.members; unread = sym c.reads.ensures ∙ c.if-reads.false }

pub returns-else-reads : goal.returns-else-reads
returns-else-reads g c = record { trial = c.requires.trial; left = c.of_unread.ensures.left; below = c.of_unread.ensures.below; worked = c.of_unread.ensures.worked }
