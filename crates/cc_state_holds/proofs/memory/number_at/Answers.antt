-- By the number at the position.
use Rattle.std.proofs.Common.{refl, true≢false, sym}
use Rattle.cc_state_holds.proofs.Pairs.{numbered_none, numbered_first, numbered_later}
use Rattle.cc_state_holds.proofs.memory.number_at.Goals as goal

pub returns-in-None : goal.returns-in-None
returns-in-None c = λ r. numbered_none c.args.numbers.now c.args.n c.in-None.ensures r

pub returns-then-has_position : goal.returns-then-has_position
returns-then-has_position c = λ r. numbered_first c.args.numbers.now c.args.n c.in-Some.number.now c.in-Some.ensures (c.if-has_position.ensures.0 refl) r

pub returns-else-has_position : goal.returns-else-has_position
returns-else-has_position c = λ r. numbered_later c.args.numbers.now c.args.n c.in-Some.number.now c.in-Some.ensures (λ h. true≢false (sym (c.if-has_position.ensures.1 h))) r
