use Rattle.std.proofs.Common.{refl}
use Rattle.cc_fix.proofs.Steps.{first_pushed, later_pushed}
use Rattle.cc_fix.proofs.work.push.Goals as goal

pub returns-in_ok-push : goal.returns-in_ok-push
returns-in_ok-push c = later_pushed c.args.index c.args.work.now _ refl refl c.in_ok-push.ensures.items

pub returns-in_ok-push-2 : goal.returns-in_ok-push-2
returns-in_ok-push-2 c = first_pushed c.args.index c.args.work.now _ refl c.in_ok-push-2.ensures.items refl
