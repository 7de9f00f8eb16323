-- By the test.
use Rattle.std.proofs.Common.{refl, sym, true≢false}
use Rattle.cc_flow_sound.specs.Moves.{IsAt, standing}
use Rattle.cc_state_holds.proofs.Counted.{added_none, added_one}
use Rattle.cc_state_holds.proofs.points.with_own.Goals as goal
use Rattle.cc_steps.specs.View.{active_of}

pub returns-then-not-is_at : goal.returns-then-not-is_at
returns-then-not-is_at g c = added_none (IsAt c.args.b.now.program.now (standing (active_of c.args.a.now))) c.args.points.items c.args.n (λ h. true≢false (sym (c.if-not-is_at.ensures.1 h)))

pub returns : goal.returns
returns g c = added_one (IsAt c.args.b.now.program.now (standing (active_of c.args.a.now))) c.args.points.items c.push.new.self.items c.args.n (c.if-not-is_at.ensures.0 refl) c.in_ok-push.ensures.items
