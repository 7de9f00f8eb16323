-- The next ones, where a result is not written yet.
use Rattle.std.proofs.Common.{ℕ, Option, ap, sym, subst}
use Rattle.std.specs.Option.{option_copied}
use Rattle.std.specs.List.{Contains}
use Rattle.std.specs.Prelude.{◌↔◌}
use Rattle.std.proofs.lemmas.Result.{IfOk-weaker}
use Rattle.cc_program.specs.declared.value.Value.{Value}
use Rattle.cc_proof_covers.specs.Covers.{StandsAtPoint}
use Rattle.cc_state_holds.proofs.Counted.{AreNextOf, counted_next}
use Rattle.cc_state_holds.proofs.points.counted_points.Goals as goal
use Rattle.cc_steps.specs.View.{active_of}

pub returns-in-None : goal.returns-in-None
returns-in-None g c = λ n.
    subst (λ (o : Option (ℕ × Value)). Contains c.in_ok-points.points.items n ↔ StandsAtPoint c.args.b.now.program.now (active_of c.args.a.now) o n) (sym (ap option_copied c.in-None.is)) (c.in_ok-points.ensures n)

pub returns-in-Some : goal.returns-in-Some
returns-in-Some g c =
    IfOk-weaker c.next_points.result _ _
    (λ all k n.
    subst (λ (o : Option (ℕ × Value)). Contains all.items n ↔ StandsAtPoint c.args.b.now.program.now (active_of c.args.a.now) o n) (sym (ap option_copied c.in-Some.is))
    (counted_next c.args.b.now.program.now c.args.b.now.flow.now (active_of c.args.a.now) c.in-Some.field-0.now c.in_ok-points.points.items all.items c.requires c.in_ok-points.ensures (subst (AreNextOf c.args.b.now.flow.now all.items) c.deref.ensures.value k) n))
    c.next_points.ensures
