use Rattle.std.proofs.Common.{◌≡◌, ℕ, List, true, false, get_or, ap, sym, ◌∙◌}
use Rattle.cc_rules.specs.CcStateFacts.Facts.{levels_of}
use Rattle.cc_rules.specs.CcStateFacts.Levels.{may_enter}
use Rattle.cc_rules_asked.specs.declared.handlers.Handler.{Handler}
use Rattle.cc_rules_asked.specs.Handlers.{running_here}
use Rattle.cc_rules_asked.proofs.HandlerLemmas.{one_entered, none_entered}
use Rattle.cc_rules_asked.proofs.handlers.asked_of_handlers.Goals as goal
use Rattle.cc_rules_asked.proofs.handlers.asked_of_handlers.Goals.{then-may_enter+in_ok-put_handler, else-may_enter}

pub loop-handler-preserved : goal.loop-handler-preserved
loop-handler-preserved g c =
    let none : Handler = record { function = 0; level = 0; entry = 0; registers = 0 } in
    let level : ℕ = (get_or c.args.handlers.now c.loop-handler.handler-index none).level in
    let here : c.levels-running.result ≡ running_here c.args.here.now = c.levels-running.ensures ∙ ap (λ (sets : List ℕ). levels_of sets c.args.here.now.context.id) c.all.ensures in
    let same : may_enter (running_here c.args.here.now) level ≡ c.may_enter.result = ap (λ (n : ℕ). may_enter n level) (sym here) ∙ sym c.may_enter.ensures in
    elim c.if-may_enter.branch [
      | then-may_enter+in_ok-put_handler w ↦
          one_entered c.args.here.now c.args.handlers.now c.loop-handler.handler-index none c.loop-handler.asked.items c.if-may_enter.asked.items c.loop-handler-test.true c.loop-handler.invariant
          (same ∙ w.if-may_enter.true) (ap (λ v. v.items) w.asked-is ∙ w.in_ok-put_handler.ensures)
      | else-may_enter w ↦
          none_entered c.args.here.now c.args.handlers.now c.loop-handler.handler-index none c.loop-handler.asked.items c.if-may_enter.asked.items c.loop-handler-test.true c.loop-handler.invariant
          (same ∙ w.if-may_enter.false) (ap (λ v. v.items) w.asked-is)
    ]
