-- A place that is no register leads to none, as an end of its simulation.
use Rattle.std.proofs.Common.{ℕ, length, Option}
use Rattle.cc_program.specs.declared.expr.Place.{Place}
use Rattle.cc_states.specs.CcSyntax.Effects.{Registers}
use Rattle.cc_states.specs.CcEval.declared.spots.Spot.{Spot}
use Rattle.cc_states.specs.CcEval.Eval.{Designation}
use Rattle.cc_lower_expressions.specs.Expressions.{Piece}
use Rattle.cc_lower_expressions_follows.specs.Trees.{Regs, Setting, Sim}
use Rattle.cc_lower_expressions_follows.specs.Relation.{code_tree, Agree, Leads}
use Rattle.cc_lower_expressions_follows.specs.Claims.{After, IsPlace, IsApart}
use Rattle.cc_lower_expressions_follows.proofs.Answered.{AllAnswers, And, sim_with}
use Rattle.cc_lower_expressions_follows.proofs.TreeLaws.{sim_weaker}

module _ (w : Setting) (d : Designation) where
  abbrev pub Led-apart : Place → Option Spot → Regs → Type 0
  Led-apart a o t = Leads w a o t × IsApart w d o

  pub led_apart : (later : Registers) (k : ℕ) (x : Piece Place) → AllAnswers w.p w.openings (IsApart w d) (d.leads later) → IsPlace w d later k x → (r s : Regs) → Agree w r s →
      Sim w (After w d.effects.assigned later k (length x.temps) (Led-apart x.value) s) (d.leads later) r (code_tree w x.stmts) s
  led_apart later k x shared place r s a =
      sim_weaker w (And w (After w d.effects.assigned later k (length x.temps) (Leads w x.value) s) (IsApart w d)) (After w d.effects.assigned later k (length x.temps) (Led-apart x.value) s)
      (λ o u r1 s1 q. record { agree = q.0.agree; kept = q.0.kept; value = λ t h. (q.0.value t h, q.1) })
      (sim_with w (After w d.effects.assigned later k (length x.temps) (Leads w x.value) s) (IsApart w d) (place.sim r s a) shared)
