-- What can be seen of related states is the same.
use Rattle.std.proofs.Common.{ℕ, ap, sym, ◌∙◌}
use Rattle.cc_program.specs.declared.program.Program.{Program}
use Rattle.cc_steps.specs.Rows.{rows_of}
use Rattle.cc_steps.specs.State.{State}
use Rattle.cc_steps.specs.Runs.{Same}
use Rattle.cc_rewrite_simulation.specs.Comparison.{Comparison}
use Rattle.cc_rewrite_simulation.specs.Relation.{Related, Meeting, Guarded, Failing, Over, Meets}
use Rattle.cc_rewrite_simulation.specs.RelationBack.{RelatedBack, MeetingBack, FailingBack, OverBack}

module _ {Q P : Program} (c : Comparison Q P) (May : Type 0) where
  meets-same : (s t : State) → Meets c May s t → Same Q P s t
  meets-same s t h = record {
    trace = ap (λ (x : State). rows_of Q x.memory.trace) h.s_is ∙ h.shared.rows ∙ sym (ap (λ (x : State). rows_of P x.memory.trace) h.t_is);
    end = ap (λ (x : State). x.end) h.s_is ∙ sym (ap (λ (x : State). x.end) h.t_is);
  }

  pub same : (s t : State) → Related c May s t → Same Q P s t
  same s t (Meeting h) = meets-same s t h
  same s t (Guarded may h) = record {
    trace = ap (rows_of Q) h.leads.1 ∙ (meets-same h.last h.source_last h.meets).trace ∙ sym (ap (rows_of P) h.quiet);
    end = h.leads.0 ∙ sym h.goes;
  }
  same s t (Failing may h) = record { trace = ap (rows_of Q) h.leads.1 ∙ h.ended.rows ∙ sym (ap (rows_of P) h.quiet); end = h.leads.0 ∙ sym h.goes }
  same s t (Over h) = record { trace = h.rows; end = h.end }

module _ {Q P : Program} (c : Comparison Q P) where
  pub same-back : (s t : State) → RelatedBack c s t → Same Q P s t
  same-back s t (MeetingBack h) = record {
    trace = ap (λ (x : State). rows_of Q x.memory.trace) h.s_is ∙ h.shared.rows ∙ sym (ap (λ (x : State). rows_of P x.memory.trace) h.t_is);
    end = ap (λ (x : State). x.end) h.s_is ∙ sym (ap (λ (x : State). x.end) h.t_is);
  }
  same-back s t (FailingBack h) = record { trace = h.rows; end = h.going_q ∙ sym h.going_p }
  same-back s t (OverBack h) = record { trace = h.rows; end = h.end }
