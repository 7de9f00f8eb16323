-- What a turn of Q, or one of P, leads to, where both stand in front of the same statements again, or inside what they share.
use Rattle.std.proofs.Common.{◌≡◌, ℕ, Bool, List, None, refl, sym, ◌∙◌, subst}
use Rattle.cc_program.specs.declared.program.Program.{Program}
use Rattle.cc_program.specs.declared.value.Value.{Value}
use Rattle.cc_rewrite_residues.specs.Residues.{Agree, alone}
use Rattle.cc_rewrite_residues.specs.Standing.{Frame, Locals, Spot, standing, Rest, running}
use Rattle.cc_rewrite_simulation.specs.Comparison.{Comparison}
use Rattle.cc_rewrite_simulation.specs.Relation.{Shared, Stands, Related, Meeting, Over}
use Rattle.cc_rewrite_simulation.specs.RelationBack.{SharedBack, StandsBack, RelatedBack, MeetingBack, OverBack}
use Rattle.cc_rewrite_simulation.specs.Simulated.{IsTurnFollowed, IsTurnAnswered}
use Rattle.cc_rewrite_simulation.proofs.Answers.{enters-none, met-back, paired-back}
use Rattle.cc_rewrite_simulation.proofs.Follows.{met, paired}
use Rattle.cc_steps.specs.Rows.{rows_of}
use Rattle.cc_steps.specs.Runs.{run}
use Rattle.cc_steps.specs.State.{State}
use Rattle.cc_steps.specs.Step.{stopped}
use Rattle.cc_steps.specs.Turn.{turn}
use Rattle.cc_steps.specs.declared.event.End.TheVariants.{Trap}

module _ {Q P : Program} (c : Comparison Q P) where
  abbrev May : Type 0
  May = Unit {0}

  related-at : (s s' t t' : State) → s ≡ s' → t ≡ t' → Related c May s' t' → Related c May s t
  related-at s s' t t' e k h = subst (λ (x : State). Related c May x t) (sym e) (subst (λ (x : State). Related c May s' x) (sym k) h)

  related-back-at : (s s' t t' : State) → s ≡ s' → t ≡ t' → RelatedBack c s' t' → RelatedBack c s t
  related-back-at s s' t t' e k h = subst (λ (x : State). RelatedBack c x t) (sym e) (subst (λ (x : State). RelatedBack c s' x) (sym k) h)

  pub follows-meeting : (s t : State) (n : ℕ) (rq rp : Rest) (flag : Bool) (qs ps : List (List Value)) (frame : Frame) (ql pl : Locals) (sq sp : Spot) → turn Q s None ≡ running rq flag qs (standing frame ql sq) →
      run P t (alone n) ≡ running rp flag ps (standing frame pl sp) → Shared c May frame.handler rq rp qs ps → Agree (c.base frame.func) ql pl → Stands c May qs frame ql pl sq sp → IsTurnFollowed c May s t None
  follows-meeting s t n rq rp flag qs ps frame ql pl sq sp e k shared agree stands =
      (alone n, related-at _ _ _ _ e k (Meeting (met c May rq rp flag qs ps _ _ shared (paired c May qs frame ql pl sq sp agree stands))))

  pub answers-meeting : (s t : State) (n : ℕ) (rq rp : Rest) (flag : Bool) (qs ps : List (List Value)) (frame : Frame) (ql pl : Locals) (sq sp : Spot) → run Q s (alone n) ≡ running rq flag qs (standing frame ql sq) →
      turn P t None ≡ running rp flag ps (standing frame pl sp) → SharedBack c rq rp qs ps → Agree (c.base frame.func) ql pl → StandsBack c frame ql pl sq sp → IsTurnAnswered c s t None
  answers-meeting s t n rq rp flag qs ps frame ql pl sq sp e k shared agree stands =
      (alone n, enters-none Q n s, related-back-at _ _ _ _ e k (MeetingBack (met-back c rq rp flag qs ps _ _ shared (paired-back c frame ql pl sq sp agree stands))))

  -- both trap
  pub follows-trap : (s t s' t' : State) (n : ℕ) → rows_of Q s'.memory.trace ≡ rows_of P t'.memory.trace → turn Q s None ≡ stopped s' Trap → run P t (alone n) ≡ stopped t' Trap → IsTurnFollowed c May s t None
  follows-trap s t s' t' n rows e k = (alone n, related-at _ _ _ _ e k (Over (record { rows = rows; end = refl; over = refl })))

  pub answers-trap : (s t s' t' : State) (n : ℕ) → rows_of Q s'.memory.trace ≡ rows_of P t'.memory.trace → run Q s (alone n) ≡ stopped s' Trap → turn P t None ≡ stopped t' Trap → IsTurnAnswered c s t None
  answers-trap s t s' t' n rows e k = (alone n, enters-none Q n s, related-back-at _ _ _ _ e k (OverBack (record { rows = rows; end = refl; over = refl })))
