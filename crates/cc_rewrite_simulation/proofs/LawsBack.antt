-- The turns of P, whatever is related, an entry at a boundary among them, by the step of two activations that stand in front of the same
-- statements.
use Rattle.std.proofs.Common.{◌≡◌, ℕ, Bool, true, false, ◌&&◌, List, [], ◌∷◌, Option, Some, None, refl, ap, sym, ◌∙◌, subst}
use Rattle.std.specs.Prelude.{is_some}
use Rattle.cc_program.specs.declared.func.Func.{Func}
use Rattle.cc_program.specs.declared.program.Program.{Program}
use Rattle.cc_program.specs.declared.value.Value.{Value}
use Rattle.cc_rewrite_residues.specs.Residues.{Agree, alone}
use Rattle.cc_rewrite_residues.specs.Standing.{Frame, Locals, Spot, standing, Rest, running}
use Rattle.cc_rewrite_simulation.specs.Comparison.{Comparison}
use Rattle.cc_rewrite_simulation.specs.Relation.{Level}
use Rattle.cc_rewrite_simulation.specs.RelationBack.{SharedBack, StandsBack, LevelBack, ReadingBack, AheadBack, PairBack, RelatedBack, MeetingBack, FailsBack, FailingBack, OverBack}
use Rattle.cc_rewrite_simulation.specs.Simulated.{IsAnswered, IsTurnAnswered}
use Rattle.cc_rewrite_simulation.proofs.Answers.{ahead-step, reading-back-step, enters-none}
use Rattle.cc_rewrite_simulation.proofs.BothLaws.{shared-plain, to-back}
use Rattle.cc_rewrite_simulation.proofs.Entries.{enters-in-q}
use Rattle.cc_rewrite_simulation.proofs.Follows.{paired}
use Rattle.cc_rewrite_simulation.proofs.Laws.{over-turn}
use Rattle.cc_steps.specs.Runs.{run, EntersAtBoundaries, IsBoundary, is_empty, begins}
use Rattle.cc_steps.specs.State.{Active, State}
use Rattle.cc_steps.specs.Turn.{turn, entering, enters, is_going}
use Rattle.cc_steps.proofs.TurnLemmas.{turned-none}

false_true : {A : Type 0} (b c : Bool) → b ≡ false → ((b && c) && true) ≡ true → A
false_true b c e h = absurd (cc)

true_of : (b : Bool) → (b && true) ≡ true → b ≡ true
true_of true h = refl
true_of false h = absurd (cc)

module _ {Q P : Program} (c : Comparison Q P) (KnownQ Known : State → Type 0) (law : IsAnswered c KnownQ Known) where
  module _ (rq rp : Rest) (flag : Bool) (qs ps : List (List Value)) (frame : Frame) (ql pl : Locals) (sq sp : Spot) (shared : SharedBack c rq rp qs ps) (agree : Agree (c.base frame.func) ql pl) (held : KnownQ (running rq flag qs (standing frame ql sq))) (known : Known (running rp flag ps (standing frame pl sp))) where
    abbrev s : State
    s = running rq flag qs (standing frame ql sq)

    abbrev t : State
    t = running rp flag ps (standing frame pl sp)

    -- a step
    no_arrival : StandsBack c frame ql pl sq sp → IsTurnAnswered c s t None
    no_arrival (LevelBack h) = law.step rq rp flag qs ps frame ql pl sq sp shared agree h held known
    no_arrival (ReadingBack e h inside) = reading-back-step c rq rp flag qs ps shared frame ql sq pl sp agree h inside
    no_arrival (AheadBack e h) =
        let there = law.slots rp flag ps (standing frame pl sp) known h.object h.position h.field h.at in
        ahead-step c rq rp flag qs ps shared frame ql sq pl sp agree h there.0 there.1

    -- an entry
    enters-back : c.Joined frame sq sp → (h : ℕ) (e : ℕ × Func) → entering P t (Some h) ≡ Some e → IsBoundary t → IsTurnAnswered c s t (Some h)
    enters-back joined h e i at = (
      Some h ∷ [],
      (λ _. ap (λ (b : Bool). b && true) (law.boundary frame sq sp joined (true_of _ at)), tt),
      to-back c (turn Q s (Some h)) (turn P t (Some h))
          (enters-in-q c ⊥ law.entries rq rp flag qs ps (standing frame ql sq) (standing frame pl sp) (shared-plain c frame.handler rq rp qs ps shared) (paired c ⊥ qs frame ql pl sq sp agree (Level joined)) h e i),
    )

    arrives : (h : ℕ) (x : Option (ℕ × Func)) → entering P t (Some h) ≡ x → (is_some x ≡ true → IsBoundary t) → StandsBack c frame ql pl sq sp → IsTurnAnswered c s t (Some h)
    arrives h None e at stands = subst (λ (u : State). (others : List (Option ℕ)) × EntersAtBoundaries Q s others × RelatedBack c (run Q s others) u) (sym (turned-none P t (Some h) (sym e))) (no_arrival stands)
    arrives h (Some x) e at (LevelBack joined) = enters-back joined h x e (at refl)
    arrives h (Some x) e at (ReadingBack none reads inside) = false_true (is_empty sp.marks) (begins sp.control.0.rest sp.control.0.phase) none (at refl)
    arrives h (Some x) e at (AheadBack none ahead) = false_true (is_empty sp.marks) (begins sp.control.0.rest sp.control.0.phase) none (at refl)

    pub meeting-turn : (arrival : Option ℕ) → (enters P t arrival ≡ true → IsBoundary t) → StandsBack c frame ql pl sq sp → IsTurnAnswered c s t arrival
    meeting-turn None at stands = no_arrival stands
    meeting-turn (Some h) at stands = arrives h (entering P t (Some h)) refl at stands

  by-active : (rq rp : Rest) (flag : Bool) (qs ps : List (List Value)) (q p : Active) → SharedBack c rq rp qs ps → PairBack c q p → KnownQ (running rq flag qs q) → Known (running rp flag ps p) → (arrival : Option ℕ) →
      (enters P (running rp flag ps p) arrival ≡ true → IsBoundary (running rp flag ps p)) → IsTurnAnswered c (running rq flag qs q) (running rp flag ps p) arrival
  by-active rq rp flag qs ps q p shared top held known arrival at =
      subst (λ (x : Active). IsTurnAnswered c (running rq flag qs x) (running rp flag ps p) arrival) (sym top.q_is)
      (subst (λ (x : Active). Known (running rp flag ps x) → (enters P (running rp flag ps x) arrival ≡ true → IsBoundary (running rp flag ps x)) → IsTurnAnswered c (running rq flag qs (standing top.frame top.ql top.sq)) (running rp flag ps x) arrival) (sym top.p_is)
      (λ k at. meeting-turn rq rp flag qs ps top.frame top.ql top.pl top.sq top.sp shared top.agree (subst (λ (x : Active). KnownQ (running rq flag qs x)) top.q_is held) k arrival at top.stands) known at)

  no_entry : (s t : State) → FailsBack c s t → (arrival : Option ℕ) → (enters P t arrival ≡ true → IsBoundary t) → turn P t arrival ≡ turn P t None
  no_entry s t h None at = refl
  no_entry s t h (Some a) at = by (entering P t (Some a)) refl at
    where
      by : (x : Option (ℕ × Func)) → entering P t (Some a) ≡ x → (is_some x ≡ true → IsBoundary t) → turn P t (Some a) ≡ turn P t None
      by None e at = turned-none P t (Some a) (sym e)
      by (Some x) e at = absurd (h.inside (at refl))

  -- each turn of P that makes no entry, or makes one at a boundary, is answered by turns of Q that enter at boundaries alone
  pub simulates-back : (s t : State) → RelatedBack c s t → KnownQ s → Known t → (arrival : Option ℕ) → (enters P t arrival ≡ true → IsBoundary t) → IsTurnAnswered c s t arrival
  simulates-back s t (MeetingBack h) held known arrival at =
      subst (λ (x : State). IsTurnAnswered c x t arrival) (sym h.s_is)
      (subst (λ (x : State). Known x → (enters P x arrival ≡ true → IsBoundary x) → IsTurnAnswered c (running h.rq h.flag h.qs h.q) x arrival) (sym h.t_is)
      (λ k at. by-active h.rq h.rp h.flag h.qs h.ps h.q h.p h.shared h.top (subst KnownQ h.s_is held) k arrival at) known at)
  simulates-back s t (FailingBack h) held known arrival at = (
    alone h.n,
    enters-none Q h.n s,
    subst (λ (x : State). RelatedBack c x (turn P t arrival)) (sym h.leads) (subst (λ (x : State). RelatedBack c h.last x) (sym (no_entry s t h arrival at ∙ h.source)) (OverBack h.ended)),
  )
  simulates-back s t (OverBack h) held known arrival at =
      ([], tt, subst (λ (x : State). RelatedBack c s x) (sym (over-turn P t arrival (ap is_going (sym h.end) ∙ h.over))) (OverBack h))
