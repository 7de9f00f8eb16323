-- The turns of Q, whatever is related, by the step of two activations that stand in front of the same statements.
use Rattle.std.proofs.Common.{◌≡◌, ℕ, Bool, false, List, [], ◌∷◌, Option, Some, None, refl, sym, ◌∙◌, subst}
use Rattle.cc_program.specs.declared.func.Func.{Func}
use Rattle.cc_program.specs.declared.program.Program.{Program}
use Rattle.cc_program.specs.declared.value.Value.{Value}
use Rattle.cc_rewrite_residues.specs.Residues.{Agree}
use Rattle.cc_rewrite_residues.specs.Standing.{Frame, Locals, Spot, standing, Rest, running}
use Rattle.cc_rewrite_simulation.specs.Comparison.{Comparison}
use Rattle.cc_rewrite_simulation.specs.Relation.{Shared, Stands, Level, Reading, Writing, Trapping, Pair, Meets, Related, Meeting, Guarded, Failing, Over}
use Rattle.cc_rewrite_simulation.specs.Simulated.{IsFollowed, IsTurnFollowed}
use Rattle.cc_rewrite_simulation.proofs.Entries.{enters-in-p}
use Rattle.cc_rewrite_simulation.proofs.Follows.{reading-step, writing-step, trapping-step, guard-step, fails-step}
use Rattle.cc_steps.specs.Runs.{Arrivals, run}
use Rattle.cc_steps.specs.State.{Active, State}
use Rattle.cc_steps.specs.Turn.{turn, entering, is_going}
use Rattle.cc_steps.proofs.TurnLemmas.{turned-none}

-- once a run has ended, turns change nothing
over-entering : (p : Program) (s : State) (arrival : Option ℕ) → is_going s.end ≡ false → entering p s arrival ≡ None
over-entering p s None h = refl
over-entering p s (Some a) h = rw h refl

pub over-turn : (p : Program) (s : State) (arrival : Option ℕ) → is_going s.end ≡ false → turn p s arrival ≡ s
over-turn p s arrival h = turned-none p s arrival (sym (over-entering p s arrival h)) ∙ rw h refl

module _ {Q P : Program} (c : Comparison Q P) (KnownQ Known : State → Type 0) (law : IsFollowed c KnownQ Known) where
  abbrev May : Type 0
  May = Unit {0}

  abbrev R : State → State → Type 0
  R = Related c May

  abbrev Followed : State → State → Option ℕ → Type 0
  Followed = IsTurnFollowed c May

  steps : (rq rp : Rest) (flag : Bool) (qs ps : List (List Value)) (frame : Frame) (ql pl : Locals) (sq sp : Spot) → Shared c May frame.handler rq rp qs ps → Agree (c.base frame.func) ql pl →
      Stands c May qs frame ql pl sq sp → KnownQ (running rq flag qs (standing frame ql sq)) → Known (running rp flag ps (standing frame pl sp)) → Followed (running rq flag qs (standing frame ql sq)) (running rp flag ps (standing frame pl sp)) None
  steps rq rp flag qs ps frame ql pl sq sp shared agree (Level h) held known = law.step rq rp flag qs ps frame ql pl sq sp shared agree h held known
  steps rq rp flag qs ps frame ql pl sq sp shared agree (Reading may h) held known = reading-step c May rq rp flag qs ps frame shared pl sp may ql sq agree h
  steps rq rp flag qs ps frame ql pl sq sp shared agree (Writing may h) held known =
      writing-step c May rq rp flag qs ps frame shared pl sp may ql sq agree h (law.separate rp flag ps (standing frame pl sp) known h.field h.unguarded)
  steps rq rp flag qs ps frame ql pl sq sp shared agree (Trapping may h) held known = trapping-step c May rq rp flag qs ps frame shared pl sp may ql sq agree h

  module _ (rq rp : Rest) (flag : Bool) (qs ps : List (List Value)) (q p : Active) (shared : Shared c May p.handler rq rp qs ps) (top : Pair c May qs q p)
      (held : KnownQ (running rq flag qs q)) (known : Known (running rp flag ps p))
    where
      abbrev s : State
      s = running rq flag qs q

      abbrev t : State
      t = running rp flag ps p

      no_arrival : Followed s t None
      no_arrival =
          subst (λ (x : Active). Followed (running rq flag qs x) t None) (sym top.q_is)
          (subst (λ (x : Active). Followed (running rq flag qs (standing top.frame top.ql top.sq)) (running rp flag ps x) None) (sym top.p_is)
          (steps rq rp flag qs ps top.frame top.ql top.pl top.sq top.sp (subst (λ (x : Active). Shared c May x.handler rq rp qs ps) top.p_is shared) top.agree top.stands (subst (λ (x : Active). KnownQ (running rq flag qs x)) top.q_is held) (subst (λ (x : Active). Known (running rp flag ps x)) top.p_is known)))

      arrives : (h : ℕ) (x : Option (ℕ × Func)) → entering Q s (Some h) ≡ x → Followed s t (Some h)
      arrives h None e = subst (λ (u : State). (others : Arrivals) × R u (run P t others)) (sym (turned-none Q s (Some h) (sym e))) no_arrival
      arrives h (Some x) e = (Some h ∷ [], enters-in-p c May law.entries rq rp flag qs ps q p shared top h x e)

      pub meeting-turn : (arrival : Option ℕ) → Followed s t arrival
      meeting-turn None = no_arrival
      meeting-turn (Some h) = arrives h (entering Q s (Some h)) refl

  meets-turn : (s t : State) → Meets c May s t → KnownQ s → Known t → (arrival : Option ℕ) → Followed s t arrival
  meets-turn s t h held known arrival =
      subst (λ (x : State). Followed x t arrival) (sym h.s_is)
      (subst (λ (x : State). Followed (running h.rq h.flag h.qs h.q) x arrival) (sym h.t_is)
      (meeting-turn h.rq h.rp h.flag h.qs h.ps h.q h.p h.shared h.top (subst KnownQ h.s_is held) (subst Known h.t_is known) arrival))

  -- each turn of Q, with any arrival or none, is answered by turns of P
  pub simulates : (s t : State) → R s t → KnownQ s → Known t → (arrival : Option ℕ) → Followed s t arrival
  simulates s t (Meeting h) held known arrival = meets-turn s t h held known arrival
  simulates s t (Guarded may h) held known arrival = guard-step c May may s t h arrival
  simulates s t (Failing may h) held known arrival = fails-step c May may s t h arrival
  simulates s t (Over h) held known arrival = ([], subst (λ (x : State). R x t) (sym (over-turn Q s arrival h.over)) (Over h))
