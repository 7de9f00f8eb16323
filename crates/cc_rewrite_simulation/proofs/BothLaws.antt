-- Where Q may stand inside nothing that stands for an access, the relation that turns of Q keep gives the one that turns of P keep, and the other
-- way round. So what is shown of statements that are not coded, of calls, returns and entries, serves both.
use Rattle.std.proofs.Common.{ℕ, Bool, true, false, not, List, [], ◌∷◌, None}
use Rattle.cc_program.specs.declared.program.Program.{Program}
use Rattle.cc_program.specs.declared.value.Value.{Value}
use Rattle.cc_steps.specs.State.{Active, State}
use Rattle.cc_steps.specs.Turn.{turn}
use Rattle.cc_steps.specs.Runs.{Arrivals, run, EntersAtBoundaries}
use Rattle.cc_rewrite_residues.specs.Residues.{alone}
use Rattle.cc_rewrite_residues.specs.Standing.{Locals, Spot, Frame, Rest}
use Rattle.cc_rewrite_simulation.specs.Comparison.{Comparison}
use Rattle.cc_rewrite_simulation.specs.Relation.{Shared, Stands, Level, Reading, Writing, Trapping, MayWait, Pair, Stacks, Related, Meeting, Guarded, Failing, Over}
use Rattle.cc_rewrite_simulation.specs.RelationBack.{SharedBack, LevelBack, PairBack, PairLevel, StacksBack, RelatedBack, MeetingBack, OverBack}
use Rattle.cc_rewrite_simulation.specs.Simulated.{IsTurnAnswered}
use Rattle.cc_rewrite_simulation.proofs.Answers.{enters-none}

module _ {Q P : Program} (c : Comparison Q P) where
  abbrev Plain : State → State → Type 0
  Plain = Related c ⊥

  abbrev Back : State → State → Type 0
  Back = RelatedBack c

  abbrev Together : List (List Value) → Active → Active → Type 0
  Together = Pair c ⊥

  level-of : (qs : List (List Value)) (frame : Frame) (ql pl : Locals) (sq sp : Spot) → Stands c ⊥ qs frame ql pl sq sp → c.Joined frame sq sp
  level-of qs frame ql pl sq sp (Level h) = h
  level-of qs frame ql pl sq sp (Reading may h) = absurd may
  level-of qs frame ql pl sq sp (Writing may h) = absurd may
  level-of qs frame ql pl sq sp (Trapping may h) = absurd may

  pair-level : (qs : List (List Value)) (q p : Active) → Together qs q p → PairLevel c q p
  pair-level qs q p h = record { frame = h.frame; ql = h.ql; pl = h.pl; sq = h.sq; sp = h.sp; q_is = h.q_is; p_is = h.p_is; agree = h.agree; joined = level-of qs h.frame h.ql h.pl h.sq h.sp h.stands }

  pair-back : (qs : List (List Value)) (q p : Active) → Together qs q p → PairBack c q p
  pair-back qs q p h = record { frame = h.frame; ql = h.ql; pl = h.pl; sq = h.sq; sp = h.sp; q_is = h.q_is; p_is = h.p_is; agree = h.agree; stands = LevelBack (level-of qs h.frame h.ql h.pl h.sq h.sp h.stands) }

  stacks-back : (qs : List (List Value)) (waits : Bool) (below others : List Active) → Stacks c ⊥ qs waits below others → StacksBack c below others
  stacks-back qs waits [] [] h = tt
  stacks-back qs waits (q ∷ below) (p ∷ others) h = (pair-level qs q p h.0, stacks-back qs (not p.handler) below others h.2)
  stacks-back qs waits [] (p ∷ others) h = absurd h
  stacks-back qs waits (q ∷ below) [] h = absurd h

  -- to the relation of turns of P
  pub to-back : (s t : State) → Plain s t → Back s t
  to-back s t (Meeting h) = MeetingBack (record {
    rq = h.rq;
    rp = h.rp;
    flag = h.flag;
    qs = h.qs;
    ps = h.ps;
    q = h.q;
    p = h.p;
    s_is = h.s_is;
    t_is = h.t_is;
    shared = record { inputs = h.shared.inputs; rows = h.shared.rows; opened = h.shared.opened; statics = h.shared.statics; below = stacks-back h.qs (not h.p.handler) h.rq.below h.rp.below h.shared.below };
    top = pair-back h.qs h.q h.p h.top;
  })
  to-back s t (Guarded may h) = absurd may
  to-back s t (Failing may h) = absurd may
  to-back s t (Over h) = OverBack h

  -- and from it
  from-level : (qs : List (List Value)) (q p : Active) → PairLevel c q p → Together qs q p
  from-level qs q p h = record { frame = h.frame; ql = h.ql; pl = h.pl; sq = h.sq; sp = h.sp; q_is = h.q_is; p_is = h.p_is; agree = h.agree; stands = Level h.joined }

  waits-level : (qs : List (List Value)) (waits : Bool) (q p : Active) (h : PairLevel c q p) → MayWait c ⊥ waits qs q p (from-level qs q p h)
  unfolding from-level
  waits-level qs true q p h = tt
  waits-level qs false q p h = tt

  stacks-from : (qs : List (List Value)) (waits : Bool) (below others : List Active) → StacksBack c below others → Stacks c ⊥ qs waits below others
  stacks-from qs waits [] [] h = tt
  stacks-from qs waits (q ∷ below) (p ∷ others) h = (from-level qs q p h.0, waits-level qs waits q p h.0, stacks-from qs (not p.handler) below others h.1)
  stacks-from qs waits [] (p ∷ others) h = absurd h
  stacks-from qs waits (q ∷ below) [] h = absurd h

  pub shared-plain : (handler : Bool) (rq rp : Rest) (qs ps : List (List Value)) → SharedBack c rq rp qs ps → Shared c ⊥ handler rq rp qs ps
  shared-plain handler rq rp qs ps h = record { inputs = h.inputs; rows = h.rows; opened = h.opened; statics = h.statics; below = stacks-from qs (not handler) rq.below rp.below h.below }

  -- a step that both make
  pub answers-plain : (s t : State) → Plain (turn Q s None) (run P t (None ∷ [])) → IsTurnAnswered c s t None
  answers-plain s t h = (alone 1, enters-none Q 1 s, to-back (turn Q s None) (turn P t None) h)
