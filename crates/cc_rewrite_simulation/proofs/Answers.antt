-- Each turn of P is answered by turns of Q, which makes all of what stands for an access when P makes the access.
use Rattle.std.proofs.Common.{◌≡◌, ◌<◌, ◌^◌, ℕ, zero, suc, pos, Bool, List, [], Some, None, refl, sym, subst}
use Rattle.cc_program.specs.declared.program.Program.{Program}
use Rattle.cc_program.specs.declared.value.Value.{Value}
use Rattle.cc_program.specs.declared.value.Value.TheVariants.{Int}
use Rattle.cc_steps.specs.CcCells.Cells.{scalar_in, with_scalar}
use Rattle.cc_steps.specs.State.{Active, State}
use Rattle.cc_steps.specs.Rows.{rows_of}
use Rattle.cc_steps.specs.Turn.{turn}
use Rattle.cc_steps.specs.Runs.{Arrivals, run, EntersAtBoundaries}
use Rattle.cc_rewrite_fields.specs.Field.{put}
use Rattle.cc_rewrite_homes.specs.Homes.{Field, Home, Packed, HoldsWord, Statics, AtHome, AreHomes}
use Rattle.cc_rewrite_homes.proofs.HomeLemmas.{packed_write}
use Rattle.cc_rewrite_residues.specs.Residues.{alone, Need, AreMet, AreOwn, SetsLocal, SetsStatic, locals_after, Residue, Inside, Puts, Agree}
use Rattle.cc_rewrite_residues.specs.Standing.{Locals, Spot, standing, Frame, Rest, running}
use Rattle.cc_rewrite_simulation.specs.Comparison.{Comparison}
use Rattle.cc_rewrite_simulation.specs.Relation.{Reads}
use Rattle.cc_rewrite_simulation.specs.RelationBack.{SharedBack, Ahead, StandsBack, LevelBack, ReadingBack, AheadBack, PairBack, StacksBack, MeetsBack, RelatedBack, MeetingBack}
use Rattle.cc_rewrite_residues.proofs.ResidueLemmas.{silent-agree, silent-turn, residue-run, agree-sym, agree-trans, agree-set}

-- turns without an arrival enter nothing
pub enters-none : (q : Program) (n : ℕ) (s : State) → EntersAtBoundaries q s (alone n)
enters-none q zero s = tt
enters-none q (suc n) s = (λ h. absurd (cc), enters-none q n (turn q s None))

module _ {Q P : Program} (c : Comparison Q P) where
  abbrev R : State → State → Type 0
  R = RelatedBack c

  abbrev Together : Active → Active → Type 0
  Together = PairBack c

  abbrev Both : State → State → Type 0
  Both = MeetsBack c

  pub paired-back : (frame : Frame) (ql pl : Locals) (sq sp : Spot) → Agree (c.base frame.func) ql pl → StandsBack c frame ql pl sq sp → Together (standing frame ql sq) (standing frame pl sp)
  paired-back frame ql pl sq sp agree stands = record { frame = frame; ql = ql; pl = pl; sq = sq; sp = sp; q_is = refl; p_is = refl; agree = agree; stands = stands }

  pub met-back : (rq rp : Rest) (flag : Bool) (qs ps : List (List Value)) (q p : Active) → SharedBack c rq rp qs ps → Together q p → Both (running rq flag qs q) (running rp flag ps p)
  met-back rq rp flag qs ps q p h top = record {
    rq = rq;
    rp = rp;
    flag = flag;
    qs = qs;
    ps = ps;
    q = q;
    p = p;
    s_is = refl;
    t_is = refl;
    shared = h;
    top = top;
  }

  related_at : (s s' t t' : State) → s ≡ s' → t ≡ t' → R s' t' → R s t
  related_at s s' t t' e f h = subst (λ (x : State). R x t) (sym e) (subst (λ (x : State). R s' x) (sym f) h)

  -- the word of a packed slot, where the slot is there
  pub word-of : (qs ps : List (List Value)) (i k : ℕ) (f : Field) (v : Value) → c.home i k ≡ Packed f → Statics c.home c.decode qs ps → scalar_in ps i k ≡ Some v → (word : ℕ) × HoldsWord qs f word
  word-of qs ps i k f v at statics there =
      let h : AtHome (Packed f) (c.decode i k) qs v = subst (λ (x : Home). AtHome x (c.decode i k) qs v) at (statics i k v there) in (h.0, h.1)

  module _ (rq rp : Rest) (flag : Bool) (qs ps : List (List Value)) (shared : SharedBack c rq rp qs ps) (frame : Frame) (ql : Locals) (sq : Spot) where
    abbrev here : State
    here = running rq flag qs (standing frame ql sq)

    abbrev there : Locals → Spot → State
    there pl sp = running rp flag ps (standing frame pl sp)

    abbrev AnsweredBack : Locals → Spot → Type 0
    AnsweredBack pl sp = (others : Arrivals) × EntersAtBoundaries Q here others × R (run Q here others) (turn P (there pl sp) None)

    -- ---- a write, in p: the silent turns are answered by none, and the write by the whole block
    module _ (n : ℕ) (q_needs : List Need) (q_met : AreMet q_needs ql) (q_own : AreOwn (c.own frame.func) q_needs) (i k : ℕ) (f : Field) (code : ℕ) (value : Value) (tq tp : Spot) (at : c.home i k ≡ Packed f) (small : code < 2 ^ f.width)
        (coded : c.decode i k code ≡ value) (puts : Puts Q frame (c.base frame.func) n q_needs sq f code tq) (joined : c.Joined frame tq tp) (old : Value) (exists : scalar_in ps i k ≡ Some old)
      where
        ahead-by : (m : ℕ) (p_needs : List Need) (pl : Locals) (sp : Spot) → Agree (c.base frame.func) ql pl → AreMet p_needs pl → (h : Residue P frame c.own (c.base frame.func) m p_needs sp (SetsStatic i k value) tp) →
            Inside P frame c.own (c.base frame.func) m p_needs sp (SetsStatic i k value) tp h → AnsweredBack pl sp
        ahead-by zero p_needs pl sp agree p_met h inside =
            let word = word-of qs ps i k f old at shared.statics exists in
            let last = puts rq flag qs ql word.0 q_met word.1 in (
              alone n,
              enters-none Q n here,
              related_at _ _ _ _ last.2 (h rp flag ps pl p_met)
                  (MeetingBack (met-back rq rp flag (with_scalar qs f.object f.position (Int (pos (put word.0 f.shift f.width code)))) (with_scalar ps i k value) _ _
                  (record {
                    inputs = shared.inputs;
                    rows = shared.rows;
                    opened = shared.opened;
                    statics = packed_write c.home c.decode c.homes qs ps i k f word.0 code value at word.1 small coded shared.statics;
                    below = shared.below;
                  })
                  (paired-back frame last.0 pl tq tp (agree-trans (c.base frame.func) last.0 ql pl last.1 agree) (LevelBack joined)))),
            )
        ahead-by (suc m) p_needs pl sp agree p_met h inside = (
          [],
          tt,
          related_at _ _ _ _ refl (silent-turn P frame (c.base frame.func) p_needs sp h.0 h.1 h.3 h.4 rp flag ps pl p_met)
              (MeetingBack (met-back rq rp flag qs ps _ _ shared
              (paired-back frame ql (locals_after h.0 pl) sq h.1
              (agree-trans (c.base frame.func) ql pl (locals_after h.0 pl) agree (agree-sym (c.base frame.func) (locals_after h.0 pl) pl (silent-agree (c.base frame.func) h.0 pl h.3)))
              (AheadBack inside.0 (record {
                n = n;
                m = m;
                q_needs = q_needs;
                p_needs = h.2;
                object = i;
                position = k;
                field = f;
                code = code;
                value = value;
                tq = tq;
                tp = tp;
                q_met = q_met;
                p_met = h.5 pl p_met;
                q_own = q_own;
                p_own = h.6;
                at = at;
                small = small;
                coded = coded;
                q_left = puts;
                p_left = h.7;
                p_inside = inside.1;
                joined = joined;
              }))))),
        )

    -- from the boundary in front of it, and from inside
    pub ahead-step : (pl : Locals) (sp : Spot) → Agree (c.base frame.func) ql pl → (h : Ahead c frame ql pl sq sp) → (old : Value) → scalar_in ps h.object h.position ≡ Some old → AnsweredBack pl sp
    ahead-step pl sp agree h old exists =
        ahead-by h.n h.q_needs h.q_met h.q_own h.object h.position h.field h.code h.value h.tq h.tp h.at h.small h.coded h.q_left h.joined old exists h.m h.p_needs pl sp agree h.p_met h.p_left h.p_inside

    -- ---- a read, in p: the last turn is answered by all that is left of the block
    module _ (n : ℕ) (q_needs : List Need) (q_met : AreMet q_needs ql) (q_own : AreOwn (c.own frame.func) q_needs) (register : ℕ) (value : Value) (own : register < c.base frame.func) (tq tp : Spot)
        (q_left : Residue Q frame c.own (c.base frame.func) n q_needs sq (SetsLocal register value) tq) (joined : c.Joined frame tq tp)
      where
        reading-back-by : (m : ℕ) (p_needs : List Need) (pl : Locals) (sp : Spot) → Agree (c.base frame.func) ql pl → AreMet p_needs pl → (h : Residue P frame c.own (c.base frame.func) m p_needs sp (SetsLocal register value) tp) →
            Inside P frame c.own (c.base frame.func) m p_needs sp (SetsLocal register value) tp h → AnsweredBack pl sp
        reading-back-by zero p_needs pl sp agree p_met h inside =
            let last = residue-run Q frame c.own (c.base frame.func) n q_needs sq (SetsLocal register value) tq q_left rq flag qs ql q_met in (
              alone (suc n),
              enters-none Q (suc n) here,
              related_at _ _ _ _ last.2 (h rp flag ps pl p_met)
                  (MeetingBack (met-back rq rp flag qs ps _ _ shared
                  (paired-back frame (with_scalar last.0 register 0 (Some value)) (with_scalar pl register 0 (Some value)) tq tp
                  (agree-set (c.base frame.func) register 0 (Some value) last.0 pl (agree-trans (c.base frame.func) last.0 ql pl last.1 agree) own) (LevelBack joined)))),
            )
        reading-back-by (suc m) p_needs pl sp agree p_met h inside = (
          [],
          tt,
          related_at _ _ _ _ refl (silent-turn P frame (c.base frame.func) p_needs sp h.0 h.1 h.3 h.4 rp flag ps pl p_met)
              (MeetingBack (met-back rq rp flag qs ps _ _ shared
              (paired-back frame ql (locals_after h.0 pl) sq h.1
              (agree-trans (c.base frame.func) ql pl (locals_after h.0 pl) agree (agree-sym (c.base frame.func) (locals_after h.0 pl) pl (silent-agree (c.base frame.func) h.0 pl h.3)))
              (ReadingBack inside.0 (record {
                n = n;
                m = m;
                q_needs = q_needs;
                p_needs = h.2;
                register = register;
                value = value;
                tq = tq;
                tp = tp;
                q_met = q_met;
                p_met = h.5 pl p_met;
                q_own = q_own;
                p_own = h.6;
                below = own;
                q_left = q_left;
                p_left = h.7;
                joined = joined;
              }) inside.1)))),
        )

    pub reading-back-step : (pl : Locals) (sp : Spot) → Agree (c.base frame.func) ql pl → (h : Reads c frame ql pl sq sp) →
        Inside P frame c.own (c.base frame.func) h.m h.p_needs sp (SetsLocal h.register h.value) h.tp h.p_left → AnsweredBack pl sp
    reading-back-step pl sp agree h inside = reading-back-by h.n h.q_needs h.q_met h.q_own h.register h.value h.below h.tq h.tp h.q_left h.joined h.m h.p_needs pl sp agree h.p_met h.p_left inside
