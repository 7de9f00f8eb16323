-- Each turn of Q is answered by turns of P: inside what stands for accesses of words.
use Rattle.std.proofs.Common.{◌≡◌, ◌<◌, ◌^◌, ℕ, zero, suc, pos, Bool, true, false, not, List, [], ◌∷◌, Option, Some, None, refl, sym, ◌∙◌, subst}
use Rattle.cc_program.specs.declared.program.Program.{Program}
use Rattle.cc_program.specs.declared.value.Value.{Value}
use Rattle.cc_program.specs.declared.value.Value.TheVariants.{Int}
use Rattle.cc_steps.specs.CcCells.Cells.{with_scalar}
use Rattle.cc_steps.specs.State.{Active, State}
use Rattle.cc_steps.specs.declared.event.End.TheVariants.{Going}
use Rattle.cc_steps.specs.Rows.{rows_of}
use Rattle.cc_steps.specs.Turn.{turn}
use Rattle.cc_steps.specs.Runs.{Arrivals, run}
use Rattle.cc_rewrite_fields.specs.Field.{put}
use Rattle.cc_rewrite_homes.specs.Homes.{Field, Home, Packed, HoldsWord, Statics, AreHomes}
use Rattle.cc_rewrite_homes.proofs.ScalarLemmas.{written_elsewhere}
use Rattle.cc_rewrite_homes.proofs.HomeLemmas.{packed_write}
use Rattle.cc_rewrite_residues.specs.Residues.{alone, Need, AreMet, AreOwn, SetsLocal, SetsStatic, locals_after, Residue, Doomed, Leads, Guards, Agree}
use Rattle.cc_rewrite_residues.specs.Standing.{Locals, Spot, standing, Frame, Rest, running}
use Rattle.cc_rewrite_simulation.specs.Comparison.{Comparison}
use Rattle.cc_rewrite_simulation.specs.Relation.{AreApart, Shared, Reads, Writes, Dooms, Stands, Level, Reading, Writing, Trapping, IsLevel, MayWait, Pair, Stacks, Meets, InGuard, FailsInGuard, Ended, Related, Meeting, Guarded, Failing, Over}
use Rattle.cc_rewrite_residues.proofs.ResidueLemmas.{silent-agree, silent-turn, residue-run, doomed-run, agree-sym, agree-trans, agree-set}

module _ {Q P : Program} (c : Comparison Q P) (May : Type 0) where
  abbrev R : State → State → Type 0
  R = Related c May

  abbrev Together : List (List Value) → Active → Active → Type 0
  Together = Pair c May

  abbrev Below : List (List Value) → Bool → List Active → List Active → Type 0
  Below = Stacks c May

  abbrev Both : State → State → Type 0
  Both = Meets c May

  abbrev StandsIn : List (List Value) → Frame → Locals → Locals → Spot → Spot → Type 0
  StandsIn = Stands c May

  pub paired : (qs : List (List Value)) (frame : Frame) (ql pl : Locals) (sq sp : Spot) → Agree (c.base frame.func) ql pl → StandsIn qs frame ql pl sq sp → Together qs (standing frame ql sq) (standing frame pl sp)
  paired qs frame ql pl sq sp agree stands = record { frame = frame; ql = ql; pl = pl; sq = sq; sp = sp; q_is = refl; p_is = refl; agree = agree; stands = stands }

  pub met : (rq rp : Rest) (flag : Bool) (qs ps : List (List Value)) (q p : Active) → Shared c May p.handler rq rp qs ps → Together qs q p → Both (running rq flag qs q) (running rp flag ps p)
  met rq rp flag qs ps q p h top = record {
    rq = rq;
    rp = rp;
    flag = flag;
    qs = qs;
    ps = ps;
    q = q;
    p = p;
    s_is = refl;
    t_is = refl;
    shared = h;
    top = top;
  }

  related_at : (s s' t t' : State) → s ≡ s' → t ≡ t' → R s' t' → R s t
  related_at s s' t t' e f h = subst (λ (x : State). R x t) (sym e) (subst (λ (x : State). R s' x) (sym f) h)

  -- ---- a word is written: other activations stand as before

  abbrev ApartFrom : Field → Active → Type 0
  ApartFrom f p = (g : Field) → c.Unguarded p g → f.object ≡ g.object → f.position ≡ g.position → ⊥

  stands-kept : (qs : List (List Value)) (f : Field) (x : Value) (frame : Frame) (ql pl : Locals) (sq sp : Spot) → ApartFrom f (standing frame pl sp) → StandsIn qs frame ql pl sq sp →
      StandsIn (with_scalar qs f.object f.position x) frame ql pl sq sp
  stands-kept qs f x frame ql pl sq sp apart (Level h) = Level h
  stands-kept qs f x frame ql pl sq sp apart (Reading may h) = Reading may h
  stands-kept qs f x frame ql pl sq sp apart (Writing may h) = Writing may (record {
    n = h.n;
    m = h.m;
    q_needs = h.q_needs;
    p_needs = h.p_needs;
    object = h.object;
    position = h.position;
    field = h.field;
    word = h.word;
    code = h.code;
    value = h.value;
    tq = h.tq;
    tp = h.tp;
    q_met = h.q_met;
    p_met = h.p_met;
    q_own = h.q_own;
    p_own = h.p_own;
    at = h.at;
    holds = record { there = written_elsewhere qs f.object f.position x h.field.object h.field.position (apart h.field h.unguarded) ∙ h.holds.there; small = h.holds.small };
    small = h.small;
    coded = h.coded;
    q_left = h.q_left;
    p_left = h.p_left;
    joined = h.joined;
    unguarded = h.unguarded;
  })
  stands-kept qs f x frame ql pl sq sp apart (Trapping may h) = Trapping may h

  pair-kept : (qs : List (List Value)) (f : Field) (x : Value) (q p : Active) → ApartFrom f p → Together qs q p → Together (with_scalar qs f.object f.position x) q p
  pair-kept qs f x q p apart h = record {
    frame = h.frame;
    ql = h.ql;
    pl = h.pl;
    sq = h.sq;
    sp = h.sp;
    q_is = h.q_is;
    p_is = h.p_is;
    agree = h.agree;
    stands = stands-kept qs f x h.frame h.ql h.pl h.sq h.sp (subst (λ (a : Active). ApartFrom f a) h.p_is apart) h.stands;
  }

  level-by : (qs : List (List Value)) (f : Field) (x : Value) (frame : Frame) (ql pl : Locals) (sq sp : Spot) (apart : ApartFrom f (standing frame pl sp)) (k : StandsIn qs frame ql pl sq sp) → IsLevel c May qs frame ql pl sq sp k →
      IsLevel c May (with_scalar qs f.object f.position x) frame ql pl sq sp (stands-kept qs f x frame ql pl sq sp apart k)
  unfolding stands-kept
  level-by qs f x frame ql pl sq sp apart (Level k) m = tt
  level-by qs f x frame ql pl sq sp apart (Reading may k) m = absurd m
  level-by qs f x frame ql pl sq sp apart (Writing may k) m = absurd m
  level-by qs f x frame ql pl sq sp apart (Trapping may k) m = absurd m

  level-kept : (qs : List (List Value)) (f : Field) (x : Value) (waits : Bool) (q p : Active) (apart : ApartFrom f p) (h : Together qs q p) → MayWait c May waits qs q p h →
      MayWait c May waits (with_scalar qs f.object f.position x) q p (pair-kept qs f x q p apart h)
  unfolding pair-kept
  level-kept qs f x false q p apart h m = tt
  level-kept qs f x true q p apart h m = level-by qs f x h.frame h.ql h.pl h.sq h.sp (subst (λ (a : Active). ApartFrom f a) h.p_is apart) h.stands m

  pub stacks-kept : (qs : List (List Value)) (f : Field) (x : Value) (waits : Bool) (below others : List Active) → AreApart c f others → Below qs waits below others → Below (with_scalar qs f.object f.position x) waits below others
  stacks-kept qs f x waits [] [] apart h = tt
  stacks-kept qs f x waits (q ∷ below) (p ∷ others) apart h = (pair-kept qs f x q p apart.0 h.0, level-kept qs f x waits q p apart.0 h.0 h.1, stacks-kept qs f x (not p.handler) below others apart.1 h.2)
  stacks-kept qs f x waits [] (p ∷ others) apart h = absurd h
  stacks-kept qs f x waits (q ∷ below) [] apart h = absurd h

  -- both have written a slot
  pub shared-put : (handler : Bool) (rq rp : Rest) (qs ps : List (List Value)) (f : Field) (word code i k : ℕ) (v : Value) → c.home i k ≡ Packed f → HoldsWord qs f word → code < 2 ^ f.width → c.decode i k code ≡ v → AreApart c f rp.below →
      Shared c May handler rq rp qs ps → Shared c May handler rq rp (with_scalar qs f.object f.position (Int (pos (put word f.shift f.width code)))) (with_scalar ps i k v)
  shared-put handler rq rp qs ps f word code i k v at holds small coded apart h = record {
    inputs = h.inputs;
    rows = h.rows;
    opened = h.opened;
    statics = packed_write c.home c.decode c.homes qs ps i k f word code v at holds small coded h.statics;
    below = stacks-kept qs f (Int (pos (put word f.shift f.width code))) (not handler) rq.below rp.below apart h.below;
  }

  module _ (rq rp : Rest) (flag : Bool) (qs ps : List (List Value)) (frame : Frame) (shared : Shared c May frame.handler rq rp qs ps) (pl : Locals) (sp : Spot) where
    abbrev here : State
    here = running rp flag ps (standing frame pl sp)

    abbrev there : Locals → Spot → State
    there ql sq = running rq flag qs (standing frame ql sq)

    abbrev Answered : Locals → Spot → Type 0
    Answered ql sq = (others : Arrivals) × R (turn Q (there ql sq) None) (run P here others)

    -- ---- what is left of a read
    module _ (may : May) (m : ℕ) (p_needs : List Need) (p_met : AreMet p_needs pl) (p_own : AreOwn (c.own frame.func) p_needs) (register : ℕ) (value : Value) (own : register < c.base frame.func) (tq tp : Spot)
        (p_left : Residue P frame c.own (c.base frame.func) m p_needs sp (SetsLocal register value) tp) (joined : c.Joined frame tq tp)
      where
        reading-by : (n : ℕ) (q_needs : List Need) (ql : Locals) (sq : Spot) → Agree (c.base frame.func) ql pl → AreMet q_needs ql → Residue Q frame c.own (c.base frame.func) n q_needs sq (SetsLocal register value) tq → Answered ql sq
        reading-by zero q_needs ql sq agree q_met h =
            let last = residue-run P frame c.own (c.base frame.func) m p_needs sp (SetsLocal register value) tp p_left rp flag ps pl p_met in
            let same : Agree (c.base frame.func) ql last.0 = agree-trans (c.base frame.func) ql pl last.0 agree (agree-sym (c.base frame.func) last.0 pl last.1) in (
              alone (suc m),
              related_at _ _ _ _ (h rq flag qs ql q_met) last.2
                  (Meeting (met rq rp flag qs ps _ _ shared (paired qs frame (with_scalar ql register 0 (Some value)) (with_scalar last.0 register 0 (Some value)) tq tp
                  (agree-set (c.base frame.func) register 0 (Some value) ql last.0 same own) (Level joined)))),
            )
        reading-by (suc n) q_needs ql sq agree q_met h = (
          [],
          related_at _ _ _ _ (silent-turn Q frame (c.base frame.func) q_needs sq h.0 h.1 h.3 h.4 rq flag qs ql q_met) refl
              (Meeting (met rq rp flag qs ps _ _ shared (paired qs frame (locals_after h.0 ql) pl h.1 sp (agree-trans (c.base frame.func) (locals_after h.0 ql) ql pl (silent-agree (c.base frame.func) h.0 ql h.3) agree)
              (Reading may (record {
                n = n;
                m = m;
                q_needs = h.2;
                p_needs = p_needs;
                register = register;
                value = value;
                tq = tq;
                tp = tp;
                q_met = h.5 ql q_met;
                p_met = p_met;
                q_own = h.6;
                p_own = p_own;
                below = own;
                q_left = h.7;
                p_left = p_left;
                joined = joined;
              }))))),
        )

    pub reading-step : May → (ql : Locals) (sq : Spot) → Agree (c.base frame.func) ql pl → Reads c frame ql pl sq sp → Answered ql sq
    reading-step may ql sq agree h = reading-by may h.m h.p_needs h.p_met h.p_own h.register h.value h.below h.tq h.tp h.p_left h.joined h.n h.q_needs ql sq agree h.q_met h.q_left

    -- ---- what is left of a write without a guard
    module _ (may : May) (m : ℕ) (p_needs : List Need) (p_met : AreMet p_needs pl) (p_own : AreOwn (c.own frame.func) p_needs) (i k : ℕ) (f : Field) (word code : ℕ) (value : Value) (tq tp : Spot) (at : c.home i k ≡ Packed f) (holds : HoldsWord qs f word) (small : code < 2 ^ f.width)
        (coded : c.decode i k code ≡ value) (p_left : Residue P frame c.own (c.base frame.func) m p_needs sp (SetsStatic i k value) tp) (joined : c.Joined frame tq tp) (unguarded : c.Unguarded (standing frame pl sp) f) (apart : AreApart c f rp.below)
      where
        abbrev new : Value
        new = Int (pos (put word f.shift f.width code))

        writing-by : (n : ℕ) (q_needs : List Need) (ql : Locals) (sq : Spot) → Agree (c.base frame.func) ql pl → AreMet q_needs ql → Residue Q frame c.own (c.base frame.func) n q_needs sq (SetsStatic f.object f.position new) tq → Answered ql sq
        writing-by zero q_needs ql sq agree q_met h =
            let last = residue-run P frame c.own (c.base frame.func) m p_needs sp (SetsStatic i k value) tp p_left rp flag ps pl p_met in (
              alone (suc m),
              related_at _ _ _ _ (h rq flag qs ql q_met) last.2
                  (Meeting (met rq rp flag (with_scalar qs f.object f.position new) (with_scalar ps i k value) _ _ (shared-put frame.handler rq rp qs ps f word code i k value at holds small coded apart shared)
                  (paired (with_scalar qs f.object f.position new) frame ql last.0 tq tp (agree-trans (c.base frame.func) ql pl last.0 agree (agree-sym (c.base frame.func) last.0 pl last.1)) (Level joined)))),
            )
        writing-by (suc n) q_needs ql sq agree q_met h = (
          [],
          related_at _ _ _ _ (silent-turn Q frame (c.base frame.func) q_needs sq h.0 h.1 h.3 h.4 rq flag qs ql q_met) refl
              (Meeting (met rq rp flag qs ps _ _ shared (paired qs frame (locals_after h.0 ql) pl h.1 sp (agree-trans (c.base frame.func) (locals_after h.0 ql) ql pl (silent-agree (c.base frame.func) h.0 ql h.3) agree)
              (Writing may (record {
                n = n;
                m = m;
                q_needs = h.2;
                p_needs = p_needs;
                object = i;
                position = k;
                field = f;
                word = word;
                code = code;
                value = value;
                tq = tq;
                tp = tp;
                q_met = h.5 ql q_met;
                p_met = p_met;
                q_own = h.6;
                p_own = p_own;
                at = at;
                holds = holds;
                small = small;
                coded = coded;
                q_left = h.7;
                p_left = p_left;
                joined = joined;
                unguarded = unguarded;
              }))))),
        )

    pub writing-step : May → (ql : Locals) (sq : Spot) → Agree (c.base frame.func) ql pl → (h : Writes c qs frame ql pl sq sp) → AreApart c h.field rp.below → Answered ql sq
    writing-step may ql sq agree h apart =
        writing-by may h.m h.p_needs h.p_met h.p_own h.object h.position h.field h.word h.code h.value h.tq h.tp h.at h.holds h.small h.coded h.p_left h.joined h.unguarded apart h.n h.q_needs ql sq agree h.q_met h.q_left

    -- ---- what is left of a write that traps
    module _ (may : May) (m : ℕ) (p_needs : List Need) (p_met : AreMet p_needs pl) (p_own : AreOwn (c.own frame.func) p_needs) (p_left : Doomed P frame c.own (c.base frame.func) m p_needs sp) where
      trapping-by : (n : ℕ) (q_needs : List Need) (ql : Locals) (sq : Spot) → Agree (c.base frame.func) ql pl → AreMet q_needs ql → AreOwn (c.own frame.func) q_needs → Doomed Q frame c.own (c.base frame.func) n q_needs sq → Answered ql sq
      trapping-by zero q_needs ql sq agree q_met q_own h =
          let last = doomed-run P frame c.own (c.base frame.func) m p_needs sp p_left rp flag ps pl p_met in (
            alone (suc m),
            related_at _ _ _ _ (h rq flag qs ql q_met) last.2 (Over (record { rows = shared.rows; end = refl; over = refl })),
          )
      trapping-by (suc n) q_needs ql sq agree q_met q_own h = (
        [],
        related_at _ _ _ _ (silent-turn Q frame (c.base frame.func) q_needs sq h.0 h.1 h.3 h.4 rq flag qs ql q_met) refl
            (Meeting (met rq rp flag qs ps _ _ shared (paired qs frame (locals_after h.0 ql) pl h.1 sp (agree-trans (c.base frame.func) (locals_after h.0 ql) ql pl (silent-agree (c.base frame.func) h.0 ql h.3) agree)
            (Trapping may (record { n = n; m = m; q_needs = h.2; p_needs = p_needs; q_met = h.5 ql q_met; p_met = p_met; q_own = h.6; p_own = p_own; q_left = h.7; p_left = p_left }))))),
      )

    pub trapping-step : May → (ql : Locals) (sq : Spot) → Agree (c.base frame.func) ql pl → Dooms c frame ql pl sq sp → Answered ql sq
    trapping-step may ql sq agree h = trapping-by may h.m h.p_needs h.p_met h.p_own h.p_left h.n h.q_needs ql sq agree h.q_met h.q_own h.q_left

    -- ---- the first turn of a guarded write: p stays, and what comes is fixed
    pub guard-begins : May → (n m : ℕ) (q_needs p_needs : List Need) (i k : ℕ) (f : Field) (word code : ℕ) (value : Value) (tq tp : Spot) (ql : Locals) (sq : Spot) → Agree (c.base frame.func) ql pl → AreMet q_needs ql → AreMet p_needs pl →
        c.home i k ≡ Packed f → HoldsWord qs f word → code < 2 ^ f.width → c.decode i k code ≡ value → Guards Q frame (c.base frame.func) (suc n) q_needs sq f code tq →
        Residue P frame c.own (c.base frame.func) m p_needs sp (SetsStatic i k value) tp → c.Joined frame tq tp → AreApart c f rp.below → R (turn Q (there ql sq) None) here
    guard-begins may n m q_needs p_needs i k f word code value tq tp ql sq agree q_met p_met at holds small coded guards p_left joined apart =
        let q_last = guards rq flag qs ql word q_met holds in
        let p_last = residue-run P frame c.own (c.base frame.func) m p_needs sp (SetsStatic i k value) tp p_left rp flag ps pl p_met in
        let same : Agree (c.base frame.func) q_last.0 p_last.0 =
        agree-trans (c.base frame.func) q_last.0 ql p_last.0 q_last.1 (agree-trans (c.base frame.func) ql pl p_last.0 agree (agree-sym (c.base frame.func) p_last.0 pl p_last.1)) in
        Guarded may (record {
          n = n;
          m = suc m;
          last = running rq flag (with_scalar qs f.object f.position (Int (pos (put word f.shift f.width code)))) (standing frame q_last.0 tq);
          source_last = running rp flag (with_scalar ps i k value) (standing frame p_last.0 tp);
          leads = q_last.2;
          goes = refl;
          quiet = refl;
          source = p_last.2;
          meets = met rq rp flag (with_scalar qs f.object f.position (Int (pos (put word f.shift f.width code)))) (with_scalar ps i k value) _ _ (shared-put frame.handler rq rp qs ps f word code i k value at holds small coded apart shared)
              (paired (with_scalar qs f.object f.position (Int (pos (put word f.shift f.width code)))) frame q_last.0 p_last.0 tq tp same (Level joined));
        })

  -- ---- inside a guard, whoever arrives
  guard-by : May → (n m : ℕ) (s t last source_last : State) → Leads Q (suc n) s last → (arrival : Option ℕ) → t.end ≡ Going → t.memory.trace ≡ source_last.memory.trace → run P t (alone m) ≡ source_last → Both last source_last →
      (others : Arrivals) × R (turn Q s arrival) (run P t others)
  guard-by may zero m s t last source_last leads arrival g k e meets = (alone m, related_at _ _ _ _ (leads.2 arrival) e (Meeting meets))
  guard-by may (suc n) m s t last source_last leads arrival g k e meets = (
    [],
    Guarded may (record { n = n; m = m; last = last; source_last = source_last; leads = leads.2 arrival; goes = g; quiet = k; source = e; meets = meets }),
  )

  pub guard-step : May → (s t : State) → InGuard c May s t → (arrival : Option ℕ) → (others : Arrivals) × R (turn Q s arrival) (run P t others)
  guard-step may s t h arrival = guard-by may h.n h.m s t h.last h.source_last h.leads arrival h.goes h.quiet h.source h.meets

  fails-by : May → (n m : ℕ) (s t last source_last : State) → Leads Q (suc n) s last → (arrival : Option ℕ) → t.end ≡ Going → t.memory.trace ≡ source_last.memory.trace → run P t (alone m) ≡ source_last →
      Ended Q P last source_last → (others : Arrivals) × R (turn Q s arrival) (run P t others)
  fails-by may zero m s t last source_last leads arrival g k e ended = (alone m, related_at _ _ _ _ (leads.2 arrival) e (Over ended))
  fails-by may (suc n) m s t last source_last leads arrival g k e ended = (
    [],
    Failing may (record { n = n; m = m; last = last; source_last = source_last; leads = leads.2 arrival; goes = g; quiet = k; source = e; ended = ended }),
  )

  pub fails-step : May → (s t : State) → FailsInGuard c May s t → (arrival : Option ℕ) → (others : Arrivals) × R (turn Q s arrival) (run P t others)
  fails-step may s t h arrival = fails-by may h.n h.m s t h.last h.source_last h.leads arrival h.goes h.quiet h.source h.ended

  -- ---- the first turn of a block without a guard

  module _ (rq rp : Rest) (flag : Bool) (qs ps : List (List Value)) (frame : Frame) (shared : Shared c May frame.handler rq rp qs ps) (ql pl : Locals) (sq sp mid : Spot) (agree : Agree (c.base frame.func) ql pl)
      (first : turn Q (running rq flag qs (standing frame ql sq)) None ≡ running rq flag qs (standing frame ql mid))
    where
      -- q has read the word of a slot that is written
      pub write-begins : May → (h : Writes c qs frame ql pl mid sp) → R (turn Q (running rq flag qs (standing frame ql sq)) None) (running rp flag ps (standing frame pl sp))
      write-begins may h = related_at _ _ _ _ first refl (Meeting (met rq rp flag qs ps _ _ shared (paired qs frame ql pl mid sp agree (Writing may h))))

      -- the same, where a register is written that never was
      pub doom-begins : May → Dooms c frame ql pl mid sp → R (turn Q (running rq flag qs (standing frame ql sq)) None) (running rp flag ps (standing frame pl sp))
      doom-begins may h = related_at _ _ _ _ first refl (Meeting (met rq rp flag qs ps _ _ shared (paired qs frame ql pl mid sp agree (Trapping may h))))

      -- q has read the word of a slot that is read, and so has p the slot
      pub read-begins : May → (source_mid : Spot) → turn P (running rp flag ps (standing frame pl sp)) None ≡ running rp flag ps (standing frame pl source_mid) → Reads c frame ql pl mid source_mid →
          R (turn Q (running rq flag qs (standing frame ql sq)) None) (run P (running rp flag ps (standing frame pl sp)) (alone 1))
      read-begins may source_mid second h = related_at _ _ _ _ first second (Meeting (met rq rp flag qs ps _ _ shared (paired qs frame ql pl mid source_mid agree (Reading may h))))

  -- ---- the first turn of a read in a guard: behind the guard q has still to take the field
  pub guard-read-begins : May → (rq rp : Rest) (flag : Bool) (qs ps : List (List Value)) (frame : Frame) → Shared c May frame.handler rq rp qs ps → (ql ul pl : Locals) (sq mid sp source_mid : Spot) (n : ℕ) → Agree (c.base frame.func) ul pl →
      Leads Q (suc n) (turn Q (running rq flag qs (standing frame ql sq)) None) (running rq flag qs (standing frame ul mid)) → turn P (running rp flag ps (standing frame pl sp)) None ≡ running rp flag ps (standing frame pl source_mid) →
      Reads c frame ul pl mid source_mid → R (turn Q (running rq flag qs (standing frame ql sq)) None) (running rp flag ps (standing frame pl sp))
  guard-read-begins may rq rp flag qs ps frame shared ql ul pl sq mid sp source_mid n agree leads second h =
      Guarded may (record {
        n = n;
        m = 1;
        last = running rq flag qs (standing frame ul mid);
        source_last = running rp flag ps (standing frame pl source_mid);
        leads = leads;
        goes = refl;
        quiet = refl;
        source = second;
        meets = met rq rp flag qs ps _ _ shared (paired qs frame ul pl mid source_mid agree (Reading may h));
      })
