-- One action that both programs perform: accesses of what is kept, the interrupt flag, and choices.
use Rattle.std.proofs.Common.{◌≡◌, ◌<◌, ℕ, ℤ, Bool, true, false, not, List, [], ◌∷◌, ◌++◌, Option, Some, None, slice_get, refl, ap, ap₂, sym, ◌∙◌, subst, if◌then◌else◌, ◌⊎◌, inl, inr}
use Rattle.std.specs.Prelude.{◌==◌}
use Rattle.std.proofs.lemmas.Bool.{eq-eqb}
use Rattle.std.proofs.lemmas.List.{map-append}
use Rattle.cc_steps.specs.CcCells.Cells.{scalar_in, with_scalar}
use Rattle.cc_steps.specs.CcEval.declared.action.Action.TheVariants.{Read, Write, Choose, Flag, Save}
use Rattle.cc_steps.specs.CcEval.declared.action.Manner.{Manner}
use Rattle.cc_steps.specs.CcEval.declared.mark.Mark.{Mark}
use Rattle.cc_steps.specs.CcEval.declared.mark.Mark.TheVariants.{Gave, Did, Chose}
use Rattle.cc_program.specs.CcNum.Integers.{converted}
use Rattle.cc_program.specs.CcNum.Results.{one_if}
use Rattle.cc_program.specs.CcNum.declared.target.Target.{Target}
use Rattle.cc_program.specs.declared.object.Device.{Device}
use Rattle.cc_program.specs.declared.program.Program.{Program}
use Rattle.cc_program.specs.declared.value.Cell.{Cell}
use Rattle.cc_program.specs.declared.value.Cell.TheVariants as cell
use Rattle.cc_program.specs.declared.value.Part.{Part}
use Rattle.cc_program.specs.declared.value.Root.TheVariants as root
use Rattle.cc_program.specs.declared.value.Value.{Value}
use Rattle.cc_program.specs.declared.value.Value.TheVariants.{Int}
use Rattle.cc_rewrite_homes.specs.Homes.{Field, Home, Whole, Packed, Apart, AtHome}
use Rattle.cc_rewrite_homes.proofs.HomeLemmas.{kept_write}
use Rattle.cc_rewrite_homes.proofs.ScalarLemmas.{written_elsewhere, both_or_not}
use Rattle.cc_rewrite_residues.specs.Residues.{Agree}
use Rattle.cc_rewrite_residues.specs.Standing.{Frame, Locals, Spot, standing, Rest, running}
use Rattle.cc_rewrite_residues.proofs.ResidueLemmas.{agree-set}
use Rattle.cc_rewrite_actions.specs.Actions.{IsWithin, IsNamed, StaysUnguarded, MarkBoth}
use Rattle.cc_rewrite_simulation.specs.Comparison.{Comparison}
use Rattle.cc_rewrite_actions.specs.Kept.{CellIs, MarkIs, Kept}
use Rattle.cc_rewrite_simulation.specs.Relation.{Shared, Stands, Level, Reading, Writing, Trapping, IsLevel, MayWait, Pair, Stacks, Related, Meeting, Over}
use Rattle.cc_rewrite_simulation.proofs.Follows.{paired, met}
use Rattle.cc_rewrite_actions.proofs.OthersWrite.{content-same, stacks-written, open-same}
use Rattle.cc_steps.specs.Access.{local_content, with_local, is_open}
use Rattle.cc_steps.specs.Rows.{Row, rows_of, row_of}
use Rattle.cc_steps.specs.State.{Active, State}
use Rattle.cc_steps.specs.Step.{stopped, with_event, did, marked, perform, has_read, has_written, content_at, static_content, cell_position, with_stack, input_read}
use Rattle.cc_steps.specs.declared.content.Content.{Content}
use Rattle.cc_steps.specs.declared.content.Content.TheVariants.{Gone, Unwritten, Holds}
use Rattle.cc_steps.specs.declared.event.End.TheVariants.{Trap}
use Rattle.cc_steps.specs.declared.event.Event.{Event}
use Rattle.cc_steps.specs.declared.event.Event.TheVariants as event

value-is : (v w : Value) → Holds v ≡ Holds w → v ≡ w
value-is v w e = cc

-- with an event noted, or none
abbrev pub noted : Bool → Rest → Event → Rest
noted false r e = r
noted true r e = record { inputs = r.inputs; trace = r.trace ++ e ∷ []; below = r.below; opened = r.opened }

event-noted : (b : Bool) (r : Rest) (flag : Bool) (statics : List (List Value)) (a : Active) (e : Event) → with_event b (running r flag statics a) e ≡ running (noted b r e) flag statics a
event-noted false r flag statics a e = refl
event-noted true r flag statics a e = refl

-- ---- a scalar that stands as it is is written: words are as before

module _ {Q P : Program} (c : Comparison Q P) (May : Type 0) (i k j l : ℕ) (at_home : c.home i k ≡ Whole j l) (x : Value) where
  whole-apart : (object position : ℕ) (f : Field) → c.home object position ≡ Packed f → j ≡ f.object → l ≡ f.position → ⊥
  whole-apart object position f at e g = by (both_or_not i object k position)
    where
      differ : {f : Field} → Whole j l ≡ Packed f → ⊥
      differ h = cc

      by : ((i ≡ object) × (k ≡ position)) ⊎ (i ≡ object → k ≡ position → ⊥) → ⊥
      by (inl same) = differ (sym at_home ∙ ap (λ n. c.home n k) same.0 ∙ ap (λ n. c.home object n) same.1 ∙ at)
      by (inr other) = subst (λ (x : Home). Apart x (Packed f)) at_home (subst (λ (x : Home). Apart (c.home i k) x) at (c.homes.apart i k object position other)) e g

  abbrev set : List (List Value) → List (List Value)
  set qs = with_scalar qs j l x

  stands-whole : (qs : List (List Value)) (frame : Frame) (ql pl : Locals) (sq sp : Spot) → Stands c May qs frame ql pl sq sp → Stands c May (set qs) frame ql pl sq sp
  stands-whole qs frame ql pl sq sp (Level h) = Level h
  stands-whole qs frame ql pl sq sp (Reading may h) = Reading may h
  stands-whole qs frame ql pl sq sp (Writing may h) = Writing may (record {
    n = h.n;
    m = h.m;
    q_needs = h.q_needs;
    p_needs = h.p_needs;
    object = h.object;
    position = h.position;
    field = h.field;
    word = h.word;
    code = h.code;
    value = h.value;
    tq = h.tq;
    tp = h.tp;
    q_met = h.q_met;
    p_met = h.p_met;
    q_own = h.q_own;
    p_own = h.p_own;
    at = h.at;
    holds = record { there = written_elsewhere qs j l x h.field.object h.field.position (whole-apart h.object h.position h.field h.at) ∙ h.holds.there; small = h.holds.small };
    small = h.small;
    coded = h.coded;
    q_left = h.q_left;
    p_left = h.p_left;
    joined = h.joined;
    unguarded = h.unguarded;
  })
  stands-whole qs frame ql pl sq sp (Trapping may h) = Trapping may h

  pair-whole : (qs : List (List Value)) (q p : Active) → Pair c May qs q p → Pair c May (set qs) q p
  pair-whole qs q p h = record { frame = h.frame; ql = h.ql; pl = h.pl; sq = h.sq; sp = h.sp; q_is = h.q_is; p_is = h.p_is; agree = h.agree; stands = stands-whole qs h.frame h.ql h.pl h.sq h.sp h.stands }

  level-whole : (qs : List (List Value)) (frame : Frame) (ql pl : Locals) (sq sp : Spot) (h : Stands c May qs frame ql pl sq sp) → IsLevel c May qs frame ql pl sq sp h →
      IsLevel c May (set qs) frame ql pl sq sp (stands-whole qs frame ql pl sq sp h)
  unfolding stands-whole
  level-whole qs frame ql pl sq sp (Level h) m = tt
  level-whole qs frame ql pl sq sp (Reading may h) m = absurd m
  level-whole qs frame ql pl sq sp (Writing may h) m = absurd m
  level-whole qs frame ql pl sq sp (Trapping may h) m = absurd m

  wait-whole : (qs : List (List Value)) (waits : Bool) (q p : Active) (h : Pair c May qs q p) → MayWait c May waits qs q p h → MayWait c May waits (set qs) q p (pair-whole qs q p h)
  unfolding pair-whole
  wait-whole qs false q p h m = tt
  wait-whole qs true q p h m = level-whole qs h.frame h.ql h.pl h.sq h.sp h.stands m

  pub stacks-whole : (qs : List (List Value)) (waits : Bool) (below others : List Active) → Stacks c May qs waits below others → Stacks c May (set qs) waits below others
  stacks-whole qs waits [] [] h = tt
  stacks-whole qs waits (q ∷ below) (p ∷ others) h = (pair-whole qs q p h.0, wait-whole qs waits q p h.0 h.1, stacks-whole qs (not p.handler) below others h.2)
  stacks-whole qs waits [] (p ∷ others) h = absurd h
  stacks-whole qs waits (q ∷ below) [] h = absurd h

-- ---- the running activations, in front of the same statements

module _ {Q P : Program} (c : Comparison Q P) (May : Type 0) (k : Kept c) (unguarded-still : StaysUnguarded c) (frame : Frame) (sq sp : Spot) (joined : c.Joined frame sq sp)
    -- what a mark does to both, whatever their locals
    (marks : MarkBoth c k.IsKeptValue frame sq sp)
  where
    abbrev R : State → State → Type 0
    R = Related c May

    did-both : (rq rp : Rest) (flag : Bool) (qs ps : List (List Value)) (ql pl : Locals) → Shared c May frame.handler rq rp qs ps → Agree (c.base frame.func) ql pl → (m : Mark) → MarkIs k.IsKeptValue m →
        R (did Q (running rq flag qs (standing frame ql sq)) m) (did P (running rp flag ps (standing frame pl sp)) m)
    did-both rq rp flag qs ps ql pl shared agree m kept =
        let x = marks ql pl m kept in
        subst (λ (a : Active). R (running rq flag qs a) (running rp flag ps (marked P (standing frame pl sp) m))) (sym x.2)
        (subst (λ (a : Active). R (running rq flag qs (standing frame ql x.0)) (running rp flag ps a)) (sym x.3)
        (Meeting (met c May rq rp flag qs ps _ _ shared (paired c May qs frame ql pl x.0 x.1 agree (Level x.4)))))

    -- both end with the same rows
    pub ended-both : (rq rp : Rest) (flag : Bool) (qs ps : List (List Value)) (q p : Active) → rows_of Q rq.trace ≡ rows_of P rp.trace → R (stopped (running rq flag qs q) Trap) (stopped (running rp flag ps p) Trap)
    ended-both rq rp flag qs ps q p rows = Over (record { rows = rows; end = refl; over = refl })

    noted-shared : (b : Bool) (rq rp : Rest) (qs ps : List (List Value)) (e : Event) → row_of Q e ≡ row_of P e → Shared c May frame.handler rq rp qs ps → Shared c May frame.handler (noted b rq e) (noted b rp e) qs ps
    noted-shared false rq rp qs ps e h shared = shared
    noted-shared true rq rp qs ps e h shared = record {
      inputs = shared.inputs;
      rows = map-append (row_of Q) rq.trace (e ∷ []) ∙ ap₂ (λ (xs ys : List Row). xs ++ ys) shared.rows (ap (λ (x : Row). x ∷ []) h) ∙ sym (map-append (row_of P) rp.trace (e ∷ []));
      opened = shared.opened;
      statics = shared.statics;
      below = shared.below;
    }

    -- a step that notes an event, and its mark
    did-noted : (b : Bool) (rq rp : Rest) (flag : Bool) (qs ps : List (List Value)) (ql pl : Locals) (e : Event) → row_of Q e ≡ row_of P e → Shared c May frame.handler rq rp qs ps → Agree (c.base frame.func) ql pl → (m : Mark) → MarkIs k.IsKeptValue m →
        R (did Q (with_event b (running rq flag qs (standing frame ql sq)) e) m) (did P (with_event b (running rp flag ps (standing frame pl sp)) e) m)
    did-noted b rq rp flag qs ps ql pl e h shared agree m kept =
        subst (λ (s : State). R (did Q s m) (did P (with_event b (running rp flag ps (standing frame pl sp)) e) m)) (sym (event-noted b rq flag qs (standing frame ql sq) e))
        (subst (λ (t : State). R (did Q (running (noted b rq e) flag qs (standing frame ql sq)) m) (did P t m)) (sym (event-noted b rp flag ps (standing frame pl sp) e))
        (did-both (noted b rq e) (noted b rp e) flag qs ps ql pl (noted-shared b rq rp qs ps e h shared) agree m kept))

    module _ (rq rp : Rest) (flag : Bool) (qs ps : List (List Value)) (ql pl : Locals) (shared : Shared c May frame.handler rq rp qs ps) (agree : Agree (c.base frame.func) ql pl) where
      abbrev s : State
      s = running rq flag qs (standing frame ql sq)

      abbrev t : State
      t = running rp flag ps (standing frame pl sp)

      -- ---- what takes no access

      pub performs-save : R (perform Q s Save) (perform P t Save)
      performs-save = did-both rq rp false qs ps ql pl shared agree (Gave (Some (Int (one_if flag)))) (k.numbers (one_if flag))

      pub performs-flag : (on : Bool) → R (perform Q s (Flag on)) (perform P t (Flag on))
      performs-flag on = did-both rq rp on qs ps ql pl shared agree Did tt

      pub performs-choice : (b : Option Bool) → R (perform Q s (Choose b)) (perform P t (Choose b))
      performs-choice b = did-both rq rp flag qs ps ql pl shared agree (Chose b) tt

      -- ---- reads

      read-by : (at : Cell) (manner : Manner) (x : Content) → CellIs k.IsKept at → ((v : Value) → x ≡ Holds v → k.IsKeptValue v) → R (has_read Q s at manner x) (has_read P t at manner x)
      read-by at manner Gone kept values = ended-both rq rp flag qs ps _ _ shared.rows
      read-by at manner Unwritten kept values = bad manner.may_be_bad
        where
          bad : (b : Bool) → R (if b then did Q s (Gave None) else stopped s Trap) (if b then did P t (Gave None) else stopped t Trap)
          bad true = did-both rq rp flag qs ps ql pl shared agree (Gave None) tt
          bad false = ended-both rq rp flag qs ps _ _ shared.rows
      read-by at manner (Holds v) kept values =
          did-noted manner.is_event rq rp flag qs ps ql pl (event.Read at v) (k.reads at v kept (values v refl)) shared agree (Gave (Some v)) (values v refl)

      -- the scalar of a static object, in Q
      in-q : (i : ℕ) (path : List Part) (v : Value) → k.IsKept (root.Static i) → scalar_in ps i (cell_position P (root.Static i) path) ≡ Some v → scalar_in qs i (cell_position Q (root.Static i) path) ≡ Some v
      in-q i path v kept there =
          let n = cell_position P (root.Static i) path in subst (λ (h : Home). AtHome h (c.decode i n) qs v) (k.places i path kept) (shared.statics i n v there)

      pub performs-read-static : (i : ℕ) (path : List Part) (manner : Manner) (v : Value) → k.IsKept (root.Static i) → scalar_in ps i (cell_position P (root.Static i) path) ≡ Some v → k.IsKeptValue v →
          R (perform Q s (Read (cell.At (root.Static i) path) manner)) (perform P t (Read (cell.At (root.Static i) path) manner))
      performs-read-static i path manner v kept there value =
          let q_is : content_at s (root.Static i) (cell_position Q (root.Static i) path) ≡ Holds v = ap static_content (in-q i path v kept there) in
          let p_is : content_at t (root.Static i) (cell_position P (root.Static i) path) ≡ Holds v = ap static_content there in
          subst (λ (x : Content). R (has_read Q s (cell.At (root.Static i) path) manner x) (has_read P t (cell.At (root.Static i) path) manner (content_at t (root.Static i) (cell_position P (root.Static i) path)))) (sym q_is)
          (subst (λ (x : Content). R (has_read Q s (cell.At (root.Static i) path) manner (Holds v)) (has_read P t (cell.At (root.Static i) path) manner x)) (sym p_is)
          (read-by (cell.At (root.Static i) path) manner (Holds v) kept (λ w e. subst k.IsKeptValue (value-is v w e) value)))

      top : Pair c May qs (standing frame ql sq) (standing frame pl sp)
      top = paired c May qs frame ql pl sq sp agree (Level joined)

      -- a local, of whichever activation
      pub performs-read-local : (n f l : ℕ) (path : List Part) (manner : Manner) → k.IsKept (root.Auto n f l) → IsWithin c (standing frame pl sp ∷ rp.below) n l →
          ((v : Value) → content_at t (root.Auto n f l) (cell_position P (root.Auto n f l) path) ≡ Holds v → k.IsKeptValue v) →
          R (perform Q s (Read (cell.At (root.Auto n f l) path) manner)) (perform P t (Read (cell.At (root.Auto n f l) path) manner))
      performs-read-local n f l path manner kept within values =
          let m = cell_position P (root.Auto n f l) path in
          let q_is : content_at s (root.Auto n f l) (cell_position Q (root.Auto n f l) path) ≡ content_at t (root.Auto n f l) m =
          ap (λ j. local_content (standing frame ql sq ∷ rq.below) n l j) (k.positions n f l path kept)
          ∙ content-same c May unguarded-still qs false (standing frame ql sq ∷ rq.below) (standing frame pl sp ∷ rp.below) n l m within (top, tt, shared.below) in
          subst (λ (x : Content). R (has_read Q s (cell.At (root.Auto n f l) path) manner x) (has_read P t (cell.At (root.Auto n f l) path) manner (content_at t (root.Auto n f l) m))) (sym q_is)
          (read-by (cell.At (root.Auto n f l) path) manner (content_at t (root.Auto n f l) m) kept values)

      -- ---- writes

      pub performs-write-static : (i : ℕ) (path : List Part) (is_event : Bool) (v old : Value) → k.IsKept (root.Static i) → k.IsKeptValue v → scalar_in ps i (cell_position P (root.Static i) path) ≡ Some old →
          R (perform Q s (Write (cell.At (root.Static i) path) is_event v)) (perform P t (Write (cell.At (root.Static i) path) is_event v))
      performs-write-static i path is_event v old kept value there =
          let n = cell_position P (root.Static i) path in
          let m = cell_position Q (root.Static i) path in
          did-noted is_event rq rp flag (with_scalar qs i m v) (with_scalar ps i n v) ql pl (event.Write (cell.At (root.Static i) path) v) (k.writes (cell.At (root.Static i) path) v kept value)
          (record {
            inputs = shared.inputs;
            rows = shared.rows;
            opened = shared.opened;
            statics = kept_write c.home c.decode c.homes qs ps i n i m v old (k.places i path kept) (in-q i path old kept there) shared.statics;
            below = stacks-whole c May i n i m (k.places i path kept) v qs (not frame.handler) rq.below rp.below shared.below;
          }) agree Did tt

      -- a local of the running activation
      own-written : (p : Program) (rr : Rest) (qs : List (List Value)) (locals : Locals) (at : Spot) (f l m : ℕ) (path : List Part) (is_event : Bool) (v : Value) → cell_position p (root.Auto frame.number f l) path ≡ m →
          perform p (running rr flag qs (standing frame locals at)) (Write (cell.At (root.Auto frame.number f l) path) is_event v)
          ≡ did p (with_event is_event (running rr flag qs (standing frame (with_scalar locals l m (Some v)) at)) (event.Write (cell.At (root.Auto frame.number f l) path) v)) Did
      own-written p rr qs locals at f l m path is_event v e = rw (eq-eqb frame.number frame.number refl, e) refl

      pub performs-write-own : (f l : ℕ) (path : List Part) (is_event : Bool) (v : Value) → k.IsKept (root.Auto frame.number f l) → k.IsKeptValue v → l < c.base frame.func →
          R (perform Q s (Write (cell.At (root.Auto frame.number f l) path) is_event v)) (perform P t (Write (cell.At (root.Auto frame.number f l) path) is_event v))
      performs-write-own f l path is_event v kept value below =
          let m = cell_position P (root.Auto frame.number f l) path in
          subst (λ (x : State). R x (perform P t (Write (cell.At (root.Auto frame.number f l) path) is_event v))) (sym (own-written Q rq qs ql sq f l m path is_event v (k.positions frame.number f l path kept)))
          (subst (λ (x : State). R (did Q (with_event is_event (running rq flag qs (standing frame (with_scalar ql l m (Some v)) sq)) (event.Write (cell.At (root.Auto frame.number f l) path) v)) Did) x)
          (sym (own-written P rp ps pl sp f l m path is_event v refl))
          (did-noted is_event rq rp flag qs ps (with_scalar ql l m (Some v)) (with_scalar pl l m (Some v)) (event.Write (cell.At (root.Auto frame.number f l) path) v)
          (k.writes (cell.At (root.Auto frame.number f l) path) v kept value) shared (agree-set (c.base frame.func) l m (Some v) ql pl agree below) Did tt))

      -- and one of another, which no pointer finds among the registers
      abbrev below_set : Rest → List Active → Rest
      below_set rr below = record { inputs = rr.inputs; trace = rr.trace; below = below; opened = rr.opened }

      abbrev other_by : (p : Program) (rr : Rest) (statics : List (List Value)) (a : Active) (n l m : ℕ) (at : Cell) (is_event : Bool) (v : Value) → Bool → State
      other_by p rr statics a n l m at is_event v true = did p (with_event is_event (running (below_set rr (with_local rr.below n l m v)) flag statics a) (event.Write at v)) Did
      other_by p rr statics a n l m at is_event v false = stopped (running rr flag statics a) Trap

      other-is : (p : Program) (rr : Rest) (statics : List (List Value)) (a : Active) (n l m : ℕ) (at : Cell) (is_event : Bool) (v : Value) (b : Bool) →
          has_written p at is_event v (running rr flag statics a) (if b then Some (with_stack (running rr flag statics a) (a ∷ with_local rr.below n l m v)) else None) ≡ other_by p rr statics a n l m at is_event v b
      other-is p rr statics a n l m at is_event v true = refl
      other-is p rr statics a n l m at is_event v false = refl

      other-written : (p : Program) (rr : Rest) (statics : List (List Value)) (locals : Locals) (at : Spot) (n f l m : ℕ) (path : List Part) (is_event : Bool) (v : Value) → (frame.number == n) ≡ false → cell_position p (root.Auto n f l) path ≡ m →
          perform p (running rr flag statics (standing frame locals at)) (Write (cell.At (root.Auto n f l) path) is_event v) ≡ other_by p rr statics (standing frame locals at) n l m (cell.At (root.Auto n f l) path) is_event v (is_open rr.below n)
      other-written p rr statics locals at n f l m path is_event v e g = rw (e, g) (other-is p rr statics (standing frame locals at) n l m (cell.At (root.Auto n f l) path) is_event v (is_open rr.below n))

      other-both : (n f l m : ℕ) (path : List Part) (is_event : Bool) (v : Value) (b : Bool) → k.IsKept (root.Auto n f l) → k.IsKeptValue v → IsNamed c rp.below n l →
          R (other_by Q rq qs (standing frame ql sq) n l m (cell.At (root.Auto n f l) path) is_event v b) (other_by P rp ps (standing frame pl sp) n l m (cell.At (root.Auto n f l) path) is_event v b)
      other-both n f l m path is_event v false kept value named = ended-both rq rp flag qs ps _ _ shared.rows
      other-both n f l m path is_event v true kept value named =
          did-noted is_event (below_set rq (with_local rq.below n l m v)) (below_set rp (with_local rp.below n l m v)) flag qs ps ql pl (event.Write (cell.At (root.Auto n f l) path) v)
          (k.writes (cell.At (root.Auto n f l) path) v kept value)
          (record {
            inputs = shared.inputs;
            rows = shared.rows;
            opened = shared.opened;
            statics = shared.statics;
            below = stacks-written c May unguarded-still qs (not frame.handler) rq.below rp.below n l m v named shared.below;
          }) agree Did tt

      pub performs-write-other : (n f l : ℕ) (path : List Part) (is_event : Bool) (v : Value) → (frame.number == n) ≡ false → k.IsKept (root.Auto n f l) → k.IsKeptValue v → IsNamed c rp.below n l →
          R (perform Q s (Write (cell.At (root.Auto n f l) path) is_event v)) (perform P t (Write (cell.At (root.Auto n f l) path) is_event v))
      performs-write-other n f l path is_event v e kept value named =
          let m = cell_position P (root.Auto n f l) path in
          let same = open-same c May unguarded-still qs (not frame.handler) rq.below rp.below n shared.below in
          subst (λ (x : State). R x (perform P t (Write (cell.At (root.Auto n f l) path) is_event v)))
          (sym (other-written Q rq qs ql sq n f l m path is_event v e (k.positions n f l path kept)
          ∙ ap (other_by Q rq qs (standing frame ql sq) n l m (cell.At (root.Auto n f l) path) is_event v) same))
          (subst (λ (x : State). R (other_by Q rq qs (standing frame ql sq) n l m (cell.At (root.Auto n f l) path) is_event v (is_open rp.below n)) x) (sym (other-written P rp ps pl sp n f l m path is_event v e refl))
          (other-both n f l m path is_event v (is_open rp.below n) kept value named))

      -- ---- devices

      abbrev left_inputs : Rest → List ℤ → Rest
      left_inputs rr xs = record { inputs = xs; trace = rr.trace; below = rr.below; opened = rr.opened }

      inputs-by : (d : ℕ) (x : Option Device) (xs : List ℤ) → R (input_read Q s d x xs) (input_read P t d x xs)
      inputs-by d None xs = ended-both rq rp flag qs ps _ _ shared.rows
      inputs-by d (Some device) [] = Over (record { rows = shared.rows; end = refl; over = refl })
      inputs-by d (Some device) (n ∷ xs) =
          subst (λ (u : Target). R (did Q (with_event true (running (left_inputs rq xs) flag qs (standing frame ql sq)) (event.Read (cell.Device d) (Int (converted n device.int u)))) (Gave (Some (Int (converted n device.int u)))))
          (did P (with_event true (running (left_inputs rp xs) flag ps (standing frame pl sp)) (event.Read (cell.Device d) (Int (converted n device.int P.target)))) (Gave (Some (Int (converted n device.int P.target))))))
          (sym k.target)
          (did-noted true (left_inputs rq xs) (left_inputs rp xs) flag qs ps ql pl (event.Read (cell.Device d) (Int (converted n device.int P.target)))
          (k.reads (cell.Device d) (Int (converted n device.int P.target)) tt (k.numbers (converted n device.int P.target)))
          (record { inputs = refl; rows = shared.rows; opened = shared.opened; statics = shared.statics; below = shared.below }) agree (Gave (Some (Int (converted n device.int P.target)))) (k.numbers (converted n device.int P.target)))

      pub performs-read-device : (d : ℕ) (manner : Manner) → R (perform Q s (Read (cell.Device d) manner)) (perform P t (Read (cell.Device d) manner))
      performs-read-device d manner =
          subst (λ (x : List Device). R (input_read Q s d (slice_get x d) rq.inputs) (input_read P t d (slice_get P.devices d) rp.inputs)) (sym k.devices)
          (subst (λ (xs : List ℤ). R (input_read Q s d (slice_get P.devices d) xs) (input_read P t d (slice_get P.devices d) rp.inputs)) (sym shared.inputs) (inputs-by d (slice_get P.devices d) rp.inputs))

      pub performs-write-device : (d : ℕ) (is_event : Bool) (v : Value) → k.IsKeptValue v → R (perform Q s (Write (cell.Device d) is_event v)) (perform P t (Write (cell.Device d) is_event v))
      performs-write-device d is_event v value = did-noted true rq rp flag qs ps ql pl (event.Write (cell.Device d) v) (k.writes (cell.Device d) v tt value) shared agree Did tt
