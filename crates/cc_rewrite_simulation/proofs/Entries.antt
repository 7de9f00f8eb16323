-- A handler that enters in one program enters in the other, and what it interrupts stays as it stood.
use Rattle.std.proofs.Common.{◌≡◌, ◌+◌, ℕ, max, Bool, true, false, not, ◌&&◌, List, [], ◌∷◌, ◌++◌, Option, Some, None, slice_get, option_map, refl, ap, ap₂, sym, ◌∙◌, subst, if◌then◌else◌, nat_eq, nat_lt, ◌||◌}
use Rattle.std.proofs.lemmas.List.{map-append}
use Rattle.std.proofs.lemmas.Option.{same_Some}
use Rattle.cc_program.specs.declared.func.Func.{Func}
use Rattle.cc_program.specs.declared.program.Program.{Program}
use Rattle.cc_program.specs.declared.value.Value.{Value}
use Rattle.cc_rewrite_residues.specs.Standing.{standing, entry, Rest, running}
use Rattle.cc_rewrite_simulation.specs.Comparison.{Comparison}
use Rattle.cc_rewrite_simulation.specs.Relation.{Shared, Level, Pair, Stacks, Related, Meeting}
use Rattle.cc_rewrite_simulation.specs.Simulated.{handler_frame, BeginAlike, AreHandlers, EnterAlike}
use Rattle.cc_rewrite_simulation.proofs.Follows.{paired, met}
use Rattle.cc_steps.specs.Rows.{Row, Name, Enters, rows_of, row_of}
use Rattle.cc_steps.specs.State.{Active, State, locals_with}
use Rattle.cc_steps.specs.Turn.{turn, entering, level_of, running_level, may_enter, only_handler}
use Rattle.cc_steps.specs.declared.event.Event.TheVariants.{Enter}
use Rattle.cc_steps.proofs.TurnLemmas.{turned-some}

-- ---- one program

-- what stands below a handler from now on
abbrev pub entered_rest : Rest → Active → ℕ → Rest
entered_rest r a h = record { inputs = r.inputs; trace = r.trace ++ Enter h ∷ []; below = a ∷ r.below; opened = r.opened + 1 }

abbrev pub new : Program → ℕ → ℕ → Func → Active
new p number h f = standing (handler_frame number h) (locals_with p [] f.locals) (entry p number h f)

module _ (p : Program) (r : Rest) (flag : Bool) (statics : List (List Value)) (a : Active) (h : ℕ) where
  entering-at : (f : Func) → may_enter p (running r flag statics a) h ≡ true → only_handler (slice_get p.funcs h) ≡ Some f → entering p (running r flag statics a) (Some h) ≡ Some (h, f)
  entering-at f k l = rw (k, l) refl

  turn-enters : (f : Func) → may_enter p (running r flag statics a) h ≡ true → only_handler (slice_get p.funcs h) ≡ Some f →
      turn p (running r flag statics a) (Some h) ≡ running (entered_rest r a h) false statics (new p r.opened h f)
  turn-enters f k l = turned-some p (running r flag statics a) (Some h) (h, f) (sym (entering-at f k l))

  entered-by : (b : Bool) (x : Option Func) (e : ℕ × Func) → (if b then option_map (λ (f : Func). (h, f)) x else None) ≡ Some e → (b ≡ true) × (x ≡ Some e.1)
  entered-by false x e i = absurd (cc)
  entered-by true None e i = absurd (cc)
  entered-by true (Some f) e i = (refl, ap (λ (o : Option (ℕ × Func)). option_map (λ (x : ℕ × Func). x.1) o) i)

  -- what enters may, and is a handler
  entered-handler : (e : ℕ × Func) → entering p (running r flag statics a) (Some h) ≡ Some e → (may_enter p (running r flag statics a) h ≡ true) × (only_handler (slice_get p.funcs h) ≡ Some e.1)
  entered-handler e i = entered-by (may_enter p (running r flag statics a) h) (only_handler (slice_get p.funcs h)) e i

-- ---- both

module _ {Q P : Program} (c : Comparison Q P) where
  alike-in-p : (h : ℕ) (x y : Option Func) → AreHandlers c h x y → (fq : Func) → x ≡ Some fq → (fp : Func) × (y ≡ Some fp) × BeginAlike c h fq fp
  alike-in-p h None y k fq e = absurd (cc)
  alike-in-p h (Some f) None k fq e = absurd k
  alike-in-p h (Some f) (Some g) k fq e = (g, refl, subst (λ (z : Func). BeginAlike c h z g) (same_Some f fq e) k)

  alike-in-q : (h : ℕ) (x y : Option Func) → AreHandlers c h x y → (fp : Func) → y ≡ Some fp → (fq : Func) × (x ≡ Some fq) × BeginAlike c h fq fp
  alike-in-q h x None k fp e = absurd (cc)
  alike-in-q h None (Some g) k fp e = absurd k
  alike-in-q h (Some f) (Some g) k fp e = (f, refl, subst (λ (z : Func). BeginAlike c h f z) (same_Some g fp e) k)

module _ {Q P : Program} (c : Comparison Q P) (May : Type 0) (entries : EnterAlike c) where
  -- the running levels are the same
  level-by : (qs : List (List Value)) (q p : Active) (x y : ℕ) → Pair c May qs q p → x ≡ y → (if q.handler then max (level_of Q q.func) x else x) ≡ (if p.handler then max (level_of P p.func) y else y)
  level-by qs q p x y h e =
      ap (λ (a : Active). if a.handler then max (level_of Q a.func) x else x) h.q_is
      ∙ ap (λ (n : ℕ). if h.frame.handler then max n x else x) (entries.levels h.frame.func)
      ∙ ap (λ (n : ℕ). if h.frame.handler then max (level_of P h.frame.func) n else n) e
      ∙ sym (ap (λ (a : Active). if a.handler then max (level_of P a.func) y else y) h.p_is)

  levels-same : (qs : List (List Value)) (waits : Bool) (below others : List Active) → Stacks c May qs waits below others → running_level Q below ≡ running_level P others
  levels-same qs waits [] [] h = refl
  levels-same qs waits (q ∷ below) (p ∷ others) h = level-by qs q p (running_level Q below) (running_level P others) h.0 (levels-same qs (not p.handler) below others h.2)
  levels-same qs waits [] (p ∷ others) h = absurd h
  levels-same qs waits (q ∷ below) [] h = absurd h

  module _ (rq rp : Rest) (flag : Bool) (qs ps : List (List Value)) (q p : Active) (shared : Shared c May p.handler rq rp qs ps) (top : Pair c May qs q p) where
    abbrev s : State
    s = running rq flag qs q

    abbrev t : State
    t = running rp flag ps p

    may-same : (h : ℕ) → may_enter Q s h ≡ may_enter P t h
    may-same h =
        ap₂ (λ (m n : ℕ). flag && (nat_eq m 0 || nat_lt n m)) (entries.levels h) (levels-same qs false (q ∷ rq.below) (p ∷ rp.below) (top, tt, shared.below))

    rows-same : (h : ℕ) → rows_of Q (rq.trace ++ Enter h ∷ []) ≡ rows_of P (rp.trace ++ Enter h ∷ [])
    rows-same h =
        map-append (row_of Q) rq.trace (Enter h ∷ []) ∙ ap₂ (λ (xs ys : List Row). xs ++ ys) shared.rows (ap (λ (n : Name). Enters n ∷ []) (entries.names h)) ∙ sym (map-append (row_of P) rp.trace (Enter h ∷ []))

    shared-entered : (h : ℕ) → Shared c May true (entered_rest rq q h) (entered_rest rp p h) qs ps
    shared-entered h = record { inputs = shared.inputs; rows = rows-same h; opened = ap (λ (n : ℕ). n + 1) shared.opened; statics = shared.statics; below = (top, tt, shared.below) }

    -- both handlers begin
    both-entered : (h : ℕ) (fq fp : Func) → BeginAlike c h fq fp → Related c May (running (entered_rest rq q h) false qs (new Q rq.opened h fq)) (running (entered_rest rp p h) false ps (new P rp.opened h fp))
    both-entered h fq fp alike =
        subst (λ (n : ℕ). Related c May (running (entered_rest rq q h) false qs (new Q rq.opened h fq)) (running (entered_rest rp p h) false ps (new P n h fp))) shared.opened
        (Meeting (met c May (entered_rest rq q h) (entered_rest rp p h) false qs ps _ _ (shared-entered h)
        (paired c May qs (handler_frame rq.opened h) (locals_with Q [] fq.locals) (locals_with P [] fp.locals) (entry Q rq.opened h fq) (entry P rq.opened h fp) alike.0 (Level (alike.1 rq.opened)))))

    both-turns : (h : ℕ) (fq fp : Func) → only_handler (slice_get Q.funcs h) ≡ Some fq → only_handler (slice_get P.funcs h) ≡ Some fp → BeginAlike c h fq fp → may_enter P t h ≡ true → Related c May (turn Q s (Some h)) (turn P t (Some h))
    both-turns h fq fp in_q in_p alike may =
        subst (λ (u : State). Related c May u (turn P t (Some h))) (sym (turn-enters Q rq flag qs q h fq (may-same h ∙ may) in_q))
        (subst (λ (u : State). Related c May (running (entered_rest rq q h) false qs (new Q rq.opened h fq)) u) (sym (turn-enters P rp flag ps p h fp may in_p)) (both-entered h fq fp alike))

    -- an entry in Q is one in P, of the same handler
    pub enters-in-p : (h : ℕ) (e : ℕ × Func) → entering Q s (Some h) ≡ Some e → Related c May (turn Q s (Some h)) (turn P t (Some h))
    enters-in-p h e i =
        let x = entered-handler Q rq flag qs q h e i in
        let y = alike-in-p c h (only_handler (slice_get Q.funcs h)) (only_handler (slice_get P.funcs h)) (entries.handlers h) e.1 x.1 in
        both-turns h e.1 y.0 x.1 y.1 y.2 (sym (may-same h) ∙ x.0)

    -- and one in P is one in Q
    pub enters-in-q : (h : ℕ) (e : ℕ × Func) → entering P t (Some h) ≡ Some e → Related c May (turn Q s (Some h)) (turn P t (Some h))
    enters-in-q h e i =
        let x = entered-handler P rp flag ps p h e i in
        let y = alike-in-q c h (only_handler (slice_get Q.funcs h)) (only_handler (slice_get P.funcs h)) (entries.handlers h) e.1 x.1 in
        both-turns h y.0 e.1 y.1 x.1 y.2 x.0
