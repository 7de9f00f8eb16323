-- Calls and returns: the caller waits in front of the same statements in both; what was interrupted goes on as it stood.
use Rattle.std.proofs.Common.{◌≡◌, ◌+◌, ℕ, Bool, true, false, not, List, [], ◌∷◌, Option, Some, slice_get, refl, ap, sym, subst, if◌then◌else◌}
use Rattle.cc_steps.specs.CcEval.declared.action.Action.TheVariants.{Call}
use Rattle.cc_steps.specs.CcEval.declared.mark.Mark.{Mark}
use Rattle.cc_steps.specs.CcEval.declared.mark.Mark.TheVariants.{Gave, Did}
use Rattle.cc_program.specs.declared.func.Func.{Func}
use Rattle.cc_program.specs.declared.program.Program.{Program}
use Rattle.cc_program.specs.declared.value.Address.{Address}
use Rattle.cc_program.specs.declared.value.Address.TheVariants as address
use Rattle.cc_program.specs.declared.value.Value.{Value}
use Rattle.cc_rewrite_residues.specs.Residues.{Agree}
use Rattle.cc_rewrite_residues.specs.Standing.{Frame, Locals, Spot, standing, entry, Rest, running}
use Rattle.cc_rewrite_actions.specs.Actions.{MarkBoth, IsResumed}
use Rattle.cc_rewrite_simulation.specs.Comparison.{Comparison}
use Rattle.cc_rewrite_actions.specs.Kept.{MarkIs, Kept}
use Rattle.cc_rewrite_simulation.specs.Relation.{Shared, Stands, Level, Reading, Writing, Trapping, IsLevel, Pair, Stacks, Related, Meeting, Over}
use Rattle.cc_rewrite_simulation.specs.Simulated.{call_frame, BeginCalled}
use Rattle.cc_rewrite_simulation.proofs.Follows.{paired, met}
use Rattle.cc_steps.specs.State.{Active, State, locals_with}
use Rattle.cc_steps.specs.Step.{marked, perform, opened_if, returned, return_mark, gives_nothing, number_in}
use Rattle.cc_steps.specs.declared.event.End.TheVariants.{Exit}

module _ {Q P : Program} (c : Comparison Q P) (May : Type 0) (rq rp : Rest) (flag : Bool) (qs ps : List (List Value)) (frame : Frame) (ql pl : Locals) (sq sp : Spot)
    (shared : Shared c May frame.handler rq rp qs ps) (agree : Agree (c.base frame.func) ql pl) (joined : c.Joined frame sq sp)
  where
    abbrev R : State → State → Type 0
    R = Related c May

    abbrev s : State
    s = running rq flag qs (standing frame ql sq)

    abbrev t : State
    t = running rp flag ps (standing frame pl sp)

    abbrev called_rest : Rest → Active → Rest
    called_rest rr a = record { inputs = rr.inputs; trace = rr.trace; below = a ∷ rr.below; opened = rr.opened + 1 }

    -- the caller, from now on
    abbrev caller : Pair c May qs (standing frame ql sq) (standing frame pl sp)
    caller = record { frame = frame; ql = ql; pl = pl; sq = sq; sp = sp; q_is = refl; p_is = refl; agree = agree; stands = Level joined }

    abbrev new : Program → ℕ → ℕ → List Value → Func → Active
    new p number f args func = standing (call_frame number f) (locals_with p args func.locals) (entry p number f func)

    pub performs-call : (f : ℕ) (args : List Value) → BeginCalled c f args → R (perform Q s (Call (address.Func f) args)) (perform P t (Call (address.Func f) args))
    performs-call f args h =
        subst (λ (x : Option Func). R (opened_if Q s f args x) (opened_if P t f args (slice_get P.funcs f))) (sym h.in_q)
        (subst (λ (x : Option Func). R (running (called_rest rq (standing frame ql sq)) flag qs (new Q rq.opened f args h.fq)) (opened_if P t f args x)) (sym h.in_p)
        (subst (λ (n : ℕ). R (running (called_rest rq (standing frame ql sq)) flag qs (new Q rq.opened f args h.fq)) (running (called_rest rp (standing frame pl sp)) flag ps (new P n f args h.fp))) shared.opened
        (Meeting (met c May (called_rest rq (standing frame ql sq)) (called_rest rp (standing frame pl sp)) flag qs ps _ _
        (record {
          inputs = shared.inputs;
          rows = shared.rows;
          opened = ap (λ (n : ℕ). n + 1) shared.opened;
          statics = shared.statics;
          below = (caller, tt, shared.below);
        })
        (paired c May qs (call_frame rq.opened f) _ _ _ _ h.locals (Level (h.joined rq.opened)))))))

    -- what is no function traps in both
    pub performs-wrong : (a : Address) (args : List Value) → ((f : ℕ) → a ≡ address.Func f → ⊥) → R (perform Q s (Call a args)) (perform P t (Call a args))
    performs-wrong address.Null args h = Over (record { rows = shared.rows; end = refl; over = refl })
    performs-wrong (address.Func f) args h = absurd (h f refl)
    performs-wrong (address.At o p i n) args h = Over (record { rows = shared.rows; end = refl; over = refl })

    -- ---- returns

    abbrev left_rest : Rest → List Active → Rest
    left_rest rr below = record { inputs = rr.inputs; trace = rr.trace; below = below; opened = rr.opened }

    left-shared : (handler : Bool) (below others : List Active) → Stacks c May qs (not handler) below others → Shared c May handler (left_rest rq below) (left_rest rp others) qs ps
    left-shared handler below others h = record { inputs = shared.inputs; rows = shared.rows; opened = shared.opened; statics = shared.statics; below = h }

    mark-by : (b d : Bool) (v : Value) → b ≡ d → (if b then Did else Gave (Some v)) ≡ (if d then Did else Gave (Some v))
    mark-by b d v e = ap (λ (x : Bool). if x then Did else Gave (Some v)) e

    kept-by : (Is : Value → Type 0) (b : Bool) (v : Value) → Is v → MarkIs Is (if b then Did else Gave (Some v))
    kept-by Is true v h = tt
    kept-by Is false v h = h

    module _ (k : Kept c) (nothing : (f : ℕ) → gives_nothing (slice_get Q.funcs f) ≡ gives_nothing (slice_get P.funcs f)) where
      resume-by : (below others : List Active) (g : Frame) (ul vl : Locals) (tq tp : Spot) → Agree (c.base g.func) ul vl → (h : Stands c May qs g ul vl tq tp) → IsLevel c May qs g ul vl tq tp h →
          (c.Joined g tq tp → MarkBoth c k.IsKeptValue g tq tp) → Stacks c May qs (not g.handler) below others → (m : Mark) → MarkIs k.IsKeptValue m →
          R (running (left_rest rq below) flag qs (marked Q (standing g ul tq) m)) (running (left_rest rp others) flag ps (marked P (standing g vl tp) m))
      resume-by below others g ul vl tq tp agree (Level j) l resumes h m kept =
          let x = resumes j ul vl m kept in
          subst (λ (a : Active). R (running (left_rest rq below) flag qs a) (running (left_rest rp others) flag ps (marked P (standing g vl tp) m))) (sym x.2)
          (subst (λ (a : Active). R (running (left_rest rq below) flag qs (standing g ul x.0)) (running (left_rest rp others) flag ps a)) (sym x.3)
          (Meeting (met c May (left_rest rq below) (left_rest rp others) flag qs ps _ _ (left-shared g.handler below others h) (paired c May qs g ul vl x.0 x.1 agree (Level x.4)))))
      resume-by below others g ul vl tq tp agree (Reading may j) l resumes h m kept = absurd l
      resume-by below others g ul vl tq tp agree (Writing may j) l resumes h m kept = absurd l
      resume-by below others g ul vl tq tp agree (Trapping may j) l resumes h m kept = absurd l

      returned-by : (handler : Bool) (v : Value) → k.IsKeptValue v → (qbelow pbelow : List Active) → (handler ≡ false → IsResumed c k.IsKeptValue pbelow) → Stacks c May qs (not handler) qbelow pbelow →
          R (returned Q s (standing (record { number = frame.number; func = frame.func; handler = handler }) ql sq) qbelow v) (returned P t (standing (record { number = frame.number; func = frame.func; handler = handler }) pl sp) pbelow v)
      returned-by handler v kept [] [] resumes h = Over (record { rows = shared.rows; end = refl; over = refl })
      returned-by true v kept (q ∷ below) (p ∷ others) resumes h = Meeting (met c May (left_rest rq below) (left_rest rp others) true qs ps q p (left-shared p.handler below others h.2) h.0)
      returned-by false v kept (q ∷ below) (p ∷ others) resumes h =
          subst (λ (m : Mark). R (running (left_rest rq below) flag qs (marked Q q m)) (running (left_rest rp others) flag ps (marked P p (return_mark P frame.func v)))) (sym (mark-by _ _ v (nothing frame.func)))
          (subst (λ (a : Active). R (running (left_rest rq below) flag qs (marked Q a (return_mark P frame.func v))) (running (left_rest rp others) flag ps (marked P p (return_mark P frame.func v)))) (sym h.0.q_is)
          (subst (λ (a : Active). R (running (left_rest rq below) flag qs (marked Q (standing h.0.frame h.0.ql h.0.sq) (return_mark P frame.func v))) (running (left_rest rp others) flag ps (marked P a (return_mark P frame.func v)))) (sym h.0.p_is)
          (resume-by below others h.0.frame h.0.ql h.0.pl h.0.sq h.0.sp h.0.agree h.0.stands h.1 (resumes refl h.0.frame h.0.pl h.0.sq h.0.sp h.0.p_is)
          (subst (λ (a : Active). Stacks c May qs (not a.handler) below others) h.0.p_is h.2) (return_mark P frame.func v) (kept-by k.IsKeptValue (gives_nothing (slice_get P.funcs frame.func)) v kept))))
      returned-by handler v kept [] (p ∷ others) resumes h = absurd h
      returned-by handler v kept (q ∷ below) [] resumes h = absurd h

      pub returns-both : (v : Value) → k.IsKeptValue v → (frame.handler ≡ false → IsResumed c k.IsKeptValue rp.below) →
          R (returned Q s (standing frame ql sq) rq.below v) (returned P t (standing frame pl sp) rp.below v)
      returns-both v kept resumes = returned-by frame.handler v kept rq.below rp.below resumes shared.below
