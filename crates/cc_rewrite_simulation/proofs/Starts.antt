-- Where runs begin: main stands in front of the same statements in both.
use Rattle.std.proofs.Common.{◌≡◌, ℕ, ℤ, Bool, false, List, [], ◌∷◌, map, Option, Some, slice_get, refl, ap, sym, ◌∙◌, subst}
use Rattle.cc_program.specs.declared.func.Func.{Func}
use Rattle.cc_program.specs.declared.program.Program.{Program}
use Rattle.cc_program.specs.declared.value.Value.{Value}
use Rattle.cc_rewrite_homes.specs.Homes.{Statics}
use Rattle.cc_rewrite_residues.specs.Standing.{standing, entry, Rest, running}
use Rattle.cc_rewrite_simulation.specs.Comparison.{Comparison}
use Rattle.cc_rewrite_simulation.specs.Relation.{Level, Related, Meeting}
use Rattle.cc_rewrite_simulation.specs.Simulated.{call_frame, BeginCalled}
use Rattle.cc_rewrite_simulation.proofs.Follows.{paired, met}
use Rattle.cc_steps.specs.State.{State, first_values, locals_with}
use Rattle.cc_steps.specs.Turn.{start}

abbrev first_rest : List ℤ → Rest
first_rest inputs = record { inputs = inputs; trace = []; below = []; opened = 1 }

-- the first state, where main is there
start-is : (p : Program) (id : ℕ) (f : Func) (inputs : List ℤ) → p.main ≡ id → slice_get p.funcs id ≡ Some f →
    start p inputs ≡ running (first_rest inputs) false (map (first_values p) p.objects) (standing (call_frame 0 id) (locals_with p [] f.locals) (entry p 0 id f))
start-is p id f inputs e h = rw (e, h) refl

pub starts : {Q P : Program} (c : Comparison Q P) (May : Type 0) → Q.main ≡ P.main → BeginCalled c P.main [] → Statics c.home c.decode (map (first_values Q) Q.objects) (map (first_values P) P.objects) →
    (inputs : List ℤ) → Related c May (start Q inputs) (start P inputs)
starts {Q = Q} {P = P} c May main h statics inputs =
    let q = standing (call_frame 0 P.main) (locals_with Q [] h.fq.locals) (entry Q 0 P.main h.fq) in
    let p = standing (call_frame 0 P.main) (locals_with P [] h.fp.locals) (entry P 0 P.main h.fp) in
    subst (λ (s : State). Related c May s (start P inputs)) (sym (start-is Q P.main h.fq inputs main h.in_q))
    (subst (λ (t : State). Related c May (running (first_rest inputs) false (map (first_values Q) Q.objects) q) t) (sym (start-is P P.main h.fp inputs refl h.in_p))
    (Meeting (met c May (first_rest inputs) (first_rest inputs) false (map (first_values Q) Q.objects) (map (first_values P) P.objects) q p
    (record { inputs = refl; rows = refl; opened = refl; statics = statics; below = tt })
    (paired c May (map (first_values Q) Q.objects) (call_frame 0 P.main) (locals_with Q [] h.fq.locals) (locals_with P [] h.fp.locals) (entry Q 0 P.main h.fq) (entry P 0 P.main h.fp) h.locals (Level (h.joined 0))))))
