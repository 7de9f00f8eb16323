-- The exit of a function is a point of it.
use Rattle.std.proofs.Common.{arith, ◌≡◌, ◌+◌, ℕ, Some, slice_get, ap, ◌∙◌}
use Rattle.std.proofs.lemmas.List.Elements.{All-contains}
use Rattle.cc_rules.proofs.CcFlow.Inside.{body_inside}
use Rattle.cc_rules.proofs.CcFlow.Paths.{body_counted}
use Rattle.cc_rules.specs.CcFlow.declared.types.Point.{Point}
use Rattle.cc_rules.specs.CcFlow.Laws.{IsIn}
use Rattle.cc_rules.specs.CcFlow.Points.{total_of, body_count, body_points, flow_of}
use Rattle.cc_rules.proofs.CcFlowSound.Numbered.{point_of}
use Rattle.cc_rules.specs.CcFlowSound.Moves.{entry}
use Rattle.cc_program.specs.declared.func.Func.{Func}
use Rattle.cc_program.specs.declared.program.Program.{Program}
use Rattle.cc_rules.specs.CcRulesFlows.Nexts.{exit_of}
use Rattle.cc_rules_grow.proofs.Elements.{some_within}
use Rattle.cc_state_points.proofs.CcState.Lists.{contains_at}

pub exit_there : (p : Program) (id : ℕ) (f : Func) → slice_get p.funcs id ≡ Some f → (q : Point) × (slice_get (flow_of p).points (exit_of p id f) ≡ Some q) × (slice_get p.funcs q.func ≡ Some f)
exit_there p id f function =
    let first = entry p id in
    let counted = body_counted id first f.body in
    let w = some_within (body_points id first f.body) (total_of f.body) (omega (arith, counted)) in
    let inside = All-contains (IsIn id first (first + body_count f.body)) (body_points id first f.body) w.0 (body_inside id first f.body) (contains_at (body_points id first f.body) (total_of f.body) w.0 w.1) in
    (w.0, point_of p id f function (total_of f.body) (omega arith) ∙ w.1, ap (slice_get p.funcs) inside.own ∙ function)
