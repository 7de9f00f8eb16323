use Rattle.std.proofs.Common.{◌≡◌, true, List, Some, is_some, slice_get, sym, subst}
use Rattle.cc_state_points.specs.CcFlow.declared.types.Point.{Point}
use Rattle.cc_rules_here.proofs.HereLemmas.{function_there}
use Rattle.cc_rules_here.proofs.Owned.{point_there}
use Rattle.cc_state_points.specs.CcStateOperators.Domains.{domain}
use Rattle.cc_rules_here.proofs.here.here_at.Goals as goal

pub point_at-point-requires : goal.point_at-point-requires
point_at-point-requires g c =
    subst (λ (points : List Point). is_some (slice_get points c.args.number) ≡ true) (sym c.requires.points)
    (point_there (domain g.I.Concrete.Has g.I.Lattice.IsBelow g.I.IntDomain.OpGives g.I.IntDomain.OpOneGives g.I.IntDomain.ToGives g.I.IntDomain.KeepGives g.I.IntDomain.members_of) c.args.program.now c.args.facts.now c.args.number c.in-Some.fact.now c.requires.shape (sym c.in-Some.ensures))

pub function_at-function-requires : goal.function_at-function-requires
function_at-function-requires g c =
    function_there c.args.program.now c.args.number c.point_at-point.result.now c.args.functions.now
    (subst (λ (points : List Point). slice_get points c.args.number ≡ Some c.point_at-point.result.now) c.requires.points c.point_at-point.ensures) c.requires.functions

pub here_by-requires : goal.here_by-requires
here_by-requires g c =
    record {
      normal = c.requires.normal;
      shape = c.requires.shape;
      there = subst (λ (points : List Point). slice_get points c.args.number ≡ Some c.point_at-point.result.now) c.requires.points c.point_at-point.ensures;
      function = c.requires.functions.each c.point_at-point.result.now.func c.function_at-function.result.now c.function_at-function.ensures;
      tracked = c.requires.tracked;
      reached = sym c.in-Some.ensures;
    }

pub returns-in-None : goal.returns-in-None
returns-in-None g c = sym c.in-None.ensures

pub returns-in-Some : goal.returns-in-Some
returns-in-Some g c = c.here_by.ensures
