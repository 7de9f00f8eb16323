-- The elements to which the first one is moved, where an array is named.
use Rattle.std.proofs.Common.{sym, ◌∙◌}
use Rattle.std.proofs.lemmas.Result.{IfOk-weaker}
use Rattle.cc_eval.specs.CcTyped.View.{place_view}
use Rattle.cc_state_operators.proofs.Sets.{elements_moved, no_array, no_object}
use Rattle.cc_state_operators.proofs.places.with_elements.Goals as goal

pub returns-in-None : goal.returns-in-None
returns-in-None g c = no_array c.args.p.now (place_view c.args.t) (g.I.Concrete.Has c.args.subscripts.now) c.args.a.now c.args.set (sym c.bound_of.ensures ∙ c.in-None.is)

pub returns-in-None-2 : goal.returns-in-None-2
returns-in-None-2 g c = no_object c.args.p.now (place_view c.args.t) (g.I.Concrete.Has c.args.subscripts.now) c.args.a.now c.args.set (sym c.in_ok-named_by-in-Some.ensures ∙ c.in-None-2.is)

pub returns-in-Some-2 : goal.returns-in-Some-2
returns-in-Some-2 g c =
    IfOk-weaker c.with_moved.result _ _
    (λ r h. elements_moved c.args.p.now (place_view c.args.t) (g.I.Concrete.Has c.args.subscripts.now) c.args.a.now c.args.set r c.in-Some-2.object c.in-Some-2.path c.in-Some.count
    (sym c.in_ok-named_by-in-Some.ensures ∙ c.in-Some-2.is) (sym c.bound_of.ensures ∙ c.in-Some.is) h)
    c.with_moved.ensures
