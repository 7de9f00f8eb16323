-- Null and functions add nothing, and an object its elements.
use Rattle.std.proofs.lemmas.Result.{IfOk-weaker}
use Rattle.cc_places.proofs.Moving.{null_adds, func_adds, element_adds}
use Rattle.cc_places.proofs.moved.with_moved.Goals as goal

pub returns-in-Null : goal.returns-in-Null
returns-in-Null g c = null_adds (g.I.Concrete.Has c.args.by.now) c.args.set c.args.a.now c.in-Null.is

pub returns-in-Func : goal.returns-in-Func
returns-in-Func g c = func_adds (g.I.Concrete.Has c.args.by.now) c.args.set c.args.a.now _ c.in-Func.is

pub returns-in-At : goal.returns-in-At
returns-in-At g c =
    IfOk-weaker c.with_elements.result _ _ (λ r h. element_adds (g.I.Concrete.Has c.args.by.now) c.args.set r c.args.a.now _ c.in-At.is h) c.with_elements.ensures
