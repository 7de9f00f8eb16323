use Rattle.std.proofs.Common.{◌⊎◌}
use Rattle.cc_places.specs.Sets.{HasAddress, IsSetOf}
use Rattle.cc_places.specs.laws.MoveLaws.{Reached}
use Rattle.cc_places.proofs.moved.with_elements.Given as goal

abbrev pub invariant-loop-next : goal.invariant-loop-next
invariant-loop-next g l = IsSetOf (λ b. HasAddress l.fn.set b ⊎ Reached (g.I.Concrete.Has l.by) l.object l.path l.index l.count l.next b) l.all
