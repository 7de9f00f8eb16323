-- An exact set is moved by its members.
use Rattle.std.proofs.Common.{List, subst}
use Rattle.std.proofs.lemmas.Result.{IfOk-weaker}
use Rattle.cc_program.specs.declared.value.Address.{Address}
use Rattle.cc_places.specs.Sets.{IsSetOf}
use Rattle.cc_places.specs.Moves.{AreMoved}
use Rattle.cc_places.proofs.Moving.{by_members}
use Rattle.cc_places.proofs.addrs.Addrs.moved.Goals as goal

pub returns-then-self : goal.returns-then-self
returns-then-self g c =
    let by = g.I.Concrete.Has c.args.by.now in
    IfOk-weaker c.moved_members.result (IsSetOf (AreMoved by c.all.result.now)) _
    (λ r h. by_members by c.args.self.now r c.if-self.true (subst (λ (l : List Address). IsSetOf (AreMoved by l) r) c.all.ensures h)) c.moved_members.ensures
