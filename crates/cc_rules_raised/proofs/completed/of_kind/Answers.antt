use Rattle.std.proofs.Common.{true, false, sym, subst}
use Rattle.std.proofs.lemmas.Result.{IfOk-weaker}
use Rattle.cc_rules_raised.proofs.completed.of_kind.Goals as goal
use Rattle.cc_state_shape.specs.Empty.{IsNone}

pub returns-then-is_address : goal.returns-then-is_address
returns-then-is_address g c =
    IfOk-weaker c.share.result _ _ (λ set e. subst (λ b. IsNone g.I.Concrete.Has b set) (sym c.if-is_address.true) (subst (IsNone g.I.Concrete.Has true) (sym e) c.requires.addresses)) c.share.ensures

pub returns-else-is_address : goal.returns-else-is_address
returns-else-is_address g c =
    IfOk-weaker c.share-else-is_address.result _ _ (λ set e. subst (λ b. IsNone g.I.Concrete.Has b set) (sym c.if-is_address.false) (subst (IsNone g.I.Concrete.Has false) (sym e) c.requires.integers)) c.share-else-is_address.ensures
