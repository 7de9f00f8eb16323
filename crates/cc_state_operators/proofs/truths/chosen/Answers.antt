-- The arms that the condition allows.
use Rattle.std.proofs.Common.{sym, subst}
use Rattle.std.proofs.lemmas.Result.{IfOk-weaker}
use Rattle.cc_state_operators.specs.Domains.{domain}
use Rattle.cc_state_operators.specs.Types.{AreOf}
use Rattle.cc_state_operators.proofs.Choices.{refused, both_arms, first_arm, second_arm, no_arm, union_typed}
use Rattle.cc_state_operators.proofs.truths.chosen.Goals as goal

pub returns-then-may_be-2-clause-union : goal.returns-then-may_be-2-clause-union
returns-then-may_be-2-clause-union g c =
    let d = domain g.I.Concrete.Has g.I.Lattice.IsBelow g.I.IntDomain.OpGives g.I.IntDomain.OpOneGives g.I.IntDomain.ToGives g.I.IntDomain.KeepGives g.I.IntDomain.members_of in
    let z = c.args.condition.now in
    let x = c.args.x.now in
    let w = c.args.w.now in
    IfOk-weaker c.join.result _ _
    (λ y l. both_arms d (λ a. g.met.I.Lattice.below_itself a (g.met.I.IntDomain.all_alike a a)) z x w c.requires y (c.may_be.ensures.0 c.if-may_be.true) (c.may_be-then-may_be.ensures.0 c.if-may_be-2.true) l)
    c.join.ensures

pub returns-then-may_be-2-clause-typed : goal.returns-then-may_be-2-clause-typed
returns-then-may_be-2-clause-typed g c =
    let d = domain g.I.Concrete.Has g.I.Lattice.IsBelow g.I.IntDomain.OpGives g.I.IntDomain.OpOneGives g.I.IntDomain.ToGives g.I.IntDomain.KeepGives g.I.IntDomain.members_of in
    IfOk-weaker c.join.result _ _
    (λ y l. union_typed d g.I.Lattice.AreAlike g.met.I.IntDomain.all_alike g.met.I.IntDomain.join_typed c.args.x.now c.args.w.now y l)
    c.join.ensures

pub returns-else-may_be-2-clause-union : goal.returns-else-may_be-2-clause-union
returns-else-may_be-2-clause-union g c =
    let d = domain g.I.Concrete.Has g.I.Lattice.IsBelow g.I.IntDomain.OpGives g.I.IntDomain.OpOneGives g.I.IntDomain.ToGives g.I.IntDomain.KeepGives g.I.IntDomain.members_of in
    let z = c.args.condition.now in
    let x = c.args.x.now in
    let w = c.args.w.now in
    IfOk-weaker c.copied.result _ _
    (λ y e. first_arm d (λ a. g.met.I.Lattice.below_itself a (g.met.I.IntDomain.all_alike a a)) z x w c.requires y (c.may_be.ensures.0 c.if-may_be.true) (λ m. refused c.may_be-then-may_be.result c.if-may_be-2.false (c.may_be-then-may_be.ensures.1 m)) e)
    c.copied.ensures

pub returns-else-may_be-2-clause-typed : goal.returns-else-may_be-2-clause-typed
returns-else-may_be-2-clause-typed g c =
    let d = domain g.I.Concrete.Has g.I.Lattice.IsBelow g.I.IntDomain.OpGives g.I.IntDomain.OpOneGives g.I.IntDomain.ToGives g.I.IntDomain.KeepGives g.I.IntDomain.members_of in
    IfOk-weaker c.copied.result _ _ (λ y e t c' h k. subst (λ v. AreOf d c' t v) (sym e) h) c.copied.ensures

pub returns-then-may_be-3-clause-union : goal.returns-then-may_be-3-clause-union
returns-then-may_be-3-clause-union g c =
    let d = domain g.I.Concrete.Has g.I.Lattice.IsBelow g.I.IntDomain.OpGives g.I.IntDomain.OpOneGives g.I.IntDomain.ToGives g.I.IntDomain.KeepGives g.I.IntDomain.members_of in
    let z = c.args.condition.now in
    let x = c.args.x.now in
    let w = c.args.w.now in
    IfOk-weaker c.copied-then-may_be-3.result _ _
    (λ y e. second_arm d (λ a. g.met.I.Lattice.below_itself a (g.met.I.IntDomain.all_alike a a)) z x w c.requires y (λ m. refused c.may_be.result c.if-may_be.false (c.may_be.ensures.1 m)) (c.may_be-else-may_be.ensures.0 c.if-may_be-3.true) e)
    c.copied-then-may_be-3.ensures

pub returns-then-may_be-3-clause-typed : goal.returns-then-may_be-3-clause-typed
returns-then-may_be-3-clause-typed g c =
    let d = domain g.I.Concrete.Has g.I.Lattice.IsBelow g.I.IntDomain.OpGives g.I.IntDomain.OpOneGives g.I.IntDomain.ToGives g.I.IntDomain.KeepGives g.I.IntDomain.members_of in
    IfOk-weaker c.copied-then-may_be-3.result _ _ (λ y e t c' h k. subst (λ v. AreOf d c' t v) (sym e) k) c.copied-then-may_be-3.ensures

pub returns-else-may_be-3-clause-union : goal.returns-else-may_be-3-clause-union
returns-else-may_be-3-clause-union g c =
    let d = domain g.I.Concrete.Has g.I.Lattice.IsBelow g.I.IntDomain.OpGives g.I.IntDomain.OpOneGives g.I.IntDomain.ToGives g.I.IntDomain.KeepGives g.I.IntDomain.members_of in
    let z = c.args.condition.now in
    let x = c.args.x.now in
    let w = c.args.w.now in
    no_arm d (λ a. g.met.I.Lattice.below_itself a (g.met.I.IntDomain.all_alike a a)) z x w c.requires c.none_like.result (λ m. refused c.may_be.result c.if-may_be.false (c.may_be.ensures.1 m))
    (λ m. refused c.may_be-else-may_be.result c.if-may_be-3.false (c.may_be-else-may_be.ensures.1 m)) c.none_like.ensures.union

pub returns-else-may_be-3-clause-typed : goal.returns-else-may_be-3-clause-typed
returns-else-may_be-3-clause-typed g c = λ t c' h k. c.none_like.ensures.typed t c' h
