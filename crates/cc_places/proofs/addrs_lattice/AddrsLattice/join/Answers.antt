-- The set of the addresses of both is the least that both lie in; a set that has the other is that set.
use Rattle.std.proofs.Common.{◌≡◌, sym, subst}
use Rattle.std.proofs.lemmas.Result.{IfOk-weaker}
use Rattle.cc_lattice.specs.Orders.{IsLeastUpperBound}
use Rattle.cc_places.specs.declared.addrs.Addrs.{Addrs}
use Rattle.cc_places.specs.Sets.{IsSetOf, IsWithin, EitherHas}
use Rattle.cc_places.specs.laws.SetLaws.{set_joins, set_joins_back}
use Rattle.cc_places.proofs.addrs_lattice.AddrsLattice.join.Goals as goal

left_joins : (x y j : Addrs) → IsWithin y x → j ≡ x → IsLeastUpperBound (λ _ _. Unit {0}) IsWithin x y j
left_joins x y j h e = subst (λ (u : Addrs). IsLeastUpperBound (λ _ _. Unit {0}) IsWithin x y u) (sym e)
    (record { left_alike = tt; right_alike = tt; left = λ a k. k; right = h; least = λ u _ _ f g. f })

right_joins : (x y j : Addrs) → IsWithin x y → j ≡ y → IsLeastUpperBound (λ _ _. Unit {0}) IsWithin x y j
right_joins x y j h e = subst (λ (u : Addrs). IsLeastUpperBound (λ _ _. Unit {0}) IsWithin x y u) (sym e)
    (record { left_alike = tt; right_alike = tt; left = h; right = λ a k. k; least = λ u _ _ f g. g })

pub returns-then-below : goal.returns-then-below
returns-then-below c =
    IfOk-weaker c.copy.result (λ r. r ≡ c.args.self.now) _ (λ j e. left_joins c.args.self.now c.args.other.now j (c.below.ensures.0 c.if-below.true) e) c.copy.ensures

pub returns-then-below-2 : goal.returns-then-below-2
returns-then-below-2 c =
    IfOk-weaker c.copy-then-below-2.result (λ r. r ≡ c.args.other.now) _ (λ j e. right_joins c.args.self.now c.args.other.now j (c.below-else-below.ensures.0 c.if-below-2.true) e) c.copy-then-below-2.ensures

pub returns-then-self : goal.returns-then-self
returns-then-self c =
    IfOk-weaker c.union.result (IsSetOf (EitherHas c.args.other.now c.args.self.now)) _ (λ j h. set_joins_back c.args.self.now c.args.other.now j h) c.union.ensures

pub returns-else-self : goal.returns-else-self
returns-else-self c =
    IfOk-weaker c.union-else-self.result (IsSetOf (EitherHas c.args.self.now c.args.other.now)) _ (λ j h. set_joins c.args.self.now c.args.other.now j h) c.union-else-self.ensures
