-- What is the join of values of one kind, where one is below the other.
use Rattle.std.proofs.Common.{List, [], ◌∷◌}
use Rattle.std.specs.List.{AllZip}
use Rattle.cc_lattice.specs.Orders.{IsLeastUpperBound}
use Rattle.cc_lattice.specs.Tables.{AreJoins}
use Rattle.cc_places.specs.declared.abs.Abs.{Abs}
use Rattle.cc_places.specs.Abstract.{AreOfOneKind, IsBelowAbs}
use Rattle.cc_places.specs.laws.AbstractLaws.{kind_back}
use Rattle.cc_state_facts.specs.Orders.{AreRowsAlike, AreRowsBelow, IsRowJoin}
use Rattle.cc_state_facts.specs.laws.OrderLaws.{kind_itself}
use Rattle.cc_state_facts.specs.declared.facts.Row.{Row}

-- where the one is below the other, the other is their join

module _ {A : Type 0} (alike below : A → A → Type 0) (itself : (x y : A) → alike x y → alike x x) (back : (x y : A) → alike x y → alike y x) (below_itself : (x : A) → alike x x → below x x) where
  pub join_left : (x y : A) → alike x y → below y x → IsLeastUpperBound alike below x y x
  join_left x y k h = record { left_alike = itself x y k; right_alike = back x y k; left = below_itself x (itself x y k); right = h; least = λ u a b c d. c }

  pub join_right : (x y : A) → alike x y → below x y → IsLeastUpperBound alike below x y y
  join_right x y k h = record { left_alike = k; right_alike = itself y x (back x y k); left = h; right = below_itself y (itself y x (back x y k)); least = λ u a b c d. d }

  pub joins_left : (xs ys : List A) → AllZip alike xs ys → AllZip below ys xs → AreJoins (IsLeastUpperBound alike below) xs ys xs
  joins_left [] [] k h = tt
  joins_left [] (y ∷ ys) k h = absurd k
  joins_left (x ∷ xs) [] k h = absurd k
  joins_left (x ∷ xs) (y ∷ ys) k h = (join_left x y k.0 h.0, joins_left xs ys k.1 h.1)

  pub joins_right : (xs ys : List A) → AllZip alike xs ys → AllZip below xs ys → AreJoins (IsLeastUpperBound alike below) xs ys ys
  joins_right [] [] k h = tt
  joins_right [] (y ∷ ys) k h = absurd k
  joins_right (x ∷ xs) [] k h = absurd k
  joins_right (x ∷ xs) (y ∷ ys) k h = (join_right x y k.0 h.0, joins_right xs ys k.1 h.1)

module _ {I : Type 0} (below : I → I → Type 0) (self : (x : Abs I) → IsBelowAbs below x x) where
  pub row_left : (x y : Row I) → AreRowsAlike x y → AreRowsBelow below y x → IsRowJoin below x y x
  row_left x y k h = joins_left AreOfOneKind (IsBelowAbs below) (λ a b m. kind_itself a) kind_back (λ a m. self a) x.cells y.cells k h

  pub row_right : (x y : Row I) → AreRowsAlike x y → AreRowsBelow below x y → IsRowJoin below x y y
  row_right x y k h = joins_right AreOfOneKind (IsBelowAbs below) (λ a b m. kind_itself a) kind_back (λ a m. self a) x.cells y.cells k h
