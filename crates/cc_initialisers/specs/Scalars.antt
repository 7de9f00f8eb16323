-- The places of the scalars of an object, in the order in which they are given their first values.
use Rattle.std.specs.Prelude.{ℕ, zero, suc, pos, true, false, List, [], ◌∷◌, ◌++◌}
use Rattle.cc_initialisers.specs.Contents.{Contents, Scalar, Elements, NoMember, Members}
use Rattle.cc_operands.specs.CcLex.declared.token.Suffix.{Suffix}
use Rattle.cc_program.specs.CcNum.declared.target.Target.{Target}
use Rattle.cc_operands.specs.Operands.{number_type}
use Rattle.cc_program.specs.declared.expr.Expr.{Expr, Const}
use Rattle.cc_program.specs.declared.expr.Place.{Place, Element, Member}

abbrev pub decimal : Suffix
decimal = record { decimal = true; unsigned = false; longs = 0 }

module _ (target : Target) where
  -- the number of an element, as it would be written
  abbrev pub index_at : ℕ → Expr
  index_at i = Const (pos i) (number_type target i decimal)

  abbrev pub elements_from : ℕ → ℕ → (Place → List Place) → Place → List Place
  elements_from i zero scalars a = []
  elements_from i (suc n) scalars a = scalars (Element a (index_at i)) ++ elements_from (suc i) n scalars a

  -- of a structure, from a member on
  abbrev pub scalars_from : Contents → ℕ → Place → List Place
  scalars_from (Scalar constant t) = λ m a. a ∷ []
  scalars_from (Elements n of) = λ m a. elements_from 0 n (scalars_from of 0) a
  scalars_from NoMember = λ m a. []
  scalars_from (Members first rest) = λ m a. scalars_from first 0 (Member a m) ++ scalars_from rest (suc m) a
