-- What operators make of the values that their operands may have, by the kinds of operators.
use Rattle.std.specs.Prelude.{◌≡◌, ◌⊎◌, ℤ, pos, Bool, true, false, ◌&&◌, List, Option, Some}
use Rattle.std.specs.List.{Contains}
use Rattle.cc_lattice.specs.Domains.{AreOperands, AreOperandsOne}
use Rattle.cc_program.specs.CcNum.declared.int_type.IntType.{IntType}
use Rattle.cc_program.specs.CcNum.declared.int_type.IntType.TheVariants as int
use Rattle.cc_program.specs.CcNum.declared.target.Target.{Target}
use Rattle.cc_places.specs.Moves.{HasMoved}
use Rattle.cc_places.specs.Sets.{IsSetOf}
use Rattle.cc_places.specs.declared.abs.Abs.{Abs}
use Rattle.cc_places.specs.declared.abs.Abs.TheVariants as abs
use Rattle.cc_program.specs.declared.value.Address.{Address}
use Rattle.cc_program.specs.declared.value.Address.TheVariants as address
use Rattle.cc_program.specs.declared.value.Value.{Value}
use Rattle.cc_program.specs.declared.value.Value.TheVariants.{Int, Place}
use Rattle.cc_state_operators.specs.declared.operators.OneOperand.{OneOperand}
use Rattle.cc_state_operators.specs.declared.operators.OneOperand.TheVariants as one
use Rattle.cc_state_operators.specs.declared.operators.Relation.{Relation}
use Rattle.cc_state_operators.specs.declared.operators.Relation.TheVariants as relation
use Rattle.cc_state_operators.specs.declared.operators.TwoOperands.{TwoOperands}
use Rattle.cc_state_operators.specs.declared.operators.TwoOperands.TheVariants as two
use Rattle.cc_state_operators.specs.Domains.{Domain, IsHull}
use Rattle.cc_state_operators.specs.Results.{offsets, is_told, ByBoth, ByEither, IsComparison, IsGap}
use Rattle.cc_state_operators.specs.Types.{AreOf}
use Rattle.cc_eval.specs.CcSyntax.Operators.{unary_result, binary_result, difference_type}
use Rattle.cc_eval.specs.CcSyntax.Values.{Integer}
use Rattle.cc_eval.specs.CcValues.Values.{gap, comparison}

-- which sets are of integers, and which of addresses
abbrev pub AreInts : {I : Type 0} → Abs I → Type 0
AreInts (abs.Ints x) = Unit {0}
AreInts (abs.Addrs s) = ⊥

abbrev pub AreAddrs : {I : Type 0} → Abs I → Type 0
AreAddrs (abs.Ints x) = ⊥
AreAddrs (abs.Addrs s) = Unit {0}

-- what two pointers give, and its type
abbrev pub related : Relation → Target → Option Value → Option Value → Option Value
related relation.Difference target p q = gap target p q
related (relation.Comparison o) target p q = comparison o p q

abbrev pub related_type : Relation → Target → IntType
related_type relation.Difference target = difference_type target
related_type (relation.Comparison o) target = int.Int

abbrev pub Gives : Relation → Target → Option Value → Option Value → ℤ → Type 0
Gives r target p q n = related r target p q ≡ Some (Int n)

abbrev pub GiveEach : Relation → Target → Option Value → List Address → ℤ → Type 0
GiveEach r target p others n = (b : Address) × Contains others b × Gives r target p (Some (Place b)) n

abbrev pub GiveAll : Relation → Target → List Address → List Address → ℤ → Type 0
GiveAll r target members others n = (a : Address) × (b : Address) × Contains members a × Contains others b × Gives r target (Some (Place a)) (Some (Place b)) n

-- an address that is not null
abbrev pub is_other : Address → Bool
is_other address.Null = false
is_other (address.Func f) = true
is_other (address.At object path index count) = true

-- 0, 1, both or none
abbrev pub AreTruths : Bool → Bool → ℤ → Type 0
AreTruths has_zero has_one n = ((has_zero ≡ true) × (n ≡ pos 0)) ⊎ ((has_one ≡ true) × (n ≡ pos 1))

module _ {I : Type 0} (d : Domain I) (target : Target) where
  -- operands on which the operator works
  abbrev pub OneFits : OneOperand → Abs I → Type 0
  OneFits (one.Operator o t) (abs.Ints x) = AreOperandsOne d.has x t target
  OneFits (one.Conversion t) (abs.Ints x) = Unit {0}
  OneFits _ (abs.Addrs s) = ⊥

  abbrev pub TwoFit : TwoOperands → Abs I → Abs I → Type 0
  TwoFit (two.Operator o t) (abs.Ints x) (abs.Ints w) = AreOperands d.has o x w t target
  TwoFit (two.Movement back) (abs.Addrs s) (abs.Ints x) = Unit {0}
  TwoFit two.Difference (abs.Addrs s) (abs.Addrs t) = Unit {0}
  TwoFit (two.Comparison o) (abs.Addrs s) (abs.Addrs t) = Unit {0}
  TwoFit two.Both x w = Unit {0}
  TwoFit two.Either x w = Unit {0}
  TwoFit _ _ _ = ⊥

  -- what it gives on them
  abbrev pub OneGives : OneOperand → Abs I → Abs I → Type 0
  OneGives (one.Operator o t) (abs.Ints x) (abs.Ints z) = d.op_one o x t target z
  OneGives (one.Conversion t) (abs.Ints x) (abs.Ints z) = d.to x t target z
  OneGives _ _ _ = ⊥

  abbrev pub TwoGive : TwoOperands → Abs I → Abs I → Abs I → Type 0
  TwoGive (two.Operator o t) (abs.Ints x) (abs.Ints w) (abs.Ints z) = d.op o x w t target z
  TwoGive (two.Movement back) (abs.Addrs s) (abs.Ints x) (abs.Addrs r) = IsSetOf (HasMoved (offsets back (d.has x)) s s.is_exact) r
  TwoGive two.Difference (abs.Addrs s) (abs.Addrs t) (abs.Ints z) = IsGap d target s t (is_told s && is_told t) z
  TwoGive (two.Comparison o) (abs.Addrs s) (abs.Addrs t) (abs.Ints z) = IsComparison d o s t (is_told s && is_told t) z
  TwoGive two.Both x w (abs.Ints z) = IsHull d (ByBoth d x w) z
  TwoGive two.Either x w (abs.Ints z) = IsHull d (ByEither d x w) z
  TwoGive _ _ _ _ = ⊥

  -- values of the type of the whole
  abbrev pub OneTyped : OneOperand → Abs I → Type 0
  OneTyped (one.Operator o t) y = AreOf d target (Integer (unary_result o t)) y
  OneTyped (one.Conversion t) y = AreOf d target (Integer t) y

  abbrev pub TwoTyped : TwoOperands → Abs I → Type 0
  TwoTyped (two.Operator o t) y = AreOf d target (Integer (binary_result o t)) y
  TwoTyped (two.Movement back) y = AreAddrs y
  TwoTyped two.Difference y = AreOf d target (Integer (difference_type target)) y
  TwoTyped (two.Comparison o) y = AreOf d target (Integer int.Int) y
  TwoTyped two.Both y = AreOf d target (Integer int.Int) y
  TwoTyped two.Either y = AreOf d target (Integer int.Int) y
