-- What is asked of operands, and given of them, by the kind of the operator and by what the operands are.
use Rattle.std.proofs.Common.{◌≡◌, ℤ, refl, sym, subst}
use Rattle.cc_lattice.specs.Domains.{AreOperands, AreOperandsOne, type_given, type_given_of_one}
use Rattle.cc_program.specs.CcNum.declared.int_type.IntType.{IntType}
use Rattle.cc_program.specs.CcNum.declared.op.BinOp.{BinOp}
use Rattle.cc_program.specs.CcNum.declared.op.BinOp.TheVariants as op
use Rattle.cc_program.specs.CcNum.declared.op.UnOp.{UnOp}
use Rattle.cc_program.specs.CcNum.declared.op.UnOp.TheVariants as unary
use Rattle.cc_program.specs.CcNum.declared.target.Target.{Target}
use Rattle.cc_program.specs.CcNum.Integers.{IsValueOf}
use Rattle.cc_places.specs.declared.abs.Abs.{Abs}
use Rattle.cc_places.specs.declared.abs.Abs.TheVariants as abs
use Rattle.cc_state_operators.specs.declared.operators.OneOperand.{OneOperand}
use Rattle.cc_state_operators.specs.declared.operators.OneOperand.TheVariants as one
use Rattle.cc_state_operators.specs.declared.operators.TwoOperands.{TwoOperands}
use Rattle.cc_state_operators.specs.declared.operators.TwoOperands.TheVariants as two
use Rattle.cc_state_operators.specs.Domains.{Domain, AllOf}
use Rattle.cc_state_operators.specs.Operands.{OneFits, OneTyped, TwoFit, TwoTyped}
use Rattle.cc_eval.specs.CcSyntax.Operators.{unary_result, binary_result}

-- the type of what an operator gives, as domains and as expressions have it

pub binary_type : (o : BinOp) (t : IntType) → type_given o t ≡ binary_result o t
binary_type op.Add t = refl
binary_type op.Sub t = refl
binary_type op.Mul t = refl
binary_type op.Div t = refl
binary_type op.Rem t = refl
binary_type op.And t = refl
binary_type op.Or t = refl
binary_type op.Xor t = refl
binary_type op.Shl t = refl
binary_type op.Shr t = refl
binary_type op.Lt t = refl
binary_type op.Le t = refl
binary_type op.Gt t = refl
binary_type op.Ge t = refl
binary_type op.Eq t = refl
binary_type op.Ne t = refl

pub unary_type : (o : UnOp) (t : IntType) → type_given_of_one o t ≡ unary_result o t
unary_type unary.Neg t = refl
unary_type unary.Not t = refl
unary_type unary.Lnot t = refl

module _ {I : Type 0} (d : Domain I) (target : Target) where
  -- one operand

  pub one_fits : (kind : OneOperand) (x : Abs I) (n : I) → x ≡ abs.Ints n → (o : UnOp) (t : IntType) → kind ≡ one.Operator o t → OneFits d target kind x → AreOperandsOne d.has n t target
  one_fits kind x n e o t f h = subst (OneFits d target (one.Operator o t)) e (subst (λ k. OneFits d target k x) f h)

  pub one_typed : (kind : OneOperand) (o : UnOp) (t : IntType) (z : I) → kind ≡ one.Operator o t → ((n : ℤ) → d.has z n → IsValueOf (type_given_of_one o t) target n) → OneTyped d target kind (abs.Ints z)
  one_typed kind o t z f h = subst (λ k. OneTyped d target k (abs.Ints z)) (sym f) (subst (λ u. AllOf d u target z) (unary_type o t) h)

  pub conversion_typed : (kind : OneOperand) (t : IntType) (z : I) → kind ≡ one.Conversion t → AllOf d t target z → OneTyped d target kind (abs.Ints z)
  conversion_typed kind t z f h = subst (λ k. OneTyped d target k (abs.Ints z)) (sym f) h

  -- two operands

  pub two_operands : (kind : TwoOperands) (x w : Abs I) → TwoFit d target kind x w → (o : BinOp) (t : IntType) (m n : I) → kind ≡ two.Operator o t → x ≡ abs.Ints m → w ≡ abs.Ints n → AreOperands d.has o m n t target
  two_operands kind x w fits o t m n f e g =
      subst (λ v. TwoFit d target (two.Operator o t) (abs.Ints m) v) g (subst (λ v. TwoFit d target (two.Operator o t) v w) e (subst (λ k. TwoFit d target k x w) f fits))

  pub two_typed : (kind : TwoOperands) (o : BinOp) (t : IntType) (z : I) → kind ≡ two.Operator o t → ((n : ℤ) → d.has z n → IsValueOf (type_given o t) target n) → TwoTyped d target kind (abs.Ints z)
  two_typed kind o t z f h = subst (λ k. TwoTyped d target k (abs.Ints z)) (sym f) (subst (λ u. AllOf d u target z) (binary_type o t) h)
