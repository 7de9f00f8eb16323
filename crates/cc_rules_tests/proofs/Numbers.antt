-- The operands of a comparison: pure numbers, of which a value has been worked.
use Rattle.std.proofs.Common.{◌≡◌, ℕ, ℤ, to_z, of_z, Bool, true, false, List, [], Some, refl, sym, subst}
use Rattle.std.specs.Int.{w128}
use Rattle.std.specs.List.{Contains}
use Rattle.cc_rules_flows.specs.CcLattice.Domains.{IsIntValue, is_comparison}
use Rattle.cc_program.specs.CcNum.declared.int_type.IntType.{IntType}
use Rattle.cc_program.specs.CcNum.declared.op.BinOp.{BinOp}
use Rattle.cc_program.specs.CcNum.declared.op.BinOp.TheVariants as op
use Rattle.cc_program.specs.CcNum.Results.{is_shift}
use Rattle.cc_rules_flows.specs.CcPlaces.declared.abs.Abs.{Abs}
use Rattle.cc_rules_flows.specs.CcPlaces.declared.abs.Abs.TheVariants as abs
use Rattle.cc_rules_flows.specs.CcPlaces.declared.addrs.Addrs.{Addrs}
use Rattle.cc_rules_flows.specs.CcPlaces.laws.ListLaws.{at_head}
use Rattle.cc_program.specs.declared.expr.Expr.{Expr, out-Expr}
use Rattle.cc_rules_flows.specs.Tests.{Equals, Differs, negated, passing, turned}
use Rattle.cc_rules_tests.specs.Forms.{comparison_in}
use Rattle.cc_rules_tests.specs.Tested.{IsCutAsIn, IsCutByOne, IsPureNumber, IsTested, IsValWith, MayHoldAll, labels_of, test_of}
use Rattle.cc_rules_tests.specs.declared.tested.Tested.{Tested}
use Rattle.cc_rules_tests.proofs.Following.{int_same}
use Rattle.cc_rules_tests.proofs.Formed.{comparison_back}
use Rattle.cc_rules_flows.specs.CcStateOperators.declared.operators.TwoOperands.TheVariants as kind_two
use Rattle.cc_rules_flows.specs.CcStateOperators.Domains.{Domain}
use Rattle.cc_rules_flows.specs.CcStateOperators.Types.{AreOf}
use Rattle.cc_rules_flows.specs.CcStateValues.declared.context.Context.{Context}
use Rattle.cc_rules_flows.proofs.CcStateValues.Parts.{two_parts, two_rule, two_type}
use Rattle.cc_rules_flows.proofs.CcStateValues.Rules.{IsSecondType, are_integers, two_there}
use Rattle.cc_rules_flows.specs.CcSyntax.Programs.{type_of}
use Rattle.cc_rules_flows.specs.CcSyntax.Values.{ValueType, Integer}

-- comparisons

pub turned_compares : (o : BinOp) → is_comparison o ≡ true → is_comparison (turned o) ≡ true
turned_compares op.Lt h = refl
turned_compares op.Le h = refl
turned_compares op.Gt h = refl
turned_compares op.Ge h = refl
turned_compares op.Eq h = refl
turned_compares op.Ne h = refl
turned_compares op.Add h = h
turned_compares op.Sub h = h
turned_compares op.Mul h = h
turned_compares op.Div h = h
turned_compares op.Rem h = h
turned_compares op.And h = h
turned_compares op.Or h = h
turned_compares op.Xor h = h
turned_compares op.Shl h = h
turned_compares op.Shr h = h

negated_compares : (o : BinOp) → is_comparison o ≡ true → is_comparison (negated o) ≡ true
negated_compares op.Lt h = refl
negated_compares op.Le h = refl
negated_compares op.Gt h = refl
negated_compares op.Ge h = refl
negated_compares op.Eq h = refl
negated_compares op.Ne h = refl
negated_compares op.Add h = h
negated_compares op.Sub h = h
negated_compares op.Mul h = h
negated_compares op.Div h = h
negated_compares op.Rem h = h
negated_compares op.And h = h
negated_compares op.Or h = h
negated_compares op.Xor h = h
negated_compares op.Shl h = h
negated_compares op.Shr h = h

pub passing_compares : (b : Bool) (o : BinOp) → is_comparison o ≡ true → is_comparison (passing b o) ≡ true
passing_compares true o h = h
passing_compares false o h = negated_compares o h

second_integer : (shift : Bool) (t : IntType) (b : ValueType) → IsSecondType shift t b → (s : IntType) × (b ≡ Integer s)
second_integer true t b h = h
second_integer false t b h = (t, h)

module _ {I : Type 0} (d : Domain I) (c : Context I) where
  -- what a register may hold, as it was copied
  pub copy_held : (r : ℕ) (set x : I) → set ≡ x → MayHoldAll d c r x → MayHoldAll d c r set
  copy_held r set x e h = subst (λ z. MayHoldAll d c r z) (sym e) h

  -- a value that was worked with a copy of the register's set
  pub number_there : (r : ℕ) (set x : I) (a : Expr) (y : Abs I) (w : I) → set ≡ x → y ≡ abs.Ints w → IsValWith d c r set a y → IsValWith d c r x a (abs.Ints w)
  number_there r set x a y w e is h = subst (λ z. IsValWith d c r x a z) is (subst (λ z. IsValWith d c r z a y) e h)

  pub no_addresses : (a : Expr) (y : Abs I) (s : Addrs) → y ≡ abs.Addrs s → IsPureNumber d c a → ((t : ValueType) → type_of c.program.now c.func.now.locals a ≡ Some t → AreOf d c.program.now.target t y) → ⊥
  no_addresses a y s e (pure, (t, is)) typed = subst (λ z. AreOf d c.program.now.target (Integer t) z) e (typed (Integer t) is)

module _ {I : Type 0} (d : Domain I) (t : Tested I) (h : IsTested d t) where
  -- the operands of the comparison that an expression is
  pub operands : (o : BinOp) (a b : Expr) → comparison_in (out-Expr t.expression.now) ≡ Some (o, a, b) → IsPureNumber d t.context.now a × IsPureNumber d t.context.now b
  operands o a b e =
      let (s, form, is) = comparison_back (out-Expr t.expression.now) o a b e in
      let p = t.context.now.program.now in
      let f = t.context.now.func.now in
      let kind = kind_two.Operator o s in
      let (whole, typed, scalar) = h.pure.typed in
      let w = two_there (type_of p f.locals a) (type_of p f.locals b) (two_rule p f kind) whole (two_type p f kind t.expression.now a b whole form typed) in
      let both = two_parts p f kind t.expression.now a b form h.pure in
      let k = are_integers p.target o s w.0 w.1 whole w.4 in
      let second = second_integer (is_shift o) s w.1 k.second in
      ((both.0, (s, subst (λ z. type_of p f.locals a ≡ Some z) k.first w.2)), (both.1, (second.0, subst (λ z. type_of p f.locals b ≡ Some z) second.1 w.3)))

  pub compares : (o : BinOp) (a b : Expr) → comparison_in (out-Expr t.expression.now) ≡ Some (o, a, b) → is_comparison o ≡ true
  compares o a b e = (comparison_back (out-Expr t.expression.now) o a b e).2

  -- labels are values of integer types
  pub label_value : (n : ℤ) → test_of t.test ≡ Equals n → IsIntValue n
  label_value n is = h.labels n (subst (λ z. Contains (labels_of z) n) (sym is) (at_head n []))

  pub labels_values : (ns : List ℤ) → test_of t.test ≡ Differs ns → (n : ℤ) → Contains ns n → IsIntValue n
  labels_values ns is n k = h.labels n (subst (λ z. Contains (labels_of z) n) (sym is) k)

-- a number that was passed on
pub cut_read : {I : Type 0} (d : Domain I) (o : BinOp) (n : ℤ) (x z : I) → IsIntValue n → IsCutByOne d o (to_z w128 (of_z w128 n)) x z → IsCutByOne d o n x z
cut_read d o n x z h k = subst (λ m. IsCutByOne d o m x z) (int_same n h) k

-- what was cut is a copy, and by a comparison that was turned
pub cut_copy : {I : Type 0} (d : Domain I) (t : Tested I) (r : ℕ) (x copy u : I) (o : BinOp) (a b : Expr) → copy ≡ x → IsCutAsIn d t r x o a b copy u → IsCutAsIn d t r x o a b x u
cut_copy d t r x copy u o a b e h = subst (λ z. IsCutAsIn d t r x o a b z u) e h

pub cut_turned : {I : Type 0} (d : Domain I) (t : Tested I) (r : ℕ) (x u z : I) (o q : BinOp) (a b : Expr) → q ≡ o → IsCutAsIn d t r x q a b u z → IsCutAsIn d t r x o a b u z
cut_turned d t r x u z o q a b e h = subst (λ p. IsCutAsIn d t r x p a b u z) e h
