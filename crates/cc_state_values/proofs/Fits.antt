-- Values of the types of operands: on them the operators work, and what they give is of the type of the whole.
use Rattle.std.proofs.Common.{◌≡◌, ℤ, Bool, true, false, inl, inr, Some, refl, sym, ◌∙◌, subst, Result, Ok, Err, IfOk}
use Rattle.cc_state_operators.specs.CcLattice.Domains.{IsSecond, AreOperands, AreOperandsOne}
use Rattle.cc_state_operators.proofs.CcLattice.IntValues.{value_is_int}
use Rattle.cc_program.specs.CcNum.declared.int_type.IntType.{IntType}
use Rattle.cc_program.specs.CcNum.declared.op.BinOp.{BinOp}
use Rattle.cc_program.specs.CcNum.declared.op.UnOp.{UnOp}
use Rattle.cc_program.specs.CcNum.declared.target.Target.{Target}
use Rattle.cc_program.specs.CcNum.Results.{is_shift}
use Rattle.cc_state_operators.specs.CcPlaces.Abstract.{AreOfOneKind}
use Rattle.cc_state_operators.specs.CcPlaces.declared.abs.Abs.{Abs}
use Rattle.cc_state_operators.specs.CcPlaces.declared.abs.Abs.TheVariants as abs
use Rattle.cc_program.specs.declared.func.Func.{Func}
use Rattle.cc_program.specs.declared.program.Program.{Program}
use Rattle.cc_state_operators.specs.CcSyntax.Values.{ValueType, NoValue, Integer, ToObject, ToFunction, is_assignable}
use Rattle.cc_state_operators.proofs.CcSyntax.Prefixes.{both_true}
use Rattle.cc_state_operators.proofs.CcSyntax.SameLemmas.{int_same}
use Rattle.cc_state_operators.specs.declared.operators.OneOperand.{OneOperand}
use Rattle.cc_state_operators.specs.declared.operators.OneOperand.TheVariants as kind_one
use Rattle.cc_state_operators.specs.declared.operators.TwoOperands.{TwoOperands}
use Rattle.cc_state_operators.specs.declared.operators.TwoOperands.TheVariants as kind_two
use Rattle.cc_state_operators.specs.Domains.{Domain, AllOf}
use Rattle.cc_state_operators.specs.Operands.{AreInts, AreAddrs, OneFits, TwoFit, OneTyped, TwoTyped}
use Rattle.cc_state_operators.specs.Types.{AreOf}
use Rattle.cc_state_values.proofs.Parts.{one_rule, two_rule}
use Rattle.cc_state_values.proofs.Rules.{IsPointer, points_first, points_second, object_pointer, some_integer, when_there, IsSecondType, AreIntegers, are_integers, IsOneInteger, is_one_integer, AreArms}

-- two facts of what a call gives
pub both_ok : {A E : Type 0} (r : Result A E) (P Q S : A → Type 0) → ((a : A) → P a → Q a → S a) → IfOk r P → IfOk r Q → IfOk r S
both_ok (Ok a) P Q S f p q = f a p q
both_ok (Err e) P Q S f p q = tt

module _ {I : Type 0} (d : Domain I) (target : Target) where
  pub are_numbers : (t : IntType) (a : ValueType) (x : Abs I) → a ≡ Integer t → AreOf d target a x → (n : I) × (x ≡ abs.Ints n) × AllOf d t target n
  are_numbers t a (abs.Ints n) h k = (n, refl, subst (λ z. AreOf d target z (abs.Ints n)) h k)
  are_numbers t a (abs.Addrs s) h k = absurd (let z : ⊥ = subst (λ z. AreOf d target z (abs.Addrs s)) h k in z)

  pub pointers_are : (a : ValueType) (x : Abs I) → IsPointer a → AreOf d target a x → AreAddrs x
  pointers_are NoValue x p h = absurd p
  pointers_are (Integer t) x p h = absurd p
  pointers_are (ToObject c v t) (abs.Ints n) p h = absurd h
  pointers_are (ToObject c v t) (abs.Addrs s) p h = tt
  pointers_are (ToFunction sig) (abs.Ints n) p h = absurd h
  pointers_are (ToFunction sig) (abs.Addrs s) p h = tt

  pub as_pointers : (a : ValueType) (x : Abs I) → IsPointer a → AreAddrs x → AreOf d target a x
  as_pointers NoValue x p h = absurd p
  as_pointers (Integer t) x p h = absurd p
  as_pointers (ToObject c v t) (abs.Ints n) p h = absurd h
  as_pointers (ToObject c v t) (abs.Addrs s) p h = tt
  as_pointers (ToFunction sig) (abs.Ints n) p h = absurd h
  as_pointers (ToFunction sig) (abs.Addrs s) p h = tt

  pub numbers_are : (a : ValueType) (s : IntType) (x : Abs I) → a ≡ Integer s → AreOf d target a x → AreInts x
  numbers_are a s (abs.Ints n) h k = tt
  numbers_are a s (abs.Addrs p) h k = let z : ⊥ = subst (λ z. AreOf d target z (abs.Addrs p)) h k in z

  pub assigned_of : (to from : ValueType) (y : Abs I) → is_assignable to from ≡ true → AreOf d target from y → AreOf d target to y
  assigned_of NoValue from y h k = absurd (cc)
  assigned_of (Integer s) NoValue y h k = absurd (cc)
  assigned_of (Integer s) (Integer t) (abs.Ints x) h k = subst (λ z. AllOf d z target x) (sym (int_same s t h)) k
  assigned_of (Integer s) (Integer t) (abs.Addrs r) h k = absurd k
  assigned_of (Integer s) (ToObject c v t) y h k = absurd (cc)
  assigned_of (Integer s) (ToFunction sig) y h k = absurd (cc)
  assigned_of (ToObject c v t) NoValue y h k = absurd (cc)
  assigned_of (ToObject c v t) (Integer s) y h k = absurd (cc)
  assigned_of (ToObject c v t) (ToObject c' v' u) (abs.Ints x) h k = absurd k
  assigned_of (ToObject c v t) (ToObject c' v' u) (abs.Addrs r) h k = tt
  assigned_of (ToObject c v t) (ToFunction sig) y h k = absurd (cc)
  assigned_of (ToFunction s) NoValue y h k = absurd (cc)
  assigned_of (ToFunction s) (Integer t) y h k = absurd (cc)
  assigned_of (ToFunction s) (ToObject c v t) y h k = absurd (cc)
  assigned_of (ToFunction s) (ToFunction t) (abs.Ints x) h k = absurd k
  assigned_of (ToFunction s) (ToFunction t) (abs.Addrs r) h k = tt

  -- operators work on such operands

  second_is : (shift : Bool) (t : IntType) (b : ValueType) (w : Abs I) → IsSecondType shift t b → AreOf d target b w → (n : I) × (w ≡ abs.Ints n) × ((v : ℤ) → d.has n v → IsSecond shift t target v)
  second_is true t b w (s, h) k = let m = are_numbers s b w h k in (m.0, m.1, λ v g. value_is_int v s target (m.2 v g))
  second_is false t b w h k = are_numbers t b w h k

  operator_fits : (o : BinOp) (t : IntType) (a b r : ValueType) (x w : Abs I) → AreIntegers target o t a b r → AreOf d target a x → AreOf d target b w → TwoFit d target (kind_two.Operator o t) x w
  operator_fits o t a b r x w i h k =
      let m = are_numbers t a x i.first h in
      let n = second_is (is_shift o) t b w i.second k in
      let fit : AreOperands d.has o m.0 n.0 t target = record { promotion = i.promotion; first = m.2; second = n.2 } in
      subst (λ z. TwoFit d target (kind_two.Operator o t) z w) (sym m.1) (subst (λ z. TwoFit d target (kind_two.Operator o t) (abs.Ints m.0) z) (sym n.1) fit)

  one_operator_fits : (o : UnOp) (t : IntType) (a r : ValueType) (result : IntType) (x : Abs I) → IsOneInteger target t result a r → AreOf d target a x → OneFits d target (kind_one.Operator o t) x
  one_operator_fits o t a r result x i h =
      let m = are_numbers t a x i.first h in
      let fit : AreOperandsOne d.has m.0 t target = record { promotion = i.promotion; first = m.2 } in
      subst (λ z. OneFits d target (kind_one.Operator o t) z) (sym m.1) fit

  moved_fits : (back : Bool) (x w : Abs I) → AreAddrs x → AreInts w → TwoFit d target (kind_two.Movement back) x w
  moved_fits back (abs.Ints n) w h k = absurd h
  moved_fits back (abs.Addrs s) (abs.Ints n) h k = tt
  moved_fits back (abs.Addrs s) (abs.Addrs t) h k = absurd k

  gap_fits : (x w : Abs I) → AreAddrs x → AreAddrs w → TwoFit d target kind_two.Difference x w
  gap_fits (abs.Ints n) w h k = absurd h
  gap_fits (abs.Addrs s) (abs.Ints n) h k = absurd k
  gap_fits (abs.Addrs s) (abs.Addrs t) h k = tt

  compared_fits : (o : BinOp) (x w : Abs I) → AreAddrs x → AreAddrs w → TwoFit d target (kind_two.Comparison o) x w
  compared_fits o (abs.Ints n) w h k = absurd h
  compared_fits o (abs.Addrs s) (abs.Ints n) h k = absurd k
  compared_fits o (abs.Addrs s) (abs.Addrs t) h k = tt

  conversion_fits : (t : IntType) (x : Abs I) → AreInts x → OneFits d target (kind_one.Conversion t) x
  conversion_fits t (abs.Ints n) h = tt
  conversion_fits t (abs.Addrs s) h = absurd h

  as_integers : (a : ValueType) (s : IntType) (y : Abs I) → Integer s ≡ a → AreOf d target (Integer s) y → AreOf d target a y
  as_integers a s y h k = subst (λ z. AreOf d target z y) h k

  -- the arms of a choice
  pub alike_arms : (a b r : ValueType) (x w : Abs I) → AreArms a b r → AreOf d target a x → AreOf d target b w → AreOfOneKind x w
  alike_arms a b r x w (inl (s, h, k, l)) f g = ints x w (numbers_are a s x h f) (numbers_are b s w k g)
    where
      ints : (x w : Abs I) → AreInts x → AreInts w → AreOfOneKind x w
      ints (abs.Ints n) (abs.Ints m) p q = tt
      ints (abs.Ints n) (abs.Addrs t) p q = absurd q
      ints (abs.Addrs s) w p q = absurd p
  alike_arms a b r x w (inr (h, k, l)) f g = addrs x w (pointers_are a x h f) (pointers_are b w k g)
    where
      addrs : (x w : Abs I) → AreAddrs x → AreAddrs w → AreOfOneKind x w
      addrs (abs.Ints n) w p q = absurd p
      addrs (abs.Addrs s) (abs.Ints n) p q = absurd q
      addrs (abs.Addrs s) (abs.Addrs t) p q = tt

  pub arms_as : (a b r : ValueType) (x w : Abs I) → AreArms a b r → AreOf d target a x → AreOf d target b w → AreOf d target r x × AreOf d target r w
  arms_as a b r x w (inl (s, h, k, l)) f g = (
    subst (λ z. AreOf d target z x) (h ∙ sym l) f,
    subst (λ z. AreOf d target z w) (k ∙ sym l) g,
  )
  arms_as a b r x w (inr (h, k, l)) f g = (as_pointers r x l (pointers_are a x h f), as_pointers r w l (pointers_are b w k g))

-- by the rules of a program
module _ {I : Type 0} (d : Domain I) (p : Program) (f : Func) where
  pub one_fits : (kind : OneOperand) (a r : ValueType) (x : Abs I) → one_rule p f kind a ≡ Some r → AreOf d p.target a x → OneFits d p.target kind x
  one_fits (kind_one.Operator o t) a r x h k = one_operator_fits d p.target o t a r _ x (is_one_integer p.target o t a r h) k
  one_fits (kind_one.Conversion t) a r x h k = let i = some_integer a (when_there _ _ r h).0 in conversion_fits d p.target t x (numbers_are d p.target a i.0 x i.1 k)

  pub one_typed : (kind : OneOperand) (a r : ValueType) (y : Abs I) → one_rule p f kind a ≡ Some r → OneTyped d p.target kind y → AreOf d p.target r y
  one_typed (kind_one.Operator o t) a r y h k = as_integers d p.target r _ y (sym (is_one_integer p.target o t a r h).whole) k
  one_typed (kind_one.Conversion t) a r y h k = as_integers d p.target r t y (when_there _ _ r h).1 k

  pub two_fit : (kind : TwoOperands) (a b r : ValueType) (x w : Abs I) → two_rule p f kind a b ≡ Some r →
      AreOf d p.target a x → AreOf d p.target b w → TwoFit d p.target kind x w
  two_fit (kind_two.Operator o t) a b r x w h k l = operator_fits d p.target o t a b r x w (are_integers p.target o t a b r h) k l
  two_fit (kind_two.Movement back) a b r x w h k l =
      let m = both_true _ _ (when_there _ _ r h).0 in
      let i = some_integer b m.1 in
      moved_fits d p.target back x w (pointers_are d p.target a x (object_pointer p.structures a m.0) k) (numbers_are d p.target b i.0 w i.1 l)
  two_fit kind_two.Difference a b r x w h k l =
      let m = both_true _ _ (when_there _ _ r h).0 in
      gap_fits d p.target x w (pointers_are d p.target a x (points_first a b m.0) k) (pointers_are d p.target b w (points_second a b m.0) l)
  two_fit (kind_two.Comparison o) a b r x w h k l =
      let m = both_true _ _ (when_there _ _ r h).0 in
      compared_fits d p.target o x w (pointers_are d p.target a x (points_first a b m.1) k) (pointers_are d p.target b w (points_second a b m.1) l)
  two_fit kind_two.Both a b r x w h k l = tt
  two_fit kind_two.Either a b r x w h k l = tt

  pub two_typed : (kind : TwoOperands) (a b r : ValueType) (y : Abs I) → two_rule p f kind a b ≡ Some r → TwoTyped d p.target kind y → AreOf d p.target r y
  two_typed (kind_two.Operator o t) a b r y h k = as_integers d p.target r _ y (sym (are_integers p.target o t a b r h).whole) k
  two_typed (kind_two.Movement back) a b r y h k =
      let w = when_there _ _ r h in
      subst (λ z. AreOf d p.target z y) w.1 (as_pointers d p.target a y (object_pointer p.structures a (both_true _ _ w.0).0) k)
  two_typed kind_two.Difference a b r y h k = as_integers d p.target r _ y (when_there _ _ r h).1 k
  two_typed (kind_two.Comparison o) a b r y h k = as_integers d p.target r _ y (when_there _ _ r h).1 k
  two_typed kind_two.Both a b r y h k = as_integers d p.target r _ y (when_there _ _ r h).1 k
  two_typed kind_two.Either a b r y h k = as_integers d p.target r _ y (when_there _ _ r h).1 k
