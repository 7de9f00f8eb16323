-- What a type that lacks qualifiers serves for: a condition, an integer, and what is assigned.
use Rattle.std.proofs.Common.{◌≡◌, Bool, true, false, ◌&&◌, List, Option, Some, refl, ap, ◌∙◌}
use Rattle.std.specs.Prelude.{is_some}
use Rattle.cc_program.specs.CcNum.declared.int_type.IntType.{IntType}
use Rattle.cc_type.specs.CcOperands.Operands.{Operand}
use Rattle.cc_operand_types.specs.Typed.{IsTypedOperand}
use Rattle.cc_type.specs.CcSyntax.Views.{View}
use Rattle.cc_type.specs.CcSyntax.Expressions.{type_of}
use Rattle.cc_operand_types.proofs.Choices.{condition}
use Rattle.cc_program.specs.declared.expr.Expr.{Expr}
use Rattle.cc_program.specs.declared.types.CType.{CType}
use Rattle.cc_operand_types.specs.Reduced.{Reduced, Unused, Integers, Pointers, Functions}
use Rattle.cc_type.proofs.CcSyntax.AlikeLemmas.{alike_mirrored, alike_joined}
use Rattle.cc_type.proofs.CcSyntax.Prefixes.{both_true}
use Rattle.cc_type.proofs.CcSyntax.SameLemmas.{and_true}
use Rattle.cc_type.specs.CcSyntax.SameTypes.{alike}
use Rattle.cc_type.specs.CcSyntax.Statements.{is_condition}
use Rattle.cc_type.specs.CcSyntax.Types.{Named}
use Rattle.cc_type.specs.CcSyntax.Values.{ValueType, NoValue, Integer, ToObject, ToFunction, is_scalar, is_assignable, implies}
use Rattle.cc_read_sound.specs.Sound.{Keeps}

pub reduced_scalar : (u t : ValueType) → Reduced u t → is_scalar t ≡ true → is_scalar u ≡ true
reduced_scalar _ _ (Unused u) h = absurd (cc)
reduced_scalar _ _ (Integers i) h = refl
reduced_scalar _ _ (Pointers c v t c' v' u a b d) h = refl
reduced_scalar _ _ (Functions s) h = refl

pub reduced_integer : (u t : ValueType) (i : IntType) → Reduced u t → t ≡ Integer i → u ≡ Integer i
reduced_integer _ _ i (Unused u) e = absurd (cc)
reduced_integer _ _ i (Integers j) e = e
reduced_integer _ _ i (Pointers c v t c' v' u a b d) e = absurd (cc)
reduced_integer _ _ i (Functions s) e = absurd (cc)

implies_through : (a b c : Bool) → implies a b ≡ true → implies b c ≡ true → implies a c ≡ true
implies_through true true true h k = refl
implies_through true true false h k = absurd (cc)
implies_through true false c h k = absurd (cc)
implies_through false b c h k = refl

nothing_assigned : (to : ValueType) → is_assignable to NoValue ≡ true → ⊥
nothing_assigned NoValue h = absurd (cc)
nothing_assigned (Integer i) h = absurd (cc)
nothing_assigned (ToObject c v t) h = absurd (cc)
nothing_assigned (ToFunction s) h = absurd (cc)

fewer_assigned : (to : ValueType) (c v c' v' : Bool) (t u : CType) → alike t u ≡ true → implies c c' ≡ true → implies v v' ≡ true → is_assignable to (ToObject c' v' u) ≡ true → is_assignable to (ToObject c v t) ≡ true
fewer_assigned NoValue c v c' v' t u a b d k = absurd (cc)
fewer_assigned (Integer i) c v c' v' t u a b d k = absurd (cc)
fewer_assigned (ToFunction s) c v c' v' t u a b d k = absurd (cc)
fewer_assigned (ToObject q w x) c v c' v' t u a b d k =
    let all = both_true (alike x u) (implies c' q && implies v' w) k in
    let both = both_true (implies c' q) (implies v' w) all.1 in
    and_true (alike x t) (implies c q && implies v w) (alike_joined x u t all.0 (alike_mirrored t u a))
    (and_true (implies c q) (implies v w) (implies_through c c' q b both.0) (implies_through v v' w d both.1))

pub reduced_assigned : (to u t : ValueType) → Reduced u t → is_assignable to t ≡ true → is_assignable to u ≡ true
reduced_assigned to _ _ (Unused u) k = absurd (nothing_assigned to k)
reduced_assigned to _ _ (Integers i) k = k
reduced_assigned to _ _ (Pointers c v t c' v' u a b d) k = fewer_assigned to c v c' v' t u a b d k
reduced_assigned to _ _ (Functions s) k = k

some_there : {A : Type 0} (o : Option A) (x : A) → o ≡ Some x → is_some o ≡ true
some_there o x e = ap is_some e

module _ (v : View) (declared : List Named) (typed : Expr → Option ValueType) (keeps : Keeps v declared typed) where
  pub has_type : (e : Expr) (t : ValueType) → type_of v declared e ≡ Some t → is_some (typed e) ≡ true
  has_type e t h = let k = keeps e t h in some_there (typed e) k.0 k.1

  pub integer_kept : (e : Expr) (i : IntType) → type_of v declared e ≡ Some (Integer i) → typed e ≡ Some (Integer i)
  integer_kept e i h = let k = keeps e (Integer i) h in k.1 ∙ ap Some (reduced_integer k.0 (Integer i) i k.2 refl)

  pub condition_kept : (x : Operand) → IsTypedOperand v declared x → is_scalar x.type ≡ true → is_condition (typed x.value) ≡ true
  condition_kept x hx h =
      let s = condition v declared x hx h in
      let k = keeps x.value s.0 s.1 in
      ap is_condition k.1 ∙ reduced_scalar k.0 s.0 k.2 s.2
