-- Values by other numbers: what the rules ask of a type holds of it, and it stands to others as it did.
use Rattle.std.proofs.Common.{◌≡◌, ℕ, Bool, true, false, not, ◌&&◌, ◌||◌, List, slice_get, refl, ap, ◌∙◌}
use Rattle.std.specs.Prelude.{if◌then◌else◌}
use Rattle.cc_relocated_units.proofs.TypesKept.{complete-kept}
use Rattle.cc_program.specs.CcNum.declared.int_type.IntType.{IntType}
use Rattle.cc_program.specs.CcNum.declared.op.BinOp.{BinOp}
use Rattle.cc_program.specs.CcNum.declared.target.Target.{Target}
use Rattle.cc_program.specs.CcNum.Results.{is_shift}
use Rattle.cc_program.specs.declared.types.CType.{CType}
use Rattle.cc_program.specs.declared.types.Sig.{Sig}
use Rattle.cc_program.specs.declared.types.Structure.{Structure}
use Rattle.cc_structures.proofs.WordLaws.{number_by}
use Rattle.cc_operands.specs.CcSyntax.Operators.{is_of, is_promoted_value, is_integer, second_fits, points_to_object, has_difference, common_type, is_promoted}
use Rattle.cc_operands.specs.CcSyntax.SameTypes.{same_int, same_sig, alike}
use Rattle.cc_operands.specs.CcSyntax.Types.{has_members, is_complete}
use Rattle.cc_operands.specs.CcSyntax.Values.{ValueType, NoValue, Integer, ToObject, ToFunction, is_scalar, is_void, point_alike, is_assignable, implies}
use Rattle.cc_operands.proofs.CcSyntax.AlikeLemmas.{alike_joined}
use Rattle.cc_operands.proofs.CcSyntax.Prefixes.{both_true}
use Rattle.cc_unit.specs.Renumbered.{type_renumbered, sig_renumbered}
use Rattle.cc_operand_types.proofs.Rules.{both}
use Rattle.cc_operand_types.proofs.Values.{reduced_itself}
use Rattle.cc_operand_types.specs.Reduced.{Reduced, Unused, Integers, Pointers, Functions}
use Rattle.cc_relocated_units.specs.Renumbering.{value_renumbered}
use Rattle.cc_relocated_units.proofs.Types.{alike_kept, sig_kept, void_kept}

-- ---- one lacks qualifiers that another has, and this some that a third has

implies_on : (a b c : Bool) → implies b a ≡ true → implies c b ≡ true → implies c a ≡ true
implies_on true b true h k = refl
implies_on true b false h k = refl
implies_on false b false h k = refl
implies_on false true true h k = absurd (cc)
implies_on false false true h k = absurd (cc)

through_pointer : (a b : ValueType) → Reduced a b → (c v : Bool) (t : CType) (c' v' : Bool) (u : CType) → b ≡ ToObject c v t → alike t u ≡ true → implies c c' ≡ true → implies v v' ≡ true → Reduced a (ToObject c' v' u)
through_pointer _ _ (Unused a) c v t c' v' u e h k l = absurd (cc)
through_pointer _ _ (Integers i) c v t c' v' u e h k l = absurd (cc)
through_pointer _ _ (Functions s) c v t c' v' u e h k l = absurd (cc)
through_pointer _ _ (Pointers d w s d' w' t' a m n) c v t c' v' u e h k l =
    let f : d' ≡ c = cc e in
    let g : w' ≡ v = cc e in
    let i : t' ≡ t = cc e in
    Pointers d w s c' v' u (alike_joined s t' u a (ap (λ (z : CType). alike z u) i ∙ h)) (implies_on c' d' d (ap (λ (z : Bool). implies z c') f ∙ k) m) (implies_on v' w' w (ap (λ (z : Bool). implies z v') g ∙ l) n)

pub reduced_through : (a b c : ValueType) → Reduced a b → Reduced b c → Reduced a c
reduced_through a _ _ r (Unused b) = Unused a
reduced_through a _ _ r (Integers i) = r
reduced_through a _ _ r (Pointers c v t c' v' u h k l) = through_pointer a (ToObject c v t) r c v t c' v' u refl h k l
reduced_through a _ _ r (Functions s) = r

module _ (numbers : List ℕ) where
  abbrev value : ValueType → ValueType
  value t = value_renumbered numbers t

  abbrev types : CType → CType
  types t = type_renumbered numbers t

  -- ---- what is asked of one type

  pub of_same : (i : IntType) (t : ValueType) → is_of i (value t) ≡ is_of i t
  of_same i NoValue = refl
  of_same i (Integer j) = refl
  of_same i (ToObject c v t) = refl
  of_same i (ToFunction s) = refl

  pub promoted_same : (target : Target) (t : ValueType) → is_promoted_value target (value t) ≡ is_promoted_value target t
  promoted_same target NoValue = refl
  promoted_same target (Integer j) = refl
  promoted_same target (ToObject c v t) = refl
  promoted_same target (ToFunction s) = refl

  pub integer_same : (t : ValueType) → is_integer (value t) ≡ is_integer t
  integer_same NoValue = refl
  integer_same (Integer j) = refl
  integer_same (ToObject c v t) = refl
  integer_same (ToFunction s) = refl

  pub scalar_same : (t : ValueType) → is_scalar (value t) ≡ is_scalar t
  scalar_same NoValue = refl
  scalar_same (Integer j) = refl
  scalar_same (ToObject c v t) = refl
  scalar_same (ToFunction s) = refl

  second_by : (shift : Bool) (target : Target) (i : IntType) (t : ValueType) → (if shift then is_promoted_value target (value t) else is_of i (value t)) ≡ (if shift then is_promoted_value target t else is_of i t)
  second_by true target i t = promoted_same target t
  second_by false target i t = of_same i t

  pub second_same : (target : Target) (o : BinOp) (i : IntType) (t : ValueType) → second_fits target o i (value t) ≡ second_fits target o i t
  second_same target o i t = second_by (is_shift o) target i t

  -- ---- what is asked of two

  pub alike_exact : (t x : ValueType) → point_alike t x ≡ true → point_alike (value t) (value x) ≡ true
  alike_exact NoValue x h = absurd (cc)
  alike_exact (Integer i) x h = absurd (cc)
  alike_exact (ToObject c v t) NoValue h = absurd (cc)
  alike_exact (ToObject c v t) (Integer i) h = absurd (cc)
  alike_exact (ToObject c v t) (ToObject d w u) h = alike_kept numbers t u h
  alike_exact (ToObject c v t) (ToFunction s) h = absurd (cc)
  alike_exact (ToFunction s) NoValue h = absurd (cc)
  alike_exact (ToFunction s) (Integer i) h = absurd (cc)
  alike_exact (ToFunction s) (ToObject c v t) h = absurd (cc)
  alike_exact (ToFunction s) (ToFunction u) h = sig_kept numbers s u h

  object_assigned : (c v : Bool) (t : CType) (d w : Bool) (u : CType) → alike t u && (implies d c && implies w v) ≡ true → alike (types t) (types u) && (implies d c && implies w v) ≡ true
  object_assigned c v t d w u h =
      let p = both_true (alike t u) (implies d c && implies w v) h in
      both (alike (types t) (types u)) (implies d c && implies w v) (alike_kept numbers t u p.0) p.1

  pub assigned_exact : (to t : ValueType) → is_assignable to t ≡ true → is_assignable (value to) (value t) ≡ true
  assigned_exact NoValue t h = absurd (cc)
  assigned_exact (Integer i) NoValue h = absurd (cc)
  assigned_exact (Integer i) (Integer j) h = h
  assigned_exact (Integer i) (ToObject c v t) h = absurd (cc)
  assigned_exact (Integer i) (ToFunction s) h = absurd (cc)
  assigned_exact (ToObject c v t) NoValue h = absurd (cc)
  assigned_exact (ToObject c v t) (Integer i) h = absurd (cc)
  assigned_exact (ToObject c v t) (ToObject d w u) h = object_assigned c v t d w u h
  assigned_exact (ToObject c v t) (ToFunction s) h = absurd (cc)
  assigned_exact (ToFunction s) NoValue h = absurd (cc)
  assigned_exact (ToFunction s) (Integer i) h = absurd (cc)
  assigned_exact (ToFunction s) (ToObject c v t) h = absurd (cc)
  assigned_exact (ToFunction s) (ToFunction u) h = sig_kept numbers s u h

  -- ---- the common type of two; by fewer numbers two that had none may have one

  integer_if : (b : Bool) (i : IntType) → Reduced (if b then Integer i else NoValue) (value (if b then Integer i else NoValue))
  integer_if true i = Integers i
  integer_if false i = Unused NoValue

  function_if : (b c : Bool) (s : Sig) → (b ≡ true → c ≡ true) → Reduced (if c then ToFunction (sig_renumbered numbers s) else NoValue) (value (if b then ToFunction s else NoValue))
  function_if true true s h = Functions (sig_renumbered numbers s)
  function_if true false s h = absurd (cc (h refl))
  function_if false c s h = Unused (if c then ToFunction (sig_renumbered numbers s) else NoValue)

  pointer_if : (b c : Bool) (d w : Bool) (t : CType) → (b ≡ true → c ≡ true) → Reduced (if c then ToObject d w (types t) else NoValue) (value (if b then ToObject d w t else NoValue))
  pointer_if true true d w t h = reduced_itself (ToObject d w (types t))
  pointer_if true false d w t h = absurd (cc (h refl))
  pointer_if false c d w t h = Unused (if c then ToObject d w (types t) else NoValue)

  arms_alike : (t u : CType) → alike t u && not (is_void t) ≡ true → alike (types t) (types u) && not (is_void (types t)) ≡ true
  arms_alike t u h =
      let p = both_true (alike t u) (not (is_void t)) h in
      both (alike (types t) (types u)) (not (is_void (types t))) (alike_kept numbers t u p.0) (ap not (void_kept numbers t) ∙ p.1)

  pub common_exact : (target : Target) (t x : ValueType) → Reduced (common_type target (value t) (value x)) (value (common_type target t x))
  common_exact target NoValue x = Unused NoValue
  common_exact target (Integer i) NoValue = Unused NoValue
  common_exact target (Integer i) (Integer j) = integer_if (same_int i j && is_promoted target i) i
  common_exact target (Integer i) (ToObject c v t) = Unused NoValue
  common_exact target (Integer i) (ToFunction s) = Unused NoValue
  common_exact target (ToObject c v t) NoValue = Unused NoValue
  common_exact target (ToObject c v t) (Integer i) = Unused NoValue
  common_exact target (ToObject c v t) (ToObject d w u) = pointer_if (alike t u && not (is_void t)) (alike (types t) (types u) && not (is_void (types t))) (c || d) (v || w) t (arms_alike t u)
  common_exact target (ToObject c v t) (ToFunction s) = Unused NoValue
  common_exact target (ToFunction s) NoValue = Unused NoValue
  common_exact target (ToFunction s) (Integer i) = Unused NoValue
  common_exact target (ToFunction s) (ToObject c v t) = Unused NoValue
  common_exact target (ToFunction s) (ToFunction u) = function_if (same_sig s u) (same_sig (sig_renumbered numbers s) (sig_renumbered numbers u)) s (sig_kept numbers s u)

  -- ---- what is pointed to, where complete structures stay complete

  module _ (before after : List Structure) (kept : (k : ℕ) → has_members (slice_get before k) ≡ true → has_members (slice_get after (number_by numbers k)) ≡ true) where
    pub complete_exact : (t : CType) → is_complete before t ≡ true → is_complete after (types t) ≡ true
    complete_exact t h = complete-kept numbers before after kept t h

    pub points_exact : (t : ValueType) → points_to_object before t ≡ true → points_to_object after (value t) ≡ true
    points_exact NoValue h = absurd (cc)
    points_exact (Integer i) h = absurd (cc)
    points_exact (ToObject c v t) h = complete_exact t h
    points_exact (ToFunction s) h = absurd (cc)

    pub difference_exact : (t : ValueType) → has_difference before t ≡ true → has_difference after (value t) ≡ true
    difference_exact NoValue h = absurd (cc)
    difference_exact (Integer i) h = absurd (cc)
    difference_exact (ToObject c v t) h = complete_exact t h
    difference_exact (ToFunction s) h = refl
