-- Operators work on values of their types alone.
use Rattle.std.proofs.Common.{if◌then◌else◌, ◌≡◌, ℕ, ℤ, Bool, true, false, ◌&&◌, ◌||◌, List, Some, refl, ap, ◌∙◌, subst}
use Rattle.cc_program.specs.CcNum.declared.int_type.IntType.{IntType}
use Rattle.cc_program.specs.CcNum.declared.op.BinOp.{BinOp}
use Rattle.cc_program.specs.CcNum.declared.op.UnOp.{UnOp}
use Rattle.cc_program.specs.CcNum.Integers.{is_value_of, converted}
use Rattle.cc_program.specs.CcNum.Promotions.{promoted, usual_of}
use Rattle.cc_program.specs.CcNum.Results.{is_shift}
use Rattle.cc_program.proofs.CcNum.Conversions.{converted-IsValueOf}
use Rattle.cc_program.proofs.CcNum.PromotionLaws.{promoted-promoted, promoted-usual_of}
use Rattle.cc_program.proofs.CcNum.ResultLaws.{is_value_from}
use Rattle.cc_program.specs.declared.program.Program.{Program}
use Rattle.cc_program.specs.declared.value.Value.{Value}
use Rattle.cc_program.specs.declared.value.Value.TheVariants.{Int, Place}
use Rattle.cc_steps.specs.CcSyntax.Operators.{is_promoted, is_promoted_value, is_of, second_fits, unary_type, binary_type, unary_result, binary_result, changes_by}
use Rattle.cc_steps.specs.CcSyntax.SameTypes.{same_int}
use Rattle.cc_steps.specs.CcSyntax.Values.{ValueType, NoValue, Integer, ToObject, ToFunction}
use Rattle.cc_steps.proofs.CcSyntax.Prefixes.{both_true}
use Rattle.cc_steps.specs.CcValues.Values.{takes, takes_both}
use Rattle.cc_states.specs.Typed.{HasType}
use Rattle.cc_states.proofs.Options.{when_true}
use Rattle.cc_steps.proofs.CcSyntax.SameLemmas.{and_true, int_same, int_itself}

of_type : (t : IntType) (a : ValueType) → is_of t a ≡ true → a ≡ Integer t
of_type t NoValue h = absurd (cc)
of_type t (Integer s) h = ap Integer (int_same s t h)
of_type t (ToObject c v u) h = absurd (cc)
of_type t (ToFunction sig) h = absurd (cc)

promoted_type : (p : Program) (a : ValueType) → is_promoted_value p.target a ≡ true → (s : IntType) × (a ≡ Integer s)
promoted_type p NoValue h = absurd (cc)
promoted_type p (Integer s) h = (s, refl)
promoted_type p (ToObject c v u) h = absurd (cc)
promoted_type p (ToFunction sig) h = absurd (cc)

module _ (p : Program) (openings : List ℕ) where
  pub integer_value : (t : IntType) (x : Value) → HasType p openings (Integer t) x → (n : ℤ) × (x ≡ Int n) × (is_value_of t p.target n ≡ true)
  integer_value t (Int n) h = (n, refl, h)
  integer_value t (Place a) h = absurd h

  value_of : (t : IntType) (a : ValueType) (x : Value) → is_of t a ≡ true → HasType p openings a x → (n : ℤ) × (x ≡ Int n) × (is_value_of t p.target n ≡ true)
  value_of t a x e h = integer_value t x (subst (λ (u : ValueType). HasType p openings u x) (of_type t a e) h)

  pub taken_one : (o : UnOp) (t : IntType) (a r : ValueType) → unary_type p.target o t a ≡ Some r → (x : Value) → HasType p openings a x → (n : ℤ) × (x ≡ Int n) × (takes t p.target n ≡ true)
  taken_one o t a r e x h =
      let all = both_true (is_promoted p.target t) (is_of t a) (when_true (is_promoted p.target t && is_of t a) (Integer (unary_result o t)) r e) in
      let v = value_of t a x all.1 h in
      (v.0, v.1, and_true (is_promoted p.target t) (is_value_of t p.target v.0) all.0 v.2)

  -- of a shift the second operand may be any integer
  second_by : (t : IntType) (b : ValueType) (y : Value) (s : Bool) → (if s then is_promoted_value p.target b else is_of t b) ≡ true → HasType p openings b y → (n : ℤ) × (y ≡ Int n) × (s || is_value_of t p.target n ≡ true)
  second_by t b y true e h =
      let s = promoted_type p b e in
      let v = integer_value s.0 y (subst (λ (u : ValueType). HasType p openings u y) s.1 h) in
      (v.0, v.1, refl)
  second_by t b y false e h = value_of t b y e h

  pub taken_two : (o : BinOp) (t : IntType) (a b r : ValueType) → binary_type p.target o t a b ≡ Some r → (x y : Value) → HasType p openings a x → HasType p openings b y →
      (m : ℤ) × (n : ℤ) × (x ≡ Int m) × (y ≡ Int n) × (takes_both o t p.target m n ≡ true)
  taken_two o t a b r e x y h k =
      let all = both_true (is_promoted p.target t) (is_of t a && second_fits p.target o t b) (when_true (is_promoted p.target t && (is_of t a && second_fits p.target o t b)) (Integer (binary_result o t)) r e) in
      let those = both_true (is_of t a) (second_fits p.target o t b) all.1 in
      let v = value_of t a x those.0 h in
      let w = second_by t b y (is_shift o) those.1 k in
      (v.0, w.0, v.1, w.1, and_true (takes t p.target v.0) (is_shift o || is_value_of t p.target w.0) (and_true (is_promoted p.target t) (is_value_of t p.target v.0) all.0 v.2) w.2)

  -- in a compound assignment what was read is converted first
  promoted_by : (s t : IntType) (o : BinOp) (e : ValueType) (b : Bool) → (if b then same_int (promoted s p.target) t && is_promoted_value p.target e else same_int (usual_of s t p.target) t && is_of t e) ≡ true →
      (is_promoted p.target t ≡ true) × ((if b then is_promoted_value p.target e else is_of t e) ≡ true)
  promoted_by s t o e true h =
      let both = both_true (same_int (promoted s p.target) t) (is_promoted_value p.target e) h in
      let same : promoted s p.target ≡ t = int_same (promoted s p.target) t both.0 in
      (subst (λ (u : IntType). same_int (promoted u p.target) u ≡ true) same (ap (λ (u : IntType). same_int u (promoted s p.target)) (promoted-promoted s p.target) ∙ int_itself (promoted s p.target)), both.1)
  promoted_by s t o e false h =
      let both = both_true (same_int (usual_of s t p.target) t) (is_of t e) h in
      let same : usual_of s t p.target ≡ t = int_same (usual_of s t p.target) t both.0 in
      (subst (λ (u : IntType). same_int (promoted u p.target) u ≡ true) same (ap (λ (u : IntType). same_int u (usual_of s t p.target)) (promoted-usual_of s t p.target) ∙ int_itself (usual_of s t p.target)), both.1)

  pub taken_change : (s t : IntType) (o : BinOp) (e : ValueType) → changes_by p.target s o t e ≡ true → (m : ℤ) (y : Value) → HasType p openings e y → (n : ℤ) × (y ≡ Int n) × (takes_both o t p.target (converted m t p.target) n ≡ true)
  taken_change s t o e c m y h =
      let all = promoted_by s t o e (is_shift o) c in
      let w = second_by t e y (is_shift o) all.1 h in (
        w.0,
        w.1,
        and_true (takes t p.target (converted m t p.target)) (is_shift o || is_value_of t p.target w.0)
            (and_true (is_promoted p.target t) (is_value_of t p.target (converted m t p.target)) all.0 (is_value_from t p.target (converted m t p.target) (converted-IsValueOf m t p.target))) w.2,
      )
