-- What values and designators add.
use Rattle.std.proofs.Common.{◌≡◌, ◌+◌, ℕ, Ok, arith}
use Rattle.cc_type.specs.CcDesignators.Designators.{TypedExpr, IsPlace, IsValue, IsFunction, IsIntrinsic, IsAddress}
use Rattle.cc_type.specs.CcOperands.Operands.{Operand}
use Rattle.cc_type.specs.CcOperands.Verdicts.{Judged}
use Rattle.cc_type.specs.CcTypedTerms.Values.{null_judged, found_value, gives, valued, value_found, value, designating, designated_found, designator}
use Rattle.cc_type.specs.CcScopes.State.{State}
use Rattle.cc_type.specs.CcScopes.Verdicts.{Found, and_then}
use Rattle.cc_sound_terms.proofs.Founds.{answer_is, whole_found}
use Rattle.cc_sound_terms.proofs.Meant.{valued_stays}
use Rattle.cc_type.specs.CcTerms.Meanings.{TreeMeaning}
use Rattle.cc_tree.specs.declared.at.At.{At}
use Rattle.cc_named_units.specs.Named.{Limits, Adds}
use Rattle.cc_named_units.proofs.Adding.{unmoved, chained, before, judged}

pub designating_stays : (x : TypedExpr) (s : State) (r : TypedExpr × State) → designating x s ≡ Ok r → r.1 ≡ s
designating_stays (IsPlace a t) s r h = (answer_is (IsPlace a t) s r h).1
designating_stays (IsValue x) s r h = (answer_is (IsValue x) s r h).1
designating_stays (IsFunction f sig) s r h = (answer_is (IsFunction f sig) s r h).1
designating_stays (IsIntrinsic i place) s r h = absurd (cc)
designating_stays (IsAddress n t place) s r h = (whole_found place s (found_value (null_judged n t)) r h).1

module _ (most : Limits) where
  -- an expression that adds no more than so many
  abbrev pub TreeAdds : ℕ → TreeMeaning → Type 0
  TreeAdds c m = (at : ℕ) (s : State) (r : TypedExpr × State) → m at s ≡ Ok r → Adds most c s r.1

  pub given : (c at : ℕ) (s : State) (j : Judged Operand) (r : TypedExpr × State) → gives at s j ≡ Ok r → Adds most c s r.1
  given c at s j r h = judged most c at s (found_value j) r h

  pub value_adds : (c : ℕ) (e : At TreeMeaning) → TreeAdds c e.node → (s : State) (r : Operand × State) → value_found e s ≡ Ok r → Adds most c s r.1
  value_adds c e m s r h = before most c (e.node e.at s) (valued e.at) s r (λ x f. m e.at s x f) (λ x f. unmoved most 0 x.1 r.1 (valued_stays e.at x.0 x.1 r f)) h

  pub designated_adds : (c : ℕ) (e : At TreeMeaning) → TreeAdds c e.node → (s : State) (r : TypedExpr × State) → designated_found e s ≡ Ok r → Adds most c s r.1
  designated_adds c e m s r h = before most c (e.node e.at s) designating s r (λ x f. m e.at s x f) (λ x f. unmoved most 0 x.1 r.1 (designating_stays x.0 x.1 r f)) h

  -- with what stands behind it
  pub value_then : {B : Type 0} (a b : ℕ) (e : At TreeMeaning) → TreeAdds a e.node → (next : Operand → State → Found B) (s : State) (r : B × State) →
      ((x : Operand × State) → next x.0 x.1 ≡ Ok r → Adds most b x.1 r.1) → value e s next ≡ Ok r → Adds most (a + b) s r.1
  value_then a b e m next s r g h = chained most a b (a + b) (value_found e s) next s r (omega arith) (λ x f. value_adds a e m s x f) g h

  pub designator_then : {B : Type 0} (a b : ℕ) (e : At TreeMeaning) → TreeAdds a e.node → (next : TypedExpr → State → Found B) (s : State) (r : B × State) →
      ((x : TypedExpr × State) → next x.0 x.1 ≡ Ok r → Adds most b x.1 r.1) → designator e s next ≡ Ok r → Adds most (a + b) s r.1
  designator_then a b e m next s r g h = chained most a b (a + b) (designated_found e s) next s r (omega arith) (λ x f. designated_adds a e m s x f) g h

  pub part_then : {B : Type 0} (a b : ℕ) (e : At TreeMeaning) → TreeAdds a e.node → (next : TypedExpr → State → Found B) (s : State) (r : B × State) →
      ((x : TypedExpr × State) → next x.0 x.1 ≡ Ok r → Adds most b x.1 r.1) → and_then (e.node e.at s) next ≡ Ok r → Adds most (a + b) s r.1
  part_then a b e m next s r g h = chained most a b (a + b) (e.node e.at s) next s r (omega arith) (λ x f. m e.at s x f) g h

  -- where nothing is added behind it
  pub sole_value : {B : Type 0} (c : ℕ) (e : At TreeMeaning) → TreeAdds c e.node → (next : Operand → State → Found B) (s : State) (r : B × State) →
      ((x : Operand × State) → next x.0 x.1 ≡ Ok r → Adds most 0 x.1 r.1) → value e s next ≡ Ok r → Adds most c s r.1
  sole_value c e m next s r g h = before most c (value_found e s) next s r (λ x f. value_adds c e m s x f) g h

  pub sole_designator : {B : Type 0} (c : ℕ) (e : At TreeMeaning) → TreeAdds c e.node → (next : TypedExpr → State → Found B) (s : State) (r : B × State) →
      ((x : TypedExpr × State) → next x.0 x.1 ≡ Ok r → Adds most 0 x.1 r.1) → designator e s next ≡ Ok r → Adds most c s r.1
  sole_designator c e m next s r g h = before most c (designated_found e s) next s r (λ x f. designated_adds c e m s x f) g h
