-- Rules that ask what structures contain answer the same where more structures are complete.
use Rattle.std.proofs.Common.{◌≡◌, ℕ, Bool, true, false, ◌&&◌, ◌||◌, List, length, Option, Some, None, Ok, Err, refl, ap, sym, ◌∙◌, arith, [], ◌∷◌}
use Rattle.std.specs.Prelude.{nat_lt, slice_get, if◌then◌else◌}
use Rattle.std.proofs.lemmas.Bool.{lt-ltb}
use Rattle.cc_terms.specs.CcLex.declared.token.Mark.{Mark}
use Rattle.cc_program.specs.CcNum.declared.op.BinOp.{BinOp}
use Rattle.cc_program.specs.CcNum.declared.op.BinOp.TheVariants as op
use Rattle.cc_program.specs.CcNum.declared.target.Target.{Target}
use Rattle.cc_program.specs.declared.expr.Expr.{Move, Gap, Change, After}
use Rattle.cc_program.specs.declared.expr.Place.{Place, Deref}
use Rattle.cc_program.specs.declared.types.CType.{CType}
use Rattle.cc_program.specs.declared.types.Shape.{Shape, out-Shape}
use Rattle.cc_program.specs.declared.types.Shape.TheOpen as shape
use Rattle.cc_program.specs.declared.types.Sig.{Sig}
use Rattle.cc_program.specs.declared.types.Structure.{Structure}
use Rattle.cc_program.proofs.TypeInduction.{TypeParts, by_type}
use Rattle.cc_terms.specs.CcSyntax.Operators.{difference_type, has_difference, points_to_object, is_integer, is_additive}
use Rattle.cc_terms.specs.CcSyntax.Types.{Named, has_members, complete_shape, is_complete}
use Rattle.cc_terms.specs.CcSyntax.Values.{ValueType, NoValue, Integer, ToObject, ToFunction, PlaceType, DevicePlace, ObjectPlace, FunctionPlace, point_alike, written_to, pointed_to, member_in as member_place, member_shape}
use Rattle.cc_terms.proofs.CcSyntax.TypeLayouts.{parts_complete, complete-roll}
use Rattle.cc_terms.specs.CcOperands.Arithmetic.{moved, sum_by, gap, difference_by, binary_by as operator_by, binary_of}
use Rattle.cc_terms.specs.CcOperands.Assignments.{changed_pointer, changed_by, changed_to, stepped_at}
use Rattle.cc_terms.specs.CcOperands.Operands.{Operand, operand, with_value}
use Rattle.cc_terms.specs.CcOperands.Verdicts.{Judged, must}
use Rattle.cc_terms.specs.CcOperands.declared.operator.Operator.{Operator}
use Rattle.cc_terms.specs.CcOperands.declared.operator.Operator.TheVariants as operator
use Rattle.cc_terms.specs.CcOperands.declared.rule.Rule.{Rule}
use Rattle.cc_terms.specs.CcOperands.declared.rule.Rule.TheVariants as rule
use Rattle.cc_terms.specs.CcDesignators.Assignments.{change_of, assign_by, assign_of, one, stepped_before, stepped_after}
use Rattle.cc_terms.specs.CcDesignators.Designators.{TypedExpr, IsPlace, IsValue, IsFunction, IsIntrinsic, IsAddress}
use Rattle.cc_terms.specs.CcDesignators.Postfix.{pointed_by, subscripted, position_in, position_at, member_by, member_at, member_in, dot, arrow_to, arrow}
use Rattle.cc_terms.specs.CcOperands.Operators.{assigns_by}
use Rattle.cc_operand_types.proofs.Operands.{value_ok}
use Rattle.cc_terms.specs.CcTypedTerms.Operators.{binary_by}

-- each structure that has members has these there
abbrev pub AreWithin : List Structure → List Structure → Type 0
AreWithin some all = (i : ℕ) (c : Structure) → slice_get some i ≡ Some c → nat_lt 0 (length c.members) ≡ true → (d : Structure) × (slice_get all i ≡ Some d) × (d.members ≡ c.members)

must_within : {A : Type 0} (b c : Bool) (broken : Rule) (next : Judged A) (r : A) → (b ≡ true → c ≡ true) → must b broken next ≡ Ok r → must c broken next ≡ Ok r
must_within true c broken next r f h = ap (λ (d : Bool). must d broken next) (f refl) ∙ h
must_within false c broken next r f h = absurd (cc)

must_next : {A : Type 0} (b : Bool) (broken : Rule) (next other : Judged A) (r : A) → (next ≡ Ok r → other ≡ Ok r) → must b broken next ≡ Ok r → must b broken other ≡ Ok r
must_next true broken next other r f h = f h
must_next false broken next other r f h = absurd (cc)

value_next : {A : Type 0} (x : Operand) (next other : Judged A) (r : A) → (next ≡ Ok r → other ≡ Ok r) → with_value x next ≡ Ok r → with_value x other ≡ Ok r
value_next x next other r f h =
    let v = value_ok x next r h in
    ap (λ (b : Bool). if b then Err rule.VoidUsed else other) v.0 ∙ f v.1

both_within : (a b c : Bool) → (b ≡ true → c ≡ true) → a && b ≡ true → a && c ≡ true
both_within true b c f h = f h
both_within false b c f h = absurd (cc)

either_within : (a b c : Bool) → (b ≡ true → c ≡ true) → a || b ≡ true → a || c ≡ true
either_within true b c f h = refl
either_within false b c f h = f h

module _ (some all : List Structure) (within : AreWithin some all) where
  -- ---- complete types

  abbrev Stays : CType → Type 0
  Stays t = is_complete some t ≡ true → is_complete all t ≡ true

  content_stays : (i : ℕ) (o : Option Structure) → slice_get some i ≡ o → has_members o ≡ true → has_members (slice_get all i) ≡ true
  content_stays i None e h = absurd (cc)
  content_stays i (Some c) e h = let w = within i c e h in ap has_members w.1 ∙ ap (λ (ms : List Named). nat_lt 0 (length ms)) w.2 ∙ h

  shape_stays : (x : shape.Shape-F Shape CType Sig) → TypeParts Stays (λ s. Unit {0}) x → complete_shape some (parts_complete some x) ≡ true → complete_shape all (parts_complete all x) ≡ true
  shape_stays shape.Void h c = c
  shape_stays (shape.Int t) h c = refl
  shape_stays (shape.Pointer t) h c = refl
  shape_stays (shape.Array t n) h c = both_within (nat_lt 0 n) (is_complete some t) (is_complete all t) h c
  shape_stays (shape.Struct i) h c = content_stays i (slice_get some i) refl c
  shape_stays (shape.Func s) h c = c

  pub complete_within : (t : CType) → is_complete some t ≡ true → is_complete all t ≡ true
  complete_within = by_type Stays (λ s. Unit {0})
      (λ constant volatile x h c. complete-roll all constant volatile x ∙ shape_stays x h (sym (complete-roll some constant volatile x) ∙ c))
      (λ x h. tt)

  pub points_within : (t : ValueType) → points_to_object some t ≡ true → points_to_object all t ≡ true
  points_within NoValue h = h
  points_within (Integer i) h = h
  points_within (ToObject c v t) h = complete_within t h
  points_within (ToFunction s) h = h

  difference_within : (t : ValueType) → has_difference some t ≡ true → has_difference all t ≡ true
  difference_within NoValue h = h
  difference_within (Integer i) h = h
  difference_within (ToObject c v t) h = complete_within t h
  difference_within (ToFunction s) h = h

  -- ---- operators

  moved_within : (back : Bool) (x y r : Operand) → moved some back x y ≡ Ok r → moved all back x y ≡ Ok r
  moved_within back x y r h = must_within (points_to_object some x.type) (points_to_object all x.type) rule.NoSum (Ok (operand (Move x.value y.value back) x.type)) r (points_within x.type) h

  module _ (target : Target) where
    gap_within : (x y r : Operand) → gap target some x y ≡ Ok r → gap target all x y ≡ Ok r
    gap_within x y r h =
        must_within (point_alike x.type y.type && has_difference some x.type) (point_alike x.type y.type && has_difference all x.type) rule.NoSum (Ok (operand (Gap x.value y.value) (Integer (difference_type target)))) r
        (both_within (point_alike x.type y.type) (has_difference some x.type) (has_difference all x.type) (difference_within x.type)) h

    sum_within : (x y r : Operand) (a b : ValueType) → sum_by target some x y a b ≡ Ok r → sum_by target all x y a b ≡ Ok r
    sum_within x y r (Integer i) (Integer j) h = h
    sum_within x y r NoValue (Integer j) h = moved_within false x y r h
    sum_within x y r (ToObject c v t) (Integer j) h = moved_within false x y r h
    sum_within x y r (ToFunction s) (Integer j) h = moved_within false x y r h
    sum_within x y r NoValue NoValue h = h
    sum_within x y r (Integer i) NoValue h = h
    sum_within x y r (ToObject c v t) NoValue h = h
    sum_within x y r (ToFunction s) NoValue h = h
    sum_within x y r NoValue (ToObject c v t) h = h
    sum_within x y r (Integer i) (ToObject c v t) h = h
    sum_within x y r (ToObject c' v' t') (ToObject c v t) h = h
    sum_within x y r (ToFunction s) (ToObject c v t) h = h
    sum_within x y r NoValue (ToFunction s) h = h
    sum_within x y r (Integer i) (ToFunction s) h = h
    sum_within x y r (ToObject c v t) (ToFunction s) h = h
    sum_within x y r (ToFunction s') (ToFunction s) h = h

    difference_by_within : (x y r : Operand) (a b : ValueType) → difference_by target some x y a b ≡ Ok r → difference_by target all x y a b ≡ Ok r
    difference_by_within x y r (Integer i) (Integer j) h = h
    difference_by_within x y r NoValue (Integer j) h = moved_within true x y r h
    difference_by_within x y r (ToObject c v t) (Integer j) h = moved_within true x y r h
    difference_by_within x y r (ToFunction s) (Integer j) h = moved_within true x y r h
    difference_by_within x y r NoValue NoValue h = gap_within x y r h
    difference_by_within x y r (Integer i) NoValue h = gap_within x y r h
    difference_by_within x y r (ToObject c v t) NoValue h = gap_within x y r h
    difference_by_within x y r (ToFunction s) NoValue h = gap_within x y r h
    difference_by_within x y r NoValue (ToObject c v t) h = gap_within x y r h
    difference_by_within x y r (Integer i) (ToObject c v t) h = gap_within x y r h
    difference_by_within x y r (ToObject c' v' t') (ToObject c v t) h = gap_within x y r h
    difference_by_within x y r (ToFunction s) (ToObject c v t) h = gap_within x y r h
    difference_by_within x y r NoValue (ToFunction s) h = gap_within x y r h
    difference_by_within x y r (Integer i) (ToFunction s) h = gap_within x y r h
    difference_by_within x y r (ToObject c v t) (ToFunction s) h = gap_within x y r h
    difference_by_within x y r (ToFunction s') (ToFunction s) h = gap_within x y r h

    operator_within : (o : Operator) (x y r : Operand) → operator_by target some o x y ≡ Ok r → operator_by target all o x y ≡ Ok r
    operator_within (operator.OfIntegers o) x y r h = h
    operator_within operator.Sum x y r h = sum_within x y r x.type y.type h
    operator_within operator.Difference x y r h = difference_by_within x y r x.type y.type h
    operator_within (operator.Comparison o) x y r h = h
    operator_within operator.Both x y r h = h
    operator_within operator.Either x y r h = h

    pub binary_within : (o : Operator) (x y r : Operand) → binary_of target some o x y ≡ Ok r → binary_of target all o x y ≡ Ok r
    binary_within o x y r h =
        value_next x (with_value y (operator_by target some o x y)) (with_value y (operator_by target all o x y)) r
        (value_next y (operator_by target some o x y) (operator_by target all o x y) r (operator_within o x y r)) h

    -- ---- assignments

    pointer_within : (o : BinOp) (a : Place) (to : ValueType) (x r : Operand) (b : ValueType) → changed_pointer some o a to x b ≡ Ok r → changed_pointer all o a to x b ≡ Ok r
    pointer_within o a to x r (Integer j) h =
        must_next (is_additive o) rule.NoInteger (must (points_to_object some to) rule.NoSum (Ok (operand (Change a o j x.value) to))) (must (points_to_object all to) rule.NoSum (Ok (operand (Change a o j x.value) to))) r
        (must_within (points_to_object some to) (points_to_object all to) rule.NoSum (Ok (operand (Change a o j x.value) to)) r (points_within to)) h
    pointer_within o a to x r NoValue h = h
    pointer_within o a to x r (ToObject c v t) h = h
    pointer_within o a to x r (ToFunction s) h = h

    by_within : (o : BinOp) (a : Place) (x r : Operand) (to : ValueType) → changed_by target some o a x to ≡ Ok r → changed_by target all o a x to ≡ Ok r
    by_within o a x r (Integer s) h = h
    by_within o a x r NoValue h = h
    by_within o a x r (ToObject c v t) h = pointer_within o a (ToObject c v t) x r x.type h
    by_within o a x r (ToFunction s) h = pointer_within o a (ToFunction s) x r x.type h

    to_within : (o : BinOp) (a : Place) (x r : Operand) (to : Option ValueType) → changed_to target some o a x to ≡ Ok r → changed_to target all o a x to ≡ Ok r
    to_within o a x r None h = h
    to_within o a x r (Some to) h = by_within o a x r to h

    change_within : (o : BinOp) (a : TypedExpr) (x r : Operand) → change_of target some o a x ≡ Ok r → change_of target all o a x ≡ Ok r
    change_within o (IsPlace a t) x r h = value_next x (changed_to target some o a x (written_to t)) (changed_to target all o a x (written_to t)) r (to_within o a x r (written_to t)) h
    change_within o (IsValue y) x r h = h
    change_within o (IsFunction f s) x r h = h
    change_within o (IsIntrinsic i at) x r h = h
    change_within o (IsAddress n t at) x r h = h

    assign_by_within : (o : Option BinOp) (a : TypedExpr) (x r : Operand) → assign_by target some o a x ≡ Ok r → assign_by target all o a x ≡ Ok r
    assign_by_within None a x r h = h
    assign_by_within (Some o) a x r h = change_within o a x r h

    pub assign_within : (mark : Mark) (a : TypedExpr) (x r : Operand) → assign_of target some mark a x ≡ Ok r → assign_of target all mark a x ≡ Ok r
    assign_within mark a x r h = assign_by_within (assigns_by mark) a x r h

    pub before_within : (down : Bool) (a : TypedExpr) (r : Operand) → stepped_before target some down a ≡ Ok r → stepped_before target all down a ≡ Ok r
    before_within down a r h = change_within (if down then op.Sub else op.Add) a (one target) r h

    pub binary_by_within : (o : Option Operator) (x y r : Operand) → binary_by target some o x y ≡ Ok r → binary_by target all o x y ≡ Ok r
    binary_by_within None x y r h = h
    binary_by_within (Some o) x y r h = binary_within o x y r h

  step_within : (b : Bool) (down : Bool) (a : Place) (to : ValueType) (r : Operand) →
      (if b then Ok (operand (After a down) to) else must (points_to_object some to) rule.NoSum (Ok (operand (After a down) to))) ≡ Ok r →
      (if b then Ok (operand (After a down) to) else must (points_to_object all to) rule.NoSum (Ok (operand (After a down) to))) ≡ Ok r
  step_within true down a to r h = h
  step_within false down a to r h = must_within (points_to_object some to) (points_to_object all to) rule.NoSum (Ok (operand (After a down) to)) r (points_within to) h

  at_within : (down : Bool) (a : Place) (to : Option ValueType) (r : Operand) → stepped_at some down a to ≡ Ok r → stepped_at all down a to ≡ Ok r
  at_within down a None r h = h
  at_within down a (Some to) r h = step_within (is_integer to) down a to r h

  pub after_within : (down : Bool) (a : TypedExpr) (r : Operand) → stepped_after some down a ≡ Ok r → stepped_after all down a ≡ Ok r
  after_within down (IsPlace a t) r h = at_within down a (written_to t) r h
  after_within down (IsValue y) r h = h
  after_within down (IsFunction f s) r h = h
  after_within down (IsIntrinsic i at) r h = h
  after_within down (IsAddress n t at) r h = h

  -- ---- designators

  pub subscripted_within : (x i : Operand) (r : TypedExpr) → subscripted some x i ≡ Ok r → subscripted all x i ≡ Ok r
  subscripted_within x i r h =
      value_next x (with_value i (must (is_integer i.type && points_to_object some x.type) rule.Subscript (pointed_by (Move x.value i.value false) (pointed_to x.type))))
      (with_value i (must (is_integer i.type && points_to_object all x.type) rule.Subscript (pointed_by (Move x.value i.value false) (pointed_to x.type)))) r
      (value_next i (must (is_integer i.type && points_to_object some x.type) rule.Subscript (pointed_by (Move x.value i.value false) (pointed_to x.type)))
      (must (is_integer i.type && points_to_object all x.type) rule.Subscript (pointed_by (Move x.value i.value false) (pointed_to x.type))) r
      (must_within (is_integer i.type && points_to_object some x.type) (is_integer i.type && points_to_object all x.type) rule.Subscript (pointed_by (Move x.value i.value false) (pointed_to x.type)) r
      (both_within (is_integer i.type) (points_to_object some x.type) (points_to_object all x.type) (points_within x.type)))) h

  -- a member of a structure: by its content alone
  abbrev chosen : Rule → Place → Bool → Bool → Option Structure → Option ℕ → Judged TypedExpr
  chosen broken a c v o None = Err broken
  chosen broken a c v o (Some m) = member_by broken a m (member_place c v m o)

  abbrev member : Rule → List ℕ → Place → Bool → Bool → Option Structure → Judged TypedExpr
  member broken x a c v o = chosen broken a c v o (position_in x o)

  content_same : (broken : Rule) (x : List ℕ) (a : Place) (c v : Bool) (tag tag' : List ℕ) (ms : List Named) →
      member broken x a c v (Some (record { tag = tag; members = ms })) ≡ member broken x a c v (Some (record { tag = tag'; members = ms }))
  content_same broken x a c v tag tag' ms = refl

  content_within : (broken : Rule) (x : List ℕ) (a : Place) (c v : Bool) (d e : Structure) → d.members ≡ e.members → member broken x a c v (Some e) ≡ member broken x a c v (Some d)
  content_within broken x a c v d e h = ap (λ (ms : List Named). member broken x a c v (Some (record { tag = e.tag; members = ms }))) (sym h) ∙ content_same broken x a c v e.tag d.tag d.members

  no_member : (broken : Rule) (x : List ℕ) (a : Place) (c v : Bool) (tag : List ℕ) (ms : List Named) (r : TypedExpr) → nat_lt 0 (length ms) ≡ false → member broken x a c v (Some (record { tag = tag; members = ms })) ≡ Ok r → ⊥
  no_member broken x a c v tag [] r f h = absurd (cc)
  no_member broken x a c v tag (m ∷ ms) r f h = let e : nat_lt 0 (length (m ∷ ms)) ≡ true = lt-ltb 0 (length (m ∷ ms)) (omega arith) in let g : true ≡ false = sym e ∙ f in absurd (cc)

  content_there : (broken : Rule) (x : List ℕ) (a : Place) (c v : Bool) (i : ℕ) (s : Structure) (b : Bool) (r : TypedExpr) → slice_get some i ≡ Some s → nat_lt 0 (length s.members) ≡ b → member broken x a c v (Some s) ≡ Ok r →
      member broken x a c v (slice_get all i) ≡ Ok r
  content_there broken x a c v i s false r e f h = absurd (no_member broken x a c v s.tag s.members r f h)
  content_there broken x a c v i s true r e f h =
      let w = within i s e f in
      ap (member broken x a c v) w.1 ∙ content_within broken x a c v s w.0 (sym w.2) ∙ h

  member_within : (broken : Rule) (x : List ℕ) (a : Place) (c v : Bool) (i : ℕ) (o : Option Structure) (r : TypedExpr) → slice_get some i ≡ o → member broken x a c v o ≡ Ok r → member broken x a c v (slice_get all i) ≡ Ok r
  member_within broken x a c v i None r e h = absurd (cc)
  member_within broken x a c v i (Some s) r e h = content_there broken x a c v i s (nat_lt 0 (length s.members)) r e refl h

  abbrev placed : List Structure → Rule → List ℕ → Place → Bool → Bool → CType → shape.Shape-F Shape CType Sig → Judged TypedExpr
  placed structures broken x a c v t (shape.Struct i) = member broken x a c v (slice_get structures i)
  placed structures broken x a c v t shape.Void = Err broken
  placed structures broken x a c v t (shape.Int j) = Err broken
  placed structures broken x a c v t (shape.Pointer to) = Err broken
  placed structures broken x a c v t (shape.Array of n) = Err broken
  placed structures broken x a c v t (shape.Func s) = Err broken

  -- the rule, by the shape of the type
  by_position : (structures : List Structure) (broken : Rule) (a : Place) (c v : Bool) (t : CType) (i : ℕ) (m : Option ℕ) → out-Shape t.shape ≡ shape.Struct i →
      member_at structures broken a (ObjectPlace c v t) m ≡ chosen broken a c v (slice_get structures i) m
  by_position structures broken a c v t i None e = refl
  by_position structures broken a c v t i (Some m) e = ap (λ (y : shape.Shape-F Shape CType Sig). member_by broken a m (member_shape structures c v m y)) e

  by_shape : (structures : List Structure) (broken : Rule) (x : List ℕ) (a : Place) (c v : Bool) (t : CType) (y : shape.Shape-F Shape CType Sig) → out-Shape t.shape ≡ y →
      member_in structures broken x a (ObjectPlace c v t) ≡ placed structures broken x a c v t y
  by_shape structures broken x a c v t (shape.Struct i) e =
      ap (λ (y : shape.Shape-F Shape CType Sig). member_at structures broken a (ObjectPlace c v t) (position_at structures x y)) e
      ∙ by_position structures broken a c v t i (position_in x (slice_get structures i)) e
  by_shape structures broken x a c v t shape.Void e = ap (λ (y : shape.Shape-F Shape CType Sig). member_at structures broken a (ObjectPlace c v t) (position_at structures x y)) e
  by_shape structures broken x a c v t (shape.Int j) e = ap (λ (y : shape.Shape-F Shape CType Sig). member_at structures broken a (ObjectPlace c v t) (position_at structures x y)) e
  by_shape structures broken x a c v t (shape.Pointer to) e = ap (λ (y : shape.Shape-F Shape CType Sig). member_at structures broken a (ObjectPlace c v t) (position_at structures x y)) e
  by_shape structures broken x a c v t (shape.Array of n) e = ap (λ (y : shape.Shape-F Shape CType Sig). member_at structures broken a (ObjectPlace c v t) (position_at structures x y)) e
  by_shape structures broken x a c v t (shape.Func s) e = ap (λ (y : shape.Shape-F Shape CType Sig). member_at structures broken a (ObjectPlace c v t) (position_at structures x y)) e

  placed_within : (broken : Rule) (x : List ℕ) (a : Place) (c v : Bool) (t : CType) (y : shape.Shape-F Shape CType Sig) (r : TypedExpr) → placed some broken x a c v t y ≡ Ok r → placed all broken x a c v t y ≡ Ok r
  placed_within broken x a c v t (shape.Struct i) r h = member_within broken x a c v i (slice_get some i) r refl h
  placed_within broken x a c v t shape.Void r h = absurd (cc)
  placed_within broken x a c v t (shape.Int j) r h = absurd (cc)
  placed_within broken x a c v t (shape.Pointer to) r h = absurd (cc)
  placed_within broken x a c v t (shape.Array of n) r h = absurd (cc)
  placed_within broken x a c v t (shape.Func s) r h = absurd (cc)

  member_in_within : (broken : Rule) (x : List ℕ) (a : Place) (t : PlaceType) (r : TypedExpr) → member_in some broken x a t ≡ Ok r → member_in all broken x a t ≡ Ok r
  member_in_within broken x a (DevicePlace c i) r h = absurd (cc)
  member_in_within broken x a (ObjectPlace c v t) r h =
      by_shape all broken x a c v t (out-Shape t.shape) refl
      ∙ placed_within broken x a c v t (out-Shape t.shape) r (sym (by_shape some broken x a c v t (out-Shape t.shape) refl) ∙ h)
  member_in_within broken x a (FunctionPlace s) r h = absurd (cc)

  pub dot_within : (x : List ℕ) (a r : TypedExpr) → dot some x a ≡ Ok r → dot all x a ≡ Ok r
  dot_within x (IsPlace a t) r h = member_in_within rule.Member x a t r h
  dot_within x (IsValue y) r h = h
  dot_within x (IsFunction f s) r h = h
  dot_within x (IsIntrinsic i at) r h = h
  dot_within x (IsAddress n t at) r h = h

  arrow_to_within : (x : List ℕ) (p : Operand) (t : Option PlaceType) (r : TypedExpr) → arrow_to some x p t ≡ Ok r → arrow_to all x p t ≡ Ok r
  arrow_to_within x p None r h = h
  arrow_to_within x p (Some t) r h = member_in_within rule.Arrow x (Deref p.value) t r h

  pub arrow_within : (x : List ℕ) (p : Operand) (r : TypedExpr) → arrow some x p ≡ Ok r → arrow all x p ≡ Ok r
  arrow_within x p r h = value_next p (arrow_to some x p (pointed_to p.type)) (arrow_to all x p (pointed_to p.type)) r (arrow_to_within x p (pointed_to p.type) r) h
