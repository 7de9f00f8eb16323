-- Lowered assignments: `=`, `op=`, `++` and `--`.
use Rattle.std.proofs.Common.{◌≡◌, ℕ, Bool, true, false, not, ◌&&◌, ◌||◌, List, Option, Some, None, is_some, refl, ap, sym, ◌∙◌, subst}
use Rattle.std.specs.Prelude.{pos, if◌then◌else◌}
use Rattle.cc_program.specs.CcNum.declared.int_type.IntType.{IntType}
use Rattle.cc_program.specs.CcNum.declared.int_type.IntType.TheVariants as int
use Rattle.cc_program.specs.CcNum.declared.op.BinOp.{BinOp}
use Rattle.cc_program.specs.CcNum.declared.target.Target.{Target}
use Rattle.cc_program.specs.CcNum.Promotions.{promoted, usual_of}
use Rattle.cc_program.specs.CcNum.Results.{is_shift}
use Rattle.cc_eval.specs.Eval.{is_back, sum_or_difference, one_more_type}
use Rattle.cc_lower_expressions.specs.Expressions.{done, ◌>>=◌, emit, temp, into, fresh, Lowering, PlaceLowering, value_of, number_of, place_and, read_at, assigned_value, assignment, conv_unless, folded_bin, folded_conv, changed, change, changed_value, change_alone, stepped, step_value, step_alone}
use Rattle.cc_lower_expressions.specs.Temporaries.{declared_type, is_same_type}
use Rattle.cc_operand_types.proofs.Constants.{truth_fits}
use Rattle.cc_operand_types.proofs.Integers.{when_two, when_three, promoted_is, usual_is}
use Rattle.cc_operand_types.proofs.Usual.{usual_again}
use Rattle.cc_program.specs.declared.expr.Expr.{Expr, Const, Load, Assign}
use Rattle.cc_program.specs.declared.expr.Expr.TheOpen as one
use Rattle.cc_program.specs.declared.expr.Place.{Place}
use Rattle.cc_program.specs.declared.func.Func.{Func}
use Rattle.cc_program.specs.declared.program.Program.{Program}
use Rattle.cc_program.specs.declared.stmt.Stmt.{Do}
use Rattle.cc_program.specs.declared.types.Structure.{Structure}
use Rattle.cc_eval.specs.CcSyntax.Effects.{Registers, also}
use Rattle.cc_eval.specs.CcSyntax.Expressions.{of_one, of_two}
use Rattle.cc_eval.specs.CcSyntax.Operators.{binary_type, binary_result, is_comparison, is_additive, is_promoted, is_promoted_value, is_of, is_integer, second_fits, points_to_object, assignment_type, change_type, changes_by, after_type}
use Rattle.cc_eval.specs.CcSyntax.SameTypes.{same_int}
use Rattle.cc_eval.specs.CcSyntax.Types.{is_complete}
use Rattle.cc_eval.specs.CcSyntax.Values.{ValueType, NoValue, Integer, ToObject, ToFunction, PlaceType, DevicePlace, ObjectPlace, FunctionPlace, is_scalar, is_assignable, scalar_value, read_from, written_to}
use Rattle.cc_eval.proofs.CcSyntax.SameLemmas.{int_same, int_itself}
use Rattle.cc_lower_sound.proofs.Bools.{two, first_true, second_true}
use Rattle.cc_lower_sound.proofs.LoweringParts.{low, place_low}
use Rattle.cc_lower_sound.proofs.Pieces.{Any, gives_done, gives_bind, gives_under, gives_emit, gives_fresh, gives_into, gives_if, gives_both}
use Rattle.cc_lower_sound.proofs.Readings.{Reading, Laws, typed, placed, Makes, IsLowered, IsLoweredPlace, takes_own, assigns_itself}
use Rattle.cc_lower_sound.proofs.Scalars.{has_one, has_two, passes, of_scalar, second_scalar, assigned_scalar, assigned_to_scalar}
use Rattle.cc_lower_sound.proofs.LoweredOperands.{Claim, PlaceClaim, At, whole_made}
use Rattle.cc_lower_sound.proofs.LoweredPlaces.{Named, named_operands, local_place, value-is, read_at_made}

-- ---- types

-- what is written can be read
unless_const : (c : Bool) (x : Option ValueType) (t : ValueType) → (if c then None else x) ≡ Some t → x ≡ Some t
unless_const true x t h = absurd (cc)
unless_const false x t h = h

pub written_reads : (a : PlaceType) (t : ValueType) → written_to a ≡ Some t → read_from a ≡ Some t
written_reads (DevicePlace c i) t h = unless_const c (Some (Integer i)) t h
written_reads (ObjectPlace c v u) t h = unless_const c (scalar_value u) t h
written_reads (FunctionPlace s) t h = absurd (cc)

register_there : (o : Option ℕ) → is_some o ≡ true → (r : ℕ) × (o ≡ Some r)
register_there None h = absurd (cc)
register_there (Some r) h = (r, refl)

-- the operator of an assignment works in its type
abbrev working : Target → BinOp → IntType → ValueType → Bool
working target o i t = is_promoted target i && second_fits target o i t

working_by : (shift : Bool) (target : Target) (s i : IntType) (t : ValueType) →
    (if shift then same_int (promoted s target) i && is_promoted_value target t else same_int (usual_of s i target) i && is_of i t) ≡ true → (is_promoted target i && (if shift then is_promoted_value target t else is_of i t)) ≡ true
working_by true target s i t h =
    two (is_promoted target i) (is_promoted_value target t) (subst (λ (j : IntType). is_promoted target j ≡ true) (int_same (promoted s target) i (first_true (same_int (promoted s target) i) (is_promoted_value target t) h)) (promoted_is s target))
    (second_true (same_int (promoted s target) i) (is_promoted_value target t) h)
working_by false target s i t h =
    two (is_promoted target i) (is_of i t) (subst (λ (j : IntType). is_promoted target j ≡ true) (int_same (usual_of s i target) i (first_true (same_int (usual_of s i target) i) (is_of i t) h)) (usual_is s i target))
    (second_true (same_int (usual_of s i target) i) (is_of i t) h)

works : (target : Target) (o : BinOp) (s i : IntType) (t : ValueType) → changes_by target s o i t ≡ true → working target o i t ≡ true
works target o s i t h = working_by (is_shift o) target s i t h

arithmetic : (o : BinOp) (i : IntType) (c : Bool) → is_comparison o ≡ c → not c ≡ true → binary_result o i ≡ i
arithmetic o i true e h = absurd (cc)
arithmetic o i false e h = ap (λ (b : Bool). if b then int.Int else i) e

of_integer : (i : IntType) (t : ValueType) → is_of i t ≡ true → is_integer t ≡ true
of_integer i NoValue h = absurd (cc)
of_integer i (Integer s) h = refl
of_integer i (ToObject c v t) h = absurd (cc)
of_integer i (ToFunction s) h = absurd (cc)

-- what an assignment with an operator gives, and what its operands are
pub record Changes (to te t : ValueType) : Type 0 where
  pub is : to ≡ t
  pub scalar : is_scalar to ≡ true
  pub operand : is_scalar te ≡ true

pub change_is : (structures : List Structure) (target : Target) (o : BinOp) (i : IntType) (to te t : ValueType) → change_type structures target o i to te ≡ Some t → Changes to te t
change_is structures target o i NoValue te t h = absurd (cc)
change_is structures target o i (Integer s) te t h =
    let x = passes (not (is_comparison o) && changes_by target s o i te) (Integer s) t h in
    record { is = x.is; scalar = refl; operand = second_scalar target o i te (second_true (is_promoted target i) (second_fits target o i te) (works target o s i te (second_true (not (is_comparison o)) (changes_by target s o i te) x.test))) }
change_is structures target o i (ToObject c v u) te t h =
    let x = passes (is_additive o && (is_complete structures u && is_of i te)) (ToObject c v u) t h in
    record { is = x.is; scalar = refl; operand = of_scalar i te (second_true (is_complete structures u) (is_of i te) (second_true (is_additive o) (is_complete structures u && is_of i te) x.test)) }
change_is structures target o i (ToFunction s) te t h = absurd (cc)

-- `++` is `+= 1`
no_shift : (down : Bool) → (is_shift (sum_or_difference down) ≡ false) × (not (is_comparison (sum_or_difference down)) ≡ true) × (is_additive (sum_or_difference down) ≡ true)
no_shift true = (refl, refl, refl)
no_shift false = (refl, refl, refl)

steps_by : (structures : List Structure) (target : Target) (down : Bool) (to : ValueType) → (is_integer to || points_to_object structures to) ≡ true →
    change_type structures target (sum_or_difference down) (one_more_type target (Some to)) to (Integer (one_more_type target (Some to))) ≡ Some to
steps_by structures target down NoValue h = absurd (cc)
steps_by structures target down (Integer s) h =
    let i : IntType = usual_of s int.Int target in
    when_two (not (is_comparison (sum_or_difference down))) (changes_by target s (sum_or_difference down) i (Integer i)) (Integer s) (no_shift down).1
    (ap (λ (b : Bool). if b then same_int (promoted s target) i && is_promoted_value target (Integer i) else same_int (usual_of s i target) i && is_of i (Integer i)) (no_shift down).0
    ∙ two (same_int (usual_of s i target) i) (same_int i i) (ap (λ (j : IntType). same_int j i) (usual_again s int.Int target) ∙ int_itself i) (int_itself i))
steps_by structures target down (ToObject c v u) h = when_three (is_additive (sum_or_difference down)) (is_complete structures u) (same_int int.Int int.Int) (ToObject c v u) (no_shift down).2 h (int_itself int.Int)
steps_by structures target down (ToFunction s) h = absurd (cc)

steps_scalar : (structures : List Structure) (to : ValueType) → (is_integer to || points_to_object structures to) ≡ true → is_scalar to ≡ true
steps_scalar structures NoValue h = absurd (cc)
steps_scalar structures (Integer s) h = refl
steps_scalar structures (ToObject c v u) h = refl
steps_scalar structures (ToFunction s) h = refl

module _ (p : Program) (f : Func) (w : Reading) (laws : Laws p f w) where
  -- ---- the new value

  converted_by : (s t : IntType) (e : Expr) (b : Bool) → same_int s t ≡ b → w.Val (Integer s) e → w.Val (Integer t) (if b then e else folded_conv p f declared_type is_same_type t e)
  converted_by s t e true h v = subst (λ (i : IntType). w.Val (Integer i) e) (int_same s t h) v
  converted_by s t e false h v = laws.conversion t (Integer s) (Integer t) e v refl

  pub converted_made : (s t : IntType) (e : Expr) → w.Val (Integer s) e → w.Val (Integer t) (conv_unless p f declared_type is_same_type s t e)
  converted_made s t e v = converted_by s t e (same_int s t) refl v

  pub changed_made : (o : BinOp) (i : IntType) (to te t : ValueType) (old v : Expr) → change_type p.structures p.target o i to te ≡ Some t → w.Val to old → w.Val te v → w.Val to (changed p f declared_type is_same_type o i (Some to) old v)
  changed_made o i NoValue te t old v h x y = absurd (cc)
  changed_made o i (Integer s) te t old v h x y =
      let k = passes (not (is_comparison o) && changes_by p.target s o i te) (Integer s) t h in
      let n = first_true (not (is_comparison o)) (changes_by p.target s o i te) k.test in
      let q = works p.target o s i te (second_true (not (is_comparison o)) (changes_by p.target s o i te) k.test) in
      let r : binary_type p.target o i (Integer i) te ≡ Some (Integer i) =
      when_three (is_promoted p.target i) (same_int i i) (second_fits p.target o i te) (Integer (binary_result o i)) (first_true (is_promoted p.target i) (second_fits p.target o i te) q) (int_itself i)
      (second_true (is_promoted p.target i) (second_fits p.target o i te) q) ∙ ap (λ (j : IntType). Some (Integer j)) (arithmetic o i (is_comparison o) refl n) in
      converted_made i s (folded_bin p f declared_type is_same_type o i (conv_unless p f declared_type is_same_type s i old) v)
      (laws.binary o i (Integer i) te (Integer i) (conv_unless p f declared_type is_same_type s i old) v (converted_made s i old x) y r)
  changed_made o i (ToObject c v u) te t old e h x y =
      let k = passes (is_additive o && (is_complete p.structures u && is_of i te)) (ToObject c v u) t h in
      let q = second_true (is_additive o) (is_complete p.structures u && is_of i te) k.test in
      laws.moved (ToObject c v u) te (ToObject c v u) old e (is_back o) x y
      (when_two (is_complete p.structures u) (is_integer te) (ToObject c v u) (first_true (is_complete p.structures u) (is_of i te) q) (of_integer i te (second_true (is_complete p.structures u) (is_of i te) q)))
  changed_made o i (ToFunction s) te t old v h x y = absurd (cc)

  -- ---- a place that is assigned to

  module _ (a : Place) (at : PlaceType) (to : ValueType) (h : IsLoweredPlace p f w at (place_low p f a)) (writes : written_to at ≡ Some to) (scalar : is_scalar to ≡ true) (stands : w.declares to ≡ true) where
    abbrev l : PlaceLowering
    l = place_low p f a

    value_there : value_of l ≡ Some to
    value_there = value-is p f w laws a at h to (written_reads at to writes) scalar stands

    -- a value of the place's own type
    own : (b : Place) (e : Expr) → w.Pla at b → w.Val to e → w.Stm (Do (Assign b e))
    own b e x y = laws.assign at to to b e x writes (assigns_itself to scalar) y

    -- ---- a place and a right side

    module _ (e : Expr) (te : ValueType) (k : IsLowered p f w te (low p f e)) (operand : is_scalar te ≡ true) where
      abbrev r : Lowering
      r = low p f e

      abbrev Both : Place × Expr → Type 0
      Both x = (w.Pla at x.0 × Named p f w laws a at h x.0) × w.Val te x.1

      pub place_and_made : (later : Registers) → Makes p f w (Unit {0}) Both (place_and l r later)
      place_and_made later =
          gives_both {U = Both} (λ b v. (b, v)) (l.operands (also r.effects.assigned later)) (r.operand later) (λ b v q x y. (x, y)) (named_operands p f w laws a at h (also r.effects.assigned later)) (k.operand operand later)

      -- ---- `=`

      module _ (fits : is_assignable to te ≡ true) where
        pub assigned_made : (later : Registers) → Makes p f w (Unit {0}) (w.Val to) (assigned_value l r later)
        assigned_made later =
            gives_bind (l.operands (also r.effects.assigned later))
            (λ b. fresh (value_of l) >>= (λ n. r.whole (value_of l) n later >>= (λ u. emit (Do (Assign b (temp n))) >>= (λ u. done (temp n)))))
            (h.operands (also r.effects.assigned later))
            (λ b. gives_bind (fresh (value_of l)) (λ n. r.whole (value_of l) n later >>= (λ u. emit (Do (Assign b (temp n))) >>= (λ u. done (temp n))))
            (gives_fresh (value_of l) to value_there scalar stands)
            (λ n. gives_bind (r.whole (value_of l) n later) (λ u. emit (Do (Assign b (temp n))) >>= (λ u. done (temp n)))
            (gives_under (λ q. laws.takes n to te q.1 scalar stands fits) (k.whole operand (value_of l) n later))
            (λ u. gives_bind (emit (Do (Assign b (temp n)))) (λ u. done (temp n))
            (gives_emit (Do (Assign b (temp n))) (λ q. own b (temp n) q.0.0.1 (laws.temporary n to q.0.1 scalar stands)))
            (λ u. gives_done (temp n) (λ q. laws.temporary n to q.0.0.1 scalar stands)))))

        taken : (n : ℕ) → l.effects.register ≡ Some n → w.Takes n te
        taken n d = laws.takes_local n at to te (h.local n d).0 (local_place p f w laws a at h n d) writes fits

        pub assignment_made : (later : Registers) → Makes p f w (Unit {0}) Any (assignment l r later)
        assignment_made later =
            gives_if (is_some l.effects.register) (r.whole (value_of l) (number_of l.effects.register) later) (place_and l r later >>= (λ x. emit (Do (Assign x.0 x.1))))
            (λ d. let n = register_there l.effects.register d in
            gives_under (λ q. subst (λ (o : Option ℕ). w.Takes (number_of o) te) (sym n.1) (taken n.0 n.1)) (k.whole operand (value_of l) (number_of l.effects.register) later))
            (λ d. gives_bind (place_and l r later) (λ x. emit (Do (Assign x.0 x.1))) (place_and_made later) (λ x. gives_emit (Do (Assign x.0 x.1)) (λ q. laws.assign at to te x.0 x.1 q.1.0.0 writes fits q.1.1)))

      -- ---- `op=`

      module _ (o : BinOp) (i : IntType) (t : ValueType) (changes : change_type p.structures p.target o i to te ≡ Some t) where
        new_value : (old v : Expr) → w.Val to old → w.Val te v → w.Val to (changed p f declared_type is_same_type o i (value_of l) old v)
        new_value old v x y = subst (λ (z : Option ValueType). w.Val to (changed p f declared_type is_same_type o i z old v)) (sym value_there) (changed_made o i to te t old v changes x y)

        change_made : (x : Place × Expr) (later : Registers) → Makes p f w (Unit {0} × Both x) (w.Val to) (change p f declared_type is_same_type l o i x later)
        change_made x later =
            gives_bind (read_at l later x.0) (λ old. done (changed p f declared_type is_same_type o i (value_of l) old x.1))
            (read_at_made p f w laws a at h to (written_reads at to writes) scalar stands (Unit {0} × Both x) x.0 later (λ q. q.1.0))
            (λ old. gives_done (changed p f declared_type is_same_type o i (value_of l) old x.1) (λ q. new_value old x.1 q.1 q.0.1.1))

        pub changed_value_made : (later : Registers) → Makes p f w (Unit {0}) (w.Val to) (changed_value p f declared_type is_same_type l o i r later)
        changed_value_made later =
            gives_bind (place_and l r later) (λ x. change p f declared_type is_same_type l o i x later >>= (λ v. into (value_of l) v >>= (λ n. emit (Do (Assign x.0 n)) >>= (λ u. done n)))) (place_and_made later)
            (λ x. gives_bind (change p f declared_type is_same_type l o i x later) (λ v. into (value_of l) v >>= (λ n. emit (Do (Assign x.0 n)) >>= (λ u. done n))) (change_made x later)
            (λ v. gives_bind (into (value_of l) v) (λ n. emit (Do (Assign x.0 n)) >>= (λ u. done n))
            (gives_into {V = w.Val to} (value_of l) to v value_there scalar stands (λ q n d. (laws.put n to v (takes_own p f w laws n to d scalar stands) q.1, laws.temporary n to d scalar stands)))
            (λ n. gives_bind (emit (Do (Assign x.0 n))) (λ u. done n) (gives_emit (Do (Assign x.0 n)) (λ q. own x.0 n q.0.0.1.0.0 q.1)) (λ u. gives_done n (λ q. q.0.1)))))

        pub change_alone_made : (later : Registers) → Makes p f w (Unit {0}) Any (change_alone p f declared_type is_same_type l o i r later)
        change_alone_made later =
            gives_bind (place_and l r later) (λ x. change p f declared_type is_same_type l o i x later >>= (λ v. emit (Do (Assign x.0 v)))) (place_and_made later)
            (λ x. gives_bind (change p f declared_type is_same_type l o i x later) (λ v. emit (Do (Assign x.0 v))) (change_made x later) (λ v. gives_emit (Do (Assign x.0 v)) (λ q. own x.0 v q.0.1.0.0 q.1)))

    -- ---- `++` and `--`

    module _ (down : Bool) (steps : (is_integer to || points_to_object p.structures to) ≡ true) where
      stepped_made : (old : Expr) → w.Val to old → w.Val to (stepped p f declared_type is_same_type l down old)
      stepped_made old x =
          let i : IntType = one_more_type p.target (Some to) in
          subst (λ (z : Option ValueType). w.Val to (changed p f declared_type is_same_type (sum_or_difference down) (one_more_type p.target z) z old (Const (pos 1) (one_more_type p.target z)))) (sym value_there)
          (changed_made (sum_or_difference down) i to (Integer i) to old (Const (pos 1) i) (steps_by p.structures p.target down to steps) x (laws.number (pos 1) i (truth_fits i p.target true)))

      pub step_value_made : (later : Registers) → Makes p f w (Unit {0}) (w.Val to) (step_value p f declared_type is_same_type l down later)
      step_value_made later =
          gives_bind (l.operands later) (λ b. into (value_of l) (Load b) >>= (λ old. emit (Do (Assign b (stepped p f declared_type is_same_type l down old))) >>= (λ u. done old))) (h.operands later)
          (λ b. gives_bind (into (value_of l) (Load b)) (λ old. emit (Do (Assign b (stepped p f declared_type is_same_type l down old))) >>= (λ u. done old))
          (gives_into {V = w.Val to} (value_of l) to (Load b) value_there scalar stands
          (λ q n d. (laws.put_right n to (Load b) (takes_own p f w laws n to d scalar stands) (laws.read at to b q.1 (written_reads at to writes)), laws.temporary n to d scalar stands)))
          (λ old. gives_bind (emit (Do (Assign b (stepped p f declared_type is_same_type l down old)))) (λ u. done old)
          (gives_emit (Do (Assign b (stepped p f declared_type is_same_type l down old))) (λ q. own b (stepped p f declared_type is_same_type l down old) q.0.1 (stepped_made old q.1)))
          (λ u. gives_done old (λ q. q.0.1))))

      pub step_alone_made : (later : Registers) → Makes p f w (Unit {0}) Any (step_alone p f declared_type is_same_type l down later)
      step_alone_made later =
          gives_bind (l.operands later) (λ b. read_at l later b >>= (λ old. emit (Do (Assign b (stepped p f declared_type is_same_type l down old))))) (named_operands p f w laws a at h later)
          (λ b. gives_bind (read_at l later b) (λ old. emit (Do (Assign b (stepped p f declared_type is_same_type l down old))))
          (read_at_made p f w laws a at h to (written_reads at to writes) scalar stands (Unit {0} × (w.Pla at b × Named p f w laws a at h b)) b later (λ q. q.1))
          (λ old. gives_emit (Do (Assign b (stepped p f declared_type is_same_type l down old))) (λ q. own b (stepped p f declared_type is_same_type l down old) q.0.1.0 (stepped_made old q.1))))

  -- ---- kinds of expressions

  pub at-Assign : (a : Place) (x : Expr) (t : ValueType) (e : Expr) → PlaceClaim p f w laws a → Claim p f w laws x → w.OldPlace a → w.Old x → w.declares t ≡ true →
      of_two (of_one (placed p f a) written_to) (typed p f x) assignment_type ≡ Some t → At p f w laws t e (one.Assign a x)
  at-Assign a x t e ca cx oa ox h k =
      let y = has_two (of_one (placed p f a) written_to) (typed p f x) assignment_type t k in
      let z = has_one (placed p f a) written_to y.first y.is_first in
      let u = passes (is_assignable y.first y.second) y.first t y.gives in
      let to : ValueType = y.first in
      let s = assigned_to_scalar to y.second u.test in
      let st : w.declares to ≡ true = ap w.declares u.is ∙ h in
      let c = ca z.first z.is oa in
      let d = cx y.second y.is_second ox in
      let v = assigned_scalar to y.second u.test in
      let op = assigned_value (place_low p f a) (low p f x) in
      subst (λ (z : ValueType). At p f w laws z e (one.Assign a x)) u.is (record {
        ctype = refl;
        operand = λ q later. assigned_made a z.first to c z.gives s st x y.second d v u.test later;
        whole = λ q o n later. whole_made p f w laws to op o n later (assigned_made a z.first to c z.gives s st x y.second d v u.test later);
        effect = λ later. assignment_made a z.first to c z.gives s st x y.second d v u.test later;
      })

  pub at-Change : (a : Place) (o : BinOp) (i : IntType) (x : Expr) (t : ValueType) (e : Expr) → PlaceClaim p f w laws a → Claim p f w laws x → w.OldPlace a → w.Old x → w.declares t ≡ true →
      of_two (of_one (placed p f a) written_to) (typed p f x) (change_type p.structures p.target o i) ≡ Some t → At p f w laws t e (one.Change a o i x)
  at-Change a o i x t e ca cx oa ox h k =
      let y = has_two (of_one (placed p f a) written_to) (typed p f x) (change_type p.structures p.target o i) t k in
      let z = has_one (placed p f a) written_to y.first y.is_first in
      let u = change_is p.structures p.target o i y.first y.second t y.gives in
      let to : ValueType = y.first in
      let st : w.declares to ≡ true = ap w.declares u.is ∙ h in
      let c = ca z.first z.is oa in
      let d = cx y.second y.is_second ox in
      let op = changed_value p f declared_type is_same_type (place_low p f a) o i (low p f x) in
      subst (λ (z : ValueType). At p f w laws z e (one.Change a o i x)) u.is (record {
        ctype = refl;
        operand = λ q later. changed_value_made a z.first to c z.gives u.scalar st x y.second d u.operand o i t y.gives later;
        whole = λ q j n later. whole_made p f w laws to op j n later (changed_value_made a z.first to c z.gives u.scalar st x y.second d u.operand o i t y.gives later);
        effect = λ later. change_alone_made a z.first to c z.gives u.scalar st x y.second d u.operand o i t y.gives later;
      })

  pub at-After : (a : Place) (down : Bool) (t : ValueType) (e : Expr) → PlaceClaim p f w laws a → w.OldPlace a → w.declares t ≡ true →
      of_one (of_one (placed p f a) written_to) (after_type p.structures) ≡ Some t → At p f w laws t e (one.After a down)
  at-After a down t e ca oa h k =
      let y = has_one (of_one (placed p f a) written_to) (after_type p.structures) t k in
      let z = has_one (placed p f a) written_to y.first y.is in
      let to : ValueType = y.first in
      let u = passes (is_integer to || points_to_object p.structures to) to t y.gives in
      let s = steps_scalar p.structures to u.test in
      let st : w.declares to ≡ true = ap w.declares u.is ∙ h in
      let c = ca z.first z.is oa in
      let op = step_value p f declared_type is_same_type (place_low p f a) down in
      subst (λ (z : ValueType). At p f w laws z e (one.After a down)) u.is (record {
        ctype = refl;
        operand = λ q later. step_value_made a z.first to c z.gives s st down u.test later;
        whole = λ q j n later. whole_made p f w laws to op j n later (step_value_made a z.first to c z.gives s st down u.test later);
        effect = λ later. step_alone_made a z.first to c z.gives s st down u.test later;
      })
