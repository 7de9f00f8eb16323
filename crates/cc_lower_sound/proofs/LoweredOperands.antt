-- Operators over lowered operands, and what is made of an operand that is used as a whole right side, or not at all.
use Rattle.std.proofs.Common.{◌≡◌, ℕ, Bool, true, false, ◌&&◌, Option, Some, None, refl, ap, sym, ◌∙◌}
use Rattle.std.proofs.lemmas.Option.{same_Some}
use Rattle.cc_program.specs.CcNum.declared.int_type.IntType.{IntType}
use Rattle.cc_program.specs.CcNum.declared.int_type.IntType.TheVariants as int
use Rattle.cc_program.specs.CcNum.declared.op.BinOp.{BinOp}
use Rattle.cc_program.specs.CcNum.declared.op.UnOp.{UnOp}
use Rattle.cc_lower_expressions.specs.Expressions.{done, ◌>>=◌, emit, set, into, Lowers, Lowering, from_one, from_two, is_idle, whole_by, unused, effect_by, folded_un, folded_bin, folded_conv}
use Rattle.cc_lower_expressions.specs.Temporaries.{declared_type, is_same_type}
use Rattle.cc_program.specs.declared.expr.Expr.{Expr, AddrOf, Qualify, Move, Gap, Compare, roll-Expr, out-Expr, out-roll-Expr, map-Expr, fold-roll-Expr}
use Rattle.cc_program.specs.declared.expr.Expr.TheOpen as one
use Rattle.cc_program.specs.declared.expr.Place.{Place, out-Place}
use Rattle.cc_program.specs.declared.func.Func.{Func}
use Rattle.cc_program.specs.declared.program.Program.{Program}
use Rattle.cc_program.specs.declared.types.CType.{CType}
use Rattle.cc_eval.specs.CcSyntax.Effects.{Registers, no_one, also, Effects, PlaceEffects, effects_of, place_effects_of, effect_step, place_effect_step}
use Rattle.cc_eval.specs.CcSyntax.Expressions.{of_one, of_two, qualified_type, pointer_type}
use Rattle.cc_eval.specs.CcSyntax.Operators.{unary_type, unary_result, binary_type, binary_result, conversion_type, when_assignable, moved_type, gap_type, difference_type, comparison_type, is_promoted, is_of, second_fits, is_integer, points_to_object, has_difference, is_comparison}
use Rattle.cc_eval.specs.CcSyntax.Values.{ValueType, Integer, ToObject, ToFunction, PlaceType, DevicePlace, ObjectPlace, FunctionPlace, is_scalar, is_assignable, point_alike, address_of}
use Rattle.cc_eval.specs.CcSyntax.Views.{of_program}
use Rattle.cc_lower_sound.proofs.Bools.{first_true, second_true}
use Rattle.cc_lower_sound.proofs.LoweringParts.{low, place_low, place_itself, lowered_as, lowered_parts}
use Rattle.cc_lower_sound.proofs.Pieces.{Any, gives_done, gives_bind, gives_known, gives_under, gives_emit, gives_into, gives_if, gives_mapped, gives_both}
use Rattle.cc_lower_sound.proofs.Readings.{Reading, Laws, typed, placed, Makes, IsLowered, IsLoweredPlace, takes_own, local_of, SameLocal}
use Rattle.cc_lower_sound.proofs.Scalars.{has_one, has_two, passes, integer_is, of_scalar, integral, second_scalar, object_scalar, alike_first, alike_second, assigned_scalar, assigned_to_scalar}

address_scalar : (a : PlaceType) (t : ValueType) → address_of a ≡ Some t → is_scalar t ≡ true
address_scalar (DevicePlace c i) t h = absurd (cc)
address_scalar (ObjectPlace c v u) t h = ap is_scalar (sym (same_Some (ToObject c v u) t h))
address_scalar (FunctionPlace s) t h = ap is_scalar (sym (same_Some (ToFunction s) t h))

module _ (p : Program) (f : Func) where
  -- what is known of the effects of a level
  pub effects-roll : (x : one.Expr-F Expr Place) → effects_of f (roll-Expr x) ≡ effect_step (map-Expr Expr Place Effects PlaceEffects (effects_of f) (place_effects_of f) x)
  unfolding effects_of place_effects_of
  effects-roll x = fold-roll-Expr Effects PlaceEffects effect_step (place_effect_step f) x

  module _ (w : Reading) (laws : Laws p f w) where
    abbrev pub Claim : Expr → Type 0
    Claim e = (t : ValueType) → typed p f e ≡ Some t → w.Old e → IsLowered p f w t (low p f e)

    abbrev pub PlaceClaim : Place → Type 0
    PlaceClaim a = (t : PlaceType) → placed p f a ≡ Some t → w.OldPlace a → IsLoweredPlace p f w t (place_low p f a)

    -- ---- by default

    pub whole_made : (t : ValueType) (op : Lowers Expr) (o : Option ValueType) (n : ℕ) (later : Registers) → Makes p f w (Unit {0}) (w.Val t) (op later) → Makes p f w (w.Takes n t) Any (whole_by op o n later)
    whole_made t op o n later h = gives_bind (op later) (λ v. emit (set n v)) (gives_under (λ q. tt) h) (λ v. gives_emit (set n v) (λ q. laws.put n t v q.0 q.1))

    module _ (t : ValueType) (scalar : is_scalar t ≡ true) (standing : w.declares t ≡ true) where
      unused_made : (v : Expr) → Makes p f w (Unit {0} × w.Val t v) Any (unused (Some t) v)
      unused_made v =
          gives_if (is_idle (out-Expr v)) (done tt) (into (Some t) v >>= (λ u. done tt)) (λ e. gives_done tt (λ q. tt))
          (λ e. gives_bind (into (Some t) v) (λ u. done tt) (gives_into {V = Any} (Some t) t v refl scalar standing (λ q n d. (laws.put n t v (takes_own p f w laws n t d scalar standing) q.1, tt))) (λ u. gives_done tt (λ q. tt)))

      pub effect_made : (op : Lowers Expr) (later : Registers) → Makes p f w (Unit {0}) (w.Val t) (op later) → Makes p f w (Unit {0}) Any (effect_by (Some t) op later)
      effect_made op later h = gives_bind (op later) (unused (Some t)) h unused_made

    -- what is lowered as an operand alone
    abbrev pub by_operand : ValueType → Effects → Expr → Lowers Expr → Lowering
    by_operand t effects e op = record { itself = e; ctype = Some t; effects = effects; operand = op; whole = whole_by op; effect = effect_by (Some t) op }

    pub default : (t : ValueType) (effects : Effects) (e : Expr) (op : Lowers Expr) → is_scalar t ≡ true → w.declares t ≡ true →
        ((later : Registers) → Makes p f w (Unit {0}) (w.Val t) (op later)) → IsLowered p f w t (by_operand t effects e op)
    default t effects e op s k h = record {
      ctype = refl;
      operand = λ z later. h later;
      whole = λ z o n later. whole_made t op o n later (h later);
      effect = λ later. effect_made t s k op later (h later);
    }

    -- ---- one operand, and two

    one_made : (g : Expr → Expr) (a : Expr) (ta t : ValueType) → IsLowered p f w ta (low p f a) → is_scalar ta ≡ true → ((x : Expr) → w.Val ta x → w.Val t (g x)) → (later : Registers) → Makes p f w (Unit {0}) (w.Val t) (from_one g (low p f a).operand later)
    one_made g a ta t h s law later = gives_mapped g (λ x q v. law x v) (h.operand s later)

    two_made : (g : Expr → Expr → Expr) (a b : Expr) (ta tb t : ValueType) → IsLowered p f w ta (low p f a) → is_scalar ta ≡ true → IsLowered p f w tb (low p f b) → is_scalar tb ≡ true →
        ((x y : Expr) → w.Val ta x → w.Val tb y → w.Val t (g x y)) → (later : Registers) → Makes p f w (Unit {0}) (w.Val t) (from_two g (low p f b).effects.assigned (low p f a).operand (low p f b).operand later)
    two_made g a b ta tb t h s k z law later =
        gives_both g ((low p f a).operand (also (low p f b).effects.assigned later)) ((low p f b).operand later) (λ x y q v u. law x y v u) (h.operand s (also (low p f b).effects.assigned later)) (k.operand z later)

    -- ---- kinds of expressions

    -- of a level whose expression is e
    abbrev pub At : ValueType → Expr → one.Expr-F Expr Place → Type 0
    At t e x = IsLowered p f w t (lowered_as p f (effects_of f e) (Some t) e (lowered_parts p f x))

    pub leaf : (t : ValueType) (e : Expr) (later : Registers) → w.declares t ≡ true → typed p f e ≡ Some t → is_scalar t ≡ true → w.Old e → (effects_of f e).pure later ≡ true →
        IsLowered p f w t (by_operand t (effects_of f e) e (λ later. done e))
    leaf t e later d h s o pure = default t (effects_of f e) e (λ later. done e) s d (λ z. gives_done e (λ q. laws.itself e t later h o pure))

    -- a null is left out where nothing uses it
    pub at-Null : (c : CType) (t : ValueType) → typed p f (roll-Expr (one.Null c)) ≡ Some t → is_scalar t ≡ true → w.Old (roll-Expr (one.Null c)) → At t (roll-Expr (one.Null c)) (one.Null c)
    at-Null c t h s o =
        let e : Expr = roll-Expr (one.Null c) in
        let pure : (effects_of f e).pure no_one ≡ true = ap (λ (z : Effects). z.pure no_one) (effects-roll (one.Null c)) in
        let idle : is_idle (out-Expr e) ≡ true = ap is_idle (out-roll-Expr (one.Null c)) in
        let value = λ (later : Registers). gives_done {P = Unit {0}} {V = w.Val t} e (λ q. laws.itself e t no_one h o pure) in
        record {
          ctype = refl;
          operand = λ q later. value later;
          whole = λ q n m later. whole_made t (λ later. done e) n m later (value later);
          effect = λ later. gives_known e (unused (Some t))
              (gives_if (is_idle (out-Expr e)) (done tt) (into (Some t) e >>= (λ u. done tt)) (λ q. gives_done tt (λ z. tt)) (λ q. let b : true ≡ false = sym idle ∙ q in absurd (cc)));
        }

    pub at-Un : (o : UnOp) (i : IntType) (a : Expr) (t : ValueType) (e : Expr) → Claim a → w.Old a → w.declares t ≡ true → of_one (typed p f a) (unary_type p.target o i) ≡ Some t → At t e (one.Un o i a)
    at-Un o i a t e claim old h k =
        let x = has_one (typed p f a) (unary_type p.target o i) t k in
        let y = passes (is_promoted p.target i && is_of i x.first) (Integer (unary_result o i)) t x.gives in
        default t (effects_of f e) e (from_one (folded_un p f declared_type is_same_type o i) (low p f a).operand) (integer_is (unary_result o i) t y.is) h
        (one_made (folded_un p f declared_type is_same_type o i) a x.first t (claim x.first x.is old) (of_scalar i x.first (second_true (is_promoted p.target i) (is_of i x.first) y.test)) (λ z v. laws.unary o i x.first t z v x.gives))

    pub at-Conv : (i : IntType) (a : Expr) (t : ValueType) (e : Expr) → Claim a → w.Old a → w.declares t ≡ true → of_one (typed p f a) (conversion_type i) ≡ Some t → At t e (one.Conv i a)
    at-Conv i a t e claim old h k =
        let x = has_one (typed p f a) (conversion_type i) t k in
        let y = passes (is_integer x.first) (Integer i) t x.gives in
        default t (effects_of f e) e (from_one (folded_conv p f declared_type is_same_type i) (low p f a).operand) (integer_is i t y.is) h
        (one_made (folded_conv p f declared_type is_same_type i) a x.first t (claim x.first x.is old) (integral x.first y.test) (λ z v. laws.conversion i x.first t z v x.gives))

    pub at-Bin : (o : BinOp) (i : IntType) (a b : Expr) (t : ValueType) (e : Expr) → Claim a → Claim b → w.Old a → w.Old b → w.declares t ≡ true → of_two (typed p f a) (typed p f b) (binary_type p.target o i) ≡ Some t → At t e (one.Bin o i a b)
    at-Bin o i a b t e ca cb oa ob h k =
        let x = has_two (typed p f a) (typed p f b) (binary_type p.target o i) t k in
        let y = passes (is_promoted p.target i && (is_of i x.first && second_fits p.target o i x.second)) (Integer (binary_result o i)) t x.gives in
        let both = second_true (is_promoted p.target i) (is_of i x.first && second_fits p.target o i x.second) y.test in
        default t (effects_of f e) e (from_two (folded_bin p f declared_type is_same_type o i) (low p f b).effects.assigned (low p f a).operand (low p f b).operand) (integer_is (binary_result o i) t y.is) h
        (two_made (folded_bin p f declared_type is_same_type o i) a b x.first x.second t (ca x.first x.is_first oa) (of_scalar i x.first (first_true (is_of i x.first) (second_fits p.target o i x.second) both))
        (cb x.second x.is_second ob) (second_scalar p.target o i x.second (second_true (is_of i x.first) (second_fits p.target o i x.second) both)) (λ z u v y. laws.binary o i x.first x.second t z u v y x.gives))

    assigned_by : (to : Option ValueType) (u t : ValueType) → when_assignable to u ≡ Some t → (is_scalar u ≡ true) × (is_scalar t ≡ true)
    assigned_by None u t h = absurd (cc)
    assigned_by (Some to) u t h =
        let y = passes (is_assignable to u) to t h in
        (assigned_scalar to u y.test, ap is_scalar (sym y.is) ∙ assigned_to_scalar to u y.test)

    pub at-Qualify : (c : CType) (a : Expr) (t : ValueType) (e : Expr) → Claim a → w.Old a → w.declares t ≡ true → of_one (typed p f a) (qualified_type (of_program p) c) ≡ Some t → At t e (one.Qualify c a)
    at-Qualify c a t e claim old h k =
        let x = has_one (typed p f a) (qualified_type (of_program p) c) t k in
        let s = assigned_by (pointer_type (of_program p) c) x.first t x.gives in
        default t (effects_of f e) e (from_one (Qualify c) (low p f a).operand) s.1 h
        (one_made (Qualify c) a x.first t (claim x.first x.is old) s.0 (λ z v. laws.qualified c x.first t z v x.gives))

    pub at-Move : (a b : Expr) (back : Bool) (t : ValueType) (e : Expr) → Claim a → Claim b → w.Old a → w.Old b → w.declares t ≡ true → of_two (typed p f a) (typed p f b) (moved_type p.structures) ≡ Some t → At t e (one.Move a b back)
    at-Move a b back t e ca cb oa ob h k =
        let x = has_two (typed p f a) (typed p f b) (moved_type p.structures) t k in
        let y = passes (points_to_object p.structures x.first && is_integer x.second) x.first t x.gives in
        let s = object_scalar p.structures x.first (first_true (points_to_object p.structures x.first) (is_integer x.second) y.test) in
        default t (effects_of f e) e (from_two (λ u v. Move u v back) (low p f b).effects.assigned (low p f a).operand (low p f b).operand) (ap is_scalar (sym y.is) ∙ s) h
        (two_made (λ u v. Move u v back) a b x.first x.second t (ca x.first x.is_first oa) s (cb x.second x.is_second ob)
        (integral x.second (second_true (points_to_object p.structures x.first) (is_integer x.second) y.test)) (λ z u v y. laws.moved x.first x.second t z u back v y x.gives))

    pub at-Gap : (a b : Expr) (t : ValueType) (e : Expr) → Claim a → Claim b → w.Old a → w.Old b → w.declares t ≡ true → of_two (typed p f a) (typed p f b) (gap_type p.structures p.target) ≡ Some t → At t e (one.Gap a b)
    at-Gap a b t e ca cb oa ob h k =
        let x = has_two (typed p f a) (typed p f b) (gap_type p.structures p.target) t k in
        let y = passes (point_alike x.first x.second && has_difference p.structures x.first) (Integer (difference_type p.target)) t x.gives in
        let s = first_true (point_alike x.first x.second) (has_difference p.structures x.first) y.test in
        default t (effects_of f e) e (from_two Gap (low p f b).effects.assigned (low p f a).operand (low p f b).operand) (integer_is (difference_type p.target) t y.is) h
        (two_made Gap a b x.first x.second t (ca x.first x.is_first oa) (alike_first x.first x.second s) (cb x.second x.is_second ob) (alike_second x.first x.second s) (λ z u v y. laws.gap x.first x.second t z u v y x.gives))

    pub at-Compare : (o : BinOp) (a b : Expr) (t : ValueType) (e : Expr) → Claim a → Claim b → w.Old a → w.Old b → w.declares t ≡ true → of_two (typed p f a) (typed p f b) (comparison_type o) ≡ Some t → At t e (one.Compare o a b)
    at-Compare o a b t e ca cb oa ob h k =
        let x = has_two (typed p f a) (typed p f b) (comparison_type o) t k in
        let y = passes (is_comparison o && point_alike x.first x.second) (Integer int.Int) t x.gives in
        let s = second_true (is_comparison o) (point_alike x.first x.second) y.test in
        default t (effects_of f e) e (from_two (Compare o) (low p f b).effects.assigned (low p f a).operand (low p f b).operand) (integer_is int.Int t y.is) h
        (two_made (Compare o) a b x.first x.second t (ca x.first x.is_first oa) (alike_first x.first x.second s) (cb x.second x.is_second ob) (alike_second x.first x.second s) (λ z u v y. laws.compared o x.first x.second t z u v y x.gives))

    -- what is made of a place is the same local, or none
    same_operands : (a : Place) (at : PlaceType) → IsLoweredPlace p f w at (place_low p f a) → (later : Registers) → Makes p f w (Unit {0}) (λ b. w.Pla at b × SameLocal b a) ((place_low p f a).operands later)
    same_operands a at h later = record {
      good = (h.operands later).good;
      made = λ k q d. let x = (h.operands later).made k q d in (x.0, (x.1, h.same later k ∙ ap (λ (z : Place). local_of (out-Place z)) (place_itself p f a)));
    }

    pub at-AddrOf : (a : Place) (t : ValueType) (e : Expr) → PlaceClaim a → w.OldPlace a → typed p f (roll-Expr (one.AddrOf a)) ≡ Some t → w.Old (roll-Expr (one.AddrOf a)) → w.declares t ≡ true → of_one (placed p f a) address_of ≡ Some t → At t e (one.AddrOf a)
    at-AddrOf a t e claim old g whole h k =
        let x = has_one (placed p f a) address_of t k in
        default t (effects_of f e) e (from_one AddrOf (place_low p f a).operands) (address_scalar x.first t x.gives) h
        (λ later. gives_mapped AddrOf (λ b q v. laws.address x.first b a t v.0 v.1 g whole x.gives) (same_operands a x.first (claim x.first x.is old) later))
