-- What a set's ends say of its members, and which numbers pass a comparison with some member.
use Rattle.std.proofs.Common.{◌≡◌, ◌∙◌, Bool, true, false, not, ℤ, pos, ◌+ℤ◌, ◌-ℤ◌, ◌≤ℤ◌, ◌<ℤ◌, int_lt, int_le, Some, IsTrue, if◌then◌else◌, refl, sym, ap, subst, arith}
use Rattle.std.specs.Option.{IfSome}
use Rattle.std.specs.Ordering.{int_eq}
use Rattle.std.proofs.lemmas.Int.{ints, by_lt_z}
use Rattle.std.proofs.lemmas.Bool.Decides.{Decides-int_eq}
use Rattle.cc_num.specs.declared.int_type.IntType.{IntType}
use Rattle.cc_num.specs.declared.int_type.IntType.TheVariants as int
use Rattle.cc_num.specs.declared.target.Target.{Target}
use Rattle.cc_num.specs.declared.op.BinOp.{BinOp}
use Rattle.cc_num.specs.declared.op.BinOp.TheVariants as op
use Rattle.cc_num.specs.Integers.{least_of, most_of, IsValueOf}
use Rattle.cc_num.specs.Promotions.{promoted}
use Rattle.cc_num.specs.Results.{is_shift}
use Rattle.cc_num.proofs.ResultLaws.{least_low, most_high}
use Rattle.cc_lattice.specs.Domains.{IsIntValue, IsSecond, AreOperands, AreEnds, is_comparison}
use Rattle.cc_lattice.proofs.IntValues.{value_is_int}
use Rattle.cc_ranges.specs.declared.span.Interval.{Interval}
use Rattle.cc_ranges.specs.declared.span.Span.TheVariants.{Between}
use Rattle.cc_ranges.specs.Ends.{Ends, EndsHave, between, whole_ends, lies_in, IsInterval, LieIn}
use Rattle.cc_ranges.specs.Rules.{conversion_rule, are_one, are_apart, verdict}
use Rattle.cc_ranges.specs.Keep.{without, keep_rule}
use Rattle.cc_ranges.specs.laws.Fits.{between_some, le_true, lt_true, le_false, lt_false}
use Rattle.cc_ranges.specs.laws.SpanLaws.{SpanHas}
use Rattle.cc_sets.specs.declared.vals.Vals.{Vals}
use Rattle.cc_sets.specs.Results.{PassesSome}
use Rattle.cc_sets.specs.Rungs.{ValsHas, vals_ends, IsHull}
use Rattle.cc_sets.specs.laws.Ends.{set_ends}

lt_tells : (a b : ℤ) → int_lt a b ≡ true → a <ℤ b
lt_tells a b e = by_lt_z a b (λ (less : a <ℤ b). less) (λ (more : b ≤ℤ a). let f = lt_false a b more in absurd (clash (sym e ∙ f)))
  where
    clash : true ≡ false → ⊥
    clash e = cc

le_tells : (a b : ℤ) → int_le a b ≡ true → a ≤ℤ b
le_tells a b e = by_lt_z b a (λ (less : b <ℤ a). let f = le_false a b less in absurd (clash (sym e ∙ f))) (λ (k : a ≤ℤ b). k)
  where
    clash : true ≡ false → ⊥
    clash e = cc

-- the ends of a set that has some member
pub ends_at : (x : Vals) (e : Ends) (low high : ℤ) → e ≡ vals_ends x → e ≡ Some (low, high) → AreEnds (ValsHas x) (low, high)
ends_at x e low high f g = subst (λ (o : Ends). IfSome o (AreEnds (ValsHas x))) (sym f ∙ g) (set_ends x)

-- which numbers pass with some member
abbrev Tells : Bool → BinOp → ℤ → Vals → Type 0
Tells b test v x = (IsTrue b → PassesSome test v x) × (PassesSome test v x → IsTrue b)

pub pass_lt : (x : Vals) (low high v : ℤ) → AreEnds (ValsHas x) (low, high) → Tells (int_lt v high) op.Lt v x
pass_lt x low high v h = ((λ e. (high, h.high_in, e)), (λ p. let a = lt_tells v p.0 p.2 in let b = h.high p.0 p.1 in lt_true v high (omega (arith, ints))))

pub pass_le : (x : Vals) (low high v : ℤ) → AreEnds (ValsHas x) (low, high) → Tells (int_le v high) op.Le v x
pass_le x low high v h = ((λ e. (high, h.high_in, e)), (λ p. let a = le_tells v p.0 p.2 in let b = h.high p.0 p.1 in le_true v high (omega (arith, ints))))

pub pass_gt : (x : Vals) (low high v : ℤ) → AreEnds (ValsHas x) (low, high) → Tells (int_lt low v) op.Gt v x
pass_gt x low high v h = ((λ e. (low, h.low_in, e)), (λ p. let a = lt_tells p.0 v p.2 in let b = h.low p.0 p.1 in lt_true low v (omega (arith, ints))))

pub pass_ge : (x : Vals) (low high v : ℤ) → AreEnds (ValsHas x) (low, high) → Tells (int_le low v) op.Ge v x
pass_ge x low high v h = ((λ e. (low, h.low_in, e)), (λ p. let a = le_tells p.0 v p.2 in let b = h.low p.0 p.1 in le_true low v (omega (arith, ints))))

ne_true : (v w : ℤ) → (v ≡ w → ⊥) → not (int_eq v w) ≡ true
ne_true v w other = by_bool (int_eq v w) refl
  where
    by_bool : (b : Bool) → int_eq v w ≡ b → not b ≡ true
    by_bool true e = absurd (other ((Decides-int_eq v w).0 e))
    by_bool false e = refl

ne_tells : (v w : ℤ) → not (int_eq v w) ≡ true → v ≡ w → ⊥
ne_tells v w e h = let f : int_eq v w ≡ true = (Decides-int_eq v w).1 h in let g : not true ≡ true = sym (ap not f) ∙ e in cc

-- the number is no other than the low end
pub pass_ne : (x : Vals) (low high v : ℤ) → AreEnds (ValsHas x) (low, high) → v ≡ low → ((v ≡ high → ⊥) → PassesSome op.Ne v x) × (PassesSome op.Ne v x → v ≡ high → ⊥)
pass_ne x low high v h s = (
  λ other. (high, h.high_in, ne_true v high other),
  λ p same.
      let a = h.low p.0 p.1 in
      let b = h.high p.0 p.1 in
      ne_tells v p.0 p.2 (omega (arith, ints)),
)

pub is_ne : (test : BinOp) → is_comparison test ≡ true → (test ≡ op.Lt → ⊥) → (test ≡ op.Le → ⊥) → (test ≡ op.Gt → ⊥) → (test ≡ op.Ge → ⊥) → (test ≡ op.Eq → ⊥) → test ≡ op.Ne
is_ne op.Ne c l m g h e = refl
is_ne op.Lt c l m g h e = absurd (l refl)
is_ne op.Le c l m g h e = absurd (m refl)
is_ne op.Gt c l m g h e = absurd (g refl)
is_ne op.Ge c l m g h e = absurd (h refl)
is_ne op.Eq c l m g h e = absurd (e refl)
is_ne _ c l m g h e = cc

-- hulls of the same ends
pub hull_at : (x y : Ends) (r : Vals) → x ≡ y → IsHull (EndsHave x) r → IsHull (EndsHave y) r
hull_at x y r e p = subst (λ (z : Ends). IsHull (EndsHave z) r) e p

pub eq_true : (v w : ℤ) → v ≡ w → int_eq v w ≡ true
eq_true v w h = (Decides-int_eq v w).1 h

pub eq_false : (v w : ℤ) → (v ≡ w → ⊥) → int_eq v w ≡ false
eq_false v w other = by_bool (int_eq v w) refl
  where
    by_bool : (b : Bool) → int_eq v w ≡ b → b ≡ false
    by_bool true e = absurd (other ((Decides-int_eq v w).0 e))
    by_bool false e = refl

pub without_low : (low high v : ℤ) → low ≡ v → between (low +ℤ pos 1) high ≡ without low high v
without_low low high v e = sym (ap (λ (b : Bool). if b then between (low +ℤ pos 1) high else (if int_eq high v then between low (high -ℤ pos 1) else Some (low, high))) (eq_true low v e))

pub without_high : (low high v : ℤ) → (low ≡ v → ⊥) → high ≡ v → between low (high -ℤ pos 1) ≡ without low high v
without_high low high v other e = sym (
    ap (λ (b : Bool). if b then between (low +ℤ pos 1) high else (if int_eq high v then between low (high -ℤ pos 1) else Some (low, high))) (eq_false low v other)
    ∙ ap (λ (b : Bool). if b then between low (high -ℤ pos 1) else Some (low, high)) (eq_true high v e))

pub without_none : (low high v : ℤ) → low ≤ℤ high → (low ≡ v → ⊥) → (high ≡ v → ⊥) → between low high ≡ without low high v
without_none low high v o other other' = between_some low high o ∙ sym (
    ap (λ (b : Bool). if b then between (low +ℤ pos 1) high else (if int_eq high v then between low (high -ℤ pos 1) else Some (low, high))) (eq_false low v other)
    ∙ ap (λ (b : Bool). if b then between low (high -ℤ pos 1) else Some (low, high)) (eq_false high v other'))

pub keep_one : (low high lb hb : ℤ) → lb ≡ hb → without low high lb ≡ keep_rule op.Ne low high lb hb
keep_one low high lb hb e = sym (ap (λ (b : Bool). if b then without low high lb else Some (low, high)) (eq_true lb hb e))

pub keep_all : (low high lb hb : ℤ) → low ≤ℤ high → (lb ≡ hb → ⊥) → between low high ≡ keep_rule op.Ne low high lb hb
keep_all low high lb hb o other = between_some low high o ∙ sym (ap (λ (b : Bool). if b then without low high lb else Some (low, high)) (eq_false lb hb other))

-- conversions

conversion_is : (low high : ℤ) (t : IntType) (target : Target) → (t ≡ int.Bool → ⊥) → conversion_rule low high t target ≡ (if lies_in low high t target then Some (low, high) else whole_ends t target)
unfolding conversion_rule
conversion_is low high int.Bool target h = absurd (h refl)
conversion_is low high t target h = refl

pub conversion_inside : (low high : ℤ) (t : IntType) (target : Target) → (t ≡ int.Bool → ⊥) → low ≤ℤ high → lies_in low high t target ≡ true → between low high ≡ conversion_rule low high t target
conversion_inside low high t target h o e =
    between_some low high o ∙ sym (conversion_is low high t target h ∙ ap (λ (b : Bool). if b then Some (low, high) else whole_ends t target) e)

pub conversion_outside : (low high : ℤ) (t : IntType) (target : Target) → (t ≡ int.Bool → ⊥) → lies_in low high t target ≡ false → between (least_of t target) (most_of t target) ≡ conversion_rule low high t target
conversion_outside low high t target h e =
    let l = least_low t target in
    let m = most_high t target in
    between_some (least_of t target) (most_of t target) (omega (arith, ints)) ∙ sym (conversion_is low high t target h ∙ ap (λ (b : Bool). if b then Some (low, high) else whole_ends t target) e)

verdict_either : (p q : Bool) → p ≡ false → q ≡ false → Some (pos 0, pos 1) ≡ verdict p q
verdict_either false false e f = refl
verdict_either true q e f = cc
verdict_either false true e f = cc

apart_false : (low high : ℤ) → low ≤ℤ pos 0 → pos 0 <ℤ high → are_apart low high (pos 0) (pos 0) ≡ false
apart_false low high h k = grind (arith, ints)

one_false : (low high : ℤ) → low ≤ℤ pos 0 → pos 0 <ℤ high → are_one low high (pos 0) (pos 0) ≡ false
one_false low high h k = grind (arith, ints)

conversion_bool : (low high : ℤ) (target : Target) → low ≤ℤ pos 0 → pos 0 <ℤ high → Some (pos 0, pos 1) ≡ conversion_rule low high int.Bool target
unfolding conversion_rule
conversion_bool low high target h k = verdict_either (are_apart low high (pos 0) (pos 0)) (are_one low high (pos 0) (pos 0)) (apart_false low high h k) (one_false low high h k)

pub conversion_truth : (low high : ℤ) (t : IntType) (target : Target) → t ≡ int.Bool → low ≤ℤ pos 0 → pos 0 <ℤ high → Some (pos 0, pos 1) ≡ conversion_rule low high t target
conversion_truth low high t target e h k = subst (λ (s : IntType). Some (pos 0, pos 1) ≡ conversion_rule low high s target) (sym e) (conversion_bool low high target h k)

-- operands of rules

pub second_int : (s : Bool) (t : IntType) (target : Target) (v : ℤ) → IsSecond s t target v → IsIntValue v
second_int true t target v h = h
second_int false t target v h = value_is_int v t target h

pub interval_at : (P : ℤ → Type 0) (low high : ℤ) → AreEnds P (low, high) → ((v : ℤ) → P v → IsIntValue v) → IsInterval low high
interval_at P low high h f = record { ordered = h.low high h.high_in; least = (f low h.low_in).least; most = (f high h.high_in).most }

pub lie_at : (P : ℤ → Type 0) (low high : ℤ) (t : IntType) (target : Target) → AreEnds P (low, high) → ((v : ℤ) → P v → IsValueOf t target v) → LieIn low high t target
lie_at P low high t target h f = record { first = (f low h.low_in).least; last = (f high h.high_in).most }

inside_value : (low high v : ℤ) (t : IntType) (target : Target) → LieIn low high t target → low ≤ℤ v → v ≤ℤ high → IsValueOf t target v
inside_value low high v t target p h k = let a = p.first in let b = p.last in record { least = omega (arith, ints); most = omega (arith, ints) }

second_inside : (s : Bool) (b : Interval) (t : IntType) (target : Target) → (s ≡ false → LieIn b.low b.high t target) → (v : ℤ) → SpanHas (Between b) v → IsSecond s t target v
second_inside true b t target h v k =
    let a = b.ends.least in let m = b.ends.most in let k0 = k.0 in let k1 = k.1 in
    record { least = omega (arith, ints); most = omega (arith, ints) }
second_inside false b t target h v k = inside_value b.low b.high v t target (h refl) k.0 k.1

pub span_operands : (o : BinOp) (a b : Interval) (t : IntType) (target : Target) → promoted t target ≡ t → LieIn a.low a.high t target → (is_shift o ≡ false → LieIn b.low b.high t target)
    → AreOperands SpanHas o (Between a) (Between b) t target
span_operands o a b t target p h k = record { promotion = p; first = λ v m. inside_value a.low a.high v t target h m.0 m.1; second = second_inside (is_shift o) b t target k }
