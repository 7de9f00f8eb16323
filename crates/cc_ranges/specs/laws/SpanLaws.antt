-- Intervals keep the laws of a domain, since the rules do.
use Rattle.std.specs.Prelude.{◌^◌, ◌-◌, ◌≤◌, ◌<◌, ◌≡◌, ◌≢◌, ◌↔◌, Bool, true, false, ℤ, pos, neg_ℤ, ◌-ℤ◌, ◌≤ℤ◌, ◌<ℤ◌, unsigned_abs, Some, None, IfSome, refl}
use Rattle.std.specs.Int.Signed.{≤ℤ_refl}
use Rattle.std.proofs.Math.Dec.{T_prop}
use Rattle.std.proofs.Common.{sym, ap, subst, arith}
use Rattle.std.proofs.lemmas.Int.{ints, by_lt_z}
use Rattle.cc_num.specs.declared.int_type.IntType.{IntType}
use Rattle.cc_num.specs.declared.target.Target.{Target}
use Rattle.cc_num.specs.declared.op.BinOp.{BinOp}
use Rattle.cc_num.specs.declared.op.UnOp.{UnOp}
use Rattle.cc_num.specs.Integers.{IsValueOf, converted}
use Rattle.cc_num.specs.Results.{result_of, unary_result_of, is_shift}
use Rattle.cc_lattice.specs.Domains.{AreOperands, AreOperandsOne, IsSecond, is_comparison, passes, AreEnds}
use Rattle.cc_ranges.specs.declared.span.Interval.{Interval}
use Rattle.cc_ranges.specs.declared.span.Span.{Span}
use Rattle.cc_ranges.specs.declared.span.Span.TheVariants.{Empty, Between}
use Rattle.cc_ranges.specs.Ends.{Ends, IsInterval, EndsHave, EndsBelow}
use Rattle.cc_ranges.specs.Rules.{op_ends, op_one_ends, to_ends}
use Rattle.cc_ranges.specs.Keep.{keep_ends}
use Rattle.cc_ranges.specs.Spans.{ends_of, room_of_span}
use Rattle.cc_ranges.specs.laws.Fits.{ends_itself, ends_through, below_has}
use Rattle.cc_ranges.specs.laws.Products.{IsBetween}
use Rattle.cc_ranges.specs.laws.RuleHas.{rule_has}
use Rattle.cc_ranges.specs.laws.RuleGrows.{LieOut, rule_grows}
use Rattle.cc_ranges.specs.laws.OneRules.{one_has, one_grows, conversion_has, conversion_grows}
use Rattle.cc_ranges.specs.laws.KeepLaws as kept

abbrev pub SpanHas : Span → ℤ → Type 0
SpanHas x v = EndsHave (ends_of x) v

abbrev pub SpanBelow : Span → Span → Type 0
SpanBelow x y = EndsBelow (ends_of x) (ends_of y)

pub span_itself : (x : Span) → SpanBelow x x
span_itself x = ends_itself (ends_of x)

pub span_through : (x y z : Span) → SpanBelow x y → SpanBelow y z → SpanBelow x z
span_through x y z = ends_through (ends_of x) (ends_of y) (ends_of z)

pub span_below_has : (x y : Span) (v : ℤ) → SpanBelow x y → SpanHas x v → SpanHas y v
span_below_has x y v = below_has (ends_of x) (ends_of y) v

-- an interval is known by its ends

abbrev interval : (low high : ℤ) → IsInterval low high → Interval
interval low high p = record { low = low; high = high; ends = p }

ends_prop : (low high : ℤ) (p q : IsInterval low high) → p ≡ q
ends_prop low high = hlevel (T_prop)

same_ends : (l h l' h' : ℤ) (p : IsInterval l h) (q : IsInterval l' h') → l ≡ l' → h ≡ h' → interval l h p ≡ interval l' h' q
same_ends l h l' h' p q e f =
    subst (λ (x : ℤ). (r : IsInterval x h') → interval l h p ≡ interval x h' r) e
    (subst (λ (y : ℤ). (r : IsInterval l y) → interval l h p ≡ interval l y r) f (λ r. ap (interval l h) (ends_prop l h p r))) q

both_ways : (a b : ℤ) → a ≤ℤ b → b ≤ℤ a → a ≡ b
both_ways a b h k = omega (arith, ints)

pub spans_same : (x y : Span) → SpanBelow x y → SpanBelow y x → x ≡ y
spans_same Empty Empty h k = refl
spans_same Empty (Between j) h k = absurd k
spans_same (Between i) Empty h k = absurd h
spans_same (Between i) (Between j) h k =
    ap Between (same_ends i.low i.high j.low j.high i.ends j.ends (both_ways i.low j.low k.0 h.0) (both_ways i.high j.high h.1 k.1))

-- the operators

inside : (i : Interval) (v : ℤ) → SpanHas (Between i) v → IsBetween i.low i.high v
inside i v h = record { low_end = h.0; high_end = h.1 }

outside : (i j : Interval) → SpanBelow (Between i) (Between j) → LieOut i.low i.high j.low j.high
outside i j h = record { some = i.ends.ordered; low_out = h.0; high_out = h.1 }

pub low_in : (i : Interval) → SpanHas (Between i) i.low
low_in i = (≤ℤ_refl i.low, i.ends.ordered)

pub high_in : (i : Interval) → SpanHas (Between i) i.high
high_in i = (i.ends.ordered, ≤ℤ_refl i.high)

pub second_value : (s : Bool) (t : IntType) (target : Target) (v : ℤ) → s ≡ false → IsSecond s t target v → IsValueOf t target v
second_value true t target v e h = cc
second_value false t target v e h = h

pub span_op_has : (o : BinOp) (a b r : Span) (t : IntType) (target : Target) → AreOperands SpanHas o a b t target → ends_of r ≡ op_ends o (ends_of a) (ends_of b) t target
    → (v w z : ℤ) → SpanHas a v → SpanHas b w → result_of o v w t target ≡ Some z → SpanHas r z
span_op_has o Empty b r t target k e v w z h l f = absurd h
span_op_has o (Between i) Empty r t target k e v w z h l f = absurd l
span_op_has o (Between i) (Between j) r t target k e v w z h l f =
    subst (λ (x : Ends). EndsHave x z) (sym e)
    (rule_has o i.low i.high j.low j.high v w z t target (inside i v h) (inside j w l) i.ends.most j.ends.most
    (k.first v h) (λ s. second_value (is_shift o) t target w s (k.second w l)) f)

op_ends_grow : (o : BinOp) (a b x y : Span) (t : IntType) (target : Target) → AreOperands SpanHas o x y t target → SpanBelow a x → SpanBelow b y
    → EndsBelow (op_ends o (ends_of a) (ends_of b) t target) (op_ends o (ends_of x) (ends_of y) t target)
op_ends_grow o Empty b x y t target k h l = tt
op_ends_grow o (Between i) Empty x y t target k h l = tt
op_ends_grow o (Between i) (Between j) Empty y t target k h l = absurd h
op_ends_grow o (Between i) (Between j) (Between m) Empty t target k h l = absurd l
op_ends_grow o (Between i) (Between j) (Between m) (Between n) t target k h l =
    rule_grows o i.low i.high j.low j.high m.low m.high n.low n.high t target (outside i m h) (outside j n l) m.ends.most n.ends.most
    (k.first m.high (high_in m)).most (λ q. (second_value (is_shift o) t target n.high q (k.second n.high (high_in n))).most)

pub span_op_grows : (o : BinOp) (a b r x y s : Span) (t : IntType) (target : Target) → AreOperands SpanHas o x y t target
    → ends_of r ≡ op_ends o (ends_of a) (ends_of b) t target → ends_of s ≡ op_ends o (ends_of x) (ends_of y) t target
    → SpanBelow a x → SpanBelow b y → SpanBelow r s
span_op_grows o a b r x y s t target k e f h l =
    subst (λ (p : Ends). EndsBelow p (ends_of s)) (sym e)
    (subst (λ (p : Ends). EndsBelow (op_ends o (ends_of a) (ends_of b) t target) p) (sym f) (op_ends_grow o a b x y t target k h l))

pub span_one_has : (o : UnOp) (a r : Span) (t : IntType) (target : Target) → AreOperandsOne SpanHas a t target → ends_of r ≡ op_one_ends o (ends_of a) t target
    → (v z : ℤ) → SpanHas a v → unary_result_of o v t target ≡ Some z → SpanHas r z
span_one_has o Empty r t target k e v z h f = absurd h
span_one_has o (Between i) r t target k e v z h f =
    subst (λ (x : Ends). EndsHave x z) (sym e) (one_has o i.low i.high v z t target k.promotion (inside i v h) (k.first v h) f)

one_ends_grow : (o : UnOp) (a x : Span) (t : IntType) (target : Target) → SpanBelow a x → EndsBelow (op_one_ends o (ends_of a) t target) (op_one_ends o (ends_of x) t target)
one_ends_grow o Empty x t target h = tt
one_ends_grow o (Between i) Empty t target h = absurd h
one_ends_grow o (Between i) (Between j) t target h = one_grows o i.low i.high j.low j.high t target (outside i j h)

pub span_one_grows : (o : UnOp) (a r x s : Span) (t : IntType) (target : Target) → ends_of r ≡ op_one_ends o (ends_of a) t target → ends_of s ≡ op_one_ends o (ends_of x) t target
    → SpanBelow a x → SpanBelow r s
span_one_grows o a r x s t target e f h =
    subst (λ (p : Ends). EndsBelow p (ends_of s)) (sym e)
    (subst (λ (p : Ends). EndsBelow (op_one_ends o (ends_of a) t target) p) (sym f) (one_ends_grow o a x t target h))

pub span_to_has : (a r : Span) (t : IntType) (target : Target) → ends_of r ≡ to_ends (ends_of a) t target → (v : ℤ) → SpanHas a v → SpanHas r (converted v t target)
span_to_has Empty r t target e v h = absurd h
span_to_has (Between i) r t target e v h =
    subst (λ (x : Ends). EndsHave x (converted v t target)) (sym e) (conversion_has i.low i.high v t target (inside i v h))

to_ends_grow : (a x : Span) (t : IntType) (target : Target) → SpanBelow a x → EndsBelow (to_ends (ends_of a) t target) (to_ends (ends_of x) t target)
to_ends_grow Empty x t target h = tt
to_ends_grow (Between i) Empty t target h = absurd h
to_ends_grow (Between i) (Between j) t target h = conversion_grows i.low i.high j.low j.high t target (outside i j h)

pub span_to_grows : (a r x s : Span) (t : IntType) (target : Target) → ends_of r ≡ to_ends (ends_of a) t target → ends_of s ≡ to_ends (ends_of x) t target → SpanBelow a x → SpanBelow r s
span_to_grows a r x s t target e f h =
    subst (λ (p : Ends). EndsBelow p (ends_of s)) (sym e)
    (subst (λ (p : Ends). EndsBelow (to_ends (ends_of a) t target) p) (sym f) (to_ends_grow a x t target h))

-- comparisons

pub span_keep_has : (test : BinOp) (a b r : Span) → is_comparison test ≡ true → ends_of r ≡ keep_ends test (ends_of a) (ends_of b)
    → (v w : ℤ) → SpanHas a v → SpanHas b w → passes test v w ≡ true → SpanHas r v
span_keep_has test Empty b r c e v w h k p = absurd h
span_keep_has test (Between i) Empty r c e v w h k p = absurd k
span_keep_has test (Between i) (Between j) r c e v w h k p =
    subst (λ (x : Ends). EndsHave x v) (sym e) (kept.keep_has test i.low i.high j.low j.high v w c (inside i v h) (inside j w k) p)

keep_ends_below : (test : BinOp) (a b : Span) → is_comparison test ≡ true → EndsBelow (keep_ends test (ends_of a) (ends_of b)) (ends_of a)
keep_ends_below test Empty b c = tt
keep_ends_below test (Between i) Empty c = tt
keep_ends_below test (Between i) (Between j) c = kept.keep_below test i.low i.high j.low j.high c

pub span_keep_below : (test : BinOp) (a b r : Span) → is_comparison test ≡ true → ends_of r ≡ keep_ends test (ends_of a) (ends_of b) → SpanBelow r a
span_keep_below test a b r c e = subst (λ (p : Ends). EndsBelow p (ends_of a)) (sym e) (keep_ends_below test a b c)

keep_ends_grow : (test : BinOp) (a b x y : Span) → is_comparison test ≡ true → SpanBelow a x → SpanBelow b y
    → EndsBelow (keep_ends test (ends_of a) (ends_of b)) (keep_ends test (ends_of x) (ends_of y))
keep_ends_grow test Empty b x y c h k = tt
keep_ends_grow test (Between i) Empty x y c h k = tt
keep_ends_grow test (Between i) (Between j) Empty y c h k = absurd h
keep_ends_grow test (Between i) (Between j) (Between m) Empty c h k = absurd k
keep_ends_grow test (Between i) (Between j) (Between m) (Between n) c h k =
    kept.keep_grows test i.low i.high j.low j.high m.low m.high n.low n.high c (outside i m h) (outside j n k)

pub span_keep_grows : (test : BinOp) (a b r x y s : Span) → is_comparison test ≡ true → ends_of r ≡ keep_ends test (ends_of a) (ends_of b)
    → ends_of s ≡ keep_ends test (ends_of x) (ends_of y) → SpanBelow a x → SpanBelow b y → SpanBelow r s
span_keep_grows test a b r x y s c e f h k =
    subst (λ (p : Ends). EndsBelow p (ends_of s)) (sym e)
    (subst (λ (p : Ends). EndsBelow (keep_ends test (ends_of a) (ends_of b)) p) (sym f) (keep_ends_grow test a b x y c h k))

-- ends and room

pub span_none : (x : Span) → (ends_of x ≡ None) ↔ ((v : ℤ) → SpanHas x v → ⊥)
span_none Empty = ((λ e v h. h), (λ h. refl))
span_none (Between i) = ((λ e. cc), (λ h. absurd (h i.low (low_in i))))

pub span_ends : (x : Span) → IfSome (ends_of x) (AreEnds (SpanHas x))
span_ends Empty = tt
span_ends (Between i) = record { low_in = low_in i; high_in = high_in i; low = λ v h. h.0; high = λ v h. h.1 }

pub span_room : (x : Span) → room_of_span x ≤ 2 ^ 70
span_room Empty = omega arith
span_room (Between i) = omega arith

wider : (l h l' h' : ℤ) → l ≤ℤ h → l' ≤ℤ h' → neg_ℤ (pos (2 ^ 63)) ≤ℤ l' → h' <ℤ pos (2 ^ 64) → l' ≤ℤ l → h ≤ℤ h'
    → (l ≤ℤ l' → h' ≤ℤ h → ⊥) → 2 ^ 70 - 1 - unsigned_abs (h' -ℤ l') < 2 ^ 70 - 1 - unsigned_abs (h -ℤ l)
wider l h l' h' o o' low high a b other = by_lt_z l' l
    (λ (less : l' <ℤ l). omega (arith, ints))
    (λ (same : l ≤ℤ l'). by_lt_z h h' (λ (less : h <ℤ h'). omega (arith, ints)) (λ (same' : h' ≤ℤ h). absurd (other same same')))

some_room : (l h : ℤ) → neg_ℤ (pos (2 ^ 63)) ≤ℤ l → h <ℤ pos (2 ^ 64) → l ≤ℤ h → 2 ^ 70 - 1 - unsigned_abs (h -ℤ l) < 2 ^ 70
some_room l h a b o = omega arith

pub span_room_falls : (x y : Span) → SpanBelow x y → x ≢ y → room_of_span y < room_of_span x
span_room_falls Empty Empty h other = absurd (other refl)
span_room_falls Empty (Between j) h other = some_room j.low j.high j.ends.least j.ends.most j.ends.ordered
span_room_falls (Between i) Empty h other = absurd h
span_room_falls (Between i) (Between j) h other =
    wider i.low i.high j.low j.high i.ends.ordered j.ends.ordered j.ends.least j.ends.most h.0 h.1
    (λ a b. other (spans_same (Between i) (Between j) h (a, b)))
