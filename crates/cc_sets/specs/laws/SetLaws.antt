-- Sets keep the laws of a domain: images grow with their operands, and so do the range rules, which
-- have every result of members.
use Rattle.std.specs.Prelude.{◌≡◌, ◌^◌, true, false, ℤ, pos, ◌<ℤ◌, Some, None}
use Rattle.std.specs.Option.{IfSome}
use Rattle.std.proofs.Common.{refl, subst}
use Rattle.cc_num.specs.declared.int_type.IntType.{IntType}
use Rattle.cc_num.specs.declared.target.Target.{Target}
use Rattle.cc_num.specs.declared.op.BinOp.{BinOp}
use Rattle.cc_num.specs.declared.op.UnOp.{UnOp}
use Rattle.cc_num.specs.Integers.{IsValueOf, converted}
use Rattle.cc_num.specs.Results.{result_of, unary_result_of, is_shift}
use Rattle.cc_lattice.specs.Domains.{AreOperands, AreOperandsOne, is_comparison, passes, AreEnds}
use Rattle.cc_ranges.specs.Ends.{Ends, EndsHave, EndsBelow}
use Rattle.cc_ranges.specs.Rules.{op_ends, op_one_ends, to_ends}
use Rattle.cc_ranges.specs.Keep.{keep_ends}
use Rattle.cc_ranges.specs.laws.Fits.{below_has}
use Rattle.cc_ranges.specs.laws.Products.{IsBetween}
use Rattle.cc_ranges.specs.laws.RuleHas.{rule_has}
use Rattle.cc_ranges.specs.laws.RuleGrows.{LieOut, rule_grows}
use Rattle.cc_ranges.specs.laws.OneRules.{one_has, one_grows, conversion_has, conversion_grows}
use Rattle.cc_ranges.specs.laws.KeepLaws as kept
use Rattle.cc_ranges.specs.laws.SpanLaws.{second_value}
use Rattle.cc_sets.specs.declared.range.Range.{Range}
use Rattle.cc_sets.specs.declared.vals.Vals.{Vals}
use Rattle.cc_sets.specs.declared.vals.Vals.TheVariants.{Few, Many}
use Rattle.cc_sets.specs.Rungs.{low_of, high_of, ValsHas, ValsBelow, IsHull, vals_ends}
use Rattle.cc_sets.specs.Results.{OpResult, OneResult, IsConverted, IsKept}
use Rattle.cc_sets.specs.laws.Ends.{range_ordered, set_ends, set_reach, ends_have, ends_below}
use Rattle.cc_sets.specs.laws.RungLaws.{not_few}

inside : (low high v : ℤ) → EndsHave (Some (low, high)) v → IsBetween low high v
inside low high v h = record { low_end = h.0; high_end = h.1 }

-- what the ends of a set of operands are
record AreTops (P : ℤ → Type 0) (e : Ends) : Type 0 where
  ends : IfSome e (AreEnds P)
  below : (v : ℤ) → P v → v <ℤ pos (2 ^ 64)

tops : (x : Vals) → AreTops (ValsHas x) (vals_ends x)
tops x = record { ends = set_ends x; below = λ v h. (set_reach x v h).most }

-- operators of two operands

rule_by : (o : BinOp) (P Q : ℤ → Type 0) (e f : Ends) (t : IntType) (target : Target) (v w z : ℤ) → AreTops P e → AreTops Q f → EndsHave e v → EndsHave f w
    → IsValueOf t target v → (is_shift o ≡ false → IsValueOf t target w) → result_of o v w t target ≡ Some z → EndsHave (op_ends o e f t target) z
rule_by o P Q None f t target v w z p q h k a b r = absurd h
rule_by o P Q (Some (la, ha)) None t target v w z p q h k a b r = absurd k
rule_by o P Q (Some (la, ha)) (Some (lb, hb)) t target v w z p q h k a b r =
    rule_has o la ha lb hb v w z t target (inside la ha v h) (inside lb hb w k) (p.below ha (p.ends.high_in)) (q.below hb (q.ends.high_in)) a b r

rule_result : (o : BinOp) (a b : Vals) (t : IntType) (target : Target) (v w z : ℤ) → AreOperands ValsHas o a b t target → ValsHas a v → ValsHas b w
    → result_of o v w t target ≡ Some z → EndsHave (op_ends o (vals_ends a) (vals_ends b) t target) z
rule_result o a b t target v w z k h l r =
    rule_by o (ValsHas a) (ValsHas b) (vals_ends a) (vals_ends b) t target v w z (tops a) (tops b) (ends_have a v h) (ends_have b w l)
    (k.first v h) (λ s. second_value (is_shift o) t target w s (k.second w l)) r

op_result : (o : BinOp) (a b : Vals) (t : IntType) (target : Target) (v w z : ℤ) → AreOperands ValsHas o a b t target → ValsHas a v → ValsHas b w
    → result_of o v w t target ≡ Some z → OpResult o a b t target z
op_result o (Few a) (Few b) t target v w z k h l r = (v, w, h, l, r)
op_result o (Few a) (Many b) t target v w z k h l r = rule_result o (Few a) (Many b) t target v w z k h l r
op_result o (Many a) (Few b) t target v w z k h l r = rule_result o (Many a) (Few b) t target v w z k h l r
op_result o (Many a) (Many b) t target v w z k h l r = rule_result o (Many a) (Many b) t target v w z k h l r

pub set_op_has : (o : BinOp) (a b r : Vals) (t : IntType) (target : Target) → AreOperands ValsHas o a b t target → IsHull (OpResult o a b t target) r
    → (v w z : ℤ) → ValsHas a v → ValsHas b w → result_of o v w t target ≡ Some z → ValsHas r z
set_op_has o a b r t target k p v w z h l e = p.covers z (op_result o a b t target v w z k h l e)

grow_by : (o : BinOp) (P Q R S : ℤ → Type 0) (a b x y : Ends) (t : IntType) (target : Target) → AreTops P a → AreTops Q b → AreTops R x → AreTops S y → EndsBelow a x → EndsBelow b y
    → ((v : ℤ) → R v → IsValueOf t target v) → ((v : ℤ) → S v → is_shift o ≡ false → IsValueOf t target v) → EndsBelow (op_ends o a b t target) (op_ends o x y t target)
grow_by o P Q R S None b x y t target p q r s h k f g = tt
grow_by o P Q R S (Some (la, ha)) None x y t target p q r s h k f g = tt
grow_by o P Q R S (Some (la, ha)) (Some (lb, hb)) None y t target p q r s h k f g = absurd h
grow_by o P Q R S (Some (la, ha)) (Some (lb, hb)) (Some (lx, hx)) None t target p q r s h k f g = absurd k
grow_by o P Q R S (Some (la, ha)) (Some (lb, hb)) (Some (lx, hx)) (Some (ly, hy)) t target p q r s h k f g =
    rule_grows o la ha lb hb lx hx ly hy t target
    (record { some = p.ends.low ha p.ends.high_in; low_out = h.0; high_out = h.1 })
    (record { some = q.ends.low hb q.ends.high_in; low_out = k.0; high_out = k.1 })
    (r.below hx r.ends.high_in) (s.below hy s.ends.high_in) (f hx r.ends.high_in).most (λ e. (g hy s.ends.high_in e).most)

rule_below : (o : BinOp) (a b x y : Vals) (t : IntType) (target : Target) → AreOperands ValsHas o x y t target → ValsBelow a x → ValsBelow b y
    → (z : ℤ) → EndsHave (op_ends o (vals_ends a) (vals_ends b) t target) z → EndsHave (op_ends o (vals_ends x) (vals_ends y) t target) z
rule_below o a b x y t target k h l z = below_has (op_ends o (vals_ends a) (vals_ends b) t target) (op_ends o (vals_ends x) (vals_ends y) t target) z
    (grow_by o (ValsHas a) (ValsHas b) (ValsHas x) (ValsHas y) (vals_ends a) (vals_ends b) (vals_ends x) (vals_ends y) t target (tops a) (tops b) (tops x) (tops y)
    (ends_below a x h) (ends_below b y l) k.first (λ v m s. second_value (is_shift o) t target v s (k.second v m)))

op_result_grows : (o : BinOp) (a b x y : Vals) (t : IntType) (target : Target) → AreOperands ValsHas o x y t target → ValsBelow a x → ValsBelow b y
    → (z : ℤ) → OpResult o a b t target z → OpResult o x y t target z
op_result_grows o (Few a) (Few b) x y t target k h l z p = op_result o x y t target p.0 p.1 z k (h p.0 p.2) (l p.1 p.3) p.4
op_result_grows o (Few a) (Many b) x (Few y) t target k h l z p = absurd (not_few b y l)
op_result_grows o (Few a) (Many b) (Few x) (Many y) t target k h l z p = rule_below o (Few a) (Many b) (Few x) (Many y) t target k h l z p
op_result_grows o (Few a) (Many b) (Many x) (Many y) t target k h l z p = rule_below o (Few a) (Many b) (Many x) (Many y) t target k h l z p
op_result_grows o (Many a) b (Few x) y t target k h l z p = absurd (not_few a x h)
op_result_grows o (Many a) (Few b) (Many x) (Few y) t target k h l z p = rule_below o (Many a) (Few b) (Many x) (Few y) t target k h l z p
op_result_grows o (Many a) (Few b) (Many x) (Many y) t target k h l z p = rule_below o (Many a) (Few b) (Many x) (Many y) t target k h l z p
op_result_grows o (Many a) (Many b) (Many x) (Few y) t target k h l z p = absurd (not_few b y l)
op_result_grows o (Many a) (Many b) (Many x) (Many y) t target k h l z p = rule_below o (Many a) (Many b) (Many x) (Many y) t target k h l z p

pub set_op_grows : (o : BinOp) (a b r x y s : Vals) (t : IntType) (target : Target) → AreOperands ValsHas o x y t target
    → IsHull (OpResult o a b t target) r → IsHull (OpResult o x y t target) s → ValsBelow a x → ValsBelow b y → ValsBelow r s
set_op_grows o a b r x y s t target k p q h l = p.least s (λ z m. q.covers z (op_result_grows o a b x y t target k h l z m))

-- operators of one operand

one_result : (o : UnOp) (a : Vals) (t : IntType) (target : Target) (v z : ℤ) → AreOperandsOne ValsHas a t target → ValsHas a v → unary_result_of o v t target ≡ Some z → OneResult o a t target z
one_result o (Few a) t target v z k h r = (v, h, r)
one_result o (Many a) t target v z k h r = one_has o (low_of a) (high_of a) v z t target k.promotion (inside (low_of a) (high_of a) v h) (k.first v h) r

pub set_one_has : (o : UnOp) (a r : Vals) (t : IntType) (target : Target) → AreOperandsOne ValsHas a t target → IsHull (OneResult o a t target) r
    → (v z : ℤ) → ValsHas a v → unary_result_of o v t target ≡ Some z → ValsHas r z
set_one_has o a r t target k p v z h e = p.covers z (one_result o a t target v z k h e)

out : (a x : Range) → ValsBelow (Many a) (Many x) → LieOut (low_of a) (high_of a) (low_of x) (high_of x)
out a x h = let e = ends_below (Many a) (Many x) h in record { some = range_ordered a; low_out = e.0; high_out = e.1 }

one_result_grows : (o : UnOp) (a x : Vals) (t : IntType) (target : Target) → AreOperandsOne ValsHas x t target → ValsBelow a x → (z : ℤ) → OneResult o a t target z → OneResult o x t target z
one_result_grows o (Few a) x t target k h z p = one_result o x t target p.0 z k (h p.0 p.1) p.2
one_result_grows o (Many a) (Few x) t target k h z p = absurd (not_few a x h)
one_result_grows o (Many a) (Many x) t target k h z p =
    below_has (op_one_ends o (vals_ends (Many a)) t target) (op_one_ends o (vals_ends (Many x)) t target) z
    (one_grows o (low_of a) (high_of a) (low_of x) (high_of x) t target (out a x h)) p

pub set_one_grows : (o : UnOp) (a r x s : Vals) (t : IntType) (target : Target) → AreOperandsOne ValsHas x t target
    → IsHull (OneResult o a t target) r → IsHull (OneResult o x t target) s → ValsBelow a x → ValsBelow r s
set_one_grows o a r x s t target k p q h = p.least s (λ z m. q.covers z (one_result_grows o a x t target k h z m))

-- conversions

is_converted : (a : Vals) (t : IntType) (target : Target) (v : ℤ) → ValsHas a v → IsConverted a t target (converted v t target)
is_converted (Few a) t target v h = (v, h, refl)
is_converted (Many a) t target v h = conversion_has (low_of a) (high_of a) v t target (inside (low_of a) (high_of a) v h)

pub set_to_has : (a r : Vals) (t : IntType) (target : Target) → IsHull (IsConverted a t target) r → (v : ℤ) → ValsHas a v → ValsHas r (converted v t target)
set_to_has a r t target p v h = p.covers (converted v t target) (is_converted a t target v h)

converted_same : (a : Vals) (t : IntType) (target : Target) (v z : ℤ) → converted v t target ≡ z → ValsHas a v → IsConverted a t target z
converted_same a t target v z e h = subst (λ (y : ℤ). IsConverted a t target y) e (is_converted a t target v h)

converted_grows : (a x : Vals) (t : IntType) (target : Target) → ValsBelow a x → (z : ℤ) → IsConverted a t target z → IsConverted x t target z
converted_grows (Few a) x t target h z p = converted_same x t target p.0 z p.2 (h p.0 p.1)
converted_grows (Many a) (Few x) t target h z p = absurd (not_few a x h)
converted_grows (Many a) (Many x) t target h z p =
    below_has (to_ends (vals_ends (Many a)) t target) (to_ends (vals_ends (Many x)) t target) z
    (conversion_grows (low_of a) (high_of a) (low_of x) (high_of x) t target (out a x h)) p

pub set_to_grows : (a r x s : Vals) (t : IntType) (target : Target) → IsHull (IsConverted a t target) r → IsHull (IsConverted x t target) s → ValsBelow a x → ValsBelow r s
set_to_grows a r x s t target p q h = p.least s (λ z m. q.covers z (converted_grows a x t target h z m))

-- comparisons

keep_by : (test : BinOp) (low high : ℤ) (f : Ends) (v w : ℤ) → is_comparison test ≡ true → EndsHave (Some (low, high)) v → EndsHave f w → passes test v w ≡ true
    → EndsHave (keep_ends test (Some (low, high)) f) v
keep_by test low high None v w c h k p = absurd k
keep_by test low high (Some (lb, hb)) v w c h k p = kept.keep_has test low high lb hb v w c (inside low high v h) (inside lb hb w k) p

is_kept : (test : BinOp) (a b : Vals) (v w : ℤ) → is_comparison test ≡ true → ValsHas a v → ValsHas b w → passes test v w ≡ true → IsKept test a b v
is_kept test (Few a) b v w c h k p = (h, (w, k, p))
is_kept test (Many a) b v w c h k p = keep_by test (low_of a) (high_of a) (vals_ends b) v w c h (ends_have b w k) p

pub set_keep_has : (test : BinOp) (a b r : Vals) → is_comparison test ≡ true → IsHull (IsKept test a b) r
    → (v w : ℤ) → ValsHas a v → ValsHas b w → passes test v w ≡ true → ValsHas r v
set_keep_has test a b r c q v w h k p = q.covers v (is_kept test a b v w c h k p)

keep_below_by : (test : BinOp) (low high : ℤ) (f : Ends) (v : ℤ) → is_comparison test ≡ true → EndsHave (keep_ends test (Some (low, high)) f) v → EndsHave (Some (low, high)) v
keep_below_by test low high None v c h = absurd h
keep_below_by test low high (Some (lb, hb)) v c h = below_has (keep_ends test (Some (low, high)) (Some (lb, hb))) (Some (low, high)) v (kept.keep_below test low high lb hb c) h

kept_has : (test : BinOp) (a b : Vals) → is_comparison test ≡ true → (v : ℤ) → IsKept test a b v → ValsHas a v
kept_has test (Few a) b c v p = p.0
kept_has test (Many a) b c v p = keep_below_by test (low_of a) (high_of a) (vals_ends b) v c p

pub set_keep_below : (test : BinOp) (a b r : Vals) → is_comparison test ≡ true → IsHull (IsKept test a b) r → ValsBelow r a
set_keep_below test a b r c q = q.least a (kept_has test a b c)

keep_grow_by : (test : BinOp) (la ha lx hx : ℤ) (Q : ℤ → Type 0) (b y : Ends) → is_comparison test ≡ true → LieOut la ha lx hx → AreTops Q b → EndsBelow b y
    → EndsBelow (keep_ends test (Some (la, ha)) b) (keep_ends test (Some (lx, hx)) y)
keep_grow_by test la ha lx hx Q None y c o q h = tt
keep_grow_by test la ha lx hx Q (Some (lb, hb)) None c o q h = absurd h
keep_grow_by test la ha lx hx Q (Some (lb, hb)) (Some (ly, hy)) c o q h =
    kept.keep_grows test la ha lb hb lx hx ly hy c o (record { some = q.ends.low hb q.ends.high_in; low_out = h.0; high_out = h.1 })

kept_grows : (test : BinOp) (a b x y : Vals) → is_comparison test ≡ true → ValsBelow a x → ValsBelow b y → (v : ℤ) → IsKept test a b v → IsKept test x y v
kept_grows test (Few a) b x y c h k v p = let q = p.1 in is_kept test x y v q.0 c (h v p.0) (k q.0 q.1) q.2
kept_grows test (Many a) b (Few x) y c h k v p = absurd (not_few a x h)
kept_grows test (Many a) b (Many x) y c h k v p =
    below_has (keep_ends test (vals_ends (Many a)) (vals_ends b)) (keep_ends test (vals_ends (Many x)) (vals_ends y)) v
    (keep_grow_by test (low_of a) (high_of a) (low_of x) (high_of x) (ValsHas b) (vals_ends b) (vals_ends y) c (out a x h) (tops b) (ends_below b y k)) p

pub set_keep_grows : (test : BinOp) (a b r x y s : Vals) → is_comparison test ≡ true → IsHull (IsKept test a b) r → IsHull (IsKept test x y) s
    → ValsBelow a x → ValsBelow b y → ValsBelow r s
set_keep_grows test a b r x y s c p q h k = p.least s (λ v m. q.covers v (kept_grows test a b x y c h k v m))
