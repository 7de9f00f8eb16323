-- What the rules of comparisons give, members of the two sets give: of order their ends, of `==` and `!=` a member that both have, and two
-- that differ. What a conversion gives of numbers of its type, they are.
use Rattle.std.proofs.Common.{◌≡◌, Bool, true, false, not, ℤ, pos, ◌≤ℤ◌, ◌<ℤ◌, int_le, int_lt, Some, if◌then◌else◌, refl, sym, ap, subst, ◌∙◌, arith}
use Rattle.std.specs.Ordering.{int_eq}
use Rattle.std.proofs.lemmas.Int.{ints, by_lt_z}
use Rattle.cc_num.specs.declared.int_type.IntType.{IntType}
use Rattle.cc_num.specs.declared.int_type.IntType.TheVariants as int
use Rattle.cc_num.specs.declared.target.Target.{Target}
use Rattle.cc_num.specs.declared.op.BinOp.{BinOp}
use Rattle.cc_num.specs.declared.op.BinOp.TheVariants as op
use Rattle.cc_num.specs.Results.{result_of, one_if}
use Rattle.cc_lattice.specs.Domains.{is_comparison, is_order, passes}
use Rattle.cc_lattice.proofs.IntValues.{passing}
use Rattle.cc_ranges.specs.Ends.{EndsHave, LieIn, lies_in, whole_ends}
use Rattle.cc_ranges.specs.Rules.{verdict, are_one, are_apart, lt_rule, le_rule, eq_rule, ne_rule, rule_of, conversion_rule}
use Rattle.cc_ranges.specs.laws.Fits.{le_true, le_false, lt_true, lt_false, lies_test}

-- what a comparison gives of some members
pub record IsTold (P Q : ℤ → Type 0) (o : BinOp) (z : ℤ) : Type 0 where
  pub left : ℤ
  pub right : ℤ
  pub in_left : P left
  pub in_right : Q right
  pub told : one_if (passes o left right) ≡ z

-- the ends of two sets, each of which is a member
pub record HaveEnds (P Q : ℤ → Type 0) (la ha lb hb : ℤ) : Type 0 where
  pub low_in_left : P la
  pub high_in_left : P ha
  pub low_in_right : Q lb
  pub high_in_right : Q hb
  pub left_ordered : la ≤ℤ ha
  pub right_ordered : lb ≤ℤ hb

-- a member that both have
abbrev pub HaveCommon : (ℤ → Type 0) → (ℤ → Type 0) → Type 0
HaveCommon P Q = (m : ℤ) × P m × Q m

-- what two members give, where it is known whether they pass
module _ (P Q : ℤ → Type 0) (o : BinOp) where
  by_members : (b : Bool) (z v w : ℤ) → P v → Q w → passes o v w ≡ b → one_if b ≡ z → IsTold P Q o z
  by_members b z v w p q e f = record { left = v; right = w; in_left = p; in_right = q; told = ap one_if e ∙ f }

  -- between 0 and 1
  of_either : (z : ℤ) → pos 0 ≤ℤ z → z ≤ℤ pos 1 → (pos 0 ≡ z → IsTold P Q o z) → (pos 1 ≡ z → IsTold P Q o z) → IsTold P Q o z
  of_either z h k zero one = by_lt_z (pos 0) z (λ (up : pos 0 <ℤ z). one (omega (arith, ints))) (λ (down : z ≤ℤ pos 0). zero (omega (arith, ints)))

  -- by the verdict: what is known to hold is told by two members, what is known to fail too, and else there are two that pass and two that do not
  by_verdict : (holds fails : Bool) (z : ℤ) → (holds ≡ true → pos 1 ≡ z → IsTold P Q o z) → (fails ≡ true → pos 0 ≡ z → IsTold P Q o z)
      → (holds ≡ false → fails ≡ false → (pos 0 ≡ z → IsTold P Q o z) × (pos 1 ≡ z → IsTold P Q o z)) → EndsHave (verdict holds fails) z → IsTold P Q o z
  by_verdict true fails z one zero either h = let a = h.0 in let b = h.1 in one refl (omega (arith, ints))
  by_verdict false true z one zero either h = let a = h.0 in let b = h.1 in zero refl (omega (arith, ints))
  by_verdict false false z one zero either h = let t = either refl refl in of_either z h.0 h.1 t.0 t.1

-- what tests of order say

le_tells : (a b : ℤ) → int_le a b ≡ true → a ≤ℤ b
le_tells a b h = grind (arith, ints)

le_denies : (a b : ℤ) → int_le a b ≡ false → b <ℤ a
le_denies a b h = grind (arith, ints)

lt_tells : (a b : ℤ) → int_lt a b ≡ true → a <ℤ b
lt_tells a b h = grind (arith, ints)

lt_denies : (a b : ℤ) → int_lt a b ≡ false → b ≤ℤ a
lt_denies a b h = grind (arith, ints)

eq_true : (a b : ℤ) → a ≡ b → int_eq a b ≡ true
eq_true a b h = grind (arith, ints)

eq_less : (a b : ℤ) → a <ℤ b → int_eq a b ≡ false
eq_less a b h = grind (arith, ints)

eq_more : (a b : ℤ) → b <ℤ a → int_eq a b ≡ false
eq_more a b h = grind (arith, ints)

-- comparisons of order

module _ (P Q : ℤ → Type 0) (la ha lb hb : ℤ) (e : HaveEnds P Q la ha lb hb) where
  told_lt : (z : ℤ) → EndsHave (lt_rule la ha lb hb) z → IsTold P Q op.Lt z
  told_lt z h = by_verdict P Q op.Lt (int_lt ha lb) (int_le hb la) z
      (λ holds one. by_members P Q op.Lt true z ha lb e.high_in_left e.low_in_right holds one)
      (λ fails zero. let n = le_tells hb la fails in let k = e.left_ordered in by_members P Q op.Lt false z ha hb e.high_in_left e.high_in_right (lt_false ha hb (omega (arith, ints))) zero)
      (λ not_all some. (
        λ zero. by_members P Q op.Lt false z ha lb e.high_in_left e.low_in_right not_all zero,
        λ one. by_members P Q op.Lt true z la hb e.low_in_left e.high_in_right (lt_true la hb (le_denies hb la some)) one,
      ))
      h

  told_le : (z : ℤ) → EndsHave (le_rule la ha lb hb) z → IsTold P Q op.Le z
  told_le z h = by_verdict P Q op.Le (int_le ha lb) (int_lt hb la) z
      (λ holds one. by_members P Q op.Le true z ha lb e.high_in_left e.low_in_right holds one)
      (λ fails zero. let n = lt_tells hb la fails in let k = e.left_ordered in by_members P Q op.Le false z ha hb e.high_in_left e.high_in_right (le_false ha hb (omega (arith, ints))) zero)
      (λ not_all some. (
        λ zero. by_members P Q op.Le false z ha lb e.high_in_left e.low_in_right not_all zero,
        λ one. by_members P Q op.Le true z la hb e.low_in_left e.high_in_right (le_true la hb (lt_denies hb la some)) one,
      ))
      h

  -- sets that are one number, sets that are apart, and others

  are_same : are_one la ha lb hb ≡ true → la ≡ lb
  are_same h =
      let a = le_tells ha lb (grind (arith, ints)) in
      let b = le_tells hb la (grind (arith, ints)) in
      let k = e.left_ordered in let l = e.right_ordered in
      omega (arith, ints)

  are_other : are_apart la ha lb hb ≡ true → int_eq la lb ≡ false
  are_other h =
      let k = e.left_ordered in let l = e.right_ordered in
      by_lt_z ha lb (λ (less : ha <ℤ lb). eq_less la lb (omega (arith, ints)))
      (λ (more : lb ≤ℤ ha). let n = lt_tells hb la (grind (arith, ints)) in eq_more la lb (omega (arith, ints)))

  they_meet : are_apart la ha lb hb ≡ false → (lb ≤ℤ ha) × (la ≤ℤ hb)
  they_meet h = (lt_denies ha lb (grind (arith, ints)), lt_denies hb la (grind (arith, ints)))

  -- two members that differ
  record Differ : Type 0 where
    left : ℤ
    right : ℤ
    in_left : P left
    in_right : Q right
    other : int_eq left right ≡ false

  they_differ : are_one la ha lb hb ≡ false → Differ
  they_differ h = by_lt_z lb ha
      (λ (less : lb <ℤ ha). record { left = ha; right = lb; in_left = e.high_in_left; in_right = e.low_in_right; other = eq_more ha lb less })
      (λ (more : ha ≤ℤ lb). let t = le_true ha lb more in let n = le_denies hb la (grind (arith, ints)) in record { left = la; right = hb; in_left = e.low_in_left; in_right = e.high_in_right; other = eq_less la hb n })

  module _ (common : lb ≤ℤ ha → la ≤ℤ hb → HaveCommon P Q) where
    met : are_apart la ha lb hb ≡ false → HaveCommon P Q
    met h = let m = they_meet h in common m.0 m.1

    told_eq : (z : ℤ) → EndsHave (eq_rule la ha lb hb) z → IsTold P Q op.Eq z
    told_eq z h = by_verdict P Q op.Eq (are_one la ha lb hb) (are_apart la ha lb hb) z
        (λ holds one. by_members P Q op.Eq true z la lb e.low_in_left e.low_in_right (eq_true la lb (are_same holds)) one)
        (λ fails zero. by_members P Q op.Eq false z la lb e.low_in_left e.low_in_right (are_other fails) zero)
        (λ not_one not_apart. (
          λ zero. let t = they_differ not_one in by_members P Q op.Eq false z t.left t.right t.in_left t.in_right t.other zero,
          λ one. let t = met not_apart in by_members P Q op.Eq true z t.0 t.0 t.1 t.2 (eq_true t.0 t.0 refl) one,
        ))
        h

    told_ne : (z : ℤ) → EndsHave (ne_rule la ha lb hb) z → IsTold P Q op.Ne z
    told_ne z h = by_verdict P Q op.Ne (are_apart la ha lb hb) (are_one la ha lb hb) z
        (λ holds one. by_members P Q op.Ne true z la lb e.low_in_left e.low_in_right (ap not (are_other holds)) one)
        (λ fails zero. by_members P Q op.Ne false z la lb e.low_in_left e.low_in_right (ap not (eq_true la lb (are_same fails))) zero)
        (λ not_apart not_one. (
          λ zero. let t = met not_apart in by_members P Q op.Ne false z t.0 t.0 t.1 t.2 (ap not (eq_true t.0 t.0 refl)) zero,
          λ one. let t = they_differ not_one in by_members P Q op.Ne true z t.left t.right t.in_left t.in_right (ap not t.other) one,
        ))
        h

-- the members of the one set and those of the other, the other way round

turned_ends : (P Q : ℤ → Type 0) (la ha lb hb : ℤ) → HaveEnds P Q la ha lb hb → HaveEnds Q P lb hb la ha
turned_ends P Q la ha lb hb e = record {
  low_in_left = e.low_in_right;
  high_in_left = e.high_in_right;
  low_in_right = e.low_in_left;
  high_in_right = e.high_in_left;
  left_ordered = e.right_ordered;
  right_ordered = e.left_ordered;
}

told_gt : (P Q : ℤ → Type 0) (z : ℤ) → IsTold Q P op.Lt z → IsTold P Q op.Gt z
told_gt P Q z t = record { left = t.right; right = t.left; in_left = t.in_right; in_right = t.in_left; told = t.told }

told_ge : (P Q : ℤ → Type 0) (z : ℤ) → IsTold Q P op.Le z → IsTold P Q op.Ge z
told_ge P Q z t = record { left = t.right; right = t.left; in_left = t.in_right; in_right = t.in_left; told = t.told }

pub rule_told : (o : BinOp) (P Q : ℤ → Type 0) (la ha lb hb z : ℤ) (t : IntType) (target : Target) → is_comparison o ≡ true → HaveEnds P Q la ha lb hb
    → (is_order o ≡ false → lb ≤ℤ ha → la ≤ℤ hb → HaveCommon P Q) → EndsHave (rule_of o la ha lb hb t target) z → IsTold P Q o z
unfolding rule_of
rule_told op.Lt P Q la ha lb hb z t target c e common h = told_lt P Q la ha lb hb e z h
rule_told op.Le P Q la ha lb hb z t target c e common h = told_le P Q la ha lb hb e z h
rule_told op.Gt P Q la ha lb hb z t target c e common h = told_gt P Q z (told_lt Q P lb hb la ha (turned_ends P Q la ha lb hb e) z h)
rule_told op.Ge P Q la ha lb hb z t target c e common h = told_ge P Q z (told_le Q P lb hb la ha (turned_ends P Q la ha lb hb e) z h)
rule_told op.Eq P Q la ha lb hb z t target c e common h = told_eq P Q la ha lb hb e (common refl) z h
rule_told op.Ne P Q la ha lb hb z t target c e common h = told_ne P Q la ha lb hb e (common refl) z h
rule_told _ P Q la ha lb hb z t target c e common h = cc

-- as the result of the operator
pub told_result : (o : BinOp) (P Q : ℤ → Type 0) (z : ℤ) (t : IntType) (target : Target) → is_comparison o ≡ true → IsTold P Q o z
    → (v : ℤ) × (w : ℤ) × P v × Q w × (result_of o v w t target ≡ Some z)
told_result o P Q z t target c h = (h.left, h.right, h.in_left, h.in_right, passing o h.left h.right t target c ∙ ap Some h.told)

-- conversions

kept_truths : (low high : ℤ) → low ≤ℤ high → pos 0 ≤ℤ low → high ≤ℤ pos 1 → ne_rule low high (pos 0) (pos 0) ≡ Some (low, high)
kept_truths low high o h k = by_lt_z (pos 0) low
    (λ (one : pos 0 <ℤ low).
    let a : low ≡ pos 1 = omega (arith, ints) in
    let b : high ≡ pos 1 = omega (arith, ints) in
    subst (λ (x : ℤ). ne_rule x high (pos 0) (pos 0) ≡ Some (x, high)) (sym a) (subst (λ (x : ℤ). ne_rule (pos 1) x (pos 0) (pos 0) ≡ Some (pos 1, x)) (sym b) refl))
    (λ (none : low ≤ℤ pos 0).
    let a : low ≡ pos 0 = omega (arith, ints) in
    subst (λ (x : ℤ). ne_rule x high (pos 0) (pos 0) ≡ Some (x, high)) (sym a)
    (by_lt_z (pos 0) high
    (λ (up : pos 0 <ℤ high). let b : high ≡ pos 1 = omega (arith, ints) in subst (λ (x : ℤ). ne_rule (pos 0) x (pos 0) (pos 0) ≡ Some (pos 0, x)) (sym b) refl)
    (λ (down : high ≤ℤ pos 0). let b : high ≡ pos 0 = omega (arith, ints) in subst (λ (x : ℤ). ne_rule (pos 0) x (pos 0) (pos 0) ≡ Some (pos 0, x)) (sym b) refl)))

kept_numbers : (b : Bool) (low high : ℤ) (t : IntType) (target : Target) → lies_in low high t target ≡ b → b ≡ true → (if b then Some (low, high) else whole_ends t target) ≡ Some (low, high)
kept_numbers true low high t target e h = refl
kept_numbers false low high t target e h = cc

pub conversion_kept : (low high : ℤ) (t : IntType) (target : Target) → low ≤ℤ high → LieIn low high t target → conversion_rule low high t target ≡ Some (low, high)
unfolding conversion_rule
conversion_kept low high int.Bool target o h = kept_truths low high o h.first h.last
conversion_kept low high t target o h = kept_numbers (lies_in low high t target) low high t target refl (lies_test low high t target h)
