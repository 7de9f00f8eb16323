-- An end that is dropped stays far within 128 bits.
use Rattle.std.proofs.Common.{◌≡◌, Bool, true, false, ℤ, pos, ◌+ℤ◌, ◌-ℤ◌, FitsSigned, to_z, of_z, to_z-of_z, Some, rules, refl, sym, ap, ap₂, ◌∙◌}
use Rattle.std.specs.Int.{w128}
use Rattle.std.specs.Ordering.{int_eq}
use Rattle.std.proofs.lemmas.Bool.Decides.{Decides-int_eq}
use Rattle.cc_num.proofs.Exact.{IsNarrow}
use Rattle.cc_ranges.specs.Ends.{between}
use Rattle.cc_ranges.specs.Keep.{without}
use Rattle.cc_ranges.proofs.Narrow.{low_narrow, high_narrow, narrow_same, less_one, more_one, less_fits, more_fits, more_least, less_most, read_least, read_most}
use Rattle.cc_ranges.proofs.keep.without.Goals as goal

first : (low high v : ℤ) → int_eq low v ≡ true → between (low +ℤ pos 1) high ≡ without low high v
first low high v e = rw e refl

last : (low high v : ℤ) → int_eq low v ≡ false → int_eq high v ≡ true → between low (high -ℤ pos 1) ≡ without low high v
last low high v e f = rw (e, f) refl

neither : (low high v : ℤ) → int_eq low v ≡ false → int_eq high v ≡ false → Some (low, high) ≡ without low high v
neither low high v e f = rw (e, f) refl

-- a test of an end
hit : (a v : ℤ) → IsNarrow a → FitsSigned w128 v → of_z w128 a ≡ of_z w128 v → int_eq a v ≡ true
hit a v p f e = (Decides-int_eq a v).1 (sym (narrow_same a p) ∙ ap (to_z w128) e ∙ to_z-of_z f)

miss_by : (b : Bool) (a v : ℤ) → int_eq a v ≡ b → (of_z w128 a ≡ of_z w128 v → ⊥) → int_eq a v ≡ false
miss_by true a v e n = absurd (n (ap (of_z w128) ((Decides-int_eq a v).0 e)))
miss_by false a v e n = e

miss : (a v : ℤ) → (of_z w128 a ≡ of_z w128 v → ⊥) → int_eq a v ≡ false
miss a v n = miss_by (int_eq a v) a v refl n

pub overflow_add-a : goal.overflow_add-a
overflow_add-a c = let a = c.args.a.now in more_fits a.low (low_narrow a.low a.high a.ends)

pub between-requires-clause-least : goal.between-requires-clause-least
between-requires-clause-least c = let a = c.args.a.now in more_least a.low (low_narrow a.low a.high a.ends)

pub between-requires-clause-most : goal.between-requires-clause-most
between-requires-clause-most c = let a = c.args.a.now in read_most a.high (high_narrow a.low a.high a.ends)

pub returns-then-a-v : goal.returns-then-a-v
returns-then-a-v c =
    let a = c.args.a.now in
    let f : FitsSigned w128 c.args.v = search rules in
    let p = low_narrow a.low a.high a.ends in
    c.between.ensures
    ∙ ap₂ between (more_one a.low p) (narrow_same a.high (high_narrow a.low a.high a.ends))
    ∙ first a.low a.high c.args.v (hit a.low c.args.v p f c.if-a-v.true)

pub overflow_sub-a : goal.overflow_sub-a
overflow_sub-a c = let a = c.args.a.now in less_fits a.high (high_narrow a.low a.high a.ends)

pub between-requires-then-a-v-2-clause-least : goal.between-requires-then-a-v-2-clause-least
between-requires-then-a-v-2-clause-least c = let a = c.args.a.now in read_least a.low (low_narrow a.low a.high a.ends)

pub between-requires-then-a-v-2-clause-most : goal.between-requires-then-a-v-2-clause-most
between-requires-then-a-v-2-clause-most c = let a = c.args.a.now in less_most a.high (high_narrow a.low a.high a.ends)

pub returns-then-a-v-2 : goal.returns-then-a-v-2
returns-then-a-v-2 c =
    let a = c.args.a.now in
    let f : FitsSigned w128 c.args.v = search rules in
    let p = high_narrow a.low a.high a.ends in
    c.between-then-a-v-2.ensures
    ∙ ap₂ between (narrow_same a.low (low_narrow a.low a.high a.ends)) (less_one a.high p)
    ∙ last a.low a.high c.args.v (miss a.low c.args.v c.if-a-v.false) (hit a.high c.args.v p f c.if-a-v-2.true)

pub returns-else-a-v-2 : goal.returns-else-a-v-2
returns-else-a-v-2 c =
    let a = c.args.a.now in
    neither a.low a.high c.args.v (miss a.low c.args.v c.if-a-v.false) (miss a.high c.args.v c.if-a-v-2.false)
