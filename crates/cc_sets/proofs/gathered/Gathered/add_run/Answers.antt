-- Number after number.
use Rattle.std.proofs.Common.{◌≡◌, ◌∙◌, ℕ, ◌+◌, ℤ, pos, ◌+ℤ◌, ◌≤ℤ◌, ◌<ℤ◌, sym, subst, inl, inr, arith, to_z, of_z}
use Rattle.std.specs.Int.{w128}
use Rattle.std.proofs.lemmas.Int.{ints, by_lt_z}
use Rattle.cc_explicit.proofs.Reach.{reach_same}
use Rattle.cc_sets.specs.declared.gathered.Gathered.{Gathered}
use Rattle.cc_sets.specs.Gatherings.{Adds}
use Rattle.cc_sets.proofs.Adding.{adds_in_turn}
use Rattle.cc_sets.proofs.gathered.Gathered.add_run.Goals as goal

run_more : (a b d : Gathered) (low : ℤ) (k : ℕ) (u : ℤ) → u ≡ low +ℤ pos k → Adds a b (λ z. (low ≤ℤ z) × (z <ℤ (low +ℤ pos k))) → Adds b d (λ w. u ≡ w) → Adds a d (λ z. (low ≤ℤ z) × (z <ℤ (low +ℤ pos (k + 1))))
run_more a b d low k u e p q = adds_in_turn a b d (λ z. (low ≤ℤ z) × (z <ℤ (low +ℤ pos k))) (λ w. u ≡ w) (λ z. (low ≤ℤ z) × (z <ℤ (low +ℤ pos (k + 1)))) p q
    (λ z h. let h0 = h.0 in let h1 = h.1 in (h0, omega (arith, ints)))
    (λ z h. let same : z ≡ low +ℤ pos k = sym h ∙ e in (omega (arith, ints), omega (arith, ints)))
    (λ z h. let h0 = h.0 in let h1 = h.1 in by_lt_z z (low +ℤ pos k) (λ (less : z <ℤ (low +ℤ pos k)). inl (h0, less)) (λ (up : (low +ℤ pos k) ≤ℤ z). inr (omega (arith, ints))))

run_all : (a b : Gathered) (low : ℤ) (k n : ℕ) → k ≡ n → Adds a b (λ z. (low ≤ℤ z) × (z <ℤ (low +ℤ pos k))) → Adds a b (λ z. (low ≤ℤ z) × (z <ℤ (low +ℤ pos n)))
run_all a b low k n e p = subst (λ (m : ℕ). Adds a b (λ z. (low ≤ℤ z) × (z <ℤ (low +ℤ pos m)))) e p

from_low : (a b : Gathered) (u low : ℤ) (k : ℕ) → u ≡ low → Adds a b (λ z. (u ≤ℤ z) × (z <ℤ (u +ℤ pos k))) → Adds a b (λ z. (low ≤ℤ z) × (z <ℤ (low +ℤ pos k)))
from_low a b u low k e p = subst (λ (x : ℤ). Adds a b (λ z. (x ≤ℤ z) × (z <ℤ (x +ℤ pos k)))) e p

pub loop-k-preserved : goal.loop-k-preserved
loop-k-preserved c =
    let l = c.requires.reach.least in let m = c.requires.reach.most in let f = c.requires.few in let t = c.loop-k-test.true in let r = c.from.ensures in
    run_more c.args.self.now c.loop-k.self c.add.new.self (to_z w128 (of_z w128 c.args.low)) c.loop-k.k _ (omega (arith, ints)) c.loop-k.invariant c.add.ensures

pub returns : goal.returns
returns c = from_low c.args.self.now c.loop-k.self _ c.args.low c.args.count (reach_same c.args.low c.requires.reach)
    (run_all c.args.self.now c.loop-k.self (to_z w128 (of_z w128 c.args.low)) c.loop-k.k c.args.count (omega arith) c.loop-k.invariant)
