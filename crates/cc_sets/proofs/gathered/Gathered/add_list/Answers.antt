-- The numbers are added one by one.
use Rattle.std.proofs.Common.{◌≡◌, ℤ, pos, arith}
use Rattle.cc_lattice.specs.Domains.{IsInReach}
use Rattle.cc_explicit.proofs.Reach.{read_same}
use Rattle.cc_sets.proofs.Adding.{before_none, before_more, before_all}
use Rattle.cc_sets.proofs.Values.{read_has}
use Rattle.cc_sets.proofs.gathered.Gathered.add_list.Goals as goal

pub add-requires : goal.add-requires
add-requires c = read_has IsInReach c.args.numbers.now c.loop-v.v-index (pos 0) c.requires c.loop-v-test.true c.requires

pub loop-v-preserved : goal.loop-v-preserved
loop-v-preserved c = before_more c.args.self.now c.loop-v.self c.add.new.self (λ (v : ℤ) (z : ℤ). v ≡ z) c.args.numbers.now c.loop-v.v-index _ (pos 0) c.loop-v-test.true
    (read_same c.args.numbers.now c.loop-v.v-index (pos 0) c.requires c.loop-v-test.true) c.loop-v.invariant c.add.ensures

pub loop-v-init : goal.loop-v-init
loop-v-init c = before_none c.args.self.now (λ (v : ℤ) (z : ℤ). v ≡ z) c.args.numbers.now

pub returns : goal.returns
returns c = before_all c.args.self.now c.loop-v.self (λ (v : ℤ) (z : ℤ). v ≡ z) c.args.numbers.now c.loop-v.v-index (omega arith) c.loop-v.invariant
