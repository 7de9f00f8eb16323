-- Row by row.
use Rattle.std.proofs.Common.{◌≡◌, ℤ, pos, List, Some, arith}
use Rattle.std.specs.List.{Contains}
use Rattle.cc_num.specs.declared.int_type.IntType.{IntType}
use Rattle.cc_num.specs.declared.target.Target.{Target}
use Rattle.cc_num.specs.Integers.{IsValueOf}
use Rattle.cc_num.specs.Results.{result_of}
use Rattle.cc_explicit.specs.Sets.{AreInReach}
use Rattle.cc_explicit.proofs.Reach.{read_same}
use Rattle.cc_sets.proofs.Adding.{before_none, before_more, before_all}
use Rattle.cc_sets.proofs.Values.{values_reach, read_has}
use Rattle.cc_sets.proofs.gathered.Gathered.add_image.Goals as goal

reach : (xs : List ℤ) (t : IntType) (target : Target) → ((v : ℤ) → Contains xs v → IsValueOf t target v) → AreInReach xs
reach xs t target h = values_reach xs t target h

pub add_row-requires-clause-first : goal.add_row-requires-clause-first
add_row-requires-clause-first c = read_has (IsValueOf c.args.t c.args.target.now) c.args.firsts.now c.loop-v.v-index (pos 0) (reach c.args.firsts.now c.args.t c.args.target.now c.requires.first) c.loop-v-test.true c.requires.first

pub loop-v-preserved : goal.loop-v-preserved
loop-v-preserved c = before_more c.args.self.now c.loop-v.self c.add_row.new.self (λ (v : ℤ) (z : ℤ). (w : ℤ) × Contains c.args.seconds.now w × (result_of c.args.op v w c.args.t c.args.target.now ≡ Some z)) c.args.firsts.now c.loop-v.v-index _ (pos 0) c.loop-v-test.true
    (read_same c.args.firsts.now c.loop-v.v-index (pos 0) (reach c.args.firsts.now c.args.t c.args.target.now c.requires.first) c.loop-v-test.true) c.loop-v.invariant c.add_row.ensures

pub loop-v-init : goal.loop-v-init
loop-v-init c = before_none c.args.self.now (λ (v : ℤ) (z : ℤ). (w : ℤ) × Contains c.args.seconds.now w × (result_of c.args.op v w c.args.t c.args.target.now ≡ Some z)) c.args.firsts.now

pub returns : goal.returns
returns c = before_all c.args.self.now c.loop-v.self (λ (v : ℤ) (z : ℤ). (w : ℤ) × Contains c.args.seconds.now w × (result_of c.args.op v w c.args.t c.args.target.now ≡ Some z)) c.args.firsts.now c.loop-v.v-index (omega arith) c.loop-v.invariant
