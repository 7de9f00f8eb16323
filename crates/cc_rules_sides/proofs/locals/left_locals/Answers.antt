-- One register after the other.
use Rattle.std.proofs.Common.{◌≡◌, ◌+◌, ◌<◌, Some, [], length, get_or, slice_get, take, arith, ap, sym, subst, ◌∙◌}
use Rattle.std.proofs.lemmas.Option.{slice_get-get_or}
use Rattle.cc_rules_flows.specs.CcPlaces.laws.ListLaws.{all_taken}
use Rattle.cc_rules_sides.specs.Refined.{AreLeft}
use Rattle.cc_rules_sides.proofs.LocalLemmas.{none_left, one_more}
use Rattle.cc_rules_tests.proofs.Following.{itself_at}
use Rattle.cc_rules_flows.specs.CcStateOperators.Domains.{domain}
use Rattle.cc_rules_sides.proofs.locals.left_locals.Goals as goal

pub loop-number-init : goal.loop-number-init
loop-number-init g c =
    let d = (domain g.I.Concrete.Has g.I.Lattice.IsBelow g.I.IntDomain.OpGives g.I.IntDomain.OpOneGives g.I.IntDomain.ToGives g.I.IntDomain.KeepGives g.I.IntDomain.members_of) in
    (c.requires.trial, subst (λ xs. AreLeft d c.args.tested.now [] c.args.sets.now xs) (sym c.new-left.ensures.items) (none_left d c.args.tested.now c.args.sets.now))

pub left_of-requires : goal.left_of-requires
left_of-requires g c =
    let registers = c.args.registers.now in
    let sets = c.args.sets.now in
    let i = c.loop-number.number in
    let there = c.loop-number-test.true in
    let each = c.requires.each in
    let within : i < length sets = omega (arith, there, each) in
    let y = c.index-sets-number.result in
    let is : slice_get sets i ≡ Some y = slice_get-get_or sets i y within ∙ ap Some (sym c.index-sets-number.is) in
    record { tested = c.requires.tested; trial = c.loop-number.invariant.0; holds = c.requires.sets i (get_or registers i 0) y (slice_get-get_or registers i 0 there) is }

pub loop-number-preserved : goal.loop-number-preserved
loop-number-preserved g c =
    let d = (domain g.I.Concrete.Has g.I.Lattice.IsBelow g.I.IntDomain.OpGives g.I.IntDomain.OpOneGives g.I.IntDomain.ToGives g.I.IntDomain.KeepGives g.I.IntDomain.members_of) in
    let t = c.args.tested.now in
    let registers = c.args.registers.now in
    let sets = c.args.sets.now in
    let i = c.loop-number.number in
    let there = c.loop-number-test.true in
    let each = c.requires.each in
    let within : i < length sets = omega (arith, there, each) in
    let y = c.index-sets-number.result in
    let z = c.in_ok-set.set in
    let is : slice_get sets i ≡ Some y = slice_get-get_or sets i y within ∙ ap Some (sym c.index-sets-number.is) in
    let more = one_more d t registers sets c.loop-number.left.items i (get_or registers i 0) y z there (itself_at registers i 0 there) is c.loop-number.invariant.1 c.in_ok-set.ensures.left c.in_ok-set.ensures.worked in
    (c.left_of.ensures.trial, subst (λ xs. AreLeft d t (take (i + 1) registers) sets xs) (sym c.in_ok-push.ensures.items) more)

pub returns-clause-left : goal.returns-clause-left
returns-clause-left g c =
    let registers = c.args.registers.now in
    subst (λ rs. AreLeft (domain g.I.Concrete.Has g.I.Lattice.IsBelow g.I.IntDomain.OpGives g.I.IntDomain.OpOneGives g.I.IntDomain.ToGives g.I.IntDomain.KeepGives g.I.IntDomain.members_of) c.args.tested.now rs c.args.sets.now c.loop-number.left.items) (all_taken registers c.loop-number.number (omega (arith, c.loop-number-test.false))) c.loop-number.invariant.1
