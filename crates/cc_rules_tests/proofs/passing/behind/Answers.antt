-- The next number goes on by one where the list has it.
use Rattle.std.proofs.Common.{pos, ◌+◌, ◌+ℤ◌, get_or, to_z, of_z, arith, ap, sym, subst, ◌∙◌}
use Rattle.std.specs.Int.{w128}
use mir.Facts.{of_z-to_z}
use Rattle.cc_rules_tests.specs.Passing.{IsNext, IsBehind}
use Rattle.cc_rules_tests.proofs.Following.{IsBehindSoFar, all_read, int_same, item_value, itself_at, next_fits, next_same, none_read, read_next, read_other}
use Rattle.cc_rules_tests.proofs.passing.behind.Goals as goal
use Rattle.cc_rules_tests.proofs.passing.behind.Goals.{then-n-next, else-n-next}

pub loop-n-init : goal.loop-n-init
loop-n-init c = none_read _ c.args.numbers.now (subst IsNext (sym (next_same c.args.first c.requires.start)) c.requires.start)

pub overflow_add-next : goal.overflow_add-next
overflow_add-next c = next_fits _ c.loop-n.invariant.here

pub loop-n-preserved : goal.loop-n-preserved
loop-n-preserved c =
    let numbers = c.args.numbers.now in
    let i = c.loop-n.n-index in
    let first = to_z w128 (of_z w128 c.args.first) in
    let next = to_z w128 c.loop-n.next-bits in
    let n = get_or numbers i (pos 0) in
    let there = c.loop-n-test.true in
    let is = itself_at numbers i (pos 0) there in
    let same = int_same n (item_value numbers i n c.requires.numbers there is) in
    elim c.if-n-next.branch [
      | then-n-next w ↦
          let step = read_next first numbers i n next c.requires.numbers there is (sym same ∙ ap (to_z w128) w.if-n-next.true) c.loop-n.invariant in
          subst (λ z. IsBehindSoFar first numbers (i + 1) z) (sym (w.next-is ∙ next_same (next +ℤ pos 1) step.here)) step
      | else-n-next w ↦
          subst (λ z. IsBehindSoFar first numbers (i + 1) z) (sym w.next-is)
          (read_other first numbers i n next there is (λ e. w.if-n-next.false (ap (of_z w128) e ∙ of_z-to_z c.loop-n.auto.next)) c.loop-n.invariant)
    ]

pub returns : goal.returns
returns c =
    let next = to_z w128 c.loop-n.next-bits in
    let all = all_read (to_z w128 (of_z w128 c.args.first)) c.args.numbers.now c.loop-n.n-index next (omega (arith, c.loop-n-test.false)) c.loop-n.invariant in
    record { next = c.loop-n.invariant.here; behind = subst (λ z. IsBehind z c.args.numbers.now next) (next_same c.args.first c.requires.start) all }
