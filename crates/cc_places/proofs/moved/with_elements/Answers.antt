-- The elements so far to which the number moves; once the set is not exact, one of them stands for all.
use Rattle.std.proofs.Common.{◌≡◌, ◌≤◌, ◌+◌, true, false, pos, ◌-ℤ◌, ap, sym, ◌∙◌, arith}
use Rattle.std.proofs.lemmas.Int.{ints, clamps}
use Rattle.cc_program.specs.declared.value.Address.TheVariants as address
use Rattle.cc_places.proofs.Moving.{none_reached, one_reached, not_reached, all_reached, one_stands, has_there, not_there}
use Rattle.cc_places.proofs.moved.with_elements.Goals as goal
use Rattle.cc_places.proofs.moved.with_elements.Goals.{then-has+in_ok-copy_list+in_ok-all+else-not-all+in-At-1, then-has+in_ok-copy_list+in_ok-all+else-not-all+in-Null-1, else-has}

not_both : {A : Type 0} → true ≡ false → A
not_both e = cc

pub loop-next-init : goal.loop-next-init
loop-next-init g c = none_reached (g.I.Concrete.Has c.args.by.now) c.args.object c.args.path.now c.args.index c.args.count c.args.set

pub returns-then-not-all : goal.returns-then-not-all
returns-then-not-all g c =
    let by = g.I.Concrete.Has c.args.by.now in
    let k = c.loop-next.next in
    let has = has_there by _ (pos k -ℤ pos c.args.index) (c.has.ensures.0 c.if-has.true) (omega (arith, ints, clamps, c.from.ensures, c.from-in-loop-next.ensures)) in
    let small : k ≤ c.args.count = omega (arith, c.loop-next-test.true, c.loop-next.auto.next-end, c.from-next-end.ensures) in
    one_stands by c.args.object c.args.path.now c.args.index c.args.count k c.args.set c.in_ok-all.all small has c.if-not-all.true
    (one_reached by c.args.object c.args.path.now c.args.index c.args.count k c.args.set c.loop-next.all c.in_ok-all.all _ has
    (ap (λ p. address.At c.args.object p k c.args.count) c.in_ok-copy_list.ensures) c.loop-next.invariant c.in_ok-all.ensures)

pub loop-next-preserved : goal.loop-next-preserved
loop-next-preserved g c =
    let by = g.I.Concrete.Has c.args.by.now in
    let k = c.loop-next.next in
    elim c.if-has.branch [
      | then-has+in_ok-copy_list+in_ok-all+else-not-all+in-At-1 w ↦
          let has = has_there by _ (pos k -ℤ pos c.args.index) (c.has.ensures.0 w.if-has.true) (omega (arith, ints, clamps, c.from.ensures, c.from-in-loop-next.ensures)) in
          rw w.all-is
          (one_reached by c.args.object c.args.path.now c.args.index c.args.count k c.args.set c.loop-next.all w.in_ok-all.all _ has
          (ap (λ p. address.At c.args.object p k c.args.count) w.in_ok-copy_list.ensures) c.loop-next.invariant w.in_ok-all.ensures)
      | then-has+in_ok-copy_list+in_ok-all+else-not-all+in-Null-1 w ↦
          let has = has_there by _ (pos k -ℤ pos c.args.index) (c.has.ensures.0 w.if-has.true) (omega (arith, ints, clamps, c.from.ensures, c.from-in-loop-next.ensures)) in
          rw w.all-is
          (one_reached by c.args.object c.args.path.now c.args.index c.args.count k c.args.set c.loop-next.all w.in_ok-all.all _ has
          (ap (λ p. address.At c.args.object p k c.args.count) w.in_ok-copy_list.ensures) c.loop-next.invariant w.in_ok-all.ensures)
      | else-has w ↦
          rw w.all-is
          (not_reached by c.args.object c.args.path.now c.args.index c.args.count k c.args.set c.loop-next.all
          (not_there by _ (pos k -ℤ pos c.args.index) (λ h. not_both (sym (c.has.ensures.1 h) ∙ w.if-has.false)) (omega (arith, ints, clamps, c.from.ensures, c.from-in-loop-next.ensures))) c.loop-next.invariant)
    ]

pub returns : goal.returns
returns g c =
    let end : c.loop-next.next ≡ c.args.count + 1 = omega (arith, c.loop-next.auto.next-end, c.loop-next-test.false, c.from-next-end.ensures) in
    all_reached (g.I.Concrete.Has c.args.by.now) c.args.object c.args.path.now c.args.index c.args.count c.loop-next.next c.args.set c.loop-next.all end c.loop-next.invariant
