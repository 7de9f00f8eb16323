use Rattle.std.proofs.Common.{arith, ◌≡◌, ◌+◌, ◌-◌, ℕ, false, length, ap, sym, subst, ◌∙◌}
use Rattle.cc_program.specs.declared.types.Structure.{Structure}
use Rattle.cc_slots_structures.specs.declared.standing.Standing.{Standing}
use Rattle.cc_slots_structures.specs.Added.{AreFrom}
use Rattle.cc_slots_structures.proofs.DownLemmas.{at_last, step_down}
use Rattle.cc_slots_structures.proofs.structures.add_structures.Goals as goal

pub loop-first-init : goal.loop-first-init
loop-first-init c =
    let long = ap length c.all-structures.ensures in
    record { low = omega (arith, long); known = subst (λ (n : ℕ). AreFrom c.args.p.now n c.args.list.now) (sym long) c.requires }

pub bounds-structures-first : goal.bounds-structures-first
bounds-structures-first c =
    let low = c.loop-first.invariant.low in
    let long = ap length c.all-structures.ensures in
    let more = c.loop-first-test.true in
    omega (arith, low, long, more)

pub add_members-requires : goal.add_members-requires
add_members-requires c =
    let low = c.loop-first.invariant.low in
    let count = c.loop-first.invariant.known.count in
    omega (arith, low, count)

pub loop-first-preserved : goal.loop-first-preserved
loop-first-preserved c =
    let none : Standing = record { copies = 0; is_open = false; is_automatic = false } in
    let low = c.loop-first.invariant.low in
    let more = c.loop-first-test.true in
    let i : ℕ = c.loop-first.first - 1 in
    let next : c.loop-first.first ≡ c.loop-first.first - 1 + 1 = omega (arith, more) in
    record {
      low = omega (arith, low);
      known =
          step_down c.args.p.now c.loop-first.first i c.all-structures.result.now c.index-structures-first.result c.all.result.now none c.loop-first.list c.add_members.new.list c.all-structures.ensures c.index-structures-first.is
          (c.all.ensures ∙ ap (λ (x : Structure). x.members) (sym c.index-structures-first.is))
          next low c.loop-first.invariant.known c.add_members.ensures;
    }

pub returns : goal.returns
returns c = at_last c.args.p.now c.loop-first.first c.loop-first.list c.loop-first-test.false c.loop-first.invariant.known
