use Rattle.std.proofs.Common.{arith, ◌≡◌, ◌+◌, sym, ap, ◌∙◌}
use Rattle.cc_program.specs.declared.types.Structure.{Structure}
use Rattle.cc_typed.proofs.CcSyntax.Measure.{arrays, in_members, arrays-Array, member_below, structure_below}
use Rattle.cc_typed.proofs.CcSyntax.Shapes.{read_at}
use Rattle.cc_cells.specs.Counts.{counted}
use Rattle.cc_cells.proofs.CountLemmas.{count-past}
use Rattle.cc_cells.proofs.counts.+count.Goals as goal

pub count-count-requires : goal.count-count-requires
count-count-requires t c =
    let e : c.get.result.now ≡ c.in-Array.of = c.get.ensures in
    let below = arrays-Array c.args.t.now c.in-Array.of c.in-Array.n c.in-Array.is ∙ ap (λ x. arrays x + 1) (sym e) in
    (omega (arith, below), tt)

pub count-count_members-requires : goal.count-count_members-requires
count-count_members-requires t c =
    let s = c.args.structures.now in
    let i = c.in-Struct.s in
    let r = c.index-structures-s.result in
    let g = read_at s i r c.index-structures-s.is c.if-s-structures.true in
    let e : c.all.result.now ≡ r.members = c.all.ensures ∙ ap (λ (x : Structure). x.members) (sym c.index-structures-s.is) in
    let below = structure_below s i r g in
    let same = ap in_members e in
    (omega (arith, below, same), tt)

pub count-returns-else-s-structures : goal.count-returns-else-s-structures
count-returns-else-s-structures t c =
    sym (ap counted (count-past c.args.structures.now c.args.t.now c.in-Struct.s c.in-Struct.is c.if-s-structures.false))

pub count_members-count-requires : goal.count_members-count-requires
count_members-count-requires t c =
    let g = read_at c.args.members.now c.loop-t.t-index c.loop-t-item.result c.loop-t-item.is c.loop-t-test.true in
    let below = member_below c.args.members.now c.loop-t.t-index c.loop-t-item.result g in
    (omega (arith, below), tt)
