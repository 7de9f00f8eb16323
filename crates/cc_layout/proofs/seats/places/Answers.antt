use Rattle.std.proofs.Common.{arith, ◌≤◌, ◌+◌, sym, ◌∙◌, ap, length, subst}
use Rattle.std.proofs.lemmas.Option.{slice_get_within}
use Rattle.cc_program.specs.Qualifiers.{is_const}
use Rattle.cc_layout.proofs.SeatLemmas.{const_where, not_const_where, Seated, object_at, object_small, layout_is, align_in, seated_start, seated_const, seated_more, seated_all}
use Rattle.cc_layout.proofs.seats.places.Goals as goal
use Rattle.cc_layout.proofs.seats.places.Goals.{then-takes_ram+in_ok-push, else-takes_ram}

pub loop-i-init : goal.loop-i-init
loop-i-init c = subst (λ items. Seated c.args.p.now 0 0 items) (sym c.new-seats.ensures.items) (seated_start c.args.p.now)

pub place_behind-at-requires-clause-align : goal.place_behind-at-requires-clause-align
place_behind-at-requires-clause-align c =
    let p = c.args.p.now in
    align_in p c.object-item.result c.layout_of-layout.result (layout_is p c.all.result.now c.all.ensures c.object-item.result c.layout_of-layout.result c.layout_of-layout.ensures)

pub overflow_add-end : goal.overflow_add-end
overflow_add-end c =
    let p = c.args.p.now in
    let o = c.object-item.result in
    let i = c.loop-i.i in
    let g = object_at c.all-object-items.result.now p.objects c.all-object-items.ensures i o c.object-item.is c.loop-i-test.true in
    let l = layout_is p c.all.result.now c.all.ensures o c.layout_of-layout.result c.layout_of-layout.ensures in
    let next = seated_more p i c.loop-i.end c.loop-i.seats.items o c.layout_of-layout.result l g (const_where (is_const o.ctype) (sym c.takes_ram.ensures ∙ c.if-takes_ram.true)) (object_small p c.requires i o g) c.loop-i.invariant in
    let high = next.high in
    let within = slice_get_within p.objects i o g in
    record { fits = omega (arith, high, c.place_behind-at.ensures, c.requires.few, within) }

pub loop-i-preserved : goal.loop-i-preserved
loop-i-preserved c =
    let p = c.args.p.now in
    let o = c.object-item.result in
    let i = c.loop-i.i in
    let end = c.loop-i.end in
    let g = object_at c.all-object-items.result.now p.objects c.all-object-items.ensures i o c.object-item.is c.loop-i-test.true in
    elim c.if-takes_ram.branch [
      | then-takes_ram+in_ok-push w ↦
          let layout = w.layout_of-layout.result in
          let l = layout_is p w.all.result.now w.all.ensures o layout w.layout_of-layout.ensures in
          let more = seated_more p i end c.loop-i.seats.items o layout l g (const_where (is_const o.ctype) (sym c.takes_ram.ensures ∙ w.if-takes_ram.true)) (object_small p c.requires i o g) c.loop-i.invariant in
          rw (w.end-is, w.seats-is, w.in_ok-push.ensures.items, w.place_behind-at.ensures) more
      | else-takes_ram w ↦
          rw (w.end-is, w.seats-is) (seated_const p i end c.loop-i.seats.items o g (not_const_where (is_const o.ctype) (sym c.takes_ram.ensures ∙ w.if-takes_ram.false)) c.loop-i.invariant)
    ]

pub returns : goal.returns
returns c =
    let p = c.args.p.now in
    let past : length p.objects ≤ c.loop-i.i = omega (arith, c.loop-i-test.false, ap length c.all-object-items.ensures) in
    seated_all p c.loop-i.i c.loop-i.end c.loop-i.seats.items past c.loop-i.invariant
