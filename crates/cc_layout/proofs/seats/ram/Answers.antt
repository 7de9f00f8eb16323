use Rattle.std.proofs.Common.{arith, ◌≤◌, ◌+◌, sym, ◌∙◌, ap, length, subst}
use Rattle.std.proofs.lemmas.Option.{slice_get_within}
use Rattle.cc_program.specs.Qualifiers.{is_const}
use Rattle.cc_layout.proofs.SeatLemmas.{const_where, not_const_where, Ends, object_at, object_small, layout_is, align_in, ends_const, ends_more, ends_all}
use Rattle.cc_layout.proofs.seats.ram.Goals as goal
use Rattle.cc_layout.proofs.seats.ram.Goals.{then-takes_ram, else-takes_ram}

pub place_behind-requires-clause-align : goal.place_behind-requires-clause-align
place_behind-requires-clause-align c =
    let p = c.args.p.now in
    align_in p c.object-item.result c.layout_of-layout.result (layout_is p c.all.result.now c.all.ensures c.object-item.result c.layout_of-layout.result c.layout_of-layout.ensures)

pub overflow_add-end : goal.overflow_add-end
overflow_add-end c =
    let p = c.args.p.now in
    let o = c.object-item.result in
    let i = c.loop-object.object-index in
    let g = object_at c.all-object-items.result.now p.objects c.all-object-items.ensures i o c.object-item.is c.loop-object-test.true in
    let l = layout_is p c.all.result.now c.all.ensures o c.layout_of-layout.result c.layout_of-layout.ensures in
    let next = ends_more p i c.loop-object.end o c.layout_of-layout.result l g (const_where (is_const o.ctype) (sym c.takes_ram.ensures ∙ c.if-takes_ram.true)) (object_small p c.requires i o g) c.loop-object.invariant in
    let high = next.high in
    let within = slice_get_within p.objects i o g in
    record { fits = omega (arith, high, c.place_behind.ensures, c.requires.few, within) }

pub loop-object-preserved : goal.loop-object-preserved
loop-object-preserved c =
    let p = c.args.p.now in
    let o = c.object-item.result in
    let i = c.loop-object.object-index in
    let end = c.loop-object.end in
    let g = object_at c.all-object-items.result.now p.objects c.all-object-items.ensures i o c.object-item.is c.loop-object-test.true in
    elim c.if-takes_ram.branch [
      | then-takes_ram w ↦
          let layout = w.layout_of-layout.result in
          let l = layout_is p w.all.result.now w.all.ensures o layout w.layout_of-layout.ensures in
          subst (λ n. Ends p (i + 1) n) (sym (w.end-is ∙ ap (λ n. n + layout.size) w.place_behind.ensures))
          (ends_more p i end o layout l g (const_where (is_const o.ctype) (sym c.takes_ram.ensures ∙ w.if-takes_ram.true)) (object_small p c.requires i o g) c.loop-object.invariant)
      | else-takes_ram w ↦ subst (λ n. Ends p (i + 1) n) (sym w.end-is) (ends_const p i end o g (not_const_where (is_const o.ctype) (sym c.takes_ram.ensures ∙ w.if-takes_ram.false)) c.loop-object.invariant)
    ]

pub returns : goal.returns
returns c =
    let p = c.args.p.now in
    let past : length p.objects ≤ c.loop-object.object-index = omega (arith, c.loop-object-test.false, ap length c.all-object-items.ensures) in
    ends_all p c.loop-object.object-index c.loop-object.end past c.loop-object.invariant
