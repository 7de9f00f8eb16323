use Rattle.std.proofs.Common.{◌≡◌, ◌<◌, ◌+◌, ◌^◌, ℕ, length, get_or, ap, sym, ◌∙◌, subst, arith}
use Rattle.std.proofs.lemmas.List.{get_or_default}
use Rattle.cc_bins.specs.declared.types.Want.{Want}
use Rattle.cc_bins.specs.Search.{room_at, moved_to}
use Rattle.cc_bins.proofs.Ready.{Filled, filled_none, filled_begins, filled_more}
use Rattle.cc_bins.proofs.placing.fill.Goals as goal

abbrev nothing : Want
nothing = record { group = 0; slot = 0; bits = 0; bytes = 0 }

pub loop-want-init : goal.loop-want-init
loop-want-init c = rw c.requires.none (filled_none c.args.order.now)

pub first_with_room-at-requires : goal.first_with_room-at-requires
first_with_room-at-requires c =
    let order = c.args.order.now in
    let i = c.loop-want.want-index in
    let x = get_or order i nothing in
    let l : i < length order = omega (arith, c.loop-want-test.true) in
    let words = c.loop-want.words.items in
    let n : c.len.result ≡ length words = omega (arith, c.len.ensures) in
    let m = c.moved-next.ensures ∙ ap (moved_to c.loop-want.cursor x) n in
    rw c.deref.ensures.value (filled_begins order i words c.loop-want.cursor x l (get_or_default order i nothing x l) c.loop-want.invariant c.moved-next.result m)

pub loop-want-preserved : goal.loop-want-preserved
loop-want-preserved c =
    let order = c.args.order.now in
    let i = c.loop-want.want-index in
    let x = get_or order i nothing in
    let l : i < length order = omega (arith, c.loop-want-test.true) in
    let small : x.slot < 2 ^ 32 = omega arith in
    let words = c.loop-want.words.items in
    let next = c.moved-next.result in
    let n : c.len.result ≡ length words = omega (arith, c.len.ensures) in
    let m = c.moved-next.ensures ∙ ap (moved_to c.loop-want.cursor x) n in
    let at = c.first_with_room-at.ensures ∙ ap (room_at x) c.deref.ensures.value in
    subst (λ (a : ℕ). Filled order (i + 1) c.put.new.words.items (record { group = next.group; bits = next.bits; start = next.start; at = a })) (sym at)
    (filled_more order c.requires.sorted i words c.loop-want.cursor x l (get_or_default order i nothing x l) small c.loop-want.invariant next m c.put.new.words.items c.in_ok-put.ensures)
