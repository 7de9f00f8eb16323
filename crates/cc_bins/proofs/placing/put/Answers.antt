use Rattle.std.proofs.Common.{◌≤◌, ◌<◌, ◌++◌, [], ◌∷◌, length, set, ap, sym, ◌∙◌, arith}
use Rattle.std.proofs.lemmas.Result.{on_ok_weaker}
use Rattle.cc_bins.specs.declared.open_words.Open.{Open}
use Rattle.cc_bins.specs.Search.{room_at}
use Rattle.cc_bins.proofs.Rooms.{room_is, room_here, put-at, put-new}
use Rattle.cc_bins.proofs.placing.put.Goals as goal

pub add-requires : goal.add-requires
add-requires c =
    let x = c.args.want.now in
    let ws = c.args.words.now.items in
    let w = c.index_mut.result.now in
    let l : c.args.at < length ws = omega (arith, c.if-at-len.true, c.len.ensures) in
    record { room = (room_is x.group x.bits w (room_here x ws c.args.at w c.requires l c.index_mut.ensures.value)).1 }

pub returns-then-at-len : goal.returns-then-at-len
returns-then-at-len c =
    let x = c.args.want.now in
    let ws = c.args.words.now.items in
    let w = c.index_mut.result.now in
    let l : c.args.at < length ws = omega (arith, c.if-at-len.true, c.len.ensures) in
    on_ok_weaker c.add.result (λ e. ap (set ws c.args.at) e ∙ sym (put-at x ws c.args.at w c.requires l c.index_mut.ensures.value)) c.add.ensures

pub returns-in_ok-push : goal.returns-in_ok-push
returns-in_ok-push c =
    let x = c.args.want.now in
    let ws = c.args.words.now.items in
    let none : length ws ≤ room_at x ws = omega (arith, c.if-at-len.false, c.len.ensures, c.requires) in
    c.in_ok-push.ensures.items ∙ ap (λ (w : Open). ws ++ w ∷ []) c.in_ok-word.ensures ∙ sym (put-new x ws none)
