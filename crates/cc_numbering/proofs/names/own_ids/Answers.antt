use Rattle.std.proofs.Common.{arith, ◌≡◌, ◌∙◌, ◌++◌, [], ◌∷◌, ap}
use Rattle.cc_numbering.proofs.OwnIds.{ids-more, ids-all}
use Rattle.cc_numbering.specs.Names.{own_id, own_ids}
use Rattle.cc_numbering.proofs.names.own_ids.Goals as goal

pub loop-i-preserved : goal.loop-i-preserved
loop-i-preserved c =
    let ids = c.loop-i.ids.items in
    let names = c.args.names.now in
    let i = c.loop-i.i in
    let d = c.index-names-i.result in
    let same : c.in-Ok.i ≡ i = omega (arith, c.in-Ok.ensures) in
    let id : c.own_id.result ≡ own_id i d.kind = c.own_id.ensures ∙ ap (λ k. own_id k d.kind) same in
    ids-more ids c.push.new.self.items names i d (own_ids 0 names) c.loop-i-test.true c.index-names-i.is (c.in_ok-push.ensures.items ∙ ap (λ v. ids ++ v ∷ []) id) c.loop-i.invariant

pub returns : goal.returns
returns c = c.of.ensures ∙ ids-all c.loop-i.ids.items c.args.names.now c.loop-i.i (own_ids 0 c.args.names.now) c.loop-i-test.false c.loop-i.invariant
