use Rattle.std.proofs.Common.{◌<◌, ◌%◌, ◌^◌, ◌++◌, [], ◌∷◌, ap, sym, ◌∙◌, subst, arith}
use Rattle.cc_make.specs.declared.counters.Counter.{Counter}
use Rattle.cc_make.specs.Draws.{next, drawn, counter_of}
use Rattle.cc_make.proofs.DrawLemmas.{Drawn, drawn_none, drawn_more, drawn_all}
use Rattle.cc_make.proofs.counters.counters.Goals as goal

pub loop-i-init : goal.loop-i-init
loop-i-init c =
    let start = c.args.seed % (2 ^ 31) in
    let small : start < 2 ^ 31 = omega arith in
    subst (Drawn c.args.count start 0 start) (sym c.new-made.ensures.items) (drawn_none c.args.count start small)

pub next-first-requires : goal.next-first-requires
next-first-requires c = c.loop-i.invariant.small

pub loop-i-preserved : goal.loop-i-preserved
loop-i-preserved c =
    let state = c.loop-i.state in
    let made = c.loop-i.made.items in
    let second = c.next-second.result in
    let e = c.next-first.ensures.value in
    let last = c.next-second.ensures.value ∙ ap next e in
    let one =
    c.counter_from.ensures ∙ ap (λ n. counter_of (drawn n) (drawn second)) e ∙ ap (λ n. counter_of (drawn (next state)) (drawn n)) last in
    drawn_more c.args.count (c.args.seed % (2 ^ 31)) c.loop-i._i state made c.loop-i-test.true c.loop-i.invariant c.push.new.self.items (c.in_ok-push.ensures.items ∙ ap (λ (k : Counter). made ++ k ∷ []) one) second last c.next-second.ensures.small

pub returns : goal.returns
returns c = drawn_all c.args.count (c.args.seed % (2 ^ 31)) c.loop-i._i c.loop-i.state c.loop-i.made.items c.loop-i-test.false c.loop-i.invariant
