-- Of another activation, or no register, nothing is asked.
use Rattle.std.proofs.Common.{refl, sym, ◌∙◌, true≢false}
use Rattle.cc_state_holds.proofs.operands.was_register_in.Goals as goal

pub returns-then-local-a : goal.returns-then-local-a
returns-then-local-a g c = λ f h e k. ((λ t same. absurd (c.if-local-a.true same)), (λ w. refl))

pub returns-then-not-is_register_among : goal.returns-then-not-is_register_among
returns-then-not-is_register_among g c = λ f h e k. ((λ t same is. absurd (true≢false (sym (c.if-not-is_register_among.ensures h k ∙ is)))), (λ w. refl))

pub returns : goal.returns
returns g c = λ f h e k.
    (let w = c.is_in_register_set.ensures f e in
    ((λ t same is. w.0 t), (λ i. w.1 (i c.if-local-a.false (sym (c.if-not-is_register_among.ensures h k))))))
