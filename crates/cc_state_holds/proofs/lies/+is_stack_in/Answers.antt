-- The last one, and those below it.
use Rattle.std.proofs.Common.{◌-◌, length, take, sym, ◌∙◌, true≢false}
use Rattle.std.proofs.lemmas.Result.{IfOk-weaker}
use Rattle.cc_state_holds.proofs.Activity.{empty_stack, other_top, by_below}
use Rattle.cc_state_holds.proofs.lies.+is_stack_in.Goals as goal
use Rattle.cc_state_reads.specs.CcStateOperators.Domains.{domain}
use Rattle.cc_steps.specs.View.{active_of, actives_of}

pub is_activation_in-requires : goal.is_activation_in-requires
is_activation_in-requires g t c = c.requires

pub returns-then-n-eq0 : goal.returns-then-n-eq0
returns-then-n-eq0 g t c = λ m s.
    empty_stack (domain g.I.Concrete.Has g.I.Lattice.IsBelow g.I.IntDomain.OpGives g.I.IntDomain.OpOneGives g.I.IntDomain.ToGives g.I.IntDomain.KeepGives g.I.IntDomain.members_of) c.args.b.now.program.now c.args.b.now.facts.now m c.args.around.now.flag c.args.stack.now c.if-n-eq0.true

pub returns-then-not-fits : goal.returns-then-not-fits
returns-then-not-fits g t c = λ m s.
    (let xs = c.args.stack.now in
    let below = actives_of (take (length xs - 1) xs) in
    other_top (domain g.I.Concrete.Has g.I.Lattice.IsBelow g.I.IntDomain.OpGives g.I.IntDomain.OpOneGives g.I.IntDomain.ToGives g.I.IntDomain.KeepGives g.I.IntDomain.members_of) c.args.b.now.program.now c.args.b.now.facts.now m c.args.around.now.flag (actives_of xs) (active_of c.last-a.result.now) below c.last-a.ensures
    (λ h. true≢false (sym ((c.in_ok-fits.ensures m below c.last-a.ensures s).1 h) ∙ c.if-not-fits.true)))

pub returns : goal.returns
returns g t c =
    let d = domain g.I.Concrete.Has g.I.Lattice.IsBelow g.I.IntDomain.OpGives g.I.IntDomain.OpOneGives g.I.IntDomain.ToGives g.I.IntDomain.KeepGives g.I.IntDomain.members_of in
    let xs = c.args.stack.now in
    let below = actives_of (take (length xs - 1) xs) in
    IfOk-weaker c.is_stack_in.result _ _
    (λ yes k m s.
    by_below d c.args.b.now.program.now c.args.b.now.facts.now m c.args.around.now.flag (actives_of xs) (active_of c.last-a.result.now) below c.last-a.ensures c.flag_under.result yes (c.flag_under.ensures m)
    ((c.in_ok-fits.ensures m below c.last-a.ensures s).0 c.if-not-fits.false) (k m s))
    c.is_stack_in.ensures
