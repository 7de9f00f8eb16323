-- Register by register.
use Rattle.std.proofs.Common.{arith, ℕ, get_or, refl, sym, ◌∙◌}
use Rattle.std.specs.Option.{option_copied}
use Rattle.std.proofs.lemmas.Option.{slice_get-get_or}
use Rattle.cc_proof_covers.specs.Pending.{value_in}
use Rattle.cc_state_holds.proofs.Eaches.{each_more, each_all}
use Rattle.cc_state_holds.proofs.registers.are_registers_held.Goals as goal
use Rattle.cc_state_holds.specs.Parts.{good, IsRegisterHeld}
use Rattle.cc_state_reads.specs.CcStateOperators.Domains.{domain}
use Rattle.cc_steps.specs.View.{active_of}

pub loop-r-init : goal.loop-r-init
loop-r-init g c = λ f e n x l k. absurd (omega (arith, l))

pub loop-r-preserved : goal.loop-r-preserved
loop-r-preserved g c = λ f e.
    (let d = domain g.I.Concrete.Has g.I.Lattice.IsBelow g.I.IntDomain.OpGives g.I.IntDomain.OpOneGives g.I.IntDomain.ToGives g.I.IntDomain.KeepGives g.I.IntDomain.members_of in
    let values = value_in (option_copied c.args.pending) (active_of c.args.a.now) in
    each_more (λ (k r : ℕ). IsRegisterHeld d c.args.fact.now f r (good (values r))) c.args.own.now c.loop-r.r-index (get_or c.args.own.now c.loop-r.r-index 0)
    (slice_get-get_or c.args.own.now c.loop-r.r-index 0 c.loop-r-test.true) (c.loop-r.invariant f e)
    (λ x h. (c.if-not-is_register_held.ensures f e).0 refl x (c.value_in.ensures ∙ h)))

pub returns-then-not-is_register_held : goal.returns-then-not-is_register_held
returns-then-not-is_register_held g c = λ f e. (
  (λ t. cc),
  (λ h. (c.if-not-is_register_held.ensures f e).1 (λ x k. h c.loop-r.r-index (get_or c.args.own.now c.loop-r.r-index 0) (slice_get-get_or c.args.own.now c.loop-r.r-index 0 c.loop-r-test.true) x (sym c.value_in.ensures ∙ k))),
)

pub returns : goal.returns
returns g c = λ f e.
    (let d = domain g.I.Concrete.Has g.I.Lattice.IsBelow g.I.IntDomain.OpGives g.I.IntDomain.OpOneGives g.I.IntDomain.ToGives g.I.IntDomain.KeepGives g.I.IntDomain.members_of in
    let values = value_in (option_copied c.args.pending) (active_of c.args.a.now) in
    ((λ t. each_all (λ (k r : ℕ). IsRegisterHeld d c.args.fact.now f r (good (values r))) c.args.own.now c.loop-r.r-index (omega (arith, c.loop-r-test.false)) (c.loop-r.invariant f e)), (λ h. refl)))
