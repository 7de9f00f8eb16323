-- Pair by pair.
use Rattle.std.proofs.Common.{arith, ℕ, get_or, refl}
use Rattle.std.specs.Option.{option_copied}
use Rattle.std.proofs.lemmas.Option.{slice_get-get_or}
use Rattle.cc_cells.specs.Cells.{cells_of}
use Rattle.cc_proof_covers.specs.Pending.{value_in}
use Rattle.cc_state_holds.proofs.Eaches.{each_more, each_all}
use Rattle.cc_state_holds.proofs.memory.are_pairs_held.Goals as goal
use Rattle.cc_state_holds.specs.Parts.{IsPairHeld}
use Rattle.cc_steps.specs.View.{active_of}

pub loop-pair-init : goal.loop-pair-init
loop-pair-init g c = λ f e n x l k. absurd (omega (arith, l))

pub loop-pair-preserved : goal.loop-pair-preserved
loop-pair-preserved g c = λ f e.
    (let values = value_in (option_copied c.args.pending) (active_of c.args.a.now) in
    each_more (λ k (pair : ℕ × ℕ). IsPairHeld c.args.b.now.program.now f pair values (cells_of c.args.statics.now)) c.args.pairs.now c.loop-pair.pair-index (get_or c.args.pairs.now c.loop-pair.pair-index (0, 0))
    (slice_get-get_or c.args.pairs.now c.loop-pair.pair-index (0, 0) c.loop-pair-test.true) (c.loop-pair.invariant f e)
    ((c.if-not-is_pair_held.ensures f e).0 refl))

pub returns-then-not-is_pair_held : goal.returns-then-not-is_pair_held
returns-then-not-is_pair_held g c = λ f e. (
  (λ t. cc),
  (λ h. (c.if-not-is_pair_held.ensures f e).1 (h c.loop-pair.pair-index (get_or c.args.pairs.now c.loop-pair.pair-index (0, 0)) (slice_get-get_or c.args.pairs.now c.loop-pair.pair-index (0, 0) c.loop-pair-test.true))),
)

pub returns : goal.returns
returns g c = λ f e.
    (let values = value_in (option_copied c.args.pending) (active_of c.args.a.now) in
    ((λ t. each_all (λ k (pair : ℕ × ℕ). IsPairHeld c.args.b.now.program.now f pair values (cells_of c.args.statics.now)) c.args.pairs.now c.loop-pair.pair-index (omega (arith, c.loop-pair-test.false)) (c.loop-pair.invariant f e)), (λ h. refl)))
