-- Each row so far is filled; at the end these are all.
use Rattle.std.proofs.Common.{arith, ◌≡◌, ◌+◌, eqb, Some, length, refl, sym, subst, slice_get}
use Rattle.std.proofs.lemmas.Option.{slice_get_read}
use Rattle.cc_state_reads.specs.CcStateFacts.declared.facts.Row.{Row}
use Rattle.cc_state_shaped.specs.Parts.{IsFilled}
use Rattle.cc_state_shaped.proofs.Filled.{filled_more, filled_all, filled_at}
use Rattle.cc_state_shaped.proofs.rows.are_filled.Goals as goal

pub loop-number-preserved : goal.loop-number-preserved
loop-number-preserved g c =
    let xs = c.args.rows.now in
    let n = c.loop-number.number in
    let y = c.index-rows-number.result in
    let there : slice_get xs n ≡ Some y = slice_get_read xs (length xs) n y refl (omega (arith, c.loop-number-test.true)) c.index-rows-number.is in
    let h = c.if-not-is_filled.ensures.0 refl in
    filled_more xs n y there c.loop-number.invariant
    (subst (λ (r : Row g.row.I.Denot). IsFilled r (eqb (n + 1) (length xs))) c.get.ensures h)

pub returns-then-not-is_filled : goal.returns-then-not-is_filled
returns-then-not-is_filled g c =
    let xs = c.args.rows.now in
    let n = c.loop-number.number in
    let y = c.index-rows-number.result in
    let there : slice_get xs n ≡ Some y = slice_get_read xs (length xs) n y refl (omega (arith, c.loop-number-test.true)) c.index-rows-number.is in
    ((λ e. absurd (cc)), (λ h. c.if-not-is_filled.ensures.1 (subst (λ (r : Row g.row.I.Denot). IsFilled r (eqb (n + 1) (length xs))) (sym c.get.ensures) (filled_at xs n y there h))))

pub returns : goal.returns
returns g c =
    let xs = c.args.rows.now in
    ((λ e. filled_all xs c.loop-number.number (omega (arith, c.loop-number-test.false)) c.loop-number.invariant), (λ h. refl))
