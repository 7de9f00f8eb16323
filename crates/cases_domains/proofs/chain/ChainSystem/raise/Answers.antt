-- The part of the constraint is made yes, where it has to be and is not.
use Rattle.std.proofs.Common.{◌≡◌, ◌<◌, length, Some, slice_get, refl, sym, ◌∙◌, arith}
use Rattle.cases_domains.specs.declared.chain.Truth.TheVariants.{No}
use Rattle.cases_domains.specs.Chain.{turned, IsAsked}
use Rattle.cases_domains.specs.ChainLaws.{below_all, below_set, set_least, asked_more, yes_set, fewer_noes}
use Rattle.cases_domains.proofs.chain.ChainSystem.raise.Goals as goal

pub returns-then-not-rises-clause-above : goal.returns-then-not-rises-clause-above
returns-then-not-rises-clause-above c = (refl, below_all c.args.facts.now.parts)

pub returns-clause-above : goal.returns-clause-above
returns-clause-above c =
    (sym c.make_yes.ensures.keys, rw c.make_yes.ensures.parts (below_set c.args.facts.now.parts c.turn-part.result))

pub returns-clause-least : goal.returns-clause-least
returns-clause-least c = λ h fits below asks.
    let asked : IsAsked (turned c.args.index) c.args.facts.now.parts = rw (← c.turn-part.ensures.value, ← c.all.ensures) (c.rises.ensures.asked c.if-not-rises.false) in (
      c.make_yes.ensures.keys ∙ below.0,
      rw (c.make_yes.ensures.parts, c.turn-part.ensures.value) (set_least c.args.facts.now.parts h.parts (turned c.args.index) below.1 (asks asked)),
    )

pub returns-clause-has : goal.returns-clause-has
returns-clause-has c = λ _.
    let small : turned c.args.index < length c.args.facts.now.parts = omega (arith, c.turn-part.ensures.value, c.turn-part.ensures.below, c.requires.fitting.parts) in
    rw (c.make_yes.ensures.parts, c.turn-part.ensures.value) (yes_set c.args.facts.now.parts (turned c.args.index) small)

pub returns-clause-rose : goal.returns-clause-rose
returns-clause-rose c = λ _.
    let no_there : slice_get c.args.facts.now.parts c.turn-part.result ≡ Some No = rw (← c.all.ensures) (c.rises.ensures.no c.if-not-rises.false) in
    rw c.make_yes.ensures.parts (fewer_noes c.args.facts.now.parts c.turn-part.result no_there)

pub returns-then-not-rises-clause-stays : goal.returns-then-not-rises-clause-stays
returns-then-not-rises-clause-stays c = λ h fits below asks. below

pub returns-clause-stays : goal.returns-clause-stays
returns-clause-stays c = λ h fits below asks.
    let asked : IsAsked (turned c.args.index) c.args.facts.now.parts = rw (← c.turn-part.ensures.value, ← c.all.ensures) (c.rises.ensures.asked c.if-not-rises.false) in
    let there = asks (asked_more (turned c.args.index) c.args.facts.now.parts h.parts below.1 asked) in (
      c.make_yes.ensures.keys ∙ below.0,
      rw (c.make_yes.ensures.parts, c.turn-part.ensures.value) (set_least c.args.facts.now.parts h.parts (turned c.args.index) below.1 there),
    )
