-- All between two ends is added.
use Rattle.std.proofs.Common.{◌∙◌, ap}
use Rattle.cc_sets.specs.Gatherings.{wider_low, wider_high}
use Rattle.cc_sets.proofs.Gathering as more
use Rattle.cc_sets.proofs.gathered.Gathered.add_spread.Goals as goal

pub returns : goal.returns
returns c =
    let g = c.args.self.now in
    more.spread_added g.members g.members g.spread c.args.spread c.wider.result
    (c.wider.ensures.low ∙ ap (λ e. wider_low c.args.spread.low e) c.ends-ends.ensures) (c.wider.ensures.high ∙ ap (λ e. wider_high c.args.spread.high e) c.ends-ends.ensures)
