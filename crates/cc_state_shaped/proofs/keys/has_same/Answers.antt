use Rattle.std.proofs.Common.{ap, sym, ◌∙◌}
use Rattle.std.specs.Option.{option_copied}
use Rattle.cc_state_shaped.proofs.Names.{same_at, none_first, none_second}
use Rattle.cc_state_shaped.proofs.keys.has_same.Goals as goal

pub returns-in-None : goal.returns-in-None
returns-in-None c = none_first c.args.keys.now c.args.others.now c.args.number (sym c.at.ensures ∙ ap option_copied c.in-None.is)

pub returns-in-None-at : goal.returns-in-None-at
returns-in-None-at c = none_second c.args.keys.now c.args.others.now c.args.number (sym c.at-in-Some.ensures ∙ ap option_copied c.in-None-at.is)

pub returns-in-Some-at : goal.returns-in-Some-at
returns-in-Some-at c =
    same_at c.args.keys.now c.args.others.now c.args.number c.in-Some.key.now c.in-Some-at.other.now c.is_key.result (sym c.at.ensures ∙ ap option_copied c.in-Some.is) (sym c.at-in-Some.ensures ∙ ap option_copied c.in-Some-at.is) c.is_key.ensures
