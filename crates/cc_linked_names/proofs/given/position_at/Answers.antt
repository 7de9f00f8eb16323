use Rattle.std.proofs.Common.{◌∙◌, ℕ, Option, None, ap}
use Rattle.std.proofs.lemmas.Option.{unwrap_or-slice_get}
use Rattle.std.specs.Prelude.{unwrap_or}
use Rattle.cc_linked_names.proofs.given.position_at.Goals as goal

pub returns-in-None : goal.returns-in-None
returns-in-None c = ap (λ (o : Option (Option ℕ)). unwrap_or o None) c.in-None.ensures ∙ unwrap_or-slice_get c.args.positions.now c.args.number None

pub returns-in-Some : goal.returns-in-Some
returns-in-Some c = ap (λ (o : Option (Option ℕ)). unwrap_or o None) c.in-Some.ensures ∙ unwrap_or-slice_get c.args.positions.now c.args.number None
