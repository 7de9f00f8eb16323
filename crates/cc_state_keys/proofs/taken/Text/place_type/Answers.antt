use Rattle.std.proofs.Common.{List, ap, sym, ◌∙◌}
use Rattle.cc_state_keys.proofs.PlaceTypes.{place_typed}
use Rattle.cc_state_keys.proofs.taken.Text.place_type.Goals as goal
use Rattle.cc_eval.specs.CcSyntax.Programs.{place_type}
use Rattle.cc_eval.specs.CcSyntax.Types.{Named}

pub returns : goal.returns
returns c =
    c.place_type.ensures ∙ ap (λ (locals : List Named). place_type c.args.self.program.now locals c.args.a.now) c.all.ensures ∙ sym (place_typed c.args.self.program.now c.args.self.id c.args.self.func.now c.args.a.now)
