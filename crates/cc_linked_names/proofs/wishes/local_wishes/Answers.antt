use Rattle.std.proofs.Common.{◌≡◌, ◌∙◌, ap, subst}
use Rattle.std.specs.Prelude.{IfOk}
use Rattle.cc_definitions.specs.Definitions.{function_of}
use Rattle.cc_linked_names.specs.Given.{local_wishes_in}
use Rattle.cc_names.specs.View.{wishes_of}
use Rattle.cc_linked_names.proofs.wishes.local_wishes.Goals as goal

pub returns : goal.returns
returns c =
    subst (λ f. IfOk c.wishes_for.result (λ w. wishes_of w.items ≡ local_wishes_in f)) (c.function_there.ensures ∙ ap function_of c.thing_at.ensures) c.wishes_for.ensures
