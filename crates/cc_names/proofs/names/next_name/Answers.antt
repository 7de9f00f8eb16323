use Rattle.std.proofs.Common.{◌≡◌, ◌∙◌, ◌++◌, [], ◌∷◌, ap, sym, subst}
use Rattle.cc_names.specs.Holds.{Holds}
use Rattle.cc_names.specs.View.{with_name}
use Rattle.cc_names.proofs.names.next_name.Goals as goal

pub returns-clause-name : goal.returns-clause-name
returns-clause-name c = λ r g names h k. c.of.ensures ∙ c.in_ok-name.ensures.name r g names h k

pub returns-clause-taken : goal.returns-clause-taken
returns-clause-taken c = λ r g h. subst (λ x. Holds c.name_for.new.taken r (g ++ x ∷ [])) (sym c.of.ensures) (c.in_ok-name.ensures.taken r g h)

pub returns-clause-space : goal.returns-clause-space
returns-clause-space c = c.in_ok-add.ensures ∙ ap (with_name c.args.space.now) (c.as_slice.ensures.value ∙ sym c.of.ensures)
