use Rattle.std.proofs.Common.{◌≡◌, ◌++◌, ◌∙◌, OnOk, List, subst, sym, ap}
use Rattle.std.specs.Option.{option_copied}
use Rattle.cc_initialisers.specs.Initialisers.{Step}
use Rattle.cc_initialisers.specs.View.{content_view, steps_of}
use Rattle.cc_initialisers.proofs.Started.{aggregate-list, aggregate-expression}
use Rattle.cc_initialisers.proofs.walk.aggregate_initialised.Goals as goal

pub returns-in-Many : goal.returns-in-Many
returns-in-Many c =
    subst (λ (xs : List Step). OnOk c.braced.result (steps_of c.braced.new.out ≡ steps_of c.args.out.now ++ xs))
    (aggregate-list (content_view c.args.object) c.args.g.now (sym c.string_for.ensures ∙ ap option_copied c.in_default.is) c.in-Many.gs c.all.result.now c.in-Many.is c.all.ensures) c.braced.ensures

pub returns-in-One : goal.returns-in-One
returns-in-One c =
    subst (λ (xs : List Step). OnOk c.refuse.result (steps_of c.refuse.new.out ≡ steps_of c.args.out.now ++ xs))
    (aggregate-expression (content_view c.args.object) c.args.g.now (sym c.string_for.ensures ∙ ap option_copied c.in_default.is) c.in-One.field-0 c.in-One.is) c.refuse.ensures
