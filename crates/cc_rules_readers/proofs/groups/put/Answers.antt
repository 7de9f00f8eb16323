use Rattle.std.proofs.Common.{ℕ, ◌++◌, Option, Some, append-nil, ap, sym, ◌∙◌}
use Rattle.std.proofs.lemmas.Result.{on_ok_weaker}
use Rattle.cc_rules_readers.specs.Points.{is_that, list_at}
use Rattle.cc_rules_readers.proofs.groups.put.Goals as goal
use Rattle.cc_rules_asked.specs.CcStateKeys.Lists.{only_if}

pub returns-in-None : goal.returns-in-None
returns-in-None c b =
    sym (append-nil (list_at c.args.lists.now.items b)) ∙ ap (λ (o : Option ℕ). list_at c.args.lists.now.items b ++ only_if (is_that o b) c.args.point) (sym c.in-None.is)

pub returns-in_ok-grow-in-Some : goal.returns-in_ok-grow-in-Some
returns-in_ok-grow-in-Some c =
    on_ok_weaker c.put_at.result
    (λ h (b : ℕ). h b
    ∙ (ap (λ xs. xs ++ only_if (is_that (Some c.in-Some.number) b) c.args.point) (c.in_ok-grow-in-Some.ensures.same b)
    ∙ ap (λ (o : Option ℕ). list_at c.args.lists.now.items b ++ only_if (is_that o b) c.args.point) (sym c.in-Some.is)))
    c.put_at.ensures
