use Rattle.std.proofs.Common.{◌≡◌, ◌∙◌, [], ap}
use Rattle.std.proofs.lemmas.Result.{IfOk-weaker}
use Rattle.cc_lower_numbers.specs.Numbered.{names_of_program}
use Rattle.cc_names.specs.Names.{is_among, names_for}
use Rattle.cc_names.specs.View.{wishes_of}
use Rattle.cc_rewrite_names.specs.NewNames.{new_names}
use Rattle.cc_rewrite_names.proofs.numbered.new_names.Goals as goal

pub returns : goal.returns
returns c =
    let p = c.args.p.now in
    IfOk-weaker c.names_for.result _ (λ names. names.items ≡ new_names p c.args.base.now c.args.count)
    (λ names h.
    h (names_of_program p) [] [] c.in_ok-taken.ensures (λ x. ap (is_among x) c.new-space.ensures)
    ∙ ap (names_for (names_of_program p) [] []) (ap wishes_of c.deref.ensures.value ∙ c.in_ok-wishes.ensures)) c.names_for.ensures.names
