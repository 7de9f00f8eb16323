use Rattle.std.proofs.Common.{ℕ, List, ◌++◌, ap, ◌∙◌}
use Rattle.cc_make.specs.Source.{function_head, function_choice}
use Rattle.cc_make.proofs.Parts.{two_more}
use Rattle.cc_make.proofs.source.put_function.Goals as goal

pub returns : goal.returns
returns c =
    let old = c.args.text.now.items in
    let mid = c.extend_from_slice.new.self.items in
    two_more old mid c.extend_from_slice-2.new.self.items (function_head c.args.number) (function_choice c.args.number c.args.limit)
    (c.in_ok-extend_from_slice.ensures.items ∙ ap (λ (bs : List ℕ). old ++ bs) (c.as_bytes.ensures.value ∙ c.in_ok-head.ensures.ok))
    (c.in_ok-extend_from_slice-2.ensures.items ∙ ap (λ (bs : List ℕ). mid ++ bs) (c.as_bytes-2.ensures.value ∙ c.in_ok-choice.ensures.ok))
