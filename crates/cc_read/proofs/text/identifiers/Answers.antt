use Rattle.std.proofs.Common.{◌∙◌, ◌++◌, ℕ, List, ap, sym}
use Rattle.std.specs.Prelude.{option_to_list}
use Rattle.cc_read.proofs.Identifiers.{identifiers-next}
use Rattle.cc_read.specs.Texts.{identifier_in}
use Rattle.cc_read.proofs.text.identifiers.Goals as goal

pub loop-token-preserved : goal.loop-token-preserved
loop-token-preserved c =
    c.in_ok-put_identifier.ensures
    ∙ (ap (λ (xs : List (List ℕ)). xs ++ option_to_list (identifier_in c.token-item.result.kind)) c.loop-token.invariant
    ∙ sym (identifiers-next c.args.tokens.now c.loop-token.token-index c.token-item.result c.loop-token-test.true c.token-item.is))
