use Rattle.std.proofs.Common.{◌∙◌}
use Rattle.cc_declarations.proofs.PlainWords.{plain_word}
use Rattle.cc_declarations.proofs.specifiers.specs_word.Goals as goal

pub returns-in_ok-specs_plain-in_default : goal.returns-in_ok-specs_plain-in_default
returns-in_ok-specs_plain-in_default c =
    plain_word c.args.specs c.args.all.now c.args.tokens.now c.args.at c.args.word c.in_default.not-Enum c.in_default.not-Struct c.in_default.not-Attribute ∙ c.in_ok-specs_plain-in_default.ensures
