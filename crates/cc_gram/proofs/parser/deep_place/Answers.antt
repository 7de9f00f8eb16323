use Rattle.std.proofs.Common.{◌-◌, length, ap}
use Rattle.cc_gram.proofs.ParseLaws.{deep_at}
use Rattle.cc_gram.proofs.parser.deep_place.Goals as goal

pub returns : goal.returns
returns c = deep_at c.args.tokens.now c.args.ahead (length c.args.tokens.now - c.max.result) c.index-tokens-before.result c.requires (ap (λ n. length c.args.tokens.now - n) c.max.ensures)
