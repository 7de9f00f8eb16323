use Rattle.std.proofs.Common.{length}
use Rattle.cc_lex.specs.Scan.{piece_at}
use Rattle.cc_lex.proofs.Whole.{piece-fits}
use Rattle.cc_lex.proofs.Scanned.{gives-some, gives-within}
use Rattle.cc_lex.proofs.scan.piece_at.Goals as goal

pub returns-clause-some : goal.returns-clause-some
returns-clause-some c = gives-some c.piece_of.result (piece_at c.args.fresh c.args.at c.args.text.now) (length c.args.text.now) c.piece_of.ensures (piece-fits c.args.fresh c.args.at c.args.text.now c.requires.some)

pub returns-clause-within : goal.returns-clause-within
returns-clause-within c = gives-within c.piece_of.result (piece_at c.args.fresh c.args.at c.args.text.now) (length c.args.text.now) c.piece_of.ensures (piece-fits c.args.fresh c.args.at c.args.text.now c.requires.some)
