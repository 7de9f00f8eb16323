use Rattle.cc_pieces.specs.Pieces.{flat}
use Rattle.cc_expression_trees.proofs.Fitting.{soft-at, expr-fits, place-fits}
use Rattle.cc_expression_trees.proofs.Reading.{expr-reads, place-reads}
use Rattle.cc_expression_trees.proofs.expression_law.expressions_read_back.Goals as goal

pub returns : goal.returns
returns c = record {
  expressions = λ p f e t k spot l at ps h. expr-reads p f e (record { typed = t; pure = k }) spot l at ps h;
  places = λ p f a t k spot l at ps h. place-reads p f a (record { typed = t; pure = k }) spot l at ps h;
  expressions_part = λ p f n d e t k spot ps g s. (expr-fits p f n d e (record { typed = t; pure = k }) spot ps g s).0;
  places_part = λ p f n d a t k spot ps g s. (place-fits p f n d a (record { typed = t; pure = k }) spot ps g (soft-at spot (flat ps) s)).0;
}
