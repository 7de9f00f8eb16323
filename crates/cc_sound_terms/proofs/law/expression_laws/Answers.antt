use Rattle.cc_sound_terms.proofs.Cycle.{tree_holds}
use Rattle.cc_sound_terms.proofs.Trees.{value_holds}
use Rattle.cc_terms.specs.Terms.{here}
use Rattle.cc_sound_terms.proofs.law.expression_laws.Goals as goal

pub returns : goal.returns
returns c = record {
  designated = λ v locals roles e f at s r h. let o = tree_holds v locals roles e f at s r h in (o.grows, o.holds);
  values = λ v locals roles e f s r h. let o = value_holds v locals (here v.target roles e) (tree_holds v locals roles e.node f) s r h in (o.grows, o.holds);
}
