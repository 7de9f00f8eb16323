use Rattle.std.proofs.Common.{sym, subst}
use Rattle.cc_structures.specs.Refined.{AreTypes}
use Rattle.cc_structures.specs.Structures.{Numbering}
use Rattle.cc_structures.specs.View.{units_of}
use Rattle.cc_structures.proofs.structures.structures_of.Goals as goal

pub numbered-requires-clause-types : goal.numbered-requires-clause-types
numbered-requires-clause-types c = subst (λ (n : Numbering). AreTypes (units_of c.args.texts.now) n) (sym c.as_slice-3.ensures.value) c.in_ok-types.ensures
