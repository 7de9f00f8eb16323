use Rattle.cc_scopes.proofs.LayoutLemmas.{Laid}
use Rattle.cc_scopes.proofs.known.layouts.structure_layout.Given as goal

abbrev pub invariant-loop-ctype : goal.invariant-loop-ctype
invariant-loop-ctype l = Laid l.layouts l.target l.members l.ctype-index l.end l.align
