use Rattle.std.proofs.Common.{◌≡◌, drop}
use Rattle.cc_tree.specs.TurnTypes.{attrs_apart}
use Rattle.cc_turns.proofs.forms.attrs_apart.Given as goal

abbrev pub invariant-loop-spec : goal.invariant-loop-spec
invariant-loop-spec l = attrs_apart l.behind_brace (drop l.spec-index l.specs) ≡ attrs_apart l.fn.behind_brace l.specs
