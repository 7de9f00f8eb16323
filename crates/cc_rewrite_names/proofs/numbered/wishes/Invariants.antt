use Rattle.std.proofs.Common.{◌≡◌, replicate}
use Rattle.cc_names.specs.Names.{Numbered}
use Rattle.cc_names.specs.View.{wishes_of}
use Rattle.cc_rewrite_names.proofs.numbered.wishes.Given as goal

abbrev pub invariant-loop-wish : goal.invariant-loop-wish
invariant-loop-wish l = wishes_of l.wishes.items ≡ replicate l._wish (Numbered l.base)
