-- Two pairs are the same where their parts are.
use Rattle.std.specs.Prelude.{◌≡◌}
use Rattle.std.proofs.Common.{ap, ◌∙◌}
use Rattle.cc_lattice.specs.declared.pair.Pair.{Pair}

abbrev paired : {A B : Type 0} → A → B → Pair A B
paired a b = record { first = a; second = b }

pub pairs_same : {A B : Type 0} (x y : Pair A B) → x.first ≡ y.first → x.second ≡ y.second → x ≡ y
pairs_same x y h k = ap (λ a. paired a x.second) h ∙ ap (paired y.first) k
