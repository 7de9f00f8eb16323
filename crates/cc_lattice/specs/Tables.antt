-- Tables: a part for each key.
use Rattle.std.specs.Prelude.{◌≡◌, List, [], ◌∷◌, length}
use Rattle.std.specs.List.{AllZip}
use Rattle.cc_lattice.specs.declared.table.Table.{Table}

-- the same keys, one part for each, and at each place parts of one kind
pub record HaveOneShape {K L : Type 0} (alike : L → L → Type 0) (x y : Table K L) : Type 0 where
  pub keys : x.keys ≡ y.keys
  pub one_each : length x.keys ≡ length x.parts
  pub parts : AllZip alike x.parts y.parts

-- at each place of three lists of one length: the third is what the first two join to
abbrev pub AreJoins : {A : Type 0} → (A → A → A → Type 0) → List A → List A → List A → Type 0
AreJoins R [] [] [] = Unit {0}
AreJoins R (x ∷ xs) (y ∷ ys) (j ∷ js) = R x y j × AreJoins R xs ys js
AreJoins R _ _ _ = ⊥
