-- Where the declarators of a unit's items begin, and offsets that never fall.
use Rattle.std.specs.Prelude.{ℕ, ◌≤◌, List, [], ◌∷◌, ◌++◌, map}
use Rattle.cc_tree.specs.declared.at.At.{At}
use Rattle.cc_tree.specs.declared.unit.Item.{Item}
use Rattle.cc_tree.specs.declared.unit.Item.TheVariants as item

-- of a declaration, and of a function's definition
abbrev pub declared_at : Item → List ℕ
declared_at (item.Decl d) = map (λ i. i.at) d.inits
declared_at (item.Func specs d attrs body) = d.at ∷ []

abbrev pub all_declared_at : List (At Item) → List ℕ
all_declared_at [] = []
all_declared_at (x ∷ xs) = declared_at x.node ++ all_declared_at xs

-- from n on, each is that of the one before, or greater
abbrev pub NeverFall : ℕ → List ℕ → Type 0
NeverFall n [] = Unit {0}
NeverFall n (o ∷ os) = (n ≤ o) × NeverFall o os
