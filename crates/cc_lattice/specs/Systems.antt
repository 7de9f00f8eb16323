-- Constraints over facts. What a constraint asks is told by a relation: `asks i f g` says that g has what
-- the constraint i asks of f.
use Rattle.std.specs.Prelude.{ℕ, ◌<◌, ◌≡◌, List, ◌++◌}

-- facts that have what each of so many constraints asks of them
abbrev pub MeetsAll : {F : Type 0} → ℕ → (ℕ → F → F → Type 0) → F → Type 0
MeetsAll count asks f = (i : ℕ) → i < count → asks i f f

-- g is the least of the fitting facts above f that have what is asked of f
pub record IsRaised {F : Type 0} (fits : F → Type 0) (below asks : F → F → Type 0) (f g : F) : Type 0 where
  pub above : below f g
  pub has : asks f g
  pub least : (h : F) → fits h → below f h → asks f h → below g h

-- a list that begins with another one
abbrev pub BeginsWith : {A : Type 0} → List A → List A → Type 0
BeginsWith {A} xs all = (ys : List A) × (all ≡ xs ++ ys)
