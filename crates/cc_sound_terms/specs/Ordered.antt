-- Structures stand in the order of their closing braces: each has members whose types are complete over those before it (C99 6.7.2.1, 2; 6.7.2.3, 4).
use Rattle.std.specs.Prelude.{◌≡◌, ℕ, Bool, true, false, ◌&&◌, nat_eq, nat_lt, List, [], ◌∷◌, ◌++◌, Some, slice_get}
use Rattle.std.specs.List.{list_any}
use Rattle.cc_program.proofs.Each.{Each}
use Rattle.cc_program.specs.declared.types.CType.{CType, fold-CType}
use Rattle.cc_program.specs.declared.types.Shape.TheOpen as shape
use Rattle.cc_terms.specs.CcScopes.State.{State, Name, KnownStructure, tagged, structures_of}
use Rattle.cc_terms.specs.CcScopes.declared.designated.Tagged.{Tagged}
use Rattle.cc_sound_terms.specs.Growing.{IsTag}
use Rattle.cc_terms.specs.CcSyntax.Types.{Named, is_complete}

-- a structure of that number with these members
abbrev pub HasMembers : List KnownStructure → ℕ → List Named → Type 0
HasMembers structures i ms = (k : KnownStructure) × (slice_get structures i ≡ Some k) × (k.members ≡ Some ms)

abbrev pub is_among : List ℕ → ℕ → Bool
is_among front i = list_any (nat_eq i) front

-- a type that is complete where the structures of these numbers are
module _ (front : List ℕ) where
  abbrev pub complete_over : shape.Shape-F Bool Bool (Unit {0}) → Bool
  complete_over shape.Void = false
  complete_over (shape.Int t) = true
  complete_over (shape.Pointer t) = true
  complete_over (shape.Array t n) = nat_lt 0 n && t
  complete_over (shape.Struct i) = is_among front i
  complete_over (shape.Func s) = false

  unfoldable pub is_complete_over : CType → Bool
  is_complete_over t = fold-CType Bool Bool (Unit {0}) complete_over (λ t. t.shape) (λ s. tt) t

pub record StandsBehind (structures : List KnownStructure) (front : List ℕ) (i : ℕ) : Type 0 where
  pub members : List Named
  pub there : HasMembers structures i members
  pub new : is_among front i ≡ false
  pub complete : Each (λ m. is_complete_over front m.1 ≡ true) members

-- so do the structures of these numbers, behind those of the first
abbrev pub AreOrdered : List KnownStructure → List ℕ → List ℕ → Type 0
AreOrdered structures front [] = Unit {0}
AreOrdered structures front (i ∷ rest) = StandsBehind structures front i × AreOrdered structures (front ++ i ∷ []) rest

-- of a state: its complete structures stand so, and each tag of a structure in scope names one that there is
pub record IsOrdered (s : State) : Type 0 where
  pub listed : (i : ℕ) (ms : List Named) → HasMembers s.structures i ms → is_among s.completed i ≡ true
  pub order : AreOrdered s.structures [] s.completed
  pub tags : (x : Name) (t : Tagged) → tagged x s.scopes ≡ Some t → IsTag s.structures t

-- members whose types are complete there
abbrev pub AreComplete : List Named → State → Type 0
AreComplete ms s = Each (λ m. is_complete (structures_of s) m.1 ≡ true) ms
