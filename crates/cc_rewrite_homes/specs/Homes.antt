-- How the static scalars of a program stand in the program that is made of it: as they are, in a field of a word, or nowhere, since they never
-- change. A scalar is told by its object and its position there.
use Rattle.std.specs.Prelude.{◌≡◌, ◌<◌, ◌≤◌, ◌+◌, ◌^◌, ◌⊎◌, ℕ, pos, List, Some}
use Rattle.cc_steps.specs.CcCells.Cells.{scalar_in}
use Rattle.cc_program.specs.declared.value.Value.{Value}
use Rattle.cc_program.specs.declared.value.Value.TheVariants.{Int}
use Rattle.cc_rewrite_fields.specs.Field.{field}

-- a field of a word of so many bits: the scalar that holds the word, and where the field is in it
pub record Field : Type 0 where
  pub object : ℕ
  pub position : ℕ
  pub bits : ℕ
  pub shift : ℕ
  pub width : ℕ

pub data Home : Type 0 where
  -- a scalar of its own, with this object and position
  Whole : ℕ → ℕ → Home
  Packed : Field → Home
  -- there is one value
  Fixed : Value → Home

-- what stands in the word of a field
pub record HoldsWord (statics : List (List Value)) (f : Field) (word : ℕ) : Type 0 where
  pub there : scalar_in statics f.object f.position ≡ Some (Int (pos word))
  pub small : word < 2 ^ f.bits

-- two homes that do not meet
abbrev pub Beside : Field → Field → Type 0
Beside f g = (f.shift + f.width ≤ g.shift) ⊎ (g.shift + g.width ≤ f.shift)

abbrev pub Apart : Home → Home → Type 0
Apart (Packed f) (Packed g) = f.object ≡ g.object → f.position ≡ g.position → (f.bits ≡ g.bits) × Beside f g
Apart (Packed f) (Whole j l) = f.object ≡ j → f.position ≡ l → ⊥
Apart (Packed f) (Fixed v) = Unit {0}
Apart (Whole i k) (Packed g) = i ≡ g.object → k ≡ g.position → ⊥
Apart (Whole i k) (Whole j l) = i ≡ j → k ≡ l → ⊥
Apart (Whole i k) (Fixed v) = Unit {0}
Apart (Fixed v) h = Unit {0}

-- a home that is not this scalar, and not in it
abbrev pub IsOff : ℕ → ℕ → Home → Type 0
IsOff object position (Whole j l) = object ≡ j → position ≡ l → ⊥
IsOff object position (Packed g) = object ≡ g.object → position ≡ g.position → ⊥
IsOff object position (Fixed v) = Unit {0}

-- what stands at a home, where these are the static scalars and this is what a code stands for
abbrev pub AtHome : Home → (ℕ → Value) → List (List Value) → Value → Type 0
AtHome (Whole j l) decode statics v = scalar_in statics j l ≡ Some v
AtHome (Packed f) decode statics v = (word : ℕ) × HoldsWord statics f word × (decode (field word f.shift f.width) ≡ v)
AtHome (Fixed u) decode statics v = v ≡ u

-- each scalar has its value at its home
abbrev pub Statics : (ℕ → ℕ → Home) → (ℕ → ℕ → ℕ → Value) → (these those : List (List Value)) → Type 0
Statics home decode these those = (i k : ℕ) (v : Value) → scalar_in those i k ≡ Some v → AtHome (home i k) (decode i k) these v

-- no two homes meet, and each field fits its word
pub record AreHomes (home : ℕ → ℕ → Home) : Type 0 where
  pub apart : (i k j l : ℕ) → (i ≡ j → k ≡ l → ⊥) → Apart (home i k) (home j l)
  pub fits : (i k : ℕ) (f : Field) → home i k ≡ Packed f → f.shift + f.width ≤ f.bits
