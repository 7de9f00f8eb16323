-- Where the static objects of a program stand in one that is made of it: as they are, or all their scalars in fields, or nowhere. And so where
-- their scalars do.
use Rattle.std.specs.Prelude.{◌≡◌, ◌<◌, ◌≤◌, ◌+◌, ◌*◌, ◌/◌, ◌%◌, ℕ, zero, suc, pos}
use Rattle.cc_program.specs.declared.value.Value.{Value}
use Rattle.cc_program.specs.declared.value.Value.TheVariants.{Int}
use Rattle.cc_rewrite_homes.specs.Homes.{Field, Home, Whole, Packed, Fixed, Beside}

pub data Layout : Type 0 where
  -- with its number, as it is
  Same : Layout
  -- all its scalars have one value
  One : Value → Layout
  -- it is one scalar
  InField : Field → Layout
  -- it is an array: so many of its elements, of so many bits, stand in each element of an object
  InElements : (object : ℕ) (count : ℕ) (bits : ℕ) → Layout
  -- there is no such object
  Nowhere : Layout

-- of an element, by its subscript
abbrev pub element_field : (object count bits : ℕ) → ℕ → Field
element_field object count bits k = record { object = object; position = k / count; bits = count * bits; shift = k % count * bits; width = bits }

abbrev pub scalar_home : Layout → ℕ → ℕ → Home
scalar_home Same i k = Whole i k
scalar_home (One v) i k = Fixed v
scalar_home (InField f) i zero = Packed f
scalar_home (InField f) i (suc k) = Fixed (Int (pos 0))
scalar_home (InElements object count bits) i k = Packed (element_field object count bits k)
scalar_home Nowhere i k = Fixed (Int (pos 0))

abbrev pub homes_of : (ℕ → Layout) → ℕ → ℕ → Home
homes_of layout i k = scalar_home (layout i) i k

-- fields fit their words, and no two meet; words are none of the objects that stand as they are, and arrays of elements hold nothing else
pub record AreLayouts (layout : ℕ → Layout) : Type 0 where
  pub fits : (i : ℕ) (f : Field) → layout i ≡ InField f → f.shift + f.width ≤ f.bits
  pub some : (i object count bits : ℕ) → layout i ≡ InElements object count bits → 0 < count
  pub fields : (i j : ℕ) (f g : Field) → layout i ≡ InField f → layout j ≡ InField g → (i ≡ j → ⊥) → f.object ≡ g.object → f.position ≡ g.position → (f.bits ≡ g.bits) × Beside f g
  pub field_same : (i j : ℕ) (f : Field) → layout i ≡ InField f → layout j ≡ Same → f.object ≡ j → ⊥
  pub field_elements : (i j : ℕ) (f : Field) (object count bits : ℕ) → layout i ≡ InField f → layout j ≡ InElements object count bits → f.object ≡ object → ⊥
  pub elements_same : (i j object count bits : ℕ) → layout i ≡ InElements object count bits → layout j ≡ Same → object ≡ j → ⊥
  pub elements : (i j a b count bits count' bits' : ℕ) → layout i ≡ InElements a count bits → layout j ≡ InElements b count' bits' → (i ≡ j → ⊥) → a ≡ b → ⊥
