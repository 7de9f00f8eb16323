-- Classes of structures that are split until two of one class have parts of one class each.
use Rattle.std.specs.Prelude.{◌≡◌, ◌<◌, ◌≤◌, ◌↔◌, ℕ, suc, List, [], ◌∷◌, map, max, Contains, length, take, drop, Vec}
use Rattle.std.specs.declared.alloc.Global.{Global}
use Rattle.cc_structures.specs.Classes.{class_numbers, distinct, same_list}
use Rattle.cc_structures.specs.View.{lists_of}
use Rattle.cc_structures.specs.Structures.{Known, Numbering, structures, number_at, number_of, has_one_number, Fits, AreAboveZero, IsOne}
use Rattle.cc_structures.specs.Looks.{Node, parts_of}
use Rattle.cc_unit.specs.declared.unit.TypedUnit.{TypedUnit}

-- the numbers of all structures, source by source
abbrev pub by_source : List TypedUnit → List ℕ → Numbering
by_source [] numbers = []
by_source (u ∷ us) numbers = take (length u.structures) numbers ∷ by_source us (drop (length u.structures) numbers)

-- by what a class is split: the number of the class, and those of its parts' classes
abbrev pub node_key : Numbering → Node → List ℕ
node_key numbering n = number_of numbering n.known ∷ map (number_at numbering n.known.text) n.parts

abbrev pub part_numbers : Numbering → Known → List ℕ
part_numbers numbering s = map (number_at numbering s.text) (parts_of s)

-- numbers from 1 in order of first appearance, behind so many
abbrev pub AreInOrder : ℕ → List ℕ → Type 0
AreInOrder m [] = Unit {0}
AreInOrder m (n ∷ ns) = (0 < n) × ((n ≤ suc m) × AreInOrder (max m n) ns)

-- how many there are
abbrev pub greatest : ℕ → List ℕ → ℕ
greatest m [] = m
greatest m (n ∷ ns) = greatest (max m n) ns

module _ (units : List TypedUnit) where
  -- numbers of so many classes
  pub record IsCounted (numbering : Numbering) (count : ℕ) : Type 0 where
    pub numbers : List ℕ
    pub sources : numbering ≡ by_source units numbers
    pub all : length numbers ≡ length (structures units)
    pub order : AreInOrder 0 numbers
    pub classes : count ≡ greatest 0 numbers

  -- each class of a numbering is split once, into so many in all
  pub record IsSplit (nodes : List Node) (numbering next : Numbering) (count : ℕ) : Type 0 where
    pub keys : List (Vec ℕ Global)
    pub are : lists_of keys ≡ map (node_key numbering) nodes
    pub sources : next ≡ by_source units (class_numbers same_list keys)
    pub classes : count ≡ length (distinct same_list keys)

  -- what has one number by the first has one by the second
  abbrev pub Refines : Numbering → Numbering → Type 0
  Refines fine coarse = (s t : Known) → Contains (structures units) s → Contains (structures units) t → has_one_number fine s t → has_one_number coarse s t

  -- what has one number has parts of one number each
  abbrev pub IsClosed : Numbering → Type 0
  IsClosed numbering = (s t : Known) → Contains (structures units) s → Contains (structures units) t → has_one_number numbering s t → part_numbers numbering s ≡ part_numbers numbering t

  -- the coarsest such one that refines another
  pub record IsCoarsest (start numbering : Numbering) : Type 0 where
    pub fits : Fits units numbering
    pub above : AreAboveZero units numbering
    pub refines : Refines numbering start
    pub closed : IsClosed numbering
    pub coarsest : (other : Numbering) → Fits units other → AreAboveZero units other → IsClosed other → Refines other start → Refines other numbering

  -- two have one number where they are one type
  pub record AreTypes (numbering : Numbering) : Type 0 where
    pub fits : Fits units numbering
    pub one : (s t : Known) → Contains (structures units) s → Contains (structures units) t → has_one_number numbering s t ↔ IsOne units s t
