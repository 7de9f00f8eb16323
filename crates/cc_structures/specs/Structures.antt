-- Which structures of the sources are one type (C99 6.2.7, 1), and what order they have in the program.
use Rattle.std.specs.Prelude.{◌≡◌, ◌⊎◌, ◌↔◌, ◌≢◌, ◌<◌, ℕ, suc, Bool, true, not, nat_eq, List, [], ◌∷◌, ◌++◌, filter, length, map, Contains, Option, Some, None, is_some, option_map, slice_get, unwrap_or}
use Rattle.cc_program.specs.declared.types.CType.{CType}
use Rattle.cc_syntax.specs.SameTypes.{same_type}
use Rattle.cc_syntax.specs.Types.{Named}
use Rattle.cc_unit.specs.Renumbered.{structure_by, type_renumbered}
use Rattle.cc_unit.specs.declared.unit.TypedUnit.{TypedUnit}
use Rattle.cc_unit.specs.declared.unit.UnitStructure.{UnitStructure}

-- a structure of a source: the source, and the position among its structures
pub record Known : Type 0 where
  pub text : ℕ
  pub position : ℕ
  pub structure : UnitStructure

abbrev pub known_in : ℕ → ℕ → List UnitStructure → List Known
known_in t i [] = []
known_in t i (s ∷ ss) = record { text = t; position = i; structure = s } ∷ known_in t (suc i) ss

abbrev pub known_from : ℕ → List TypedUnit → List Known
known_from t [] = []
known_from t (u ∷ us) = known_in t 0 u.structures ++ known_from (suc t) us

-- all structures, source by source
unfoldable pub structures : List TypedUnit → List Known
structures units = known_from 0 units

abbrev pub IsSame : Known → Known → Type 0
IsSame s t = (s.text ≡ t.text) × (s.position ≡ t.position)

-- an untagged structure of a typedef has the name that this declares first
abbrev pub tag_or : Option (List ℕ) → Option (List ℕ) → Option (List ℕ)
tag_or (Some tag) alias = Some tag
tag_or None alias = alias

abbrev pub tag_of : Known → Option (List ℕ)
tag_of s = tag_or s.structure.tag s.structure.alias

abbrev pub is_complete : Known → Bool
is_complete s = is_some s.structure.members

-- ---- types, once each structure has a number among all

-- for each source the numbers of its structures
abbrev pub Numbering : Type 0
Numbering = List (List ℕ)

abbrev pub numbers_of : Numbering → ℕ → List ℕ
numbers_of numbering text = unwrap_or (slice_get numbering text) []

module _ (numbering : Numbering) where
  -- 0 where there is none
  abbrev pub number_at : ℕ → ℕ → ℕ
  number_at text position = structure_by (slice_get (numbers_of numbering text) position)

  abbrev pub number_of : Known → ℕ
  number_of s = number_at s.text s.position

  abbrev pub type_in : ℕ → CType → CType
  type_in text t = type_renumbered (numbers_of numbering text) t

  -- a type of one source and one of another
  abbrev pub same_types : ℕ → CType → ℕ → CType → Bool
  same_types t a u b = same_type (type_in t a) (type_in u b)

  abbrev pub member_in : ℕ → Named → Named
  member_in text m = (m.0, type_in text m.1)

  -- the names and types of its members in order, or that it is only named
  abbrev pub members_of : Known → Option (List Named)
  members_of s = option_map (λ ms. map (member_in s.text) ms) s.structure.members

  -- two have one tag, and the same names and types of members in the same order; or both are only named
  pub record LooksTheSame (s t : Known) : Type 0 where
    pub named : is_some (tag_of s) ≡ true
    pub tag : tag_of s ≡ tag_of t
    pub members : members_of s ≡ members_of t

  abbrev pub has_one_number : Known → Known → Type 0
  has_one_number s t = number_of s ≡ number_of t

  -- the first of each number
  abbrev pub firsts_of : List Known → List Known
  firsts_of [] = []
  firsts_of (s ∷ ss) = s ∷ filter (λ t. not (nat_eq (number_of s) (number_of t))) (firsts_of ss)

  abbrev pub HavePositions : ℕ → List Known → Type 0
  HavePositions i [] = Unit {0}
  HavePositions i (s ∷ ss) = (number_of s ≡ i) × HavePositions (suc i) ss

-- ---- structures that look the same through all that they contain and point to

module _ (units : List TypedUnit) where
  -- a number for each structure
  abbrev pub Fits : Numbering → Type 0
  Fits numbering = map length numbering ≡ map (λ u. length u.structures) units

  -- no structure has the number 0, which is that of a structure that is not there
  abbrev pub AreAboveZero : Numbering → Type 0
  AreAboveZero numbering = (s : Known) → Contains (structures units) s → 0 < number_of numbering s

  -- two structures of one number may be one, and look the same by their numbers
  abbrev pub IsMatching : (Known → Known → Type 0) → Numbering → Type 0
  IsMatching may_be_one numbering =
      (s t : Known) → Contains (structures units) s → Contains (structures units) t → has_one_number numbering s t →
      IsSame s t ⊎ (may_be_one s t × LooksTheSame numbering s t)

  -- some numbering gives the two one number
  abbrev pub IsMatched : (Known → Known → Type 0) → Known → Known → Type 0
  IsMatched may_be_one s t =
      (numbering : Numbering) × (Fits numbering × (AreAboveZero numbering × (IsMatching may_be_one numbering × has_one_number numbering s t)))

  -- they have one tag, and so all that they contain and point to
  abbrev pub IsAlike : Known → Known → Type 0
  IsAlike s t = IsMatched (λ a b. Unit {0}) s t

  -- no structure in front of it in its source is alike
  abbrev pub IsFirstAlike : Known → Type 0
  IsFirstAlike s = (t : Known) → Contains (structures units) t → t.text ≡ s.text → t.position < s.position → IsAlike s t → ⊥

  -- in two sources, the first that are alike of each
  abbrev pub MayBeOne : Known → Known → Type 0
  MayBeOne s t = (s.text ≢ t.text) × (IsFirstAlike s × IsFirstAlike t)

  -- one type: so no two of one source are (6.2.7, 1 and 6.7.2.3, 5)
  abbrev pub IsOne : Known → Known → Type 0
  IsOne s t = IsMatched MayBeOne s t

  -- ---- the structures of the program

  -- those that are only named stand in front; both kinds source by source
  abbrev pub in_program_order : List Known
  in_program_order = filter (λ s. not (is_complete s)) (structures units) ++ filter is_complete (structures units)

  -- the number of each structure of each source, and the structures that have them: the first of each type
  pub record AreNumbered (numbering : Numbering) (firsts : List Known) : Type 0 where
    pub each : Fits numbering
    -- two have one number where they are one type
    pub one : (s t : Known) → Contains (structures units) s → Contains (structures units) t → has_one_number numbering s t ↔ IsOne s t
    -- the first of each number, in the order of the program, and they have their positions as numbers
    pub first : firsts ≡ firsts_of numbering in_program_order
    pub position : HavePositions numbering 0 firsts
