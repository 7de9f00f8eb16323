-- Places that are added to where structures stand; and what stands in RAM, and where, by the structures in which it stands.
use Rattle.std.specs.Prelude.{◌≡◌, ◌≤◌, ◌<◌, ◌^◌, ℕ, ◌+◌, ◌*◌, Bool, true, false, ◌&&◌, ◌||◌, List, [], ◌∷◌, length, Some, slice_get, take}
use Rattle.cc_program.specs.declared.program.Program.{Program}
use Rattle.cc_slots_structures.specs.declared.standing.Standing.{Standing}
use Rattle.cc_slots_structures.specs.Copies.{capped, copies, copies_in_ram}
use Rattle.cc_slots_structures.specs.Standings.{IsStanding}
use Rattle.cc_slots_structures.specs.Stands.{is_automatic, is_open, stands}

-- how often something stands in RAM that stands so often in each structure
abbrev pub copies_through : List Standing → List ℕ → ℕ
copies_through [] counts = 0
copies_through (place ∷ more) [] = 0
copies_through (place ∷ more) (count ∷ counts) = place.copies * count + copies_through more counts

-- whether something stands at such a place that stands in these structures
module _ (test : Standing → Bool) where
  abbrev pub stands_through : List Standing → List Bool → Bool
  stands_through [] there = false
  stands_through (place ∷ more) [] = false
  stands_through (place ∷ more) (one ∷ there) = (test place && one) || stands_through more there

abbrev pub stands_open : Standing → Bool
stands_open place = place.is_open

abbrev pub stands_automatic : Standing → Bool
stands_automatic place = place.is_automatic

abbrev pub AreCounted : List Standing → Type 0
AreCounted list = (s : ℕ) (place : Standing) → slice_get list s ≡ Some place → place.copies < 2 ^ 32

-- places are added for the first structures alone: what stands in these stands so much more often, and at more places
pub record AreAdded (first : ℕ) (more : List ℕ → ℕ) (more_open more_automatic : List Bool → Bool) (old new : List Standing) : Type 0 where
  pub count : length new ≡ length old
  pub counted : AreCounted old → AreCounted new
  pub copies : (counts : List ℕ) → length counts ≡ first → capped (copies_through new counts) ≡ capped (copies_through old counts + more counts)
  pub is_open : (there : List Bool) → length there ≡ first → stands_through stands_open new there ≡ (stands_through stands_open old there || more_open there)
  pub is_automatic : (there : List Bool) → length there ≡ first → stands_through stands_automatic new there ≡ (stands_through stands_automatic old there || more_automatic there)
  pub kept : (s : ℕ) → first ≤ s → slice_get new s ≡ slice_get old s

pub record AreNowhere (count : ℕ) (list : List Standing) : Type 0 where
  pub many : length list ≡ count
  pub copies : (s : ℕ) (place : Standing) → slice_get list s ≡ Some place → place.copies ≡ 0
  pub is_open : (s : ℕ) (place : Standing) → slice_get list s ≡ Some place → place.is_open ≡ false
  pub is_automatic : (s : ℕ) (place : Standing) → slice_get list s ≡ Some place → place.is_automatic ≡ false

-- of the structures from one on it is known where they stand; and those before that stand where the first ones do in which they stand
pub record AreFrom (p : Program) (first : ℕ) (list : List Standing) : Type 0 where
  pub count : length list ≡ length p.structures
  pub counted : AreCounted list
  pub copies : (s : ℕ) → s < first → capped (copies_through list (copies s (take first p.structures))) ≡ capped (copies_in_ram p s)
  pub is_open : (s : ℕ) → s < first → stands_through stands_open list (stands false s (take first p.structures)) ≡ is_open p s
  pub is_automatic : (s : ℕ) → s < first → stands_through stands_automatic list (stands true s (take first p.structures)) ≡ is_automatic p s
  pub done : (s : ℕ) (place : Standing) → first ≤ s → slice_get list s ≡ Some place → IsStanding p s place
