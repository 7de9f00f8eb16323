-- A structure of the unit, told by what the code keeps of it.
use Rattle.std.proofs.Common.{arith, ◌≡◌, ◌∙◌, ℕ, zero, suc, IsTrue, List, [], ◌∷◌, ◌++◌, Some, None, refl, ap, sym, length, slice_get}
use Rattle.std.specs.Prelude.{option_map}
use Rattle.std.proofs.lemmas.List.{length-map, append-nil}
use Rattle.cc_program.specs.declared.types.Structure.{Structure}
use Rattle.cc_scopes.specs.CcSyntax.declared.sizes.Layout.{Layout}
use Rattle.cc_scopes.proofs.KnownLemmas.{AreKept, are_kept-says}
use Rattle.cc_scopes.specs.Standings.{entries_of, are_kept, some_if, known_structures}
use Rattle.cc_scopes.specs.State.{State, structures_of, as_structure}
use Rattle.cc_scopes.specs.declared.standing.Standing.{Standing}
use Rattle.cc_scopes.specs.CcUnit.declared.unit.UnitStructure.{UnitStructure}
use Rattle.cc_numbering.specs.Numbers.{order_of, places_from, numbers_of}
use Rattle.cc_numbering.specs.Structures.{all_named_in, structure_at}

abbrev pub told : List ℕ → Structure → Standing → UnitStructure
told numbers a k = record { tag = some_if k.tagged a.tag; alias = k.alias; members = option_map (all_named_in numbers) (some_if k.complete a.members) }

there : (numbers : List ℕ) (all : List Structure) (standings : List Standing) (layouts : List Layout) (i : ℕ) (a : Structure) (k : Standing) → length all ≡ length standings → length all ≡ length layouts
    → slice_get all i ≡ Some a → slice_get standings i ≡ Some k → structure_at numbers (known_structures (entries_of all standings layouts)) i ≡ told numbers a k ∷ []
there numbers [] standings layouts i a k h l e f = cc
there numbers (x ∷ all) [] layouts i a k h l e f = cc
there numbers (x ∷ all) (y ∷ standings) [] i a k h l e f = absurd (omega arith)
there numbers (x ∷ all) (y ∷ standings) (z ∷ layouts) zero a k h l e f =
    let same : x ≡ a = cc in
    let beside : y ≡ k = cc in
    λ j. told numbers (same j) (beside j) ∷ []
there numbers (x ∷ all) (y ∷ standings) (z ∷ layouts) (suc i) a k h l e f = there numbers all standings layouts i a k (omega arith) (omega arith) e f

none : (numbers : List ℕ) (all : List Structure) (standings : List Standing) (layouts : List Layout) (i : ℕ) → length all ≡ length standings → length all ≡ length layouts
    → slice_get all i ≡ None → structure_at numbers (known_structures (entries_of all standings layouts)) i ≡ []
none numbers [] standings layouts i h l e = refl
none numbers (x ∷ all) [] layouts i h l e = refl
none numbers (x ∷ all) (y ∷ standings) [] i h l e = refl
none numbers (x ∷ all) (y ∷ standings) (z ∷ layouts) zero h l e = cc
none numbers (x ∷ all) (y ∷ standings) (z ∷ layouts) (suc i) h l e = none numbers all standings layouts i (omega arith) (omega arith) e

beside-none : (numbers : List ℕ) (all : List Structure) (standings : List Standing) (layouts : List Layout) (i : ℕ) → length all ≡ length standings → length all ≡ length layouts
    → slice_get standings i ≡ None → structure_at numbers (known_structures (entries_of all standings layouts)) i ≡ []
beside-none numbers [] standings layouts i h l e = refl
beside-none numbers (x ∷ all) [] layouts i h l e = refl
beside-none numbers (x ∷ all) (y ∷ standings) [] i h l e = refl
beside-none numbers (x ∷ all) (y ∷ standings) (z ∷ layouts) zero h l e = cc
beside-none numbers (x ∷ all) (y ∷ standings) (z ∷ layouts) (suc i) h l e = beside-none numbers all standings layouts i (omega arith) (omega arith) e

module _ (numbers : List ℕ) (all : List Structure) (standings : List Standing) (layouts : List Layout) (i : ℕ) (out next : List UnitStructure) (kept : IsTrue (are_kept all standings layouts)) where
  pub put-there : (a : Structure) (k : Standing) (u : UnitStructure) → slice_get all i ≡ Some a → slice_get standings i ≡ Some k → u ≡ told numbers a k → next ≡ out ++ u ∷ []
      → next ≡ out ++ structure_at numbers (known_structures (entries_of all standings layouts)) i
  put-there a k u e f is pushed =
      let t : AreKept all standings layouts = are_kept-says all standings layouts kept in
      pushed ∙ ap (λ r. out ++ r) (ap (λ v. v ∷ []) is ∙ sym (there numbers all standings layouts i a k t.beside t.laid e f))

  pub put-none : slice_get all i ≡ None → next ≡ out → next ≡ out ++ structure_at numbers (known_structures (entries_of all standings layouts)) i
  put-none e same =
      let t : AreKept all standings layouts = are_kept-says all standings layouts kept in
      same ∙ (sym (append-nil out) ∙ ap (λ r. out ++ r) (sym (none numbers all standings layouts i t.beside t.laid e)))

  pub put-beside : slice_get standings i ≡ None → next ≡ out → next ≡ out ++ structure_at numbers (known_structures (entries_of all standings layouts)) i
  put-beside e same =
      let t : AreKept all standings layouts = are_kept-says all standings layouts kept in
      same ∙ (sym (append-nil out) ∙ ap (λ r. out ++ r) (sym (beside-none numbers all standings layouts i t.beside t.laid e)))

pub ruleset of_known = (put-there, put-none, put-beside)

pub numbers-are : (s : State) (order places : List ℕ) (ss : List Structure) (n : ℕ) → order ≡ order_of s → ss ≡ structures_of s → n ≡ length ss → places ≡ places_from 0 n order → places ≡ numbers_of s
numbers-are s order places ss n is known long whole =
    let count : n ≡ length s.structures = long ∙ (ap length known ∙ length-map s.structures as_structure) in
    whole ∙ (λ j. places_from 0 (count j) (is j))

pub ruleset of_lengths = (numbers-are)
