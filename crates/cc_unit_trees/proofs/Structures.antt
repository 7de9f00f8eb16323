-- The members of each structure have types over the structures before it, and what such a type may name is there.
use Rattle.std.proofs.Common.{◌≡◌, ℕ, zero, suc, ◌&&◌, ◌||◌, ltb, true, List, [], ◌∷◌, ◌++◌, length, take, Option, Some, None, refl, sym, subst, append_assoc, append-nil, slice_get}
use Rattle.std.specs.List.{list_all}
use Rattle.cc_program.specs.CcNum.declared.target.Target.{Target}
use Rattle.cc_lex.proofs.Booleans.{and-true}
use Rattle.cc_program.specs.declared.program.Program.{Program}
use Rattle.cc_program.specs.declared.types.Structure.{Structure}
use Rattle.cc_typed.specs.CcSyntax.Names.{are_names, local_names}
use Rattle.cc_typed.specs.CcSyntax.Sound.{is_structure, is_member, have_ids, are_structures, IsSound}
use Rattle.cc_typed.specs.CcSyntax.Types.{has_members}
use Rattle.cc_expression_trees.proofs.TypeNames.{there-by}
use Rattle.cc_unit_trees.proofs.Lists.{taken-at}

abbrev pub HasMembers : Program → ℕ → Structure → Type 0
HasMembers p i s = (are_names (local_names s.members) ≡ true) × (list_all (is_member (take i p.structures) (length p.structures) p.target) s.members ≡ true)

take-none : {A : Type 0} (xs : List A) → take 0 xs ≡ []
take-none [] = refl
take-none (x ∷ xs) = refl

-- behind those that are done
tested-at : (before rest : List Structure) (count : ℕ) (target : Target) (i : ℕ) (s : Structure) → slice_get rest i ≡ Some s → are_structures before count target rest ≡ true → is_structure (before ++ take i rest) count target s ≡ true
tested-at before [] count target i s e h = absurd (cc)
tested-at before (r ∷ rest) count target zero s e h =
    let k : r ≡ s = cc in
    let q = (and-true (is_structure before count target r) (are_structures (before ++ r ∷ []) count target rest) h).0 in
    subst (λ b. is_structure b count target s ≡ true) (sym (append-nil before)) (subst (λ z. is_structure before count target z ≡ true) k q)
tested-at before (r ∷ rest) count target (suc i) s e h =
    let q = (and-true (is_structure before count target r) (are_structures (before ++ r ∷ []) count target rest) h).1 in
    subst (λ b. is_structure b count target s ≡ true) (append_assoc before (r ∷ []) (take i rest)) (tested-at (before ++ r ∷ []) rest count target i s e q)

pub structure-at : (p : Program) → IsSound p → (i : ℕ) (s : Structure) → slice_get p.structures i ≡ Some s → HasMembers p i s
structure-at p h i s e =
    let t = tested-at [] p.structures (length p.structures) p.target i s e h.structures in
    and-true (are_names (local_names s.members)) (list_all (is_member (take i p.structures) (length p.structures) p.target) s.members)
    (and-true (have_ids (length s.members)) (are_names (local_names s.members) && list_all (is_member (take i p.structures) (length p.structures) p.target) s.members) t).1

-- ---- what types may name

front-has : (structures : List Structure) (n i : ℕ) (o : Option Structure) → slice_get (take n structures) i ≡ o → has_members o ≡ true → (s : Structure) × (slice_get structures i ≡ Some s)
front-has structures n i None e h = absurd (cc)
front-has structures n i (Some s) e h = (s, taken-at n structures i s e)

pub known-at : (structures : List Structure) (n i : ℕ) → (has_members (slice_get (take n structures) i) || ltb i (length structures)) ≡ true → (s : Structure) × (slice_get structures i ≡ Some s)
known-at structures n i h = there-by structures i (slice_get (take n structures) i) (front-has structures n i (slice_get (take n structures) i) refl) h
