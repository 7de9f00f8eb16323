-- Structures that are declared one behind another: the members of each, the state behind it, and what is known behind all.
use Rattle.std.proofs.Common.{◌≡◌, ◌<◌, ◌≤◌, ◌+◌, ℕ, zero, suc, Bool, true, false, List, [], ◌∷◌, ◌++◌, map, length, take, Some, Ok, refl, ap, sym, ◌∙◌, subst, append_assoc, slice_get, nat_lt, arith}
use Rattle.std.proofs.lemmas.Bool.Decides.{nat_tests}
use Rattle.std.proofs.lemmas.List.{append-nil, map-append}
use Rattle.std.specs.Prelude.{if◌then◌else◌}
use Rattle.std.proofs.lemmas.Option.{slice_get_within}
use Rattle.std.specs.List.{list_all}
use Rattle.cc_unit_trees.specs.Items.{ShowsMembers}
use Rattle.cc_program.specs.CcNum.declared.target.Target.{Target}
use Rattle.cc_program.specs.declared.program.Program.{Program}
use Rattle.cc_program.specs.declared.program.Roles.{Roles}
use Rattle.cc_program.specs.declared.types.CType.{CType}
use Rattle.cc_program.specs.declared.types.Structure.{Structure}
use Rattle.cc_type.specs.CcScopes.State.{structures_of, layouts_of}
use Rattle.cc_type.specs.CcScopes.declared.designated.Tagged.TheVariants.{StructureTag}
use Rattle.cc_shown_declarations.proofs.Names.{apart-before}
use Rattle.cc_type.specs.CcSyntax.Names.{are_names, local_names}
use Rattle.cc_type.specs.CcSyntax.Sound.{IsSound, have_ids, is_member, is_structure, are_structures}
use Rattle.cc_type.specs.CcScopes.Structures.{completed}
use Rattle.cc_type.specs.CcSyntax.Types.{Named, has_members}
use Rattle.cc_type.proofs.CcSyntax.Prefixes.{both_true}
use Rattle.cc_type.specs.CcTerms.Structures.{members_found}
use Rattle.cc_type.specs.CcTerms.Terms.{members_here}
use Rattle.cc_tree.specs.declared.at.At.{At}
use Rattle.cc_tree.specs.declared.tree.MemberDecl.{MemberDecl}
use Rattle.cc_program.specs.CcWords.Names.{is_name, are_distinct}
use Rattle.cc_shown_expressions.specs.Known.{KnowsStructures}
use Rattle.cc_shown_expressions.specs.Numbers.{named_numbered}
use Rattle.cc_shown_declarations.specs.Order.{appearance, order_before, structure_number, with_first, with_members}
use Rattle.cc_shown_declarations.specs.States.{first_state}
use Rattle.cc_shown_declarations.proofs.Announced.{begun, earlier-names, member-names}
use Rattle.cc_shown_declarations.proofs.Closed.{members-apart, order-apart, closed-state}
use Rattle.cc_shown_declarations.proofs.Front.{Front, front-of, first-within, members-passed, members-keep, order-next, begins-behind, order-whole}
use Rattle.cc_shown_declarations.proofs.Members.{AreLeft, Before, is-then, all-members}
use Rattle.cc_shown_declarations.proofs.Orders.{begins-itself, first-apart, first-there}
use Rattle.cc_shown_declarations.proofs.Standing.{IsThen, knows-then, same-numbers, whole-program, program_then, number_then}

structure-good : (before rest : List Structure) (count : ℕ) (target : Target) (k : ℕ) (s : Structure) → slice_get rest k ≡ Some s → are_structures before count target rest ≡ true → is_structure (before ++ take k rest) count target s ≡ true
structure-good before [] count target k s e h = absurd (cc)
structure-good before (r ∷ rest) count target zero s e h =
    let is : r ≡ s = cc in
    let q = (both_true (is_structure before count target r) (are_structures (before ++ r ∷ []) count target rest) h).0 in
    ap (λ (ss : List Structure). is_structure ss count target s) (append-nil before) ∙ subst (λ (t : Structure). is_structure before count target t ≡ true) is q
structure-good before (r ∷ rest) count target (suc k) s e h =
    ap (λ (ss : List Structure). is_structure ss count target s) (sym (append_assoc before (r ∷ []) (take k rest)))
    ∙ structure-good (before ++ r ∷ []) rest count target k s e (both_true (is_structure before count target r) (are_structures (before ++ r ∷ []) count target rest) h).1

module _ (p : Program) (roles : Roles) (sound : IsSound p) (k : ℕ) (s : Structure) (there : slice_get p.structures k ≡ Some s) where
  good : is_structure (take k p.structures) (length p.structures) p.target s ≡ true
  good = structure-good [] p.structures (length p.structures) p.target k s there sound.structures

  parts : (are_names (local_names s.members) ≡ true) × (list_all (is_member (take k p.structures) (length p.structures) p.target) s.members ≡ true)
  parts = both_true (are_names (local_names s.members)) (list_all (is_member (take k p.structures) (length p.structures) p.target) s.members) (both_true (have_ids (length s.members)) _ good).1

  distinct : are_distinct (local_names s.members) ≡ true
  distinct = (both_true (list_all is_name (local_names s.members)) (are_distinct (local_names s.members)) parts.0).1

  are-left : (done ls : List Named) → list_all (is_member (take k p.structures) (length p.structures) p.target) ls ≡ true → are_distinct (local_names (done ++ ls)) ≡ true → AreLeft p roles sound k s there done ls
  are-left done [] h d = tt
  are-left done (l ∷ ls) h d =
      let q = both_true (is_member (take k p.structures) (length p.structures) p.target l) (list_all (is_member (take k p.structures) (length p.structures) p.target) ls) h in (
        q.0,
        apart-before l.0 (local_names done) (local_names ls) (ap are_distinct (sym (map-append (λ (m : Named). m.0) done (l ∷ ls))) ∙ d),
        are-left (done ++ l ∷ []) ls q.1 (ap (λ (ms : List Named). are_distinct (local_names ms)) (append_assoc done (l ∷ []) ls) ∙ d),
      )

  within-all : k ≤ length p.structures
  within-all = let h = slice_get_within p.structures k s there in omega (arith, h)

  before : Before p roles sound k s there [] (with_first k (order_before p k))
  before =
      let q = front-of p sound k within-all in
      record { passed = begun p k (order_before p k) q.passed; own = first-there k (order_before p k); within = first-within p sound k s (order_before p k) there q.within }

  pub members : (ms : List (At MemberDecl)) → ShowsMembers p.structures s.members ms → members_found (map (members_here p.target roles) ms) (first_state p k (with_first k (order_before p k)))
      ≡ Ok (map (named_numbered (structure_number p)) s.members, first_state p k (with_members s.members (with_first k (order_before p k))))
  members ms h = (all-members p roles sound k s there [] s.members ms h refl (are-left [] s.members parts.1 distinct) (with_first k (order_before p k)) before (begins-behind p sound k s there)).0

  -- ---- behind its members

  abbrev order : List ℕ
  order = with_members s.members (with_first k (order_before p k))

  pub behind : Before p roles sound k s there s.members (with_members s.members (with_first k (order_before p k)))
  behind =
      let q = front-of p sound k within-all in
      let r = members-passed p sound k s there 0 [] s.members (with_first k (order_before p k)) (λ m l f. let z : 0 + m ≡ m = omega arith in ap (slice_get s.members) z ∙ f) (begun p k (order_before p k) q.passed) (first-within p sound k s (order_before p k) there q.within) in
      record { passed = r.0; own = members-keep p sound k s.members (with_first k (order_before p k)) (first-there k (order_before p k)); within = r.1 }

  pub closed : has_members (Some s) ≡ true → completed p.target (structure_number p k) (map (named_numbered (structure_number p)) s.members) (first_state p k (order_before p (suc k))) ≡ first_state p (suc k) (order_before p (suc k))
  closed full =
      let is = order-next p sound k s there in
      let known = is-then p roles sound k s there s.members order behind (begins-behind p sound k s there) in
      subst (λ (o : List ℕ). completed p.target (structure_number p k) (map (named_numbered (structure_number p)) s.members) (first_state p k o) ≡ first_state p (suc k) o) (sym is)
      (closed-state p sound k s there full order known behind.own (members-apart s.members (with_first k (order_before p k)) (first-apart k (order_before p k) (order-apart p k)))
      (λ m l f. member-names p sound k s s.members [] order there (sym (append-nil s.members)) behind.own behind.passed m l f))

module _ (p : Program) (sound : IsSound p) where
  count : ℕ
  count = length p.structures

  pub front : Front p sound (length p.structures) (appearance p)
  front = subst (λ (o : List ℕ). Front p sound (length p.structures) o) (order-whole p sound) (front-of p sound (length p.structures) (omega arith))

  below-all : (i : ℕ) → i < length p.structures → nat_lt i (length p.structures) ≡ true
  below-all i h = grind (arith, nat_tests)

  whole : IsThen p (length p.structures) (appearance p) 0
  whole = record {
    begins = begins-itself (appearance p);
    before = front.passed.before;
    within = front.within;
    spare = λ i t e h. absurd (let g : true ≡ false = sym (below-all i (slice_get_within p.structures i t e)) ∙ h in cc);
    members = λ i m t l h e f. earlier-names p sound (length p.structures) [] (appearance p) front.passed i m t l h e f;
  }

  same-program : program_then p (length p.structures) (appearance p) 0 ≡ p
  same-program = whole-program p (length p.structures) (appearance p) 0 (omega arith)

  then-knows : KnowsStructures p (number_then p (length p.structures) (appearance p) 0) (first_state p (length p.structures) (appearance p))
  then-knows = subst (λ (q : Program). KnowsStructures q (number_then p (length p.structures) (appearance p) 0) (first_state p (length p.structures) (appearance p))) same-program (knows-then p (length p.structures) (appearance p) 0 sound whole)

  -- all are named, so each has its number
  number-is : (i : ℕ) (t : Structure) → slice_get p.structures i ≡ Some t → number_then p (length p.structures) (appearance p) 0 i ≡ structure_number p i
  number-is i t e = ap (λ (b : Bool). if b then structure_number p i else structure_number p 0) (front.passed.before i (slice_get_within p.structures i t e))

  member-numbers : (i m : ℕ) (t : Structure) (ls : List Named) → i < length p.structures → slice_get p.structures i ≡ Some t → ((n : ℕ) (l : Named) → slice_get ls n ≡ Some l → slice_get t.members (m + n) ≡ Some l) →
      map (named_numbered (number_then p (length p.structures) (appearance p) 0)) ls ≡ map (named_numbered (structure_number p)) ls
  member-numbers i m t [] h e f = refl
  member-numbers i m t (l ∷ ls) h e f =
      let z : m + 0 ≡ m = omega arith in
      let here : slice_get t.members m ≡ Some l = ap (slice_get t.members) (sym z) ∙ f 0 l refl in
      ap (λ (u : CType). (l.0, u) ∷ map (named_numbered (number_then p (length p.structures) (appearance p) 0)) ls)
      (same-numbers p (length p.structures) (appearance p) 0 l.1 (earlier-names p sound (length p.structures) [] (appearance p) front.passed i m t l h e here))
      ∙ ap (λ (ms : List Named). named_numbered (structure_number p) l ∷ ms) (member-numbers i (suc m) t ls h e (λ n k g. let y : suc m + n ≡ m + suc n = omega arith in ap (slice_get t.members) y ∙ f (suc n) k g))

  pub known : KnowsStructures p (structure_number p) (first_state p (length p.structures) (appearance p))
  known = record {
    tags = λ i t e. then-knows.tags i t e ∙ ap (λ n. Some (StructureTag n)) (number-is i t e);
    structures = λ i t e. ap (slice_get (structures_of (first_state p (length p.structures) (appearance p)))) (sym (number-is i t e)) ∙ then-knows.structures i t e
        ∙ ap (λ (ms : List Named). Some (record { tag = t.tag; members = ms })) (member-numbers i 0 t t.members (slice_get_within p.structures i t e) e (λ n l f. let z : 0 + n ≡ n = omega arith in ap (slice_get t.members) z ∙ f));
    layouts = λ i t e. ap (slice_get (layouts_of (first_state p (length p.structures) (appearance p)))) (sym (number-is i t e)) ∙ then-knows.layouts i t e;
  }
