-- A structure that is closed has its members and its layout, and the order names each structure once.
use Rattle.std.proofs.Common.{◌≡◌, ◌<◌, ◌+◌, ℕ, zero, suc, Bool, true, false, ◌&&◌, ◌||◌, List, [], ◌∷◌, ◌++◌, map, length, take, Option, Some, None, refl, ap, sym, ◌∙◌, slice_get, nat_eq, nat_lt, unwrap_or, arith}
use Rattle.std.proofs.lemmas.Bool.Decides.{nat_tests}
use Rattle.std.specs.Prelude.{if◌then◌else◌}
use Rattle.cc_print.specs.Units.{first_naming, is_in_parameters}
use Rattle.cc_program.specs.declared.program.Program.{Program}
use Rattle.cc_program.specs.declared.types.CType.{CType}
use Rattle.cc_program.specs.declared.types.Structure.{Structure}
use Rattle.cc_type.specs.CcScopes.State.{State, KnownStructure, only_named, change_at, layouts_of}
use Rattle.cc_type.specs.CcScopes.Structures.{with_members as members_given, completed}
use Rattle.cc_type.specs.CcSyntax.Layout.{nothing, structure, type_layout, layouts}
use Rattle.cc_type.specs.CcSyntax.Sizes.{AreSized}
use Rattle.cc_type.specs.CcSyntax.Sound.{IsSound}
use Rattle.cc_type.specs.CcSyntax.Types.{Named, has_members, is_complete}
use Rattle.cc_type.specs.CcSyntax.declared.sizes.Layout.{Layout}
use Rattle.cc_type.proofs.CcSyntax.Parts.{all_at}
use Rattle.cc_type.proofs.CcSyntax.Prefixes.{layouts-at, layout-taken, complete-taken}
use Rattle.cc_type.proofs.CcSyntax.StructureLemmas.{structures_sized}
use Rattle.cc_shown_expressions.specs.Numbers.{type_numbered, named_numbered}
use Rattle.cc_shown_expressions.proofs.Complete.{layout-numbered}
use Rattle.cc_shown_declarations.specs.Order.{base_of, is_among, with_first, with_base, with_members, with_structures, announced_from, order_before, appearance, structure_number}
use Rattle.cc_shown_declarations.specs.States.{whole_structure, known_by, known_as, completed_from, first_state}
use Rattle.cc_shown_declarations.proofs.Announced.{take-more, NamesOnly}
use Rattle.cc_shown_declarations.proofs.Orders.{Apart, first-apart, change-map, number-old}
use Rattle.cc_shown_declarations.proofs.Standing.{program_then, number_then, take-then, same-numbers, knows-then, IsThen}

-- ---- each is named once

base-apart : (o : Option ℕ) (order : List ℕ) → Apart order → Apart (with_base o order)
base-apart None order a = a
base-apart (Some i) order a = first-apart i order a

pub members-apart : (ls : List Named) (order : List ℕ) → Apart order → Apart (with_members ls order)
members-apart [] order a = a
members-apart (l ∷ ls) order a = members-apart ls (with_base (base_of l.1) order) (base-apart (base_of l.1) order a)

structures-apart : (i : ℕ) (ss : List Structure) (order : List ℕ) → Apart order → Apart (with_structures i ss order)
structures-apart i [] order a = a
structures-apart i (s ∷ ss) order a = structures-apart (suc i) ss (with_members s.members (with_first i order)) (members-apart s.members (with_first i order) (first-apart i order a))

not-below-by : (all : List Structure) (i : ℕ) (b : Bool) (rest : List ℕ) (n : ℕ) → n < i → is_among n rest ≡ false → is_among n (if b then i ∷ rest else rest) ≡ false
not-below-by all i false rest n h k = k
not-below-by all i true rest n h k =
    let apart : nat_eq n i ≡ false = grind (arith, nat_tests, h) in
    ap (λ (b : Bool). b || is_among n rest) apart ∙ k

not-below : (all : List Structure) (i : ℕ) (rest : List Structure) (n : ℕ) → n < i → is_among n (announced_from all i rest) ≡ false
not-below all i [] n h = refl
not-below all i (s ∷ rest) n h = not-below-by all i (is_in_parameters (first_naming i (take i all))) (announced_from all (suc i) rest) n h (not-below all (suc i) rest n (omega (arith, h)))

announced-apart-by : (i : ℕ) (b : Bool) (rest : List ℕ) → is_among i rest ≡ false → Apart rest → Apart (if b then i ∷ rest else rest)
announced-apart-by i true rest h a = (h, a)
announced-apart-by i false rest h a = a

announced-apart : (all : List Structure) (i : ℕ) (rest : List Structure) → Apart (announced_from all i rest)
announced-apart all i [] = tt
announced-apart all i (s ∷ rest) =
    announced-apart-by i (is_in_parameters (first_naming i (take i all))) (announced_from all (suc i) rest) (not-below all (suc i) rest i (omega arith)) (announced-apart all (suc i) rest)

pub order-apart : (p : Program) (k : ℕ) → Apart (order_before p k)
order-apart p k = structures-apart 0 (take k p.structures) (announced_from p.structures 0 p.structures) (announced-apart p.structures 0 p.structures)

-- ---- one more is complete

take-length : {A : Type 0} → (xs : List A) (k : ℕ) (x : A) → slice_get xs k ≡ Some x → length (take k xs) ≡ k
take-length [] k x e = absurd (cc)
take-length (y ∷ ys) zero x e = refl
take-length (y ∷ ys) (suc k) x e = ap suc (take-length ys k x e)

module _ (p : Program) where
  if-append : (b : Bool) (n : ℕ) (xs more : List ℕ) → (if b then n ∷ (xs ++ more) else xs ++ more) ≡ (if b then n ∷ xs else xs) ++ more
  if-append true n xs more = refl
  if-append false n xs more = refl

  completed-append : (i : ℕ) (ss : List Structure) (s : Structure) (n : ℕ) → n ≡ i + length ss → has_members (Some s) ≡ true → completed_from p i (ss ++ s ∷ []) ≡ completed_from p i ss ++ structure_number p n ∷ []
  completed-append i [] s n e h =
      let is : n ≡ i = omega (arith, e) in
      ap (λ (b : Bool). if b then structure_number p i ∷ [] else []) h ∙ ap (λ k. structure_number p k ∷ []) (sym is)
  completed-append i (t ∷ ts) s n e h =
      ap (λ (ks : List ℕ). if has_members (Some t) then structure_number p i ∷ ks else ks) (completed-append (suc i) ts s n (omega (arith, e)) h)
      ∙ if-append (has_members (Some t)) (structure_number p i) (completed_from p (suc i) ts) (structure_number p n ∷ [])

  module _ (sound : IsSound p) (k : ℕ) (s : Structure) (there : slice_get p.structures k ≡ Some s) (full : has_members (Some s) ≡ true) (order : List ℕ) (known : IsThen p k order k) (own : is_among k order ≡ true) (apart : Apart order)
      (only : (m : ℕ) (l : Named) → slice_get s.members m ≡ Some l → NamesOnly p order l.1) where
    abbrev now : State
    now = first_state p k order

    abbrev numbered : List Named → List Named
    numbered ls = map (named_numbered (structure_number p)) ls

    abbrev Complete : CType → Type 0
    Complete t = is_complete (take k p.structures) t ≡ true

    sized : AreSized p.structures p.target
    sized = structures_sized (length p.structures) p.target p.structures sound.structures

    same-front : take k (program_then p k order k).structures ≡ take k p.structures
    same-front = take-then p k order k 0 k p.structures (omega arith)

    member-laid : (t : CType) → Complete t → NamesOnly p order t → type_layout p.target (layouts_of now) (type_numbered (structure_number p) t) ≡ type_layout p.target (layouts p.target (take k p.structures)) t
    member-laid t c o =
        let q = program_then p k order k in
        let front : is_complete (take k q.structures) t ≡ true = ap (λ (ss : List Structure). is_complete ss t) same-front ∙ c in
        ap (type_layout p.target (layouts_of now)) (sym (same-numbers p k order k t o))
        ∙ layout-numbered q (number_then p k order k) now (knows-then p k order k sound known) t (complete-taken q.structures k t front)
        ∙ sym (layout-taken p.target q.structures k t front)
        ∙ ap (λ (ss : List Structure). type_layout p.target (layouts p.target ss) t) same-front

    members-laid : (n : ℕ) (ls : List Named) → ((m : ℕ) (l : Named) → slice_get ls m ≡ Some l → slice_get s.members (n + m) ≡ Some l) →
        map (λ (l : Named). type_layout p.target (layouts_of now) l.1) (numbered ls) ≡ map (λ (l : Named). type_layout p.target (layouts p.target (take k p.structures)) l.1) ls
    members-laid n [] f = refl
    members-laid n (l ∷ ls) f =
        let z : n + 0 ≡ n = omega arith in
        let here : slice_get s.members n ≡ Some l = ap (slice_get s.members) (sym z) ∙ f 0 l refl in
        ap (λ (x : Layout). x ∷ map (λ (l : Named). type_layout p.target (layouts_of now) l.1) (numbered ls))
        (member-laid l.1 (all_at (λ (l : Named). is_complete (take k p.structures) l.1 ≡ true) s.members n l here (sized.in_order k s there)) (only n l here))
        ∙ ap (λ (xs : List Layout). type_layout p.target (layouts p.target (take k p.structures)) l.1 ∷ xs) (members-laid (suc n) ls (λ m r g. let y : suc n + m ≡ n + suc m = omega arith in ap (slice_get s.members) y ∙ f (suc m) r g))

    not-itself : (n : ℕ) → nat_lt n n ≡ false
    not-itself n = grind (arith, nat_tests)

    before-next : (n : ℕ) → nat_lt n (suc n) ≡ true
    before-next n = grind (arith, nat_tests)

    front-known : known_as p k k ≡ only_named (Some s.tag)
    front-known = ap (known_by p (nat_lt k k) k) there ∙ ap (λ (c : Bool). if c && has_members (Some s) then whole_structure p k s else only_named (Some s.tag)) (not-itself k)

    behind-known : known_as p (suc k) k ≡ whole_structure p k s
    behind-known = ap (known_by p (nat_lt k (suc k)) k) there
        ∙ ap (λ (c : Bool). if c && has_members (Some s) then whole_structure p k s else only_named (Some s.tag)) (before-next k)
        ∙ ap (λ (c : Bool). if c then whole_structure p k s else only_named (Some s.tag)) full

    laid : structure (map (λ (l : Named). type_layout p.target (layouts_of now) l.1) (numbered s.members)) ≡ unwrap_or (slice_get (layouts p.target p.structures) k) nothing
    laid =
        ap structure (members-laid 0 s.members (λ m l f. let z : 0 + m ≡ m = omega arith in ap (slice_get s.members) z ∙ f))
        ∙ sym (ap (λ (o : Option Layout). unwrap_or o nothing) (layouts-at p.target p.structures k s there))

    changed : members_given p.target (numbered s.members) now (known_as p k k) ≡ known_as p (suc k) k
    changed =
        ap (members_given p.target (numbered s.members) now) front-known
        ∙ ap (λ (l : Layout). record { tag = Some s.tag; alias = None; members = Some (numbered s.members); layout = l }) laid
        ∙ sym behind-known

    same-test : (j n : ℕ) → nat_eq n j ≡ false → nat_lt j n ≡ nat_lt j (suc n)
    same-test j n h = by (nat_lt j n) (nat_lt j (suc n)) refl refl
      where
        by : (a b : Bool) → nat_lt j n ≡ a → nat_lt j (suc n) ≡ b → a ≡ b
        by true true e f = refl
        by false false e f = refl
        by true false e f = absurd (grind (arith, nat_tests, e, f, h))
        by false true e f = absurd (grind (arith, nat_tests, e, f, h))

    others : (j : ℕ) → nat_eq k j ≡ false → known_as p k j ≡ known_as p (suc k) j
    others j h = ap (λ (b : Bool). known_by p b j (slice_get p.structures j)) (same-test j k h)

    abbrev with_parts : List KnownStructure → List ℕ → State
    with_parts structures done = record { scopes = now.scopes; structures = structures; completed = done; names = []; locals = []; unfinished = None }

    pub closed-state : completed p.target (structure_number p k) (numbered s.members) now ≡ first_state p (suc k) order
    closed-state =
        ap (λ n. with_parts (change_at n (members_given p.target (numbered s.members) now) (map (known_as p k) order)) (completed_from p 0 (take k p.structures) ++ structure_number p k ∷ [])) (number-old k order (appearance p) known.begins own)
        ∙ ap (λ (ks : List KnownStructure). with_parts ks (completed_from p 0 (take k p.structures) ++ structure_number p k ∷ [])) (change-map (known_as p k) (known_as p (suc k)) (members_given p.target (numbered s.members) now) k changed order apart own others)
        ∙ ap (with_parts (map (known_as p (suc k)) order))
        (sym (ap (completed_from p 0) (take-more p.structures k s there) ∙ completed-append 0 (take k p.structures) s k (let z = take-length p.structures k s there in omega (arith, z)) full))
