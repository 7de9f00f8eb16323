-- The structures that the code keeps, as the definitions have them: with one more, and with one that is changed.
use Rattle.std.proofs.Common.{◌≡◌, ◌∙◌, ◌≤◌, ◌+◌, ◌-◌, ℕ, zero, suc, Bool, true, false, cond, ◌&&◌, ◌||◌, Result, Ok, Err, is_ok, OnOk, List, [], ◌∷◌, ◌++◌, length, take, Option, Some, None, refl, ap, sym, map, arith, set, get_or, slice_get, true≢false, eq-eqb, eqb-true, length-append, length-set}
use Rattle.std.proofs.lemmas.List.{map-append}
use Rattle.std.proofs.lemmas.List.Folds.{list_all-append}
use Rattle.std.specs.List.{list_all, zip}
use Rattle.std.specs.Borrow.{Bor}
use Rattle.std.specs.Option.{option_copied}
use Rattle.std.specs.Prelude.{is_some, nat_eq}
use Rattle.cc_program.specs.declared.types.Structure.{Structure}
use Rattle.cc_operands.specs.CcSyntax.Layout.{nothing}
use Rattle.cc_operands.specs.CcSyntax.Types.{Named}
use Rattle.cc_operands.specs.CcSyntax.declared.sizes.Layout.{Layout}
use Rattle.cc_scopes.specs.Standings.{Entry, entries_of, is_none, is_kept, are_kept, some_if, known, known_structures, completed_with, with_alias}
use Rattle.cc_scopes.specs.State.{Name, KnownStructure, as_structure, change_at, name_or_none, members_or_none, only_named}
use Rattle.cc_scopes.specs.Structures.{has_content}
use Rattle.cc_scopes.specs.declared.standing.Standing.{Standing}

both_true : (a b : Bool) → (a && b) ≡ true → (a ≡ true) × (b ≡ true)
both_true true b h = (refl, h)
both_true false b h = absurd (true≢false (sym h))

and_true : (a b : Bool) → a ≡ true → b ≡ true → (a && b) ≡ true
and_true a b h k = rw (h, k) refl

-- ---- three lists side by side

-- what the test of the three lists says
pub record AreKept (all : List Structure) (standings : List Standing) (layouts : List Layout) : Type 0 where
  pub beside : length all ≡ length standings
  pub laid : length all ≡ length layouts
  pub each : list_all is_kept (entries_of all standings layouts) ≡ true

pub are_kept-says : (all : List Structure) (standings : List Standing) (layouts : List Layout) → are_kept all standings layouts ≡ true → AreKept all standings layouts
are_kept-says all standings layouts h =
    let a : (nat_eq (length all) (length standings) ≡ true) × ((nat_eq (length all) (length layouts) && list_all is_kept (entries_of all standings layouts)) ≡ true) =
    both_true (nat_eq (length all) (length standings)) (nat_eq (length all) (length layouts) && list_all is_kept (entries_of all standings layouts)) h in
    let b : (nat_eq (length all) (length layouts) ≡ true) × (list_all is_kept (entries_of all standings layouts) ≡ true) =
    both_true (nat_eq (length all) (length layouts)) (list_all is_kept (entries_of all standings layouts)) a.1 in
    record { beside = eqb-true (length all) (length standings) a.0; laid = eqb-true (length all) (length layouts) b.0; each = b.1 }

pub are_kept-from : (all : List Structure) (standings : List Standing) (layouts : List Layout) → AreKept all standings layouts → are_kept all standings layouts ≡ true
are_kept-from all standings layouts h =
    and_true (nat_eq (length all) (length standings)) (nat_eq (length all) (length layouts) && list_all is_kept (entries_of all standings layouts)) (eq-eqb (length all) (length standings) h.beside)
    (and_true (nat_eq (length all) (length layouts)) (list_all is_kept (entries_of all standings layouts)) (eq-eqb (length all) (length layouts) h.laid) h.each)

zip-added : {X Y : Type 0} (xs : List X) (ys : List Y) (x : X) (y : Y) → length xs ≡ length ys → zip (xs ++ x ∷ []) (ys ++ y ∷ []) ≡ zip xs ys ++ (x, y) ∷ []
zip-added [] [] x y h = refl
zip-added [] (b ∷ ys) x y h = absurd (omega arith)
zip-added (a ∷ xs) [] x y h = absurd (omega arith)
zip-added (a ∷ xs) (b ∷ ys) x y h = ap (λ r. (a, b) ∷ r) (zip-added xs ys x y (omega arith))

zip-length : {X Y : Type 0} (xs : List X) (ys : List Y) → length xs ≡ length ys → length (zip xs ys) ≡ length xs
zip-length [] [] h = refl
zip-length [] (b ∷ ys) h = absurd (omega arith)
zip-length (a ∷ xs) [] h = absurd (omega arith)
zip-length (a ∷ xs) (b ∷ ys) h = let e : length (zip xs ys) ≡ length xs = zip-length xs ys (omega arith) in omega arith

pub entries-added : (all : List Structure) (standings : List Standing) (layouts : List Layout) (s : Structure) (k : Standing) (l : Layout) → AreKept all standings layouts
    → entries_of (all ++ s ∷ []) (standings ++ k ∷ []) (layouts ++ l ∷ []) ≡ entries_of all standings layouts ++ (s, (k, l)) ∷ []
entries-added all standings layouts s k l h =
    let e : length standings ≡ length layouts = omega (arith, h.beside, h.laid) in
    ap (zip (all ++ s ∷ [])) (zip-added standings layouts k l e)
    ∙ zip-added all (zip standings layouts) s (k, l) (h.beside ∙ sym (zip-length standings layouts e))

-- ---- one more, which is only named

new_known : (tag : Option Name) → known (record { tag = name_or_none tag; members = [] }, (record { tagged = is_some tag; alias = None; complete = false }, nothing)) ≡ only_named tag
new_known None = refl
new_known (Some x) = refl

new_kept : (tag : Option Name) → is_kept (record { tag = name_or_none tag; members = [] }, (record { tagged = is_some tag; alias = None; complete = false }, nothing)) ≡ true
new_kept None = refl
new_kept (Some x) = refl

module _ (all : List Structure) (standings : List Standing) (layouts : List Layout) (tag : Option Name) (kept : are_kept all standings layouts ≡ true) where
  pub known-added : known_structures (entries_of (all ++ record { tag = name_or_none tag; members = [] } ∷ []) (standings ++ record { tagged = is_some tag; alias = None; complete = false } ∷ []) (layouts ++ nothing ∷ []))
      ≡ known_structures (entries_of all standings layouts) ++ only_named tag ∷ []
  known-added =
      ap known_structures (entries-added all standings layouts (record { tag = name_or_none tag; members = [] }) (record { tagged = is_some tag; alias = None; complete = false }) nothing (are_kept-says all standings layouts kept))
      ∙ (map-append known (entries_of all standings layouts) ((record { tag = name_or_none tag; members = [] }, (record { tagged = is_some tag; alias = None; complete = false }, nothing)) ∷ [])
      ∙ ap (λ k. known_structures (entries_of all standings layouts) ++ k ∷ []) (new_known tag))

  pub kept-added : are_kept (all ++ record { tag = name_or_none tag; members = [] } ∷ []) (standings ++ record { tagged = is_some tag; alias = None; complete = false } ∷ []) (layouts ++ nothing ∷ []) ≡ true
  kept-added =
      let h : AreKept all standings layouts = are_kept-says all standings layouts kept in
      are_kept-from (all ++ record { tag = name_or_none tag; members = [] } ∷ []) (standings ++ record { tagged = is_some tag; alias = None; complete = false } ∷ []) (layouts ++ nothing ∷ []) (record {
        beside = length-append all (record { tag = name_or_none tag; members = [] } ∷ []) ∙ (ap (λ n. n + 1) h.beside ∙ sym (length-append standings (record { tagged = is_some tag; alias = None; complete = false } ∷ [])));
        laid = length-append all (record { tag = name_or_none tag; members = [] } ∷ []) ∙ (ap (λ n. n + 1) h.laid ∙ sym (length-append layouts (nothing ∷ [])));
        each =
            ap (list_all is_kept) (entries-added all standings layouts (record { tag = name_or_none tag; members = [] }) (record { tagged = is_some tag; alias = None; complete = false }) nothing h)
            ∙ (list_all-append is_kept (entries_of all standings layouts) ((record { tag = name_or_none tag; members = [] }, (record { tagged = is_some tag; alias = None; complete = false }, nothing)) ∷ [])
            ∙ and_true (list_all is_kept (entries_of all standings layouts)) (is_kept (record { tag = name_or_none tag; members = [] }, (record { tagged = is_some tag; alias = None; complete = false }, nothing)) && true) h.each
            (and_true (is_kept (record { tag = name_or_none tag; members = [] }, (record { tagged = is_some tag; alias = None; complete = false }, nothing))) true (new_kept tag) refl));
      })

-- with one more in each list, whatever they are called
module _ (all new_all : List Structure) (standings new_standings : List Standing) (layouts new_layouts : List Layout) (s : Structure) (k : Standing) (l : Layout) (tag : Option Name)
    (kept : are_kept all standings layouts ≡ true) (a : new_all ≡ all ++ s ∷ []) (b : new_standings ≡ standings ++ k ∷ []) (c : new_layouts ≡ layouts ++ l ∷ [])
    (is_s : s ≡ record { tag = name_or_none tag; members = [] }) (is_k : k ≡ record { tagged = is_some tag; alias = None; complete = false }) (is_l : l ≡ nothing) where
  pub known-pushed : known_structures (entries_of new_all new_standings new_layouts) ≡ known_structures (entries_of all standings layouts) ++ only_named tag ∷ []
  known-pushed =
      (λ j. known_structures (entries_of (a j) (b j) (c j)))
      ∙ ((λ j. known_structures (entries_of (all ++ is_s j ∷ []) (standings ++ is_k j ∷ []) (layouts ++ is_l j ∷ []))) ∙ known-added all standings layouts tag kept)

  pub kept-pushed : are_kept new_all new_standings new_layouts ≡ true
  kept-pushed =
      (λ j. are_kept (a j) (b j) (c j))
      ∙ ((λ j. are_kept (all ++ is_s j ∷ []) (standings ++ is_k j ∷ []) (layouts ++ is_l j ∷ [])) ∙ kept-added all standings layouts tag kept)

-- with one more in each list, or in none
module _ (all new_all : List Structure) (standings new_standings : List Standing) (layouts new_layouts : List Layout) (s : Structure) (k : Standing) (l : Layout) (tag : Option Name)
    (kept : are_kept all standings layouts ≡ true) (is_s : s ≡ record { tag = name_or_none tag; members = [] }) (is_k : k ≡ record { tagged = is_some tag; alias = None; complete = false }) (is_l : l ≡ nothing) where
  pub kept-either : (added : Bool) → new_all ≡ cond added (all ++ s ∷ []) all → new_standings ≡ cond added (standings ++ k ∷ []) standings → new_layouts ≡ cond added (layouts ++ l ∷ []) layouts → are_kept new_all new_standings new_layouts ≡ true
  kept-either true a b c = kept-pushed all new_all standings new_standings layouts new_layouts s k l tag kept a b c is_s is_k is_l
  kept-either false a b c = (λ j. are_kept (a j) (b j) (c j)) ∙ kept

  pub known-either : {A E : Type 0} (r : Result A E) → new_all ≡ cond (is_ok r) (all ++ s ∷ []) all → new_standings ≡ cond (is_ok r) (standings ++ k ∷ []) standings → new_layouts ≡ cond (is_ok r) (layouts ++ l ∷ []) layouts →
      OnOk r (known_structures (entries_of new_all new_standings new_layouts) ≡ known_structures (entries_of all standings layouts) ++ only_named tag ∷ [])
  known-either (Ok x) a b c = known-pushed all new_all standings new_standings layouts new_layouts s k l tag kept a b c is_s is_k is_l
  known-either (Err e) a b c = tt

pub copied_some : {A : Type 0} (o : Option (Bor A)) → is_some (option_copied o) ≡ is_some o
copied_some None = refl
copied_some (Some a) = refl

-- what is pushed and popped again
pub take-front : {X : Type 0} (xs ys : List X) → take (length xs) (xs ++ ys) ≡ xs
take-front [] ys = refl
take-front (x ∷ xs) ys = ap (λ r. x ∷ r) (take-front xs ys)

pub popped : {X : Type 0} (xs ys zs : List X) (x : X) → ys ≡ xs ++ x ∷ [] → zs ≡ take (length ys - 1) ys → zs ≡ xs
popped xs ys zs x h k =
    let n : length ys - 1 ≡ length xs = let e : length ys ≡ length xs + 1 = ap length h ∙ length-append xs (x ∷ []) in omega arith in
    k ∙ (ap (λ m. take m ys) n ∙ (ap (take (length xs)) h ∙ take-front xs (x ∷ [])))

-- ---- what is read

of_tag : (b : Bool) (x : Name) → (b || is_none x) ≡ true → name_or_none (some_if b x) ≡ x
of_tag true x h = refl
of_tag false [] h = refl
of_tag false (c ∷ x) h = absurd (true≢false (sym h))

of_members : (b : Bool) (ms : List Named) → (b || is_none ms) ≡ true → members_or_none (some_if b ms) ≡ ms
of_members true ms h = refl
of_members false [] h = refl
of_members false (m ∷ ms) h = absurd (true≢false (sym h))

as_before : (e : Entry) → is_kept e ≡ true → as_structure (known e) ≡ e.0
as_before e h =
    let b : ((e.1.0.tagged || is_none e.0.tag) ≡ true) × ((e.1.0.complete || is_none e.0.members) ≡ true) = both_true (e.1.0.tagged || is_none e.0.tag) (e.1.0.complete || is_none e.0.members) h in
    λ j. record { tag = of_tag e.1.0.tagged e.0.tag b.0 j; members = of_members e.1.0.complete e.0.members b.1 j }

structures_by : (all : List Structure) (standings : List Standing) (layouts : List Layout) → length all ≡ length standings → length all ≡ length layouts → list_all is_kept (entries_of all standings layouts) ≡ true
    → map as_structure (known_structures (entries_of all standings layouts)) ≡ all
structures_by [] standings layouts h k each = refl
structures_by (a ∷ all) [] layouts h k each = absurd (omega arith)
structures_by (a ∷ all) (b ∷ standings) [] h k each = absurd (omega arith)
structures_by (a ∷ all) (b ∷ standings) (c ∷ layouts) h k each =
    let t : (is_kept (a, (b, c)) ≡ true) × (list_all is_kept (entries_of all standings layouts) ≡ true) = both_true (is_kept (a, (b, c))) (list_all is_kept (entries_of all standings layouts)) each in
    let first : as_structure (known (a, (b, c))) ≡ a = as_before (a, (b, c)) t.0 in
    let rest : map as_structure (known_structures (entries_of all standings layouts)) ≡ all = structures_by all standings layouts (omega arith) (omega arith) t.1 in
    λ j. first j ∷ rest j

layouts_by : (all : List Structure) (standings : List Standing) (layouts : List Layout) → length all ≡ length standings → length all ≡ length layouts
    → map (λ k. k.layout) (known_structures (entries_of all standings layouts)) ≡ layouts
layouts_by [] standings [] h k = refl
layouts_by [] standings (c ∷ layouts) h k = absurd (omega arith)
layouts_by (a ∷ all) [] layouts h k = absurd (omega arith)
layouts_by (a ∷ all) (b ∷ standings) [] h k = absurd (omega arith)
layouts_by (a ∷ all) (b ∷ standings) (c ∷ layouts) h k = ap (λ r. c ∷ r) (layouts_by all standings layouts (omega arith) (omega arith))

content_by : (all : List Structure) (standings : List Standing) (layouts : List Layout) (i : ℕ) (k : Standing) → length all ≡ length standings → length all ≡ length layouts → slice_get standings i ≡ Some k
    → has_content (slice_get (known_structures (entries_of all standings layouts)) i) ≡ k.complete
content_by all [] layouts i k h l is = absurd (cc)
content_by [] (b ∷ standings) layouts i k h l is = absurd (omega arith)
content_by (a ∷ all) (b ∷ standings) [] i k h l is = absurd (omega arith)
content_by (a ∷ all) (b ∷ standings) (c ∷ layouts) zero k h l is = let e : b ≡ k = cc in is_there b.complete a.members ∙ ap (λ (x : Standing). x.complete) e
  where
    is_there : (x : Bool) (ms : List Named) → is_some (some_if x ms) ≡ x
    is_there true ms = refl
    is_there false ms = refl
content_by (a ∷ all) (b ∷ standings) (c ∷ layouts) (suc i) k h l is = content_by all standings layouts i k (omega arith) (omega arith) is

no_content_by : (all : List Structure) (standings : List Standing) (layouts : List Layout) (i : ℕ) → slice_get standings i ≡ None → has_content (slice_get (known_structures (entries_of all standings layouts)) i) ≡ false
no_content_by [] standings layouts i is = refl
no_content_by (a ∷ all) [] layouts i is = refl
no_content_by (a ∷ all) (b ∷ standings) [] i is = refl
no_content_by (a ∷ all) (b ∷ standings) (c ∷ layouts) zero is = absurd (cc)
no_content_by (a ∷ all) (b ∷ standings) (c ∷ layouts) (suc i) is = no_content_by all standings layouts i is

module _ (all : List Structure) (standings : List Standing) (layouts : List Layout) (kept : are_kept all standings layouts ≡ true) where
  pub known-structures : all ≡ map as_structure (known_structures (entries_of all standings layouts))
  known-structures = let h : AreKept all standings layouts = are_kept-says all standings layouts kept in sym (structures_by all standings layouts h.beside h.laid h.each)

  pub known-layouts : layouts ≡ map (λ k. k.layout) (known_structures (entries_of all standings layouts))
  known-layouts = let h : AreKept all standings layouts = are_kept-says all standings layouts kept in sym (layouts_by all standings layouts h.beside h.laid)

  pub known-content : (i : ℕ) (k : Standing) → slice_get standings i ≡ Some k → k.complete ≡ has_content (slice_get (known_structures (entries_of all standings layouts)) i)
  known-content i k is = let h : AreKept all standings layouts = are_kept-says all standings layouts kept in sym (content_by all standings layouts i k h.beside h.laid is)

  pub known-none : (i : ℕ) → slice_get standings i ≡ None → false ≡ has_content (slice_get (known_structures (entries_of all standings layouts)) i)
  known-none i is = sym (no_content_by all standings layouts i is)

-- ---- one that is changed

pub known-completed : (all : List Structure) (standings : List Standing) (layouts : List Layout) (i : ℕ) (s : Structure) (k : Standing) (ms : List Named) (l : Layout) → s ≡ get_or all i s → k ≡ get_or standings i k
    → known_structures (entries_of (set all i (record { tag = s.tag; members = ms })) (set standings i (record { tagged = k.tagged; alias = k.alias; complete = true })) (set layouts i l))
    ≡ change_at i (completed_with ms l) (known_structures (entries_of all standings layouts))
known-completed [] standings layouts i s k ms l h e = refl
known-completed (a ∷ all) [] layouts zero s k ms l h e = refl
known-completed (a ∷ all) [] layouts (suc i) s k ms l h e = refl
known-completed (a ∷ all) (b ∷ standings) [] zero s k ms l h e = refl
known-completed (a ∷ all) (b ∷ standings) [] (suc i) s k ms l h e = refl
known-completed (a ∷ all) (b ∷ standings) (c ∷ layouts) zero s k ms l h e =
    λ j. record { tag = some_if (e j).tagged (h j).tag; alias = (e j).alias; members = Some ms; layout = l } ∷ known_structures (entries_of all standings layouts)
known-completed (a ∷ all) (b ∷ standings) (c ∷ layouts) (suc i) s k ms l h e = ap (λ r. known (a, (b, c)) ∷ r) (known-completed all standings layouts i s k ms l h e)

each-completed : (all : List Structure) (standings : List Standing) (layouts : List Layout) (i : ℕ) (s : Structure) (k : Standing) (ms : List Named) (l : Layout) → s ≡ get_or all i s → k ≡ get_or standings i k
    → list_all is_kept (entries_of all standings layouts) ≡ true
    → list_all is_kept (entries_of (set all i (record { tag = s.tag; members = ms })) (set standings i (record { tagged = k.tagged; alias = k.alias; complete = true })) (set layouts i l)) ≡ true
each-completed [] standings layouts i s k ms l h e each = refl
each-completed (a ∷ all) [] layouts zero s k ms l h e each = refl
each-completed (a ∷ all) [] layouts (suc i) s k ms l h e each = refl
each-completed (a ∷ all) (b ∷ standings) [] zero s k ms l h e each = refl
each-completed (a ∷ all) (b ∷ standings) [] (suc i) s k ms l h e each = refl
each-completed (a ∷ all) (b ∷ standings) (c ∷ layouts) zero s k ms l h e each =
    let t : (is_kept (a, (b, c)) ≡ true) × (list_all is_kept (entries_of all standings layouts) ≡ true) = both_true (is_kept (a, (b, c))) (list_all is_kept (entries_of all standings layouts)) each in
    let tagged : (b.tagged || is_none a.tag) ≡ true = (both_true (b.tagged || is_none a.tag) (b.complete || is_none a.members) t.0).0 in
    let same : (k.tagged || is_none s.tag) ≡ true = (λ j. (e j).tagged || is_none (h j).tag) ∙ tagged in
    and_true ((k.tagged || is_none s.tag) && true) (list_all is_kept (entries_of all standings layouts)) (and_true (k.tagged || is_none s.tag) true same refl) t.1
each-completed (a ∷ all) (b ∷ standings) (c ∷ layouts) (suc i) s k ms l h e each =
    let t : (is_kept (a, (b, c)) ≡ true) × (list_all is_kept (entries_of all standings layouts) ≡ true) = both_true (is_kept (a, (b, c))) (list_all is_kept (entries_of all standings layouts)) each in
    and_true (is_kept (a, (b, c))) (list_all is_kept (entries_of (set all i (record { tag = s.tag; members = ms })) (set standings i (record { tagged = k.tagged; alias = k.alias; complete = true })) (set layouts i l))) t.0
    (each-completed all standings layouts i s k ms l h e t.1)

pub kept-completed : (all : List Structure) (standings : List Standing) (layouts : List Layout) (i : ℕ) (s : Structure) (k : Standing) (ms : List Named) (l : Layout) → s ≡ get_or all i s → k ≡ get_or standings i k
    → are_kept all standings layouts ≡ true → are_kept (set all i (record { tag = s.tag; members = ms })) (set standings i (record { tagged = k.tagged; alias = k.alias; complete = true })) (set layouts i l) ≡ true
kept-completed all standings layouts i s k ms l h e kept =
    let t : AreKept all standings layouts = are_kept-says all standings layouts kept in
    are_kept-from (set all i (record { tag = s.tag; members = ms })) (set standings i (record { tagged = k.tagged; alias = k.alias; complete = true })) (set layouts i l) (record {
      beside = length-set all i (record { tag = s.tag; members = ms }) ∙ (t.beside ∙ sym (length-set standings i (record { tagged = k.tagged; alias = k.alias; complete = true })));
      laid = length-set all i (record { tag = s.tag; members = ms }) ∙ (t.laid ∙ sym (length-set layouts i l));
      each = each-completed all standings layouts i s k ms l h e t.each;
    })

-- past the end nothing is changed
pub change_at-past : {X : Type 0} (i : ℕ) (f : X → X) (xs : List X) → length xs ≤ i → change_at i f xs ≡ xs
change_at-past i f [] h = refl
change_at-past zero f (x ∷ xs) h = absurd (omega arith)
change_at-past (suc i) f (x ∷ xs) h = ap (λ r. x ∷ r) (change_at-past i f xs (omega arith))

few : (all : List Structure) (standings : List Standing) (layouts : List Layout) → length (known_structures (entries_of all standings layouts)) ≤ length all
few [] standings layouts = omega arith
few (a ∷ all) [] layouts = omega arith
few (a ∷ all) (b ∷ standings) [] = omega arith
few (a ∷ all) (b ∷ standings) (c ∷ layouts) = let h : length (known_structures (entries_of all standings layouts)) ≤ length all = few all standings layouts in omega arith

pub known-past : (all : List Structure) (standings : List Standing) (layouts : List Layout) (i : ℕ) (f : KnownStructure → KnownStructure) → length all ≤ i
    → known_structures (entries_of all standings layouts) ≡ change_at i f (known_structures (entries_of all standings layouts))
known-past all standings layouts i f h = let k : length (known_structures (entries_of all standings layouts)) ≤ length all = few all standings layouts in sym (change_at-past i f (known_structures (entries_of all standings layouts)) (omega arith))

pub known-aliased : (all : List Structure) (standings : List Standing) (layouts : List Layout) (i : ℕ) (k : Standing) (x : Option Name) → k ≡ get_or standings i k
    → known_structures (entries_of all (set standings i (record { tagged = k.tagged; alias = x; complete = k.complete })) layouts) ≡ change_at i (with_alias x) (known_structures (entries_of all standings layouts))
known-aliased [] standings layouts i k x e = refl
known-aliased (a ∷ all) [] layouts i k x e = refl
known-aliased (a ∷ all) (b ∷ standings) [] zero k x e = refl
known-aliased (a ∷ all) (b ∷ standings) [] (suc i) k x e = refl
known-aliased (a ∷ all) (b ∷ standings) (c ∷ layouts) zero k x e =
    λ j. record { tag = some_if (e j).tagged a.tag; alias = x; members = some_if (e j).complete a.members; layout = c } ∷ known_structures (entries_of all standings layouts)
known-aliased (a ∷ all) (b ∷ standings) (c ∷ layouts) (suc i) k x e = ap (λ r. known (a, (b, c)) ∷ r) (known-aliased all standings layouts i k x e)

each-aliased : (all : List Structure) (standings : List Standing) (layouts : List Layout) (i : ℕ) (k : Standing) (x : Option Name) → k ≡ get_or standings i k
    → list_all is_kept (entries_of all (set standings i (record { tagged = k.tagged; alias = x; complete = k.complete })) layouts) ≡ list_all is_kept (entries_of all standings layouts)
each-aliased [] standings layouts i k x e = refl
each-aliased (a ∷ all) [] layouts i k x e = refl
each-aliased (a ∷ all) (b ∷ standings) [] zero k x e = refl
each-aliased (a ∷ all) (b ∷ standings) [] (suc i) k x e = refl
each-aliased (a ∷ all) (b ∷ standings) (c ∷ layouts) zero k x e = λ j. ((e j).tagged || is_none a.tag) && ((e j).complete || is_none a.members) && list_all is_kept (entries_of all standings layouts)
each-aliased (a ∷ all) (b ∷ standings) (c ∷ layouts) (suc i) k x e = ap (λ r. is_kept (a, (b, c)) && r) (each-aliased all standings layouts i k x e)

pub kept-aliased : (all : List Structure) (standings : List Standing) (layouts : List Layout) (i : ℕ) (k : Standing) (x : Option Name) → k ≡ get_or standings i k
    → are_kept all standings layouts ≡ true → are_kept all (set standings i (record { tagged = k.tagged; alias = x; complete = k.complete })) layouts ≡ true
kept-aliased all standings layouts i k x e kept =
    let t : AreKept all standings layouts = are_kept-says all standings layouts kept in
    are_kept-from all (set standings i (record { tagged = k.tagged; alias = x; complete = k.complete })) layouts (record {
      beside = t.beside ∙ sym (length-set standings i (record { tagged = k.tagged; alias = x; complete = k.complete }));
      laid = t.laid;
      each = each-aliased all standings layouts i k x e ∙ t.each;
    })

pub ruleset of_known = (known-added, kept-added, popped, known-structures, known-layouts, known-content, known-none, known-completed, kept-completed, known-past, known-aliased, kept-aliased)
