-- Structures that braces closed over every view are as these left them.
use Rattle.std.proofs.Common.{◌≡◌, ◌∙◌, ◌⊎◌, inl, inr, ℕ, Bool, true, false, true≢false, ◌&&◌, ◌||◌, cond, List, [], ◌∷◌, ◌++◌, length, Option, Some, None, option_map, slice_get, refl, ap, sym, subst, append_assoc}
use Rattle.std.specs.Prelude.{nat_eq, nat_lt}
use Rattle.std.proofs.lemmas.Bool.{eq-eqb}
use Rattle.std.proofs.lemmas.Option.{slice_get-map}
use Rattle.cc_standing_units.proofs.Layouts.{layouts_stay}
use Rattle.cc_sound_terms.specs.Closings.{ClosedBy, Closings}
use Rattle.cc_program.specs.CcNum.declared.target.Target.{Target}
use Rattle.cc_standing_units.proofs.OwnViews.{first_ordered}
use Rattle.cc_standing_units.specs.Views.{has_content, view_of}
use Rattle.cc_program.specs.declared.types.CType.{CType}
use Rattle.cc_terms.specs.CcScopes.State.{KnownStructure, Name, State, as_structure, at_first, designated, members_or_none, structures_of, tagged}
use Rattle.cc_terms.specs.CcScopes.declared.designated.Designated.TheVariants as means
use Rattle.cc_terms.specs.CcScopes.declared.designated.Tagged.{Tagged}
use Rattle.cc_sound_terms.specs.Growing.{StructuresKept}
use Rattle.cc_sound_terms.specs.Knowing.{HasContent, KnowsStructures}
use Rattle.cc_sound_terms.specs.Ordered.{AreOrdered, HasMembers, IsOrdered, is_among}
use Rattle.cc_sound_terms.specs.Typing.{KnowsTypes}
use Rattle.cc_standing_units.specs.Closed.{AreClosed, AreOver, MembersOver, extents_over}
use Rattle.cc_terms.specs.CcSyntax.Layout.{structure}
use Rattle.cc_terms.specs.CcSyntax.Names.{local_names}
use Rattle.cc_terms.specs.CcSyntax.Types.{Named}
use Rattle.cc_terms.specs.CcSyntax.Views.{View}
use Rattle.cc_terms.specs.CcSyntax.declared.sizes.Layout.{Layout}
use Rattle.cc_program.specs.CcWords.Names.{are_distinct}

-- ---- a number that stands once splits a list once

split_same : (xs ys r q : List ℕ) (i : ℕ) → xs ++ i ∷ r ≡ ys ++ i ∷ q → is_among xs i ≡ false → is_among ys i ≡ false → xs ≡ ys
split_same [] [] r q i e h k = refl
split_same [] (y ∷ ys) r q i e h k = let s : i ≡ y = cc e in absurd (true≢false (sym (ap (λ (b : Bool). b || is_among ys i) (eq-eqb i y s)) ∙ k))
split_same (x ∷ xs) [] r q i e h k = let s : x ≡ i = cc e in absurd (true≢false (sym (ap (λ (b : Bool). b || is_among xs i) (eq-eqb i x (sym s))) ∙ h))
split_same (x ∷ xs) (y ∷ ys) r q i e h k =
    let s : x ≡ y = cc e in
    let t : xs ++ i ∷ r ≡ ys ++ i ∷ q = cc e in
    ap (λ (n : ℕ). n ∷ xs) s ∙ ap (λ (l : List ℕ). y ∷ l) (split_same xs ys r q i t (later (nat_eq i x) (is_among xs i) h) (later (nat_eq i y) (is_among ys i) k))
  where
    later : (a b : Bool) → a || b ≡ false → b ≡ false
    later true b h = absurd (true≢false h)
    later false b h = h

-- each is new where it stands
new_there : (all : List KnownStructure) (front rest more : List ℕ) (i : ℕ) → AreOrdered all front (rest ++ i ∷ more) → is_among (front ++ rest) i ≡ false
new_there all front [] more i h = ap (λ (l : List ℕ). is_among l i) (append_nothing front) ∙ h.0.new
  where
    append_nothing : (l : List ℕ) → l ++ [] ≡ l
    append_nothing [] = refl
    append_nothing (x ∷ l) = ap (λ (r : List ℕ). x ∷ r) (append_nothing l)
new_there all front (j ∷ rest) more i h = ap (λ (l : List ℕ). is_among l i) (sym (append_assoc front (j ∷ []) rest)) ∙ new_there all (front ++ j ∷ []) rest more i h.1

module _ (target : Target) (t : State) (ordered : IsOrdered t) (some : (i : ℕ) (ms : List Named) → HasMembers t.structures i ms → nat_lt 0 (length ms) ≡ true)
    (apart : (i : ℕ) (ms : List Named) → HasMembers t.structures i ms → are_distinct (local_names ms) ≡ true) (closings : (v : View) → v.target ≡ target → Closings v (Unit {0}) at_first t) where
  no_members : (i : ℕ) (ms : List Named) → HasMembers at_first.structures i ms → ⊥
  no_members i ms h = by h.0 h.1
    where
      by : (k : KnownStructure) → slice_get [] i ≡ Some k → ⊥
      by k e = absurd (cc e)

  closed_by : (v : View) → v.target ≡ target → (i : ℕ) (ms : List Named) → HasMembers t.structures i ms → ClosedBy v (Unit {0}) at_first t i ms
  closed_by v e i ms h = by (closings v e i ms h)
    where
      by : HasMembers at_first.structures i ms ⊎ ClosedBy v (Unit {0}) at_first t i ms → ClosedBy v (Unit {0}) at_first t i ms
      by (inl g) = absurd (no_members i ms g)
      by (inr c) = c

  -- ---- kinds over the structures in front

  abbrev front_view : List ℕ → View
  front_view front = record {
    target = target;
    structures = structures_of t;
    extents = extents_over target t front;
    statics = λ i. None;
    devices = λ i. None;
    functions = λ i. None;
  }

  module _ (front : List ℕ) (before : State) (kept : StructuresKept before.structures t.structures) (order : IsOrdered before) (same : before.completed ≡ front) where
    extent_is : (j : ℕ) (l : KnownStructure) → slice_get t.structures j ≡ Some l → extents_over target t front j ≡ Some (cond (is_among front j && has_content l) (Some l.layout.size) None)
    extent_is j l e = ap (option_map (λ (k : KnownStructure). cond (is_among front j && has_content k) (Some k.layout.size) None)) e

    content_there : (j : ℕ) (k : KnownStructure) (ms : List Named) → slice_get before.structures j ≡ Some k → k.members ≡ Some ms → nat_lt 0 (length ms) ≡ true → HasContent (front_view front) j k ms
    content_there j k ms e n has_some =
        let l = kept j k e in
        let members : l.0.members ≡ Some ms = l.2.members ms n in
        let layout : l.0.layout ≡ k.layout = l.2.layout ms n in
        let among : is_among front j ≡ true = sym (ap (λ (r : List ℕ). is_among r j) same) ∙ order.listed j ms (k, e, n) in
        let has : has_content l.0 ≡ true = ap (λ (o : Option (List Named)). nat_lt 0 (length (members_or_none o))) members ∙ has_some in
        record {
          bytes =
              extent_is j l.0 l.1
              ∙ (ap (λ (b : Bool). Some (cond (b && has_content l.0) (Some l.0.layout.size) None)) among
              ∙ (ap (λ (b : Bool). Some (cond b (Some l.0.layout.size) None)) has ∙ ap (λ (y : Layout). Some (Some y.size)) layout));
          content = as_structure l.0;
          at = slice_get-map as_structure t.structures j ∙ ap (option_map as_structure) l.1;
          members = ap members_or_none members;
        }

    knows : KnowsStructures (front_view front) before.structures
    knows j k e =
        let l = kept j k e in
        record { extent = cond (is_among front j && has_content l.0) (Some l.0.layout.size) None; there = extent_is j l.0 l.1; complete = λ ms n has_some. content_there j k ms e n has_some }

    types_known : KnowsTypes (front_view front) at_first before
    types_known = record { structures = knows; types = λ x u h. absurd (nothing_named x u h); tags = λ x u h i e. absurd (nothing_tagged x u h) }
      where
        nothing_named : (x : Name) (u : CType) → designated x at_first.scopes ≡ Some (means.TypeNamed u) → ⊥
        nothing_named x u h = absurd (cc h)

        nothing_tagged : (x : Name) (u : Tagged) → tagged x at_first.scopes ≡ Some u → ⊥
        nothing_tagged x u h = absurd (cc h)

  over_at : (front rest : List ℕ) (i : ℕ) → t.completed ≡ front ++ i ∷ rest → MembersOver target t front i
  over_at front rest i e ms h =
      let c = closed_by (front_view front) refl i ms h in
      let new : is_among front i ≡ false = new_there t.structures [] front rest i (subst (AreOrdered t.structures []) e ordered.order) in
      let other : is_among c.before.completed i ≡ false = new_there t.structures [] c.before.completed c.more i (subst (AreOrdered t.structures []) c.order ordered.order) in
      let same : c.before.completed ≡ front = split_same c.before.completed front c.more rest i (sym c.order ∙ e) other new in
      c.known tt (types_known front c.before c.kept (c.ordered first_ordered) same)

  over_from : (front rest : List ℕ) → t.completed ≡ front ++ rest → AreOver target t front rest
  over_from front [] e = tt
  over_from front (i ∷ rest) e = (over_at front rest i e, over_from (front ++ i ∷ []) rest (e ∙ sym (append_assoc front (i ∷ []) rest)))

  -- ---- all

  laid_at : (i : ℕ) (k : KnownStructure) (ms : List Named) → slice_get t.structures i ≡ Some k → k.members ≡ Some ms → ClosedBy (view_of target t) (Unit {0}) at_first t i ms
  laid_at i k ms e n = closed_by (view_of target t) refl i ms (k, e, n)

  pub are_closed : AreClosed target t
  are_closed = record {
    some = some;
    apart = apart;
    laid = λ i k ms e n. (laid_at i k ms e n).laid k e ∙ ap structure (layouts_stay target (laid_at i k ms e n).before t (laid_at i k ms e n).kept ms (laid_at i k ms e n).complete);
    over = over_from [] t.completed refl;
  }
