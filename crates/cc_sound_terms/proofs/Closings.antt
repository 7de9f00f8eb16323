-- What is known of closing braces goes on behind each construct.
use Rattle.std.proofs.Common.{◌≡◌, ◌∙◌, ◌⊎◌, inl, inr, ℕ, false, true≢false, List, [], ◌∷◌, ◌++◌, Option, Some, is_some, slice_get, refl, ap, sym, subst, append_assoc}
use Rattle.cc_sound_terms.specs.Closings.{ClosedBy, Closings}
use Rattle.cc_terms.specs.CcScopes.State.{KnownStructure, State, empty, entered, left}
use Rattle.cc_terms.specs.CcScopes.Structures.{completed, has_content, with_members}
use Rattle.cc_sound_terms.proofs.Growth.{changed_or_not, changed_place, changed_there, knows_structures, structures_changed, structures_through}
use Rattle.cc_sound_terms.specs.Knowing.{TagsStand, TypesStand}
use Rattle.cc_sound_terms.specs.Growing.{StructuresKept}
use Rattle.cc_sound_terms.specs.Ordered.{AreComplete, HasMembers, IsOrdered}
use Rattle.cc_sound_terms.specs.Standing.{MembersKnown}
use Rattle.cc_sound_terms.specs.Typing.{KnowsTypes}
use Rattle.cc_terms.specs.CcSyntax.Types.{Named}
use Rattle.cc_terms.specs.CcSyntax.Views.{View}

same_structure : (a b : KnownStructure) → Some a ≡ Some b → a ≡ b
same_structure a b e = cc e

same_members : (a b : List Named) → Some a ≡ Some b → a ≡ b
same_members a b e = cc e

pub closings_itself : (v : View) (P : Type 0) (s t : State) → t.structures ≡ s.structures → Closings v P s t
closings_itself v P s t e i ms h = inl (subst (λ (all : List KnownStructure). HasMembers all i ms) e h)

-- over a state of the same structures, where what stands in front stands there too; behind it there are the same structures, in the same order
pub closings_inside : (v : View) (P : Type 0) (s inner t u : State) → inner.structures ≡ s.structures → u.structures ≡ t.structures → u.completed ≡ t.completed → (IsOrdered s → IsOrdered inner) →
    ((b : State) → StructuresKept s.structures b.structures → P → KnowsTypes v s b → KnowsTypes v inner b) → Closings v P inner t → Closings v P s u
closings_inside v P s inner t u in_front e o ordered known f i ms h = by (f i ms (subst (λ (all : List KnownStructure). HasMembers all i ms) e h))
  where
    closed : ClosedBy v P inner t i ms → ClosedBy v P s u i ms
    closed c =
        let first = subst (λ (all : List KnownStructure). StructuresKept all c.before.structures) in_front c.first in
        record {
          before = c.before;
          more = c.more;
          order = o ∙ c.order;
          first = first;
          kept = subst (λ (all : List KnownStructure). StructuresKept c.before.structures all) (sym e) c.kept;
          ordered = λ h. c.ordered (ordered h);
          complete = c.complete;
          laid = λ k g. c.laid k (ap (λ (all : List KnownStructure). slice_get all i) (sym e) ∙ g);
          known = λ p k. c.known p (known c.before first p k);
        }

    by : HasMembers inner.structures i ms ⊎ ClosedBy v P inner t i ms → HasMembers s.structures i ms ⊎ ClosedBy v P s u i ms
    by (inl g) = inl (subst (λ (all : List KnownStructure). HasMembers all i ms) in_front g)
    by (inr c) = inr (closed c)

pub closings_alike : (v : View) (P : Type 0) (s t u : State) → u.structures ≡ t.structures → u.completed ≡ t.completed → Closings v P s t → Closings v P s u
closings_alike v P s t u e o f = closings_inside v P s s t u refl e o (λ h. h) (λ b kept p k. k) f

-- what follows of what is known in front need not be given
pub closings_given : (v : View) (Q P : Type 0) (s t : State) → (P → KnowsTypes v s s → Q) → Closings v Q s t → Closings v P s t
closings_given v Q P s t q f i ms h = by (f i ms h)
  where
    by : HasMembers s.structures i ms ⊎ ClosedBy v Q s t i ms → HasMembers s.structures i ms ⊎ ClosedBy v P s t i ms
    by (inl g) = inl g
    by (inr c) = inr (record {
      before = c.before;
      more = c.more;
      order = c.order;
      first = c.first;
      kept = c.kept;
      ordered = c.ordered;
      complete = c.complete;
      laid = c.laid;
      known = λ p k. c.known (q p (record { structures = knows_structures v s.structures c.before.structures c.first k.structures; types = k.types; tags = k.tags })) k;
    })

-- in a scope of their own
pub closings_entered : (v : View) (P : Type 0) (s t : State) → Closings v P (entered empty s) t → Closings v P s (left t)
closings_entered v P s t f =
    closings_inside v P s (entered empty s) t (left t) refl refl refl (λ h. record { listed = h.listed; order = h.order; tags = h.tags }) (λ b kept p k. record { structures = k.structures; types = k.types; tags = k.tags }) f

-- what was closed before stays closed
later : (v : View) (P : Type 0) (s t u : State) → StructuresKept t.structures u.structures → (more : List ℕ) → u.completed ≡ t.completed ++ more → (i : ℕ) (ms : List Named) → HasMembers t.structures i ms → ClosedBy v P s t i ms → ClosedBy v P s u i ms
later v P s t u b more e i ms h c = record {
  before = c.before;
  more = c.more ++ more;
  order = e ∙ (ap (λ (l : List ℕ). l ++ more) c.order ∙ append_assoc c.before.completed (i ∷ c.more) more);
  first = c.first;
  kept = structures_through c.before.structures t.structures u.structures c.kept b;
  ordered = c.ordered;
  complete = c.complete;
  laid = λ k f.
      let l = b i h.0 h.1 in
      ap (λ (x : KnownStructure). x.layout) (same_structure k l.0 (sym f ∙ l.1)) ∙ (l.2.layout ms h.2 ∙ c.laid h.0 h.1);
  known = c.known;
}

-- what a later construct closed was closed behind the first
behind_first : (v : View) (P Q : Type 0) (s t u : State) → StructuresKept s.structures t.structures → (IsOrdered s → IsOrdered t) → (P → KnowsTypes v s t → TypesStand v t × TagsStand v t) → (P → KnowsTypes v s t → Q) → (i : ℕ) (ms : List Named) → ClosedBy v Q t u i ms → ClosedBy v P s u i ms
behind_first v P Q s t u a o k q i ms c = record {
  before = c.before;
  more = c.more;
  order = c.order;
  first = structures_through s.structures t.structures c.before.structures a c.first;
  kept = c.kept;
  ordered = λ h. c.ordered (o h);
  complete = c.complete;
  laid = c.laid;
  known = λ p h.
      let there : KnowsTypes v s t = record { structures = knows_structures v t.structures c.before.structures c.first h.structures; types = h.types; tags = h.tags } in
      let b = k p there in
      c.known (q p there) (record { structures = h.structures; types = b.0; tags = b.1 });
}

pub closings_through : (v : View) (P Q : Type 0) (s t u : State) → StructuresKept s.structures t.structures → StructuresKept t.structures u.structures → (more : List ℕ) → u.completed ≡ t.completed ++ more → (IsOrdered s → IsOrdered t) → (P → KnowsTypes v s t → TypesStand v t × TagsStand v t) → (P → KnowsTypes v s t → Q) →
    Closings v P s t → Closings v Q t u → Closings v P s u
closings_through v P Q s t u a b more e o k q f g i ms h = by (g i ms h)
  where
    first : HasMembers t.structures i ms → HasMembers s.structures i ms ⊎ ClosedBy v P s t i ms → HasMembers s.structures i ms ⊎ ClosedBy v P s u i ms
    first there (inl x) = inl x
    first there (inr c) = inr (later v P s t u b more e i ms there c)

    by : HasMembers t.structures i ms ⊎ ClosedBy v Q t u i ms → HasMembers s.structures i ms ⊎ ClosedBy v P s u i ms
    by (inl there) = first there (f i ms there)
    by (inr c) = inr (behind_first v P Q s t u a o k q i ms c)

-- ---- a closing brace

module _ (v : View) (P : Type 0) (s t : State) (i : ℕ) (ms : List Named) (a : StructuresKept s.structures t.structures) (o : IsOrdered s → IsOrdered t) (new : has_content (slice_get t.structures i) ≡ false)
    (complete : AreComplete ms t) (known : P → KnowsTypes v s t → MembersKnown v ms) where
  abbrev u : State
  u = completed v.target i ms t

  no_content : (x : KnownStructure) (ns : List Named) → slice_get t.structures i ≡ Some x → x.members ≡ Some ns → ⊥
  no_content x ns f n = true≢false (sym (ap has_content f ∙ ap (λ (q : Option (List Named)). is_some q) n) ∙ new)

  stays : StructuresKept t.structures u.structures
  stays = structures_changed t.structures i (with_members v.target ms t) (λ x f. record { members = λ ns n. absurd (no_content x ns f n); layout = λ ns n. absurd (no_content x ns f n) })

  closed_here : (k : KnownStructure) → slice_get t.structures i ≡ Some k → ClosedBy v P s u i ms
  closed_here k e = record {
    before = t;
    more = [];
    order = refl;
    first = a;
    kept = stays;
    ordered = o;
    complete = complete;
    laid = λ x f. ap (λ (y : KnownStructure). y.layout) (same_structure x (with_members v.target ms t k) (sym f ∙ changed_there t.structures i (with_members v.target ms t) k e));
    known = known;
  }

  pub brace_closes : Closings v P s t → Closings v P s u
  brace_closes f j ns h = by (changed_place t.structures i (with_members v.target ms t) j h.0 h.1)
    where
      front : HasMembers t.structures j ns → HasMembers s.structures j ns ⊎ ClosedBy v P s t j ns → HasMembers s.structures j ns ⊎ ClosedBy v P s u j ns
      front there (inl x) = inl x
      front there (inr c) = inr (later v P s t u stays (i ∷ []) refl j ns there c)

      changed : (x : KnownStructure) → x.members ≡ Some ns → (slice_get t.structures i ≡ Some x) ⊎ ((k : KnownStructure) × (slice_get t.structures i ≡ Some k) × (x ≡ with_members v.target ms t k)) → ClosedBy v P s u i ns
      changed x n (inl g) = absurd (no_content x ns g n)
      changed x n (inr c) =
          let same : ms ≡ ns = same_members ms ns (sym (ap (λ (y : KnownStructure). y.members) c.2) ∙ n) in
          subst (λ (l : List Named). ClosedBy v P s u i l) same (closed_here c.0 c.1)

      here : (n : ℕ) → n ≡ i → HasMembers u.structures n ns → ClosedBy v P s u n ns
      here n q g =
          let at = subst (λ (m : ℕ). HasMembers u.structures m ns) q g in
          subst (λ (m : ℕ). ClosedBy v P s u m ns) (sym q) (changed at.0 at.2 (changed_or_not t.structures i (with_members v.target ms t) i at.0 at.1))

      by : (slice_get t.structures j ≡ Some h.0) ⊎ (j ≡ i) → HasMembers s.structures j ns ⊎ ClosedBy v P s u j ns
      by (inl g) = front (h.0, g, h.2) (f j ns (h.0, g, h.2))
      by (inr q) = inr (here j q h)
