-- Facts that rise in one slot or at one point, and of which what is there then is such as a memory holds, stay such as a memory holds.
use Rattle.std.proofs.Common.{◌≡◌, ℕ, zero, suc, Bool, true, false, List, [], ◌∷◌, All, Some, None, slice_get, slice_set, refl, sym, subst, ◌∙◌}
use Rattle.std.specs.Prelude.{IfSome}
use Rattle.std.proofs.lemmas.List.Elements.{All-cons, All-head, All-tail}
use Rattle.cc_rules_asked.specs.CcPlaces.declared.abs.Abs.{Abs}
use Rattle.cc_rules_asked.specs.CcRulesNeeds.declared.needs.Part.{Part}
use Rattle.cc_rules_asked.specs.CcRulesNeeds.declared.needs.Part.TheVariants.{Mark, LevelSet, Flags, Values}
use Rattle.cc_rules_asked.specs.CcRulesNeeds.declared.needs.Slot.{Slot}
use Rattle.cc_rules_asked.specs.CcRulesNeeds.declared.needs.Slot.TheVariants.{Whole, HandlerReads, ReadLevels, Result}
use Rattle.cc_rules_asked.specs.CcRulesNeeds.Points.{IsRaisedAt}
use Rattle.cc_rules_asked.specs.CcRulesNeeds.Raised.{put, IsPut}
use Rattle.cc_rules_asked.specs.CcStateFacts.declared.facts.Facts.{Facts}
use Rattle.cc_rules_asked.specs.CcStateFacts.declared.facts.PointFact.{PointFact}
use Rattle.cc_state_limits.specs.Held.{IsHeldSet, IsHeldKnown, HaveLevels, AreHeld}

set_all : {A : Type 0} (P : A → Type 0) (xs : List A) (k : ℕ) (y : A) → All P xs → IfSome (slice_get (slice_set xs k y) k) P → All P (slice_set xs k y)
set_all P [] k y h s = h
set_all P (x ∷ xs) zero y h s = All-cons P y xs s (All-tail P x xs h)
set_all P (x ∷ xs) (suc k) y h s = All-cons P x (slice_set xs k y) (All-head P x xs h) (set_all P xs k y (All-tail P x xs h) s)

whole_number : (n k : ℕ) → Whole n ≡ Whole k → n ≡ k
whole_number n k e = cc

result_number : (n k : ℕ) → Result n ≡ Result k → n ≡ k
result_number n k e = cc

whole_result : (n k : ℕ) → Whole n ≡ Result k → ⊥
whole_result n k e = cc

module _ {I : Type 0} where
  -- the sets of a slot, where it is one of a key or a function
  pub record IsHeldAt (slot : Slot) (f : Facts I) : Type 0 where
    pub whole : (k : ℕ) → slot ≡ Whole k → IfSome (slice_get f.whole k) IsHeldSet
    pub results : (g : ℕ) → slot ≡ Result g → IfSome (slice_get f.results g) IsHeldSet
    pub levels : HaveLevels f

  pub held_whole : (slot : Slot) (f : Facts I) (n : ℕ) (sets : List (Abs I)) → slot ≡ Whole n → sets ≡ f.whole → IfSome (slice_get sets n) IsHeldSet → HaveLevels f → IsHeldAt slot f
  held_whole slot f n sets e same is l = record {
    whole = λ k q. subst (λ (i : ℕ). IfSome (slice_get f.whole i) IsHeldSet) (whole_number n k (sym e ∙ q)) (subst (λ (xs : List (Abs I)). IfSome (slice_get xs n) IsHeldSet) same is);
    results = λ g q. absurd (whole_result n g (sym e ∙ q));
    levels = l;
  }

  pub held_result : (slot : Slot) (f : Facts I) (n : ℕ) (sets : List (Abs I)) → slot ≡ Result n → sets ≡ f.results → IfSome (slice_get sets n) IsHeldSet → HaveLevels f → IsHeldAt slot f
  held_result slot f n sets e same is l = record {
    whole = λ k q. absurd (whole_result k n (sym q ∙ e));
    results = λ g q. subst (λ (i : ℕ). IfSome (slice_get f.results i) IsHeldSet) (result_number n g (sym e ∙ q)) (subst (λ (xs : List (Abs I)). IfSome (slice_get xs n) IsHeldSet) same is);
    levels = l;
  }

  put_held : (slot : Slot) (part : Part I) (f : Facts I) → AreHeld f → IsHeldAt slot (put slot part f) → AreHeld (put slot part f)
  put_held (Whole k) (Values (Some y)) f h is = record { whole = set_all IsHeldSet f.whole k y h.whole (is.whole k refl); results = h.results; levels = is.levels; at = h.at }
  put_held (Result k) (Values (Some y)) f h is = record { whole = h.whole; results = set_all IsHeldSet f.results k y h.results (is.results k refl); levels = is.levels; at = h.at }
  put_held _ (Values (Some y)) f h is = record { whole = h.whole; results = h.results; levels = is.levels; at = h.at }
  put_held _ (Values None) f h is = record { whole = h.whole; results = h.results; levels = is.levels; at = h.at }
  put_held (HandlerReads k) (Mark b) f h is = record { whole = h.whole; results = h.results; levels = is.levels; at = h.at }
  put_held _ (Mark b) f h is = record { whole = h.whole; results = h.results; levels = is.levels; at = h.at }
  put_held (ReadLevels k) (LevelSet x) f h is = record { whole = h.whole; results = h.results; levels = is.levels; at = h.at }
  put_held _ (LevelSet x) f h is = record { whole = h.whole; results = h.results; levels = is.levels; at = h.at }
  put_held _ (Flags off on) f h is = record { whole = h.whole; results = h.results; levels = is.levels; at = h.at }

  pub key_held : {A B : Type 0} (below : I → I → Type 0) (slot : Slot) (part : Part I) (f g : Facts I) (rose : Bool) → (rose ≡ true → A × IsPut below slot part f g) → (rose ≡ false → B × (g ≡ f)) → IsHeldAt slot g → AreHeld f → AreHeld g
  key_held below slot part f g true up stays is h =
      let made = (up refl).1 in
      subst AreHeld (sym made.is) (put_held slot made.part f h (subst (IsHeldAt slot) made.is is))
  key_held below slot part f g false up stays is h = subst AreHeld (sym (stays refl).1) h

  raised_held : (below : I → I → Type 0) (f : Facts I) (n : ℕ) (flow : PointFact I) (g : Facts I) → IsRaisedAt below f n flow g → IfSome (slice_get g.at n) IsHeldKnown → AreHeld f → AreHeld g
  raised_held below f n flow g raised is h =
      let at : IfSome (slice_get (slice_set f.at n (Some raised.both)) n) IsHeldKnown = subst (λ (x : Facts I). IfSome (slice_get x.at n) IsHeldKnown) raised.is is in
      let same = h.levels in
      subst AreHeld (sym raised.is) (record {
        whole = h.whole;
        results = h.results;
        levels = record { levels = same.levels; from = same.from; read_levels = same.read_levels; write_levels = same.write_levels };
        at = set_all IsHeldKnown f.at n (Some raised.both) h.at at;
      })

  pub point_held : {A B : Type 0} (below : I → I → Type 0) (f : Facts I) (n : ℕ) (flow : PointFact I) (g : Facts I) (rose : Bool) → (rose ≡ true → A × IsRaisedAt below f n flow g) → (rose ≡ false → B × (g ≡ f)) → IfSome (slice_get g.at n) IsHeldKnown → AreHeld f → AreHeld g
  point_held below f n flow g true up stays is h = raised_held below f n flow g (up refl).1 is h
  point_held below f n flow g false up stays is h = subst AreHeld (sym (stays refl).1) h
