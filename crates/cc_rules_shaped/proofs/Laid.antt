-- A point whose sets and pairs are laid out as its function has them is of its shape where what is needed of it fits.
use Rattle.std.proofs.Common.{arith, ◌≡◌, ◌⊎◌, inl, inr, ℕ, zero, suc, ◌+◌, ◌≤◌, ◌<◌, [], ◌∷◌, ◌++◌, map, length, Option, Some, slice_get, ap, sym, ◌∙◌, subst}
use Rattle.std.specs.List.{flat_map}
use Rattle.std.proofs.lemmas.Option.{same_Some}
use Rattle.cc_rules_grow.specs.CcFlow.declared.types.Point.{Point}
use Rattle.cc_rules_grow.specs.CcPlaces.declared.abs.Abs.{Abs}
use Rattle.cc_program.specs.declared.func.Func.{Func}
use Rattle.cc_program.specs.declared.program.Program.{Program}
use Rattle.cc_rules_grow.specs.CcRulesFlows.Nexts.{IsPoint}
use Rattle.cc_rules_grow.proofs.Elements.{Each, each_split, some_within}
use Rattle.cc_rules_grow.specs.CcRulesNeeds.declared.needs.Part.{Part}
use Rattle.cc_rules_grow.specs.CcRulesNeeds.declared.needs.Slot.{Slot}
use Rattle.cc_rules_grow.specs.CcRulesNeeds.Flowing.{of_fact, numbers, each_pair, need_apart, need_local, need_cell, needs_at}
use Rattle.cc_rules_grow.specs.CcRulesNeeds.Needs.{Needs, Has}
use Rattle.cc_rules_shaped.proofs.Fit.{Known}
use Rattle.cc_rules_shaped.specs.Shaped.{AreSomeIn, IsPointIn, Fits, AreFitBehind, AreFit, IsLaidOut}
use Rattle.cc_rules_grow.specs.CcState.Shape.{IsSetIn, IsRegisterType, IsPointFact}
use Rattle.cc_rules_grow.specs.CcStateFacts.declared.facts.PointFact.{PointFact}
use Rattle.cc_rules_grow.specs.CcStateFacts.Facts.{cell_of, local_of}
use Rattle.cc_rules_grow.specs.CcStateKeys.Tracked.{registers, tracked}
use Rattle.cc_rules_grow.specs.CcStateOperators.Domains.{Domain}
use Rattle.cc_rules_grow.specs.CcSyntax.Values.{ValueType}

first_or_later : (k i : ℕ) → k ≤ i → (k ≡ i) ⊎ (suc k ≤ i)
first_or_later k i l = grind (arith, l)

number_in : {A : Type 0} (P : A → Type 0) (make : ℕ → A) (k n : ℕ) → Each P (map make (numbers k n)) → (i : ℕ) → k ≤ i → i < k + n → P (make i)
number_in P make k zero h i low high = absurd (omega (arith, low, high))
number_in P make k (suc n) h i low high = elim (first_or_later k i low) [ inl e ↦ subst (λ (j : ℕ). P (make j)) e h.0 | inr l ↦ number_in P make (suc k) n h.1 i l (omega (arith, high)) ]

module _ {I : Type 0} (d : Domain I) (p : Program) where
  fit_all : (known : Known d p) (ns : Needs I) → AreFitBehind d p known ns → Each (λ (need : Slot × Part I). Fits d p need.0 need.1) ns
  fit_all known [] h = tt
  fit_all known (need ∷ ns) h = (h.0, fit_all (λ f. known f × Has d.below f need) ns h.2)

  one_function : (n id : ℕ) (f : Func) (point : Point) (g : Func) → IsPoint p n id f point → IsPointIn d p n g → g ≡ f
  one_function n id f point g h (id', point', l) =
      let one : point' ≡ point = same_Some point' point (sym l.numbered ∙ h.numbered) in
      let number : id' ≡ id = sym l.own ∙ (ap (λ (x : Point). x.func) one ∙ h.own) in
      same_Some g f (sym l.function ∙ (ap (slice_get p.funcs) number ∙ h.function))

  some_is_in : (t : ValueType) (y : Abs I) (o : Option (Abs I)) → o ≡ Some y → AreSomeIn d p t o → IsSetIn p d t y
  some_is_in t y o e h = subst (λ (x : Option (Abs I)). AreSomeIn d p t x) e h

  pub point_shaped : (n id : ℕ) (f : Func) (point : Point) (fact : PointFact I) → IsPoint p n id f point → IsLaidOut d p f fact → AreFit d p (needs_at n (length (registers f)) (length (tracked p)) (of_fact fact)) → IsPointFact d p f fact
  point_shaped n id f point fact is_point laid fit =
      let P : Slot × Part I → Type 0 = λ (need : Slot × Part I). Fits d p need.0 need.1 in
      let all = fit_all (λ q. Unit {0}) (needs_at n (length (registers f)) (length (tracked p)) (of_fact fact)) fit in
      let of_locals = each_split P (map (need_local n (of_fact fact)) (numbers 0 (length (registers f)))) (map (need_cell n (of_fact fact)) (numbers 0 (length (tracked p))) ++ flat_map (need_apart n (of_fact fact).pair) (each_pair (length (registers f)) (length (tracked p)))) all.1 in
      let of_cells = each_split P (map (need_cell n (of_fact fact)) (numbers 0 (length (tracked p)))) (flat_map (need_apart n (of_fact fact).pair) (each_pair (length (registers f)) (length (tracked p)))) of_locals.1 in
      record {
        flag = all.0.1;
        local_count = laid.local_count;
        locals = record {
          there = λ r l.
              (let (g, t, there, is, some) = number_in P (need_local n (of_fact fact)) 0 (length (registers f)) of_locals.0 r (omega arith) (omega (arith, l)) in
              let (y, at) = some_within fact.locals r (subst (λ (c : ℕ). r < c) (sym laid.local_count) l) in
              (t, y, (subst (λ (x : Func). IsRegisterType d p x r t) (one_function n id f point g is_point there) is, at, some_is_in t y (local_of fact r) at some)));
        };
        rows = laid.rows;
        cells = record {
          there = λ j l.
              (let (t, within, is, some) = number_in P (need_cell n (of_fact fact)) 0 (length (tracked p)) of_cells.0 j (omega arith) (omega (arith, l)) in
              let (y, at) = laid.cells j l in
              (t, y, (is, at, some_is_in t y (cell_of fact j) at some)));
        };
        pairs_in_range = laid.pairs_in_range;
        pairs_ascend = laid.pairs_ascend;
      }
