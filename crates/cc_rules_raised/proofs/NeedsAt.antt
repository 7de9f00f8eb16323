-- The needs at a point are those of its flag, its registers, its cells and its pairs: what holds of each of these holds of all, and the other way round.
use Rattle.std.proofs.Common.{arith, ◌≡◌, ◌⊎◌, inl, inr, ℕ, zero, suc, ◌+◌, ◌<◌, ◌≤◌, Bool, true, false, true≢false, List, [], ◌∷◌, ◌++◌, map, All, refl, subst}
use Rattle.std.specs.Prelude.{if◌then◌else◌}
use Rattle.std.specs.List.{Contains, flat_map}
use Rattle.cc_rules_grow.proofs.Elements.{Each, each_all, all_each, each_append, each_split, each_map}
use Rattle.cc_rules_asked.specs.CcRulesNeeds.Flowing.{Flowing, numbers, each_pair, need_apart, need_local, need_cell, needs_at}
use Rattle.cc_rules_asked.specs.CcRulesNeeds.declared.needs.Part.{Part}
use Rattle.cc_rules_asked.specs.CcRulesNeeds.declared.needs.Part.TheVariants.{Mark, Flags}
use Rattle.cc_rules_asked.specs.CcRulesNeeds.declared.needs.Slot.{Slot}
use Rattle.cc_rules_asked.specs.CcRulesNeeds.declared.needs.Slot.TheVariants.{Flag, Apart}
use Rattle.cc_rules_asked.specs.CcRulesNeeds.Needs.{Needs}
use Rattle.cc_rules_shaped.proofs.Fit.{each_flat_of, number_below, pair_below}

first_or_later : (k i : ℕ) → k ≤ i → (k ≡ i) ⊎ (suc k ≤ i)
first_or_later k i l = grind (arith, l)

number_in : (Q : ℕ → Type 0) (k n : ℕ) → Each Q (numbers k n) → (i : ℕ) → k ≤ i → i < k + n → Q i
number_in Q k zero h i low high = absurd (omega (arith, low, high))
number_in Q k (suc n) h i low high = elim (first_or_later k i low) [ inl e ↦ subst Q e h.0 | inr l ↦ number_in Q (suc k) n h.1 i l (omega (arith, high)) ]

map_parts : {A B : Type 0} (P : B → Type 0) (f : A → B) (xs : List A) → Each P (map f xs) → Each (λ x. P (f x)) xs
map_parts P f [] h = tt
map_parts P f (x ∷ xs) h = (h.0, map_parts P f xs h.1)

flat_parts : {A B : Type 0} (P : B → Type 0) (f : A → List B) (xs : List A) → Each P (flat_map f xs) → Each (λ x. Each P (f x)) xs
flat_parts P f [] h = tt
flat_parts P f (x ∷ xs) h = let t = each_split P (f x) (flat_map f xs) h in (t.0, flat_parts P f xs t.1)

pair_in : (Q : ℕ × ℕ → Type 0) (registers cells : ℕ) → Each Q (each_pair registers cells) → (r j : ℕ) → r < registers → j < cells → Q (r, j)
pair_in Q registers cells h r j lr lj =
    let rows : Each (λ r. Each Q (map (λ j. (r, j)) (numbers 0 cells))) (numbers 0 registers) = flat_parts Q (λ r. map (λ j. (r, j)) (numbers 0 cells)) (numbers 0 registers) h in
    let row : Each Q (map (λ j. (r, j)) (numbers 0 cells)) = number_in (λ r. Each Q (map (λ j. (r, j)) (numbers 0 cells))) 0 registers rows r (omega arith) (omega (arith, lr)) in
    number_in (λ j. Q (r, j)) 0 cells (map_parts Q (λ j. (r, j)) (numbers 0 cells) row) j (omega arith) (omega (arith, lj))

module _ {I : Type 0} (P : Slot × Part I → Type 0) (k registers cells : ℕ) (flow : Flowing I) where
  abbrev of_locals : Needs I
  of_locals = map (need_local k flow) (numbers 0 registers)

  abbrev of_cells : Needs I
  of_cells = map (need_cell k flow) (numbers 0 cells)

  abbrev of_pairs : Needs I
  of_pairs = flat_map (need_apart k flow.pair) (each_pair registers cells)

  apart_each : (q : ℕ × ℕ) (b : Bool) → (b ≡ false → P (Apart k q.0 q.1, Mark true)) → Each P (if b then [] else (Apart k q.0 q.1, Mark true) ∷ [])
  apart_each q true h = tt
  apart_each q false h = (h refl, tt)

  each_apart : (q : ℕ × ℕ) (b : Bool) → Each P (if b then [] else (Apart k q.0 q.1, Mark true) ∷ []) → b ≡ false → P (Apart k q.0 q.1, Mark true)
  each_apart q true h e = absurd (true≢false e)
  each_apart q false h e = h.0

  pub record AreParts : Type 0 where
    pub flag : P (Flag k, Flags flow.off flow.on)
    pub local : (r : ℕ) → r < registers → P (need_local k flow r)
    pub cell : (j : ℕ) → j < cells → P (need_cell k flow j)
    pub apart : (r j : ℕ) → r < registers → j < cells → flow.pair r j ≡ false → P (Apart k r j, Mark true)

  below_zero : (n i : ℕ) → Contains (numbers 0 n) i → i < n
  below_zero n i c = let l = number_below 0 n i c in omega (arith, l)

  pub all_of : AreParts → All P (needs_at k registers cells flow)
  all_of h = all_each P (needs_at k registers cells flow) (
    h.flag,
    each_append P of_locals (of_cells ++ of_pairs) (each_map P (need_local k flow) (numbers 0 registers) (λ r c. h.local r (below_zero registers r c)))
        (each_append P of_cells of_pairs (each_map P (need_cell k flow) (numbers 0 cells) (λ j c. h.cell j (below_zero cells j c)))
        (each_flat_of P (need_apart k flow.pair) (each_pair registers cells) (λ q c. let b = pair_below registers cells q c in apart_each q (flow.pair q.0 q.1) (λ e. h.apart q.0 q.1 b.0 b.1 e)))),
  )

  pub parts_of : All P (needs_at k registers cells flow) → AreParts
  parts_of all =
      let h : Each P (needs_at k registers cells flow) = each_all P (needs_at k registers cells flow) all in
      let s = each_split P of_locals (of_cells ++ of_pairs) h.1 in
      let t = each_split P of_cells of_pairs s.1 in
      record {
        flag = h.0;
        local = λ r l. number_in (λ r. P (need_local k flow r)) 0 registers (map_parts P (need_local k flow) (numbers 0 registers) s.0) r (omega arith) (omega (arith, l));
        cell = λ j l. number_in (λ j. P (need_cell k flow j)) 0 cells (map_parts P (need_cell k flow) (numbers 0 cells) t.0) j (omega arith) (omega (arith, l));
        apart = λ r j lr lj e. each_apart (r, j) (flow.pair r j) (pair_in (λ q. Each P (need_apart k flow.pair q)) registers cells (flat_parts P (need_apart k flow.pair) (each_pair registers cells) t.1) r j lr lj) e;
      }
