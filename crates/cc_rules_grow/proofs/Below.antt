-- What is known at a point, and what flows, that is below what is known and flows in greater facts; and what is needed of it.
use Rattle.std.proofs.Common.{arith, ◌≡◌, ℕ, ◌<◌, Bool, true, false, true≢false, not, ◌&&◌, ◌||◌, [], ◌∷◌, ◌++◌, map, Option, Some, None, refl, sym, subst, ◌∙◌}
use Rattle.std.specs.Prelude.{◌==◌, if◌then◌else◌}
use Rattle.std.specs.List.{flat_map}
use Rattle.cc_rules.specs.CcPlaces.Abstract.{IsBelowAbs}
use Rattle.cc_rules.specs.CcPlaces.declared.abs.Abs.{Abs}
use Rattle.cc_rules_grow.proofs.Elements.{Each, each_append, each_split, each_number, each_flat}
use Rattle.cc_rules_grow.proofs.Kept.{IsKept, abs_itself, abs_through}
use Rattle.cc_rules.proofs.CcRulesNeeds.Through.{part_through}
use Rattle.cc_rules.specs.CcRulesNeeds.Flowing.{Flowing, of_fact, with_local, with_pair, with_cell, with_flags, numbers, each_pair, need_apart, need_local, need_cell, needs_at}
use Rattle.cc_rules.specs.CcRulesNeeds.declared.needs.Part.{Part}
use Rattle.cc_rules.specs.CcRulesNeeds.declared.needs.Part.TheVariants.{Mark, Flags, Values}
use Rattle.cc_rules.specs.CcRulesNeeds.declared.needs.Slot.{Slot}
use Rattle.cc_rules.specs.CcRulesNeeds.declared.needs.Slot.TheVariants.{Flag, Apart}
use Rattle.cc_rules.specs.CcRulesNeeds.Needs.{Needs, get, AreValuesBelow, IsBelowPart, Has}
use Rattle.cc_rules.specs.CcStateFacts.declared.facts.Facts.{Facts}
use Rattle.cc_rules.specs.CcStateFacts.declared.facts.PointFact.{PointFact}
use Rattle.cc_rules.specs.CcStateFacts.Facts.{cell_of, local_of, has_pair}
use Rattle.cc_rules.specs.CcStateOperators.Domains.{Domain}

module _ {I : Type 0} (d : Domain I) where
  -- sets that are both there
  abbrev pub AreSomeBelow : Option (Abs I) → Option (Abs I) → Type 0
  AreSomeBelow x y = (a : Abs I) × (b : Abs I) × (x ≡ Some a) × (y ≡ Some b) × IsBelowAbs d.below a b

  -- with so many registers and tracked cells
  pub record IsFactBelow (registers cells : ℕ) (x y : PointFact I) : Type 0 where
    pub off : x.off ≡ true → y.off ≡ true
    pub on : x.on ≡ true → y.on ≡ true
    pub locals : (r : ℕ) → r < registers → AreSomeBelow (local_of x r) (local_of y r)
    pub cells_below : (j : ℕ) → j < cells → AreSomeBelow (cell_of x j) (cell_of y j)
    pub pairs : (r j : ℕ) → has_pair y r j ≡ true → has_pair x r j ≡ true

  pub record IsFlowBelow (registers cells : ℕ) (x y : Flowing I) : Type 0 where
    pub off : x.off ≡ true → y.off ≡ true
    pub on : x.on ≡ true → y.on ≡ true
    pub locals : (r : ℕ) → r < registers → AreValuesBelow d.below (x.local r) (y.local r)
    pub cells_below : (j : ℕ) → j < cells → AreValuesBelow d.below (x.cell j) (y.cell j)
    pub pairs : (r j : ℕ) → y.pair r j ≡ true → x.pair r j ≡ true

  -- and each set is there
  pub record IsFullBelow (registers cells : ℕ) (x y : Flowing I) : Type 0 where
    pub off : x.off ≡ true → y.off ≡ true
    pub on : x.on ≡ true → y.on ≡ true
    pub locals : (r : ℕ) → r < registers → AreSomeBelow (x.local r) (y.local r)
    pub cells_below : (j : ℕ) → j < cells → AreSomeBelow (x.cell j) (y.cell j)
    pub pairs : (r j : ℕ) → y.pair r j ≡ true → x.pair r j ≡ true

  pub values_of : (x y : Option (Abs I)) → AreSomeBelow x y → AreValuesBelow d.below x y
  values_of x y (a, b, is, is', h) = subst (λ (z : Option (Abs I)). AreValuesBelow d.below z y) (sym is) (subst (λ (z : Option (Abs I)). AreValuesBelow d.below (Some a) z) (sym is') h)

  -- ---- flows

  module _ (registers cells : ℕ) where
    pub fact_flows : (x y : PointFact I) → IsFactBelow registers cells x y → IsFullBelow registers cells (of_fact x) (of_fact y)
    fact_flows x y h = record { off = h.off; on = h.on; locals = h.locals; cells_below = h.cells_below; pairs = h.pairs }

    pub less_full : (x y : Flowing I) → IsFullBelow registers cells x y → IsFlowBelow registers cells x y
    less_full x y h = record { off = h.off; on = h.on; locals = λ r l. values_of (x.local r) (y.local r) (h.locals r l); cells_below = λ j l. values_of (x.cell j) (y.cell j) (h.cells_below j l); pairs = h.pairs }

    some_if : (b : Bool) (x y : Abs I) (u v : Option (Abs I)) → IsBelowAbs d.below x y → AreSomeBelow u v → AreSomeBelow (if b then Some x else u) (if b then Some y else v)
    some_if true x y u v h l = (x, y, refl, refl, h)
    some_if false x y u v h l = l

    and_kept : (b u v : Bool) → (v ≡ true → u ≡ true) → (not b && v) ≡ true → (not b && u) ≡ true
    and_kept true u v h l = l
    and_kept false u v h l = h l

    or_kept : (b u v : Bool) → (v ≡ true → u ≡ true) → (b || v) ≡ true → (b || u) ≡ true
    or_kept true u v h l = refl
    or_kept false u v h l = h l

    pub local_below : (r : ℕ) (x y : Abs I) (a b : Flowing I) → IsBelowAbs d.below x y → IsFullBelow registers cells a b → IsFullBelow registers cells (with_local r x a) (with_local r y b)
    local_below r x y a b h l = record {
      off = l.off;
      on = l.on;
      locals = λ q i. some_if (q == r) x y (a.local q) (b.local q) h (l.locals q i);
      cells_below = l.cells_below;
      pairs = λ q j. and_kept (q == r) (a.pair q j) (b.pair q j) (l.pairs q j);
    }

    pub pair_below : (r : ℕ) (cell : Option ℕ) (a b : Flowing I) → IsFullBelow registers cells a b → IsFullBelow registers cells (with_pair r cell a) (with_pair r cell b)
    pair_below r None a b l = l
    pair_below r (Some cell) a b l = record { off = l.off; on = l.on; locals = l.locals; cells_below = l.cells_below; pairs = λ q j. or_kept (q == r && j == cell) (a.pair q j) (b.pair q j) (l.pairs q j) }

    pub cell_below : (cell : Option ℕ) (x y : Abs I) (a b : Flowing I) → IsBelowAbs d.below x y → IsFullBelow registers cells a b → IsFullBelow registers cells (with_cell cell x a) (with_cell cell y b)
    cell_below None x y a b h l = l
    cell_below (Some cell) x y a b h l = record {
      off = l.off;
      on = l.on;
      locals = l.locals;
      cells_below = λ j i. some_if (j == cell) x y (a.cell j) (b.cell j) h (l.cells_below j i);
      pairs = λ q j. and_kept (j == cell) (a.pair q j) (b.pair q j) (l.pairs q j);
    }

    pub flags_below : (off on off' on' : Bool) (a b : Flowing I) → (off ≡ true → off' ≡ true) → (on ≡ true → on' ≡ true) → IsFullBelow registers cells a b → IsFullBelow registers cells (with_flags off on a) (with_flags off' on' b)
    flags_below off on off' on' a b h i l = record { off = h; on = i; locals = l.locals; cells_below = l.cells_below; pairs = l.pairs }

  -- ---- what is needed of them

  module _ (k : IsKept d) (facts : Facts I) where
    abbrev pub Had : Needs I → Type 0
    Had needs = Each (Has d.below facts) needs

    pub part_had : (slot : Slot) (x y : Part I) → IsBelowPart d.below x y → Has d.below facts (slot, y) → Has d.below facts (slot, x)
    part_had slot x y h l = part_through d.below (abs_itself d k) (abs_through d k) x y (get slot facts) h l

    apart_had : (n : ℕ) (a b : ℕ → ℕ → Bool) (q : ℕ × ℕ) → (b q.0 q.1 ≡ true → a q.0 q.1 ≡ true) → Had (need_apart n b q) → Had (need_apart n a q)
    apart_had n a b q less h = by (a q.0 q.1) (b q.0 q.1) refl refl h
      where
        by : (u v : Bool) → a q.0 q.1 ≡ u → b q.0 q.1 ≡ v → Had (if v then [] else (Apart n q.0 q.1, Mark true) ∷ []) → Had (if u then [] else (Apart n q.0 q.1, Mark true) ∷ [])
        by true v i j h = tt
        by false true i j h = absurd (true≢false (sym (less j) ∙ i))
        by false false i j h = h

    pub flow_had : (n registers cells : ℕ) (a b : Flowing I) → IsFlowBelow registers cells a b → Had (needs_at n registers cells b) → Had (needs_at n registers cells a)
    flow_had n registers cells a b l h =
        let (locals, others) = each_split (Has d.below facts) (map (need_local n b) (numbers 0 registers)) (map (need_cell n b) (numbers 0 cells) ++ flat_map (need_apart n b.pair) (each_pair registers cells)) h.1 in
        let (of_cells, apart) = each_split (Has d.below facts) (map (need_cell n b) (numbers 0 cells)) (flat_map (need_apart n b.pair) (each_pair registers cells)) others in (
          part_had (Flag n) (Flags a.off a.on) (Flags b.off b.on) (l.off, l.on) h.0,
          each_append (Has d.below facts) (map (need_local n a) (numbers 0 registers)) (map (need_cell n a) (numbers 0 cells) ++ flat_map (need_apart n a.pair) (each_pair registers cells))
              (each_number (Has d.below facts) (need_local n b) (need_local n a) 0 registers (λ r i g. part_had (need_local n a r).0 (Values (a.local r)) (Values (b.local r)) (l.locals r (omega (arith, i))) g) locals)
              (each_append (Has d.below facts) (map (need_cell n a) (numbers 0 cells)) (flat_map (need_apart n a.pair) (each_pair registers cells))
              (each_number (Has d.below facts) (need_cell n b) (need_cell n a) 0 cells (λ j i g. part_had (need_cell n a j).0 (Values (a.cell j)) (Values (b.cell j)) (l.cells_below j (omega (arith, i))) g) of_cells)
              (each_flat (Has d.below facts) (need_apart n b.pair) (need_apart n a.pair) (each_pair registers cells) (λ q. apart_had n a.pair b.pair q (l.pairs q.0 q.1)) apart)),
        )
