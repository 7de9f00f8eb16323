-- Needs in order that fit: those of lists that are joined, and those of what flows to a point.
use Rattle.std.proofs.Common.{arith, ◌≡◌, ◌⊎◌, inl, inr, ℕ, zero, suc, ◌+◌, ◌<◌, Bool, true, false, List, [], ◌∷◌, ◌++◌, map, length, Option, Some, slice_get, refl, sym, subst}
use Rattle.std.specs.Prelude.{is_some, not, if◌then◌else◌}
use Rattle.std.specs.List.{Contains, flat_map}
use Rattle.std.proofs.lemmas.Option.{slice_get_within}
use Rattle.cc_rules_grow.proofs.CcFlow.Paths.{all_counted}
use Rattle.cc_rules_grow.specs.CcFlow.Points.{count_of, flow_of}
use Rattle.cc_rules_grow.specs.CcFlow.declared.types.Point.{Point}
use Rattle.cc_rules_grow.specs.CcPlaces.declared.abs.Abs.{Abs}
use Rattle.cc_rules_grow.specs.CcPlaces.laws.ListLaws.{cons_cases, at_head, behind_head}
use Rattle.cc_program.specs.declared.func.Func.{Func}
use Rattle.cc_program.specs.declared.program.Program.{Program}
use Rattle.cc_rules_grow.specs.CcRulesFlows.Nexts.{IsPoint}
use Rattle.cc_rules_grow.proofs.Elements.{Each, each_append, map_contained}
use Rattle.cc_rules_grow.proofs.Firsts.{made_of, first_true, some_is}
use Rattle.cc_rules_grow.specs.CcRulesNeeds.declared.needs.Part.{Part}
use Rattle.cc_rules_grow.specs.CcRulesNeeds.declared.needs.Part.TheVariants.{Mark}
use Rattle.cc_rules_grow.specs.CcRulesNeeds.declared.needs.Slot.{Slot}
use Rattle.cc_rules_grow.specs.CcRulesNeeds.declared.needs.Slot.TheVariants.{Apart}
use Rattle.cc_rules_grow.specs.CcRulesNeeds.Flowing.{Flowing, numbers, each_pair, need_apart, need_local, need_cell, needs_at}
use Rattle.cc_rules_grow.specs.CcRulesNeeds.Needs.{Needs, Has}
use Rattle.cc_rules_shaped.specs.Shaped.{AreSomeIn, IsPointIn, Fits, AllowsLevels, AreFitBehind}
use Rattle.cc_rules_grow.proofs.CcState.Lists.{no_member, from_flat}
use Rattle.cc_rules_grow.specs.CcState.Shape.{IsSetIn, IsRegisterType, IsTrackedType, IsPointFact}
use Rattle.cc_rules_grow.specs.CcStateFacts.declared.facts.Facts.{Facts}
use Rattle.cc_rules_grow.specs.CcStateFacts.declared.facts.PointFact.{PointFact}
use Rattle.cc_rules_grow.specs.CcStateFacts.Facts.{cell_of}
use Rattle.cc_rules_grow.specs.CcStateKeys.Tracked.{registers, tracked}
use Rattle.cc_rules_grow.specs.CcStateOperators.Domains.{Domain}
use Rattle.cc_rules_grow.specs.CcSyntax.Registers.{may_be_register, is_register, is_addressed}
use Rattle.cc_rules_grow.specs.CcSyntax.Types.{Named}
use Rattle.cc_rules_grow.specs.CcSyntax.Values.{ValueType, scalar_value}

-- ---- lists

each_numbers : {A : Type 0} (P : A → Type 0) (make : ℕ → A) (k n : ℕ) → ((i : ℕ) → i < k + n → P (make i)) → Each P (map make (numbers k n))
each_numbers P make k zero h = tt
each_numbers P make k (suc n) h = (h k (omega arith), each_numbers P make (suc k) n (λ i l. h i (omega (arith, l))))

pub each_flat_of : {A B : Type 0} (P : B → Type 0) (make : A → List B) (xs : List A) → ((x : A) → Contains xs x → Each P (make x)) → Each P (flat_map make xs)
each_flat_of P make [] h = tt
each_flat_of P make (x ∷ xs) h = each_append P (make x) (flat_map make xs) (h x (at_head x xs)) (each_flat_of P make xs (λ y c. h y (behind_head x xs y c)))

pub number_below : (k n i : ℕ) → Contains (numbers k n) i → i < k + n
number_below k zero i c = no_member i c
number_below k (suc n) i c = elim (cons_cases k (numbers (suc k) n) i c) [
  | inl e ↦ omega (arith, e)
  | inr r ↦ let l = number_below (suc k) n i r in omega (arith, l)
]

pub pair_below : (registers cells : ℕ) (q : ℕ × ℕ) → Contains (each_pair registers cells) q → (q.0 < registers) × (q.1 < cells)
pair_below registers cells q c =
    let (r, in_registers, in_row) = from_flat (λ r. map (λ j. (r, j)) (numbers 0 cells)) (numbers 0 registers) q c in
    let (j, in_cells, same) = map_contained (λ j. (r, j)) (numbers 0 cells) q in_row in
    let a = number_below 0 registers r in_registers in
    let b = number_below 0 cells j in_cells in
    (subst (λ (i : ℕ × ℕ). i.0 < registers) same (omega (arith, a)), subst (λ (i : ℕ × ℕ). i.1 < cells) same (omega (arith, b)))

-- ---- points and registers

pub point_counted : (p : Program) (n id : ℕ) (f : Func) (q : Point) → IsPoint p n id f q → n < count_of p
point_counted p n id f q h = subst (λ (c : ℕ). n < c) (all_counted p) (slice_get_within (flow_of p).points n q h.numbered)

scalar_local : (f : Func) (r : ℕ) (l : Named) → slice_get f.locals r ≡ Some l → is_register f r ≡ true → (t : ValueType) × (scalar_value l.1 ≡ Some t)
unfolding is_register
scalar_local f r l at h =
    let may : may_be_register (Some l) ≡ true = subst (λ (o : Option Named). may_be_register o ≡ true) at (first_true (may_be_register (slice_get f.locals r)) (not (is_addressed f r)) h) in
    some_is (scalar_value l.1) (first_true (is_some (scalar_value l.1)) (not l.1.volatile) may)

pub register_typed : {I : Type 0} (d : Domain I) (p : Program) (f : Func) (n : ℕ) → n < length (registers f) → (t : ValueType) × IsRegisterType d p f n t
register_typed d p f n l =
    let (r, at) = some_at (registers f) n l in
    let made = made_of (λ q (x : Named). is_register f q) 0 f.locals n r at in
    let same : made.place ≡ r = (let c = made.counts in omega (arith, c)) in
    let there : slice_get f.locals r ≡ Some made.thing = subst (λ (i : ℕ). slice_get f.locals i ≡ Some made.thing) same made.there in
    let (t, scalar) = scalar_local f r made.thing there made.passes_it in
    (t, (r, made.thing, at, there, scalar))
  where
    some_at : {A : Type 0} (xs : List A) (i : ℕ) → i < length xs → (x : A) × (slice_get xs i ≡ Some x)
    some_at [] i l = absurd (omega (arith, l))
    some_at (x ∷ xs) zero l = (x, refl)
    some_at (x ∷ xs) (suc i) l = some_at xs i (omega (arith, l))

module _ {I : Type 0} (d : Domain I) (p : Program) where
  abbrev pub Known : Type 1
  Known = Facts I → Type 0

  abbrev pub HaveThem : Needs I → Facts I → Type 0
  HaveThem ns f = Each (Has d.below f) ns

  -- what is known more
  pub fit_more : (known more : Known) → ((f : Facts I) → more f → known f) → (ns : Needs I) → AreFitBehind d p known ns → AreFitBehind d p more ns
  fit_more known more h [] l = tt
  fit_more known more h (need ∷ ns) l = (l.0, (λ f k. l.1 f (h f k)), fit_more (λ f. known f × Has d.below f need) (λ f. more f × Has d.below f need) (λ f k. (h f k.0, k.1)) ns l.2)

  pub fit_append : (known : Known) (xs ys : Needs I) → AreFitBehind d p known xs → AreFitBehind d p (λ f. known f × HaveThem xs f) ys → AreFitBehind d p known (xs ++ ys)
  fit_append known [] ys h l = fit_more (λ f. known f × HaveThem [] f) known (λ f k. (k, tt)) ys l
  fit_append known (x ∷ xs) ys h l = (
    h.0,
    h.1,
    fit_append (λ f. known f × Has d.below f x) xs ys h.2 (fit_more (λ f. known f × HaveThem (x ∷ xs) f) (λ f. (known f × Has d.below f x) × HaveThem xs f) (λ f k. (k.0.0, (k.0.1, k.1))) ys l),
  )

  -- where each fits, and is allowed whatever is before it
  abbrev pub FitsAlone : Known → Slot × Part I → Type 0
  FitsAlone known need = Fits d p need.0 need.1 × ((f : Facts I) → known f → AllowsLevels d p need.0 need.1 f)

  pub fit_each : (known : Known) (ns : Needs I) → Each (FitsAlone known) ns → AreFitBehind d p known ns
  fit_each known [] h = tt
  fit_each known (need ∷ ns) h = (h.0.0, h.0.1, fit_each (λ f. known f × Has d.below f need) ns (still ns h.1))
    where
      still : (ns : Needs I) → Each (FitsAlone known) ns → Each (FitsAlone (λ f. known f × Has d.below f need)) ns
      still [] h = tt
      still (x ∷ ns) h = ((h.0.0, λ f k. h.0.1 f k.0), still ns h.1)

  -- ---- what flows to a point of a function

  pub record FlowFits (k : ℕ) (f : Func) (flow : Flowing I) : Type 0 where
    pub point : IsPointIn d p k f
    pub flag : (flow.off ≡ true) ⊎ (flow.on ≡ true)
    pub locals : (r : ℕ) → r < length (registers f) → (t : ValueType) × IsRegisterType d p f r t × AreSomeIn d p t (flow.local r)
    pub cells : (j : ℕ) → j < length (tracked p) → (t : ValueType) × IsTrackedType d p j t × AreSomeIn d p t (flow.cell j)

  module _ (k : ℕ) (f : Func) (flow : Flowing I) (h : FlowFits k f flow) (known : Known) where
    counted : k < count_of p
    counted = let (id, point, is) = h.point in point_counted p k id f point is

    apart_fits : (q : ℕ × ℕ) → Contains (each_pair (length (registers f)) (length (tracked p))) q → Each (FitsAlone known) (need_apart k flow.pair q)
    apart_fits q c = by (flow.pair q.0 q.1)
      where
        by : (b : Bool) → Each (FitsAlone known) (if b then [] else (Apart k q.0 q.1, Mark true) ∷ [])
        by true = tt
        by false = (((f, h.point, (pair_below (length (registers f)) (length (tracked p)) q c).0, (pair_below (length (registers f)) (length (tracked p)) q c).1), λ g i. tt), tt)

    pub flow_fits : AreFitBehind d p known (needs_at k (length (registers f)) (length (tracked p)) flow)
    flow_fits = fit_each known (needs_at k (length (registers f)) (length (tracked p)) flow) (
      ((counted, h.flag), λ g i. tt),
      each_append (FitsAlone known) (map (need_local k flow) (numbers 0 (length (registers f)))) (map (need_cell k flow) (numbers 0 (length (tracked p))) ++ flat_map (need_apart k flow.pair) (each_pair (length (registers f)) (length (tracked p))))
          (each_numbers (FitsAlone known) (need_local k flow) 0 (length (registers f)) (λ r l. (let (t, is, some) = h.locals r (omega (arith, l)) in ((f, t, h.point, is, some), λ g i. tt))))
          (each_append (FitsAlone known) (map (need_cell k flow) (numbers 0 (length (tracked p)))) (flat_map (need_apart k flow.pair) (each_pair (length (registers f)) (length (tracked p))))
          (each_numbers (FitsAlone known) (need_cell k flow) 0 (length (tracked p)) (λ j l. (let (t, is, some) = h.cells j (omega (arith, l)) in ((t, counted, is, some), λ g i. tt))))
          (each_flat_of (FitsAlone known) (need_apart k flow.pair) (each_pair (length (registers f)) (length (tracked p))) apart_fits)),
    )

  -- the sets of a point of the shape
  pub some_in : (t : ValueType) (y : Abs I) (o : Option (Abs I)) → o ≡ Some y → IsSetIn p d t y → AreSomeIn d p t o
  some_in t y o e h = subst (λ (x : Option (Abs I)). AreSomeIn d p t x) (sym e) h

  pub cells_fit : (f : Func) (fact : PointFact I) → IsPointFact d p f fact → (j : ℕ) → j < length (tracked p) → (t : ValueType) × IsTrackedType d p j t × AreSomeIn d p t (cell_of fact j)
  cells_fit f fact h j l = let w = h.cells.there j l in (w.0, w.2.0, some_in w.0 w.1 (cell_of fact j) w.2.1 w.2.2)
