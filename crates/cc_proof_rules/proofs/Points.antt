-- What facts that solve the constraints say of each point: handlers enter where the flag may be on, and what they may write is not known
-- there by point alone.
use Rattle.std.proofs.Common.{arith, ◌≡◌, inl, ℕ, zero, suc, ◌+◌, ◌<◌, Bool, true, false, true≢false, not, List, [], ◌∷◌, ◌++◌, map, length, All, Contains, Option, Some, None, slice_get, refl, sym, ap, subst, ◌∙◌}
use Rattle.std.specs.Prelude.{◌==◌, option_map, option_and_then, if◌then◌else◌}
use Rattle.std.specs.List.{filter}
use Rattle.std.proofs.lemmas.Bool.{eqb-true, eq-eqb}
use Rattle.std.proofs.lemmas.List.Elements.{All-contains, All-head, All-tail, Contains-append_left, Contains-append_right}
use Rattle.std.proofs.lemmas.Option.{same_Some, slice_get_within}
use Rattle.cc_state_values_sound.specs.CcEval.Context.{object_type}
use Rattle.cc_rules.specs.CcFlow.declared.types.Point.{Point}
use Rattle.cc_rules.specs.CcFlow.Points.{flow_of}
use Rattle.cc_rules.specs.CcFlowSound.Moves.{entry}
use Rattle.cc_program.specs.declared.func.Func.{Func}
use Rattle.cc_program.specs.declared.object.Object.{Object}
use Rattle.cc_program.specs.declared.program.Program.{Program}
use Rattle.cc_program.specs.declared.value.Root.TheVariants as root
use Rattle.cc_program.specs.declared.value.Value.{Value}
use Rattle.cc_proof_covers.specs.Invariant.{MayInterrupt, MayBeWritten}
use Rattle.cc_proof_covers.specs.Rules.{Enters, IsStable}
use Rattle.cc_proof_covers.specs.Views.{View}
use Rattle.cc_proof_forms.specs.PointRules.{PointRule}
use Rattle.cc_proof_rules.proofs.Arrivals.{register_there, tracked_there, one_function, has_more, arrives, opens_of}
use Rattle.cc_proof_rules.proofs.Functions.{entry_function}
use Rattle.cc_proof_rules.proofs.Levels.{enters, one_enters, only_has, level_below}
use Rattle.cc_proof_rules.proofs.Lists.{in_first, in_rest, in_map, in_filter, in_numbers, in_pairs}
use Rattle.cc_proof_rules.proofs.Asks.{handler_met, stability_met, for_one, known_point}
use Rattle.cc_proof_rules.proofs.Numbered.{numbered_register, some_is, is_some_of, IsTrackedScalar, tracked_scalar}
use Rattle.cc_proof_rules.specs.Arrivals.{flag_in, Arrives}
use Rattle.cc_rules.specs.Rules.{handlers_from, handlers, NeedsAt, entry_levels, at_handler, interrupted, entering, whole_number, is_written, is_unstable, unstable_cell, unstable, HandlersAsk, IsSolution}
use Rattle.cc_rules.specs.CcRulesNeeds.Flowing.{Flowing, numbers, each_pair}
use Rattle.cc_rules.specs.CcRulesNeeds.Needs.{apart_in, AreValuesBelow, Has as HasPart, HasAll}
use Rattle.cc_rules.specs.CcRulesNeeds.declared.needs.Part.{Part}
use Rattle.cc_rules.specs.CcRulesNeeds.declared.needs.Part.TheVariants.{Mark, LevelSet}
use Rattle.cc_rules.specs.CcRulesNeeds.declared.needs.Slot.{Slot}
use Rattle.cc_rules.specs.CcRulesNeeds.declared.needs.Slot.TheVariants.{ByHandler, Levels, From, Apart}
use Rattle.cc_state.specs.View.{Has, IsFunctionAt, view}
use Rattle.cc_rules.specs.CcStateFacts.declared.facts.Facts.{Facts}
use Rattle.cc_rules.specs.CcStateFacts.declared.facts.Key.{Key}
use Rattle.cc_rules.specs.CcStateFacts.declared.facts.Key.TheVariants as key
use Rattle.cc_rules.specs.CcStateFacts.declared.facts.PointFact.{PointFact}
use Rattle.cc_rules.specs.CcStateFacts.Facts.{fact_at, cell_at, cell_of, levels_of, has_pair}
use Rattle.cc_rules.specs.CcStateFacts.Levels.{has_level, only_level, may_enter}
use Rattle.cc_rules.specs.CcStateKeys.Keys.{key_number, cell_key, key_along}
use Rattle.cc_rules.specs.CcStateKeys.Paths.{LeadsTo}
use Rattle.cc_rules.specs.CcStateKeys.Tracked.{registers, register_number, tracked, tracked_number}
use Rattle.cc_state_values_sound.specs.CcStateOperators.Domains.{Domain}
use Rattle.cc_state_values_sound.proofs.Choices.{GivesAll}
use Rattle.cc_state_values_sound.specs.CcSteps.Turn.{level_of}
use Rattle.cc_state_values_sound.specs.CcSyntax.Expressions.{of_one}
use Rattle.cc_state_values_sound.specs.CcSyntax.Initial.{place_at}
use Rattle.cc_state_values_sound.specs.CcSyntax.Operators.{is_handler}
use Rattle.cc_state_values_sound.specs.CcSyntax.Registers.{is_register}
use Rattle.cc_state_values_sound.specs.CcSyntax.Values.{PlaceType, object_place, read_from, scalar_value}

-- the first three of some things, and the others
pub first_three : {A : Type 0} (P : A → Type 0) (a b c : A) (rest : List A) → All P (a ∷ b ∷ c ∷ rest) → P a × P b × P c × All P rest
first_three P a b c rest h =
    let t = All-tail P a (b ∷ c ∷ rest) h in
    let u = All-tail P b (c ∷ rest) t in
    (All-head P a (b ∷ c ∷ rest) h, All-head P b (c ∷ rest) t, All-head P c rest u, All-tail P c rest u)

-- ---- handlers are among those of a program

handler_in : (funcs : List Func) (k i j : ℕ) (g : Func) → slice_get funcs i ≡ Some g → is_handler g ≡ true → j ≡ k + i → Contains (handlers_from k funcs) j
handler_in [] k i j g e t q = absurd (cc)
handler_in (f ∷ funcs) k zero j g e t q = first (is_handler f) (ap is_handler (same_Some f g e) ∙ t)
  where
    first : (b : Bool) → b ≡ true → Contains (if b then k ∷ handlers_from (suc k) funcs else handlers_from (suc k) funcs) j
    first true h = subst (λ m. Contains (k ∷ handlers_from (suc k) funcs) m) (let here : k ≡ j = omega (arith, q) in here) (in_first k (handlers_from (suc k) funcs))
    first false h = absurd (true≢false (sym h))
handler_in (f ∷ funcs) k (suc i) j g e t q = later (is_handler f) (handler_in funcs (suc k) i j g e t (omega (arith, q)))
  where
    later : (b : Bool) → Contains (handlers_from (suc k) funcs) j → Contains (if b then k ∷ handlers_from (suc k) funcs else handlers_from (suc k) funcs) j
    later true c = in_rest k (handlers_from (suc k) funcs) j c
    later false c = c

handler_listed : (p : Program) (h : ℕ) (g : Func) → slice_get p.funcs h ≡ Some g → is_handler g ≡ true → Contains (handlers p) h
handler_listed p h g e t = handler_in p.funcs 0 h h g e t (omega arith)

-- ---- a tracked object is a scalar, by its own key

own_key : (p : Program) (i : ℕ) → cell_key p (root.Static i) [] ≡ key.Object i
own_key p i = by (object_type p (root.Static i))
  where
    by : (a : Option PlaceType) → key_along p.structures [] a (key.Object i) ≡ key.Object i
    by None = refl
    by (Some a) = refl

leads_itself : (p : Program) (i : ℕ) → IsTrackedScalar p i → LeadsTo p (root.Static i) [] 0
leads_itself p i h =
    let t = some_is (scalar_value h.object.ctype) h.scalar in
    (t.0, ap (λ (o : Option Object). of_one (of_one (option_map (λ (o : Object). object_place o.ctype) o) (place_at p.structures [])) read_from) h.there ∙ t.1, refl)

module _ {I : Type 0} (d : Domain I) (all : GivesAll d) (p : Program) (facts : Facts I) where
  abbrev v : View
  v = view d p facts

  -- pairs are of registers, and of tracked objects
  pub pairs_registers : (n : ℕ) (f : Func) → IsFunctionAt d p facts n f → (r i : ℕ) → v.same n r i → is_register f r ≡ true
  pairs_registers n f function r i (fact, g, number, cell, there, at, e, h, pair) =
      numbered_register f r number (ap (λ (x : Func). register_number x r) (sym (one_function d all p facts n g f at function)) ∙ e)

  pub pairs_tracked : (n r i : ℕ) → v.same n r i → v.tracked i ≡ true
  pairs_tracked n r i (fact, g, number, cell, there, at, e, h, pair) = is_some_of (tracked_number p i) cell h

  module _ (solution : IsSolution d p facts) (n : ℕ) (q : Point) (f : Func) (fact : PointFact I) (numbered : slice_get (flow_of p).points n ≡ Some q) (function : slice_get p.funcs q.func ≡ Some f) (there : fact_at facts n ≡ Some fact)
      (on : fact.on ≡ true) where
    -- ---- handlers

    abbrev running : ℕ
    running = levels_of facts.levels q.func

    abbrev into : Flowing I
    into = at_handler d p facts n q.func f q fact

    handler_asked : (h : ℕ) (g : Func) → slice_get p.funcs h ≡ Some g → is_handler g ≡ true → MayInterrupt p v q.func (level_of p h) → HasAll d.below (interrupted d p facts n q.func f q fact h g) facts
    handler_asked h g e t may =
        let met = handler_met d all p facts solution n q f fact numbered function there in
        let asked = subst (λ (b : Bool). HandlersAsk d p facts n q.func f q fact b met.0) on met.1 in
        let enter : may_enter running (level_of p h) ≡ true = enters running (level_of p h) (level_below p h) may in
        let among : Contains (entering d p facts n q.func f q fact) h = in_filter (λ h. may_enter running (level_of p h)) (handlers p) h (handler_listed p h g e t) enter in
        let one = for_one d all p facts solution n q f fact numbered function there (λ h handler here. here ≡ interrupted d p facts n q.func f q fact h handler) (entering d p facts n q.func f q fact) met.0 asked met.2 h among in
        let same : one.0 ≡ g = same_Some one.0 g (sym one.2 ∙ e) in
        subst (λ (k : Func). HasAll d.below (interrupted d p facts n q.func f q fact h k) facts) same
        (subst (λ (ns : List (Slot × Part I)). HasAll d.below ns facts) one.3 one.4)

    levels_below : (level l : ℕ) → level ≡ 0 → has_level running l ≡ true → has_level (entry_levels d p facts n q.func f q fact level) l ≡ true
    levels_below level l none h = subst (λ (b : Bool). has_level (if b then running else only_level level) l ≡ true) (sym (eq-eqb level 0 none)) h

    levels_own : (level : ℕ) → (level ≡ 0 → ⊥) → has_level (entry_levels d p facts n q.func f q fact level) level ≡ true
    levels_own level some = by (level == 0) refl
      where
        by : (b : Bool) → (level == 0) ≡ b → has_level (if b then running else only_level level) level ≡ true
        by true e = absurd (some (eqb-true level 0 e))
        by false e = only_has level

    pub handler_enters : (h : ℕ) (g : Func) → slice_get p.funcs h ≡ Some g → is_handler g ≡ true → MayInterrupt p v q.func (level_of p h) → Enters p v q.func n h (level_of p h)
    handler_enters h g e t may =
        let asked = first_three (HasPart d.below facts) (ByHandler h, Mark true) (Levels h, LevelSet (entry_levels d p facts n q.func f q fact (level_of p h))) (From h, LevelSet (only_level (level_of p h)))
        (NeedsAt d p facts (entry p h) g into) (handler_asked h g e t may) in
        let comes : Arrives d p facts (entry p h) g into = arrives d all p facts (entry p h) g into (entry_function d p facts h g e) asked.3 (inl refl) in
        record {
          opens = opens_of d all p facts n q.func h (entry p h) f g fact into (λ b. b ≡ false) (known_point d all p facts solution n q f fact numbered function there) comes (λ b k. ap (flag_in into) k) (λ number. refl) (λ number cell. refl);
          by_handler = asked.0 refl;
          from = (asked.0 refl, (level_below p h, asked.2 (level_of p h) (only_has (level_of p h))));
          below = λ none l runs. asked.1 l (levels_below (level_of p h) l none runs);
          level = λ some. asked.1 (level_of p h) (levels_own (level_of p h) some);
        }

    -- ---- what they may write

    unstable_asked : HasAll d.below (unstable d p facts n q.func f q fact) facts
    unstable_asked =
        let met = stability_met d all p facts solution n q f fact numbered function there in
        subst (λ (b : Bool). HasAll d.below (if b then unstable d p facts n q.func f q fact else []) facts) on (subst (λ (ns : List (Slot × Part I)). HasAll d.below ns facts) met.1 met.2)

    abbrev its_cells : List (Slot × Part I)
    its_cells = map (unstable_cell d p facts n q.func f q fact) (filter (is_unstable d p facts n q.func f q fact) (numbers 0 (length (tracked p))))

    abbrev apart : ℕ × ℕ → Slot × Part I
    apart q = (Apart n q.0 q.1, Mark true)

    abbrev its_pairs : List (Slot × Part I)
    its_pairs = map apart (filter (λ (b : ℕ × ℕ). is_unstable d p facts n q.func f q fact b.1) (each_pair (length (registers f)) (length (tracked p))))

    module _ (i j : ℕ) (cell : tracked_number p i ≡ Some j) (written : MayBeWritten p v q.func i) where
      whole_is : whole_number d p facts n q.func f q fact j ≡ key_number p (key.Object i)
      whole_is = ap (option_and_then (λ i. key_number p (key.Object i))) (tracked_there p i j cell)

      is_one : is_unstable d p facts n q.func f q fact j ≡ true
      is_one =
          ap (is_written d p facts n q.func f q fact) (whole_is ∙ written.1.1)
          ∙ one_enters running (levels_of facts.write_levels written.1.0) written.0 written.1.2.0 written.1.2.1 written.2

      below_count : j < length (tracked p)
      below_count = slice_get_within (tracked p) j i (tracked_there p i j cell)

      cell_asked : AreValuesBelow d.below (option_and_then (slice_get facts.whole) (whole_number d p facts n q.func f q fact j)) (cell_at facts n j)
      cell_asked =
          All-contains (HasPart d.below facts) (its_cells ++ its_pairs) (unstable_cell d p facts n q.func f q fact j) unstable_asked
          (Contains-append_left its_cells its_pairs (unstable_cell d p facts n q.func f q fact j)
          (in_map (unstable_cell d p facts n q.func f q fact) (filter (is_unstable d p facts n q.func f q fact) (numbers 0 (length (tracked p)))) j
          (in_filter (is_unstable d p facts n q.func f q fact) (numbers 0 (length (tracked p))) j (in_numbers 0 (length (tracked p)) j (omega arith) (let l = below_count in omega (arith, l))) is_one)))

      apart_asked : (number : ℕ) → number < length (registers f) → apart_in (fact_at facts n) number j ≡ true
      apart_asked number l =
          All-contains (HasPart d.below facts) (its_cells ++ its_pairs) (apart (number, j)) unstable_asked
          (Contains-append_right its_cells its_pairs (apart (number, j))
          (in_map apart (filter (λ (b : ℕ × ℕ). is_unstable d p facts n q.func f q fact b.1) (each_pair (length (registers f)) (length (tracked p)))) (number, j)
          (in_filter (λ (b : ℕ × ℕ). is_unstable d p facts n q.func f q fact b.1) (each_pair (length (registers f)) (length (tracked p))) (number, j) (in_pairs (length (registers f)) (length (tracked p)) number j l below_count) is_one))) refl

      whole_there : (x : Value) → v.static_at i 0 x → v.cell n i x
      whole_there x h =
          let here : Has d p facts (option_and_then (slice_get facts.whole) (key_number p (cell_key p (root.Static i) []))) x = h [] (leads_itself p i (tracked_scalar p i j cell)) in
          let own : Has d p facts (option_and_then (slice_get facts.whole) (key_number p (key.Object i))) x = subst (λ (k : Key). Has d p facts (option_and_then (slice_get facts.whole) (key_number p k)) x) (own_key p i) here in
          let set : Has d p facts (option_and_then (slice_get facts.whole) (whole_number d p facts n q.func f q fact j)) x = subst (λ (o : Option ℕ). Has d p facts (option_and_then (slice_get facts.whole) o) x) (sym whole_is) own in
          let held : Has d p facts (cell_at facts n j) x = has_more d all p facts (option_and_then (slice_get facts.whole) (whole_number d p facts n q.func f q fact j)) (cell_at facts n j) x cell_asked set in
          (fact, j, there, cell, subst (λ (o : Option (PointFact I)). Has d p facts (option_and_then (λ (x : PointFact I). cell_of x j) o) x) there held)

      apart_there : (r : ℕ) → v.same n r i → ⊥
      apart_there r (other, g, number, c, at, here, e, h, pair) =
          let is : register_number f r ≡ Some number = ap (λ (x : Func). register_number x r) (sym (one_function d all p facts n g f here (q, numbered, function))) ∙ e in
          let l : number < length (registers f) = slice_get_within (registers f) number r (register_there f r number is) in
          let same : c ≡ j = same_Some c j (sym h ∙ cell) in
          let none : not (has_pair other number j) ≡ true = subst (λ (o : Option (PointFact I)). apart_in o number j ≡ true) at (apart_asked number l) in
          true≢false (sym none ∙ ap not (ap (has_pair other number) (sym same) ∙ pair))

      pub stays : IsStable p v n i
      stays = record { whole = whole_there; sames = apart_there }

  -- ---- a point has what is asked of it

  pub point_rule : IsSolution d p facts → (n : ℕ) (q : Point) (f : Func) → slice_get (flow_of p).points n ≡ Some q → slice_get p.funcs q.func ≡ Some f → PointRule p v q.func f n
  point_rule solution n q f numbered function = record {
    pairs = pairs_registers n f (q, numbered, function);
    handlers = λ reached may h g e t i. handler_enters solution n q f may.0 numbered function may.1 may.2 h g e t i;
    stable = λ reached may i tracked written.
        (let cell = some_is (tracked_number p i) tracked in
        stays solution n q f may.0 numbered function may.1 may.2 i cell.0 cell.1 written);
  }
