-- What flows to a point is there where facts have all that is asked of the point.
use Rattle.std.proofs.Common.{arith, ◌≡◌, inl, inr, ℕ, ◌<◌, Bool, true, false, true≢false, not, ◌&&◌, ◌||◌, List, [], ◌∷◌, ◌++◌, map, length, Contains, Option, Some, None, slice_get, refl, sym, ap, subst, ◌∙◌}
use Rattle.std.specs.Prelude.{◌==◌, option_and_then, if◌then◌else◌}
use Rattle.std.specs.List.{flat_map}
use Rattle.std.proofs.lemmas.Bool.{eqb-true, eq-eqb}
use Rattle.std.proofs.lemmas.List.Elements.{All-contains, Contains-append_left, Contains-append_right}
use Rattle.std.proofs.lemmas.Option.{same_Some, slice_get_within}
use Rattle.cc_rules.specs.CcFlow.declared.types.Point.{Point}
use Rattle.cc_state_values_sound.specs.CcPlaces.declared.abs.Abs.{Abs}
use Rattle.cc_state_values_sound.specs.CcPlaces.Abstract.{HasValue}
use Rattle.cc_program.specs.declared.func.Func.{Func}
use Rattle.cc_program.specs.declared.program.Program.{Program}
use Rattle.cc_program.specs.declared.value.Value.{Value}
use Rattle.cc_proof_covers.specs.Rules.{Flows, KeepsFlag, Opens}
use Rattle.cc_proof_covers.specs.Views.{View}
use Rattle.cc_proof_rules.proofs.Lists.{in_first, in_rest, in_map, in_flat, in_numbers, in_pairs, any_of, each_of, at_position, both_true}
use Rattle.cc_proof_rules.specs.Arrivals.{flag_in, HasFlag, IsKnown, IsPairIn, Arrives, Keeps, KeepsFlags}
use Rattle.cc_rules.specs.Rules.{NeedsAt}
use Rattle.cc_rules.specs.CcRulesNeeds.Flowing.{Flowing, of_fact, with_local, with_pair, with_cell, with_flags, IsLeastOver, IsJoined, numbers, each_pair, need_apart, need_local, need_cell}
use Rattle.cc_rules.specs.CcRulesNeeds.Needs.{flags_in, apart_in, AreValuesBelow, IsBelowPart, Has as HasPart, HasAll}
use Rattle.cc_rules.specs.CcRulesNeeds.declared.needs.Part.{Part}
use Rattle.cc_rules.specs.CcRulesNeeds.declared.needs.Part.TheVariants.{Mark, Flags}
use Rattle.cc_rules.specs.CcRulesNeeds.declared.needs.Slot.{Slot}
use Rattle.cc_rules.specs.CcRulesNeeds.declared.needs.Slot.TheVariants.{Flag, Apart}
use Rattle.cc_state.specs.View.{Has, IsFunctionAt, IsReachedAt, MayBeAt, LocalAt as IsLocalAt, CellAt as IsCellAt, SameAt, view}
use Rattle.cc_rules.specs.CcStateFacts.declared.facts.Facts.{Facts}
use Rattle.cc_rules.specs.CcStateFacts.declared.facts.PointFact.{PointFact}
use Rattle.cc_rules.specs.CcStateFacts.Facts.{fact_at, cell_at, cell_of, local_at, local_of, may_be_in, has_pair}
use Rattle.cc_rules.specs.CcStateKeys.Tracked.{registers, register_number, tracked, tracked_number}
use Rattle.cc_state_values_sound.specs.CcStateOperators.Domains.{Domain}
use Rattle.cc_state_values_sound.proofs.Choices.{GivesAll, below_gives}

-- ---- numbers of registers and tracked cells

pub register_there : (f : Func) (r number : ℕ) → register_number f r ≡ Some number → slice_get (registers f) number ≡ Some r
register_there f r number e = at_position (registers f) r number e

pub tracked_there : (p : Program) (i number : ℕ) → tracked_number p i ≡ Some number → slice_get (tracked p) number ≡ Some i
tracked_there p i number e = at_position (tracked p) i number e

pub one_register : (f : Func) (r q number : ℕ) → register_number f r ≡ Some number → register_number f q ≡ Some number → q ≡ r
one_register f r q number e h = same_Some q r (sym (register_there f q number h) ∙ register_there f r number e)

pub one_tracked : (p : Program) (i j number : ℕ) → tracked_number p i ≡ Some number → tracked_number p j ≡ Some number → j ≡ i
one_tracked p i j number e h = same_Some j i (sym (tracked_there p j number h) ∙ tracked_there p i number e)

-- where two numbers are not the same
differ_by : (a b : ℕ) (t : Bool) → (a == b) ≡ t → (a ≡ b → ⊥) → (a == b) ≡ false
differ_by a b true e h = absurd (h (eqb-true a b e))
differ_by a b false e h = e

pub differ : (a b : ℕ) → (a ≡ b → ⊥) → (a == b) ≡ false
differ a b h = differ_by a b (a == b) refl h

module _ {I : Type 0} (d : Domain I) (all : GivesAll d) (p : Program) (facts : Facts I) where
  abbrev v : View
  v = view d p facts

  abbrev Held : Option (Abs I) → Value → Type 0
  Held y w = Has d p facts y w

  -- ---- sets that are above others

  more_in : (x : Abs I) (y : Option (Abs I)) (w : Value) → AreValuesBelow d.below (Some x) y → HasValue d.has x w → Held y w
  more_in x None w h k = absurd h
  more_in x (Some y) w h k = (y, refl, below_gives d all x y (Some w) h k)

  pub has_more : (x y : Option (Abs I)) (w : Value) → AreValuesBelow d.below x y → Held x w → Held y w
  has_more x y w h k = more_in k.0 y w (subst (λ (o : Option (Abs I)). AreValuesBelow d.below o y) k.1 h) k.2

  in_fact : (get : PointFact I → Option (Abs I)) (o : Option (PointFact I)) (w : Value) → Held (option_and_then get o) w → (fact : PointFact I) × (o ≡ Some fact) × Held (get fact) w
  in_fact get None w h = absurd (let e = h.1 in cc)
  in_fact get (Some fact) w h = (fact, refl, h)

  -- ---- points

  pub one_function : (n : ℕ) (f g : Func) → IsFunctionAt d p facts n f → IsFunctionAt d p facts n g → f ≡ g
  one_function n f g h k =
      let same : h.0 ≡ k.0 = same_Some h.0 k.0 (sym h.1 ∙ k.1) in
      same_Some f g (sym h.2 ∙ ap (λ (q : Point). slice_get p.funcs q.func) same ∙ k.2)

  pub one_fact : (n : ℕ) (x y : PointFact I) → fact_at facts n ≡ Some x → fact_at facts n ≡ Some y → x ≡ y
  one_fact n x y h k = same_Some x y (sym h ∙ k)

  module _ (n : ℕ) (f : Func) (fact : PointFact I) (known : IsKnown d p facts n f fact) where
    pub known_flag : (on : Bool) → MayBeAt d p facts n on → flag_in (of_fact fact) on ≡ true
    known_flag on h = by on (subst (λ (x : PointFact I). may_be_in x on ≡ true) (one_fact n h.0 fact h.1 known.there) h.2)
      where
        by : (on : Bool) → may_be_in fact on ≡ true → flag_in (of_fact fact) on ≡ true
        by true e = e
        by false e = e

    pub known_local : (r : ℕ) (w : Value) → IsLocalAt d p facts n r w → (number : ℕ) × (register_number f r ≡ Some number) × Held (local_of fact number) w
    known_local r w (x, g, number, there, function, is, h) =
        let same = one_function n g f function known.function in
        (number, ap (λ (k : Func). register_number k r) (sym same) ∙ is, subst (λ (y : PointFact I). Held (local_of y number) w) (one_fact n x fact there known.there) h)

    pub known_cell : (i : ℕ) (w : Value) → IsCellAt d p facts n i w → (number : ℕ) × (tracked_number p i ≡ Some number) × Held (cell_of fact number) w
    known_cell i w (x, number, there, is, h) = (number, is, subst (λ (y : PointFact I). Held (cell_of y number) w) (one_fact n x fact there known.there) h)

    pub known_same : (r i number cell : ℕ) → register_number f r ≡ Some number → tracked_number p i ≡ Some cell → has_pair fact number cell ≡ true → SameAt d p facts n r i
    known_same r i number cell e h k = (fact, f, number, cell, known.there, known.function, e, h, k)

  -- ---- a point that has all that is asked of it

  module _ (k : ℕ) (f : Func) (flow : Flowing I) (function : IsFunctionAt d p facts k f) (has : HasAll d.below (NeedsAt d p facts k f flow) facts) where
    abbrev count : ℕ
    count = length (registers f)

    abbrev cell_count : ℕ
    cell_count = length (tracked p)

    abbrev its_locals : List (Slot × Part I)
    its_locals = map (need_local k flow) (numbers 0 count)

    abbrev its_cells : List (Slot × Part I)
    its_cells = map (need_cell k flow) (numbers 0 cell_count)

    abbrev its_pairs : List (Slot × Part I)
    its_pairs = flat_map (need_apart k flow.pair) (each_pair count cell_count)

    asked : (need : Slot × Part I) → Contains (NeedsAt d p facts k f flow) need → HasPart d.below facts need
    asked need c = All-contains (HasPart d.below facts) (NeedsAt d p facts k f flow) need has c

    asked_later : (need : Slot × Part I) → Contains (its_locals ++ (its_cells ++ its_pairs)) need → HasPart d.below facts need
    asked_later need c = asked need (in_rest (Flag k, Flags flow.off flow.on) (its_locals ++ (its_cells ++ its_pairs)) need c)

    local_asked : (number : ℕ) → number < count → HasPart d.below facts (need_local k flow number)
    local_asked number l =
        asked_later (need_local k flow number) (Contains-append_left its_locals (its_cells ++ its_pairs) (need_local k flow number)
        (in_map (need_local k flow) (numbers 0 count) number (in_numbers 0 count number (omega arith) (omega (arith, l)))))

    cell_asked : (number : ℕ) → number < cell_count → HasPart d.below facts (need_cell k flow number)
    cell_asked number l =
        asked_later (need_cell k flow number) (Contains-append_right its_locals (its_cells ++ its_pairs) (need_cell k flow number)
        (Contains-append_left its_cells its_pairs (need_cell k flow number)
        (in_map (need_cell k flow) (numbers 0 cell_count) number (in_numbers 0 cell_count number (omega arith) (omega (arith, l))))))

    pair_asked : (number cell : ℕ) → number < count → cell < cell_count → (need : Slot × Part I) → Contains (need_apart k flow.pair (number, cell)) need → HasPart d.below facts need
    pair_asked number cell l m need c =
        asked_later need (Contains-append_right its_locals (its_cells ++ its_pairs) need
        (Contains-append_right its_cells its_pairs need
        (in_flat (need_apart k flow.pair) (each_pair count cell_count) (number, cell) need (in_pairs count cell_count number cell l m) c)))

    flags_asked : HasPart d.below facts (Flag k, Flags flow.off flow.on)
    flags_asked = asked (Flag k, Flags flow.off flow.on) (in_first (Flag k, Flags flow.off flow.on) (its_locals ++ (its_cells ++ its_pairs)))

    flag_by : (o : Option (PointFact I)) → fact_at facts k ≡ o → IsBelowPart d.below (Flags flow.off flow.on) (flags_in o) → (on : Bool) → flag_in flow on ≡ true → MayBeAt d p facts k on
    flag_by None e h true t = absurd (true≢false (sym (h.1 t)))
    flag_by None e h false t = absurd (true≢false (sym (h.0 t)))
    flag_by (Some fact) e h true t = (fact, e, h.1 t)
    flag_by (Some fact) e h false t = (fact, e, h.0 t)

    arrived_flag : (on : Bool) → flag_in flow on ≡ true → MayBeAt d p facts k on
    arrived_flag on t = flag_by (fact_at facts k) refl flags_asked on t

    arrived_local : (r number : ℕ) (w : Value) → register_number f r ≡ Some number → Held (flow.local number) w → IsLocalAt d p facts k r w
    arrived_local r number w e h =
        let l : number < count = slice_get_within (registers f) number r (register_there f r number e) in
        let there = in_fact (λ x. local_of x number) (fact_at facts k) w (has_more (flow.local number) (local_at facts k number) w (local_asked number l) h) in
        (there.0, f, number, there.1, function, e, there.2)

    arrived_cell : (i number : ℕ) (w : Value) → tracked_number p i ≡ Some number → Held (flow.cell number) w → IsCellAt d p facts k i w
    arrived_cell i number w e h =
        let l : number < cell_count = slice_get_within (tracked p) number i (tracked_there p i number e) in
        let there = in_fact (λ x. cell_of x number) (fact_at facts k) w (has_more (flow.cell number) (cell_at facts k number) w (cell_asked number l) h) in
        (there.0, number, there.1, e, there.2)

    pair_by : (number cell : ℕ) (fact : PointFact I) → fact_at facts k ≡ Some fact → has_pair fact number cell ≡ true → (b : Bool) → ((need : Slot × Part I) → Contains (if b then [] else (Apart k number cell, Mark true) ∷ []) need → HasPart d.below facts need) → b ≡ true
    pair_by number cell fact e h true asks = refl
    pair_by number cell fact e h false asks =
        let apart : apart_in (fact_at facts k) number cell ≡ true = asks (Apart k number cell, Mark true) (in_first (Apart k number cell, Mark true) []) refl in
        let none : not (has_pair fact number cell) ≡ true = subst (λ (o : Option (PointFact I)). apart_in o number cell ≡ true) e apart in
        absurd (true≢false (sym none ∙ ap not h))

    arrived_pair : (r i : ℕ) → SameAt d p facts k r i → IsPairIn d p facts f flow r i
    arrived_pair r i (fact, g, number, cell, there, at, e, h, pair) =
        let is : register_number f r ≡ Some number = ap (λ (x : Func). register_number x r) (sym (one_function k g f at function)) ∙ e in
        let l : number < count = slice_get_within (registers f) number r (register_there f r number is) in
        let m : cell < cell_count = slice_get_within (tracked p) cell i (tracked_there p i cell h) in
        (number, cell, is, h, pair_by number cell fact there pair (flow.pair number cell) (pair_asked number cell l m))

    reached_by : HasFlag flow → IsReachedAt d p facts k
    reached_by (inl off) = let b = arrived_flag false off in (b.0, b.1)
    reached_by (inr on) = let b = arrived_flag true on in (b.0, b.1)

    pub arrives : HasFlag flow → Arrives d p facts k f flow
    arrives flag = record { reached = reached_by flag; flags = arrived_flag; locals = arrived_local; cells = arrived_cell; pairs = arrived_pair }

  -- ---- what several let flow to a point

  module _ (k : ℕ) (f : Func) (flows : List (Flowing I)) (flow one : Flowing I) (joined : IsJoined d.below flows flow) (among : Contains flows one) where
    upper_by : (get : Flowing I → Option (Abs I)) (z : Option (Abs I)) (w : Value) → IsLeastOver d.below (map get flows) z → Held (get one) w → Held z w
    upper_by get None w h k = absurd (h k.0 (subst (Contains (map get flows)) k.1 (in_map get flows one among)))
    upper_by get (Some z) w h k = let u = h.0 k.0 (subst (Contains (map get flows)) k.1 (in_map get flows one among)) in (z, refl, below_gives d all k.0 z (Some w) u.1 k.2)

    joined_flag : (on : Bool) → flag_in one on ≡ true → flag_in flow on ≡ true
    joined_flag true h = joined.on ∙ any_of (λ (a : Flowing I). a.on) flows one among h
    joined_flag false h = joined.off ∙ any_of (λ (a : Flowing I). a.off) flows one among h

    pub joined_has_flag : HasFlag one → HasFlag flow
    joined_has_flag (inl h) = inl (joined_flag false h)
    joined_has_flag (inr h) = inr (joined_flag true h)

    joined_pair : (r i : ℕ) → IsPairIn d p facts f flow r i → IsPairIn d p facts f one r i
    joined_pair r i (number, cell, e, h, pair) = (number, cell, e, h, each_of (λ (a : Flowing I). a.pair number cell) flows one among (sym (joined.pairs number cell) ∙ pair))

    -- each of them arrives there
    pub joined_arrives : Arrives d p facts k f flow → Arrives d p facts k f one
    joined_arrives a = record {
      reached = a.reached;
      flags = λ on h. a.flags on (joined_flag on h);
      locals = λ r number w e h. a.locals r number w e (upper_by (λ (x : Flowing I). x.local number) (flow.local number) w (joined.locals number) h);
      cells = λ i number w e h. a.cells i number w e (upper_by (λ (x : Flowing I). x.cell number) (flow.cell number) w (joined.cells number) h);
      pairs = λ r i h. joined_pair r i (a.pairs r i h);
    }

  -- ---- from a point to another one

  module _ (n k : ℕ) (f : Func) (fact : PointFact I) (known : IsKnown d p facts n f fact) (flow : Flowing I) (there : Arrives d p facts k f flow) where
    pub flows_of : (register object : Option ℕ) → Keeps d p facts f fact register object flow → Flows p v n k register object
    flows_of register object keeps = record {
      reached = there.reached;
      locals = λ r w other h. (let x = known_local n f fact known r w h in there.locals r x.0 w x.1 (keeps.locals r x.0 w other x.1 x.2));
      cells = λ i w other h. (let x = known_cell n f fact known i w h in there.cells i x.0 w x.1 (keeps.cells i x.0 w other x.1 x.2));
      sames = λ r i other h.
          (let x = there.pairs r i h in
          let y = keeps.pairs r i x.0 x.1 other x.2 x.3 x.4 in
          (known_same n f fact known r i x.0 x.1 x.2 x.3 y.0, y.1));
    }

    flag_kept : (on : Bool) → KeepsFlags d p facts fact flow → flag_in (of_fact fact) on ≡ true → flag_in flow on ≡ true
    flag_kept true keeps h = keeps.on h
    flag_kept false keeps h = keeps.off h

    pub keeps_flag : KeepsFlags d p facts fact flow → KeepsFlag p v n k
    keeps_flag keeps b h = there.flags b (flag_kept b keeps (known_flag n f fact known b h))

    -- a flag that flows there
    pub flag_at : (on : Bool) → flag_in flow on ≡ true → v.may_be k on
    flag_at on h = there.flags on h

  -- to the entry of a function, with the cells of the point and without pairs
  pub opens_of : (n id h k : ℕ) (f g : Func) (fact : PointFact I) (flow : Flowing I) (flag : Bool → Type 0) → IsKnown d p facts n f fact → Arrives d p facts k g flow → ((b : Bool) → flag b → flag_in flow b ≡ true) →
      ((number : ℕ) → flow.cell number ≡ cell_of fact number) → ((number cell : ℕ) → flow.pair number cell ≡ false) → Opens p v id n h k flag
  opens_of n id h k f g fact flow flag known there flags cells pairs = record {
    reached = there.reached;
    flags = λ b x. there.flags b (flags b x);
    cells = λ i w x. (let y = known_cell n f fact known i w x in there.cells i y.0 w y.1 (subst (λ (o : Option (Abs I)). Held o w) (sym (cells y.0)) y.2));
    sames = λ r i x. (let y = there.pairs r i x in true≢false (sym y.4 ∙ pairs y.0 y.1));
  }

  -- ---- what statements let flow keeps the rest

  module _ (f : Func) (fact : PointFact I) where
    abbrev here : Flowing I
    here = of_fact fact

    abbrev KeepsBut : Option ℕ → Option ℕ → Flowing I → Type 0
    KeepsBut register object flow = Keeps d p facts f fact register object flow

    none_other : {C : Type 0} (i : ℕ) → None ≡ Some i → C
    none_other i e = absurd (cc)

    pub keeps_all : KeepsBut None None here
    keeps_all = record { locals = λ r number w other e h. h; cells = λ i number w other e h. h; pairs = λ r i number cell other e h k. (k, λ z. none_other i z) }

    pub keeps_flags : KeepsFlags d p facts fact here
    keeps_flags = record { off = λ e. e; on = λ e. e }

    -- other flags
    pub with_flags_keeps : (off on : Bool) (register object : Option ℕ) (flow : Flowing I) → KeepsBut register object flow → KeepsBut register object (with_flags off on flow)
    with_flags_keeps off on register object flow keeps = record { locals = keeps.locals; cells = keeps.cells; pairs = keeps.pairs }

    -- a register that has another set
    module _ (r number : ℕ) (is : register_number f r ≡ Some number) (y : Abs I) where
      other_number : (q m : ℕ) → (Some r ≡ Some q → ⊥) → register_number f q ≡ Some m → (m == number) ≡ false
      other_number q m other e = differ m number (λ same. other (ap Some (sym (one_register f r q number is (subst (λ (z : ℕ). register_number f q ≡ Some z) same e)))))

      local_other : (m : ℕ) (w : Value) → (m == number) ≡ false → Held (local_of fact m) w → Held ((with_local number y here).local m) w
      local_other m w e h = subst (λ (b : Bool). Held (if b then Some y else local_of fact m) w) (sym e) h

      pub with_local_keeps : KeepsBut (Some r) None (with_local number y here)
      with_local_keeps = record {
        locals = λ q m w other e h. local_other m w (other_number q m other e) h;
        cells = λ i m w other e h. h;
        pairs = λ q i m cell other e h k. ((both_true (not (m == number)) (has_pair fact m cell) k).1, λ z. none_other i z);
      }

      -- it has that set
      pub with_local_has : (w : Value) → HasValue d.has y w → Held ((with_local number y here).local number) w
      with_local_has w h = subst (λ (b : Bool). Held (if b then Some y else local_of fact number) w) (sym (eq-eqb number number refl)) (y, refl, h)

      other_pair : (m cell j : ℕ) → (m == number) ≡ false → ((m == number && j == cell) || (not (m == number) && has_pair fact m j)) ≡ true → has_pair fact m j ≡ true
      other_pair m cell j e h = (both_true (not (m == number)) (has_pair fact m j) (by_or (m == number) (j == cell) (not (m == number) && has_pair fact m j) e h)).1
        where
          by_or : (a b c : Bool) → a ≡ false → ((a && b) || c) ≡ true → c ≡ true
          by_or true b c e h = absurd (true≢false e)
          by_or false b c e h = h

      -- and may be the same as a tracked cell
      pub with_pair_keeps : (cell : Option ℕ) → KeepsBut (Some r) None (with_pair number cell (with_local number y here))
      with_pair_keeps None = with_local_keeps
      with_pair_keeps (Some cell) = record {
        locals = λ q m w other e h. local_other m w (other_number q m other e) h;
        cells = λ i m w other e h. h;
        pairs = λ q i m j other e h k. (other_pair m cell j (other_number q m other e) k, λ z. none_other i z);
      }

      pub with_pair_has : (cell : Option ℕ) (w : Value) → HasValue d.has y w → Held ((with_pair number cell (with_local number y here)).local number) w
      with_pair_has None w h = with_local_has w h
      with_pair_has (Some cell) w h = with_local_has w h

      pub with_pair_flag : (cell : Option ℕ) → HasFlag here → HasFlag (with_pair number cell (with_local number y here))
      with_pair_flag None h = h
      with_pair_flag (Some cell) h = h

      pub with_pair_flags : (cell : Option ℕ) → KeepsFlags d p facts fact (with_pair number cell (with_local number y here))
      with_pair_flags None = record { off = λ e. e; on = λ e. e }
      with_pair_flags (Some cell) = record { off = λ e. e; on = λ e. e }

      -- the pairs of the register itself
      pub with_local_pair : (i : ℕ) → IsPairIn d p facts f (with_local number y here) r i → ⊥
      with_local_pair i (m, cell, e, h, pair) =
          let same : m ≡ number = same_Some m number (sym e ∙ is) in
          no_own m cell same (both_true (not (m == number)) (has_pair fact m cell) pair).0
        where
          no_own : (m cell : ℕ) → m ≡ number → not (m == number) ≡ true → ⊥
          no_own m cell same h = true≢false (sym h ∙ ap not (eq-eqb m number same))

      pub with_pair_pair : (cell : Option ℕ) (i : ℕ) → IsPairIn d p facts f (with_pair number cell (with_local number y here)) r i → (j : ℕ) × (cell ≡ Some j) × (tracked_number p i ≡ Some j)
      with_pair_pair None i h = absurd (with_local_pair i h)
      with_pair_pair (Some cell) i (m, j, e, h, pair) = by (m == number && j == cell) refl pair
        where
          by : (b : Bool) → (m == number && j == cell) ≡ b → (b || (not (m == number) && has_pair fact m j)) ≡ true → (j : ℕ) × (Some cell ≡ Some j) × (tracked_number p i ≡ Some j)
          by true t k = (cell, refl, h ∙ ap Some (eqb-true j cell (both_true (m == number) (j == cell) t).1))
          by false t k = absurd (with_local_pair i (m, j, e, h, k))

    pub with_cell_flag : (cell : Option ℕ) (y : Abs I) → HasFlag here → HasFlag (with_cell cell y here)
    with_cell_flag None y h = h
    with_cell_flag (Some cell) y h = h

    pub with_cell_flags : (cell : Option ℕ) (y : Abs I) → KeepsFlags d p facts fact (with_cell cell y here)
    with_cell_flags None y = record { off = λ e. e; on = λ e. e }
    with_cell_flags (Some cell) y = record { off = λ e. e; on = λ e. e }

    -- a tracked cell that has another set, where it is one
    pub no_cell_keeps : (i : ℕ) → tracked_number p i ≡ None → KeepsBut None (Some i) here
    no_cell_keeps i none = record {
      locals = λ r m w other e h. h;
      cells = λ j m w other e h. h;
      pairs = λ r j m cell other e h k. (k, λ z. (let same : i ≡ j = same_Some i j z in let no : None ≡ Some cell = sym none ∙ ap (tracked_number p) same ∙ h in none_other cell no));
    }

    module _ (i number : ℕ) (is : tracked_number p i ≡ Some number) (y : Abs I) where
      other_cell : (j m : ℕ) → (Some i ≡ Some j → ⊥) → tracked_number p j ≡ Some m → (m == number) ≡ false
      other_cell j m other e = differ m number (λ same. other (ap Some (sym (one_tracked p i j number is (subst (λ (z : ℕ). tracked_number p j ≡ Some z) same e)))))

      same_cell : (j m : ℕ) → i ≡ j → tracked_number p j ≡ Some m → m ≡ number
      same_cell j m same e = same_Some m number (sym e ∙ ap (tracked_number p) (sym same) ∙ is)

      not_own : (m : ℕ) → m ≡ number → not (m == number) ≡ true → ⊥
      not_own m same h = true≢false (sym h ∙ ap not (eq-eqb m number same))

      pub with_cell_keeps : KeepsBut None (Some i) (with_cell (Some number) y here)
      with_cell_keeps = record {
        locals = λ r m w other e h. h;
        cells = λ j m w other e h. subst (λ (b : Bool). Held (if b then Some y else cell_of fact m) w) (sym (other_cell j m other e)) h;
        pairs = λ r j m cell other e h k.
            (let b = both_true (not (cell == number)) (has_pair fact m cell) k in
            (b.1, λ z. not_own cell (same_cell j cell (same_Some i j z) h) b.0));
      }

      pub with_cell_has : (w : Value) → HasValue d.has y w → Held ((with_cell (Some number) y here).cell number) w
      with_cell_has w h = subst (λ (b : Bool). Held (if b then Some y else cell_of fact number) w) (sym (eq-eqb number number refl)) (y, refl, h)
