-- `place = operand`: at its point facts have what it asks.
use Rattle.std.proofs.Common.{◌≡◌, inl, inr, ℕ, Bool, true, false, List, [], ◌∷◌, map, Contains, Option, Some, None, refl, sym, ap, subst, ◌∙◌, slice_get}
use Rattle.std.specs.Prelude.{option_and_then, if◌then◌else◌}
use Rattle.std.proofs.lemmas.List.Elements.{All-contains, Contains-append_right}
use Rattle.std.proofs.lemmas.Option.{same_Some}
use Rattle.cc_state_values_sound.specs.CcEval.Context.{object_type, reached}
use Rattle.cc_state_values_sound.specs.CcEval.declared.spots.Spot.{Spot}
use Rattle.cc_rules.specs.CcFlow.declared.types.Point.{Point}
use Rattle.cc_rules.specs.CcFlow.Points.{flow_of}
use Rattle.cc_rules.specs.CcFlowSound.Statements.{statement_at}
use Rattle.cc_state_values_sound.specs.CcPlaces.declared.abs.Abs.{Abs}
use Rattle.cc_state_values_sound.specs.CcPlaces.Abstract.{HasValue}
use Rattle.cc_program.specs.declared.expr.Expr.{Expr}
use Rattle.cc_program.specs.declared.expr.Place.{Place, out-Place}
use Rattle.cc_program.specs.declared.func.Func.{Func}
use Rattle.cc_program.specs.declared.program.Program.{Program}
use Rattle.cc_program.specs.declared.stmt.Stmt.{Stmt}
use Rattle.cc_program.specs.declared.value.Cell.TheVariants as cell
use Rattle.cc_program.specs.declared.value.Cell.{Cell}
use Rattle.cc_program.specs.declared.value.Part.{Part}
use Rattle.cc_program.specs.declared.value.Root.TheVariants as root
use Rattle.cc_program.specs.declared.value.Value.{Value}
use Rattle.cc_proof_covers.specs.Rules.{Flows, KeepsFlag}
use Rattle.cc_proof_covers.specs.Views.{View}
use Rattle.cc_proof_rules.proofs.Arrivals.{has_more, with_cell_flag, with_cell_flags, with_cell_keeps, with_cell_has, no_cell_keeps, keeps_all}
use Rattle.cc_proof_rules.proofs.Asked.{WriteOf, write_of_act, TouchOf, touch_of_act}
use Rattle.cc_proof_rules.proofs.Cells.{led_memory, led_class, led_static, leads_to, named_cell, tracked_place}
use Rattle.cc_proof_rules.proofs.Keyed.{static_numbered, local_key_numbered}
use Rattle.cc_proof_rules.proofs.Keys.{key_end}
use Rattle.cc_proof_rules.proofs.Lists.{contains_at, in_first, in_rest, no_member, first_or_rest, in_map}
use Rattle.cc_proof_rules.proofs.Asks.{write_met, touch_met}
use Rattle.cc_proof_rules.proofs.Numbered.{some_is, key_at}
use Rattle.cc_proof_rules.proofs.Paths.{one_place}
use Rattle.cc_proof_rules.proofs.PlaceReads.{class_listed, function_there}
use Rattle.cc_proof_rules.proofs.Statements.{here_flag, own_point, the_act, held, IsFlow, flowing, arriving, flows_same, flag_same}
use Rattle.cc_proof_rules.specs.Arrivals.{Arrives, Keeps}
use Rattle.cc_proof_rules.specs.Operands.{Holds, IsLed, LeadsAt}
use Rattle.cc_rules.specs.Rules.{act_at, AreNumbers, AreKeys, writes, IsSolution}
use Rattle.cc_rules.specs.CcRulesFlows.Acts.{Act, Writes, act_of}
use Rattle.cc_rules.specs.CcRulesFlows.Nexts.{statement_of}
use Rattle.cc_rules.specs.CcRulesNeeds.Flowing.{Flowing, of_fact, with_cell}
use Rattle.cc_rules.specs.CcRulesNeeds.Needs.{Needs, Has as HasPart}
use Rattle.cc_rules.specs.CcRulesNeeds.declared.needs.Part.{Part as NeedPart}
use Rattle.cc_rules.specs.CcRulesNeeds.declared.needs.Part.TheVariants.{Mark, LevelSet, Values}
use Rattle.cc_rules.specs.CcRulesNeeds.declared.needs.Slot.{Slot}
use Rattle.cc_rules.specs.CcRulesNeeds.declared.needs.Slot.TheVariants.{Whole, HandlerWrites, WriteLevels}
use Rattle.cc_state.specs.Shape.{HaveShape}
use Rattle.cc_state.specs.View.{IsLevelIn, Has, InWhole, view}
use Rattle.cc_rules.specs.CcStateFacts.declared.facts.Facts.{Facts}
use Rattle.cc_rules.specs.CcStateFacts.declared.facts.Key.{Key}
use Rattle.cc_rules.specs.CcStateFacts.declared.facts.Key.TheVariants as key
use Rattle.cc_rules.specs.CcStateFacts.declared.facts.PointFact.{PointFact}
use Rattle.cc_rules.specs.CcStateFacts.Facts.{fact_at, levels_of}
use Rattle.cc_rules.specs.CcStateKeys.Keys.{keys_of, cell_key, key_number}
use Rattle.cc_rules.specs.CcStateKeys.Paths.{LeadsTo}
use Rattle.cc_rules.specs.CcStateKeys.Tracked.{tracked_number}
use Rattle.cc_state_values_sound.specs.CcStateOperators.Domains.{Domain}
use Rattle.cc_rules.specs.CcStateReads.Named.{AreClasses}
use Rattle.cc_rules.specs.CcStateReads.Reads.{registers_at, tracked_in}
use Rattle.cc_state_values_sound.proofs.Choices.{GivesAll}
use Rattle.cc_state_values_sound.specs.CcStates.Typed.{is_register_in}
use Rattle.cc_state_values_sound.specs.CcSteps.Step.{cell_position}
use Rattle.cc_state_values_sound.specs.CcSyntax.Programs.{place_type}
use Rattle.cc_state_values_sound.specs.CcSyntax.Registers.{is_register}
use Rattle.cc_state_values_sound.specs.CcSyntax.Types.{IsInOrder}
use Rattle.cc_state_values_sound.specs.CcSyntax.Values.{ValueType, PlaceType, read_from}

none_other : {C : Type 0} (j : ℕ) → None ≡ Some j → C
none_other j e = absurd (cc)

module _ {I : Type 0} (d : Domain I) (all : GivesAll d) (p : Program) (order : IsInOrder p.structures) (facts : Facts I) (solution : IsSolution d p facts) (shape : HaveShape d p facts) (n : ℕ) (q : Point) (f : Func) (fact : PointFact I)
    (numbered : slice_get (flow_of p).points n ≡ Some q) (function : slice_get p.funcs q.func ≡ Some f) (there : fact_at facts n ≡ Some fact) (s : Stmt) (stands : statement_at f.body q.path ≡ Some s) (k : ℕ) (next : Contains q.next k) (b : Place) (x : Expr)
    (acts : act_of f s ≡ Writes b x) where
  abbrev v : View
  v = view d p facts

  abbrev here : Flowing I
  here = of_fact fact

  abbrev act : Act
  act = Writes b x

  -- ---- the flow

  abbrev got : IsFlow d all p facts solution shape n q f fact numbered function there s stands act acts
  got = flowing d all p facts solution shape n q f fact numbered function there s stands act acts

  abbrev set : Abs I
  set = got.2.0

  abbrev cell_written : Option ℕ
  cell_written = tracked_in p (out-Place b)

  abbrev write_flow : Flowing I
  write_flow = with_cell cell_written set here

  arrived : Arrives d p facts k f write_flow
  arrived =
      arriving d all p facts solution shape n q f fact numbered function there s stands act acts got k next write_flow
      (with_cell_flag d all p facts f fact cell_written set (here_flag d all p facts solution shape n q f fact numbered function there s stands)) got.2.2

  pub writes_flag : KeepsFlag p v n k
  writes_flag = flag_same d all p facts solution shape n q f fact numbered function there s stands k write_flow arrived (with_cell_flags d all p facts f fact cell_written set)

  flows_by : (object : Option ℕ) → Keeps d p facts f fact None object write_flow → Flows p v n k None object
  flows_by object keeps = flows_same d all p facts solution shape n q f fact numbered function there s stands k write_flow arrived None object keeps

  -- no tracked cell is written
  pub flows_none : cell_written ≡ None → Flows p v n k None None
  flows_none none = flows_by None (subst (λ (c : Option ℕ). Keeps d p facts f fact None None (with_cell c set here)) (sym none) (keeps_all d all p facts f fact))

  pub flows_untracked : (i : ℕ) → cell_written ≡ None → tracked_number p i ≡ None → Flows p v n k None (Some i)
  flows_untracked i none untracked = flows_by (Some i) (subst (λ (c : Option ℕ). Keeps d p facts f fact None (Some i) (with_cell c set here)) (sym none) (no_cell_keeps d all p facts f fact i untracked))

  pub flows_tracked : (i number : ℕ) → cell_written ≡ Some number → tracked_number p i ≡ Some number → Flows p v n k None (Some i)
  flows_tracked i number some is = flows_by (Some i) (subst (λ (c : Option ℕ). Keeps d p facts f fact None (Some i) (with_cell c set here)) (sym some) (with_cell_keeps d all p facts f fact i number is set))

  pub cell_value : (i number : ℕ) (w : Value) → cell_written ≡ Some number → tracked_number p i ≡ Some number → Holds d p facts n x w → v.cell k i w
  cell_value i number w some is h =
      let value : HasValue d.has set w = held d all p facts solution shape n q f fact numbered function there s stands x w set h got.2.1 in
      arrived.cells i number w is
      (subst (λ (c : Option ℕ). Has d p facts ((with_cell c set here).cell number) w) (sym some) (with_cell_has d all p facts f fact i number is set w value))

  -- ---- the sets of the whole run

  number_in : (keys : List Key) (ks : List ℕ) → AreNumbers d p facts n q.func f q fact keys ks → (key : Key) → Contains keys key → (number : ℕ) → key_number p key ≡ Some number → Contains ks number
  number_in [] ks h key c number e = no_member key c
  number_in (y ∷ keys) ks (m, rest, is, more, split) key c number e =
      subst (λ (l : List ℕ). Contains l number) (sym split)
      (elim (first_or_rest y keys key c) [
        | inl same ↦ subst (λ (z : ℕ). Contains (m ∷ rest) z) (same_Some m number (sym is ∙ ap (key_number p) same ∙ e)) (in_first m rest)
        | inr r ↦ in_rest m rest number (number_in keys rest more key r number e)
      ])

  -- the number of the key of the cell is among those that are asked for
  module _ (key : Key) (number : ℕ) (is : key_number p key ≡ Some number) (class : (classes : List Key) → AreClasses d p q.func f (registers_at facts f n) b classes → Contains classes key) where
    abbrev IsNamed : List ℕ → Type 0
    IsNamed ks = Contains ks number

    named_number : (ks : List ℕ) → AreKeys d p facts n q.func f q fact b ks → IsNamed ks
    named_number ks (keys, (classes, are, filtered), numbers) =
        number_in keys ks numbers key
        (subst (λ (l : List Key). Contains l key) (sym filtered) (class_listed p facts classes key (class classes are) (contains_at (keys_of p) number key (key_at p key number is)))) number is

    pub in_whole : (w : Value) → Holds d p facts n x w → InWhole d p facts key w
    in_whole w h =
        let m = write_met d all p facts solution n q f fact numbered function there in
        let g = subst (λ (z : Act). WriteOf d p q.func f facts q n fact z m.0) (the_act d all p facts solution shape n q f fact numbered function there s stands act acts)
        (write_of_act d p q.func f facts q n fact (act_at (statement_of f q) f) m.0 m.1) in
        let need : Slot × NeedPart I = (Whole number, Values (Some g.0)) in
        let asked : Contains m.0 need =
        subst (λ (z : Needs I). Contains z need) (sym g.4) (in_map (λ (j : ℕ). (Whole j, Values (Some g.0))) g.1 number (named_number g.1 g.3)) in
        let has : HasPart d.below facts need = All-contains (HasPart d.below facts) m.0 need m.2 asked in
        let value : HasValue d.has g.0 w = held d all p facts solution shape n q f fact numbered function there s stands x w g.0 h g.2 in
        let more = has_more d all p facts (Some g.0) (slice_get facts.whole number) w has (g.0, refl, value) in
        (more.0, ap (option_and_then (slice_get facts.whole)) is ∙ more.1, more.2)

    -- the levels of the handlers from which the function is reached
    pub in_levels : (level : ℕ) → v.reached_from q.func level → IsLevelIn (levels_of facts.write_levels number) level
    in_levels level (mark, (below, has_it)) =
        let m = touch_met d all p facts solution n q f fact numbered function there in
        let g = subst (λ (z : Act). TouchOf d p q.func f facts q n fact z m.0) (the_act d all p facts solution shape n q f fact numbered function there s stands act acts)
        (touch_of_act d p q.func f facts q n fact (act_at (statement_of f q) f) m.0 m.1) in
        let need : Slot × NeedPart I = (WriteLevels number, LevelSet (levels_of facts.from q.func)) in
        let all_asked : m.0 ≡ writes d p facts n q.func f q fact g.0 = g.2 ∙ ap (λ (z : Bool). if z then writes d p facts n q.func f q fact g.0 else []) mark in
        let listed : Contains (writes d p facts n q.func f q fact g.0) need =
        Contains-append_right (map (λ (j : ℕ). (HandlerWrites j, Mark true)) g.0) (map (λ (j : ℕ). (WriteLevels j, LevelSet (levels_of facts.from q.func))) g.0) need
        (in_map (λ (j : ℕ). (WriteLevels j, LevelSet (levels_of facts.from q.func))) g.0 number (named_number g.0 g.1)) in
        let has : HasPart d.below facts need = All-contains (HasPart d.below facts) m.0 need m.2 (subst (λ (z : Needs I). Contains z need) (sym all_asked) listed) in
        (below, has level has_it)

  -- ---- the cell

  module _ (spot : Option Spot) (leads : LeadsAt d p facts n b spot) (to : Cell) (reaches : reached p (place_type p f.locals b) spot ≡ Some to) (u : PlaceType) (t : ValueType) (typed : place_type p f.locals b ≡ Some u) (reads : read_from u ≡ Some t) where
    abbrev led : IsLed d p facts n q.func f b spot
    led = leads q.func f q (own_point d all p facts solution shape n q f fact numbered function there s stands)

    -- no tracked cell, where it is another one than what a tracked place names
    untracked_by : (o : Option ℕ) → cell_written ≡ o → ((i j : ℕ) → to ≡ cell.At (root.Static i) [] → tracked_number p i ≡ Some j → ⊥) → cell_written ≡ None
    untracked_by None e h = e
    untracked_by (Some j) e h =
        let i = tracked_place p (out-Place b) j e in
        absurd (h i.0 j (named_cell d p facts n q.func f b spot led to reaches i.0 i.1) i.2)

    untracked : ((i j : ℕ) → to ≡ cell.At (root.Static i) [] → tracked_number p i ≡ Some j → ⊥) → cell_written ≡ None
    untracked h = untracked_by cell_written refl h

    pub device_flows : (j : ℕ) → to ≡ cell.Device j → Flows p v n k None None
    device_flows j is = flows_none (untracked (λ i number e h. (let z : cell.At (root.Static i) [] ≡ cell.Device j = sym e ∙ is in cc)))

    module _ (i : ℕ) (path : List Part) (is : to ≡ cell.At (root.Static i) path) where
      its_path : LeadsTo p (root.Static i) path (cell_position p (root.Static i) path)
      its_path = leads_to d p facts n q.func f b spot led to reaches (root.Static i) path is u t typed reads

      same_static : (j : ℕ) → to ≡ cell.At (root.Static j) [] → i ≡ j
      same_static j e = let z : cell.At (root.Static i) path ≡ cell.At (root.Static j) [] = sym is ∙ e in cc

      static_by : (o : Option ℕ) → tracked_number p i ≡ o → Flows p v n k None (Some i)
      static_by None e = flows_untracked i (untracked (λ j number h g. none_other number (sym e ∙ ap (tracked_number p) (same_static j h) ∙ g))) e
      static_by (Some number) e =
          let named = led.tracked u typed i number (led_static d p facts n q.func f b spot led to reaches (root.Static i) path is i refl) e in
          flows_tracked i number (ap (tracked_in p) named ∙ e) e

      pub static_flows : Flows p v n k None (Some i)
      static_flows = static_by (tracked_number p i) refl

      pub static_value : (w : Value) → Holds d p facts n x w → v.static_at i (cell_position p (root.Static i) path) w
      static_value w h other to_other =
          let same : path ≡ other = one_place p order (root.Static i) path other (cell_position p (root.Static i) path) its_path to_other in
          let number = static_numbered p i path (cell_position p (root.Static i) path) its_path in
          subst (λ (z : List Part). InWhole d p facts (cell_key p (root.Static i) z) w) same
          (in_whole (cell_key p (root.Static i) path) number.0 number.1 (λ classes are. led_class d p facts n q.func f b spot led to reaches (root.Static i) path is classes are) w h)

      pub static_tracked : (w : Value) → Holds d p facts n x w → v.tracked i ≡ true → (cell_position p (root.Static i) path ≡ 0) × v.cell k i w × ((l : ℕ) → v.reached_from q.func l → v.written_by i l)
      static_tracked w h tracked =
          let number = some_is (tracked_number p i) tracked in
          let named = led.tracked u typed i number.0 (led_static d p facts n q.func f b spot led to reaches (root.Static i) path is i refl) number.1 in
          let whole : cell.At (root.Static i) path ≡ cell.At (root.Static i) [] = sym is ∙ named_cell d p facts n q.func f b spot led to reaches i named in
          let empty : path ≡ [] = cc in
          let key_is : cell_key p (root.Static i) path ≡ key.Object i = ap (cell_key p (root.Static i)) empty ∙ key_end p.structures (object_type p (root.Static i)) (key.Object i) in
          let kn = static_numbered p i path (cell_position p (root.Static i) path) its_path in
          let object_number : key_number p (key.Object i) ≡ Some kn.0 = ap (key_number p) (sym key_is) ∙ kn.1 in (
            ap (cell_position p (root.Static i)) empty,
            cell_value i number.0 w (ap (tracked_in p) named ∙ number.1) number.1 h,
            λ l from. (
              kn.0,
              object_number,
              in_levels (cell_key p (root.Static i) path) kn.0 kn.1 (λ classes are. led_class d p facts n q.func f b spot led to reaches (root.Static i) path is classes are) l from,
            ),
          )

    module _ (number g r : ℕ) (path : List Part) (is : to ≡ cell.At (root.Auto number g r) path) where
      own_path : LeadsTo p (root.Auto number g r) path (cell_position p (root.Auto number g r) path)
      own_path = leads_to d p facts n q.func f b spot led to reaches (root.Auto number g r) path is u t typed reads

      pub local_flows : Flows p v n k None None
      local_flows = flows_none (untracked (λ i j e h. (let z : cell.At (root.Static i) [] ≡ cell.At (root.Auto number g r) path = sym e ∙ is in cc)))

      pub local_other : (h : Func) → slice_get p.funcs g ≡ Some h → is_register h r ≡ false
      local_other h e = sym (ap (λ (o : Option Func). is_register_in o r) e) ∙ led_memory d p facts n q.func f b spot led to reaches (root.Auto number g r) path is

      -- a path leads in objects of all activations alike
      pub local_value : (w : Value) → Holds d p facts n x w → v.local_at g r (cell_position p (root.Auto number g r) path) w
      local_value w h other_number other to_other =
          let same : path ≡ other = one_place p order (root.Auto number g r) path other (cell_position p (root.Auto number g r) path) own_path to_other in
          let its = function_there d all p facts solution shape n q f fact numbered function there s stands b spot leads to reaches u t typed reads number g r path own_path in
          let kn = local_key_numbered p number g r path (cell_position p (root.Auto number g r) path) its.0 its.1 (local_other its.0 its.1) own_path in
          subst (λ (z : List Part). InWhole d p facts (cell_key p (root.Auto other_number g r) z) w) same
          (in_whole (cell_key p (root.Auto number g r) path) kn.0 kn.1 (λ classes are. led_class d p facts n q.func f b spot led to reaches (root.Auto number g r) path is classes are) w h)
