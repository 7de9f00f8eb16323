-- `register = place`: at its point facts have what it asks.
use Rattle.std.proofs.Common.{◌≡◌, ℕ, true, false, true≢false, List, [], Contains, Option, Some, None, refl, sym, ap, subst, ◌∙◌, slice_get}
use Rattle.std.specs.Prelude.{is_some, option_and_then}
use Rattle.std.specs.List.{filter}
use Rattle.std.proofs.lemmas.Option.{same_Some}
use Rattle.cc_state_values_sound.specs.CcEval.Context.{local_type, reached}
use Rattle.cc_state_values_sound.specs.CcEval.declared.spots.Spot.{Spot}
use Rattle.cc_rules.specs.CcFlow.declared.types.Point.{Point}
use Rattle.cc_rules.specs.CcFlow.Points.{flow_of}
use Rattle.cc_rules.specs.CcFlowSound.Statements.{statement_at}
use Rattle.cc_program.proofs.CcNum.Conversions.{converted-IsValueOf}
use Rattle.cc_program.specs.CcNum.Integers.{IsValueOf, converted}
use Rattle.cc_state_values_sound.specs.CcPlaces.declared.abs.Abs.{Abs}
use Rattle.cc_state_values_sound.specs.CcPlaces.declared.abs.Abs.TheVariants as abs
use Rattle.cc_state_values_sound.specs.CcPlaces.Abstract.{HasValue}
use Rattle.cc_program.specs.declared.expr.Place.{Place, out-Place}
use Rattle.cc_program.specs.declared.func.Func.{Func}
use Rattle.cc_program.specs.declared.object.Device.{Device}
use Rattle.cc_program.specs.declared.program.Program.{Program}
use Rattle.cc_program.specs.declared.stmt.Stmt.{Stmt}
use Rattle.cc_program.specs.declared.value.Cell.TheVariants as cell
use Rattle.cc_program.specs.declared.value.Cell.{Cell}
use Rattle.cc_program.specs.declared.value.Part.{Part}
use Rattle.cc_program.specs.declared.value.Root.TheVariants as root
use Rattle.cc_program.specs.declared.value.Root.{Root}
use Rattle.cc_program.specs.declared.value.Value.{Value}
use Rattle.cc_proof_covers.specs.Covers.{IsDeviceValue}
use Rattle.cc_proof_covers.specs.Rules.{Flows, KeepsFlag}
use Rattle.cc_proof_covers.specs.Views.{View}
use Rattle.cc_proof_rules.proofs.Arrivals.{known_cell, one_tracked, with_pair_keeps, with_pair_has, with_pair_flag, with_pair_flags, with_pair_pair}
use Rattle.cc_proof_rules.proofs.Cells.{led_device, led_memory, led_class, led_static, leads_to, named_cell, device_cell, tracked_place, device_place}
use Rattle.cc_proof_rules.proofs.Lists.{in_filter, any_of, contains_at}
use Rattle.cc_proof_rules.proofs.Numbered.{some_is, key_at}
use Rattle.cc_proof_rules.proofs.Positions.{is_itself}
use Rattle.cc_proof_rules.proofs.Statements.{known, here_flag, own_point, IsFlow, flowing, arriving, flows_same, flag_same}
use Rattle.cc_proof_rules.specs.Arrivals.{Arrives}
use Rattle.cc_proof_rules.specs.Operands.{IsLed, LeadsAt}
use Rattle.cc_rules.specs.Rules.{IsSolution}
use Rattle.cc_rules.specs.CcRulesFlows.Acts.{Reads, act_of}
use Rattle.cc_rules.specs.CcRulesNeeds.Flowing.{Flowing, of_fact, with_local, with_pair}
use Rattle.cc_state.specs.Shape.{HaveShape}
use Rattle.cc_state.specs.View.{InWhole, view}
use Rattle.cc_rules.specs.CcStateFacts.declared.facts.Facts.{Facts}
use Rattle.cc_rules.specs.CcStateFacts.declared.facts.Key.{Key}
use Rattle.cc_rules.specs.CcStateFacts.declared.facts.PointFact.{PointFact}
use Rattle.cc_rules.specs.CcStateFacts.Facts.{fact_at, cell_at, cell_of}
use Rattle.cc_rules.specs.CcStateKeys.Keys.{keys_of, cell_key, is_key, key_number}
use Rattle.cc_rules.specs.CcStateKeys.Paths.{LeadsTo}
use Rattle.cc_rules.specs.CcStateKeys.Tracked.{tracked_number}
use Rattle.cc_state_values_sound.specs.CcStateOperators.Domains.{Domain}
use Rattle.cc_rules.specs.CcStateReads.Named.{is_among}
use Rattle.cc_rules.specs.CcStateReads.Reads.{registers_at, whole_of, tracked_in, device_number, IsOfDevice, IsByKeys, IsRead, OfTracked, OfDevice, OfOther}
use Rattle.cc_state_values_sound.proofs.Choices.{GivesAll, below_gives}
use Rattle.cc_state_values_sound.specs.CcStates.Typed.{is_register_in}
use Rattle.cc_state_values_sound.specs.CcSteps.Step.{cell_position}
use Rattle.cc_state_values_sound.specs.CcSyntax.Expressions.{of_one}
use Rattle.cc_state_values_sound.specs.CcSyntax.Initial.{place_at}
use Rattle.cc_state_values_sound.specs.CcSyntax.Programs.{place_type}
use Rattle.cc_state_values_sound.specs.CcSyntax.Registers.{is_register}
use Rattle.cc_state_values_sound.specs.CcSyntax.Values.{ValueType, PlaceType, read_from}

-- a key of the program has a number, so it stands among its keys
module _ {I : Type 0} (p : Program) (facts : Facts I) where
  number_by : (k : Key) (o : Option ℕ) (z : Abs I) → key_number p k ≡ o → option_and_then (slice_get facts.whole) o ≡ Some z → Contains (keys_of p) k
  number_by k None z e h = absurd (cc)
  number_by k (Some m) z e h = contains_at (keys_of p) m k (key_at p k m e)

  pub whole_listed : (k : Key) (z : Abs I) → whole_of p facts k ≡ Some z → Contains (keys_of p) k
  whole_listed k z h = number_by k (key_number p k) z refl h

  -- one of the classes of a place is among the keys that it names
  pub class_listed : (classes : List Key) (k : Key) → Contains classes k → Contains (keys_of p) k → Contains (filter (is_among classes) (keys_of p)) k
  class_listed classes k h l = in_filter (is_among classes) (keys_of p) k l (any_of (λ c. is_key c k) classes k h (is_itself k))

module _ {I : Type 0} (d : Domain I) (all : GivesAll d) (p : Program) (facts : Facts I) (solution : IsSolution d p facts) (shape : HaveShape d p facts) (n : ℕ) (q : Point) (f : Func) (fact : PointFact I)
    (numbered : slice_get (flow_of p).points n ≡ Some q) (function : slice_get p.funcs q.func ≡ Some f) (there : fact_at facts n ≡ Some fact) (s : Stmt) (stands : statement_at f.body q.path ≡ Some s) where
  abbrev v : View
  v = view d p facts

  abbrev here : Flowing I
  here = of_fact fact

  -- what was read in a cell is in the set of the whole run, or of the point
  abbrev pub WasIn : Cell → Value → Type 0
  WasIn (cell.Device k) w = IsDeviceValue p k w
  WasIn (cell.At (root.Static i) path) w = v.static_at i (cell_position p (root.Static i) path) w × (v.tracked i ≡ true → v.cell n i w)
  WasIn (cell.At (root.Auto number g r) path) w = (h : Func) → slice_get p.funcs g ≡ Some h → is_register h r ≡ false → v.local_at g r (cell_position p (root.Auto number g r) path) w

  -- tracked objects and registers of its own are read whole
  abbrev pub IsReadWholly : Cell → Type 0
  IsReadWholly (cell.Device k) = Unit {0}
  IsReadWholly (cell.At (root.Static i) path) = v.tracked i ≡ true → cell_position p (root.Static i) path ≡ 0
  IsReadWholly (cell.At (root.Auto number g r) path) = g ≡ q.func → is_register f r ≡ true → cell_position p (root.Auto number g r) path ≡ 0

  module _ (b : Place) (spot : Option Spot) (leads : LeadsAt d p facts n b spot) (to : Cell) (reaches : reached p (place_type p f.locals b) spot ≡ Some to) (u : PlaceType) (t : ValueType) (typed : place_type p f.locals b ≡ Some u) (reads : read_from u ≡ Some t) where
    abbrev led : IsLed d p facts n q.func f b spot
    led = leads q.func f q (own_point d all p facts solution shape n q f fact numbered function there s stands)

    -- the set of its key has what was read in an object
    pub function_there : (number g r : ℕ) (path : List Part) → LeadsTo p (root.Auto number g r) path (cell_position p (root.Auto number g r) path) → (h : Func) × (slice_get p.funcs g ≡ Some h)
    function_there number g r path h = by (slice_get p.funcs g) refl h.1
      where
        by : (o : Option Func) → slice_get p.funcs g ≡ o → of_one (of_one (local_type r o) (place_at p.structures path)) read_from ≡ Some h.0 → (x : Func) × (slice_get p.funcs g ≡ Some x)
        by None e k = absurd (cc)
        by (Some x) e k = (x, e)

    in_whole : (object : Root) (path : List Part) (w : Value) → to ≡ cell.At object path → WasIn (cell.At object path) w → InWhole d p facts (cell_key p object path) w
    in_whole (root.Static i) path w is h = h.0 path (leads_to d p facts n q.func f b spot led to reaches (root.Static i) path is u t typed reads)
    in_whole (root.Auto number g r) path w is h =
        let to_it = leads_to d p facts n q.func f b spot led to reaches (root.Auto number g r) path is u t typed reads in
        let memory = led_memory d p facts n q.func f b spot led to reaches (root.Auto number g r) path is in
        let x = function_there number g r path to_it in
        h x.0 x.1 (sym (ap (λ (o : Option Func). is_register_in o r) x.1) ∙ memory) number path to_it

    read_by_keys : (object : Root) (path : List Part) (w : Value) (y : Abs I) → to ≡ cell.At object path → WasIn (cell.At object path) w → IsByKeys d p q.func f (registers_at facts f n) facts b y → HasValue d.has y w
    read_by_keys object path w y is h by_keys =
        let k = cell_key p object path in
        let z = in_whole object path w is h in
        let classes = by_keys.named.0 in
        let class : Contains classes k = led_class d p facts n q.func f b spot led to reaches object path is classes by_keys.named.1 in
        let listed : Contains by_keys.keys k = subst (λ (ks : List Key). Contains ks k) (sym by_keys.named.2) (class_listed p facts classes k class (whole_listed p facts k z.0 z.1)) in
        below_gives d all z.0 y (Some w) (by_keys.union.above z.0 (k, listed, z.1)) z.2

    read_other : (w : Value) (y : Abs I) (cell : Cell) → to ≡ cell → WasIn cell w → device_number (out-Place b) ≡ None → IsByKeys d p q.func f (registers_at facts f n) facts b y → HasValue d.has y w
    read_other w y (cell.At object path) is h none by_keys = read_by_keys object path w y is h by_keys
    read_other w y (cell.Device k) is h none by_keys =
        absurd (let e : Some k ≡ None = sym (ap device_number (led_device d p facts n q.func f b spot led to reaches k is)) ∙ none in cc)

    -- of a tracked cell the set of the point has it
    read_tracked : (w : Value) (y : Abs I) (j : ℕ) → WasIn to w → tracked_in p (out-Place b) ≡ Some j → cell_at facts n j ≡ Some y → HasValue d.has y w
    read_tracked w y j h e set =
        let i = tracked_place p (out-Place b) j e in
        let is : to ≡ cell.At (root.Static i.0) [] = named_cell d p facts n q.func f b spot led to reaches i.0 i.1 in
        let tracked : is_some (tracked_number p i.0) ≡ true = ap is_some i.2 in
        let held = known_cell d all p facts n f fact (known d all p facts solution shape n q f fact numbered function there s stands) i.0 w ((subst (λ (c : Cell). WasIn c w) is h).1 tracked) in
        let number : held.0 ≡ j = same_Some held.0 j (sym held.1 ∙ i.2) in
        let cell_is : cell_at facts n j ≡ cell_of fact j = ap (option_and_then (λ (x : PointFact I). cell_of x j)) there in
        let set_is : cell_of fact held.0 ≡ Some y = ap (cell_of fact) number ∙ sym cell_is ∙ set in
        subst (λ (z : Abs I). HasValue d.has z w) (same_Some held.2.0 y (sym held.2.1 ∙ set_is)) held.2.2

    -- of a device all values of its type
    device_has : (k : ℕ) (w : Value) (y : Abs I) → IsDeviceValue p k w → IsOfDevice d p k y → HasValue d.has y w
    device_has k w y (device, z, e, is) (other, x, e', whole, set) =
        let same : device ≡ other = same_Some device other (sym e ∙ e') in
        let value : d.has x (converted z device.int p.target) =
        (whole (converted z device.int p.target)).0 (subst (λ (g : Device). IsValueOf g.int p.target (converted z device.int p.target)) same (converted-IsValueOf z device.int p.target)) in
        subst (λ (c : Abs I). HasValue d.has c w) (sym set) (subst (HasValue d.has (abs.Ints x)) (sym is) value)

    read_device : (w : Value) (y : Abs I) (k : ℕ) → WasIn to w → device_number (out-Place b) ≡ Some k → IsOfDevice d p k y → HasValue d.has y w
    read_device w y k h e set =
        let is : to ≡ cell.Device k = device_cell d p facts n q.func f b spot led to reaches k (device_place (out-Place b) k e) in
        device_has k w y (subst (λ (c : Cell). WasIn c w) is h) set

    pub read_in : (w : Value) (y : Abs I) → WasIn to w → IsRead d p q.func f (registers_at facts f n) facts n b y → HasValue d.has y w
    read_in w y h (OfTracked j e set) = read_tracked w y j h e set
    read_in w y h (OfDevice k e set) = read_device w y k h e set
    read_in w y h (OfOther none nothing by_keys) = read_other w y to refl h nothing by_keys

    no_path : (i : ℕ) (path : List Part) → cell.At (root.Static i) path ≡ cell.At (root.Static i) [] → path ≡ []
    no_path i path e = cc

    whole_by : (c : Cell) → to ≡ c → IsReadWholly c
    whole_by (cell.Device k) is = tt
    whole_by (cell.At (root.Static i) path) is = λ t.
        (let number = some_is (tracked_number p i) t in
        let named = led.tracked u typed i number.0 (led_static d p facts n q.func f b spot led to reaches (root.Static i) path is i refl) number.1 in
        let whole : cell.At (root.Static i) path ≡ cell.At (root.Static i) [] = sym is ∙ named_cell d p facts n q.func f b spot led to reaches i named in
        ap (cell_position p (root.Static i)) (no_path i path whole))
    whole_by (cell.At (root.Auto number g r) path) is = λ same register.
        absurd (
        let memory = led_memory d p facts n q.func f b spot led to reaches (root.Auto number g r) path is in
        let other : is_register f r ≡ false = ap (λ (o : Option Func). is_register_in o r) (sym (ap (slice_get p.funcs) same ∙ function)) ∙ memory in
        true≢false (sym register ∙ other)
        )

    pub read_wholly : IsReadWholly to
    read_wholly = whole_by to refl

  -- ---- the flow

  module _ (k : ℕ) (next : Contains q.next k) (r : ℕ) (b : Place) (acts : act_of f s ≡ Reads r b) where
    abbrev got : IsFlow d all p facts solution shape n q f fact numbered function there s stands (Reads r b) acts
    got = flowing d all p facts solution shape n q f fact numbered function there s stands (Reads r b) acts

    abbrev number : ℕ
    number = got.2.0

    abbrev set : Abs I
    set = got.2.1

    abbrev cell_read : Option ℕ
    cell_read = tracked_in p (out-Place b)

    abbrev read_flow : Flowing I
    read_flow = with_pair number cell_read (with_local number set here)

    read_arrived : Arrives d p facts k f read_flow
    read_arrived =
        arriving d all p facts solution shape n q f fact numbered function there s stands (Reads r b) acts got k next read_flow
        (with_pair_flag d all p facts f fact r number got.2.2 set cell_read (here_flag d all p facts solution shape n q f fact numbered function there s stands)) got.2.4

    pub reads_flow : Flows p v n k (Some r) None
    reads_flow = flows_same d all p facts solution shape n q f fact numbered function there s stands k read_flow read_arrived (Some r) None (with_pair_keeps d all p facts f fact r number got.2.2 set cell_read)

    pub reads_flag : KeepsFlag p v n k
    reads_flag = flag_same d all p facts solution shape n q f fact numbered function there s stands k read_flow read_arrived (with_pair_flags d all p facts f fact r number got.2.2 set cell_read)

    pub reads_value : (spot : Option Spot) → LeadsAt d p facts n b spot → (to : Cell) → reached p (place_type p f.locals b) spot ≡ Some to → (u : PlaceType) (t : ValueType) → place_type p f.locals b ≡ Some u → read_from u ≡ Some t →
        (w : Value) → WasIn to w → v.local k r w
    reads_value spot leads to reaches u t typed reads w h =
        read_arrived.locals r number w got.2.2 (with_pair_has d all p facts f fact r number got.2.2 set cell_read w (read_in b spot leads to reaches u t typed reads w set h got.2.3))

    pub reads_same : (spot : Option Spot) → LeadsAt d p facts n b spot → (to : Cell) → reached p (place_type p f.locals b) spot ≡ Some to → (i : ℕ) → v.same k r i → (v.tracked i ≡ true) × (to ≡ cell.At (root.Static i) [])
    reads_same spot leads to reaches i h =
        let pair = with_pair_pair d all p facts f fact r number got.2.2 set cell_read i (read_arrived.pairs r i h) in
        let named = tracked_place p (out-Place b) pair.0 pair.1 in
        let same : i ≡ named.0 = one_tracked p named.0 i pair.0 named.2 pair.2 in
        let led = leads q.func f q (own_point d all p facts solution shape n q f fact numbered function there s stands) in
        (ap is_some pair.2, named_cell d p facts n q.func f b spot led to reaches named.0 named.1 ∙ ap (λ (j : ℕ). cell.At (root.Static j) []) (sym same))
