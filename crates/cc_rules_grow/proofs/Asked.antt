-- What a constraint asks of lesser facts is had wherever all is had that it asks of greater ones, rule by rule.
use Rattle.std.proofs.Common.{◌≡◌, ◌⊎◌, inl, inr, ℕ, Bool, true, false, true≢false, not, length, Option, Some, None, slice_get, refl, ap, sym, ◌∙◌, subst}
use Rattle.std.specs.Prelude.{option_and_then}
use Rattle.std.proofs.lemmas.Option.{same_Some}
use Rattle.cc_rules.specs.CcFlow.declared.types.Point.{Point}
use Rattle.cc_rules.specs.CcFlow.Points.{flow_of}
use Rattle.cc_program.specs.CcNum.declared.int_type.IntType.{IntType}
use Rattle.cc_rules.specs.CcPlaces.Abstract.{IsBelowAbs}
use Rattle.cc_rules.specs.CcPlaces.declared.abs.Abs.{Abs}
use Rattle.cc_program.specs.declared.expr.Expr.{Expr}
use Rattle.cc_program.specs.declared.expr.Place.{Place}
use Rattle.cc_program.specs.declared.func.Func.{Func}
use Rattle.cc_program.specs.declared.program.Program.{Program}
use Rattle.cc_rules.specs.Constraints.{Rule, Initial, Start, Flow, Write, Touch, Call, Back, Return, Handler, Stability, Constraint}
use Rattle.cc_rules.specs.Rules.{act_at, AskedHere, AskedIn, IsAsked}
use Rattle.cc_rules.specs.CcRulesFlows.Acts.{Act, Sets, Reads, Writes, Calls, Saves, Turns, Restores, Tests, Chooses, Returns, Passes}
use Rattle.cc_rules.specs.CcRulesFlows.Nexts.{IsPoint, statement_of, exit_of}
use Rattle.cc_rules.specs.CcRulesFlows.Tests.{Test}
use Rattle.cc_rules.specs.CcRulesFlows.Worked.{AreWorked}
use Rattle.cc_rules_grow.proofs.Accesses.{place_typed}
use Rattle.cc_rules_grow.proofs.Asking.{NamedMore, PlacesMore, written_grows, touched_grows, given_grows, handlers_more, stability_more}
use Rattle.cc_rules_grow.proofs.Below.{AreSomeBelow, IsFactBelow, Had}
use Rattle.cc_rules_grow.proofs.Calling.{calls_grow}
use Rattle.cc_rules_grow.proofs.Classes.{named_more, read_more}
use Rattle.cc_rules_grow.proofs.Elements.{each_all, all_each, each_from}
use Rattle.cc_rules_grow.proofs.Exits.{exit_there}
use Rattle.cc_rules_grow.proofs.Firsts.{first_there}
use Rattle.cc_rules_grow.proofs.Flowed.{flows_as, acts_below, comes_to_each}
use Rattle.cc_rules_grow.proofs.Kept.{IsKept, ValuesGrow}
use Rattle.cc_rules_grow.proofs.Starting.{first_sets_grow, started_grows}
use Rattle.cc_rules_grow.specs.Grown.{AreTestsWorked, IsWorked}
use Rattle.cc_rules.specs.CcRulesNeeds.declared.needs.Part.TheVariants.{Flags}
use Rattle.cc_rules.specs.CcRulesNeeds.declared.needs.Slot.TheVariants.{LocalAt, CellAt, Flag, Apart}
use Rattle.cc_rules.specs.CcRulesNeeds.Needs.{flags_in, apart_in, Needs, AreValuesBelow, IsBelowPart, Has, HasAll, IsBelow}
use Rattle.cc_state_points.proofs.CcState.Sets.{its_shape, registers_point}
use Rattle.cc_state_points.specs.CcState.Shape.{IsPointFact, HaveShape}
use Rattle.cc_rules.specs.CcStateFacts.declared.facts.Facts.{Facts}
use Rattle.cc_rules.specs.CcStateFacts.declared.facts.PointFact.{PointFact}
use Rattle.cc_rules.specs.CcStateFacts.Facts.{fact_at, cell_of, local_of, local_at, cell_at, has_pair}
use Rattle.cc_rules.specs.CcStateKeys.Keys.{keys_of}
use Rattle.cc_rules.specs.CcStateKeys.Tracked.{registers, register_number, tracked}
use Rattle.cc_rules.specs.CcStateOperators.Domains.{Domain, IsWhole}
use Rattle.cc_rules.specs.CcStateReads.Reads.{IsRead, registers_at}
use Rattle.cc_rules.proofs.CcStateValues.Same.{IsOrdered}
use Rattle.cc_rules.specs.CcStateValues.Values.{IsVal}
use Rattle.cc_state_points.proofs.CcStateValuesGrow.Growing.{value_more}
use Rattle.cc_state_points.proofs.CcStateValuesGrow.Images.{IsOrder}
use Rattle.cc_state_points.proofs.CcStateValuesGrow.Leading.{leads_somewhere}
use Rattle.cc_state_points.specs.CcStateValuesGrow.Growth.{AreRegistersBelow, LeadSomewhere, RegistersPoint}
use Rattle.cc_rules.specs.CcSyntax.Normal.{IsNormal}
use Rattle.cc_rules.specs.CcSyntax.Programs.{place_type}
use Rattle.cc_rules.specs.CcSyntax.Values.{PlaceType}

-- ---- one point, of one function

same_point : (p : Program) (n id id' : ℕ) (f f' : Func) (q q' : Point) → IsPoint p n id f q → IsPoint p n id' f' q' → (q' ≡ q) × (id' ≡ id) × (f' ≡ f)
same_point p n id id' f f' q q' h l =
    let one : q' ≡ q = same_Some q' q (sym l.numbered ∙ h.numbered) in
    let number : id' ≡ id = sym l.own ∙ (ap (λ (x : Point). x.func) one ∙ h.own) in
    (one, number, same_Some f' f (sym l.function ∙ (ap (slice_get p.funcs) number ∙ h.function)))

module _ {I : Type 0} (d : Domain I) (o : IsOrdered d) (k : IsKept d) (p : Program) (normal : IsNormal p)
    (grown : (id : ℕ) (f : Func) → slice_get p.funcs id ≡ Some f → ValuesGrow d p id f)
    (leads : (id : ℕ) (f : Func) (register : ℕ → Option (Abs I)) → slice_get p.funcs id ≡ Some f → RegistersPoint p f register → LeadSomewhere d p id f register)
    (facts others holder : Facts I) (shape : HaveShape d p facts) (other_shape : HaveShape d p others) (less : IsBelow d.below facts others) where
  abbrev AreHad : Needs I → Type 0
  AreHad ns = Had d k holder ns

  point_fact : (g : Facts I) → HaveShape d p g → (n : ℕ) (q : Point) (f : Func) (x : PointFact I) → slice_get (flow_of p).points n ≡ Some q → slice_get p.funcs q.func ≡ Some f → fact_at g n ≡ Some x → IsPointFact d p f x
  point_fact g h n q f x numbered function at = its_shape d p g h n q f (record { numbered = numbered; function = function }) x at

  whole_grows : (t : IntType) (x y : I) → IsWhole d t p.target x → IsWhole d t p.target y → d.below x y
  whole_grows t x y h l = k.by_members x y (λ n m. (l n).0 ((h n).1 m))

  flagged : (g : ℕ) (callee : Func) (exit : PointFact I) → slice_get p.funcs g ≡ Some callee → fact_at facts (exit_of p g callee) ≡ Some exit → (exit.off ≡ true) ⊎ (exit.on ≡ true)
  flagged g callee exit is at = let (q, numbered, function) = exit_there p g callee is in (point_fact facts shape (exit_of p g callee) q callee exit numbered function at).flag

  -- ---- at a point

  module _ (n id : ℕ) (f : Func) (point : Point) (fact : PointFact I) (is_point : IsPoint p n id f point) (known : fact_at facts n ≡ Some fact) where
    function : slice_get p.funcs point.func ≡ Some f
    function = ap (slice_get p.funcs) is_point.own ∙ is_point.function

    of_fact : IsPointFact d p f fact
    of_fact = point_fact facts shape n point f fact is_point.numbered function known

    flags_less : (y : Option (PointFact I)) → fact_at others n ≡ y → IsBelowPart d.below (Flags fact.off fact.on) (flags_in y)
    flags_less y h = subst (λ (z : Option (PointFact I)). IsBelowPart d.below (Flags fact.off fact.on) (flags_in z)) h (subst (λ (z : Option (PointFact I)). IsBelowPart d.below (flags_in z) (flags_in (fact_at others n))) known (less (Flag n)))

    not_reached : {C : Type 0} → (fact.off ≡ true) ⊎ (fact.on ≡ true) → IsBelowPart d.below (Flags fact.off fact.on) (flags_in {I = I} None) → C
    not_reached (inl h) l = absurd (true≢false (sym (l.0 h)))
    not_reached (inr h) l = absurd (true≢false (sym (l.1 h)))

    -- it is reached in the others too
    pub reached : (other : PointFact I) × (fact_at others n ≡ Some other)
    reached = by (fact_at others n) refl
      where
        by : (y : Option (PointFact I)) → fact_at others n ≡ y → (other : PointFact I) × (fact_at others n ≡ Some other)
        by None e = not_reached of_fact.flag (flags_less None e)
        by (Some other) e = (other, e)

    -- the sets of its registers point as their types say

    register_points : RegistersPoint p f (registers_at facts f n)
    register_points = registers_point d p facts shape n point f (record { numbered = is_point.numbered; function = function })

    registers_below : AreRegistersBelow d.below (registers_at facts f n) (registers_at others f n)
    registers_below r x y e g = by (register_number f r) e g
      where
        by : (number : Option ℕ) → option_and_then (local_at facts n) number ≡ Some x → option_and_then (local_at others n) number ≡ Some y → IsBelowAbs d.below x y
        by None e g = absurd (cc)
        by (Some number) e g = subst (λ (z : Option (Abs I)). AreValuesBelow d.below (Some x) z) g (subst (λ (z : Option (Abs I)). AreValuesBelow d.below z (local_at others n number)) e (less (LocalAt n number)))

    module _ (other : PointFact I) (known' : fact_at others n ≡ Some other) where
      of_other : IsPointFact d p f other
      of_other = point_fact others other_shape n point f other is_point.numbered function known'

      some_of : (x y : Option (Abs I)) (a b : Abs I) → x ≡ Some a → y ≡ Some b → AreValuesBelow d.below x y → AreSomeBelow d x y
      some_of x y a b e g h = (a, b, e, g, subst (λ (z : Option (Abs I)). AreValuesBelow d.below (Some a) z) g (subst (λ (z : Option (Abs I)). AreValuesBelow d.below z y) e h))

      locals_less : (r : ℕ) → AreValuesBelow d.below (local_of fact r) (local_of other r)
      locals_less r =
          subst (λ (z : Option (PointFact I)). AreValuesBelow d.below (local_of fact r) (option_and_then (λ (i : PointFact I). local_of i r) z)) known'
          (subst (λ (z : Option (PointFact I)). AreValuesBelow d.below (option_and_then (λ (i : PointFact I). local_of i r) z) (local_at others n r)) known (less (LocalAt n r)))

      cells_less : (j : ℕ) → AreValuesBelow d.below (cell_of fact j) (cell_of other j)
      cells_less j =
          subst (λ (z : Option (PointFact I)). AreValuesBelow d.below (cell_of fact j) (option_and_then (λ (i : PointFact I). cell_of i j) z)) known'
          (subst (λ (z : Option (PointFact I)). AreValuesBelow d.below (option_and_then (λ (i : PointFact I). cell_of i j) z) (cell_at others n j)) known (less (CellAt n j)))

      apart_less : (r j : ℕ) → apart_in (Some fact) r j ≡ true → apart_in (Some other) r j ≡ true
      apart_less r j =
          subst (λ (z : Option (PointFact I)). apart_in (Some fact) r j ≡ true → apart_in z r j ≡ true) known' (subst (λ (z : Option (PointFact I)). apart_in z r j ≡ true → apart_in (fact_at others n) r j ≡ true) known (less (Apart n r j)))

      pairs_less : (r j : ℕ) → has_pair other r j ≡ true → has_pair fact r j ≡ true
      pairs_less r j h = by (has_pair fact r j) (has_pair other r j) h (apart_less r j)
        where
          by : (a b : Bool) → b ≡ true → (not a ≡ true → not b ≡ true) → a ≡ true
          by true b h l = refl
          by false true h l = absurd (true≢false (sym (l refl)))
          by false false h l = absurd (true≢false (sym h))

      pub fact_below : IsFactBelow d (length (registers f)) (length (tracked p)) fact other
      fact_below = record {
        off = (flags_less (Some other) known').0;
        on = (flags_less (Some other) known').1;
        locals = λ r l. (let a = of_fact.locals.there r l in let b = of_other.locals.there r l in some_of (local_of fact r) (local_of other r) a.1 b.1 a.2.1 b.2.1 (locals_less r));
        cells_below = λ j l. (let a = of_fact.cells.there j l in let b = of_other.cells.there j l in some_of (cell_of fact j) (cell_of other j) a.1 b.1 a.2.1 b.2.1 (cells_less j));
        pairs = pairs_less;
      }

      named : (a : Place) → (t : PlaceType) × (place_type p f.locals a ≡ Some t) → NamedMore d k p facts others holder less n id f point fact other a
      named a typed keys more_keys h l q c =
          named_more d k p id f (grown id f is_point.function) (registers_at facts f n) (registers_at others f n) register_points (leads id f (registers_at facts f n) is_point.function register_points) registers_below a typed.0 keys more_keys typed.1 h l q c

      places_more : (act : Act) → ((a : Place) → ((r : ℕ) × (act ≡ Reads r a)) ⊎ ((e : Expr) × (act ≡ Writes a e)) → (t : PlaceType) × (place_type p f.locals a ≡ Some t)) → PlacesMore d k p facts others holder less n id f point fact other act
      places_more (Writes a e) typed = named a (typed a (inr (e, refl)))
      places_more (Reads r a) typed = named a (typed a (inl (r, refl)))
      places_more (Sets r e) typed = tt
      places_more (Calls r g args) typed = tt
      places_more (Saves r) typed = tt
      places_more (Turns on) typed = tt
      places_more (Restores e) typed = tt
      places_more (Tests e these those) typed = tt
      places_more (Chooses e cases) typed = tt
      places_more (Returns e) typed = tt
      places_more Passes typed = tt

      abbrev act : Act
      act = act_at (statement_of f point) f

      act_places : PlacesMore d k p facts others holder less n id f point fact other act
      act_places = places_more act (λ a accessed. place_typed p normal n id f point a is_point accessed)

      values : (e : Expr) (y z : Abs I) → IsVal d p id f (registers_at facts f n) e y → IsVal d p id f (registers_at others f n) e z → IsBelowAbs d.below y z
      values e y z v w = grown id f is_point.function (registers_at facts f n) (registers_at others f n) register_points registers_below e y z v w

      reads_grow : (a : Place) (y z : Abs I) → IsRead d p id f (registers_at facts f n) facts n a y → IsRead d p id f (registers_at others f n) others n a z → IsBelowAbs d.below y z
      reads_grow a y z h l =
          read_more d k p id f (grown id f is_point.function) (registers_at facts f n) (registers_at others f n) register_points (leads id f (registers_at facts f n) is_point.function register_points) registers_below facts others less whole_grows n a y z h l

      asked_here : (rule : Rule) (ns ms : Needs I) → (rule ≡ Flow → AreTestsWorked d p facts n) → AskedHere d p facts n id f point fact rule act ns → AskedHere d p others n id f point other rule act ms → AreHad ms → AreHad ns
      asked_here Initial ns ms worked l m had = subst AreHad (sym l) tt
      asked_here Start ns ms worked l m had = subst AreHad (sym l) tt
      asked_here Flow ns ms worked (flows, are_flows, comes) (more_flows, are_more, comes_more) had =
          comes_to_each d o k p id f (grown id f is_point.function) facts others point n fact other register_points registers_below known fact_below of_other.local_count reads_grow holder point.next flows more_flows ns ms
          (acts_below d o k p id f (grown id f is_point.function) facts others point n fact other register_points registers_below known fact_below of_other.local_count reads_grow act flows more_flows
          (λ e tests is. each_from (λ (t : Test × ℕ). AreWorked d p id f facts point n fact e t.0) tests (worked refl id f point fact is_point known e tests is))
          (flows_as d p id f facts point n fact act flows are_flows) (flows_as d p id f others point n other act more_flows are_more)) comes comes_more had
      asked_here Write ns ms worked l m had = written_grows d k p facts others holder less n id f point fact other act ns ms values act_places l m had
      asked_here Touch ns ms worked l m had = touched_grows d k p facts others holder less n id f point fact other act ns ms act_places l m had
      asked_here Call ns ms worked l m had = calls_grow d k p facts others holder less n id f point fact other fact_below values flagged true act ns ms l m had
      asked_here Back ns ms worked l m had = calls_grow d k p facts others holder less n id f point fact other fact_below values flagged false act ns ms l m had
      asked_here Return ns ms worked l m had = given_grows d k p facts others holder less n id f point fact other act ns ms values l m had
      asked_here Handler ns ms worked l m had = handlers_more d k p facts others holder less n id f point fact other fact_below fact.on other.on ns ms fact_below.on l m had
      asked_here Stability ns ms worked l m had = stability_more d k p facts others holder less n id f point fact other fact_below fact.on other.on ns ms fact_below.on l m had

  -- ---- of each constraint

  asked_in : (rule : Rule) (n : ℕ) (x y : Option (PointFact I)) (ns ms : Needs I) → fact_at facts n ≡ x → fact_at others n ≡ y → (rule ≡ Flow → AreTestsWorked d p facts n) → AskedIn d p facts rule n x ns → AskedIn d p others rule n y ms → AreHad ms → AreHad ns
  asked_in rule n None y ns ms e g worked is l had = subst AreHad (sym is) tt
  asked_in rule n (Some fact) None ns ms e g worked (id, f, point, is_point, asked) l had =
      let (other, there) = reached n id f point fact is_point e in
      absurd (let h : None ≡ Some other = sym g ∙ there in cc)
  asked_in rule n (Some fact) (Some other) ns ms e g worked (id, f, point, is_point, asked) (id', f', point', is_point', asked') had =
      let (same_q, same_id, same_f) = same_point p n id id' f f' point point' is_point is_point' in
      let here = subst (λ (q : Point). AskedHere d p others n id' f' q other rule (act_at (statement_of f' q) f') ms) same_q asked' in
      let in_function = subst (λ (i : ℕ). AskedHere d p others n i f' point other rule (act_at (statement_of f' point) f') ms) same_id here in
      let same_asked = subst (λ (x : Func). AskedHere d p others n id x point other rule (act_at (statement_of x point) x) ms) same_f in_function in
      asked_here n id f point fact is_point e other g rule ns ms worked asked same_asked had

  pub asked_grows : (c : Constraint) (ns ms : Needs I) → IsWorked d p facts c → IsAsked d p facts c ns → IsAsked d p others c ms → AreHad ms → AreHad ns
  asked_grows c ns ms worked l m had = by c.rule worked l m
    where
      n : ℕ
      n = c.point

      by : (rule : Rule) → (rule ≡ Flow → AreTestsWorked d p facts n) → IsAsked d p facts (record { rule = rule; point = c.point }) ns → IsAsked d p others (record { rule = rule; point = c.point }) ms → AreHad ns
      by Initial worked l m = first_sets_grow d k p facts others holder less 0 (keys_of p) ns ms l m had
      by Start worked l m = started_grows d k p facts others holder less (first_there p normal) n ns ms l m had
      by Flow worked l m = asked_in Flow n (fact_at facts n) (fact_at others n) ns ms refl refl worked l m had
      by Write worked l m = asked_in Write n (fact_at facts n) (fact_at others n) ns ms refl refl worked l m had
      by Touch worked l m = asked_in Touch n (fact_at facts n) (fact_at others n) ns ms refl refl worked l m had
      by Call worked l m = asked_in Call n (fact_at facts n) (fact_at others n) ns ms refl refl worked l m had
      by Back worked l m = asked_in Back n (fact_at facts n) (fact_at others n) ns ms refl refl worked l m had
      by Return worked l m = asked_in Return n (fact_at facts n) (fact_at others n) ns ms refl refl worked l m had
      by Handler worked l m = asked_in Handler n (fact_at facts n) (fact_at others n) ns ms refl refl worked l m had
      by Stability worked l m = asked_in Stability n (fact_at facts n) (fact_at others n) ns ms refl refl worked l m had

-- with what values give, by the laws on them
pub asked_had : {I : Type 0} (d : Domain I) (o : IsOrdered d) (order : IsOrder d) (k : IsKept d) (p : Program) → IsNormal p → (facts others : Facts I) → HaveShape d p facts → HaveShape d p others → IsBelow d.below facts others → (c : Constraint) →
    IsWorked d p facts c → (ns : Needs I) → IsAsked d p facts c ns → (ms : Needs I) → IsAsked d p others c ms → (holder : Facts I) → HasAll d.below ms holder → HasAll d.below ns holder
asked_had d o order k p normal facts others shape other_shape less c worked ns l ms m holder had =
    all_each (Has d.below holder) ns
    (asked_grows d o k p normal
    (λ id f own register more points below e x y h g. value_more d o order p id f register more below (leads_somewhere d p id f register own points) e x y h g)
    (λ id f register own points. leads_somewhere d p id f register own points)
    facts others holder shape other_shape less c ns ms worked l m (each_all (Has d.below holder) ms had))
