-- What each constraint asks of facts: that slots of them have at least some parts.
use Rattle.std.specs.Prelude.{◌≡◌, ◌<◌, ◌^◌, ℕ, suc, ◌==◌, pos, Bool, true, false, not, ◌&&◌, List, [], ◌∷◌, ◌++◌, map, length, Option, Some, None, option_and_then, slice_get, if◌then◌else◌}
use Rattle.std.specs.List.{AllPairs, Contains, filter, flat_map}
use Rattle.cc_rules_flows.specs.CcCells.Cells.{scalar_in}
use Rattle.cc_rules_flows.specs.CcFlow.declared.types.Point.{Point}
use Rattle.cc_rules_flows.specs.CcFlowSound.Moves.{entry}
use Rattle.cc_rules_flows.specs.CcPlaces.declared.abs.Abs.{Abs}
use Rattle.cc_rules_flows.specs.CcPlaces.Abstract.{AreOfOneKind, IsBelowAbs, HasValue}
use Rattle.cc_program.specs.declared.expr.Expr.{Expr}
use Rattle.cc_program.specs.declared.expr.Place.{Place}
use Rattle.cc_program.specs.declared.func.Func.{Func}
use Rattle.cc_program.specs.declared.program.Program.{Program}
use Rattle.cc_program.specs.declared.stmt.Stmt.{Stmt}
use Rattle.cc_program.specs.declared.types.Sig.{out-Sig}
use Rattle.cc_program.specs.declared.value.Address.TheVariants as address
use Rattle.cc_program.specs.declared.value.Part.{Part as Step}
use Rattle.cc_program.specs.declared.value.Root.TheVariants as root
use Rattle.cc_program.specs.declared.value.Value.{Value}
use Rattle.cc_program.specs.declared.value.Value.TheVariants as value
use Rattle.cc_rules.specs.Constraints.{Rule, Initial, Start, Flow, Write, Touch, Call, Back, Return, Handler, Stability, Constraint, constraints}
use Rattle.cc_rules_flows.specs.Acts.{Act, Sets, Reads, Writes, Calls, Saves, Turns, Restores, Tests, Chooses, Returns, Passes, act_of}
use Rattle.cc_rules_flows.specs.Flows.{Flows, sets, ValueAt}
use Rattle.cc_rules_flows.specs.Nexts.{IsPoint, statement_of, exit_of}
use Rattle.cc_rules_flows.specs.CcRulesNeeds.Flowing.{Flowing, of_fact, with_local, without_pairs, IsJoined, each_pair, needs_at, numbers}
use Rattle.cc_rules_flows.specs.CcRulesNeeds.declared.needs.Part.{Part}
use Rattle.cc_rules_flows.specs.CcRulesNeeds.declared.needs.Part.TheVariants.{Mark, LevelSet, Values}
use Rattle.cc_rules_flows.specs.CcRulesNeeds.declared.needs.Slot.{Slot}
use Rattle.cc_rules_flows.specs.CcRulesNeeds.declared.needs.Slot.TheVariants.{Whole, HandlerReads, HandlerWrites, ReadLevels, WriteLevels, Result, ByMain, ByHandler, Levels, From, CellAt, Apart}
use Rattle.cc_rules_flows.specs.CcRulesNeeds.Needs.{Needs, HasAll}
use Rattle.cc_rules_flows.specs.CcStateFacts.declared.facts.Facts.{Facts}
use Rattle.cc_rules_flows.specs.CcStateFacts.declared.facts.Key.{Key}
use Rattle.cc_rules_flows.specs.CcStateFacts.declared.facts.Key.TheVariants as key
use Rattle.cc_rules_flows.specs.CcStateFacts.declared.facts.PointFact.{PointFact}
use Rattle.cc_rules_flows.specs.CcStateFacts.Facts.{fact_at, cell_of, mark_of, levels_of}
use Rattle.cc_rules_flows.specs.CcStateFacts.Levels.{may_enter, one_may_enter, only_level}
use Rattle.cc_rules_flows.specs.CcStateKeys.Keys.{keys_of, cell_key, key_number}
use Rattle.cc_rules_flows.specs.CcStateKeys.Paths.{LeadsTo}
use Rattle.cc_rules_flows.specs.CcStateKeys.Tracked.{registers, register_number, tracked}
use Rattle.cc_rules_flows.specs.CcStateOperators.Domains.{Domain}
use Rattle.cc_rules_flows.specs.CcStateReads.Reads.{AreNamed}
use Rattle.cc_rules_flows.specs.CcSteps.State.{first_values}
use Rattle.cc_rules_flows.specs.CcSteps.Step.{gives_nothing}
use Rattle.cc_rules_flows.specs.CcSteps.Turn.{level_of}
use Rattle.cc_rules_flows.specs.CcSyntax.Operators.{is_handler}

-- the functions that are handlers, ascending
abbrev pub handlers_from : ℕ → List Func → List ℕ
handlers_from h [] = []
handlers_from h (f ∷ funcs) = if is_handler f then h ∷ handlers_from (suc h) funcs else handlers_from (suc h) funcs

abbrev pub handlers : Program → List ℕ
handlers p = handlers_from 0 p.funcs

abbrev pub act_at : Option Stmt → Func → Act
act_at None f = Passes
act_at (Some s) f = act_of f s

module _ {I : Type 0} (d : Domain I) (p : Program) (facts : Facts I) where
  -- so many tracked cells, and registers of a function
  abbrev pub NeedsAt : ℕ → Func → Flowing I → Needs I
  NeedsAt k f flow = needs_at k (length (registers f)) (length (tracked p)) flow

  -- ---- 1: the set of each key has the first values of its cells; a static object without one has zeros (C99 6.7.8, 10). A key
  -- without a cell that is static is asked for the empty set

  abbrev pub IsFirstValue : Key → Value → Type 0
  IsFirstValue k v = (i position : ℕ) × (path : List Step) × LeadsTo p (root.Static i) path position × (cell_key p (root.Static i) path ≡ k) × (scalar_in (map (first_values p) p.objects) i position ≡ Some v)

  -- the least set of the kind of the key's
  pub record IsFirstSet (n : ℕ) (k : Key) (y : Abs I) : Type 0 where
    pub set : Abs I
    pub there : slice_get facts.whole n ≡ Some set
    pub alike : AreOfOneKind set y
    pub has : (v : Value) → IsFirstValue k v → HasValue d.has y v
    pub least : (u : Abs I) → AreOfOneKind set u → ((v : Value) → IsFirstValue k v → HasValue d.has u v) → IsBelowAbs d.below y u

  abbrev pub AreFirstSets : ℕ → List Key → Needs I → Type 0
  AreFirstSets n [] ns = ns ≡ []
  AreFirstSets n (k ∷ keys) ns = (y : Abs I) × (rest : Needs I) × IsFirstSet n k y × AreFirstSets (suc n) keys rest × (ns ≡ (Whole n, Values (Some y)) ∷ rest)

  -- ---- 2: main is entered by main, at level 0, with the flag off, and with the first values of the tracked cells

  abbrev pub IsOnly : Value → Option (Abs I) → Type 0
  IsOnly v y = (x : Abs I) × (y ≡ Some x) × HasValue d.has x v × ((u : Abs I) → HasValue d.has u v → IsBelowAbs d.below x u)

  pub record IsStart (flow : Flowing I) : Type 0 where
    pub off : flow.off ≡ true
    pub on : flow.on ≡ false
    pub locals : (r : ℕ) → flow.local r ≡ None
    pub cells : (j i : ℕ) (v : Value) → slice_get (tracked p) j ≡ Some i → scalar_in (map (first_values p) p.objects) i 0 ≡ Some v → IsOnly v (flow.cell j)
    pub pairs : (r j : ℕ) → flow.pair r j ≡ false

  pub data IsStarted (n : ℕ) : Needs I → Type 0 where
    AtStart : {ns : Needs I} (f : Func) (flow : Flowing I) → slice_get p.funcs p.main ≡ Some f → n ≡ entry p p.main → IsStart flow → ns ≡ (ByMain p.main, Mark true) ∷ (Levels p.main, LevelSet (only_level 0)) ∷ NeedsAt n f flow → IsStarted n ns
    Elsewhere : {ns : Needs I} → (n ≡ entry p p.main → ⊥) → ns ≡ [] → IsStarted n ns

  -- ---- the others, at a point that is reached

  module _ (n id : ℕ) (f : Func) (point : Point) (fact : PointFact I) where
    abbrev pub IsValue : Expr → Abs I → Type 0
    IsValue e y = ValueAt d p id f facts point n fact e y

    abbrev pub AreValues : List Expr → List (Abs I) → Type 0
    AreValues [] ys = ys ≡ []
    AreValues (e ∷ es) ys = (y : Abs I) × (rest : List (Abs I)) × IsValue e y × AreValues es rest × (ys ≡ y ∷ rest)

    -- the numbers of the keys that a place may name, ascending
    abbrev pub AreNumbers : List Key → List ℕ → Type 0
    AreNumbers [] ks = ks ≡ []
    AreNumbers (k ∷ keys) ks = (number : ℕ) × (rest : List ℕ) × (key_number p k ≡ Some number) × AreNumbers keys rest × (ks ≡ number ∷ rest)

    abbrev pub AreKeys : Place → List ℕ → Type 0
    AreKeys a ks = (keys : List Key) × AreNamed d p id f (sets d p id f facts point n fact) a keys × AreNumbers keys ks

    -- 3: each next point has what flows there
    abbrev pub flows_to : ℕ → List (ℕ × Flowing I) → List (Flowing I)
    flows_to k flows = map (λ (a : ℕ × Flowing I). a.1) (filter (λ (a : ℕ × Flowing I). a.0 == k) flows)

    abbrev pub ComesTo : ℕ → List (Flowing I) → Needs I → Type 0
    ComesTo k [] ns = ns ≡ []
    ComesTo k (a ∷ flows) ns = (flow : Flowing I) × IsJoined d.below (a ∷ flows) flow × (ns ≡ NeedsAt k f flow)

    abbrev pub ComesToEach : List ℕ → List (ℕ × Flowing I) → Needs I → Type 0
    ComesToEach [] flows ns = ns ≡ []
    ComesToEach (k ∷ next) flows ns = (here rest : Needs I) × ComesTo k (flows_to k flows) here × ComesToEach next flows rest × (ns ≡ here ++ rest)

    -- 4: a set of the whole run has what is written
    pub data Written : Act → Needs I → Type 0 where
      OfWrite : {act : Act} {ns : Needs I} (a : Place) (e : Expr) (y : Abs I) (ks : List ℕ) → act ≡ Writes a e → IsValue e y → AreKeys a ks → ns ≡ map (λ k. (Whole k, Values (Some y))) ks → Written act ns
      OfNone : {act : Act} {ns : Needs I} → ((a : Place) (e : Expr) → act ≡ Writes a e → ⊥) → ns ≡ [] → Written act ns

    -- 5: an access of a function that a handler reaches marks its keys, and gives them the levels of the handlers from which it is reached
    abbrev pub reads : List ℕ → Needs I
    reads ks = map (λ k. (HandlerReads k, Mark true)) ks ++ map (λ k. (ReadLevels k, LevelSet (levels_of facts.from id))) ks

    abbrev pub writes : List ℕ → Needs I
    writes ks = map (λ k. (HandlerWrites k, Mark true)) ks ++ map (λ k. (WriteLevels k, LevelSet (levels_of facts.from id))) ks

    pub data Touched : Act → Needs I → Type 0 where
      ByRead : {act : Act} {ns : Needs I} (r : ℕ) (a : Place) (ks : List ℕ) → act ≡ Reads r a → AreKeys a ks → ns ≡ (if mark_of facts.by_handler id then reads ks else []) → Touched act ns
      ByWrite : {act : Act} {ns : Needs I} (a : Place) (e : Expr) (ks : List ℕ) → act ≡ Writes a e → AreKeys a ks → ns ≡ (if mark_of facts.by_handler id then writes ks else []) → Touched act ns
      ByNone : {act : Act} {ns : Needs I} → ((r : ℕ) (a : Place) → act ≡ Reads r a → ⊥) → ((a : Place) (e : Expr) → act ≡ Writes a e → ⊥) → ns ≡ [] → Touched act ns

    -- ---- the functions that may be called

    pub record AreCalled (g : Expr) (gs : List ℕ) : Type 0 where
      pub operand : Abs I
      pub given : IsValue g operand
      pub called : (h : ℕ) → (Contains gs h → HasValue d.has operand (value.Place (address.Func h))) × (HasValue d.has operand (value.Place (address.Func h)) → Contains gs h)
      pub ascend : AllPairs (λ g h. g < h) gs

    -- for each of them
    abbrev pub ForEach : (ℕ → Func → Needs I → Type 0) → List ℕ → Needs I → Type 0
    ForEach asks [] ns = ns ≡ []
    ForEach asks (g ∷ gs) ns = (callee : Func) × (here rest : Needs I) × (slice_get p.funcs g ≡ Some callee) × asks g callee here × ForEach asks gs rest × (ns ≡ here ++ rest)

    -- 6: it is reached as the caller is, and is entered with the flag and the cells of the point, and with the arguments
    abbrev pub parameter : List (Abs I) → Func → ℕ → Option (Abs I)
    parameter ys callee number = option_and_then (slice_get ys) (slice_get (registers callee) number)

    abbrev pub at_entry : List (Abs I) → Func → Flowing I
    at_entry ys callee = record (without_pairs (of_fact fact)) { local = parameter ys callee }

    -- a parameter that is no register
    abbrev pub need_whole : Option ℕ → Abs I → Needs I
    need_whole None y = []
    need_whole (Some k) y = (Whole k, Values (Some y)) ∷ []

    abbrev pub other_parameters : ℕ → ℕ → List (Abs I) → Needs I
    other_parameters g r [] = []
    other_parameters g r (y ∷ ys) = need_whole (key_number p (key.Local g r)) y ++ other_parameters g (suc r) ys

    abbrev pub Entered : List (Abs I) → ℕ → Func → Needs I → Type 0
    Entered ys g callee ns =
        ns ≡ (ByMain g, Mark (mark_of facts.by_main id)) ∷ (ByHandler g, Mark (mark_of facts.by_handler id)) ∷ (Levels g, LevelSet (levels_of facts.levels id)) ∷ (From g, LevelSet (levels_of facts.from id)) ∷
        (NeedsAt (entry p g) callee (at_entry ys callee) ++ other_parameters g 0 ys)

    -- 7: behind the call there are the flag and the cells of its exit, where that is reached, and the result; no register is known to equal a
    -- cell. Main gives 0 at its end (5.1.2.2.3).
    pub data IsResult : ℕ → Func → Abs I → Type 0 where
      OfMain : {g : ℕ} {callee : Func} {y : Abs I} (x zero : Abs I) → g ≡ p.main → gives_nothing (Some callee) ≡ false → slice_get facts.results g ≡ Some x → IsOnly (value.Int (pos 0)) (Some zero) →
          AreOfOneKind x y → IsBelowAbs d.below x y → IsBelowAbs d.below zero y → ((u : Abs I) → AreOfOneKind x u → IsBelowAbs d.below x u → IsBelowAbs d.below zero u → IsBelowAbs d.below y u) → IsResult g callee y
      OfOther : {g : ℕ} {callee : Func} {y : Abs I} → (g ≡ p.main → gives_nothing (Some callee) ≡ true) → slice_get facts.results g ≡ Some y → IsResult g callee y

    abbrev pub of_exit : PointFact I → Flowing I → Flowing I
    of_exit exit flow = record flow { off = exit.off; on = exit.on; cell = cell_of exit; pair = λ r j. false }

    pub data IsGiven : Option ℕ → ℕ → Func → Flowing I → Type 0 where
      ToRegister : {result : Option ℕ} {g : ℕ} {callee : Func} {flow : Flowing I} (r number : ℕ) (y : Abs I) → result ≡ Some r → register_number f r ≡ Some number → IsResult g callee y → flow ≡ with_local number y (of_fact fact) → IsGiven result g callee flow
      ToNone : {result : Option ℕ} {g : ℕ} {callee : Func} {flow : Flowing I} → result ≡ None → flow ≡ of_fact fact → IsGiven result g callee flow

    pub data Returned : Option ℕ → ℕ → Func → Needs I → Type 0 where
      FromExit : {result : Option ℕ} {g : ℕ} {callee : Func} {ns : Needs I} (exit : PointFact I) (flow : Flowing I) → fact_at facts (exit_of p g callee) ≡ Some exit → IsGiven result g callee flow → ns ≡ flat_map (λ k. NeedsAt k f (of_exit exit flow)) point.next → Returned result g callee ns
      NoExit : {result : Option ℕ} {g : ℕ} {callee : Func} {ns : Needs I} → fact_at facts (exit_of p g callee) ≡ None → ns ≡ [] → Returned result g callee ns

    pub data CallAsks (entering : Bool) : Act → Needs I → Type 0 where
      OfEntries : {act : Act} {ns : Needs I} (result : Option ℕ) (g : Expr) (args : List Expr) (gs : List ℕ) (ys : List (Abs I)) → entering ≡ true → act ≡ Calls result g args → AreCalled g gs → AreValues args ys → ForEach (Entered ys) gs ns → CallAsks entering act ns
      OfReturns : {act : Act} {ns : Needs I} (result : Option ℕ) (g : Expr) (args : List Expr) (gs : List ℕ) → entering ≡ false → act ≡ Calls result g args → AreCalled g gs → ForEach (Returned result) gs ns → CallAsks entering act ns
      OfNoCall : {act : Act} {ns : Needs I} → ((result : Option ℕ) (g : Expr) (args : List Expr) → act ≡ Calls result g args → ⊥) → ns ≡ [] → CallAsks entering act ns

    -- 8: the set of the function's results has what is returned
    pub data Given : Act → Needs I → Type 0 where
      OfReturn : {act : Act} {ns : Needs I} (e : Expr) (y : Abs I) → act ≡ Returns (Some e) → IsValue e y → ns ≡ (Result id, Values (Some y)) ∷ [] → Given act ns
      OfNoValue : {act : Act} {ns : Needs I} → ((e : Expr) → act ≡ Returns (Some e) → ⊥) → ns ≡ [] → Given act ns

    -- 9: a handler that may enter is reached from handlers, of its own level; it runs at that or, at level 0, where the function does, and is
    -- entered with the flag off and the cells of the point
    abbrev pub entry_levels : ℕ → ℕ
    entry_levels level = if level == 0 then levels_of facts.levels id else only_level level

    abbrev pub at_handler : Flowing I
    at_handler = record (without_pairs (of_fact fact)) { off = true; on = false; local = λ r. None }

    abbrev pub interrupted : ℕ → Func → Needs I
    interrupted h handler =
        (ByHandler h, Mark true) ∷ (Levels h, LevelSet (entry_levels (level_of p h))) ∷ (From h, LevelSet (only_level (level_of p h))) ∷ NeedsAt (entry p h) handler at_handler

    abbrev pub entering : List ℕ
    entering = filter (λ h. may_enter (levels_of facts.levels id) (level_of p h)) (handlers p)

    -- 10: a tracked cell that handlers which may enter may write has what it may have in the whole run, and no register is known to equal it
    abbrev pub whole_number : ℕ → Option ℕ
    whole_number j = option_and_then (λ i. key_number p (key.Object i)) (slice_get (tracked p) j)

    abbrev pub is_written : Option ℕ → Bool
    is_written None = false
    is_written (Some k) = one_may_enter (levels_of facts.levels id) (levels_of facts.write_levels k)

    abbrev pub is_unstable : ℕ → Bool
    is_unstable j = is_written (whole_number j)

    abbrev pub unstable_cell : ℕ → Slot × Part I
    unstable_cell j = (CellAt n j, Values (option_and_then (slice_get facts.whole) (whole_number j)))

    abbrev pub unstable : Needs I
    unstable =
        map unstable_cell (filter is_unstable (numbers 0 (length (tracked p))))
        ++ map (λ q. (Apart n q.0 q.1, Mark true)) (filter (λ (q : ℕ × ℕ). is_unstable q.1) (each_pair (length (registers f)) (length (tracked p))))

    -- where the flag may be on
    abbrev pub HandlersAsk : Bool → Needs I → Type 0
    HandlersAsk true ns = ForEach (λ h handler here. here ≡ interrupted h handler) entering ns
    HandlersAsk false ns = ns ≡ []

    abbrev pub AskedHere : Rule → Act → Needs I → Type 0
    AskedHere Initial act ns = ns ≡ []
    AskedHere Start act ns = ns ≡ []
    AskedHere Flow act ns = (flows : List (ℕ × Flowing I)) × Flows d p id f facts point n fact act flows × ComesToEach point.next flows ns
    AskedHere Write act ns = Written act ns
    AskedHere Touch act ns = Touched act ns
    AskedHere Call act ns = CallAsks true act ns
    AskedHere Back act ns = CallAsks false act ns
    AskedHere Return act ns = Given act ns
    AskedHere Handler act ns = HandlersAsk fact.on ns
    AskedHere Stability act ns = ns ≡ (if fact.on then unstable else [])

  abbrev pub AskedIn : Rule → ℕ → Option (PointFact I) → Needs I → Type 0
  AskedIn rule n None ns = ns ≡ []
  AskedIn rule n (Some fact) ns = (id : ℕ) × (f : Func) × (point : Point) × IsPoint p n id f point × AskedHere n id f point fact rule (act_at (statement_of f point) f) ns

  -- a point that is not reached asks for nothing, but where the program starts
  abbrev pub IsAsked : Constraint → Needs I → Type 0
  IsAsked c ns = by_rule c.rule
    where
      by_rule : Rule → Type 0
      by_rule Initial = AreFirstSets 0 (keys_of p) ns
      by_rule Start = IsStarted c.point ns
      by_rule rule = AskedIn rule c.point (fact_at facts c.point) ns

module _ {I : Type 0} (d : Domain I) (p : Program) where
  -- what a constraint asks of some facts is had by others
  abbrev pub Asks : Constraint → Facts I → Facts I → Type 0
  Asks c facts others = (ns : Needs I) × IsAsked d p facts c ns × HasAll d.below ns others

  abbrev pub IsMet : Constraint → Facts I → Type 0
  IsMet c facts = Asks c facts facts

  abbrev pub IsSolution : Facts I → Type 0
  IsSolution facts = (c : Constraint) → Contains (constraints p) c → IsMet c facts
