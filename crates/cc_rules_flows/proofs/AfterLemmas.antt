-- What flows from a point where nothing is tested, told by facts.
use Rattle.std.proofs.Common.{arith, ◌≡◌, ◌<◌, ℕ, Bool, true, false, not, ◌||◌, cond, All, List, [], ◌∷◌, map, length, Option, Some, None, IfSome, is_some, option_and_then, ◌==◌, position, slice_get, refl, ap, sym, subst, ◌∙◌}
use Rattle.std.proofs.lemmas.List.Elements.{All-nil, All-cons, All-same}
use Rattle.std.proofs.lemmas.List.Quantifiers.{position-Some}
use Rattle.cc_state_reads.specs.CcPlaces.declared.abs.Abs.{Abs}
use Rattle.cc_state_reads.specs.CcPlaces.declared.abs.Abs.TheVariants as abs
use Rattle.cc_program.specs.declared.expr.Expr.{Expr}
use Rattle.cc_program.specs.declared.expr.Expr.TheOpen as one
use Rattle.cc_program.specs.declared.expr.Place.{Place, out-Place}
use Rattle.cc_rules_flows.specs.declared.after.Here.{Here}
use Rattle.cc_rules_flows.specs.Acts.{Act, Sets, Reads, Writes, Calls, Saves, Turns, Restores, Returns, Passes}
use Rattle.cc_rules_flows.specs.Flag.{IsFlagOf}
use Rattle.cc_rules_flows.specs.Flows.{OfSets, OfReads, OfWrites, OfTurns, OfSaves, OfSavesAlone, OfRestores, OfReturns, OfPasses, OfCalls}
use Rattle.cc_rules_flows.specs.Here.{IsHere, IsAfter, IsWithFlags, DoesFlow, KeepsShapeHere}
use Rattle.cc_rules_flows.specs.Kept.{KeepsShape}
use Rattle.cc_rules_flows.specs.Known.{Tells, AreTold}
use Rattle.cc_rules_flows.proofs.ShapeLemmas.{kept_itself, kept_through}
use Rattle.cc_rules_needs.specs.Flowing.{Flowing, of_fact, with_local, with_pair, with_cell, with_flags}
use Rattle.cc_state_reads.specs.CcStateFacts.declared.facts.PointFact.{PointFact}
use Rattle.cc_state_reads.specs.CcStateFacts.Facts.{fact_at, cell_at, cell_of, local_of}
use Rattle.cc_state_reads.specs.CcStateKeys.Tracked.{registers, register_number, tracked}
use Rattle.cc_state_reads.specs.CcStateOperators.Domains.{Domain, IsHull, MayBe}
use Rattle.cc_state_reads.specs.Contexts.{IsReadIn}
use Rattle.cc_state_reads.specs.Reads.{IsRead, object_in, registers_at, tracked_in}
use Rattle.cc_state_reads.specs.CcStateValues.Contexts.{IsValIn, set_in}
use Rattle.cc_state_reads.specs.CcStateValues.Values.{IsVal}

pub itself : {I : Type 0} (fact : PointFact I) → Tells fact (of_fact fact)
itself fact = record { off = refl; on = refl; locals = λ r. refl; cells = λ j. refl; pairs = λ r j. refl }

-- ---- the same to each of some points

told_to_all : {I : Type 0} (fact : PointFact I) (flow : Flowing I) (next : List ℕ) → Tells fact flow → AreTold (map (λ k. (k, fact)) next) (map (λ k. (k, flow)) next)
told_to_all fact flow [] t = tt
told_to_all fact flow (k ∷ next) t = ((refl, t), told_to_all fact flow next t)

told_by : {I : Type 0} (fact : PointFact I) (flow : Flowing I) (next : List ℕ) (told : List (ℕ × PointFact I)) → Tells fact flow → told ≡ map (λ k. (k, fact)) next → AreTold told (map (λ k. (k, flow)) next)
told_by fact flow next told t e = subst (λ xs. AreTold xs (map (λ k. (k, flow)) next)) (sym e) (told_to_all fact flow next t)

each_of : {I : Type 0} (P : PointFact I → Type 0) (fact : PointFact I) (next : List ℕ) → P fact → All (λ (flow : ℕ × PointFact I). P flow.1) (map (λ k. (k, fact)) next)
each_of {I = I} P fact [] h = All-nil (λ (flow : ℕ × PointFact I). P flow.1)
each_of {I = I} P fact (k ∷ next) h = All-cons (λ (flow : ℕ × PointFact I). P flow.1) (k, fact) (map (λ k. (k, fact)) next) h (each_of P fact next h)

-- ---- a fact that was made from a copy

pub changed : {I : Type 0} (old copy new : PointFact I) (change : Flowing I → Flowing I) → copy ≡ old → ((flow : Flowing I) → Tells copy flow → Tells new (change flow)) → Tells new (change (of_fact old))
changed old copy new change e h = h (of_fact old) (subst (λ fact. Tells fact (of_fact old)) (sym e) (itself old))

pub shaped : {I : Type 0} (registers cells : ℕ) (old copy new : PointFact I) → copy ≡ old → KeepsShape registers cells copy new → KeepsShape registers cells old new
shaped registers cells old copy new e h = subst (λ fact. KeepsShape registers cells fact new) e h

-- ---- positions

position_within : (f : ℕ → Bool) (xs : List ℕ) (k : ℕ) → position f xs ≡ Some k → k < length xs
position_within f xs k h = (position-Some f xs k 0 h).0

pub number_within : (xs : List ℕ) (n k : ℕ) → position (λ q. q == n) xs ≡ Some k → k < length xs
number_within xs n k h = position_within (λ q. q == n) xs k h

object_within : (objects : List ℕ) (x : one.Place-F Expr Place) → IfSome (object_in objects x) (λ k. k < length objects)
object_within objects (one.Static i) = found (position (λ k. k == i) objects) refl
  where
    found : (o : Option ℕ) → position (λ k. k == i) objects ≡ o → IfSome o (λ k. k < length objects)
    found None e = tt
    found (Some k) e = position_within (λ k. k == i) objects k e
object_within objects (one.Local r) = tt
object_within objects (one.Device n) = tt
object_within objects (one.Element a i) = tt
object_within objects (one.Member a m) = tt
object_within objects (one.Deref e) = tt

if_more : {A : Type 0} (P Q : A → Type 0) (x : Option A) → ((a : A) → P a → Q a) → IfSome x P → IfSome x Q
if_more P Q None f h = h
if_more P Q (Some a) f h = f a h

module _ {I : Type 0} (d : Domain I) (here : Here I) where
  pub cell_within : (a : Place) (cell : Option ℕ) → IsHere d here → cell ≡ tracked_in here.context.program.now (out-Place a) → IfSome cell (λ j. j < length here.tracked.now)
  cell_within a cell h e =
      subst (λ x. IfSome x (λ j. j < length here.tracked.now)) (sym e)
      (subst (λ ts. IfSome (object_in ts (out-Place a)) (λ j. j < length here.tracked.now)) h.tracked (object_within here.tracked.now (out-Place a)))

  -- a tracked cell has a set, in a copy too
  pub cell_known : (a : Place) (cell : Option ℕ) (copy : PointFact I) → IsHere d here → cell ≡ tracked_in here.context.program.now (out-Place a) → copy ≡ here.fact.now → IfSome cell (λ j. is_some (cell_of copy j) ≡ true)
  cell_known a cell copy h e c =
      if_more (λ j. j < length here.tracked.now) (λ j. is_some (cell_of copy j) ≡ true) cell (λ j l. subst (λ fact. is_some (cell_of fact j) ≡ true) (sym c) (h.cells j l)) (cell_within a cell h e)

  -- and so in the facts
  pub cells_known : IsHere d here → (cell : ℕ) → cell < length here.tracked.now → is_some (cell_at here.facts.now here.number cell) ≡ true
  cells_known h cell l = subst (λ x. is_some (option_and_then (λ fact. cell_of fact cell) x) ≡ true) (sym h.reached) (h.cells cell l)

  pub register_within : (number : ℕ) → IsHere d here → number < length here.fact.now.locals → number < length here.context.registers.now
  register_within number h l = subst (λ n. number < n) h.each l

  -- the registers of the function at the point
  there : (P : (ℕ → Option (Abs I)) → Type 0) → IsHere d here → P (set_in here.context) → P (registers_at here.facts.now here.context.func.now here.number)
  there P h p =
      let a : P (λ r. option_and_then (slice_get here.context.sets.now) (register_number here.context.func.now r)) =
      subst (λ rs. P (λ r. option_and_then (slice_get here.context.sets.now) (position (λ q. q == r) rs))) h.registers p in
      let b : P (λ r. option_and_then (local_of here.fact.now) (register_number here.context.func.now r)) =
      subst (λ sets. P (λ r. option_and_then (slice_get sets) (register_number here.context.func.now r))) h.sets a in
      subst (λ x. P (λ r. option_and_then (λ local. option_and_then (λ fact. local_of fact local) x) (register_number here.context.func.now r))) (sym h.reached) b

  value_there : (e : Expr) (y : Abs I) → IsHere d here → IsValIn d here.context e y → IsVal d here.context.program.now here.context.id here.context.func.now (registers_at here.facts.now here.context.func.now here.number) e y
  value_there e y h v = there (λ s. IsVal d here.context.program.now here.context.id here.context.func.now s e y) h v

  read_there : (a : Place) (y : Abs I) → IsHere d here → IsReadIn d here.context here.facts.now here.number a y →
      IsRead d here.context.program.now here.context.id here.context.func.now (registers_at here.facts.now here.context.func.now here.number) here.facts.now here.number a y
  read_there a y h v = there (λ s. IsRead d here.context.program.now here.context.id here.context.func.now s here.facts.now here.number a y) h v

  -- ---- by each act

  pub of_sets : (r number : ℕ) (e : Expr) (y : Abs I) (fact : PointFact I) → IsHere d here → register_number here.context.func.now r ≡ Some number → IsValIn d here.context e y →
      Tells fact (with_local number y (of_fact here.fact.now)) → KeepsShapeHere d here fact → IsAfter d here (Sets r e) (Some fact)
  of_sets r number e y fact h n v t k = (_, OfSets r number e y refl n (value_there e y h v) refl, t, k)

  pub of_reads : (r number : ℕ) (a : Place) (y : Abs I) (cell : Option ℕ) (fact : PointFact I) → IsHere d here → register_number here.context.func.now r ≡ Some number → IsReadIn d here.context here.facts.now here.number a y →
      cell ≡ tracked_in here.context.program.now (out-Place a) → Tells fact (with_pair number cell (with_local number y (of_fact here.fact.now))) → KeepsShapeHere d here fact → IsAfter d here (Reads r a) (Some fact)
  of_reads r number a y cell fact h n v c t k =
      (_, OfReads r number a y refl n (read_there a y h v) refl, subst (λ x. Tells fact (with_pair number x (with_local number y (of_fact here.fact.now)))) c t, k)

  pub of_writes : (a : Place) (e : Expr) (y : Abs I) (cell : Option ℕ) (fact : PointFact I) → IsHere d here → IsValIn d here.context e y → cell ≡ tracked_in here.context.program.now (out-Place a) →
      Tells fact (with_cell cell y (of_fact here.fact.now)) → KeepsShapeHere d here fact → IsAfter d here (Writes a e) (Some fact)
  of_writes a e y cell fact h v c t k = (_, OfWrites a e y refl (value_there e y h v) refl, subst (λ x. Tells fact (with_cell x y (of_fact here.fact.now))) c t, k)

  pub of_saves : (r number : ℕ) (x : I) (fact : PointFact I) → register_number here.context.func.now r ≡ Some number → IsHull d (IsFlagOf here.fact.now.off here.fact.now.on) x →
      Tells fact (with_flags true false (with_local number (abs.Ints x) (of_fact here.fact.now))) → KeepsShapeHere d here fact → IsAfter d here (Saves (Some r)) (Some fact)
  of_saves r number x fact n u t k = (_, OfSaves r number x refl n u refl, t, k)

  abbrev Says : Bool → Type 0 → Type 0
  Says b A = (b ≡ true → A) × (A → b ≡ true)

  of_restores : (e : Expr) (y : Abs I) (off on : Bool) (fact : PointFact I) → IsHere d here → IsValIn d here.context e y → Says off (MayBe d false y) → Says on (MayBe d true y) → (off || on) ≡ true →
      Tells fact (with_flags off on (of_fact here.fact.now)) → KeepsShapeHere d here fact → IsAfter d here (Restores e) (Some fact)
  of_restores e y off on fact h v f n b t k =
      let flow = with_flags off on (of_fact here.fact.now) in
      let some : map (λ k. (k, flow)) here.point.now.next ≡ cond (off || on) (map (λ k. (k, flow)) here.point.now.next) [] = ap (λ b. cond b (map (λ k. (k, flow)) here.point.now.next) []) (sym b) in
      (flow, OfRestores e y off on refl (value_there e y h v) f n some, t, k)

  of_restores_none : (e : Expr) (y : Abs I) (off on : Bool) → IsHere d here → IsValIn d here.context e y → Says off (MayBe d false y) → Says on (MayBe d true y) → (off || on) ≡ false → IsAfter d here (Restores e) None
  of_restores_none e y off on h v f n b =
      OfRestores e y off on refl (value_there e y h v) f n (ap (λ b. cond b (map (λ k. (k, with_flags off on (of_fact here.fact.now))) here.point.now.next) []) (sym b))

  pub of_either : (e : Expr) (y : Abs I) (off on : Bool) (fact : Option (PointFact I)) → IsHere d here → IsValIn d here.context e y → Says off (MayBe d false y) → Says on (MayBe d true y) → IsWithFlags d here off on fact →
      IsAfter d here (Restores e) fact
  of_either e y off on None h v f n t = of_restores_none e y off on h v f n t
  of_either e y off on (Some fact) h v f n t = of_restores e y off on fact h v f n t.0 t.1 t.2

  pub of_turns : (on : Bool) (fact : PointFact I) → Tells fact (with_flags (not on) on (of_fact here.fact.now)) → KeepsShapeHere d here fact → IsAfter d here (Turns on) (Some fact)
  of_turns on fact t k = (_, OfTurns on refl refl, t, k)

  pub of_saves_alone : (fact : PointFact I) → Tells fact (with_flags true false (of_fact here.fact.now)) → KeepsShapeHere d here fact → IsAfter d here (Saves None) (Some fact)
  of_saves_alone fact t k = (_, OfSavesAlone refl refl, t, k)

  kept_copy : (fact : PointFact I) → fact ≡ here.fact.now → KeepsShapeHere d here fact
  kept_copy fact e = subst (λ x. KeepsShape (length here.context.registers.now) (length here.tracked.now) x fact) e (kept_itself (length here.context.registers.now) (length here.tracked.now) fact)

  tells_copy : (fact : PointFact I) → fact ≡ here.fact.now → Tells fact (of_fact here.fact.now)
  tells_copy fact e = subst (λ x. Tells fact (of_fact x)) e (itself fact)

  pub of_returns : (e : Option Expr) (fact : PointFact I) → fact ≡ here.fact.now → IsAfter d here (Returns e) (Some fact)
  of_returns e fact h = (_, OfReturns e refl refl, tells_copy fact h, kept_copy fact h)

  pub of_passes : (fact : PointFact I) → fact ≡ here.fact.now → IsAfter d here Passes (Some fact)
  of_passes fact h = (_, OfPasses refl refl, tells_copy fact h, kept_copy fact h)

  pub of_calls : (result : Option ℕ) (g : Expr) (args : List Expr) → IsAfter d here (Calls result g args) None
  of_calls result g args = OfCalls result g args refl refl

  -- ---- to each next point

  pub to_none : (act : Act) → IsAfter d here act None → DoesFlow d here act []
  to_none act f = ([], f, tt)

  pub to_each : (act : Act) (fact : PointFact I) (told : List (ℕ × PointFact I)) → IsAfter d here act (Some fact) → told ≡ map (λ k. (k, fact)) here.point.now.next → DoesFlow d here act told
  to_each act fact told a e = (_, a.1, told_by fact a.0 here.point.now.next told a.2 e)

  pub kept_each : (act : Act) (fact : PointFact I) (told : List (ℕ × PointFact I)) → IsAfter d here act (Some fact) → told ≡ map (λ k. (k, fact)) here.point.now.next → All (λ (flow : ℕ × PointFact I). KeepsShapeHere d here flow.1) told
  kept_each act fact told a e =
      All-same (λ (flow : ℕ × PointFact I). KeepsShapeHere d here flow.1) told (map (λ k. (k, fact)) here.point.now.next) e (each_of (KeepsShapeHere d here) fact here.point.now.next a.3)
