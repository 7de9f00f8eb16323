-- What constraints read of facts and what they raise, each as a whole: a constraint is asked again where it reads what another one raises.
use Rattle.std.specs.Prelude.{◌≡◌, ◌<◌, ℕ, true, List, [], ◌∷◌, length, Option, Some, None, slice_get}
use Rattle.std.specs.List.{Contains}
use Rattle.cc_rules_grow.specs.CcFlow.declared.types.Point.{Point}
use Rattle.cc_rules_grow.specs.CcFlowSound.Moves.{entry}
use Rattle.cc_program.specs.declared.expr.Expr.{Expr}
use Rattle.cc_program.specs.declared.expr.Place.{Place, out-Place}
use Rattle.cc_program.specs.declared.func.Func.{Func}
use Rattle.cc_program.specs.declared.program.Program.{Program}
use Rattle.cc_rules_grow.specs.CcRules.Constraints.{Rule, Initial, Start, Flow, Write, Touch, Call, Back, Return, Handler, Stability, Constraint}
use Rattle.cc_rules_grow.specs.CcRules.Rules.{act_at, handlers}
use Rattle.cc_rules_grow.specs.CcRulesFlows.Acts.{Act, Reads, Writes, Calls, Returns}
use Rattle.cc_rules_grow.specs.CcRulesFlows.Nexts.{IsPoint, statement_of, exit_of}
use Rattle.cc_rules_grow.specs.CcRulesNeeds.declared.needs.Slot.{Slot}
use Rattle.cc_rules_grow.specs.CcRulesNeeds.declared.needs.Slot.TheVariants as slot
use Rattle.cc_rules_reads.specs.Reads.{MayName, MayCall, AreSameAt, AreSameWhole, AreSameMarks}
use Rattle.cc_rules_grow.specs.CcStateFacts.declared.facts.Facts.{Facts}
use Rattle.cc_rules_grow.specs.CcStateFacts.declared.facts.Key.{Key}
use Rattle.cc_rules_grow.specs.CcStateFacts.declared.facts.Key.TheVariants as key
use Rattle.cc_rules_grow.specs.CcStateFacts.Facts.{mark_of, levels_of}
use Rattle.cc_rules_grow.specs.CcStateFacts.Levels.{one_may_enter}
use Rattle.cc_rules_grow.specs.CcStateKeys.Keys.{keys_of, key_number}
use Rattle.cc_rules_grow.specs.CcStateKeys.Tracked.{tracked}
use Rattle.cc_rules_grow.specs.CcStateReads.Reads.{tracked_in}

pub data Thing : Type 0 where
  -- what is known at a point; the whole-run set of a key; what a function gives
  OfPoint : ℕ → Thing
  OfWhole : ℕ → Thing
  OfResult : ℕ → Thing
  -- by whom a function is reached and at which levels; how the code of handlers accesses a key, and at which levels
  OfReach : ℕ → Thing
  OfTouch : ℕ → Thing

-- that of a slot
abbrev pub thing_of : Slot → Thing
thing_of (slot.Whole k) = OfWhole k
thing_of (slot.HandlerReads k) = OfTouch k
thing_of (slot.HandlerWrites k) = OfTouch k
thing_of (slot.ReadLevels k) = OfTouch k
thing_of (slot.WriteLevels k) = OfTouch k
thing_of (slot.Result g) = OfResult g
thing_of (slot.ByMain g) = OfReach g
thing_of (slot.ByHandler g) = OfReach g
thing_of (slot.Levels g) = OfReach g
thing_of (slot.From g) = OfReach g
thing_of (slot.Flag n) = OfPoint n
thing_of (slot.LocalAt n r) = OfPoint n
thing_of (slot.CellAt n j) = OfPoint n
thing_of (slot.Apart n r j) = OfPoint n

module _ (p : Program) where
  -- a function that is called
  abbrev pub IsCalledBy : Act → ℕ → Func → Type 0
  IsCalledBy act g callee = (result : Option ℕ) × (e : Expr) × (args : List Expr) × (act ≡ Calls result e args) × MayCall e g × (slice_get p.funcs g ≡ Some callee)

  -- the key of a local of a function
  abbrev pub IsKeyOfLocal : ℕ → ℕ → Type 0
  IsKeyOfLocal g number = (r : ℕ) × (key_number p (key.Local g r) ≡ Some number)

  module _ (n id : ℕ) (f : Func) (point : Point) (act : Act) where
    -- the key of a place that is read, or written
    abbrev pub IsWrittenKey : ℕ → Type 0
    IsWrittenKey number = (a : Place) × (e : Expr) × (k : Key) × (act ≡ Writes a e) × MayName p id f k a × (key_number p k ≡ Some number)

    abbrev pub IsReadKey : ℕ → Type 0
    IsReadKey number = (r : ℕ) × (a : Place) × (k : Key) × (act ≡ Reads r a) × MayName p id f k a × (key_number p k ≡ Some number)

    -- what a constraint raises at a point
    pub data RaisesHere : Rule → Thing → Type 0 where
      ByFlow : {rule : Rule} {t : Thing} (k : ℕ) → rule ≡ Flow → Contains point.next k → t ≡ OfPoint k → RaisesHere rule t
      ByWrite : {rule : Rule} {t : Thing} (number : ℕ) → rule ≡ Write → IsWrittenKey number → t ≡ OfWhole number → RaisesHere rule t
      ByTouchOfRead : {rule : Rule} {t : Thing} (number : ℕ) → rule ≡ Touch → IsReadKey number → t ≡ OfTouch number → RaisesHere rule t
      ByTouchOfWrite : {rule : Rule} {t : Thing} (number : ℕ) → rule ≡ Touch → IsWrittenKey number → t ≡ OfTouch number → RaisesHere rule t
      ByCall : {rule : Rule} {t : Thing} (g : ℕ) (callee : Func) → rule ≡ Call → IsCalledBy act g callee → t ≡ OfReach g → RaisesHere rule t
      ByEntry : {rule : Rule} {t : Thing} (g : ℕ) (callee : Func) → rule ≡ Call → IsCalledBy act g callee → t ≡ OfPoint (entry p g) → RaisesHere rule t
      ByArgument : {rule : Rule} {t : Thing} (g number : ℕ) (callee : Func) → rule ≡ Call → IsCalledBy act g callee → IsKeyOfLocal g number → t ≡ OfWhole number → RaisesHere rule t
      ByBack : {rule : Rule} {t : Thing} (k g : ℕ) (callee : Func) → rule ≡ Back → IsCalledBy act g callee → Contains point.next k → t ≡ OfPoint k → RaisesHere rule t
      ByReturn : {rule : Rule} {t : Thing} (e : Expr) → rule ≡ Return → act ≡ Returns (Some e) → t ≡ OfResult id → RaisesHere rule t
      ByHandler : {rule : Rule} {t : Thing} (h : ℕ) → rule ≡ Handler → Contains (handlers p) h → t ≡ OfReach h → RaisesHere rule t
      ByHandlerEntry : {rule : Rule} {t : Thing} (h : ℕ) → rule ≡ Handler → Contains (handlers p) h → t ≡ OfPoint (entry p h) → RaisesHere rule t
      ByStability : {rule : Rule} {t : Thing} → rule ≡ Stability → t ≡ OfPoint n → RaisesHere rule t

    -- and what one reads there beside what is known there
    module _ {I : Type 0} (facts : Facts I) where
      -- the key of a tracked cell
      abbrev pub IsTrackedKey : ℕ → Type 0
      IsTrackedKey number = (j : ℕ) × (i : ℕ) × (slice_get (tracked p) j ≡ Some i) × (key_number p (key.Object i) ≡ Some number)

      pub data ReadsHere : Rule → Thing → Type 0 where
        OfRead : {rule : Rule} {t : Thing} (r number : ℕ) (a : Place) (k : Key) → rule ≡ Flow → act ≡ Reads r a → tracked_in p (out-Place a) ≡ None → MayName p id f k a → key_number p k ≡ Some number → t ≡ OfWhole number → ReadsHere rule t
        OfReached : {rule : Rule} {t : Thing} → Contains (Touch ∷ Call ∷ Handler ∷ Stability ∷ []) rule → t ≡ OfReach id → ReadsHere rule t
        OfGiven : {rule : Rule} {t : Thing} (g : ℕ) (callee : Func) → rule ≡ Back → IsCalledBy act g callee → t ≡ OfResult g → ReadsHere rule t
        OfExit : {rule : Rule} {t : Thing} (g : ℕ) (callee : Func) → rule ≡ Back → IsCalledBy act g callee → t ≡ OfPoint (exit_of p g callee) → ReadsHere rule t
        OfWriters : {rule : Rule} {t : Thing} (number : ℕ) → rule ≡ Stability → IsTrackedKey number → t ≡ OfTouch number → ReadsHere rule t
        OfUnstable : {rule : Rule} {t : Thing} (number : ℕ) → rule ≡ Stability → IsTrackedKey number → one_may_enter (levels_of facts.levels id) (levels_of facts.write_levels number) ≡ true → t ≡ OfWhole number → ReadsHere rule t

  -- ---- of each constraint

  abbrev pub RaisesAt : Rule → ℕ → Thing → Type 0
  RaisesAt rule n t = (id : ℕ) × (f : Func) × (point : Point) × IsPoint p n id f point × RaisesHere n id f point (act_at (statement_of f point) f) rule t

  pub data Raises (c : Constraint) (t : Thing) : Type 0 where
    AtFirst : (k : ℕ) → c.rule ≡ Initial → k < length (keys_of p) → t ≡ OfWhole k → Raises c t
    AtMain : c.rule ≡ Start → c.point ≡ entry p p.main → t ≡ OfReach p.main → Raises c t
    AtMainEntry : c.rule ≡ Start → c.point ≡ entry p p.main → t ≡ OfPoint c.point → Raises c t
    AtPoint : RaisesAt c.rule c.point t → Raises c t

  -- each but the first two reads what is known at its point
  pub data ReadsThing {I : Type 0} (facts : Facts I) (c : Constraint) (t : Thing) : Type 0 where
    ItsPoint : Contains (Flow ∷ Write ∷ Touch ∷ Call ∷ Back ∷ Return ∷ Handler ∷ Stability ∷ []) c.rule → t ≡ OfPoint c.point → ReadsThing facts c t
    Beside : (id : ℕ) (f : Func) (point : Point) → IsPoint p c.point id f point → ReadsHere c.point id f point (act_at (statement_of f point) f) facts c.rule t → ReadsThing facts c t

  -- ---- a thing that is the same in two facts

  -- how the code of handlers accesses a key
  pub record AreSameTouches {I : Type 0} (facts others : Facts I) (k : ℕ) : Type 0 where
    pub reads : mark_of facts.handler_reads k ≡ mark_of others.handler_reads k
    pub writes : mark_of facts.handler_writes k ≡ mark_of others.handler_writes k
    pub read_levels : levels_of facts.read_levels k ≡ levels_of others.read_levels k
    pub write_levels : levels_of facts.write_levels k ≡ levels_of others.write_levels k

  abbrev pub IsSame : {I : Type 0} → Facts I → Facts I → Thing → Type 0
  IsSame facts others (OfPoint n) = AreSameAt p facts others n
  IsSame facts others (OfWhole k) = AreSameWhole p facts others k
  IsSame facts others (OfResult g) = slice_get facts.results g ≡ slice_get others.results g
  IsSame facts others (OfReach id) = AreSameMarks p facts others id
  IsSame facts others (OfTouch k) = AreSameTouches facts others k
