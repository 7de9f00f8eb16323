-- What a constraint reads of facts. Facts that are the same there are asked the same.
use Rattle.std.specs.Prelude.{◌≡◌, ℕ, true, List, Option, Some, None, option_and_then, slice_get}
use Rattle.std.specs.List.{AllZip}
use Rattle.cc_rules.specs.CcFlow.declared.types.Point.{Point}
use Rattle.cc_rules.specs.CcPlaces.Abstract.{AreOfOneKind}
use Rattle.cc_program.specs.declared.expr.Expr.{Expr, out-Expr}
use Rattle.cc_program.specs.declared.expr.Expr.TheOpen as one
use Rattle.cc_program.specs.declared.expr.Place.{Place, out-Place}
use Rattle.cc_program.specs.declared.func.Func.{Func}
use Rattle.cc_program.specs.declared.program.Program.{Program}
use Rattle.cc_rules.specs.Constraints.{Rule, Initial, Start, Flow, Write, Touch, Call, Back, Return, Handler, Stability, Constraint}
use Rattle.cc_rules.specs.Rules.{act_at}
use Rattle.cc_rules.specs.CcRulesFlows.Acts.{Act, Reads, Calls}
use Rattle.cc_rules.specs.CcRulesFlows.Nexts.{IsPoint, statement_of, exit_of}
use Rattle.cc_rules.specs.CcStateFacts.declared.facts.Facts.{Facts}
use Rattle.cc_rules.specs.CcStateFacts.declared.facts.Key.{Key}
use Rattle.cc_rules.specs.CcStateFacts.declared.facts.Key.TheVariants as key
use Rattle.cc_rules.specs.CcStateFacts.Facts.{fact_at, mark_of, levels_of}
use Rattle.cc_rules.specs.CcStateFacts.Levels.{one_may_enter}
use Rattle.cc_rules.specs.CcStateKeys.Keys.{key_number, structure_of}
use Rattle.cc_rules.specs.CcStateKeys.Tracked.{tracked}
use Rattle.cc_rules.specs.CcStateReads.Reads.{tracked_in}
use Rattle.cc_rules.specs.CcSyntax.Programs.{place_type}

-- ---- what an access and a call may concern, by their form alone

module _ (p : Program) (id : ℕ) (f : Func) where
  -- a place that is reached through a pointer may name each key
  pub data MayName (k : Key) : Place → Type 0 where
    ByLocal : {a : Place} (r : ℕ) → out-Place a ≡ one.Local r → k ≡ key.Local id r → MayName k a
    ByStatic : {a : Place} (i : ℕ) → out-Place a ≡ one.Static i → k ≡ key.Object i → MayName k a
    ByElement : {a : Place} (b : Place) (i : Expr) → out-Place a ≡ one.Element b i → MayName k b → MayName k a
    ByMember : {a : Place} (b : Place) (m s : ℕ) → out-Place a ≡ one.Member b m → option_and_then structure_of (place_type p f.locals b) ≡ Some s → k ≡ key.Member s m → MayName k a
    ByTarget : {a : Place} (e : Expr) → out-Place a ≡ one.Deref e → MayName k a

-- a function that is not called by its name may be each
abbrev pub MayCall : Expr → ℕ → Type 0
MayCall e g = (h : ℕ) → out-Expr e ≡ one.FuncAddr h → g ≡ h

-- ---- what is the same in two facts

module _ {I : Type 0} (p : Program) (facts others : Facts I) where
  abbrev pub AreSameAt : ℕ → Type 0
  AreSameAt n = fact_at facts n ≡ fact_at others n

  abbrev pub AreSameWhole : ℕ → Type 0
  AreSameWhole k = slice_get facts.whole k ≡ slice_get others.whole k

  abbrev pub AreSameLevels : ℕ → Type 0
  AreSameLevels id = levels_of facts.levels id ≡ levels_of others.levels id

  abbrev pub AreSameFrom : ℕ → Type 0
  AreSameFrom id = levels_of facts.from id ≡ levels_of others.from id

  abbrev pub AreSameByHandler : ℕ → Type 0
  AreSameByHandler id = mark_of facts.by_handler id ≡ mark_of others.by_handler id

  -- by whom a function is reached, and at which levels
  pub record AreSameMarks (id : ℕ) : Type 0 where
    pub by_main : mark_of facts.by_main id ≡ mark_of others.by_main id
    pub by_handler : AreSameByHandler id
    pub levels : AreSameLevels id
    pub from : AreSameFrom id

  -- the whole-run sets of the keys that are read, but for a tracked cell
  abbrev pub AreSameRead : ℕ → Func → Act → Type 0
  AreSameRead id f act = (r : ℕ) (a : Place) (k : Key) (number : ℕ) → act ≡ Reads r a → tracked_in p (out-Place a) ≡ None → MayName p id f k a → key_number p k ≡ Some number → AreSameWhole number

  -- what the functions give that are called, and what is known at their exits
  abbrev pub AreSameGiven : Act → Type 0
  AreSameGiven act = (result : Option ℕ) (e : Expr) (args : List Expr) (g : ℕ) (callee : Func) → act ≡ Calls result e args → MayCall e g → slice_get p.funcs g ≡ Some callee → (slice_get facts.results g ≡ slice_get others.results g) × AreSameAt (exit_of p g callee)

  -- at which levels handlers write tracked cells, and the whole-run sets of those where one of these handlers may enter over the function
  abbrev pub AreSameTracked : ℕ → Type 0
  AreSameTracked id = (j i number : ℕ) → slice_get (tracked p) j ≡ Some i → key_number p (key.Object i) ≡ Some number →
      (levels_of facts.write_levels number ≡ levels_of others.write_levels number) × (one_may_enter (levels_of facts.levels id) (levels_of facts.write_levels number) ≡ true → AreSameWhole number)

  -- ---- what a rule reads at a point beside what is known there

  abbrev pub AreSameHere : Rule → ℕ → Func → Act → Type 0
  AreSameHere Initial id f act = Unit {0}
  AreSameHere Start id f act = Unit {0}
  AreSameHere Flow id f act = AreSameRead id f act
  AreSameHere Write id f act = Unit {0}
  AreSameHere Touch id f act = AreSameByHandler id × AreSameFrom id
  AreSameHere Call id f act = AreSameMarks id
  AreSameHere Back id f act = AreSameGiven act
  AreSameHere Return id f act = Unit {0}
  AreSameHere Handler id f act = AreSameLevels id
  AreSameHere Stability id f act = AreSameLevels id × AreSameTracked id

  abbrev pub AreSameIn : Rule → ℕ → Type 0
  AreSameIn rule n = AreSameAt n × ((id : ℕ) (f : Func) (point : Point) → IsPoint p n id f point → AreSameHere rule id f (act_at (statement_of f point) f))

  -- of the sets of keys only their kinds are asked, and where the program starts nothing
  abbrev pub AreSameFor : Constraint → Type 0
  AreSameFor c = by_rule c.rule
    where
      by_rule : Rule → Type 0
      by_rule Initial = AllZip AreOfOneKind facts.whole others.whole
      by_rule Start = Unit {0}
      by_rule rule = AreSameIn rule c.point
