-- Which parts the slots of facts of a program's shape may get: values of the slot's type, and levels of what is marked.
use Rattle.std.specs.Prelude.{◌≡◌, ◌⊎◌, ◌<◌, ℕ, Bool, true, false, [], ◌∷◌, length, Option, Some, None}
use Rattle.std.specs.List.{AllPairs, Contains}
use Rattle.cc_rules_grow.specs.CcFlow.declared.types.Point.{Point}
use Rattle.cc_rules_grow.specs.CcFlow.Points.{count_of}
use Rattle.cc_rules_grow.specs.CcPlaces.declared.abs.Abs.{Abs}
use Rattle.cc_program.specs.declared.func.Func.{Func}
use Rattle.cc_program.specs.declared.program.Program.{Program}
use Rattle.cc_rules_grow.specs.CcRulesFlows.Nexts.{IsPoint}
use Rattle.cc_rules_grow.specs.CcRulesNeeds.declared.needs.Part.{Part}
use Rattle.cc_rules_grow.specs.CcRulesNeeds.declared.needs.Part.TheVariants.{Mark, LevelSet, Flags, Values}
use Rattle.cc_rules_grow.specs.CcRulesNeeds.declared.needs.Slot.{Slot}
use Rattle.cc_rules_grow.specs.CcRulesNeeds.declared.needs.Slot.TheVariants.{Whole, HandlerReads, HandlerWrites, ReadLevels, WriteLevels, Result, ByMain, ByHandler, Levels, From, Flag, LocalAt, CellAt, Apart}
use Rattle.cc_rules_grow.specs.CcRulesNeeds.Needs.{Needs, Has}
use Rattle.cc_rules_grow.specs.CcState.Shape.{IsSetIn, AreRows, IsBefore, IsRegisterType, IsTrackedType, IsKeyType, IsResultType}
use Rattle.cc_rules_grow.specs.CcStateFacts.declared.facts.Facts.{Facts}
use Rattle.cc_rules_grow.specs.CcStateFacts.declared.facts.PointFact.{PointFact}
use Rattle.cc_rules_grow.specs.CcStateFacts.Facts.{cell_of, mark_of}
use Rattle.cc_rules_grow.specs.CcStateKeys.Keys.{keys_of}
use Rattle.cc_rules_grow.specs.CcStateKeys.Tracked.{registers, tracked}
use Rattle.cc_rules_grow.specs.CcStateOperators.Domains.{Domain}
use Rattle.cc_rules_grow.specs.CcSyntax.Values.{ValueType}

-- whether a slot is one of a point, and not of a key or a function
abbrev pub is_at_point : Slot → Bool
is_at_point (Flag n) = true
is_at_point (LocalAt n r) = true
is_at_point (CellAt n j) = true
is_at_point (Apart n r j) = true
is_at_point _ = false

module _ {I : Type 0} (d : Domain I) (p : Program) where
  -- values of a type, where there are some
  abbrev pub AreSomeIn : ValueType → Option (Abs I) → Type 0
  AreSomeIn t None = Unit {0}
  AreSomeIn t (Some y) = IsSetIn p d t y

  abbrev pub IsPointIn : ℕ → Func → Type 0
  IsPointIn n f = (id : ℕ) × (point : Point) × IsPoint p n id f point

  -- the key, the function, or the point with its register and cell is there, and values are of the type of what the slot stands for; at a point
  -- the flag may be one way or the other
  abbrev pub Fits : Slot → Part I → Type 0
  Fits (Whole k) (Values (Some y)) = (t : ValueType) × IsKeyType d p k t × IsSetIn p d t y
  Fits (Result g) (Values (Some y)) = (t : ValueType) × IsResultType d p g t × IsSetIn p d t y
  Fits (HandlerReads k) (Mark b) = k < length (keys_of p)
  Fits (HandlerWrites k) (Mark b) = k < length (keys_of p)
  Fits (ReadLevels k) (LevelSet x) = k < length (keys_of p)
  Fits (WriteLevels k) (LevelSet x) = k < length (keys_of p)
  Fits (ByMain g) (Mark b) = g < length p.funcs
  Fits (ByHandler g) (Mark b) = g < length p.funcs
  Fits (Levels g) (LevelSet x) = g < length p.funcs
  Fits (From g) (LevelSet x) = g < length p.funcs
  Fits (Flag n) (Flags off on) = (n < count_of p) × ((off ≡ true) ⊎ (on ≡ true))
  Fits (LocalAt n r) (Values y) = (f : Func) × (t : ValueType) × IsPointIn n f × IsRegisterType d p f r t × AreSomeIn t y
  Fits (CellAt n j) (Values y) = (t : ValueType) × (n < count_of p) × IsTrackedType d p j t × AreSomeIn t y
  Fits (Apart n r j) (Mark b) = (f : Func) × IsPointIn n f × (r < length (registers f)) × (j < length (tracked p))
  Fits _ _ = ⊥

  -- a point has sets of the function's registers and of the tracked cells, in rows, and its pairs are in order; nothing is said of what stands
  -- in the sets
  pub record IsLaidOut (f : Func) (fact : PointFact I) : Type 0 where
    pub local_count : length fact.locals ≡ length (registers f)
    pub rows : AreRows d p (length (tracked p)) fact.rows
    pub cells : (j : ℕ) → j < length (tracked p) → (y : Abs I) × (cell_of fact j ≡ Some y)
    pub pairs_in_range : (pair : ℕ × ℕ) → Contains fact.same pair → (pair.0 < length (registers f)) × (pair.1 < length (tracked p))
    pub pairs_ascend : AllPairs (IsBefore d p) fact.same

  -- a function that neither main nor a handler reaches, and a key that no handler accesses, gets no levels
  abbrev pub AllowsLevels : Slot → Part I → Facts I → Type 0
  AllowsLevels (Levels g) (LevelSet x) f = mark_of f.by_main g ≡ false → mark_of f.by_handler g ≡ false → x ≡ 0
  AllowsLevels (From g) (LevelSet x) f = mark_of f.by_main g ≡ false → mark_of f.by_handler g ≡ false → x ≡ 0
  AllowsLevels (ReadLevels k) (LevelSet x) f = mark_of f.handler_reads k ≡ false → mark_of f.handler_writes k ≡ false → x ≡ 0
  AllowsLevels (WriteLevels k) (LevelSet x) f = mark_of f.handler_reads k ≡ false → mark_of f.handler_writes k ≡ false → x ≡ 0
  AllowsLevels _ _ f = Unit {0}

  -- of needs in order each fits, and its levels are allowed to facts that are known so and have those before it
  abbrev pub AreFitBehind : (Facts I → Type 0) → Needs I → Type 0
  AreFitBehind known [] = Unit {0}
  AreFitBehind known (need ∷ ns) = Fits need.0 need.1 × ((f : Facts I) → known f → AllowsLevels need.0 need.1 f) × AreFitBehind (λ f. known f × Has d.below f need) ns

  abbrev pub AreFit : Needs I → Type 0
  AreFit ns = AreFitBehind (λ f. Unit {0}) ns
