-- Facts that get a part: the least above the old ones that have it.
use Rattle.std.specs.Prelude.{◌≡◌, ◌<◌, ℕ, Bool, false, List, length, Some, None, slice_get, slice_set}
use Rattle.cc_lattice.specs.Orders.{IsLeastUpperBound}
use Rattle.cc_places.specs.declared.abs.Abs.{Abs}
use Rattle.cc_places.specs.Abstract.{AreOfOneKind, IsBelowAbs}
use Rattle.cc_rules_needs.specs.Needs.{Slot, Whole, HandlerReads, HandlerWrites, ReadLevels, WriteLevels, Result, ByMain, ByHandler, Levels, From, Part, Mark, LevelSet, Flags, Values, get, IsBelowPart}
use Rattle.cc_state_facts.specs.declared.facts.Facts.{Facts}

module _ {I : Type 0} where
  -- a set is there, of the kind of some values
  abbrev pub MayBePut : List (Abs I) → ℕ → Abs I → Type 0
  MayBePut sets n y = (x : Abs I) × (slice_get sets n ≡ Some x) × AreOfOneKind x y

  -- a slot of a key or a function is there, and such parts may be put into it
  abbrev pub MayGet : Slot → Part I → Facts I → Type 0
  MayGet (Whole k) (Values (Some y)) f = MayBePut f.whole k y
  MayGet (Result g) (Values (Some y)) f = MayBePut f.results g y
  MayGet (HandlerReads k) (Mark b) f = k < length f.handler_reads
  MayGet (HandlerWrites k) (Mark b) f = k < length f.handler_writes
  MayGet (ByMain g) (Mark b) f = g < length f.by_main
  MayGet (ByHandler g) (Mark b) f = g < length f.by_handler
  MayGet (ReadLevels k) (LevelSet x) f = k < length f.read_levels
  MayGet (WriteLevels k) (LevelSet x) f = k < length f.write_levels
  MayGet (Levels g) (LevelSet x) f = g < length f.levels
  MayGet (From g) (LevelSet x) f = g < length f.from
  MayGet _ _ f = ⊥

  -- what a slot has
  abbrev pub held_mark : Part I → Bool
  held_mark (Mark b) = b
  held_mark _ = false

  abbrev pub held_levels : Part I → ℕ
  held_levels (LevelSet x) = x
  held_levels _ = 0

  -- the facts with another part in a slot
  abbrev pub put_values : Slot → Abs I → Facts I → Facts I
  put_values (Whole k) y f = record f { whole = slice_set f.whole k y }
  put_values (Result g) y f = record f { results = slice_set f.results g y }
  put_values _ y f = f

  abbrev pub put_mark : Slot → Bool → Facts I → Facts I
  put_mark (HandlerReads k) b f = record f { handler_reads = slice_set f.handler_reads k b }
  put_mark (HandlerWrites k) b f = record f { handler_writes = slice_set f.handler_writes k b }
  put_mark (ByMain g) b f = record f { by_main = slice_set f.by_main g b }
  put_mark (ByHandler g) b f = record f { by_handler = slice_set f.by_handler g b }
  put_mark _ b f = f

  abbrev pub put_levels : Slot → ℕ → Facts I → Facts I
  put_levels (ReadLevels k) x f = record f { read_levels = slice_set f.read_levels k x }
  put_levels (WriteLevels k) x f = record f { write_levels = slice_set f.write_levels k x }
  put_levels (Levels g) x f = record f { levels = slice_set f.levels g x }
  put_levels (From g) x f = record f { from = slice_set f.from g x }
  put_levels _ x f = f

  abbrev pub put : Slot → Part I → Facts I → Facts I
  put slot (Values (Some y)) f = put_values slot y f
  put slot (Values None) f = f
  put slot (Mark b) f = put_mark slot b f
  put slot (LevelSet x) f = put_levels slot x f
  put slot (Flags off on) f = f

  module _ (below : I → I → Type 0) where
    -- the least part that has two others
    pub record IsLeastPart (x y z : Part I) : Type 0 where
      pub left : IsBelowPart below x z
      pub right : IsBelowPart below y z
      pub least : (w : Part I) → IsBelowPart below x w → IsBelowPart below y w → IsBelowPart below z w

    -- in a list of sets one gets the least set that has it and some values
    pub record IsLeastIn (old : List (Abs I)) (n : ℕ) (y : Abs I) (new : List (Abs I)) : Type 0 where
      pub held : Abs I
      pub there : slice_get old n ≡ Some held
      pub alike : AreOfOneKind held y
      pub joined : Abs I
      pub least : IsLeastUpperBound AreOfOneKind (IsBelowAbs below) held y joined
      pub is : new ≡ slice_set old n joined

    -- facts get the least part in a slot that has what was there and some more
    pub record IsPut (slot : Slot) (more : Part I) (f g : Facts I) : Type 0 where
      pub part : Part I
      pub least : IsLeastPart (get slot f) more part
      pub is : g ≡ put slot part f
