-- The shape of facts of a program: its keys, a set for each of its keys, functions, points, registers and tracked cells, and in each set
-- only what may stand there. Nothing is said of which runs there are.
use Rattle.std.specs.Prelude.{◌≡◌, ◌⊎◌, ◌<◌, ◌+◌, ℕ, ℤ, Bool, true, false, ◌||◌, is_some, List, length, Option, Some, None, slice_get}
use Rattle.std.specs.List.{AllPairs, Contains, flat_map}
use Rattle.cc_program.specs.CcNum.Integers.{is_value_of}
use Rattle.cc_state_reads.specs.CcEval.Context.{object_type}
use Rattle.cc_flow_sound.specs.CcFlow.declared.types.Point.{Point}
use Rattle.cc_flow_sound.specs.CcFlow.Points.{count_of, flow_of}
use Rattle.cc_state_reads.specs.CcPlaces.declared.abs.Abs.{Abs}
use Rattle.cc_state_reads.specs.CcPlaces.declared.abs.Abs.TheVariants as abs
use Rattle.cc_state_reads.specs.CcPlaces.declared.addrs.Addrs.{Addrs}
use Rattle.cc_program.specs.declared.func.Func.{Func}
use Rattle.cc_program.specs.declared.object.Object.{Object}
use Rattle.cc_program.specs.declared.program.Program.{Program}
use Rattle.cc_program.specs.declared.types.CType.{CType}
use Rattle.cc_program.specs.declared.types.Shape.{Shape, out-Shape}
use Rattle.cc_program.specs.declared.types.Shape.TheOpen as shape
use Rattle.cc_program.specs.declared.types.Sig.{Sig, out-Sig}
use Rattle.cc_program.specs.declared.types.Structure.{Structure}
use Rattle.cc_program.specs.declared.value.Address.{Address}
use Rattle.cc_program.specs.declared.value.Address.TheVariants as address
use Rattle.cc_state_reads.specs.CcStateFacts.declared.facts.Facts.{Facts}
use Rattle.cc_state_reads.specs.CcStateFacts.declared.facts.Key.{Key}
use Rattle.cc_state_reads.specs.CcStateFacts.declared.facts.Key.TheVariants as key
use Rattle.cc_state_reads.specs.CcStateFacts.declared.facts.PointFact.{PointFact}
use Rattle.cc_state_reads.specs.CcStateFacts.declared.facts.Row.{Row}
use Rattle.cc_state_reads.specs.CcStateFacts.Facts.{row_length, cell_of, local_of, mark_of, levels_of}
use Rattle.cc_state_reads.specs.CcStateKeys.Addressed.{IsAddressed}
use Rattle.cc_state_reads.specs.CcStateKeys.Keys.{keys_of, cell_key}
use Rattle.cc_state_reads.specs.CcStateKeys.Tracked.{registers, tracked}
use Rattle.cc_state_reads.specs.CcStateOperators.Domains.{Domain}
use Rattle.cc_state_reads.specs.CcSyntax.Expressions.{of_one}
use Rattle.cc_state_reads.specs.CcSyntax.Initial.{place_at, names}
use Rattle.cc_state_reads.specs.CcSyntax.Operators.{function_type}
use Rattle.cc_state_reads.specs.CcSyntax.Types.{Named}
use Rattle.cc_state_reads.specs.CcSyntax.Values.{ValueType, NoValue, Integer, ToObject, ToFunction, is_assignable_some, scalar_value, result_value}

-- ---- the types of cells

-- the type of what a key's cells hold, by the type that is declared
pub data IsCellType : CType → ValueType → Type 0 where
  OfScalar : {t : CType} {u : ValueType} → scalar_value t ≡ Some u → IsCellType t u
  OfElements : {t : CType} {u : ValueType} (of : CType) (n : ℕ) → out-Shape t.shape ≡ shape.Array of n → IsCellType of u → IsCellType t u

abbrev pub declared_type : Option Named → Option CType
declared_type None = None
declared_type (Some n) = Some n.1

abbrev pub object_ctype : Option Object → Option CType
object_ctype None = None
object_ctype (Some o) = Some o.ctype

abbrev pub local_ctype : ℕ → Option Func → Option CType
local_ctype r None = None
local_ctype r (Some f) = declared_type (slice_get f.locals r)

abbrev pub member_ctype : ℕ → Option Structure → Option CType
member_ctype m None = None
member_ctype m (Some s) = declared_type (slice_get s.members m)

abbrev pub ctype_of : Program → Key → Option CType
ctype_of p (key.Object i) = object_ctype (slice_get p.objects i)
ctype_of p (key.Local f r) = local_ctype r (slice_get p.funcs f)
ctype_of p (key.Member s m) = member_ctype m (slice_get p.structures s)

-- ---- slots: static scalars and one-dimensional arrays of scalars, and scalar members

abbrev pub is_scalar_type : CType → Bool
is_scalar_type t = is_some (scalar_value t)

abbrev pub is_row_shape : shape.Shape-F Shape CType Sig → Bool
is_row_shape (shape.Array of n) = is_scalar_type of
is_row_shape shape.Void = false
is_row_shape (shape.Int t) = false
is_row_shape (shape.Pointer to) = false
is_row_shape (shape.Struct s) = false
is_row_shape (shape.Func sig) = false

abbrev pub is_slot_type : Key → CType → Bool
is_slot_type (key.Object i) t = is_scalar_type t || is_row_shape (out-Shape t.shape)
is_slot_type (key.Local f r) t = false
is_slot_type (key.Member s m) t = is_scalar_type t

abbrev pub IsSlot : Program → Key → Type 0
IsSlot p k = (t : CType) × (ctype_of p k ≡ Some t) × (is_slot_type k t ≡ true)

-- ---- what may stand in a set

module _ (p : Program) where
  -- null; a function that is no handler; or an address of a place, and where that is a slot's, the text takes the slot's address. It loses no
  -- qualifier in a pointer of the type (6.5.16.1).
  abbrev pub MayPoint : ValueType → Address → Type 0
  MayPoint to address.Null = Unit {0}
  MayPoint to (address.Func g) = is_assignable_some (Some to) (function_type (slice_get p.funcs g)) ≡ true
  MayPoint to (address.At object path index count) =
      (names to path index count (of_one (object_type p object) (place_at p.structures path)) ≡ true) × (IsSlot p (cell_key p object path) → IsAddressed p (cell_key p object path))

  abbrev pub HoldsPointers : ValueType → Addrs → Type 0
  HoldsPointers NoValue s = ⊥
  HoldsPointers (Integer t) s = ⊥
  HoldsPointers (ToObject constant volatile to) s = (a : Address) → Contains s.members a → MayPoint (ToObject constant volatile to) a
  HoldsPointers (ToFunction sig) s = (a : Address) → Contains s.members a → MayPoint (ToFunction sig) a

  abbrev pub HoldsIntegers : {I : Type 0} → Domain I → ValueType → I → Type 0
  HoldsIntegers d NoValue x = (n : ℤ) → d.has x n → ⊥
  HoldsIntegers d (Integer t) x = (n : ℤ) → d.has x n → is_value_of t p.target n ≡ true
  HoldsIntegers d (ToObject constant volatile to) x = ⊥
  HoldsIntegers d (ToFunction sig) x = ⊥

  -- a set of values of a type; of no value it is the empty set of integers
  abbrev pub IsSetIn : {I : Type 0} → Domain I → ValueType → Abs I → Type 0
  IsSetIn d t (abs.Ints x) = HoldsIntegers d t x
  IsSetIn d t (abs.Addrs s) = HoldsPointers t s

module _ {I : Type 0} (d : Domain I) (p : Program) where
  -- ---- points

  -- the sets of some things, one for each
  pub record AreSets (count : ℕ) (get : ℕ → Option (Abs I)) (IsType : ℕ → ValueType → Type 0) : Type 0 where
    pub there : (n : ℕ) → n < count → (t : ValueType) × (y : Abs I) × (IsType n t × (get n ≡ Some y) × IsSetIn p d t y)

  abbrev pub IsRegisterType : Func → ℕ → ValueType → Type 0
  IsRegisterType f n t = (r : ℕ) × (l : Named) × (slice_get (registers f) n ≡ Some r) × (slice_get f.locals r ≡ Some l) × (scalar_value l.1 ≡ Some t)

  abbrev pub IsTrackedType : ℕ → ValueType → Type 0
  IsTrackedType n t = (i : ℕ) × (o : Object) × (slice_get (tracked p) n ≡ Some i) × (slice_get p.objects i ≡ Some o) × (scalar_value o.ctype ≡ Some t)

  -- a pair comes before another one: by the register, then by the cell
  abbrev pub IsBefore : ℕ × ℕ → ℕ × ℕ → Type 0
  IsBefore a b = (a.0 < b.0) ⊎ ((a.0 ≡ b.0) × (a.1 < b.1))

  -- rows of 16 cells, the last of which has what is left; none is empty
  abbrev pub AreRows : ℕ → List (Row I) → Type 0
  AreRows count rows =
      (length (flat_map (λ (row : Row I). row.cells) rows) ≡ count) ×
      (((n : ℕ) (row : Row I) → slice_get rows n ≡ Some row → 0 < length row.cells) ×
      ((n : ℕ) (row next : Row I) → slice_get rows n ≡ Some row → slice_get rows (n + 1) ≡ Some next → length row.cells ≡ row_length))

  pub record IsPointFact (f : Func) (fact : PointFact I) : Type 0 where
    pub flag : (fact.off ≡ true) ⊎ (fact.on ≡ true)
    pub local_count : length fact.locals ≡ length (registers f)
    pub locals : AreSets (length (registers f)) (local_of fact) (IsRegisterType f)
    pub rows : AreRows (length (tracked p)) fact.rows
    pub cells : AreSets (length (tracked p)) (cell_of fact) IsTrackedType
    pub pairs_in_range : (pair : ℕ × ℕ) → Contains fact.same pair → (pair.0 < length (registers f)) × (pair.1 < length (tracked p))
    pub pairs_ascend : AllPairs IsBefore fact.same

  abbrev pub IsKeyType : ℕ → ValueType → Type 0
  IsKeyType n t = (k : Key) × (c : CType) × (slice_get (keys_of p) n ≡ Some k) × (ctype_of p k ≡ Some c) × IsCellType c t

  abbrev pub IsResultType : ℕ → ValueType → Type 0
  IsResultType g t = (f : Func) × (slice_get p.funcs g ≡ Some f) × (result_value (out-Sig f.sig).result ≡ Some t)

  pub record HaveShape (facts : Facts I) : Type 0 where
    pub keys : facts.keys ≡ keys_of p
    pub whole_count : length facts.whole ≡ length (keys_of p)
    pub whole : AreSets (length (keys_of p)) (slice_get facts.whole) IsKeyType
    pub result_count : length facts.results ≡ length p.funcs
    pub results : AreSets (length p.funcs) (slice_get facts.results) IsResultType
    -- by function, and by key
    pub by_main : length facts.by_main ≡ length p.funcs
    pub by_handler : length facts.by_handler ≡ length p.funcs
    pub levels : length facts.levels ≡ length p.funcs
    pub from : length facts.from ≡ length p.funcs
    pub handler_reads : length facts.handler_reads ≡ length (keys_of p)
    pub handler_writes : length facts.handler_writes ≡ length (keys_of p)
    pub read_levels : length facts.read_levels ≡ length (keys_of p)
    pub write_levels : length facts.write_levels ≡ length (keys_of p)
    -- what is marked alone has levels
    pub levels_marked : (g : ℕ) → mark_of facts.by_main g ≡ false → mark_of facts.by_handler g ≡ false → (levels_of facts.levels g ≡ 0) × (levels_of facts.from g ≡ 0)
    pub touches_marked : (k : ℕ) → mark_of facts.handler_reads k ≡ false → mark_of facts.handler_writes k ≡ false → (levels_of facts.read_levels k ≡ 0) × (levels_of facts.write_levels k ≡ 0)
    pub points : length facts.at ≡ count_of p
    pub point_facts : (n : ℕ) (fact : PointFact I) (point : Point) (f : Func) → slice_get facts.at n ≡ Some (Some fact) → slice_get (flow_of p).points n ≡ Some point → slice_get p.funcs point.func ≡ Some f → IsPointFact f fact
