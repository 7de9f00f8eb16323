-- The keys of the scalars of an object, in order of path: each path that leads to the scalar at a position leads to a cell of the key that is
-- listed there, and to each position of the list a path leads.
use Rattle.std.specs.Prelude.{◌≡◌, ◌+◌, ◌<◌, ℕ, true, Bool, ◌||◌, List, length, take, Option, Some, slice_get}
use Rattle.std.specs.List.{All}
use Rattle.cc_state_keys.specs.CcCells.Scalars.{member_zeros, structure_zeros, zeros, position}
use Rattle.cc_program.specs.Qualifiers.{is_const, is_volatile}
use Rattle.cc_program.specs.declared.object.Object.{Object}
use Rattle.cc_program.specs.declared.program.Program.{Program}
use Rattle.cc_program.specs.declared.types.CType.{CType}
use Rattle.cc_program.specs.declared.types.Structure.{Structure}
use Rattle.cc_program.specs.declared.value.Part.{Part}
use Rattle.cc_program.specs.declared.value.Root.{Root}
use Rattle.cc_program.specs.declared.value.Root.TheVariants as root
use Rattle.cc_state_keys.specs.CcStateFacts.declared.facts.Key.{Key}
use Rattle.cc_state_keys.specs.CcStateFacts.declared.facts.Key.TheVariants as key
use Rattle.cc_state_keys.specs.Keys.{key_along, cell_key}
use Rattle.cc_state_keys.specs.Paths.{LeadsTo}
use Rattle.cc_state_keys.specs.CcSyntax.Expressions.{of_one}
use Rattle.cc_state_keys.specs.CcSyntax.Initial.{place_at}
use Rattle.cc_state_keys.specs.CcSyntax.Types.{Named, is_complete, IsInOrder}
use Rattle.cc_state_keys.specs.CcSyntax.Values.{ValueType, ObjectPlace, read_from}

module _ (structures : List Structure) where
  -- of a path in an object of a type, const and volatile as said: the scalar there, its position, and its key where that of the object is this
  abbrev pub scalar_of : CType → List Part → Bool → Bool → Option ValueType
  scalar_of t path c v = of_one (place_at structures path (ObjectPlace c v t)) read_from

  abbrev pub position_of : CType → List Part → Bool → Bool → ℕ
  position_of t path c v = position structures path (Some (ObjectPlace c v t))

  abbrev pub key_of : Key → CType → List Part → Bool → Bool → Key
  key_of k t path c v = key_along structures path (Some (ObjectPlace c v t)) k

  -- a path leads to a scalar of this key
  pub record Leads (k : Key) (t : CType) (c v : Bool) (path : List Part) (position : ℕ) (x : Key) : Type 0 where
    pub type : ValueType
    pub scalar : scalar_of t path c v ≡ Some type
    pub stands : position_of t path c v ≡ position
    pub is_key : key_of k t path c v ≡ x

  pub record AreKeys (k : Key) (t : CType) (keys : List Key) : Type 0 where
    pub size : length keys ≡ length (zeros structures t)
    pub each : (c v : Bool) (path : List Part) (w : ValueType) → scalar_of t path c v ≡ Some w → slice_get keys (position_of t path c v) ≡ Some (key_of k t path c v)
    pub all : (c v : Bool) (n : ℕ) (x : Key) → slice_get keys n ≡ Some x → (path : List Part) × Leads k t c v path n x

  -- how many scalars stand in front of a member
  abbrev pub before_member : List Named → ℕ → ℕ
  before_member members m = length (member_zeros (structure_zeros structures) (take m members))

  -- those of the members of a structure, one after the other
  pub record AreMemberKeys (s : ℕ) (members : List Named) (keys : List Key) : Type 0 where
    pub size : length keys ≡ length (member_zeros (structure_zeros structures) members)
    pub each : (m : ℕ) (n : Named) (c v : Bool) (path : List Part) (w : ValueType) → slice_get members m ≡ Some n → scalar_of n.1 path c v ≡ Some w →
        slice_get keys (before_member members m + position_of n.1 path c v) ≡ Some (key_of (key.Member s m) n.1 path c v)
    pub all : (c v : Bool) (i : ℕ) (x : Key) → slice_get keys i ≡ Some x →
        (m : ℕ) × (n : Named) × (path : List Part) × (q : ℕ) × (slice_get members m ≡ Some n) × Leads (key.Member s m) n.1 (c || is_const n.1) (v || is_volatile n.1) path q x × (before_member members m + q ≡ i)

  -- of the first structures
  abbrev pub IsTable : List (List Key) → Type 0
  IsTable table = (s : ℕ) (st : Structure) → s < length table → slice_get structures s ≡ Some st → (keys : List Key) × (slice_get table s ≡ Some keys) × AreMemberKeys s st.members keys

-- over a table of the first structures of a program, where the types stand on these
abbrev pub AreKeysOver : List (List Key) → CType → Key → List Key → Type 0
AreKeysOver table t k keys = (p : Program) → IsInOrder p.structures → IsTable p.structures table → is_complete (take (length table) p.structures) t ≡ true → AreKeys p.structures k t keys

abbrev pub AreMemberKeysOver : List (List Key) → ℕ → List Named → List Key → Type 0
AreMemberKeysOver table s members keys =
    (p : Program) → IsInOrder p.structures → IsTable p.structures table → All (λ (n : Named). is_complete (take (length table) p.structures) n.1 ≡ true) members → AreMemberKeys p.structures s members keys

-- of all structures, where each stands on those before it
pub record IsTableOf (structures : List Structure) (table : List (List Key)) : Type 0 where
  pub count : length table ≡ length structures
  pub is_table : (p : Program) → p.structures ≡ structures → IsInOrder p.structures → IsTable p.structures table

-- a list for each static object
pub record AreObjectKeys (table : List (List Key)) (objects : List Object) (keys : List (List Key)) : Type 0 where
  pub count : length keys ≡ length objects
  pub there : (i : ℕ) (o : Object) (l : List Key) → slice_get objects i ≡ Some o → slice_get keys i ≡ Some l → AreKeysOver table o.ctype (key.Object i) l

-- a list for each local of a function
pub record AreLocalKeysOver (table : List (List Key)) (id : ℕ) (locals : List Named) (keys : List (List Key)) : Type 0 where
  pub count : length keys ≡ length locals
  pub there : (r : ℕ) (local : Named) (l : List Key) → slice_get locals r ≡ Some local → slice_get keys r ≡ Some l → AreKeysOver table local.1 (key.Local id r) l

-- ---- of a program

module _ (p : Program) where
  pub record AreKeysIn (object : Root) (keys : List Key) : Type 0 where
    pub each : (path : List Part) (n : ℕ) → LeadsTo p object path n → slice_get keys n ≡ Some (cell_key p object path)
    pub all : (n : ℕ) (x : Key) → slice_get keys n ≡ Some x → (path : List Part) × LeadsTo p object path n × (cell_key p object path ≡ x)

  -- of each of the first static objects
  pub record AreStaticKeys (objects : List Object) (keys : List (List Key)) : Type 0 where
    pub count : length keys ≡ length objects
    pub there : (i : ℕ) (list : List Key) → slice_get keys i ≡ Some list → AreKeysIn (root.Static i) list

  -- of each local of a function, in each of its activations
  pub record AreLocalKeys (id : ℕ) (locals : List Named) (keys : List (List Key)) : Type 0 where
    pub count : length keys ≡ length locals
    pub there : (number r : ℕ) (list : List Key) → slice_get keys r ≡ Some list → AreKeysIn (root.Auto number id r) list
