-- The first values of static objects (C99 6.7.8). A value is printed from its last scalar to its first, each with the
-- last of the leaves that are left; where there is none it is zero or null.
use Rattle.std.specs.Prelude.{ℕ, zero, suc, ◌-◌, pos, Bool, true, false, ◌||◌, nat_eq, fold, List, [], ◌∷◌, ◌++◌, length, map, Option, Some, None, unwrap_or, slice_get, option_and_then, if◌then◌else◌}
use Rattle.cc_program.specs.CcNum.declared.int_type.IntType.{IntType}
use Rattle.cc_program.specs.CcWords.declared.word.Word.TheVariants as w
use Rattle.cc_lex.specs.declared.token.Mark.TheVariants as m
use Rattle.cc_program.specs.Qualifiers.{is_const}
use Rattle.cc_program.specs.declared.object.Object.{Object}
use Rattle.cc_program.specs.declared.program.Program.{Program}
use Rattle.cc_program.specs.declared.types.CType.{CType, fold-CType}
use Rattle.cc_program.specs.declared.types.Shape.{Shape, out-Shape}
use Rattle.cc_program.specs.declared.types.Shape.TheOpen as shape
use Rattle.cc_program.specs.declared.types.Sig.{Sig}
use Rattle.cc_program.specs.declared.types.Structure.{Structure}
use Rattle.cc_program.specs.declared.value.Address.{Address}
use Rattle.cc_program.specs.declared.value.Address.TheVariants as address
use Rattle.cc_program.specs.declared.value.Leaf.{Leaf}
use Rattle.cc_program.specs.declared.value.Leaf.TheVariants as leaf
use Rattle.cc_program.specs.declared.value.Part.{Part}
use Rattle.cc_program.specs.declared.value.Part.TheVariants as part
use Rattle.cc_program.specs.declared.value.Root.{Root}
use Rattle.cc_program.specs.declared.value.Root.TheVariants as root
use Rattle.cc_typed.specs.CcSyntax.Initial.{step_into}
use Rattle.cc_typed.specs.CcSyntax.SameTypes.{alike}
use Rattle.cc_typed.specs.CcSyntax.Types.{Named}
use Rattle.cc_typed.specs.CcSyntax.Values.{PlaceType, DevicePlace, ObjectPlace, FunctionPlace, object_place, element_of}
use Rattle.cc_pieces.specs.Constants.{constant}
use Rattle.cc_pieces.specs.Declarators.{declaration}
use Rattle.cc_pieces.specs.Pieces.{Pieces, punct, keyword, plain_number, space}
use Rattle.cc_bodies.specs.Exprs.{spaced}
use Rattle.cc_bodies.specs.Names.{named, func_name, member_name}
use Rattle.cc_bodies.specs.Stmts.{ended}

-- ---- addresses

-- whether the elements of the array at a place have the type
abbrev pub is_element : CType → Option PlaceType → Bool
is_element to None = false
is_element to (Some (DevicePlace constant t)) = false
is_element to (Some (ObjectPlace constant volatile t)) = alike to t
is_element to (Some (FunctionPlace sig)) = false

abbrev pub has_elements : CType → Option PlaceType → Bool
has_elements to a = is_element to (option_and_then element_of a)

-- ` + 1` behind an array of one
abbrev pub one_past : Bool → Pieces → Pieces
one_past true ps = spaced m.Plus (plain_number 1 ∷ ps)
one_past false ps = ps

-- the last index: that of an element of the array that was named, or of an array of one
abbrev pub last_index : Bool → ℕ → ℕ → Pieces → Pieces
last_index true index count ps = punct m.LBracket ∷ plain_number index ∷ punct m.RBracket ∷ ps
last_index false index count ps = one_past (nat_eq index count) ps

module _ (structures : List Structure) where
  abbrev pub step_text : Option PlaceType → Part → Pieces → Pieces
  step_text a (part.Member i) ps = punct m.Dot ∷ named (member_name structures i a) ps
  step_text a (part.Index i) ps = punct m.LBracket ∷ plain_number i ∷ punct m.RBracket ∷ ps

  abbrev pub next_place : Part → Option PlaceType → Option PlaceType
  next_place step a = option_and_then (step_into structures step) a

  -- members and indexes, and behind them the last index for a pointer to a type
  abbrev pub path_text : CType → ℕ → ℕ → Option PlaceType → List Part → Pieces → Pieces
  path_text to index count a [] ps = last_index (has_elements to a) index count ps
  path_text to index count a (step ∷ path) ps = step_text a step (path_text to index count (next_place step a) path ps)

module _ (p : Program) where
  abbrev pub object_path : CType → List Part → ℕ → ℕ → Option Object → Pieces → Pieces
  object_path to path index count None ps = ps
  object_path to path index count (Some o) ps = named (Some o.name) (path_text p.structures to index count (Some (object_place o.ctype)) path ps)

  abbrev pub root_path : CType → List Part → ℕ → ℕ → Root → Pieces → Pieces
  root_path to path index count (root.Static i) ps = punct m.Amp ∷ object_path to path index count (slice_get p.objects i) ps
  root_path to path index count (root.Auto activation f local) ps = ps

  -- the value of a pointer to a type
  abbrev pub address_text : CType → Address → Pieces → Pieces
  address_text to address.Null ps = plain_number 0 ∷ ps
  address_text to (address.Func i) ps = named (func_name (slice_get p.funcs i)) ps
  address_text to (address.At object path index count) ps = root_path to path index count object ps

  -- ---- scalars

  abbrev pub int_leaf : IntType → Option Leaf → Pieces → Pieces
  int_leaf t None ps = constant p.target (pos 0) t ps
  int_leaf t (Some (leaf.Int n)) ps = constant p.target n t ps
  int_leaf t (Some (leaf.Place a)) ps = constant p.target (pos 0) t ps

  abbrev pub pointer_leaf : CType → Option Leaf → Pieces → Pieces
  pointer_leaf to None ps = plain_number 0 ∷ ps
  pointer_leaf to (Some (leaf.Int n)) ps = plain_number 0 ∷ ps
  pointer_leaf to (Some (leaf.Place a)) ps = address_text to a ps

-- ---- values

-- how many leaves are left, and the pieces behind
pub record Filled : Type 0 where
  pub left : ℕ
  pub text : Pieces

abbrev pub filled : ℕ → Pieces → Filled
filled left text = record { left = left; text = text }

abbrev pub Filler : Type 0
Filler = Filled → Filled

abbrev pub in_front : (Pieces → Pieces) → Filler
in_front put s = filled s.left (put s.text)

abbrev pub separated : Filler
separated s = in_front (λ ps. punct m.Comma ∷ space ∷ ps) s

abbrev pub braced : Filler → Filler
braced inner s = in_front (λ ps. punct m.LBrace ∷ ps) (inner (in_front (λ ps. punct m.RBrace ∷ ps) s))

-- elements in front of one
abbrev pub further_elements : ℕ → Filler → Filler
further_elements zero of s = s
further_elements (suc n) of s = further_elements n of (of (separated s))

abbrev pub elements : ℕ → Filler → Filler
elements zero of s = s
elements (suc n) of s = further_elements n of (of s)

-- members behind one
abbrev pub further_members : List Filler → Filler
further_members [] s = s
further_members (m ∷ ms) s = separated (m (further_members ms s))

abbrev pub all_members : List Filler → Filler
all_members [] s = s
all_members (m ∷ ms) s = m (further_members ms s)

abbrev pub pointee_shape : CType → shape.Shape-F Shape CType Sig → CType
pointee_shape t (shape.Pointer to) = to
pointee_shape t (shape.Array of n) = of
pointee_shape t shape.Void = t
pointee_shape t (shape.Int i) = t
pointee_shape t (shape.Struct s) = t
pointee_shape t (shape.Func sig) = t

-- what a pointer points to, or an array has as its elements
abbrev pub target_of : CType → CType
target_of t = pointee_shape t (out-Shape t.shape)

module _ (p : Program) (leaves : List Leaf) where
  abbrev pub scalar : (Option Leaf → Pieces → Pieces) → ℕ → Pieces → Filled
  scalar value left ps = if nat_eq left 0 then filled 0 (value None ps) else filled (left - 1) (value (slice_get leaves (left - 1)) ps)

  -- a value of a type, over structures that have these
  abbrev pub shape_filler : List Filler → shape.Shape-F (CType → Filler) (CType → Filler) (Unit {0}) → CType → Filler
  shape_filler fillers shape.Void t s = s
  shape_filler fillers (shape.Int i) t s = scalar (int_leaf p i) s.left s.text
  shape_filler fillers (shape.Pointer to) t s = scalar (pointer_leaf p (target_of t)) s.left s.text
  shape_filler fillers (shape.Array of n) t s = braced (elements n (of (target_of t))) s
  shape_filler fillers (shape.Struct i) t s = unwrap_or (slice_get fillers i) (λ s. s) s
  shape_filler fillers (shape.Func sig) t s = s

  unfoldable pub filler_over : List Filler → CType → Filler
  filler_over fillers t = fold-CType (CType → Filler) (CType → Filler) (Unit {0}) (shape_filler fillers) (λ t. t.shape) (λ s. tt) t t

  abbrev pub member_fillers : List Filler → List Named → List Filler
  member_fillers fillers members = map (λ l. filler_over fillers l.1) members

  abbrev pub structure_filler : List Filler → Structure → Filler
  structure_filler fillers s = braced (all_members (member_fillers fillers s.members))

  -- of each structure; it stands on those before it
  unfoldable pub structure_fillers : List Structure → List Filler
  structure_fillers structures = fold (λ before s. before ++ structure_filler before s ∷ []) [] structures

  abbrev pub filler : List Structure → CType → Filler
  filler structures t = filler_over (structure_fillers structures) t

-- ---- objects

-- with the value of an object
abbrev pub value : Program → Object → Pieces → Pieces
value p o ps = (filler p o.init p.structures o.ctype (filled (length o.init) ps)).text

abbrev pub has_leaves : List Leaf → Bool
has_leaves [] = false
has_leaves (l ∷ ls) = true

-- an object that does not start at zero is defined, and so is each const one
abbrev pub definition_line : Program → Object → Pieces → Pieces
definition_line p o ps = keyword w.Static ∷ space ∷ declaration p.structures o.ctype o.name (spaced m.Assign (value p o (ended ps)))

abbrev pub definition : Program → Object → Pieces → Pieces
definition p o ps = if has_leaves o.init || is_const o.ctype then definition_line p o ps else ps
