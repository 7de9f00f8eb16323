-- Address constants (C99 6.6, 9), and the first values of static objects.
use Rattle.std.specs.Prelude.{ℕ, ℤ, pos, negsuc, ◌+ℤ◌, ◌-ℤ◌, Bool, true, false, nat_le, nat_lt, List, [], ◌∷◌, ◌++◌, Option, Some, None, Ok, Err, if◌then◌else◌}
use Rattle.cc_operands.specs.Operands.{Operand, constancy}
use Rattle.cc_operands.specs.Verdicts.{Judged}
use Rattle.cc_operands.specs.declared.rule.Rule.TheVariants as rule
use Rattle.cc_program.specs.declared.expr.Expr.{Expr, fold-Expr}
use Rattle.cc_program.specs.declared.expr.Expr.TheOpen as one
use Rattle.cc_program.specs.declared.expr.Place.{Place, fold-Place}
use Rattle.cc_program.specs.declared.types.CType.{CType}
use Rattle.cc_program.specs.declared.types.Structure.{Structure}
use Rattle.cc_program.specs.declared.value.Address.{Address}
use Rattle.cc_program.specs.declared.value.Address.TheVariants as address
use Rattle.cc_program.specs.declared.value.Leaf.{Leaf}
use Rattle.cc_program.specs.declared.value.Leaf.TheVariants as leaf
use Rattle.cc_program.specs.declared.value.Part.{Part}
use Rattle.cc_program.specs.declared.value.Part.TheVariants as part
use Rattle.cc_program.specs.declared.value.Root.TheVariants as root
use Rattle.cc_operands.specs.CcSyntax.Folding.{Constant, NoConstant, Value, Traps}
use Rattle.cc_operands.specs.CcSyntax.Initial.{bound_of}
use Rattle.cc_operands.specs.CcSyntax.Values.{ValueType, NoValue, Integer, PlaceType, object_place, element_of, member_of}

-- an object that the path leads to, or an element of the array that it leads to, or the end of that; and its type
pub record Spot : Type 0 where
  pub object : ℕ
  pub path : List Part
  pub element : Bool
  pub index : ℕ
  pub count : ℕ
  pub type : PlaceType

-- what an address constant points to, and where a place lies that one designates
pub data Located : Type 0 where
  NotConstant : Located
  Trapping : Located
  AtNull : Located
  AtFunction : ℕ → Located
  AtSpot : Spot → Located

-- an expression, as an address and as an integer constant
pub record ConstantExpression : Type 0 where
  pub located : Located
  pub number : Option ℤ

abbrev pub at_address : Located → ConstantExpression
at_address l = record { located = l; number = None }

abbrev pub no_constant : ConstantExpression
no_constant = at_address NotConstant

-- ---- from a place to one in it: nothing is in what lies at an end, behind a null or at a function

abbrev pub path_into : Spot → List Part
path_into spot = if spot.element then spot.path ++ part.Index spot.index ∷ [] else spot.path

abbrev pub into : (Spot → Located) → Located → Located
into next (AtSpot spot) = if nat_lt spot.index spot.count then next spot else Trapping
into next AtNull = Trapping
into next Trapping = Trapping
into next (AtFunction f) = NotConstant
into next NotConstant = NotConstant

-- an element, or the end, of an array of so many
abbrev pub element_found : Spot → ℕ → ℕ → PlaceType → Spot
element_found spot i n t = record { object = spot.object; path = path_into spot; element = true; index = i; count = n; type = t }

abbrev pub element_spot : Spot → ℕ → ℕ → Option PlaceType → Located
element_spot spot i n None = NotConstant
element_spot spot i n (Some t) =
    if nat_le i n then AtSpot (element_found spot i n t) else Trapping

abbrev pub element_in : Spot → ℕ → Option ℕ → Located
element_in spot i None = NotConstant
element_in spot i (Some n) = element_spot spot i n (element_of spot.type)

abbrev pub element_by : ℤ → Spot → Located
element_by (negsuc i) spot = Trapping
element_by (pos i) spot = element_in spot i (bound_of spot.type)

abbrev pub element_at : Option ℤ → Located → Located
element_at None a = NotConstant
element_at (Some i) a = into (element_by i) a

abbrev pub member_spot : Spot → ℕ → Option PlaceType → Located
member_spot spot m None = NotConstant
member_spot spot m (Some t) = AtSpot (record { object = spot.object; path = path_into spot ++ part.Member m ∷ []; element = false; index = 0; count = 1; type = t })

abbrev pub member_at : List Structure → ℕ → Located → Located
member_at structures m a = into (λ spot. member_spot spot m (member_of structures m spot.type)) a

-- ---- a pointer that is moved stays in its array (6.5.6, 8)

abbrev pub index_in : ℕ → ℤ → Option ℕ
index_in count (pos i) = if nat_le i count then Some i else None
index_in count (negsuc i) = None

abbrev pub moved_index : Bool → ℕ → ℕ → ℤ → Option ℕ
moved_index back index count n = index_in count (if back then pos index -ℤ n else pos index +ℤ n)

abbrev pub moved_by : Spot → Option ℕ → Located
moved_by spot None = Trapping
moved_by spot (Some i) = AtSpot (record { object = spot.object; path = spot.path; element = spot.element; index = i; count = spot.count; type = spot.type })

abbrev pub moved_to : Bool → ℤ → Located → Located
moved_to back n (AtSpot spot) = moved_by spot (moved_index back spot.index spot.count n)
moved_to back n AtNull = Trapping
moved_to back n Trapping = Trapping
moved_to back n (AtFunction f) = NotConstant
moved_to back n NotConstant = NotConstant

abbrev pub moved_address : Bool → Option ℤ → Located → Located
moved_address back None a = NotConstant
moved_address back (Some n) a = moved_to back n a

-- an object as a whole
abbrev pub whole_object : ℕ → Option CType → Located
whole_object i None = NotConstant
whole_object i (Some t) = AtSpot (record { object = i; path = []; element = false; index = 0; count = 1; type = object_place t })

-- over the types of the static objects, by number
module _ (structures : List Structure) (objects : ℕ → Option CType) where
  abbrev pub expr_step : one.Expr-F ConstantExpression Located → ConstantExpression
  expr_step (one.Const n t) = record { located = NotConstant; number = Some n }
  expr_step (one.Null t) = at_address AtNull
  expr_step (one.FuncAddr f) = at_address (AtFunction f)
  expr_step (one.AddrOf a) = at_address a
  expr_step (one.Qualify t a) = at_address a.located
  expr_step (one.Move a b back) = at_address (moved_address back b.number a.located)
  expr_step (one.Load a) = no_constant
  expr_step (one.Un o t a) = no_constant
  expr_step (one.Bin o t a b) = no_constant
  expr_step (one.Conv t a) = no_constant
  expr_step (one.Gap a b) = no_constant
  expr_step (one.Compare o a b) = no_constant
  expr_step (one.Both a b) = no_constant
  expr_step (one.Either a b) = no_constant
  expr_step (one.Choose c a b) = no_constant
  expr_step (one.Assign a e) = no_constant
  expr_step (one.Change a o t e) = no_constant
  expr_step (one.After a down) = no_constant
  expr_step (one.Call f args) = no_constant
  expr_step (one.Intr i a) = no_constant
  expr_step (one.Seq a b) = no_constant

  abbrev pub place_step : one.Place-F ConstantExpression Located → Located
  place_step (one.Local n) = NotConstant
  place_step (one.Static i) = whole_object i (objects i)
  place_step (one.Device d) = NotConstant
  place_step (one.Element a i) = element_at i.number a
  place_step (one.Member a m) = member_at structures m a
  place_step (one.Deref e) = e.located

  unfoldable pub constant_expression : Expr → ConstantExpression
  constant_expression e = fold-Expr ConstantExpression Located expr_step place_step e

  unfoldable pub place_located : Place → Located
  place_located a = fold-Place ConstantExpression Located expr_step place_step a

  abbrev pub located : Expr → Located
  located e = (constant_expression e).located

-- ---- the first value of a scalar (6.7.8, 4)

abbrev pub spot_address : Spot → Address
spot_address spot = address.At (root.Static spot.object) spot.path spot.index spot.count

abbrev pub address_leaf : Located → Judged Leaf
address_leaf NotConstant = Err rule.StaticInitialiser
address_leaf Trapping = Err rule.ConstantTraps
address_leaf AtNull = Ok (leaf.Place address.Null)
address_leaf (AtFunction f) = Ok (leaf.Place (address.Func f))
address_leaf (AtSpot spot) = Ok (leaf.Place (spot_address spot))

abbrev pub integer_leaf : Constant → Judged Leaf
integer_leaf NoConstant = Err rule.StaticInitialiser
integer_leaf (Value n) = Ok (leaf.Int n)
integer_leaf Traps = Err rule.ConstantTraps

module _ (structures : List Structure) (objects : ℕ → Option CType) where
  abbrev pub leaf_by : Operand → ValueType → Judged Leaf
  leaf_by x (Integer t) = integer_leaf (constancy x)
  leaf_by x NoValue = Err rule.StaticInitialiser
  leaf_by x _ = address_leaf (located structures objects x.value)

  abbrev pub leaf_of : Operand → Judged Leaf
  leaf_of x = leaf_by x x.type
