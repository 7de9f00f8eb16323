-- Static objects by other numbers, in expressions, statements and first values; and programs whose static objects stand in another order, some
-- of them left out.
use Rattle.std.specs.Prelude.{ℕ, List, map}
use Rattle.cc_lower_numbers.specs.Order.{arranged, place_in}
use Rattle.cc_program.specs.declared.expr.Expr.{Expr, roll-Expr, fold-Expr}
use Rattle.cc_program.specs.declared.expr.Expr.TheOpen as one
use Rattle.cc_program.specs.declared.expr.Place.{Place, roll-Place, fold-Place}
use Rattle.cc_program.specs.declared.func.Func.{Func}
use Rattle.cc_program.specs.declared.object.Object.{Object}
use Rattle.cc_program.specs.declared.program.Program.{Program}
use Rattle.cc_program.specs.declared.value.Address.{Address}
use Rattle.cc_program.specs.declared.value.Address.TheVariants as address
use Rattle.cc_program.specs.declared.value.Leaf.{Leaf}
use Rattle.cc_program.specs.declared.value.Leaf.TheVariants as leaf
use Rattle.cc_program.specs.declared.value.Root.{Root}
use Rattle.cc_program.specs.declared.value.Root.TheVariants as root
use Rattle.cc_rewrite_renamed.specs.Statements.{stmt_by}

-- ---- static objects by other numbers; all else is the same

module _ (object : ℕ → ℕ) where
  abbrev pub place_with : one.Place-F Expr Place → one.Place-F Expr Place
  place_with (one.Local r) = one.Local r
  place_with (one.Static i) = one.Static (object i)
  place_with (one.Device d) = one.Device d
  place_with (one.Element a i) = one.Element a i
  place_with (one.Member a m) = one.Member a m
  place_with (one.Deref e) = one.Deref e

  abbrev pub place_step : one.Place-F Expr Place → Place
  place_step a = roll-Place (place_with a)

  unfoldable pub expr_renamed : Expr → Expr
  expr_renamed e = fold-Expr Expr Place roll-Expr place_step e

  unfoldable pub place_renamed : Place → Place
  place_renamed a = fold-Place Expr Place roll-Expr place_step a

  abbrev pub root_renamed : Root → Root
  root_renamed (root.Static i) = root.Static (object i)
  root_renamed (root.Auto number func local) = root.Auto number func local

  abbrev pub address_renamed : Address → Address
  address_renamed address.Null = address.Null
  address_renamed (address.Func g) = address.Func g
  address_renamed (address.At o path index count) = address.At (root_renamed o) path index count

  abbrev pub leaf_renamed : Leaf → Leaf
  leaf_renamed (leaf.Int n) = leaf.Int n
  leaf_renamed (leaf.Place a) = leaf.Place (address_renamed a)

  -- ---- an object and a function

  abbrev pub object_renamed : Object → Object
  object_renamed o = record o { init = map leaf_renamed o.init }

  abbrev pub func_renamed : Func → Func
  func_renamed f = record f { body = map (stmt_by expr_renamed) f.body }

  -- a program with these objects, and the text of another by these numbers
  abbrev pub with_objects : List Object → Program → Program
  with_objects objects p = record p { objects = objects; funcs = map func_renamed p.funcs }

-- ---- the program with the objects of an order, in that order

module _ (order : List ℕ) where
  abbrev pub ordered_object : Object → Object
  ordered_object o = object_renamed (place_in 0 order) o

  abbrev pub ordered_func : Func → Func
  ordered_func f = func_renamed (place_in 0 order) f

  unfoldable pub with_objects_ordered : Program → Program
  with_objects_ordered p = with_objects (place_in 0 order) (map ordered_object (arranged p.objects order)) p
