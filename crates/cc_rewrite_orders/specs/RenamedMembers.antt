-- Members of structures by other numbers; all else is the same. Which structure a member is of is told by the types that places have in a
-- program.
use Rattle.std.specs.Prelude.{ℕ, List, [], ◌∷◌, Option, Some, None, option_and_then}
use Rattle.cc_program.specs.declared.expr.Expr.{Expr, roll-Expr, map-Expr, fold-Expr}
use Rattle.cc_program.specs.declared.expr.Expr.TheOpen as one
use Rattle.cc_program.specs.declared.expr.Place.{Place, roll-Place, map-Place, fold-Place}
use Rattle.cc_program.specs.declared.func.Func.{Func}
use Rattle.cc_program.specs.declared.program.Program.{Program}
use Rattle.cc_program.specs.declared.stmt.Stmt.{Stmt}
use Rattle.cc_program.specs.declared.value.Address.{Address}
use Rattle.cc_program.specs.declared.value.Address.TheVariants as address
use Rattle.cc_program.specs.declared.value.Leaf.{Leaf}
use Rattle.cc_program.specs.declared.value.Leaf.TheVariants as leaf
use Rattle.cc_program.specs.declared.value.Part.{Part}
use Rattle.cc_program.specs.declared.value.Part.TheVariants as part
use Rattle.cc_program.specs.declared.value.Root.{Root}
use Rattle.cc_rewrite_renamed.specs.Statements.{stmt_by}
use Rattle.cc_state_points.specs.CcStateKeys.Keys.{structure_of}
use Rattle.cc_state_points.specs.CcSyntax.Expressions.{of_one}
use Rattle.cc_state_points.specs.CcSyntax.Initial.{step_into}
use Rattle.cc_state_points.specs.CcSyntax.Programs.{expr_step, place_step}
use Rattle.cc_state_points.specs.CcSyntax.Values.{ValueType, PlaceType}

-- an expression and a place, with the types that they have in the program
pub record ExprIn : Type 0 where
  pub ctype : Option ValueType
  pub renamed : Expr

pub record PlaceIn : Type 0 where
  pub ctype : Option PlaceType
  pub renamed : Place

-- a member of a structure
module _ (member : ℕ → ℕ → ℕ) where
  abbrev pub member_of : Option ℕ → ℕ → ℕ
  member_of None m = m
  member_of (Some s) m = member s m

  abbrev pub member_in : Option PlaceType → ℕ → ℕ
  member_in t m = member_of (option_and_then structure_of t) m

  module _ (p : Program) (f : Func) where
    abbrev pub expr_in : one.Expr-F ExprIn PlaceIn → ExprIn
    expr_in e = record {
      ctype = expr_step p f.locals (map-Expr ExprIn PlaceIn (Option ValueType) (Option PlaceType) (λ a. a.ctype) (λ a. a.ctype) e);
      renamed = roll-Expr (map-Expr ExprIn PlaceIn Expr Place (λ a. a.renamed) (λ a. a.renamed) e);
    }

    abbrev pub place_with : one.Place-F ExprIn PlaceIn → one.Place-F Expr Place
    place_with (one.Local r) = one.Local r
    place_with (one.Static i) = one.Static i
    place_with (one.Device d) = one.Device d
    place_with (one.Element a i) = one.Element a.renamed i.renamed
    place_with (one.Member a m) = one.Member a.renamed (member_in a.ctype m)
    place_with (one.Deref e) = one.Deref e.renamed

    abbrev pub place_in : one.Place-F ExprIn PlaceIn → PlaceIn
    place_in a = record {
      ctype = place_step p f.locals (map-Place ExprIn PlaceIn (Option ValueType) (Option PlaceType) (λ a. a.ctype) (λ a. a.ctype) a);
      renamed = roll-Place (place_with a);
    }

    unfoldable pub expr_renamed : Expr → Expr
    expr_renamed e = (fold-Expr ExprIn PlaceIn expr_in place_in e).renamed

    abbrev pub stmt_renamed : Stmt → Stmt
    stmt_renamed s = stmt_by expr_renamed s

  -- ---- first values

  module _ (p : Program) where
    abbrev pub part_in : Option PlaceType → Part → Part
    part_in t (part.Member m) = part.Member (member_in t m)
    part_in t (part.Index i) = part.Index i

    abbrev pub path_renamed : Option PlaceType → List Part → List Part
    path_renamed t [] = []
    path_renamed t (x ∷ path) = part_in t x ∷ path_renamed (of_one t (step_into p.structures x)) path

    module _ (type_of_object : Root → Option PlaceType) where
      abbrev pub address_renamed : Address → Address
      address_renamed address.Null = address.Null
      address_renamed (address.Func g) = address.Func g
      address_renamed (address.At o path index count) = address.At o (path_renamed (type_of_object o) path) index count

      abbrev pub leaf_renamed : Leaf → Leaf
      leaf_renamed (leaf.Int n) = leaf.Int n
      leaf_renamed (leaf.Place a) = leaf.Place (address_renamed a)
