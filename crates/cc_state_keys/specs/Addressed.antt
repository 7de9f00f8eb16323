-- The keys whose cells have their addresses taken: by `&` in an expression, reached or not, or in a first value (C99 6.5.3.2, 6.6). An array
-- that is used as a value gives the address of its first element (6.3.2.1, 3).
use Rattle.std.specs.Prelude.{ℕ, Bool, false, nat_eq, List, [], ◌∷◌, ◌++◌, map, Option, Some, None, option_map, option_and_then}
use Rattle.std.specs.List.{Contains, flat_map, list_any}
use Rattle.cc_program.specs.declared.expr.Expr.{Expr, fold-Expr, map-Expr}
use Rattle.cc_program.specs.declared.expr.Expr.TheOpen as one
use Rattle.cc_program.specs.declared.expr.Place.{Place, fold-Place, map-Place}
use Rattle.cc_program.specs.declared.func.Func.{Func}
use Rattle.cc_program.specs.declared.object.Object.{Object}
use Rattle.cc_program.specs.declared.program.Program.{Program}
use Rattle.cc_program.specs.declared.stmt.Stmt.{Stmt, fold-Stmt}
use Rattle.cc_program.specs.declared.stmt.Stmt.TheOpen as is
use Rattle.cc_program.specs.declared.value.Address.{Address}
use Rattle.cc_program.specs.declared.value.Address.TheVariants as address
use Rattle.cc_program.specs.declared.value.Leaf.{Leaf}
use Rattle.cc_program.specs.declared.value.Leaf.TheVariants as leaf
use Rattle.cc_state_facts.specs.declared.facts.Key.{Key}
use Rattle.cc_state_facts.specs.declared.facts.Key.TheVariants as key
use Rattle.cc_state_keys.specs.Keys.{cell_key, structure_of}
use Rattle.cc_state_keys.specs.Lists.{all_from, only}
use Rattle.cc_eval.specs.CcSyntax.Programs.{expr_step, place_step}
use Rattle.cc_eval.specs.CcSyntax.Values.{ValueType, PlaceType}

-- of an expression, and of a place: its type, and the keys whose addresses are taken in it; of a place also the key that it names by itself
pub record InExpr : Type 0 where
  pub ctype : Option ValueType
  pub taken : List Key

pub record InPlace : Type 0 where
  pub ctype : Option PlaceType
  pub own : Option Key
  pub taken : List Key

abbrev pub all_taken : List (List Key) → List Key
all_taken lists = flat_map (λ taken. taken) lists

abbrev pub in_operand : Option InExpr → List Key
in_operand None = []
in_operand (Some e) = e.taken

abbrev pub taken_step : one.Expr-F InExpr InPlace → List Key
taken_step (one.Const n t) = []
taken_step (one.Null t) = []
taken_step (one.FuncAddr f) = []
taken_step (one.Load a) = a.taken
taken_step (one.AddrOf a) = only a.own ++ a.taken
taken_step (one.Un o t a) = a.taken
taken_step (one.Bin o t a b) = a.taken ++ b.taken
taken_step (one.Conv t a) = a.taken
taken_step (one.Qualify t a) = a.taken
taken_step (one.Move a b back) = a.taken ++ b.taken
taken_step (one.Gap a b) = a.taken ++ b.taken
taken_step (one.Compare o a b) = a.taken ++ b.taken
taken_step (one.Both a b) = a.taken ++ b.taken
taken_step (one.Either a b) = a.taken ++ b.taken
taken_step (one.Choose c a b) = c.taken ++ (a.taken ++ b.taken)
taken_step (one.Assign a e) = a.taken ++ e.taken
taken_step (one.Change a o t e) = a.taken ++ e.taken
taken_step (one.After a down) = a.taken
taken_step (one.Call f args) = f.taken ++ all_taken (map (λ a. a.taken) args)
taken_step (one.Intr i a) = in_operand a
taken_step (one.Seq a b) = a.taken ++ b.taken

abbrev pub place_taken_step : one.Place-F InExpr InPlace → List Key
place_taken_step (one.Local r) = []
place_taken_step (one.Static i) = []
place_taken_step (one.Device d) = []
place_taken_step (one.Element a i) = a.taken ++ i.taken
place_taken_step (one.Member a m) = a.taken
place_taken_step (one.Deref e) = e.taken

module _ (p : Program) (id : ℕ) (f : Func) where
  -- what a pointer points to is named by no key of its own
  abbrev pub own_step : one.Place-F InExpr InPlace → Option Key
  own_step (one.Local r) = Some (key.Local id r)
  own_step (one.Static i) = Some (key.Object i)
  own_step (one.Device d) = None
  own_step (one.Element a i) = a.own
  own_step (one.Member a m) = option_map (λ s. key.Member s m) (option_and_then structure_of a.ctype)
  own_step (one.Deref e) = None

  abbrev pub expr_in : one.Expr-F InExpr InPlace → InExpr
  expr_in e = record {
    ctype = expr_step p f.locals (map-Expr InExpr InPlace (Option ValueType) (Option PlaceType) (λ a. a.ctype) (λ a. a.ctype) e);
    taken = taken_step e;
  }

  abbrev pub place_in : one.Place-F InExpr InPlace → InPlace
  place_in a = record {
    ctype = place_step p f.locals (map-Place InExpr InPlace (Option ValueType) (Option PlaceType) (λ a. a.ctype) (λ a. a.ctype) a);
    own = own_step a;
    taken = place_taken_step a;
  }

  unfoldable pub in_expr : Expr → InExpr
  in_expr e = fold-Expr InExpr InPlace expr_in place_in e

  unfoldable pub in_place : Place → InPlace
  in_place a = fold-Place InExpr InPlace expr_in place_in a

  abbrev pub taken_in : Expr → List Key
  taken_in e = (in_expr e).taken

  abbrev pub taken_in_optional : Option Expr → List Key
  taken_in_optional None = []
  taken_in_optional (Some e) = taken_in e

  abbrev pub stmt_taken_step : is.Stmt-F (List Key) (List Key) → List Key
  stmt_taken_step (is.Do e) = taken_in e
  stmt_taken_step (is.If e a b) = taken_in e ++ (all_taken a ++ all_taken b)
  stmt_taken_step (is.While e a) = taken_in e ++ all_taken a
  stmt_taken_step (is.DoWhile a e) = all_taken a ++ taken_in e
  stmt_taken_step (is.For first test again a) = taken_in_optional first ++ (taken_in_optional test ++ (taken_in_optional again ++ all_taken a))
  stmt_taken_step (is.Switch e cases) = taken_in e ++ all_taken cases
  stmt_taken_step is.Break = []
  stmt_taken_step is.Continue = []
  stmt_taken_step (is.Return e) = taken_in_optional e
  stmt_taken_step is.Empty = []
  stmt_taken_step (is.Block a) = all_taken a

  unfoldable pub taken_in_stmt : Stmt → List Key
  taken_in_stmt s = fold-Stmt (List Key) (List Key) stmt_taken_step (λ c. all_taken c.body) s

abbrev pub taken_in_func : Program → ℕ → Func → List Key
taken_in_func p id f = all_taken (map (taken_in_stmt p id f) f.body)

-- in a first value
abbrev pub taken_in_address : Program → Address → List Key
taken_in_address p address.Null = []
taken_in_address p (address.Func f) = []
taken_in_address p (address.At object path index count) = cell_key p object path ∷ []

abbrev pub taken_in_leaf : Program → Leaf → List Key
taken_in_leaf p (leaf.Int n) = []
taken_in_leaf p (leaf.Place a) = taken_in_address p a

abbrev pub taken_in_object : Program → Object → List Key
taken_in_object p o = flat_map (taken_in_leaf p) o.init

-- of a program: those of its functions, then those of its first values, each in the order of the text
abbrev pub taken_keys : Program → List Key
taken_keys p = all_from (taken_in_func p) 0 p.funcs ++ flat_map (taken_in_object p) p.objects

abbrev pub IsAddressed : Program → Key → Type 0
IsAddressed p k = Contains (taken_keys p) k

-- whether a static object's is among them
abbrev pub is_object_key : ℕ → Key → Bool
is_object_key i (key.Object j) = nat_eq j i
is_object_key i (key.Local f r) = false
is_object_key i (key.Member s m) = false

abbrev pub is_object_among : List Key → ℕ → Bool
is_object_among taken i = list_any (is_object_key i) taken
