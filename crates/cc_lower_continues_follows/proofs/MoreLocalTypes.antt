-- With more locals behind those of its function an expression that had a type has the same.
use Rattle.std.proofs.Common.{◌≡◌, ◌∙◌, ◌∷◌, ◌++◌, ℕ, Bool, true, List, [], length, map, Option, Some, None, option_map, refl, ap, sym}
use Rattle.cc_program.specs.declared.expr.Expr.{Expr, roll-Expr, map-Expr}
use Rattle.cc_program.specs.declared.expr.Expr.TheOpen as one
use Rattle.cc_program.specs.declared.expr.Place.{Place, roll-Place, map-Place}
use Rattle.cc_program.proofs.Each.{Each}
use Rattle.cc_program.proofs.ExprInduction.{Parts, PlaceParts, by_expr}
use Rattle.cc_states.specs.CcSyntax.Expressions.{expr_step, place_step, place_type, type_of}
use Rattle.cc_states.specs.CcSyntax.Types.{Named}
use Rattle.cc_states.specs.CcSyntax.Values.{PlaceType, ValueType, object_place}
use Rattle.cc_states.specs.CcSyntax.Views.{View}
use Rattle.cc_meaning_simulations.specs.NamedLocals.{all_in, names_below, names_step, place_names_below, place_names_step}
use Rattle.cc_meaning_simulations.proofs.MoreLocals.{get_before, names-roll, place_names-roll}
use Rattle.cc_lower_continues_follows.proofs.ExpressionNames.{both_left, both_right}
use Rattle.cc_lower_continues_follows.proofs.TypedNames.{There, names_of_typed, place-roll, type-roll}

module _ (V : View) (locals more : List Named) where
  abbrev n : ℕ
  n = length locals

  abbrev At : Expr → Type 0
  At e = names_below n e ≡ true → type_of V (locals ++ more) e ≡ type_of V locals e

  abbrev PlaceAt : Place → Type 0
  PlaceAt a = place_names_below n a ≡ true → place_type V (locals ++ more) a ≡ place_type V locals a

  abbrev types : List Named → one.Expr-F Expr Place → one.Expr-F (Option ValueType) (Option PlaceType)
  types ls x = map-Expr Expr Place (Option ValueType) (Option PlaceType) (type_of V ls) (place_type V ls) x

  abbrev place_types : List Named → one.Place-F Expr Place → one.Place-F (Option ValueType) (Option PlaceType)
  place_types ls x = map-Place Expr Place (Option ValueType) (Option PlaceType) (type_of V ls) (place_type V ls) x

  args_same : (args : List Expr) → Each At args → all_in (map (names_below n) args) ≡ true → map (type_of V (locals ++ more)) args ≡ map (type_of V locals) args
  args_same [] h k = refl
  args_same (a ∷ args) h k = λ i. h.0 (both_left (names_below n a) _ k) i ∷ args_same args h.1 (both_right (names_below n a) _ k) i

  parts_same : (x : one.Expr-F Expr Place) → Parts At PlaceAt x → names_step n (map-Expr Expr Place Bool Bool (names_below n) (place_names_below n) x) ≡ true → types (locals ++ more) x ≡ types locals x
  parts_same (one.Const k t) h r = refl
  parts_same (one.Null t) h r = refl
  parts_same (one.FuncAddr g) h r = refl
  parts_same (one.Load a) h r = λ i. one.Load (h r i)
  parts_same (one.AddrOf a) h r = λ i. one.AddrOf (h r i)
  parts_same (one.Un o t a) h r = λ i. one.Un o t (h r i)
  parts_same (one.Bin o t a b) h r = λ i. one.Bin o t (h.0 (both_left (names_below n a) _ r) i) (h.1 (both_right (names_below n a) _ r) i)
  parts_same (one.Conv t a) h r = λ i. one.Conv t (h r i)
  parts_same (one.Qualify t a) h r = λ i. one.Qualify t (h r i)
  parts_same (one.Move a b back) h r = λ i. one.Move (h.0 (both_left (names_below n a) _ r) i) (h.1 (both_right (names_below n a) _ r) i) back
  parts_same (one.Gap a b) h r = λ i. one.Gap (h.0 (both_left (names_below n a) _ r) i) (h.1 (both_right (names_below n a) _ r) i)
  parts_same (one.Compare o a b) h r = λ i. one.Compare o (h.0 (both_left (names_below n a) _ r) i) (h.1 (both_right (names_below n a) _ r) i)
  parts_same (one.Both a b) h r = λ i. one.Both (h.0 (both_left (names_below n a) _ r) i) (h.1 (both_right (names_below n a) _ r) i)
  parts_same (one.Either a b) h r = λ i. one.Either (h.0 (both_left (names_below n a) _ r) i) (h.1 (both_right (names_below n a) _ r) i)
  parts_same (one.Choose d a b) h r =
      let ab = both_right (names_below n d) _ r in λ i. one.Choose (h.0 (both_left (names_below n d) _ r) i) (h.1 (both_left (names_below n a) _ ab) i) (h.2 (both_right (names_below n a) _ ab) i)
  parts_same (one.Assign a e) h r = λ i. one.Assign (h.0 (both_left (place_names_below n a) _ r) i) (h.1 (both_right (place_names_below n a) _ r) i)
  parts_same (one.Change a o t e) h r = λ i. one.Change (h.0 (both_left (place_names_below n a) _ r) i) o t (h.1 (both_right (place_names_below n a) _ r) i)
  parts_same (one.After a down) h r = λ i. one.After (h r i) down
  parts_same (one.Call g args) h r = λ i. one.Call (h.0 (both_left (names_below n g) _ r) i) (args_same args h.1 (both_right (names_below n g) _ r) i)
  parts_same (one.Intr k None) h r = refl
  parts_same (one.Intr k (Some a)) h r = λ i. one.Intr k (Some (h r i))
  parts_same (one.Seq a b) h r = λ i. one.Seq (h.0 (both_left (names_below n a) _ r) i) (h.1 (both_right (names_below n a) _ r) i)

  made : (x : one.Expr-F Expr Place) → Parts At PlaceAt x → At (roll-Expr x)
  made x h r = type-roll V (locals ++ more) x ∙ ap (expr_step V locals) (parts_same x h (sym (names-roll n x) ∙ r)) ∙ sym (type-roll V locals x)

  place_made : (x : one.Place-F Expr Place) → PlaceParts At PlaceAt x → PlaceAt (roll-Place x)
  place_made x h r = place-roll V (locals ++ more) x ∙ by_kind x h (sym (place_names-roll n x) ∙ r) ∙ sym (place-roll V locals x)
    where
      by_kind : (x : one.Place-F Expr Place) → PlaceParts At PlaceAt x → place_names_step n (map-Place Expr Place Bool Bool (names_below n) (place_names_below n) x) ≡ true → place_step V (locals ++ more) (place_types (locals ++ more) x) ≡ place_step V locals (place_types locals x)
      by_kind (one.Local k) h r = ap (option_map (λ l. object_place l.1)) (get_before locals more k r)
      by_kind (one.Static k) h r = refl
      by_kind (one.Device d) h r = refl
      by_kind (one.Element a e) h r = λ i. place_step V locals (one.Element (h.0 (both_left (place_names_below n a) _ r) i) (h.1 (both_right (place_names_below n a) _ r) i))
      by_kind (one.Member a m) h r = λ i. place_step V locals (one.Member (h r i) m)
      by_kind (one.Deref e) h r = λ i. place_step V locals (one.Deref (h r i))

  pub type_extended : (e : Expr) → There (type_of V locals e) → type_of V (locals ++ more) e ≡ type_of V locals e
  type_extended e h = by_expr At PlaceAt made place_made e (names_of_typed V locals e h)
