-- Expressions and statements by other numbers of locals and devices have the types that they had.
use Rattle.std.proofs.Common.{◌≡◌, ◌∙◌, ◌&&◌, ◌∷◌, ℕ, Bool, true, false, List, [], map, Option, Some, None, option_map, is_some, slice_get, refl, ap, sym}
use Rattle.std.specs.List.{list_all, flat_map}
use Rattle.cc_program.specs.CcNum.declared.target.Target.{Target}
use Rattle.cc_program.specs.declared.expr.Expr.{Expr, roll-Expr, map-Expr, fold-roll-Expr}
use Rattle.cc_program.specs.declared.expr.Expr.TheOpen as one
use Rattle.cc_program.specs.declared.expr.Place.{Place, map-Place, fold-roll-Place}
use Rattle.cc_program.specs.declared.stmt.Case.{Case, roll-Case, fold-Case, map-Case, fold-roll-Case}
use Rattle.cc_program.specs.declared.stmt.Stmt.{Stmt, roll-Stmt, map-Stmt, fold-roll-Stmt}
use Rattle.cc_program.specs.declared.stmt.Stmt.TheOpen as is
use Rattle.cc_program.specs.declared.types.CType.{CType}
use Rattle.cc_program.proofs.Each.{Each}
use Rattle.cc_program.proofs.FoldFusion.{fused}
use Rattle.cc_program.proofs.StmtInduction.{StmtParts, CaseParts, by_stmt}
use Rattle.cc_syntax.specs.Expressions.{expr_step, place_step, type_of, place_type}
use Rattle.cc_syntax.specs.Statements.{SoundWhere, Labelled, is_condition, has_label, labels_fit, are_apart, is_typed, is_optional_condition, returns, sound_case, sound_step, is_sound_stmt, is_sound_body}
use Rattle.cc_syntax.specs.Types.{Named}
use Rattle.cc_syntax.specs.Values.{ValueType, PlaceType, object_place, is_assignable_some, scalar_value}
use Rattle.cc_syntax.specs.Views.{View}
use Rattle.cc_lower_numbers.specs.Renamed.{place_with, expr_renamed, place_renamed, place_step as renamed_step, stmt_with, stmt_renamed, case_renamed, stmt_step as renamed_stmt_step}

abbrev pub with_devices : (ℕ → Option PlaceType) → View → View
with_devices devices v = record { target = v.target; structures = v.structures; extents = v.extents; statics = v.statics; devices = devices; functions = v.functions }

-- the type of a local, where it is there
abbrev pub local_type : Option Named → Option CType
local_type l = option_map (λ (l : Named). l.1) l

module _ (v : View) (devices : ℕ → Option PlaceType) (old new : List Named) (local device : ℕ → ℕ)
    (same_locals : (r : ℕ) → local_type (slice_get new (local r)) ≡ local_type (slice_get old r))
    (same_devices : (d : ℕ) → devices (device d) ≡ v.devices d) where
  abbrev w : View
  w = with_devices devices v

  abbrev new_type : Expr → Option ValueType
  new_type e = type_of w new e

  abbrev new_place : Place → Option PlaceType
  new_place a = place_type w new a

  abbrev placed : Option Named → Option PlaceType
  placed l = option_map (λ (l : Named). object_place l.1) l

  by_type : (l : Option Named) → placed l ≡ option_map object_place (local_type l)
  by_type None = refl
  by_type (Some l) = refl

  local_same : (r : ℕ) → placed (slice_get new (local r)) ≡ placed (slice_get old r)
  local_same r = by_type (slice_get new (local r)) ∙ ap (option_map object_place) (same_locals r) ∙ sym (by_type (slice_get old r))

  expr_level : (x : one.Expr-F (Option ValueType) (Option PlaceType)) → expr_step w new x ≡ expr_step v old x
  expr_level (one.Const n t) = refl
  expr_level (one.Null t) = refl
  expr_level (one.FuncAddr f) = refl
  expr_level (one.Load a) = refl
  expr_level (one.AddrOf a) = refl
  expr_level (one.Un o t a) = refl
  expr_level (one.Bin o t a b) = refl
  expr_level (one.Conv t a) = refl
  expr_level (one.Qualify t a) = refl
  expr_level (one.Move a b back) = refl
  expr_level (one.Gap a b) = refl
  expr_level (one.Compare o a b) = refl
  expr_level (one.Both a b) = refl
  expr_level (one.Either a b) = refl
  expr_level (one.Choose c a b) = refl
  expr_level (one.Assign a e) = refl
  expr_level (one.Change a o t e) = refl
  expr_level (one.After a down) = refl
  expr_level (one.Call f args) = refl
  expr_level (one.Intr i a) = refl
  expr_level (one.Seq a b) = refl

  expr_part : (x : one.Expr-F Expr Place) → new_type (roll-Expr x) ≡ expr_step v old (map-Expr Expr Place (Option ValueType) (Option PlaceType) new_type new_place x)
  unfolding type_of place_type
  expr_part x = fold-roll-Expr (Option ValueType) (Option PlaceType) (expr_step w new) (place_step w new) x ∙ expr_level (map-Expr Expr Place (Option ValueType) (Option PlaceType) new_type new_place x)

  place_level : (x : one.Place-F Expr Place) →
      place_step w new (map-Place Expr Place (Option ValueType) (Option PlaceType) new_type new_place (place_with local device x)) ≡ place_step v old (map-Place Expr Place (Option ValueType) (Option PlaceType) new_type new_place x)
  place_level (one.Local r) = local_same r
  place_level (one.Static i) = refl
  place_level (one.Device d) = same_devices d
  place_level (one.Element a e) = refl
  place_level (one.Member a m) = refl
  place_level (one.Deref e) = refl

  place_part : (x : one.Place-F Expr Place) → new_place (renamed_step local device x) ≡ place_step v old (map-Place Expr Place (Option ValueType) (Option PlaceType) new_type new_place x)
  unfolding type_of place_type
  place_part x = fold-roll-Place (Option ValueType) (Option PlaceType) (expr_step w new) (place_step w new) (place_with local device x) ∙ place_level x

  pub type_same : (e : Expr) → type_of w new (expr_renamed local device e) ≡ type_of v old e
  unfolding type_of place_type expr_renamed place_renamed
  type_same e = fused roll-Expr (renamed_step local device) (expr_step v old) (place_step v old) new_type new_place expr_part place_part e

-- ---- statements

module _ (target : Target) (result : CType) (new_type old_type : Expr → Option ValueType) (local device : ℕ → ℕ) (same : (e : Expr) → new_type (expr_renamed local device e) ≡ old_type e) where
  abbrev new_sound : Stmt → SoundWhere
  new_sound s = is_sound_stmt target new_type result s

  abbrev old_sound : Stmt → SoundWhere
  old_sound s = is_sound_stmt target old_type result s

  abbrev new_case : Case → Labelled
  new_case c = fold-Case SoundWhere Labelled (sound_step target new_type result) sound_case c

  abbrev old_case : Case → Labelled
  old_case c = fold-Case SoundWhere Labelled (sound_step target old_type result) sound_case c

  typed_same : (e : Option Expr) → is_typed target new_type result (option_map (expr_renamed local device) e) ≡ is_typed target old_type result e
  typed_same None = refl
  typed_same (Some e) = ap is_some (same e)

  condition_same : (e : Option Expr) → is_optional_condition target new_type result (option_map (expr_renamed local device) e) ≡ is_optional_condition target old_type result e
  condition_same None = refl
  condition_same (Some e) = ap is_condition (same e)

  returns_same : (e : Option Expr) → returns target new_type result (option_map (expr_renamed local device) e) ≡ returns target old_type result e
  returns_same None = refl
  returns_same (Some e) = ap (is_assignable_some (scalar_value result)) (same e)

  abbrev StmtSame : Stmt → Type 0
  StmtSame s = new_sound (stmt_renamed local device s) ≡ old_sound s

  abbrev CaseSame : Case → Type 0
  CaseSame c = new_case (case_renamed local device c) ≡ old_case c

  list_same : (l : List Stmt) → Each StmtSame l → map new_sound (map (stmt_renamed local device) l) ≡ map old_sound l
  list_same [] h = refl
  list_same (s ∷ l) h = λ i. h.0 i ∷ list_same l h.1 i

  cases_same : (l : List Case) → Each CaseSame l → map new_case (map (case_renamed local device) l) ≡ map old_case l
  cases_same [] h = refl
  cases_same (c ∷ l) h = λ i. h.0 i ∷ cases_same l h.1 i

  abbrev new_level : is.Stmt-F Stmt Case → SoundWhere
  new_level x = sound_step target new_type result (map-Stmt Stmt Case SoundWhere Labelled new_sound new_case x)

  abbrev old_level : is.Stmt-F Stmt Case → SoundWhere
  old_level x = sound_step target old_type result (map-Stmt Stmt Case SoundWhere Labelled old_sound old_case x)

  abbrev renamed_level : is.Stmt-F Stmt Case → is.Stmt-F Stmt Case
  renamed_level x = stmt_with local device (map-Stmt Stmt Case Stmt Case (stmt_renamed local device) (case_renamed local device) x)

  abbrev all : Bool → Bool → List SoundWhere → Bool
  all b c l = list_all (λ (s : SoundWhere). s b c) l

  abbrev fits : Bool → List Labelled → Option ValueType → Bool
  fits c cases t =
      labels_fit target (flat_map (λ (c : Labelled). c.labels) cases) t
      && (are_apart (flat_map (λ (c : Labelled). c.labels) cases) && (list_all (λ (c : Labelled). has_label c.labels) cases && list_all (λ (k : Labelled). k.body true c) cases))

  level_same : (x : is.Stmt-F Stmt Case) → StmtParts StmtSame CaseSame x → new_level (renamed_level x) ≡ old_level x
  level_same (is.Do e) h = λ i b c. is_some (same e i)
  level_same (is.If e x y) h = λ i b c. is_condition (same e i) && (all b c (list_same x h.0 i) && all b c (list_same y h.1 i))
  level_same (is.While e x) h = λ i b c. is_condition (same e i) && all true true (list_same x h i)
  level_same (is.DoWhile x e) h = λ i b c. is_condition (same e i) && all true true (list_same x h i)
  level_same (is.For first test again x) h = λ i b c. typed_same first i && (condition_same test i && (typed_same again i && all true true (list_same x h i)))
  level_same (is.Switch e cases) h = λ i b c. fits c (cases_same cases h i) (same e i)
  level_same is.Break h = refl
  level_same is.Continue h = refl
  level_same (is.Return e) h = λ i b c. returns_same e i
  level_same is.Empty h = refl
  level_same (is.Block x) h = λ i b c. all b c (list_same x h i)

  stmt_made : (x : is.Stmt-F Stmt Case) → StmtParts StmtSame CaseSame x → StmtSame (roll-Stmt x)
  unfolding stmt_renamed case_renamed
  stmt_made x h =
      ap new_sound (fold-roll-Stmt Stmt Case (renamed_stmt_step local device) roll-Case x)
      ∙ fold-roll-Stmt SoundWhere Labelled (sound_step target new_type result) sound_case (renamed_level x)
      ∙ level_same x h
      ∙ sym (fold-roll-Stmt SoundWhere Labelled (sound_step target old_type result) sound_case x)

  case_level : (x : is.Case-F Stmt Case) → CaseParts StmtSame CaseSame x →
      sound_case (map-Case Stmt Case SoundWhere Labelled new_sound new_case (map-Case Stmt Case Stmt Case (stmt_renamed local device) (case_renamed local device) x)) ≡ sound_case (map-Case Stmt Case SoundWhere Labelled old_sound old_case x)
  case_level x h = λ i. record { labels = x.labels; body = λ b c. all b c (list_same x.body h i) }

  case_made : (x : is.Case-F Stmt Case) → CaseParts StmtSame CaseSame x → CaseSame (roll-Case x)
  unfolding stmt_renamed case_renamed
  case_made x h =
      ap new_case (fold-roll-Case Stmt Case (renamed_stmt_step local device) roll-Case x)
      ∙ fold-roll-Case SoundWhere Labelled (sound_step target new_type result) sound_case (map-Case Stmt Case Stmt Case (stmt_renamed local device) (case_renamed local device) x)
      ∙ case_level x h
      ∙ sym (fold-roll-Case SoundWhere Labelled (sound_step target old_type result) sound_case x)

  stmt_same : (s : Stmt) → StmtSame s
  stmt_same s = by_stmt StmtSame CaseSame stmt_made case_made s

  bodies_same : (l : List Stmt) → map new_sound (map (stmt_renamed local device) l) ≡ map old_sound l
  bodies_same [] = refl
  bodies_same (s ∷ l) = λ i. stmt_same s i ∷ bodies_same l i

  pub body_same : (l : List Stmt) → is_sound_body target new_type result (map (stmt_renamed local device) l) ≡ is_sound_body target old_type result l
  body_same l = ap (all false false) (bodies_same l)
