-- A function of a sound program may be defined under its name: it is no intrinsic's, and `main` has the type of one (C99
-- 5.1.2.2.1).
use Rattle.std.proofs.Common.{arith, ◌≡◌, ℕ, Bool, true, false, not, ◌&&◌, ◌||◌, nat_eq, List, [], ◌∷◌, ◌++◌, map, length, Some, None, refl, ap, ◌∙◌, slice_get, eqb-true}
use Rattle.std.specs.Prelude.{if◌then◌else◌}
use Rattle.std.specs.List.{list_any, list_all}
use Rattle.std.specs.Str.{bytes_eq}
use Rattle.cc_type.specs.CcLinkage.Linkage.{is_main_result, no_types, is_main_shape, may_be_main}
use Rattle.cc_program.specs.CcNum.declared.int_type.IntType.TheVariants as int
use Rattle.cc_type.specs.CcTypedTerms.Primary.{intrinsic_named}
use Rattle.cc_program.specs.declared.func.Func.{Func}
use Rattle.cc_program.specs.declared.object.Object.{Object}
use Rattle.cc_program.specs.declared.program.Program.{Program}
use Rattle.cc_program.specs.declared.types.CType.{CType}
use Rattle.cc_program.specs.declared.types.Shape.{Shape, out-Shape}
use Rattle.cc_program.specs.declared.types.Shape.TheOpen as shape
use Rattle.cc_program.specs.declared.types.Shape.TheVariants as shape_rolls
use Rattle.cc_program.specs.declared.types.Sig.{Sig, out-Sig}
use Rattle.cc_type.specs.CcScopes.State.{Name}
use Rattle.cc_type.specs.CcSyntax.Names.{device_names, intrinsic_names, file_names, are_names}
use Rattle.cc_type.specs.CcSyntax.Operators.{is_unqualified, is_handler}
use Rattle.cc_type.specs.CcSyntax.SameTypes.{is_int_shape}
use Rattle.cc_type.specs.CcSyntax.Sound.{takes_nothing, is_plain_void, is_plain_int, is_main, form_fits}
use Rattle.cc_type.specs.CcSyntax.Values.{is_void}
use Rattle.cc_type.proofs.CcSyntax.Prefixes.{both_true}
use Rattle.cc_type.proofs.CcSyntax.SameLemmas.{and_true}
use Rattle.cc_program.specs.CcWords.Names.{is_name, are_distinct}
use Rattle.cc_shown_names.proofs.Names.{mapped, behind, no-intrinsic}
use Rattle.cc_shown_names.specs.Functions.{type_of_function}
use Rattle.cc_shown_expressions.specs.OperationNumbers.{Numbers}
use Rattle.cc_shown_expressions.specs.Numbers.{type_numbered, sig_numbered}
use Rattle.cc_shown_expressions.proofs.Kept.{void-numbered}
use Rattle.cc_shown_expressions.proofs.Numbering.{level, shape-level, constant-kept, volatile-kept, sig-level}

-- ---- intrinsics

distinct-behind : (xs ys : List Name) → are_distinct (xs ++ ys) ≡ true → are_distinct ys ≡ true
distinct-behind [] ys h = h
distinct-behind (x ∷ xs) ys h = distinct-behind xs ys (both_true (not (list_any (bytes_eq x) (xs ++ ys))) (are_distinct (xs ++ ys)) h).1

pub function-own : (p : Program) → are_names (file_names p) ≡ true → (i : ℕ) (f : Func) → slice_get p.funcs i ≡ Some f → intrinsic_named p.roles f.name ≡ None
function-own p names i f at =
    let objects = map (λ (o : Object). o.name) p.objects in
    let funcs = map (λ (g : Func). g.name) p.funcs in
    let all = (both_true (list_all is_name (file_names p)) (are_distinct (file_names p)) names).1 in
    let some = distinct-behind objects (funcs ++ intrinsic_names p.roles) (distinct-behind (device_names p.devices) (objects ++ (funcs ++ intrinsic_names p.roles)) all) in
    no-intrinsic p.roles f.name (behind funcs (intrinsic_names p.roles) i f.name some (mapped (λ (g : Func). g.name) p.funcs i f at))

-- ---- `main`

module _ (number : ℕ → ℕ) where
  unqualified-numbered : (t : CType) → is_unqualified (type_numbered number t) ≡ is_unqualified t
  unqualified-numbered t =
      ap (λ b. not (b || (type_numbered number t).volatile)) (constant-kept number t) ∙ ap (λ b. not (t.constant || b)) (volatile-kept number t)

  int-level : (x : shape.Shape-F Shape CType Sig) → is_int_shape int.Int (level number x) ≡ is_int_shape int.Int x
  int-level shape.Void = refl
  int-level (shape.Int i) = refl
  int-level (shape.Pointer to) = refl
  int-level (shape.Array of n) = refl
  int-level (shape.Struct i) = refl
  int-level (shape.Func sig) = refl

  result-numbered : (t : CType) → is_main_result (type_numbered number t) ≡ is_main_result t
  result-numbered t =
      let u = type_numbered number t in
      ap (λ b. (b && is_int_shape int.Int (out-Shape u.shape)) || (b && is_void u)) (unqualified-numbered t)
      ∙ ap (λ b. (is_unqualified t && b) || (is_unqualified t && is_void u)) (ap (is_int_shape int.Int) (shape-level number t) ∙ int-level (out-Shape t.shape))
      ∙ ap (λ b. (is_unqualified t && is_int_shape int.Int (out-Shape t.shape)) || (is_unqualified t && b)) (void-numbered number t)

nothing-taken : (number : ℕ → ℕ) (ts : List CType) → nat_eq (length ts) 0 ≡ true → no_types (map (type_numbered number) ts) ≡ true
nothing-taken number [] h = refl
nothing-taken number (t ∷ ts) h = let e : length (t ∷ ts) ≡ 0 = eqb-true (length (t ∷ ts)) 0 h in absurd (omega (arith, e))

module _ (n : Numbers) (f : Func) where
  main-by : (b : Bool) → is_main f ≡ b →
      (if b then not (is_handler f) && (takes_nothing f && (is_plain_int (out-Sig f.sig).result || is_plain_void (out-Sig f.sig).result)) else (if is_handler f then takes_nothing f && is_plain_void (out-Sig f.sig).result else true)) ≡ true →
      not b || is_main_shape (out-Shape (type_of_function n f).shape) ≡ true
  main-by false e h = refl
  main-by true e h =
      let q = both_true (not (is_handler f)) (takes_nothing f && is_main_result (out-Sig f.sig).result) h in
      let r = both_true (takes_nothing f) (is_main_result (out-Sig f.sig).result) q.1 in
      ap is_main_shape (shape_rolls.outs-Func (sig_numbered n.structure f.sig))
      ∙ ap (λ s. no_types s.params && is_main_result s.result) (sig-level n.structure f.sig)
      ∙ and_true (no_types (map (type_numbered n.structure) (out-Sig f.sig).params)) (is_main_result (type_numbered n.structure (out-Sig f.sig).result))
      (nothing-taken n.structure (out-Sig f.sig).params r.0) (result-numbered n.structure (out-Sig f.sig).result ∙ r.1)

  pub main-fits : form_fits f ≡ true → may_be_main f.name (type_of_function n f) ≡ true
  main-fits h = main-by (is_main f) refl h
