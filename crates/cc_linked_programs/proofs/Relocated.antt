-- A sound function stays one by other numbers and with other names of its locals.
use Rattle.std.proofs.Common.{◌≡◌, ◌∙◌, ◌⊎◌, inl, inr, ◌+◌, ℕ, zero, suc, Bool, true, false, true≢false, not, ◌&&◌, List, [], ◌∷◌, length, map, drop, Option, Some, None, slice_get, refl, ap, sym, subst, arith}
use Rattle.std.specs.Prelude.{nat_eq, zip}
use Rattle.std.specs.List.{list_all}
use Rattle.std.proofs.lemmas.List.{length-map}
use Rattle.cc_program.proofs.Each.{Each}
use Rattle.cc_program.specs.Qualifiers.{is_const}
use Rattle.cc_program.specs.declared.func.Entry.{Entry}
use Rattle.cc_program.specs.declared.func.Func.{Func}
use Rattle.cc_program.specs.declared.types.CType.{CType, fold_out-CType}
use Rattle.cc_program.specs.declared.types.Shape.{Shape}
use Rattle.cc_program.specs.declared.types.Shape.TheOpen as shape
use Rattle.cc_program.specs.declared.types.Sig.{Sig, out-Sig}
use Rattle.cc_relocated_units.proofs.KindsKept.{test_kept}
use Rattle.cc_relocated_units.proofs.Types.{const_kept}
use Rattle.cc_relocated_units.specs.Renumbering.{Renumbers, RenumberedLocals}
use Rattle.cc_relocated_units.proofs.Statements.{body_numbered}
use Rattle.cc_relocation.specs.Relocated.{func_with, local_with}
use Rattle.cc_relocated_units.specs.Units.{IsSoundFunction}
use Rattle.cc_structures.proofs.WordLaws.{renumbered_sig_level, sig_level}
use Rattle.cc_operands.proofs.CcSyntax.Prefixes.{both_true}
use Rattle.cc_operands.proofs.CcSyntax.SameLemmas.{compared, shape_of_same}
use Rattle.cc_operands.specs.CcSyntax.Expressions.{type_of}
use Rattle.cc_program.specs.CcNum.declared.target.Target.{Target}
use Rattle.cc_operands.specs.CcSyntax.Kinds.{Kind, kind_of, is_object_type, is_plain_scalar, is_result}
use Rattle.cc_operands.specs.CcSyntax.SameTypes.{Comparison, comparison_of, compare_shape, compare_sig, compare_type, same_flag, same_shape, shape_comparison}
use Rattle.cc_operands.specs.CcSyntax.Sound.{are_parameters, is_automatic}
use Rattle.cc_operands.specs.CcSyntax.Statements.{is_sound_body}
use Rattle.cc_operands.specs.CcSyntax.Types.{Named}
use Rattle.cc_operands.specs.CcSyntax.Views.{View, kind_in}
use Rattle.cc_unit.specs.Mentioned.{all_of, in_stmt}
use Rattle.cc_unit.specs.Renumbered.{shape_renumbered, shape_step, sig_renumbered, sig_step, stmt_renumbered, type_renumbered, type_step}
use Rattle.cc_unit.specs.declared.ids.Ids.{Ids}
use Rattle.cc_linked_programs.proofs.ContentLists.{both}

-- ---- shapes

same_opens : (t : CType) → comparison_of t ≡ compare_type (record { constant = t.constant; volatile = t.volatile; shape = shape_comparison t.shape })
unfolding comparison_of shape_comparison
same_opens t = fold_out-CType (Comparison Shape) (Comparison CType) (Sig → Bool) compare_shape compare_type compare_sig t

third_of : (a b c : Bool) → a && (b && c) ≡ true → c ≡ true
third_of a b c h = (both_true b c (both_true a (b && c) h).1).1

-- a shape is the same as itself
pub shape_itself : (t : CType) → same_shape t.shape t.shape ≡ true
shape_itself t =
    third_of (same_flag t.constant t.constant) (same_flag t.volatile t.volatile) (same_shape t.shape t.shape)
    (sym (ap (λ (c : Comparison CType). c.same t) (same_opens t)) ∙ (compared t).itself)

module _ (numbers : List ℕ) where
  shape_opens : (t : CType) → (type_renumbered numbers t).shape ≡ shape_renumbered numbers t.shape
  unfolding type_renumbered shape_renumbered
  shape_opens t = ap (λ (u : CType). u.shape) (fold_out-CType Shape CType Sig (shape_step numbers) (type_step numbers) (sig_step numbers) t)

  pub shape_kept : (t u : CType) → same_shape t.shape u.shape ≡ true → same_shape (type_renumbered numbers t).shape (type_renumbered numbers u).shape ≡ true
  shape_kept t u h =
      let one : (type_renumbered numbers t).shape ≡ (type_renumbered numbers u).shape = shape_opens t ∙ (ap (shape_renumbered numbers) (shape_of_same t u h) ∙ sym (shape_opens u)) in
      subst (λ (s : Shape). same_shape (type_renumbered numbers t).shape s ≡ true) one (shape_itself (type_renumbered numbers t))

  -- ---- locals

  abbrev pub locals_with : List (List ℕ) → List Named → List Named
  locals_with names ls = map (local_with numbers) (zip names ls)

  fewer : (n m : ℕ) → suc n ≡ suc m → n ≡ m
  fewer n m e = omega (arith, e)

  none_left : (n : ℕ) → 0 ≡ suc n → ⊥
  none_left n e = omega (arith, e)

  -- each local has its type by the numbers
  pub locals_kept : (names : List (List ℕ)) (ls : List Named) → length names ≡ length ls → RenumberedLocals numbers ls (locals_with names ls)
  locals_kept names [] e r l f = absurd (cc)
  locals_kept [] (k ∷ ls) e r l f = absurd (none_left (length ls) e)
  locals_kept (x ∷ names) (k ∷ ls) e zero l f =
      let s : k ≡ l = cc f in
      (local_with numbers (x, k), refl, ap (λ (j : Named). type_renumbered numbers j.1) s)
  locals_kept (x ∷ names) (k ∷ ls) e (suc r) l f = locals_kept names ls (fewer (length names) (length ls) e) r l f

  pub as_many_locals : (names : List (List ℕ)) (ls : List Named) → length names ≡ length ls → length (locals_with names ls) ≡ length ls
  as_many_locals names [] e = none names e
    where
      none : (xs : List (List ℕ)) → length xs ≡ 0 → length (locals_with xs []) ≡ 0
      none [] e = refl
      none (x ∷ xs) e = absurd (none_left (length xs) (sym e))
  as_many_locals [] (k ∷ ls) e = absurd (none_left (length ls) e)
  as_many_locals (x ∷ names) (k ∷ ls) e = ap suc (as_many_locals names ls (fewer (length names) (length ls) e))

  pub parameters_kept : (ts : List CType) (names : List (List ℕ)) (ls : List Named) → length names ≡ length ls → are_parameters ts ls ≡ true → are_parameters (map (type_renumbered numbers) ts) (locals_with names ls) ≡ true
  parameters_kept [] names ls e h = refl
  parameters_kept (t ∷ ts) names [] e h = absurd (true≢false (sym h))
  parameters_kept (t ∷ ts) [] (k ∷ ls) e h = absurd (none_left (length ls) e)
  parameters_kept (t ∷ ts) (x ∷ names) (k ∷ ls) e h =
      let b = both_true (same_shape t.shape k.1.shape) (are_parameters ts ls) h in
      both (same_shape (type_renumbered numbers t).shape (type_renumbered numbers k.1).shape) (are_parameters (map (type_renumbered numbers) ts) (locals_with names ls)) (shape_kept t k.1 b.0) (parameters_kept ts names ls (fewer (length names) (length ls) e) b.1)

  -- a test of each local
  pub each_kept : (p q : Named → Bool) → ((x : List ℕ) (l : Named) → p l ≡ true → q (local_with numbers (x, l)) ≡ true) → (names : List (List ℕ)) (ls : List Named) → length names ≡ length ls → (n : ℕ) → list_all p (drop n ls) ≡ true →
      list_all q (drop n (locals_with names ls)) ≡ true
  each_kept p q keep [] [] e n h = nothing n
    where
      nothing : (n : ℕ) → list_all q (drop n []) ≡ true
      nothing zero = refl
      nothing (suc n) = refl
  each_kept p q keep [] (k ∷ ls) e n h = absurd (none_left (length ls) e)
  each_kept p q keep (x ∷ names) [] e n h = absurd (none_left (length names) (sym e))
  each_kept p q keep (x ∷ names) (k ∷ ls) e zero h =
      let b = both_true (p k) (list_all p ls) h in
      both (q (local_with numbers (x, k))) (list_all q (locals_with names ls)) (keep x k b.0) (each_kept p q keep names ls (fewer (length names) (length ls) e) zero b.1)
  each_kept p q keep (x ∷ names) (k ∷ ls) e (suc n) h = each_kept p q keep names ls (fewer (length names) (length ls) e) n h

module _ (v w : View) (ids : Ids) (among : ℕ → Bool) (renumbers : Renumbers v w ids among) where
  abbrev types : CType → CType
  types t = type_renumbered ids.structures t

  -- a test that no missing kind passes
  pub test_stays : (test : Option Kind → Bool) → test None ≡ false → (t : CType) → test (kind_in v t) ≡ true → test (kind_in w (types t)) ≡ true
  test_stays test none t h = targeted w.target renumbers.target
    where
      kept : test (kind_of v.target w.extents (types t)) ≡ true
      kept = test_kept v.target ids.structures v.extents w.extents renumbers.extents test none t h

      targeted : (target : Target) → target ≡ v.target → test (kind_of target w.extents (types t)) ≡ true
      targeted target e = subst (λ (z : Target). test (kind_of z w.extents (types t)) ≡ true) (sym e) kept

  plain_stay : (ts : List CType) → list_all (λ (t : CType). is_plain_scalar (kind_in v t)) ts ≡ true → list_all (λ (t : CType). is_plain_scalar (kind_in w t)) (map types ts) ≡ true
  plain_stay [] h = refl
  plain_stay (t ∷ ts) h =
      let b = both_true (is_plain_scalar (kind_in v t)) (list_all (λ (t : CType). is_plain_scalar (kind_in v t)) ts) h in
      both (is_plain_scalar (kind_in w (types t))) (list_all (λ (t : CType). is_plain_scalar (kind_in w t)) (map types ts)) (test_stays is_plain_scalar refl t b.0) (plain_stay ts b.1)

  pub function_relocated : (s : Sig) (g : Func) → IsSoundFunction v s g → Each (λ i. among i ≡ true) (all_of (map in_stmt g.body)) → (name : List ℕ) (names : List (List ℕ)) (entry : Option Entry) → length names ≡ length g.locals →
      IsSoundFunction w (sig_renumbered ids.structures s) (func_with name names entry ids g)
  function_relocated s g sound speaks name names entry e =
      let numbers = ids.structures in
      let f = func_with name names entry ids g in
      let out : out-Sig (sig_renumbered numbers s) ≡ renumbered_sig_level numbers (out-Sig s) = sig_level numbers s (out-Sig s) refl in
      record {
        same = ap (sig_renumbered numbers) sound.same;
        result = ap (λ (y : shape.Sig-F Shape CType Sig). is_result (kind_in w y.result)) out ∙ test_stays is_result refl (out-Sig s).result sound.result;
        parameters = ap (λ (y : shape.Sig-F Shape CType Sig). list_all (λ (t : CType). is_plain_scalar (kind_in w t)) y.params) out ∙ plain_stay (out-Sig s).params sound.parameters;
        count = ap (λ (y : shape.Sig-F Shape CType Sig). nat_eq g.params (length y.params)) out ∙ (ap (nat_eq g.params) (length-map (out-Sig s).params types) ∙ sound.count);
        first = ap (λ (y : shape.Sig-F Shape CType Sig). are_parameters y.params f.locals) out ∙ parameters_kept numbers (out-Sig s).params names g.locals e sound.first;
        locals = each_kept numbers (λ (l : Named). is_object_type (kind_in v l.1)) (λ (l : Named). is_object_type (kind_in w l.1)) (λ x l h. test_stays is_object_type refl l.1 h) names g.locals e 0 sound.locals;
        automatic = each_kept numbers is_automatic is_automatic (λ x l h. ap not (const_kept numbers l.1) ∙ h) names g.locals e g.params sound.automatic;
        body = ap (λ (y : shape.Sig-F Shape CType Sig). is_sound_body w.target (type_of w f.locals) y.result f.body) out
            ∙ body_numbered v w ids among renumbers g.locals f.locals (locals_kept numbers names g.locals e) (out-Sig s).result g.body speaks sound.body;
      }
