-- The types of a sound program's locals, objects and members are those of objects, and members have names of their own.
use Rattle.std.proofs.Common.{◌≡◌, ℕ, zero, suc, Bool, true, false, ◌&&◌, ◌||◌, List, [], ◌∷◌, ◌++◌, length, Option, Some, None, refl, ap, sym, ◌∙◌, subst, slice_get}
use Rattle.std.specs.List.{list_all}
use Rattle.std.specs.Option.{is_some}
use Rattle.cc_program.specs.CcNum.declared.target.Target.{Target}
use Rattle.cc_operand_types.proofs.Members.{members_stand}
use Rattle.cc_operand_types.specs.Typed.{is_pointed_kind}
use Rattle.cc_program.specs.declared.func.Func.{Func}
use Rattle.cc_program.specs.declared.program.Program.{Program}
use Rattle.cc_program.specs.declared.types.CType.{CType}
use Rattle.cc_program.specs.declared.types.Shape.{Shape, out-Shape}
use Rattle.cc_program.specs.declared.types.Shape.TheOpen as shape
use Rattle.cc_program.specs.declared.types.Sig.{Sig}
use Rattle.cc_program.specs.declared.types.Structure.{Structure}
use Rattle.cc_terms.specs.CcSyntax.Kinds.{Kind, IsVoid, qualified_kind}
use Rattle.cc_terms.specs.CcSyntax.Programs.{kind_in}
use Rattle.cc_terms.specs.CcSyntax.Names.{are_names, local_names}
use Rattle.cc_terms.specs.CcSyntax.SameTypes.{is_void_shape}
use Rattle.cc_terms.specs.CcSyntax.Sound.{IsSound, IsFunc, is_local, is_object, have_ids, is_member, is_structure, are_structures}
use Rattle.cc_terms.proofs.CcSyntax.Parts.{all_at}
use Rattle.cc_terms.proofs.CcSyntax.Prefixes.{both_true}
use Rattle.cc_shown_expressions.specs.KnownNames.{TypesStand}
use Rattle.cc_shown_expressions.proofs.Standing.{kind-at}

pub tested-at : {A : Type 0} → (test : A → Bool) (xs : List A) (i : ℕ) (x : A) → list_all test xs ≡ true → slice_get xs i ≡ Some x → test x ≡ true
tested-at test [] i x h e = absurd (cc)
tested-at test (y ∷ ys) zero x h e = let k : y ≡ x = cc in subst (λ z. test z ≡ true) k (both_true (test y) (list_all test ys) h).0
tested-at test (y ∷ ys) (suc i) x h e = tested-at test ys i x (both_true (test y) (list_all test ys) h).1 e

structure-at : (before rest : List Structure) (count : ℕ) (target : Target) (i : ℕ) (s : Structure) → slice_get rest i ≡ Some s → are_structures before count target rest ≡ true → are_names (local_names s.members) ≡ true
structure-at before [] count target i s e h = absurd (cc)
structure-at before (r ∷ rest) count target zero s e h =
    let k : r ≡ s = cc in
    let q = (both_true (is_structure before count target r) (are_structures (before ++ r ∷ []) count target rest) h).0 in
    let g = (both_true (have_ids (length r.members)) (are_names (local_names r.members) && list_all (is_member before count target) r.members) q).1 in
    subst (λ (z : Structure). are_names (local_names z.members) ≡ true) k (both_true (are_names (local_names r.members)) (list_all (is_member before count target) r.members) g).0
structure-at before (r ∷ rest) count target (suc i) s e h =
    structure-at (before ++ r ∷ []) rest count target i s e (both_true (is_structure before count target r) (are_structures (before ++ r ∷ []) count target rest) h).1

module _ (p : Program) where
  some-pointed : (k : Option Kind) → is_pointed_kind false k ≡ true → is_some k ≡ true
  some-pointed None h = absurd (cc)
  some-pointed (Some k) h = refl

  void-kind : (q : Bool) → is_pointed_kind false (qualified_kind q (Some IsVoid)) ≡ true → ⊥
  void-kind true h = cc
  void-kind false h = cc

  no-void : (t : CType) (x : shape.Shape-F Shape CType Sig) → out-Shape t.shape ≡ x → is_pointed_kind false (kind_in p t) ≡ true → is_void_shape x ≡ false
  no-void t shape.Void e h = absurd (void-kind (t.constant || t.volatile) (sym (ap (is_pointed_kind false) (kind-at p t shape.Void e)) ∙ h))
  no-void t (shape.Int i) e h = refl
  no-void t (shape.Pointer to) e h = refl
  no-void t (shape.Array of n) e h = refl
  no-void t (shape.Struct i) e h = refl
  no-void t (shape.Func s) e h = refl

  pub types-stand : IsSound p → (i : ℕ) (f : Func) → slice_get p.funcs i ≡ Some f → TypesStand p f
  types-stand sound i f there = record {
    locals = λ j l e. tested-at (is_local p) f.locals j l (all_at (IsFunc p) p.funcs i f there sound.funcs).locals e;
    objects = λ j o e. tested-at (is_object p) p.objects j o sound.objects e;
    members = λ j k s m e g.
        let h : is_pointed_kind false (kind_in p m.1) ≡ true = members_stand p sound.structures j s k m e g in
        (no-void m.1 (out-Shape m.1.shape) refl h, some-pointed (kind_in p m.1) h);
    names = λ j s e. structure-at [] p.structures (length p.structures) p.target j s e sound.structures;
  }
