-- In a typed program each member of a structure may be designated, whatever its names are.
use Rattle.std.proofs.Common.{◌≡◌, ℕ, zero, suc, Bool, true, false, ◌&&◌, nat_lt, List, [], ◌∷◌, ◌++◌, length, take, Option, Some, None, unwrap_or, slice_get, refl, ap, sym, ◌∙◌, subst, append_assoc, append-nil}
use Rattle.std.specs.Prelude.{if◌then◌else◌}
use Rattle.std.specs.List.{list_all}
use Rattle.cc_program.specs.CcNum.declared.target.Target.{Target}
use Rattle.cc_operands.specs.Qualified.{plain}
use Rattle.cc_operand_types.specs.Typed.{is_pointed_kind, MembersStand}
use Rattle.cc_eval.specs.CcSyntax.Views.{of_program}
use Rattle.cc_program.specs.declared.program.Program.{Program}
use Rattle.cc_program.specs.declared.types.CType.{CType}
use Rattle.cc_program.specs.declared.types.Shape.{Struct}
use Rattle.cc_program.specs.declared.types.Shape.TheVariants.{outs-Struct}
use Rattle.cc_program.specs.declared.types.Structure.{Structure}
use Rattle.cc_eval.specs.CcSyntax.Kinds.{Kind, IsVoid, IsScalar, IsStructure, IsArray, IsIncomplete, IsFunction, is_object_type, kind_of, extent_with, extent_in}
use Rattle.cc_eval.specs.CcSyntax.Layout.{nothing, shape_layout, layouts, layout_of}
use Rattle.cc_eval.specs.CcSyntax.Names.{local_names}
use Rattle.cc_eval.specs.CcSyntax.Sound.{any_names, is_member, is_structure_by, have_ids, are_structures_by}
use Rattle.cc_eval.specs.CcSyntax.Types.{has_members, complete_shape}
use Rattle.cc_eval.specs.CcSyntax.declared.sizes.Layout.{Layout}
use Rattle.cc_eval.proofs.CcSyntax.Prefixes.{both_true, get_taken, layout-taken}
use Rattle.cc_eval.proofs.CcSyntax.TypeLayouts.{parts_layout, layout-opens, parts_complete, complete-opens}
use Rattle.cc_operand_types.specs.Later.{Grow, Later, Same, Completed}
use Rattle.cc_operand_types.proofs.LaterKinds.{kind_stays}

-- ---- a structure in front is the same over all

module _ (structures : List Structure) (target : Target) (n : ℕ) where
  abbrev front : List Structure
  front = take n structures

  front_members : (i : ℕ) (o : Option Structure) → slice_get front i ≡ o → has_members o ≡ true → has_members (slice_get structures i) ≡ true
  front_members i None e h = absurd (cc)
  front_members i (Some s) e h = ap has_members (get_taken structures n i s e).1 ∙ h

  layout_at : (all : List Structure) (i : ℕ) → layout_of (plain (Struct i)) all target ≡ unwrap_or (slice_get (layouts target all) i) nothing
  layout_at all i = layout-opens target (layouts target all) (plain (Struct i)) ∙ ap (λ x. shape_layout target (layouts target all) (parts_layout target (layouts target all) x)) (outs-Struct i)

  size_same : (i : ℕ) → has_members (slice_get front i) ≡ true → (unwrap_or (slice_get (layouts target front) i) nothing).size ≡ (unwrap_or (slice_get (layouts target structures) i) nothing).size
  size_same i h =
      ap (λ (l : Layout). l.size) (sym (layout_at front i) ∙ layout-taken target structures n (plain (Struct i))
      (complete-opens front (plain (Struct i)) ∙ ap (λ x. complete_shape front (parts_complete front x)) (outs-Struct i) ∙ h) ∙ layout_at structures i)

  some_size : (a b : ℕ) → Some (Some a) ≡ Some (Some b) → a ≡ b
  some_size a b h = cc

  complete_by : (i m : ℕ) (b c : Bool) → has_members (slice_get front i) ≡ b →
      (if b then Some (Some (unwrap_or (slice_get (layouts target front) i) nothing).size) else (if c then Some None else None)) ≡ Some (Some m) → extent_in structures target i ≡ Some (Some m)
  complete_by i m true c e h =
      ap (λ (b : Bool). if b then Some (Some (unwrap_or (slice_get (layouts target structures) i) nothing).size) else (if nat_lt i (length structures) then Some None else None)) (front_members i (slice_get front i) refl e)
      ∙ ap (λ (k : ℕ). Some (Some k)) (sym (size_same i e) ∙ some_size (unwrap_or (slice_get (layouts target front) i) nothing).size m h)
  complete_by i m false true e h = absurd (cc)
  complete_by i m false false e h = absurd (cc)

  named_by : (a : Bool) (k : ℕ) → (x : Option ℕ) × ((if a then Some (Some k) else Some None) ≡ Some x)
  named_by true k = (Some k, refl)
  named_by false k = (None, refl)

  there_by : (i : ℕ) (b c : Bool) (k : ℕ) → nat_lt i (length structures) ≡ c → (if b then Some (Some k) else (if c then Some None else None)) ≡ Some None → (x : Option ℕ) × (extent_in structures target i ≡ Some x)
  there_by i true c k e h = absurd (cc)
  there_by i false false k e h = absurd (cc)
  there_by i false true k e h =
      let size = (unwrap_or (slice_get (layouts target structures) i) nothing).size in
      let x = named_by (has_members (slice_get structures i)) size in
      (x.0, ap (λ (c : Bool). if has_members (slice_get structures i) then Some (Some size) else (if c then Some None else None)) e ∙ x.1)

  front_grows : Grow (extent_with front (length structures) target) (extent_in structures target)
  front_grows = record {
    complete = λ i m h. complete_by i m (has_members (slice_get front i)) (nat_lt i (length structures)) refl h;
    there = λ i h. there_by i (has_members (slice_get front i)) (nat_lt i (length structures)) (unwrap_or (slice_get (layouts target front) i) nothing).size refl h;
  }

-- ---- members

tested_at : (before rest : List Structure) (count : ℕ) (target : Target) (i : ℕ) (s : Structure) → slice_get rest i ≡ Some s → are_structures_by any_names before count target rest ≡ true → is_structure_by any_names (before ++ take i rest) count target s ≡ true
tested_at before [] count target i s e h = absurd (cc)
tested_at before (r ∷ rest) count target zero s e h =
    let k : r ≡ s = cc in
    let q = (both_true (is_structure_by any_names before count target r) (are_structures_by any_names (before ++ r ∷ []) count target rest) h).0 in
    subst (λ b. is_structure_by any_names b count target s ≡ true) (sym (append-nil before)) (subst (λ z. is_structure_by any_names before count target z ≡ true) k q)
tested_at before (r ∷ rest) count target (suc i) s e h =
    let q = (both_true (is_structure_by any_names before count target r) (are_structures_by any_names (before ++ r ∷ []) count target rest) h).1 in
    subst (λ b. is_structure_by any_names b count target s ≡ true) (append_assoc before (r ∷ []) (take i rest)) (tested_at (before ++ r ∷ []) rest count target i s e q)

member_at : {A : Type 0} (test : A → Bool) (xs : List A) (i : ℕ) (x : A) → list_all test xs ≡ true → slice_get xs i ≡ Some x → test x ≡ true
member_at test [] i x h e = absurd (cc)
member_at test (y ∷ xs) zero x h e = let k : y ≡ x = cc in subst (λ z. test z ≡ true) k (both_true (test y) (list_all test xs) h).0
member_at test (y ∷ xs) (suc i) x h e = member_at test xs i x (both_true (test y) (list_all test xs) h).1 e

object_later : (k l : Kind) → Later k l → is_object_type (Some k) ≡ true → is_pointed_kind false (Some l) ≡ true
object_later _ _ (Same IsVoid) h = absurd (cc)
object_later _ _ (Same (IsScalar q n)) h = refl
object_later _ _ (Same (IsStructure n)) h = refl
object_later _ _ (Same (IsArray n)) h = refl
object_later _ _ (Same IsIncomplete) h = refl
object_later _ _ (Same IsFunction) h = absurd (cc)
object_later _ _ (Completed n) h = refl

object_by : (structures : List Structure) (target : Target) (n : ℕ) (t : CType) (o : Option Kind) → kind_of target (extent_with (take n structures) (length structures) target) t ≡ o → is_object_type o ≡ true → is_pointed_kind false (kind_of target (extent_in structures target) t) ≡ true
object_by structures target n t None e h = absurd (cc)
object_by structures target n t (Some k) e h =
    let l = kind_stays target (extent_with (take n structures) (length structures) target) (extent_in structures target) (front_grows structures target n) t k e in
    ap (is_pointed_kind false) l.1 ∙ object_later k l.0 l.2 h

pub typed_members_stand : (p : Program) → are_structures_by any_names [] (length p.structures) p.target p.structures ≡ true → MembersStand (of_program p)
typed_members_stand p h = λ i s m member e f.
    let n = length p.structures in
    let a = tested_at [] p.structures n p.target i s e h in
    let b = both_true (have_ids (length s.members)) (any_names (local_names s.members) && list_all (is_member (take i p.structures) n p.target) s.members) a in
    let c = both_true (any_names (local_names s.members)) (list_all (is_member (take i p.structures) n p.target) s.members) b.1 in
    let o = member_at (is_member (take i p.structures) n p.target) s.members m member c.1 f in
    object_by p.structures p.target i member.1 (kind_of p.target (extent_with (take i p.structures) n p.target) member.1) refl o
