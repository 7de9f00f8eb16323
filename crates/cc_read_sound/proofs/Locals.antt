-- The locals of a function that is defined: its parameters, with the types of its signature but for qualifiers, and the automatic objects of its body without their const.
use Rattle.std.proofs.Common.{◌≡◌, ℕ, zero, suc, Bool, true, false, not, ◌&&◌, List, [], ◌∷◌, ◌++◌, length, map, refl, ap, sym, ◌∙◌, subst}
use Rattle.std.specs.Prelude.{drop}
use Rattle.std.specs.List.{list_all}
use Rattle.cc_type.specs.CcOperands.Qualified.{unqualified}
use Rattle.cc_program.proofs.Each.{Each}
use Rattle.cc_program.specs.declared.types.CType.{CType, fold_out-CType}
use Rattle.cc_program.specs.declared.types.Shape.{Shape}
use Rattle.cc_program.specs.declared.types.Sig.{Sig}
use Rattle.cc_sound_declarations.proofs.Unconst.{object_stays}
use Rattle.cc_read_sound.proofs.Consts.{object_unconst}
use Rattle.cc_sound_declarations.specs.Declaring.{AreObjects, lowered, unconst}
use Rattle.cc_type.specs.CcSpecifiers.declared.derivation.Parameter.{Parameter}
use Rattle.cc_type.proofs.CcSyntax.Prefixes.{both_true}
use Rattle.cc_type.proofs.CcSyntax.SameLemmas.{compared}
use Rattle.cc_type.specs.CcSyntax.Kinds.{is_object_type}
use Rattle.cc_type.specs.CcSyntax.SameTypes.{Comparison, comparison_of, compare_shape, compare_sig, compare_type, same_flag, same_shape, same_sig, shape_comparison}
use Rattle.cc_type.specs.CcSyntax.Sound.{are_parameters, is_automatic}
use Rattle.cc_type.specs.CcSyntax.Types.{Named}
use Rattle.cc_type.specs.CcSyntax.Views.{View, kind_in}
use Rattle.cc_type.specs.Functions.{local_of, locals_of}

and_true : (a b : Bool) → a ≡ true → b ≡ true → a && b ≡ true
and_true true b h k = k
and_true false b h k = absurd (cc)

-- ---- parameters

same_itself : (t : CType) → same_shape t.shape t.shape ≡ true
unfolding shape_comparison comparison_of same_sig
same_itself t =
    let o = ap (λ (c : Comparison CType). c.same t) (fold_out-CType (Comparison Shape) (Comparison CType) (Sig → Bool) compare_shape compare_type compare_sig t) in
    (both_true (same_flag t.volatile t.volatile) (same_shape t.shape t.shape) (both_true (same_flag t.constant t.constant) (same_flag t.volatile t.volatile && same_shape t.shape t.shape) (sym o ∙ (compared t).itself)).1).1

pub parameters_first : (ps : List Parameter) (more : List Named) → are_parameters (map (λ (p : Parameter). unqualified p.ctype) ps) (locals_of ps ++ more) ≡ true
parameters_first [] more = refl
parameters_first (p ∷ ps) more = and_true (same_shape p.ctype.shape p.ctype.shape) (are_parameters (map (λ (p : Parameter). unqualified p.ctype) ps) (locals_of ps ++ more)) (same_itself p.ctype) (parameters_first ps more)

pub parameters_lowered : (ps : List Parameter) (more : List Named) → lowered (length ps) (locals_of ps ++ more) ≡ locals_of ps ++ map unconst more
parameters_lowered [] more = refl
parameters_lowered (p ∷ ps) more = ap (λ (ls : List Named). local_of p ∷ ls) (parameters_lowered ps more)

pub parameters_behind : (ps : List Parameter) (more : List Named) → drop (length (locals_of ps)) (locals_of ps ++ more) ≡ more
parameters_behind [] more = refl
parameters_behind (p ∷ ps) more = parameters_behind ps more

-- ---- objects

module _ (v : View) where
  is_local : Named → Bool
  is_local l = is_object_type (kind_in v l.1)

  plain_locals : (ls : List Named) → AreObjects v ls → list_all (λ (l : Named). is_object_type (kind_in v l.1)) (map unconst ls) ≡ true
  plain_locals [] h = refl
  plain_locals (l ∷ ls) h =
      and_true (is_object_type (kind_in v (unconst l).1)) (list_all (λ (l : Named). is_object_type (kind_in v l.1)) (map unconst ls)) (object_stays v l.1 h.0) (plain_locals ls h.1)

  pub lowered_locals : (k : ℕ) (ls : List Named) → AreObjects v ls → list_all (λ (l : Named). is_object_type (kind_in v l.1)) (lowered k ls) ≡ true
  lowered_locals zero ls h = plain_locals ls h
  lowered_locals (suc k) [] h = refl
  lowered_locals (suc k) (l ∷ ls) h =
      and_true (is_object_type (kind_in v l.1)) (list_all (λ (l : Named). is_object_type (kind_in v l.1)) (lowered k ls)) h.0 (lowered_locals k ls h.1)

  pub plain_automatic : (ls : List Named) → AreObjects v ls → list_all is_automatic (map unconst ls) ≡ true
  plain_automatic [] h = refl
  plain_automatic (l ∷ ls) h = and_true (is_automatic (unconst l)) (list_all is_automatic (map unconst ls)) (ap not (object_unconst v l.1 h.0)) (plain_automatic ls h.1)

  pub objects_behind : (front ls : List Named) → AreObjects v (front ++ ls) → AreObjects v ls
  objects_behind [] ls h = h
  objects_behind (l ∷ front) ls h = objects_behind front ls h.1
