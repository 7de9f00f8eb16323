-- A list of parameters that is `void` alone is spelled by that word.
use Rattle.std.proofs.Common.{◌≡◌, Bool, true, false, List, [], ◌∷◌, ◌++◌, refl, ap, sym, ◌∙◌, subst, arith}
use Rattle.std.proofs.lemmas.Bool.{and_parts}
use Rattle.cc_words.specs.declared.word.Word.{Word}
use Rattle.cc_words.specs.declared.word.Word.TheVariants as w
use Rattle.cc_tree.specs.declared.at.At.{At}
use Rattle.cc_tree.specs.declared.tree.Declr.{Declr}
use Rattle.cc_tree.specs.declared.tree.Param.{Param}
use Rattle.cc_tree.specs.declared.tree.Params as params
use Rattle.cc_tree.specs.declared.tree.Spec as spec
use Rattle.cc_tree.specs.declared.tree.Spec.{Spec}
use Rattle.cc_tree.specs.Height.{heights, height_of_declr, height_of_spec, height_of_param, specs_height}
use Rattle.cc_tree.specs.Scopes.{Scope}
use Rattle.cc_tree.specs.Terms.{is_nothing, is_void, is_void_list, is_only_void, IsSpecs, Specs, IsSpecList, NoSpec, MoreSpecs, IsSpec, AWord, ATypedefName, AnAttr, AStructure, ANamedStructure, AnEnumeration, ANamedEnumeration, IsDeclr, NoName, DeclaredName, DeclrInParens, APointer, AnArray, AnOpenArray, AFunction, IsParams, VoidParams, IsParamList, FirstParam, MoreParams, IsParam, AParam}
use Rattle.cc_tree.specs.Tokens.{Tokens, Span, word, at}
use Rattle.cc_tree.proofs.HeightSteps.{height_of_declr-Nothing, height_of_spec-Word, height_of_param-Param}

void_word : (x : Word) → is_void (spec.Word x) ≡ true → x ≡ w.Void
void_word w.Void h = refl
void_word x h = cc

-- what `void` is spelled by
record OneVoid (s : At Spec) (ts us : Tokens) : Type 0 where
  span : Span
  spelled : ts ≡ word w.Void span ∷ us
  flat : height_of_spec s.node ≡ 0

void_spec : {scope : Scope} {s : At Spec} {ts us : Tokens} → IsSpec scope s ts us → is_void s.node ≡ true → OneVoid s ts us
void_spec (AWord scope x s us k) h = record { span = s; spelled = ap (λ y. word y s ∷ us) (void_word x h); flat = height_of_spec-Word x }
void_spec (ATypedefName scope x s us k) h = cc
void_spec (AnAttr scope a ts us k) h = cc
void_spec (AStructure scope tag ms a b s p q t0 t1 t2 t3 t4 k l n o) h = cc
void_spec (ANamedStructure scope x s p us) h = cc
void_spec (AnEnumeration scope tag es s p q ts us vs ws k l n) h = cc
void_spec (ANamedEnumeration scope x s p us) h = cc

-- lists that a specifier or a parameter ends

no_spec : List (At Spec) → Bool
no_spec [] = true
no_spec (s ∷ ss) = false

behind_some : (ss : List (At Spec)) (s : At Spec) → no_spec (ss ++ s ∷ []) ≡ false
unfolding no_spec
behind_some [] s = refl
behind_some (x ∷ ss) s = refl

nothing_between : {scope : Scope} {ss : List (At Spec)} {ts us : Tokens} → IsSpecList scope ss ts us → no_spec ss ≡ true → ts ≡ us
unfolding no_spec
nothing_between (NoSpec scope ts) h = refl
nothing_between (MoreSpecs scope ss s ts us vs l t) h = let e = behind_some ss s in cc

-- `void` behind these specifiers is alone only where these are none
void_behind : (scope : Scope) (ss : List (At Spec)) (s : At Spec) (ts us vs : Tokens) → IsSpecList scope ss ts us → IsSpec scope s us vs → is_void_list (ss ++ s ∷ []) ≡ true → OneVoid s ts vs × (specs_height (ss ++ s ∷ []) ≡ 0)
unfolding no_spec
void_behind scope [] s ts us vs l t h = let o = void_spec t h in (subst (λ z. OneVoid s z vs) (sym (nothing_between l refl)) o, omega (arith, o.flat))
void_behind scope (x ∷ []) s ts us vs l t h = cc
void_behind scope (x ∷ y ∷ ss) s ts us vs l t h = cc

-- tokens that spell `void` alone
record IsVoid (specs : List (At Spec)) (ts us : Tokens) : Type 0 where
  span : Span
  spelled : ts ≡ word w.Void span ∷ us
  flat : specs_height specs ≡ 0

void_specs : {scope : Scope} {specs : List (At Spec)} {ts us : Tokens} → IsSpecs scope specs ts us → is_void_list specs ≡ true → IsVoid specs ts us
void_specs (Specs scope specs ts us l k n) h = by l h
  where
    by : {scope : Scope} {specs : List (At Spec)} {ts us : Tokens} → IsSpecList scope specs ts us → is_void_list specs ≡ true → IsVoid specs ts us
    by (NoSpec scope ts) h = cc
    by (MoreSpecs scope ss s ts us vs l t) h = let v = void_behind scope ss s ts us vs l t h in record { span = v.0.span; spelled = v.0.spelled; flat = v.1 }

-- no declarator
record IsNone (d : At Declr) (ts us : Tokens) : Type 0 where
  spelled : ts ≡ us
  flat : height_of_declr d.node ≡ 0

nothing : {scope : Scope} {direct : Bool} {d : At Declr} {ts us : Tokens} → IsDeclr scope direct d ts us → is_nothing d.node ≡ true → IsNone d ts us
nothing (NoName scope b ts) h = record { spelled = refl; flat = height_of_declr-Nothing }
nothing (DeclaredName scope b x s us n) h = cc
nothing (DeclrInParens scope b d p q ts us n t) h = cc
nothing (APointer scope qs d p ts us vs q t) h = cc
nothing (AnArray scope b d bound p q ts us vs t u) h = cc
nothing (AnOpenArray scope b d p q ts us t) h = cc
nothing (AFunction scope b d ps p q ts us vs t u) h = cc

-- parameters that are `void` alone
pub record OnlyVoid (scope : Scope) (ps : List (At Param)) (ts us : Tokens) : Type 0 where
  pub spelled : IsParams scope params.Void ts us
  pub flat : heights height_of_param ps ≡ 0

void_param : {scope : Scope} {p : At Param} {ts us : Tokens} → IsParam scope p ts us → is_only_void (p ∷ []) ≡ true → OnlyVoid scope (p ∷ []) ts us
void_param (AParam scope specs d ts us vs s t) h = let a = and_parts (is_void_list specs) (is_nothing d.node) h in both (void_specs s a.0) (nothing t a.1)
  where
    both : IsVoid specs ts us → IsNone d us vs → OnlyVoid scope (at ts (record { specs = specs; declr = d }) ∷ []) ts vs
    both v n = record {
      spelled = subst (λ z. IsParams scope params.Void z vs) (sym (v.spelled ∙ ap (λ z. word w.Void v.span ∷ z) n.spelled)) (VoidParams scope v.span vs);
      flat = omega (arith, height_of_param-Param specs d, v.flat, n.flat);
    }

no_param : List (At Param) → Bool
no_param [] = true
no_param (p ∷ ps) = false

behind_params : (ps : List (At Param)) (p : At Param) → no_param (ps ++ p ∷ []) ≡ false
unfolding no_param
behind_params [] p = refl
behind_params (x ∷ ps) p = refl

some_params : {scope : Scope} {ps : List (At Param)} {ts us : Tokens} → IsParamList scope ps ts us → no_param ps ≡ false
unfolding no_param
some_params (FirstParam scope p ts us t) = refl
some_params (MoreParams scope ps p c ts us vs l t) = behind_params ps p

-- two parameters are not `void` alone
not_alone : (ps : List (At Param)) (p : At Param) → no_param ps ≡ false → is_only_void (ps ++ p ∷ []) ≡ false
unfolding no_param
not_alone [] p h = cc
not_alone (x ∷ []) p h = refl
not_alone (x ∷ y ∷ ps) p h = refl

pub only_void-sound : {scope : Scope} {ps : List (At Param)} {ts us : Tokens} → IsParamList scope ps ts us → is_only_void ps ≡ true → OnlyVoid scope ps ts us
only_void-sound (FirstParam scope p ts us t) h = void_param t h
only_void-sound (MoreParams scope ps p c ts us vs l t) h = let e = not_alone ps p (some_params l) in cc
