-- The machine reads every expression, type name, specifier and declarator: a derivation leads it from where the
-- construct is wanted to where it is handed over, whatever waits, over states no higher than the construct.
use Rattle.std.proofs.Common.{◌≡◌, ◌≤◌, ℕ, suc, Bool, true, false, ◌&&◌, not, List, [], Some, None, refl, ap, ◌∙◌, arith, max}
use Rattle.cc_lex.specs.declared.token.Mark.TheVariants as m
use Rattle.cc_tree.specs.declared.at.At.{At}
use Rattle.cc_tree.specs.declared.state.Frame.{Frame}
use Rattle.cc_tree.specs.declared.tree.Declr.{Declr}
use Rattle.cc_tree.specs.declared.tree.Enumr.{Enumr}
use Rattle.cc_tree.specs.declared.tree.MemberDecl.{MemberDecl}
use Rattle.cc_tree.specs.declared.tree.Param.{Param}
use Rattle.cc_tree.specs.declared.tree.Params as params
use Rattle.cc_tree.specs.declared.tree.Spec.{Spec}
use Rattle.cc_tree.specs.declared.tree.Tree.{Tree}
use Rattle.cc_tree.specs.Height.{height, heights, height_of_declr, height_of_spec, height_of_type, height_of_param, height_of_params, height_of_member, height_of_enumr, specs_height}
use Rattle.cc_tree.specs.Reading.{after}
use Rattle.cc_tree.specs.ReadTypes.{begins_attr}
use Rattle.cc_tree.specs.Scopes.{Scope}
use Rattle.cc_tree.specs.Terms.{IsTree, AName, ANumber, ACharacter, AText, InParens, ASubscript, ACall, ACallOfNone, AMember, AnArrow, APostfix, APrefix, ASizeOf, ASizeOfType, AnExtension, ACast, ABinary, AChoice, AnAssignment, AComma, IsArgs, FirstArg, MoreArgs, ATypeName, IsSpecs, Specs, IsSpecList, NoSpec, MoreSpecs, IsSpec, AWord, ATypedefName, AnAttr, AStructure, ANamedStructure, AnEnumeration, ANamedEnumeration, IsMembers, FirstMember, MoreMembers, IsMember, AMemberDecl, IsDeclrs, FirstDeclr, MoreDeclrs, IsEnumrs, FirstEnumr, MoreEnumrs, IsEnumr, AnEnumr, AValuedEnumr, IsDeclr, NoName, DeclaredName, DeclrInParens, APointer, AnArray, AnOpenArray, AFunction, NoParams, VoidParams, ManyParams, IsParamList, FirstParam, MoreParams, IsParam, AParam, is_attr, ends_structure}
use Rattle.cc_tree.specs.Tokens.{Tokens}
use Rattle.cc_tree.specs.TurnTypes.{attrs_apart, params_by}
use Rattle.cc_tree.proofs.Apart.{apart-tested}
use Rattle.cc_tree.proofs.Begins.{starts, tree-start, not-after, tree-begins, parens-apart, args-start, spec-not-after, spec-begins, specs-begin, specs-start, declr-closes, declr-specs-kept, declr-qualifiers, declr-starts, params-begin, no-brace-enumr, some-members, ends_last, ends-behind, apart-behind, attr-between, declrs-specs, no-attr, no-qualifier, closes-spec, last-ends, last-unassigned, comma-unassigned, structure-ends}
use Rattle.cc_tree.proofs.CompleteTrees as trees
use Rattle.cc_tree.proofs.CompleteTrees.{Reads, Handed, handed, ReadsArgs, ReadsType}
use Rattle.cc_tree.proofs.CompleteTypes as types
use Rattle.cc_tree.proofs.CompleteTypes.{no-brace, ReadsDeclr, DeclrRead, reads-declr, ReadsSpecList, ReadsSpecs, ReadsSpec, ReadsParam, ReadsParams, ReadsMembers, ReadsMember, ReadsDeclrs, ReadsEnumrs, ReadsEnumr}
use Rattle.cc_tree.proofs.GoesOn.{goes_on, goes_on_declr, goes_on_specs}
use Rattle.cc_tree.proofs.HeightSteps as high

mutual
  reads : {limit : ℕ} {scope : Scope} {l : ℕ} {e : At Tree} {ts us : Tokens} → IsTree scope l e ts us → height e.node ≤ limit → Reads limit scope l e ts us
  reads (AName scope l x s us i) h = trees.reads-Name l x s us i
  reads (ANumber scope l n f s us) h = trees.reads-Number l n f s us
  reads (ACharacter scope l c s us) h = trees.reads-Character l c s us
  reads (AText scope l b ts us d) h = trees.reads-Text l b ts us d
  reads (InParens scope l e p q ts us d) h =
      let i : suc (height e.node) ≤ _ = rw (high.height-Paren e) at h in trees.reads-Paren l e p q ts us (reads d (omega (arith, i))) (tree-begins d) i
  reads (ASubscript scope l a i p q ts us vs j d k) h =
      let g : suc (max (height a.node) (height i.node)) ≤ _ = rw (high.height-Subscript a i) at h in
      trees.reads-Subscript l a i p q ts us vs (starts d) (reads d (omega (arith, g))) (reads k (omega (arith, g))) g
  reads (ACall scope l f es p q ts us vs j d k) h =
      let g : suc (max (height f.node) (heights height es)) ≤ _ = rw (high.height-Call f es) at h in
      trees.reads-Call l f es p q ts us vs (starts d) (not-after m.RParen us refl (args-start k)) (reads d (omega (arith, g))) (reads_args k (omega (arith, g)) refl) g
  reads (ACallOfNone scope l f p q ts us j d) h =
      let g : suc (max (height f.node) 0) ≤ _ = rw (high.height-Call f []) at h in
      trees.reads-CallOfNone l f p q ts us (starts d) (reads d (omega (arith, g))) (omega (arith, g))
  reads (AMember scope l e x p s ts us j d) h =
      let g : suc (height e.node) ≤ _ = rw (high.height-Member e x) at h in trees.reads-Member l e x p s ts us (starts d) (reads d (omega (arith, g))) g
  reads (AnArrow scope l e x p s ts us j d) h =
      let g : suc (height e.node) ≤ _ = rw (high.height-Arrow e x) at h in trees.reads-Arrow l e x p s ts us (starts d) (reads d (omega (arith, g))) g
  reads (APostfix scope l e o p ts us j i d) h =
      let g : suc (height e.node) ≤ _ = rw (high.height-Postfix e o) at h in trees.reads-Postfix l e o p ts us i (starts d) (reads d (omega (arith, g))) g
  reads (APrefix scope l k o e p ts us j i d) h =
      let g : suc (height e.node) ≤ _ = rw (high.height-Prefix o e) at h in trees.reads-Prefix l k o e p ts us j i (reads d (omega (arith, g))) g
  reads (ASizeOf scope l e p ts us j d) h =
      let g : suc (height e.node) ≤ _ = rw (high.height-SizeOf e) at h in trees.reads-SizeOf l e p ts us j (parens-apart d (omega arith)) (reads d (omega (arith, g))) g
  reads (AnExtension scope l e p ts us j d) h =
      let g : suc (height e.node) ≤ _ = rw (high.height-Extension e) at h in trees.reads-Extension l e p ts us j (reads d (omega (arith, g))) g
  reads (ASizeOfType scope l t s p q ts us j (ATypeName _ ss c _ ws _ d k n)) h =
      let g : suc (height_of_type (record { specs = ss; declr = c })) ≤ _ = rw (high.height-SizeOfType (record { specs = ss; declr = c })) at h in
      let i : suc (max (specs_height ss) (height_of_declr c.node)) ≤ _ = rw (high.height_of_type-TypeName ss c) at g in
      trees.reads-SizeOfType l (record { specs = ss; declr = c }) s p ts us j (specs-begin d)
      (types.reads-TypeName ss c q ts ws us (reads_specs d (omega (arith, i)) (declr-specs-kept k refl)) (reads-declr (reads_declr k (omega (arith, i))) refl (omega (arith, i))) n) g
  reads (ACast scope l t e p q ts us vs j (ATypeName _ ss c _ ws _ d k n) f) h =
      let g : suc (max (height_of_type (record { specs = ss; declr = c })) (height e.node)) ≤ _ = rw (high.height-Cast (record { specs = ss; declr = c }) e) at h in
      let i : suc (max (max (specs_height ss) (height_of_declr c.node)) (height e.node)) ≤ _ = rw (high.height_of_type-TypeName ss c) at g in
      trees.reads-Cast l (record { specs = ss; declr = c }) e p ts us vs j (specs-begin d)
      (types.reads-TypeName ss c q ts ws us (reads_specs d (omega (arith, i)) (declr-specs-kept k refl)) (reads-declr (reads_declr k (omega (arith, i))) refl (omega (arith, i))) n)
      (reads f (omega (arith, g))) g
  reads (ABinary scope l k o a b p ts us vs j i d f) h =
      let g : suc (max (height a.node) (height b.node)) ≤ _ = rw (high.height-Binary o a b) at h in
      trees.reads-Binary l k o a b p ts us vs j i (starts d) (reads d (omega (arith, g))) (reads f (omega (arith, g))) g
  reads (AChoice scope l c a b p q ts us vs ws j d f i) h =
      let g : suc (max (height c.node) (max (height a.node) (height b.node))) ≤ _ = rw (high.height-Choose c a b) at h in
      trees.reads-Choice l c a b p q ts us vs ws j (starts d) (reads d (omega (arith, g))) (reads f (omega (arith, g))) (reads i (omega (arith, g))) g
  reads (AnAssignment scope l o a b p ts us vs j i d f) h =
      let g : suc (max (height a.node) (height b.node)) ≤ _ = rw (high.height-Assign o a b) at h in
      trees.reads-Assignment l o a b p ts us vs j i (starts d) (reads d (omega (arith, g))) (reads f (omega (arith, g))) g
  reads (AComma scope a b p ts us vs d f) h =
      let g : suc (max (height a.node) (height b.node)) ≤ _ = rw (high.height-Comma a b) at h in
      trees.reads-Comma a b p ts us vs (starts d) (reads d (omega (arith, g))) (reads f (omega (arith, g))) g

  reads_args : {limit : ℕ} {scope : Scope} {es : List (At Tree)} {ts us : Tokens} → IsArgs scope es ts us → heights height es ≤ limit → goes_on 1 us ≡ false → ReadsArgs limit scope es ts us
  reads_args (FirstArg scope e ts us d) h g = trees.reads-FirstArg e ts us (reads d (rw (high.heights-first height e) at h)) g (rw (high.heights-first height e) at h)
  reads_args (MoreArgs scope es e c ts us vs ds d) h g =
      let i : max (heights height es) (height e.node) ≤ _ = rw (high.heights-behind height es e) at h in
      trees.reads-MoreArgs es e c ts us vs (reads_args ds (omega (arith, i)) refl) (reads d (omega (arith, i))) g (omega (arith, i))

  reads_specs : {limit : ℕ} {scope : Scope} {ss : List (At Spec)} {ts us : Tokens} → IsSpecs scope ss ts us → specs_height ss ≤ limit → goes_on_specs scope us ≡ false → ReadsSpecs limit scope ss ts us
  reads_specs (Specs scope ss ts us d i a) h g = types.reads-Specs ss ts us (reads_spec_list d h (apart-tested ss a) (λ e. no-attr scope us g) (no-brace scope us g)) i (apart-tested ss a) g

  reads_spec_list : {limit : ℕ} {scope : Scope} {ss : List (At Spec)} {ts us : Tokens} → IsSpecList scope ss ts us → specs_height ss ≤ limit → attrs_apart false ss ≡ true →
      (ends_last false ss ≡ true → begins_attr us ≡ false) → after m.LBrace us ≡ None → ReadsSpecList limit scope ss ts us
  reads_spec_list (NoSpec scope ts) h a e b = types.reads-NoSpec ts
  reads_spec_list (MoreSpecs scope ss s ts us vs dl ds) h a e b =
      let i : max (specs_height ss) (height_of_spec s.node) ≤ _ = rw (high.heights-behind height_of_spec ss s) at h in
      let c : (attrs_apart false ss ≡ true) × (not (ends_last false ss && is_attr s.node) ≡ true) = apart-behind false ss s a in
      types.reads-MoreSpecs ss s ts us vs (reads_spec_list dl (omega (arith, i)) c.0 (attr-between (ends_last false ss) ds c.1) (spec-not-after scope m.LBrace us (spec-begins ds)))
      (reads_spec ds (omega (arith, i)) (λ x. e (ends-behind false ss s ∙ x)) b)

  reads_spec : {limit : ℕ} {scope : Scope} {s : At Spec} {ts us : Tokens} → IsSpec scope s ts us → height_of_spec s.node ≤ limit → (ends_structure s.node ≡ true → begins_attr us ≡ false) →
      after m.LBrace us ≡ None → ReadsSpec limit scope s ts us
  reads_spec (AWord scope x s us i) h e b = types.reads-Word x s us i
  reads_spec (ATypedefName scope x s us i) h e b = types.reads-TypedefName x s us i
  reads_spec (AnAttr scope a ts us d) h e b = types.reads-Attr a ts us d
  reads_spec (AStructure scope tag ms a b s p q t0 t1 t2 t3 t4 da dt dm db) h e c =
      let g : heights height_of_member ms ≤ _ = rw (high.height_of_spec-Struct tag ms a b) at h in
      types.reads-Structure tag ms a b s p q t0 t1 t2 t3 t4 da dt (reads_members dm g) (some-members dm) db (e (structure-ends tag ms a b))
  reads_spec (ANamedStructure scope x s p us) h e b = types.reads-NamedStructure x s p us b
  reads_spec (AnEnumeration scope tag es s p q ts us vs ws dt de dl) h e b =
      let g : heights height_of_enumr es ≤ _ = rw (high.height_of_spec-Enum tag es) at h in
      types.reads-Enumeration tag es s p q ts us vs ws dt (reads_enumrs de g (last-ends dl) (last-unassigned dl)) dl
  reads_spec (ANamedEnumeration scope x s p us) h e b = types.reads-NamedEnumeration x s p us b

  reads_members : {limit : ℕ} {scope : Scope} {ds : List (At MemberDecl)} {ts us : Tokens} → IsMembers scope ds ts us → heights height_of_member ds ≤ limit → ReadsMembers limit scope ds ts us
  reads_members (FirstMember scope d ts us k) h = types.reads-FirstMember d ts us (reads_member k (rw (high.heights-first height_of_member d) at h))
  reads_members (MoreMembers scope ds d ts us vs ks k) h =
      let i : max (heights height_of_member ds) (height_of_member d.node) ≤ _ = rw (high.heights-behind height_of_member ds d) at h in
      types.reads-MoreMembers ds d ts us vs (reads_members ks (omega (arith, i))) (reads_member k (omega (arith, i)))

  reads_member : {limit : ℕ} {scope : Scope} {d : At MemberDecl} {ts us : Tokens} → IsMember scope d ts us → height_of_member d.node ≤ limit → ReadsMember limit scope d ts us
  reads_member (AMemberDecl scope ss ds q ts us vs d k) h =
      let i : max (specs_height ss) (heights height_of_declr ds) ≤ _ = rw (high.height_of_member-MemberDecl ss ds) at h in
      types.reads-Member ss ds q ts us vs (spec-not-after scope m.RBrace ts (specs-start d)) (reads_specs d (omega (arith, i)) (declrs-specs k)) (reads_declrs k (omega (arith, i)) refl)

  reads_declrs : {limit : ℕ} {scope : Scope} {ds : List (At Declr)} {ts us : Tokens} → IsDeclrs scope ds ts us → heights height_of_declr ds ≤ limit → goes_on_declr scope us ≡ false → ReadsDeclrs limit scope ds ts us
  reads_declrs (FirstDeclr scope d x ts us k e) h g =
      let i : height_of_declr d.node ≤ _ = rw (high.heights-first height_of_declr d) at h in types.reads-FirstDeclr d x ts us (reads-declr (reads_declr k i) g i) e
  reads_declrs (MoreDeclrs scope ds d x c ts us vs ks k e) h g =
      let i : max (heights height_of_declr ds) (height_of_declr d.node) ≤ _ = rw (high.heights-behind height_of_declr ds d) at h in
      types.reads-MoreDeclrs ds d x c ts us vs (reads_declrs ks (omega (arith, i)) refl) (reads-declr (reads_declr k (omega (arith, i))) g (omega (arith, i))) e

  reads_enumrs : {limit : ℕ} {scope : Scope} {es : List (At Enumr)} {ts us : Tokens} → IsEnumrs scope es ts us → heights height_of_enumr es ≤ limit → goes_on 2 us ≡ false → after m.Assign us ≡ None →
      ReadsEnumrs limit scope es ts us
  reads_enumrs (FirstEnumr scope e ts us k) h g a = types.reads-FirstEnumr e ts us (reads_enumr k (rw (high.heights-first height_of_enumr e) at h) g a)
  reads_enumrs (MoreEnumrs scope es e c ts us vs ks k) h g a =
      let i : max (heights height_of_enumr es) (height_of_enumr e.node) ≤ _ = rw (high.heights-behind height_of_enumr es e) at h in
      types.reads-MoreEnumrs es e c ts us vs (reads_enumrs ks (omega (arith, i)) refl (comma-unassigned c us)) (reads_enumr k (omega (arith, i)) g a) (no-brace-enumr k)

  reads_enumr : {limit : ℕ} {scope : Scope} {e : At Enumr} {ts us : Tokens} → IsEnumr scope e ts us → height_of_enumr e.node ≤ limit → goes_on 2 us ≡ false → after m.Assign us ≡ None → ReadsEnumr limit scope e ts us
  reads_enumr (AnEnumr scope x s us i) h g a = types.reads-Enumr x s us i a
  reads_enumr (AValuedEnumr scope x e s p ts us i d) h g a =
      let j : height e.node ≤ _ = rw (high.height_of_enumr-Enumr x (Some e)) at h in types.reads-ValuedEnumr x e s p ts us i (reads d j) g j

  reads_declr : {limit : ℕ} {scope : Scope} {b : Bool} {d : At Declr} {ts us : Tokens} → IsDeclr scope b d ts us → height_of_declr d.node ≤ limit → DeclrRead limit scope b d ts us
  reads_declr (NoName scope b ts) h = types.reads-NoName b ts
  reads_declr (DeclaredName scope b x s us i) h = types.reads-DeclaredName b x s us i
  reads_declr (DeclrInParens scope b d p q ts us n k) h =
      let g : suc (height_of_declr d.node) ≤ _ = rw (high.height_of_declr-Paren d) at h in
      types.reads-DeclrInParens b d p q ts us n (declr-closes k n) (reads-declr (reads_declr k (omega (arith, g))) refl (omega (arith, g))) g
  reads_declr (APointer scope qs d p ts us vs q k) h =
      let g : suc (height_of_declr d.node) ≤ _ = rw (high.height_of_declr-Pointer qs d) at h in
      types.reads-Pointer qs d p ts us vs q (λ e. declr-qualifiers k (no-qualifier scope vs e)) (λ e. reads-declr (reads_declr k (omega (arith, g))) e (omega (arith, g))) g
  reads_declr (AnArray scope b d i p q ts us vs k t) h =
      let g : suc (max (height_of_declr d.node) (height i.node)) ≤ _ = rw (high.height_of_declr-Array d i) at h in
      types.reads-Array b d i p q ts us vs (declr-starts k) (not-after m.RBracket us refl (tree-start t)) (reads_declr k (omega (arith, g))) (reads t (omega (arith, g))) g
  reads_declr (AnOpenArray scope b d p q ts us k) h =
      let g : suc (height_of_declr d.node) ≤ _ = rw (high.height_of_declr-OpenArray d) at h in
      types.reads-OpenArray b d p q ts us (declr-starts k) (reads_declr k (omega (arith, g))) g
  reads_declr (AFunction scope b d ps p q ts us vs k (NoParams _ _)) h =
      let g : suc (max (height_of_declr d.node) (height_of_params params.Empty)) ≤ _ = rw (high.height_of_declr-Func d params.Empty) at h in
      types.reads-EmptyFunction b d p q ts vs (declr-starts k) (reads_declr k (omega (arith, g))) (omega (arith, g))
  reads_declr (AFunction scope b d ps p q ts us vs k (VoidParams _ s _)) h =
      let g : suc (max (height_of_declr d.node) (height_of_params params.Void)) ≤ _ = rw (high.height_of_declr-Func d params.Void) at h in
      types.reads-VoidParams b d p s q ts vs (declr-starts k) (reads_declr k (omega (arith, g))) (omega (arith, g))
  reads_declr (AFunction scope b d ps p q ts us vs k (ManyParams _ qs _ _ n dl)) h =
      let g : suc (max (height_of_declr d.node) (height_of_params (params.Many qs))) ≤ _ = rw (high.height_of_declr-Func d (params.Many qs)) at h in
      let i : suc (max (height_of_declr d.node) (heights height_of_param qs)) ≤ _ = rw (high.height_of_params-Many qs) at g in
      types.reads-Function b d qs (params.Many qs) p q ts us vs (declr-starts k) (closes-spec scope us (params-begin dl)) (spec-not-after scope m.RParen us (params-begin dl)) (reads_declr k (omega (arith, i)))
      (reads_param_list dl (omega (arith, i)) refl refl) (ap (params_by qs) n) (high.height_of_params-Many qs) i

  reads_param_list : {limit : ℕ} {scope : Scope} {ps : List (At Param)} {ts us : Tokens} → IsParamList scope ps ts us → heights height_of_param ps ≤ limit → goes_on_declr scope us ≡ false → goes_on_specs scope us ≡ false →
      ReadsParams limit scope ps ts us
  reads_param_list (FirstParam scope p ts us d) h g f = types.reads-FirstParam p ts us (reads_param d (rw (high.heights-first height_of_param p) at h) g f)
  reads_param_list (MoreParams scope ps p c ts us vs ds d) h g f =
      let i : max (heights height_of_param ps) (height_of_param p.node) ≤ _ = rw (high.heights-behind height_of_param ps p) at h in
      types.reads-MoreParams ps p c ts us vs (reads_param_list ds (omega (arith, i)) refl refl) (reads_param d (omega (arith, i)) g f)

  reads_param : {limit : ℕ} {scope : Scope} {p : At Param} {ts us : Tokens} → IsParam scope p ts us → height_of_param p.node ≤ limit → goes_on_declr scope us ≡ false → goes_on_specs scope us ≡ false → ReadsParam limit scope p ts us
  reads_param (AParam scope ss d ts us vs k n) h g f =
      let i : max (specs_height ss) (height_of_declr d.node) ≤ _ = rw (high.height_of_param-Param ss d) at h in
      types.reads-Param ss d ts us vs (reads_specs k (omega (arith, i)) (declr-specs-kept n f)) (reads-declr (reads_declr n (omega (arith, i))) g (omega (arith, i)))

-- an expression of this level is read, and handed over
pub tree : {limit : ℕ} {scope : Scope} {l : ℕ} {e : At Tree} {ts us : Tokens} → IsTree scope l e ts us → l ≤ 14 → height e.node ≤ limit → goes_on l us ≡ false → (fs : List Frame) → Handed limit scope l fs e ts us
tree d i h g fs = handed fs (reads d h) h i g

pub specs : {limit : ℕ} {scope : Scope} {ss : List (At Spec)} {ts us : Tokens} → IsSpecs scope ss ts us → specs_height ss ≤ limit → goes_on_specs scope us ≡ false → ReadsSpecs limit scope ss ts us
specs d h g = reads_specs d h g

pub declr : {limit : ℕ} {scope : Scope} {d : At Declr} {ts us : Tokens} → IsDeclr scope false d ts us → height_of_declr d.node ≤ limit → goes_on_declr scope us ≡ false → ReadsDeclr limit scope d ts us
declr d h g = reads-declr (reads_declr d h) g h
