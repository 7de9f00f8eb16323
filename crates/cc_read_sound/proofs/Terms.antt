-- Expressions, types and declarators that are spelled by tokens whose numbers fit: theirs fit, and so do those of the tokens behind them. By induction over how they are spelled.
use Rattle.std.proofs.Common.{◌≡◌, ℕ, ◌^◌, Bool, true, ◌&&◌, List, [], Option, Some, refl, ◌∙◌}
use Rattle.std.specs.Prelude.{nat_lt}
use Rattle.cc_type.proofs.CcSyntax.Prefixes.{both_true}
use Rattle.cc_type.proofs.CcSyntax.SameLemmas.{and_true}
use Rattle.cc_program.specs.CcWords.declared.word.Word.{Word}
use Rattle.cc_sound_terms.specs.Ranges.{fits, declr_in_range, params_in_range, spec_in_range, enumr_in_range, members_in_range, param_in_range, type_name_in_range}
use Rattle.cc_tree.specs.Scopes.{Scope}
use Rattle.cc_tree.specs.Terms.{IsTexts, LastText, MoreText, IsQualifiers, NoQualifier, MoreQualifiers, IsAttrWord, AttrName, AttrCall, IsAttrWords, LastAttrWord, MoreAttrWords, IsAttr, AttrOfNone, AttrOf, IsAttrs, NoAttr, MoreAttrs, IsTag, NoTag, ATag, IsLastComma, NoComma, AComma}
use Rattle.cc_tree.specs.Terms.{IsTree, AName, ANumber, ACharacter, AText, InParens, ASubscript, ACall, ACallOfNone, AMember, AnArrow, APostfix, APrefix, ASizeOf, ASizeOfType, AnExtension, ACast, ABinary, AChoice, AnAssignment}
use Rattle.cc_tree.specs.Terms.{IsArgs, FirstArg, MoreArgs, IsTypeName, ATypeName, IsSpecs, Specs, IsSpecList, NoSpec, MoreSpecs, IsSpec, AWord, ATypedefName, AnAttr, AStructure, ANamedStructure, AnEnumeration, ANamedEnumeration}
use Rattle.cc_tree.specs.Terms.{IsMembers, FirstMember, MoreMembers, IsMember, AMemberDecl, IsDeclrs, FirstDeclr, MoreDeclrs, IsEnumrs, FirstEnumr, MoreEnumrs, IsEnumr, AnEnumr, AValuedEnumr, IsDeclr, NoName, DeclaredName, DeclrInParens, APointer, AnArray, AnOpenArray, AFunction}
use Rattle.cc_tree.specs.Terms.{IsParams, NoParams, VoidParams, ManyParams, IsParamList, FirstParam, MoreParams, IsParam, AParam}
use Rattle.cc_tree.specs.Tokens.{Tokens, Name}
use Rattle.cc_tree.specs.declared.at.At.{At}
use Rattle.cc_tree.specs.declared.tree.Attr.{Attr}
use Rattle.cc_tree.specs.declared.tree.Declr.{Declr}
use Rattle.cc_tree.specs.declared.tree.Enumr.{Enumr}
use Rattle.cc_tree.specs.declared.tree.MemberDecl.{MemberDecl}
use Rattle.cc_tree.specs.declared.tree.Param.{Param}
use Rattle.cc_tree.specs.declared.tree.Params.{Params}
use Rattle.cc_tree.specs.declared.tree.Spec.{Spec}
use Rattle.cc_tree.specs.declared.tree.Tree.{Tree}
use Rattle.cc_tree.specs.declared.tree.TypeName.{TypeName}
use Rattle.cc_read_sound.specs.Ranges.{tokens_fit, each_fits}
use Rattle.cc_read_sound.proofs.Rolled as rolled
use Rattle.cc_read_sound.proofs.Rolled.{each_more, each_one}

-- ---- what has no number in it

pub texts_fit : {b : List ℕ} {ts us : Tokens} → IsTexts b ts us → tokens_fit ts ≡ true → tokens_fit us ≡ true
texts_fit (LastText b s us) h = h
texts_fit (MoreText b c s ts us d) h = texts_fit d h

pub qualifiers_fit : {qs : List Word} {ts us : Tokens} → IsQualifiers qs ts us → tokens_fit ts ≡ true → tokens_fit us ≡ true
qualifiers_fit (NoQualifier ts) h = h
qualifiers_fit (MoreQualifiers q qs s ts us i d) h = qualifiers_fit d h

attr_word_fits : {a : Name × Option Name} {ts us : Tokens} → IsAttrWord a ts us → tokens_fit ts ≡ true → tokens_fit us ≡ true
attr_word_fits (AttrName x s us) h = h
attr_word_fits (AttrCall x y s p r q us) h = h

attr_words_fit : {xs : List (Name × Option Name)} {ts us : Tokens} → IsAttrWords xs ts us → tokens_fit ts ≡ true → tokens_fit us ≡ true
attr_words_fit (LastAttrWord a ts us d) h = attr_word_fits d h
attr_words_fit (MoreAttrWords a more c ts us vs d k) h = attr_words_fit k (attr_word_fits d h)

attr_fits : {a : At Attr} {ts us : Tokens} → IsAttr a ts us → tokens_fit ts ≡ true → tokens_fit us ≡ true
attr_fits (AttrOfNone s p q r t us) h = h
attr_fits (AttrOf words s p q r t ts us d) h = attr_words_fit d h

pub attrs_fit : {xs : List (At Attr)} {ts us : Tokens} → IsAttrs xs ts us → tokens_fit ts ≡ true → tokens_fit us ≡ true
attrs_fit (NoAttr ts) h = h
attrs_fit (MoreAttrs a more ts us vs d k) h = attrs_fit k (attr_fits d h)

pub tag_fits : {x : Option Name} {ts us : Tokens} → IsTag x ts us → tokens_fit ts ≡ true → tokens_fit us ≡ true
tag_fits (NoTag ts) h = h
tag_fits (ATag x s us) h = h

pub comma_fits : {ts us : Tokens} → IsLastComma ts us → tokens_fit ts ≡ true → tokens_fit us ≡ true
comma_fits (NoComma ts) h = h
comma_fits (AComma s ts) h = h

-- ---- the others

mutual
  pub tree_fit : {scope : Scope} {l : ℕ} {e : At Tree} {ts us : Tokens} → IsTree scope l e ts us → tokens_fit ts ≡ true → (fits e.node ≡ true) × (tokens_fit us ≡ true)
  tree_fit (AName scope l x s us i) h = (rolled.tree-Named x, h)
  tree_fit (ANumber scope l n f s us) h = let c = both_true (nat_lt n (2 ^ 64)) (tokens_fit us) h in (rolled.tree-Number n f ∙ c.0, c.1)
  tree_fit (ACharacter scope l c s us) h = (rolled.tree-Character c, h)
  tree_fit (AText scope l b ts us d) h = (rolled.tree-Text b, texts_fit d h)
  tree_fit (InParens scope l e p q ts us d) h = let a = tree_fit d h in (rolled.tree-Paren e ∙ a.0, a.1)
  tree_fit (ASubscript scope l a i p q ts us vs j d k) h = let x = tree_fit d h in let y = tree_fit k x.1 in (rolled.tree-Subscript a i ∙ and_true (fits a.node) (fits i.node) x.0 y.0, y.1)
  tree_fit (ACall scope l f es p q ts us vs j d k) h = let x = tree_fit d h in let y = args_fit k x.1 in (rolled.tree-Call f es ∙ and_true (fits f.node) (each_fits fits es) x.0 y.0, y.1)
  tree_fit (ACallOfNone scope l f p q ts us j d) h = let x = tree_fit d h in (rolled.tree-Call f [] ∙ and_true (fits f.node) (each_fits fits []) x.0 refl, x.1)
  tree_fit (AMember scope l e x p s ts us j d) h = let a = tree_fit d h in (rolled.tree-Member e x ∙ a.0, a.1)
  tree_fit (AnArrow scope l e x p s ts us j d) h = let a = tree_fit d h in (rolled.tree-Arrow e x ∙ a.0, a.1)
  tree_fit (APostfix scope l e o p ts us j i d) h = let a = tree_fit d h in (rolled.tree-Postfix e o ∙ a.0, a.1)
  tree_fit (APrefix scope l k o e p ts us j i d) h = let a = tree_fit d h in (rolled.tree-Prefix o e ∙ a.0, a.1)
  tree_fit (ASizeOf scope l e p ts us j d) h = let a = tree_fit d h in (rolled.tree-SizeOf e ∙ a.0, a.1)
  tree_fit (ASizeOfType scope l t s p q ts us j d) h = let a = type_name_fit d h in (rolled.tree-SizeOfType t ∙ a.0, a.1)
  tree_fit (AnExtension scope l e p ts us j d) h = let a = tree_fit d h in (rolled.tree-Extension e ∙ a.0, a.1)
  tree_fit (ACast scope l t e p q ts us vs j d k) h = let x = type_name_fit d h in let y = tree_fit k x.1 in (rolled.tree-Cast t e ∙ and_true (type_name_in_range t) (fits e.node) x.0 y.0, y.1)
  tree_fit (ABinary scope l k o a b p ts us vs j i d g) h = let x = tree_fit d h in let y = tree_fit g x.1 in (rolled.tree-Binary o a b ∙ and_true (fits a.node) (fits b.node) x.0 y.0, y.1)
  tree_fit (AChoice scope l c a b p q ts us vs ws j d k g) h =
      let x = tree_fit d h in
      let y = tree_fit k x.1 in
      let z = tree_fit g y.1 in
      (rolled.tree-Choose c a b ∙ and_true (fits c.node) (fits a.node && fits b.node) x.0 (and_true (fits a.node) (fits b.node) y.0 z.0), z.1)
  tree_fit (AnAssignment scope l o a b p ts us vs j i d k) h = let x = tree_fit d h in let y = tree_fit k x.1 in (rolled.tree-Assign o a b ∙ and_true (fits a.node) (fits b.node) x.0 y.0, y.1)
  tree_fit (AComma scope a b p ts us vs d k) h = let x = tree_fit d h in let y = tree_fit k x.1 in (rolled.tree-Comma a b ∙ and_true (fits a.node) (fits b.node) x.0 y.0, y.1)

  pub args_fit : {scope : Scope} {es : List (At Tree)} {ts us : Tokens} → IsArgs scope es ts us → tokens_fit ts ≡ true → (each_fits fits es ≡ true) × (tokens_fit us ≡ true)
  args_fit (FirstArg scope e ts us d) h = let x = tree_fit d h in (each_one fits e x.0, x.1)
  args_fit (MoreArgs scope es e c ts us vs d k) h = let x = args_fit d h in let y = tree_fit k x.1 in (each_more fits es e x.0 y.0, y.1)

  pub type_name_fit : {scope : Scope} {t : TypeName} {ts us : Tokens} → IsTypeName scope t ts us → tokens_fit ts ≡ true → (type_name_in_range t ≡ true) × (tokens_fit us ≡ true)
  type_name_fit (ATypeName scope specs d ts us vs a b i) h =
      let x = specs_fit a h in let y = declr_fit b x.1 in (rolled.type_name-is specs d ∙ and_true (each_fits spec_in_range specs) (declr_in_range d.node) x.0 y.0, y.1)

  pub specs_fit : {scope : Scope} {ss : List (At Spec)} {ts us : Tokens} → IsSpecs scope ss ts us → tokens_fit ts ≡ true → (each_fits spec_in_range ss ≡ true) × (tokens_fit us ≡ true)
  specs_fit (Specs scope specs ts us d i j) h = spec_list_fit d h

  pub spec_list_fit : {scope : Scope} {ss : List (At Spec)} {ts us : Tokens} → IsSpecList scope ss ts us → tokens_fit ts ≡ true → (each_fits spec_in_range ss ≡ true) × (tokens_fit us ≡ true)
  spec_list_fit (NoSpec scope ts) h = (refl, h)
  spec_list_fit (MoreSpecs scope ss s ts us vs d k) h = let x = spec_list_fit d h in let y = spec_fit k x.1 in (each_more spec_in_range ss s x.0 y.0, y.1)

  pub spec_fit : {scope : Scope} {s : At Spec} {ts us : Tokens} → IsSpec scope s ts us → tokens_fit ts ≡ true → (spec_in_range s.node ≡ true) × (tokens_fit us ≡ true)
  spec_fit (AWord scope x s us i) h = (rolled.spec-Word x, h)
  spec_fit (ATypedefName scope x s us i) h = (rolled.spec-Named x, h)
  spec_fit (AnAttr scope a ts us d) h = (rolled.spec-Attr a.node, attr_fits d h)
  spec_fit (AStructure scope tag ms a b s p q t0 t1 t2 t3 t4 d e f g) h = let x = members_fit f (tag_fits e (attrs_fit d h)) in (rolled.spec-Struct tag ms a b ∙ x.0, attrs_fit g x.1)
  spec_fit (ANamedStructure scope x s p us) h = (rolled.spec-NamedStruct (Some x) [] [], h)
  spec_fit (AnEnumeration scope tag es s p q ts us vs ws d e f) h = let x = enumrs_fit e (tag_fits d h) in (rolled.spec-Enum tag es ∙ x.0, comma_fits f x.1)
  spec_fit (ANamedEnumeration scope x s p us) h = (rolled.spec-NamedEnum (Some x), h)

  pub members_fit : {scope : Scope} {ds : List (At MemberDecl)} {ts us : Tokens} → IsMembers scope ds ts us → tokens_fit ts ≡ true → (each_fits members_in_range ds ≡ true) × (tokens_fit us ≡ true)
  members_fit (FirstMember scope d ts us a) h = let x = member_fit a h in (each_one members_in_range d x.0, x.1)
  members_fit (MoreMembers scope ds d ts us vs a b) h = let x = members_fit a h in let y = member_fit b x.1 in (each_more members_in_range ds d x.0 y.0, y.1)

  pub member_fit : {scope : Scope} {d : At MemberDecl} {ts us : Tokens} → IsMember scope d ts us → tokens_fit ts ≡ true → (members_in_range d.node ≡ true) × (tokens_fit us ≡ true)
  member_fit (AMemberDecl scope specs ds q ts us vs a b) h =
      let x = specs_fit a h in let y = declrs_fit b x.1 in (rolled.members-is specs ds ∙ and_true (each_fits spec_in_range specs) (each_fits declr_in_range ds) x.0 y.0, y.1)

  pub declrs_fit : {scope : Scope} {ds : List (At Declr)} {ts us : Tokens} → IsDeclrs scope ds ts us → tokens_fit ts ≡ true → (each_fits declr_in_range ds ≡ true) × (tokens_fit us ≡ true)
  declrs_fit (FirstDeclr scope d x ts us a i) h = let y = declr_fit a h in (each_one declr_in_range d y.0, y.1)
  declrs_fit (MoreDeclrs scope ds d x c ts us vs a b i) h = let y = declrs_fit a h in let z = declr_fit b y.1 in (each_more declr_in_range ds d y.0 z.0, z.1)

  pub enumrs_fit : {scope : Scope} {es : List (At Enumr)} {ts us : Tokens} → IsEnumrs scope es ts us → tokens_fit ts ≡ true → (each_fits enumr_in_range es ≡ true) × (tokens_fit us ≡ true)
  enumrs_fit (FirstEnumr scope e ts us a) h = let x = enumr_fit a h in (each_one enumr_in_range e x.0, x.1)
  enumrs_fit (MoreEnumrs scope es e c ts us vs a b) h = let x = enumrs_fit a h in let y = enumr_fit b x.1 in (each_more enumr_in_range es e x.0 y.0, y.1)

  pub enumr_fit : {scope : Scope} {e : At Enumr} {ts us : Tokens} → IsEnumr scope e ts us → tokens_fit ts ≡ true → (enumr_in_range e.node ≡ true) × (tokens_fit us ≡ true)
  enumr_fit (AnEnumr scope x s us i) h = (rolled.enumr-none x, h)
  enumr_fit (AValuedEnumr scope x e s p ts us i d) h = let y = tree_fit d h in (rolled.enumr-some x e ∙ y.0, y.1)

  pub declr_fit : {scope : Scope} {direct : Bool} {d : At Declr} {ts us : Tokens} → IsDeclr scope direct d ts us → tokens_fit ts ≡ true → (declr_in_range d.node ≡ true) × (tokens_fit us ≡ true)
  declr_fit (NoName scope direct ts) h = (rolled.declr-Nothing, h)
  declr_fit (DeclaredName scope direct x s us i) h = (rolled.declr-Named x, h)
  declr_fit (DeclrInParens scope direct d p q ts us i a) h = let x = declr_fit a h in (rolled.declr-Paren d ∙ x.0, x.1)
  declr_fit (APointer scope qs d p ts us vs a b) h = let x = declr_fit b (qualifiers_fit a h) in (rolled.declr-Pointer qs d ∙ x.0, x.1)
  declr_fit (AnArray scope direct d n p q ts us vs a b) h = let x = declr_fit a h in let y = tree_fit b x.1 in (rolled.declr-Array d n ∙ and_true (declr_in_range d.node) (fits n.node) x.0 y.0, y.1)
  declr_fit (AnOpenArray scope direct d p q ts us a) h = let x = declr_fit a h in (rolled.declr-OpenArray d ∙ and_true (declr_in_range d.node) true x.0 refl, x.1)
  declr_fit (AFunction scope direct d ps p q ts us vs a b) h = let x = declr_fit a h in let y = params_fit b x.1 in (rolled.declr-Func d ps ∙ and_true (declr_in_range d.node) (params_in_range ps) x.0 y.0, y.1)

  pub params_fit : {scope : Scope} {ps : Params} {ts us : Tokens} → IsParams scope ps ts us → tokens_fit ts ≡ true → (params_in_range ps ≡ true) × (tokens_fit us ≡ true)
  params_fit (NoParams scope ts) h = (rolled.params-Empty, h)
  params_fit (VoidParams scope s us) h = (rolled.params-Void, h)
  params_fit (ManyParams scope ps ts us i a) h = let x = param_list_fit a h in (rolled.params-Many ps ∙ x.0, x.1)

  pub param_list_fit : {scope : Scope} {ps : List (At Param)} {ts us : Tokens} → IsParamList scope ps ts us → tokens_fit ts ≡ true → (each_fits param_in_range ps ≡ true) × (tokens_fit us ≡ true)
  param_list_fit (FirstParam scope p ts us a) h = let x = param_fit a h in (each_one param_in_range p x.0, x.1)
  param_list_fit (MoreParams scope ps p c ts us vs a b) h = let x = param_list_fit a h in let y = param_fit b x.1 in (each_more param_in_range ps p x.0 y.0, y.1)

  pub param_fit : {scope : Scope} {p : At Param} {ts us : Tokens} → IsParam scope p ts us → tokens_fit ts ≡ true → (param_in_range p.node ≡ true) × (tokens_fit us ≡ true)
  param_fit (AParam scope specs d ts us vs a b) h =
      let x = specs_fit a h in let y = declr_fit b x.1 in (rolled.param-is specs d ∙ and_true (each_fits spec_in_range specs) (declr_in_range d.node) x.0 y.0, y.1)
