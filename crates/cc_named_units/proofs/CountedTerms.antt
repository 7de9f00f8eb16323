-- What expressions, types and declarators count is no more than the tokens by which these are spelled. By induction over how they are spelled.
use Rattle.std.proofs.Common.{◌≡◌, ◌≤◌, ◌+◌, ℕ, suc, Bool, true, List, [], ◌∷◌, length, Option, Some, length-append, arith}
use Rattle.cc_program.specs.CcWords.declared.word.Word.{Word}
use Rattle.cc_tree.specs.Scopes.{Scope}
use Rattle.cc_tree.specs.Terms.{IsTexts, LastText, MoreText, IsQualifiers, NoQualifier, MoreQualifiers, IsAttrWord, AttrName, AttrCall, IsAttrWords, LastAttrWord, MoreAttrWords, IsAttr, AttrOfNone, AttrOf, IsAttrs, NoAttr, MoreAttrs, IsTag, NoTag, ATag, IsLastComma, NoComma, AComma, have_word}
use Rattle.cc_tree.specs.Terms.{IsTree, AName, ANumber, ACharacter, AText, InParens, ASubscript, ACall, ACallOfNone, AMember, AnArrow, APostfix, APrefix, ASizeOf, ASizeOfType, AnExtension, ACast, ABinary, AChoice, AnAssignment}
use Rattle.cc_tree.specs.Terms.{IsArgs, FirstArg, MoreArgs, IsTypeName, ATypeName, IsSpecs, Specs, IsSpecList, NoSpec, MoreSpecs, IsSpec, AWord, ATypedefName, AnAttr, AStructure, ANamedStructure, AnEnumeration, ANamedEnumeration}
use Rattle.cc_tree.specs.Terms.{IsMembers, FirstMember, MoreMembers, IsMember, AMemberDecl, IsDeclrs, FirstDeclr, MoreDeclrs, IsEnumrs, FirstEnumr, MoreEnumrs, IsEnumr, AnEnumr, AValuedEnumr, IsDeclr, NoName, DeclaredName, DeclrInParens, APointer, AnArray, AnOpenArray, AFunction}
use Rattle.cc_tree.specs.Terms.{IsParams, NoParams, VoidParams, ManyParams, IsParamList, FirstParam, MoreParams, IsParam, AParam}
use Rattle.cc_tree.specs.Tokens.{Tokens, Name}
use Rattle.cc_tree.specs.declared.at.At.{At}
use Rattle.cc_tree.specs.declared.tree.Attr.{Attr}
use Rattle.cc_tree.specs.declared.tree.Declr.{Declr}
use Rattle.cc_tree.specs.declared.tree.Enumr.{Enumr}
use Rattle.cc_tree.specs.declared.tree.MemberDecl.{MemberDecl}
use Rattle.cc_tree.specs.declared.tree.Param.{Param}
use Rattle.cc_tree.specs.declared.tree.Params.{Params}
use Rattle.cc_tree.specs.declared.tree.Spec.{Spec}
use Rattle.cc_tree.specs.declared.tree.Tree.{Tree}
use Rattle.cc_tree.specs.declared.tree.TypeName.{TypeName}
use Rattle.cc_named_units.specs.Counts.{each_count, tree_count, declr_count, params_count, spec_count, enumr_count, members_count, param_count, type_name_count}
use Rattle.cc_named_units.proofs.CountedRolled as rolled
use Rattle.cc_named_units.proofs.CountedRolled.{each_more, each_one}

-- ---- what declares nothing

pub texts_read : {b : List ℕ} {ts us : Tokens} → IsTexts b ts us → suc (length us) ≤ length ts
texts_read (LastText b s us) = omega arith
texts_read (MoreText b c s ts us d) = let h = texts_read d in omega arith

pub qualifiers_read : {qs : List Word} {ts us : Tokens} → IsQualifiers qs ts us → length us ≤ length ts
qualifiers_read (NoQualifier ts) = omega arith
qualifiers_read (MoreQualifiers q qs s ts us i d) = let h = qualifiers_read d in omega arith

attr_word_read : {a : Name × Option Name} {ts us : Tokens} → IsAttrWord a ts us → length us ≤ length ts
attr_word_read (AttrName x s us) = omega arith
attr_word_read (AttrCall x y s p r q us) = omega arith

attr_words_read : {xs : List (Name × Option Name)} {ts us : Tokens} → IsAttrWords xs ts us → length us ≤ length ts
attr_words_read (LastAttrWord a ts us d) = attr_word_read d
attr_words_read (MoreAttrWords a more c ts us vs d k) = let x = attr_word_read d in let y = attr_words_read k in omega arith

-- it has a token of its own
attr_read : {a : At Attr} {ts us : Tokens} → IsAttr a ts us → suc (length us) ≤ length ts
attr_read (AttrOfNone s p q r t us) = omega arith
attr_read (AttrOf words s p q r t ts us d) = let x = attr_words_read d in omega arith

pub attrs_read : {xs : List (At Attr)} {ts us : Tokens} → IsAttrs xs ts us → length us ≤ length ts
attrs_read (NoAttr ts) = omega arith
attrs_read (MoreAttrs a more ts us vs d k) = let x = attr_read d in let y = attrs_read k in omega arith

pub tag_read : {x : Option Name} {ts us : Tokens} → IsTag x ts us → length us ≤ length ts
tag_read (NoTag ts) = omega arith
tag_read (ATag x s us) = omega arith

pub comma_read : {ts us : Tokens} → IsLastComma ts us → length us ≤ length ts
comma_read (NoComma ts) = omega arith
comma_read (AComma s ts) = omega arith

-- specifiers have a word, so there is one
some_spec : (ss : List (At Spec)) → have_word ss ≡ true → suc 0 ≤ length ss
some_spec [] h = absurd (cc)
some_spec (s ∷ ss) h = omega arith

-- ---- the others

mutual
  pub tree_read : {scope : Scope} {l : ℕ} {e : At Tree} {ts us : Tokens} → IsTree scope l e ts us → length us + tree_count e.node ≤ length ts
  tree_read (AName scope l x s us i) = omega (arith, rolled.tree-Named x)
  tree_read (ANumber scope l n f s us) = omega (arith, rolled.tree-Number n f)
  tree_read (ACharacter scope l c s us) = omega (arith, rolled.tree-Character c)
  tree_read (AText scope l b ts us d) = let h = texts_read d in omega (arith, rolled.tree-Text b)
  tree_read (InParens scope l e p q ts us d) = let x = tree_read d in omega (arith, rolled.tree-Paren e)
  tree_read (ASubscript scope l a i p q ts us vs j d k) = let x = tree_read d in let y = tree_read k in omega (arith, rolled.tree-Subscript a i)
  tree_read (ACall scope l f es p q ts us vs j d k) = let x = tree_read d in let y = args_read k in omega (arith, rolled.tree-Call f es)
  tree_read (ACallOfNone scope l f p q ts us j d) = let x = tree_read d in omega (arith, rolled.tree-Call f [])
  tree_read (AMember scope l e x p s ts us j d) = let h = tree_read d in omega (arith, rolled.tree-Member e x)
  tree_read (AnArrow scope l e x p s ts us j d) = let h = tree_read d in omega (arith, rolled.tree-Arrow e x)
  tree_read (APostfix scope l e o p ts us j i d) = let h = tree_read d in omega (arith, rolled.tree-Postfix e o)
  tree_read (APrefix scope l k o e p ts us j i d) = let h = tree_read d in omega (arith, rolled.tree-Prefix o e)
  tree_read (ASizeOf scope l e p ts us j d) = let h = tree_read d in omega (arith, rolled.tree-SizeOf e)
  tree_read (ASizeOfType scope l t s p q ts us j d) = let h = type_name_read d in omega (arith, rolled.tree-SizeOfType t)
  tree_read (AnExtension scope l e p ts us j d) = let h = tree_read d in omega (arith, rolled.tree-Extension e)
  tree_read (ACast scope l t e p q ts us vs j d k) = let x = type_name_read d in let y = tree_read k in omega (arith, rolled.tree-Cast t e)
  tree_read (ABinary scope l k o a b p ts us vs j i d g) = let x = tree_read d in let y = tree_read g in omega (arith, rolled.tree-Binary o a b)
  tree_read (AChoice scope l c a b p q ts us vs ws j d k g) = let x = tree_read d in let y = tree_read k in let z = tree_read g in omega (arith, rolled.tree-Choose c a b)
  tree_read (AnAssignment scope l o a b p ts us vs j i d k) = let x = tree_read d in let y = tree_read k in omega (arith, rolled.tree-Assign o a b)
  tree_read (AComma scope a b p ts us vs d k) = let x = tree_read d in let y = tree_read k in omega (arith, rolled.tree-Comma a b)

  pub args_read : {scope : Scope} {es : List (At Tree)} {ts us : Tokens} → IsArgs scope es ts us → length us + each_count tree_count es ≤ length ts
  args_read (FirstArg scope e ts us d) = let x = tree_read d in omega (arith, each_one tree_count e)
  args_read (MoreArgs scope es e c ts us vs d k) = let x = args_read d in let y = tree_read k in omega (arith, each_more tree_count es e)

  pub type_name_read : {scope : Scope} {t : TypeName} {ts us : Tokens} → IsTypeName scope t ts us → length us + type_name_count t ≤ length ts
  type_name_read (ATypeName scope specs d ts us vs a b i) = let x = specs_read a in let y = declr_read b in omega (arith, rolled.type_name-is specs d)

  pub specs_read : {scope : Scope} {ss : List (At Spec)} {ts us : Tokens} → IsSpecs scope ss ts us → length us + suc (each_count spec_count ss) ≤ length ts
  specs_read (Specs scope specs ts us d i j) = let x = spec_list_read d in let y = some_spec specs i in omega arith

  pub spec_list_read : {scope : Scope} {ss : List (At Spec)} {ts us : Tokens} → IsSpecList scope ss ts us → length us + (length ss + each_count spec_count ss) ≤ length ts
  spec_list_read (NoSpec scope ts) = omega arith
  spec_list_read (MoreSpecs scope ss s ts us vs d k) = let x = spec_list_read d in let y = spec_read k in omega (arith, each_more spec_count ss s, length-append ss (s ∷ []))

  pub spec_read : {scope : Scope} {s : At Spec} {ts us : Tokens} → IsSpec scope s ts us → length us + suc (spec_count s.node) ≤ length ts
  spec_read (AWord scope x s us i) = omega (arith, rolled.spec-Word x)
  spec_read (ATypedefName scope x s us i) = omega (arith, rolled.spec-Named x)
  spec_read (AnAttr scope a ts us d) = let x = attr_read d in omega (arith, rolled.spec-Attr a.node)
  spec_read (AStructure scope tag ms a b s p q t0 t1 t2 t3 t4 d e f g) = let x = attrs_read d in let y = tag_read e in let z = members_read f in let w = attrs_read g in omega (arith, rolled.spec-Struct tag ms a b)
  spec_read (ANamedStructure scope x s p us) = omega (arith, rolled.spec-NamedStruct (Some x) [] [])
  spec_read (AnEnumeration scope tag es s p q ts us vs ws d e f) = let x = tag_read d in let y = enumrs_read e in let z = comma_read f in omega (arith, rolled.spec-Enum tag es)
  spec_read (ANamedEnumeration scope x s p us) = omega (arith, rolled.spec-NamedEnum (Some x))

  pub members_read : {scope : Scope} {ds : List (At MemberDecl)} {ts us : Tokens} → IsMembers scope ds ts us → length us + each_count members_count ds ≤ length ts
  members_read (FirstMember scope d ts us a) = let x = member_read a in omega (arith, each_one members_count d)
  members_read (MoreMembers scope ds d ts us vs a b) = let x = members_read a in let y = member_read b in omega (arith, each_more members_count ds d)

  pub member_read : {scope : Scope} {d : At MemberDecl} {ts us : Tokens} → IsMember scope d ts us → length us + members_count d.node ≤ length ts
  member_read (AMemberDecl scope specs ds q ts us vs a b) = let x = specs_read a in let y = declrs_read b in omega (arith, rolled.members-is specs ds)

  pub declrs_read : {scope : Scope} {ds : List (At Declr)} {ts us : Tokens} → IsDeclrs scope ds ts us → length us + each_count declr_count ds ≤ length ts
  declrs_read (FirstDeclr scope d x ts us a i) = let y = declr_read a in omega (arith, each_one declr_count d)
  declrs_read (MoreDeclrs scope ds d x c ts us vs a b i) = let y = declrs_read a in let z = declr_read b in omega (arith, each_more declr_count ds d)

  pub enumrs_read : {scope : Scope} {es : List (At Enumr)} {ts us : Tokens} → IsEnumrs scope es ts us → length us + each_count enumr_count es ≤ length ts
  enumrs_read (FirstEnumr scope e ts us a) = let x = enumr_read a in omega (arith, each_one enumr_count e)
  enumrs_read (MoreEnumrs scope es e c ts us vs a b) = let x = enumrs_read a in let y = enumr_read b in omega (arith, each_more enumr_count es e)

  pub enumr_read : {scope : Scope} {e : At Enumr} {ts us : Tokens} → IsEnumr scope e ts us → length us + enumr_count e.node ≤ length ts
  enumr_read (AnEnumr scope x s us i) = omega (arith, rolled.enumr-none x)
  enumr_read (AValuedEnumr scope x e s p ts us i d) = let y = tree_read d in omega (arith, rolled.enumr-some x e)

  pub declr_read : {scope : Scope} {direct : Bool} {d : At Declr} {ts us : Tokens} → IsDeclr scope direct d ts us → length us + declr_count d.node ≤ length ts
  declr_read (NoName scope direct ts) = omega (arith, rolled.declr-Nothing)
  declr_read (DeclaredName scope direct x s us i) = omega (arith, rolled.declr-Named x)
  declr_read (DeclrInParens scope direct d p q ts us i a) = let x = declr_read a in omega (arith, rolled.declr-Paren d)
  declr_read (APointer scope qs d p ts us vs a b) = let x = qualifiers_read a in let y = declr_read b in omega (arith, rolled.declr-Pointer qs d)
  declr_read (AnArray scope direct d n p q ts us vs a b) = let x = declr_read a in let y = tree_read b in omega (arith, rolled.declr-Array d n)
  declr_read (AnOpenArray scope direct d p q ts us a) = let x = declr_read a in omega (arith, rolled.declr-OpenArray d)
  declr_read (AFunction scope direct d ps p q ts us vs a b) = let x = declr_read a in let y = params_read b in omega (arith, rolled.declr-Func d ps)

  pub params_read : {scope : Scope} {ps : Params} {ts us : Tokens} → IsParams scope ps ts us → length us + params_count ps ≤ length ts
  params_read (NoParams scope ts) = omega (arith, rolled.params-Empty)
  params_read (VoidParams scope s us) = omega (arith, rolled.params-Void)
  params_read (ManyParams scope ps ts us i a) = let x = param_list_read a in omega (arith, rolled.params-Many ps)

  pub param_list_read : {scope : Scope} {ps : List (At Param)} {ts us : Tokens} → IsParamList scope ps ts us → length us + each_count param_count ps ≤ length ts
  param_list_read (FirstParam scope p ts us a) = let x = param_read a in omega (arith, each_one param_count p)
  param_list_read (MoreParams scope ps p c ts us vs a b) = let x = param_list_read a in let y = param_read b in omega (arith, each_more param_count ps p)

  pub param_read : {scope : Scope} {p : At Param} {ts us : Tokens} → IsParam scope p ts us → length us + param_count p.node ≤ length ts
  param_read (AParam scope specs d ts us vs a b) = let x = specs_read a in let y = declr_read b in omega (arith, rolled.param-is specs d)
