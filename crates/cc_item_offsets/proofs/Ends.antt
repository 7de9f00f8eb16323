-- The tokens behind a construct are an end of those that it begins with.
use Rattle.std.proofs.Common.{ℕ, Bool, List, ◌∷◌, Option}
use Rattle.cc_lex.specs.declared.token.Token.{Token}
use Rattle.cc_tree.specs.declared.at.At.{At}
use Rattle.cc_tree.specs.declared.tree.Attr.{Attr}
use Rattle.cc_tree.specs.declared.tree.Declr.{Declr}
use Rattle.cc_tree.specs.declared.tree.Enumr.{Enumr}
use Rattle.cc_tree.specs.declared.tree.MemberDecl.{MemberDecl}
use Rattle.cc_tree.specs.declared.tree.Param.{Param}
use Rattle.cc_tree.specs.declared.tree.Params.{Params}
use Rattle.cc_tree.specs.declared.tree.Spec.{Spec}
use Rattle.cc_tree.specs.declared.tree.Tree.{Tree}
use Rattle.cc_tree.specs.declared.tree.TypeName.{TypeName}
use Rattle.cc_tree.specs.declared.unit.Decl.{Decl}
use Rattle.cc_tree.specs.declared.unit.First.{First}
use Rattle.cc_tree.specs.declared.unit.Given.{Given}
use Rattle.cc_tree.specs.declared.unit.Init.{Init}
use Rattle.cc_tree.specs.declared.unit.Line.{Line}
use Rattle.cc_tree.specs.Scopes.{Scope}
use Rattle.cc_tree.specs.Statements.{IsGiven, OneValue, ManyValues, IsGivens, FirstValue, MoreValues, IsValue, NoValue, AValue, IsInit, AnInit, IsInits, FirstInit, MoreInits, IsDecl, DeclaresNothing, Declares, IsMaybe, NoExpr, AnExpr, IsFirst, FirstDecl, FirstExpr, IsStatement, ABlock, AnExprStatement, AnIf, AnIfElse, AWhile, ADoWhile, AFor, ASwitch, ACase, ADefault, ABreak, AContinue, AReturn, IsLines, NoLine, AStatement, ADeclaration}
use Rattle.cc_tree.specs.Terms.{IsTexts, LastText, MoreText, IsQualifiers, NoQualifier, MoreQualifiers, IsAttrWord, AttrName, AttrCall, IsAttrWords, LastAttrWord, MoreAttrWords, IsAttr, AttrOfNone, AttrOf, IsAttrs, NoAttr, MoreAttrs, IsTag, NoTag, ATag, IsLastComma, NoComma, AComma as ALastComma}
use Rattle.cc_tree.specs.Terms.{IsTree, AName, ANumber, ACharacter, AText, InParens, ASubscript, ACall, ACallOfNone, AMember, AnArrow, APostfix, APrefix, ASizeOf, ASizeOfType, AnExtension, ACast, ABinary, AChoice, AnAssignment, AComma, IsArgs, FirstArg, MoreArgs, IsTypeName, ATypeName, IsSpecs, Specs, IsSpecList, NoSpec, MoreSpecs, IsSpec, AWord, ATypedefName, AnAttr, AStructure, ANamedStructure, AnEnumeration, ANamedEnumeration, IsMembers, FirstMember, MoreMembers, IsMember, AMemberDecl, IsDeclrs, FirstDeclr, MoreDeclrs, IsEnumrs, FirstEnumr, MoreEnumrs, IsEnumr, AnEnumr, AValuedEnumr, IsDeclr, NoName, DeclaredName, DeclrInParens, APointer, AnArray, AnOpenArray, AFunction, IsParams, NoParams, VoidParams, ManyParams, IsParamList, FirstParam, MoreParams, IsParam, AParam}
use Rattle.cc_tree.specs.Tokens.{Tokens, Name}
use Rattle.cc_words.specs.declared.word.Word.{Word}

pub data Suffix : Tokens → Tokens → Type 0 where
  Whole : (ts : Tokens) → Suffix ts ts
  Further : (t : Token) (ts us : Tokens) → Suffix ts us → Suffix (t ∷ ts) us

whole : {ts : Tokens} → Suffix ts ts
whole {ts = ts} = Whole ts

over : {t : Token} {ts us : Tokens} → Suffix ts us → Suffix (t ∷ ts) us
over {t = t} {ts = ts} {us = us} h = Further t ts us h

pub join : {ts us vs : Tokens} → Suffix ts us → Suffix us vs → Suffix ts vs
join (Whole ts) g = g
join (Further t ts us h) g = over (join h g)

pub past : {t : Token} {ts us : Tokens} → Suffix ts (t ∷ us) → Suffix ts us
past h = join h (over whole)

-- ---- tokens that are no tree

texts-ends : {b : List ℕ} {ts us : Tokens} → IsTexts b ts us → Suffix ts us
texts-ends (LastText b s us) = over whole
texts-ends (MoreText b c s ts us h) = over (texts-ends h)

qualifiers-ends : {qs : List Word} {ts us : Tokens} → IsQualifiers qs ts us → Suffix ts us
qualifiers-ends (NoQualifier ts) = whole
qualifiers-ends (MoreQualifiers q qs s ts us e h) = over (qualifiers-ends h)

attr-word-ends : {a : Name × Option Name} {ts us : Tokens} → IsAttrWord a ts us → Suffix ts us
attr-word-ends (AttrName x s us) = over whole
attr-word-ends (AttrCall x y s p r q us) = over (over (over (over whole)))

attr-words-ends : {xs : List (Name × Option Name)} {ts us : Tokens} → IsAttrWords xs ts us → Suffix ts us
attr-words-ends (LastAttrWord a ts us h) = attr-word-ends h
attr-words-ends (MoreAttrWords a more c ts us vs h g) = join (past (attr-word-ends h)) (attr-words-ends g)

attr-ends : {a : At Attr} {ts us : Tokens} → IsAttr a ts us → Suffix ts us
attr-ends (AttrOfNone s p q r t us) = over (over (over (over (over whole))))
attr-ends (AttrOf words s p q r t ts us h) = over (over (over (past (past (attr-words-ends h)))))

pub attrs-ends : {xs : List (At Attr)} {ts us : Tokens} → IsAttrs xs ts us → Suffix ts us
attrs-ends (NoAttr ts) = whole
attrs-ends (MoreAttrs a more ts us vs h g) = join (attr-ends h) (attrs-ends g)

tag-ends : {x : Option Name} {ts us : Tokens} → IsTag x ts us → Suffix ts us
tag-ends (NoTag ts) = whole
tag-ends (ATag x s us) = over whole

comma-ends : {ts us : Tokens} → IsLastComma ts us → Suffix ts us
comma-ends (NoComma ts) = whole
comma-ends (ALastComma s ts) = over whole

-- ---- expressions, types and declarators

mutual
  tree-ends : {scope : Scope} {l : ℕ} {e : At Tree} {ts us : Tokens} → IsTree scope l e ts us → Suffix ts us
  tree-ends (AName scope l x s us h) = over whole
  tree-ends (ANumber scope l n f s us) = over whole
  tree-ends (ACharacter scope l c s us) = over whole
  tree-ends (AText scope l b ts us h) = texts-ends h
  tree-ends (InParens scope l e p q ts us h) = over (past (tree-ends h))
  tree-ends (ASubscript scope l a i p q ts us vs le h g) = join (past (tree-ends h)) (past (tree-ends g))
  tree-ends (ACall scope l f es p q ts us vs le h g) = join (past (tree-ends h)) (past (args-ends g))
  tree-ends (ACallOfNone scope l f p q ts us le h) = past (past (tree-ends h))
  tree-ends (AMember scope l e x p s ts us le h) = past (past (tree-ends h))
  tree-ends (AnArrow scope l e x p s ts us le h) = past (past (tree-ends h))
  tree-ends (APostfix scope l e o p ts us le k h) = past (tree-ends h)
  tree-ends (APrefix scope l k o e p ts us le i h) = over (tree-ends h)
  tree-ends (ASizeOf scope l e p ts us le h) = over (tree-ends h)
  tree-ends (ASizeOfType scope l t s p q ts us le h) = over (over (past (type-name-ends h)))
  tree-ends (AnExtension scope l e p ts us le h) = over (tree-ends h)
  tree-ends (ACast scope l t e p q ts us vs le h g) = over (join (past (type-name-ends h)) (tree-ends g))
  tree-ends (ABinary scope l k o a b p ts us vs le i h g) = join (past (tree-ends h)) (tree-ends g)
  tree-ends (AChoice scope l c a b p q ts us vs ws le h g i) = join (past (tree-ends h)) (join (past (tree-ends g)) (tree-ends i))
  tree-ends (AnAssignment scope l o a b p ts us vs le i h g) = join (past (tree-ends h)) (tree-ends g)
  tree-ends (AComma scope a b p ts us vs h g) = join (past (tree-ends h)) (tree-ends g)

  args-ends : {scope : Scope} {es : List (At Tree)} {ts us : Tokens} → IsArgs scope es ts us → Suffix ts us
  args-ends (FirstArg scope e ts us h) = tree-ends h
  args-ends (MoreArgs scope es e c ts us vs h g) = join (past (args-ends h)) (tree-ends g)

  type-name-ends : {scope : Scope} {t : TypeName} {ts us : Tokens} → IsTypeName scope t ts us → Suffix ts us
  type-name-ends (ATypeName scope specs d ts us vs h g e) = join (specs-ends h) (declr-ends g)

  pub specs-ends : {scope : Scope} {ss : List (At Spec)} {ts us : Tokens} → IsSpecs scope ss ts us → Suffix ts us
  specs-ends (Specs scope specs ts us h e a) = spec-list-ends h

  spec-list-ends : {scope : Scope} {ss : List (At Spec)} {ts us : Tokens} → IsSpecList scope ss ts us → Suffix ts us
  spec-list-ends (NoSpec scope ts) = whole
  spec-list-ends (MoreSpecs scope ss s ts us vs h g) = join (spec-list-ends h) (spec-ends g)

  spec-ends : {scope : Scope} {x : At Spec} {ts us : Tokens} → IsSpec scope x ts us → Suffix ts us
  spec-ends (AWord scope x s us e) = over whole
  spec-ends (ATypedefName scope x s us e) = over whole
  spec-ends (AnAttr scope a ts us h) = attr-ends h
  spec-ends (AStructure scope tag ms a b s p q t0 t1 t2 t3 t4 h g i k) = over (join (attrs-ends h) (join (past (tag-ends g)) (join (past (members-ends i)) (attrs-ends k))))
  spec-ends (ANamedStructure scope x s p us) = over (over whole)
  spec-ends (AnEnumeration scope tag es s p q ts us vs ws h g i) = over (join (past (tag-ends h)) (join (enumrs-ends g) (past (comma-ends i))))
  spec-ends (ANamedEnumeration scope x s p us) = over (over whole)

  members-ends : {scope : Scope} {ds : List (At MemberDecl)} {ts us : Tokens} → IsMembers scope ds ts us → Suffix ts us
  members-ends (FirstMember scope d ts us h) = member-ends h
  members-ends (MoreMembers scope ds d ts us vs h g) = join (members-ends h) (member-ends g)

  member-ends : {scope : Scope} {d : At MemberDecl} {ts us : Tokens} → IsMember scope d ts us → Suffix ts us
  member-ends (AMemberDecl scope specs ds q ts us vs h g) = join (specs-ends h) (past (declrs-ends g))

  declrs-ends : {scope : Scope} {ds : List (At Declr)} {ts us : Tokens} → IsDeclrs scope ds ts us → Suffix ts us
  declrs-ends (FirstDeclr scope d x ts us h e) = declr-ends h
  declrs-ends (MoreDeclrs scope ds d x c ts us vs h g e) = join (past (declrs-ends h)) (declr-ends g)

  enumrs-ends : {scope : Scope} {es : List (At Enumr)} {ts us : Tokens} → IsEnumrs scope es ts us → Suffix ts us
  enumrs-ends (FirstEnumr scope e ts us h) = enumr-ends h
  enumrs-ends (MoreEnumrs scope es e c ts us vs h g) = join (past (enumrs-ends h)) (enumr-ends g)

  enumr-ends : {scope : Scope} {e : At Enumr} {ts us : Tokens} → IsEnumr scope e ts us → Suffix ts us
  enumr-ends (AnEnumr scope x s us e) = over whole
  enumr-ends (AValuedEnumr scope x e s p ts us i h) = over (over (tree-ends h))

  pub declr-ends : {scope : Scope} {direct : Bool} {d : At Declr} {ts us : Tokens} → IsDeclr scope direct d ts us → Suffix ts us
  declr-ends (NoName scope direct ts) = whole
  declr-ends (DeclaredName scope direct x s us e) = over whole
  declr-ends (DeclrInParens scope direct d p q ts us e h) = over (past (declr-ends h))
  declr-ends (APointer scope qs d p ts us vs h g) = over (join (qualifiers-ends h) (declr-ends g))
  declr-ends (AnArray scope direct d bound p q ts us vs h g) = join (past (declr-ends h)) (past (tree-ends g))
  declr-ends (AnOpenArray scope direct d p q ts us h) = past (past (declr-ends h))
  declr-ends (AFunction scope direct d ps p q ts us vs h g) = join (past (declr-ends h)) (past (params-ends g))

  params-ends : {scope : Scope} {ps : Params} {ts us : Tokens} → IsParams scope ps ts us → Suffix ts us
  params-ends (NoParams scope ts) = whole
  params-ends (VoidParams scope s us) = over whole
  params-ends (ManyParams scope ps ts us e h) = param-list-ends h

  param-list-ends : {scope : Scope} {ps : List (At Param)} {ts us : Tokens} → IsParamList scope ps ts us → Suffix ts us
  param-list-ends (FirstParam scope p ts us h) = param-ends h
  param-list-ends (MoreParams scope ps p c ts us vs h g) = join (past (param-list-ends h)) (param-ends g)

  param-ends : {scope : Scope} {p : At Param} {ts us : Tokens} → IsParam scope p ts us → Suffix ts us
  param-ends (AParam scope specs d ts us vs h g) = join (specs-ends h) (declr-ends g)

-- ---- declarations and statements

mutual
  given-ends : {scope : Scope} {g : At Given} {ts us : Tokens} → IsGiven scope g ts us → Suffix ts us
  given-ends (OneValue scope e ts us h) = tree-ends h
  given-ends (ManyValues scope gs p q ts us vs h g) = over (join (givens-ends h) (past (comma-ends g)))

  givens-ends : {scope : Scope} {gs : List (At Given)} {ts us : Tokens} → IsGivens scope gs ts us → Suffix ts us
  givens-ends (FirstValue scope g ts us h) = given-ends h
  givens-ends (MoreValues scope gs g c ts us vs h i) = join (past (givens-ends h)) (given-ends i)

value-ends : {scope : Scope} {v : Option (At Given)} {ts us : Tokens} → IsValue scope v ts us → Suffix ts us
value-ends (NoValue scope ts) = whole
value-ends (AValue scope g p ts us h) = over (given-ends h)

pub init-ends : {types : Bool} {scope after : Scope} {i : At Init} {ts us : Tokens} → IsInit types scope after i ts us → Suffix ts us
init-ends (AnInit types scope d x attrs v ts us vs ws h e g i) = join (declr-ends h) (join (attrs-ends g) (value-ends i))

inits-ends : {types : Bool} {scope after : Scope} {is : List (At Init)} {ts us : Tokens} → IsInits types scope after is ts us → Suffix ts us
inits-ends (FirstInit types scope after i ts us h) = init-ends h
inits-ends (MoreInits types scope between after is i c ts us vs h g) = join (past (inits-ends h)) (init-ends g)

decl-ends : {scope after : Scope} {d : Decl} {ts us : Tokens} → IsDecl scope after d ts us → Suffix ts us
decl-ends (DeclaresNothing scope specs q ts us h) = past (specs-ends h)
decl-ends (Declares scope after specs is q ts us vs h g) = join (specs-ends h) (past (inits-ends g))

maybe-ends : {scope : Scope} {e : Option (At Tree)} {ts us : Tokens} → IsMaybe scope e ts us → Suffix ts us
maybe-ends (NoExpr scope ts) = whole
maybe-ends (AnExpr scope e ts us h) = tree-ends h

first-ends : {scope after : Scope} {f : First} {ts us : Tokens} → IsFirst scope after f ts us → Suffix ts us
first-ends (FirstDecl scope after d ts us h) = decl-ends h
first-ends (FirstExpr scope e q ts us h) = past (maybe-ends h)

mutual
  statement-ends : {scope : Scope} {l : At Line} {ts us : Tokens} → IsStatement scope l ts us → Suffix ts us
  statement-ends (ABlock scope after ls p q ts us h) = over (past (lines-ends h))
  statement-ends (AnExprStatement scope e q ts us h) = past (maybe-ends h)
  statement-ends (AnIf scope c a s p q ts us vs h g) = over (over (join (past (tree-ends h)) (statement-ends g)))
  statement-ends (AnIfElse scope c a b s p q r ts us vs ws h g e i) = over (over (join (past (tree-ends h)) (join (past (statement-ends g)) (statement-ends i))))
  statement-ends (AWhile scope c a s p q ts us vs h g) = over (over (join (past (tree-ends h)) (statement-ends g)))
  statement-ends (ADoWhile scope a c s r p q t ts us vs h g) = over (join (past (past (statement-ends h))) (past (past (tree-ends g))))
  statement-ends (AFor scope inner f t e a s p q r t0 t1 t2 t3 t4 h g i k) = over (over (join (first-ends h) (join (past (maybe-ends g)) (join (past (maybe-ends i)) (statement-ends k)))))
  statement-ends (ASwitch scope c a s p q ts us vs h g) = over (over (join (past (tree-ends h)) (statement-ends g)))
  statement-ends (ACase scope c a s q ts us vs h g) = over (join (past (tree-ends h)) (statement-ends g))
  statement-ends (ADefault scope a s q ts us h) = over (over (statement-ends h))
  statement-ends (ABreak scope s q us) = over (over whole)
  statement-ends (AContinue scope s q us) = over (over whole)
  statement-ends (AReturn scope e s q ts us h) = over (past (maybe-ends h))

  pub lines-ends : {scope after : Scope} {ls : List (At Line)} {ts us : Tokens} → IsLines scope after ls ts us → Suffix ts us
  lines-ends (NoLine scope ts) = whole
  lines-ends (AStatement scope after ls l ts us vs h g) = join (lines-ends h) (statement-ends g)
  lines-ends (ADeclaration scope between after ls d ts us vs h g) = join (lines-ends h) (decl-ends g)
