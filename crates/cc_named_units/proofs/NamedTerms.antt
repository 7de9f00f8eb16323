-- Expressions, types and declarators that are spelled by tokens of which the names may name something: so may theirs. By induction over how they are spelled.
use Rattle.std.proofs.Common.{◌≡◌, ℕ, Bool, true, ◌&&◌, List, [], Option, Some, None, refl, ap, sym, ◌∙◌}
use Rattle.std.specs.Prelude.{is_some}
use Rattle.cc_type.proofs.CcSyntax.Prefixes.{both_true}
use Rattle.cc_type.proofs.CcSyntax.SameLemmas.{and_true}
use Rattle.cc_program.specs.CcWords.Names.{is_name}
use Rattle.cc_program.specs.CcWords.declared.word.Word.{Word}
use Rattle.cc_tree.proofs.NewNames.{name_of-Nothing, name_of-Named, name_of-Paren, name_of-Pointer, name_of-Array, name_of-Func}
use Rattle.cc_tree.specs.Scopes.{Scope, name_of}
use Rattle.cc_tree.specs.Terms.{IsTexts, LastText, MoreText, IsQualifiers, NoQualifier, MoreQualifiers, IsAttrWord, AttrName, AttrCall, IsAttrWords, LastAttrWord, MoreAttrWords, IsAttr, AttrOfNone, AttrOf, IsAttrs, NoAttr, MoreAttrs, IsTag, NoTag, ATag, IsLastComma, NoComma, AComma}
use Rattle.cc_tree.specs.Terms.{IsTree, AName, ANumber, ACharacter, AText, InParens, ASubscript, ACall, ACallOfNone, AMember, AnArrow, APostfix, APrefix, ASizeOf, ASizeOfType, AnExtension, ACast, ABinary, AChoice, AnAssignment}
use Rattle.cc_tree.specs.Terms.{IsArgs, FirstArg, MoreArgs, IsTypeName, ATypeName, IsSpecs, Specs, IsSpecList, NoSpec, MoreSpecs, IsSpec, AWord, ATypedefName, AnAttr, AStructure, ANamedStructure, AnEnumeration, ANamedEnumeration}
use Rattle.cc_tree.specs.Terms.{IsMembers, FirstMember, MoreMembers, IsMember, AMemberDecl, IsDeclrs, FirstDeclr, MoreDeclrs, IsEnumrs, FirstEnumr, MoreEnumrs, IsEnumr, AnEnumr, AValuedEnumr, IsDeclr, NoName, DeclaredName, DeclrInParens, APointer, AnArray, AnOpenArray, AFunction}
use Rattle.cc_tree.specs.Terms.{IsParams, NoParams, VoidParams, ManyParams, IsParamList, FirstParam, MoreParams, IsParam, AParam}
use Rattle.cc_tree.specs.Tokens.{Tokens, Name}
use Rattle.cc_tree.specs.declared.at.At.{At}
use Rattle.cc_tree.specs.declared.tree.Attr.{Attr}
use Rattle.cc_tree.specs.declared.tree.Declr.{Declr}
use Rattle.cc_tree.specs.declared.tree.Enumr.{Enumr}
use Rattle.cc_tree.specs.declared.tree.MemberDecl.{MemberDecl}
use Rattle.cc_tree.specs.declared.tree.Param.{Param}
use Rattle.cc_tree.specs.declared.tree.Params.{Params}
use Rattle.cc_tree.specs.declared.tree.Spec.{Spec}
use Rattle.cc_tree.specs.declared.tree.Tree.{Tree}
use Rattle.cc_tree.specs.declared.tree.TypeName.{TypeName}
use Rattle.cc_named_units.specs.Names.{HasNames, tag_named, tokens_named, tree_named, declr_named, params_named, spec_named, enumr_named, members_named, param_named, type_name_named, one_or_more, each_named, member_named}
use Rattle.cc_named_units.proofs.NamedRolled as rolled
use Rattle.cc_named_units.proofs.NamedRolled.{each_more, each_one, one_behind}

-- ---- what has no name of interest in it

pub texts_named : {b : List ℕ} {ts us : Tokens} → IsTexts b ts us → tokens_named ts ≡ true → tokens_named us ≡ true
texts_named (LastText b s us) h = h
texts_named (MoreText b c s ts us d) h = texts_named d h

pub qualifiers_named : {qs : List Word} {ts us : Tokens} → IsQualifiers qs ts us → tokens_named ts ≡ true → tokens_named us ≡ true
qualifiers_named (NoQualifier ts) h = h
qualifiers_named (MoreQualifiers q qs s ts us i d) h = qualifiers_named d h

attr_word_named : {a : Name × Option Name} {ts us : Tokens} → IsAttrWord a ts us → tokens_named ts ≡ true → tokens_named us ≡ true
attr_word_named (AttrName x s us) h = (both_true (is_name x) (tokens_named us) h).1
attr_word_named (AttrCall x y s p r q us) h = (both_true (is_name y) (tokens_named us) (both_true (is_name x) (is_name y && tokens_named us) h).1).1

attr_words_named : {xs : List (Name × Option Name)} {ts us : Tokens} → IsAttrWords xs ts us → tokens_named ts ≡ true → tokens_named us ≡ true
attr_words_named (LastAttrWord a ts us d) h = attr_word_named d h
attr_words_named (MoreAttrWords a more c ts us vs d k) h = attr_words_named k (attr_word_named d h)

attr_named : {a : At Attr} {ts us : Tokens} → IsAttr a ts us → tokens_named ts ≡ true → tokens_named us ≡ true
attr_named (AttrOfNone s p q r t us) h = h
attr_named (AttrOf words s p q r t ts us d) h = attr_words_named d h

pub attrs_named : {xs : List (At Attr)} {ts us : Tokens} → IsAttrs xs ts us → tokens_named ts ≡ true → tokens_named us ≡ true
attrs_named (NoAttr ts) h = h
attrs_named (MoreAttrs a more ts us vs d k) h = attrs_named k (attr_named d h)

pub tag_read : {x : Option Name} {ts us : Tokens} → IsTag x ts us → tokens_named ts ≡ true → (tag_named x ≡ true) × (tokens_named us ≡ true)
tag_read (NoTag ts) h = (refl, h)
tag_read (ATag x s us) h = both_true (is_name x) (tokens_named us) h

pub comma_named : {ts us : Tokens} → IsLastComma ts us → tokens_named ts ≡ true → tokens_named us ≡ true
comma_named (NoComma ts) h = h
comma_named (AComma s ts) h = h

-- ---- lists that have one at least

members_some : {scope : Scope} {ds : List (At MemberDecl)} {ts us : Tokens} → IsMembers scope ds ts us → one_or_more ds ≡ true
members_some (FirstMember scope d ts us a) = refl
members_some (MoreMembers scope ds d ts us vs a b) = one_behind ds d

declrs_some : {scope : Scope} {ds : List (At Declr)} {ts us : Tokens} → IsDeclrs scope ds ts us → one_or_more ds ≡ true
declrs_some (FirstDeclr scope d x ts us a i) = refl
declrs_some (MoreDeclrs scope ds d x c ts us vs a b i) = one_behind ds d

-- ---- the others

mutual
  pub tree_read : {scope : Scope} {l : ℕ} {e : At Tree} {ts us : Tokens} → IsTree scope l e ts us → tokens_named ts ≡ true → (tree_named e.node ≡ true) × (tokens_named us ≡ true)
  tree_read (AName scope l x s us i) h = (rolled.tree-Named x, (both_true (is_name x) (tokens_named us) h).1)
  tree_read (ANumber scope l n f s us) h = (rolled.tree-Number n f, h)
  tree_read (ACharacter scope l c s us) h = (rolled.tree-Character c, h)
  tree_read (AText scope l b ts us d) h = (rolled.tree-Text b, texts_named d h)
  tree_read (InParens scope l e p q ts us d) h = let a = tree_read d h in (rolled.tree-Paren e ∙ a.0, a.1)
  tree_read (ASubscript scope l a i p q ts us vs j d k) h = let x = tree_read d h in let y = tree_read k x.1 in (rolled.tree-Subscript a i ∙ and_true (tree_named a.node) (tree_named i.node) x.0 y.0, y.1)
  tree_read (ACall scope l f es p q ts us vs j d k) h = let x = tree_read d h in let y = args_read k x.1 in (rolled.tree-Call f es ∙ and_true (tree_named f.node) (each_named tree_named es) x.0 y.0, y.1)
  tree_read (ACallOfNone scope l f p q ts us j d) h = let x = tree_read d h in (rolled.tree-Call f [] ∙ and_true (tree_named f.node) (each_named tree_named []) x.0 refl, x.1)
  tree_read (AMember scope l e x p s ts us j d) h = let a = tree_read d h in (rolled.tree-Member e x ∙ a.0, (both_true (is_name x) (tokens_named us) a.1).1)
  tree_read (AnArrow scope l e x p s ts us j d) h = let a = tree_read d h in (rolled.tree-Arrow e x ∙ a.0, (both_true (is_name x) (tokens_named us) a.1).1)
  tree_read (APostfix scope l e o p ts us j i d) h = let a = tree_read d h in (rolled.tree-Postfix e o ∙ a.0, a.1)
  tree_read (APrefix scope l k o e p ts us j i d) h = let a = tree_read d h in (rolled.tree-Prefix o e ∙ a.0, a.1)
  tree_read (ASizeOf scope l e p ts us j d) h = let a = tree_read d h in (rolled.tree-SizeOf e ∙ a.0, a.1)
  tree_read (ASizeOfType scope l t s p q ts us j d) h = let a = type_name_read d h in (rolled.tree-SizeOfType t ∙ a.0, a.1)
  tree_read (AnExtension scope l e p ts us j d) h = let a = tree_read d h in (rolled.tree-Extension e ∙ a.0, a.1)
  tree_read (ACast scope l t e p q ts us vs j d k) h = let x = type_name_read d h in let y = tree_read k x.1 in (rolled.tree-Cast t e ∙ and_true (type_name_named t) (tree_named e.node) x.0 y.0, y.1)
  tree_read (ABinary scope l k o a b p ts us vs j i d g) h = let x = tree_read d h in let y = tree_read g x.1 in (rolled.tree-Binary o a b ∙ and_true (tree_named a.node) (tree_named b.node) x.0 y.0, y.1)
  tree_read (AChoice scope l c a b p q ts us vs ws j d k g) h =
      let x = tree_read d h in
      let y = tree_read k x.1 in
      let z = tree_read g y.1 in
      (rolled.tree-Choose c a b ∙ and_true (tree_named c.node) (tree_named a.node && tree_named b.node) x.0 (and_true (tree_named a.node) (tree_named b.node) y.0 z.0), z.1)
  tree_read (AnAssignment scope l o a b p ts us vs j i d k) h = let x = tree_read d h in let y = tree_read k x.1 in (rolled.tree-Assign o a b ∙ and_true (tree_named a.node) (tree_named b.node) x.0 y.0, y.1)
  tree_read (AComma scope a b p ts us vs d k) h = let x = tree_read d h in let y = tree_read k x.1 in (rolled.tree-Comma a b ∙ and_true (tree_named a.node) (tree_named b.node) x.0 y.0, y.1)

  pub args_read : {scope : Scope} {es : List (At Tree)} {ts us : Tokens} → IsArgs scope es ts us → tokens_named ts ≡ true → (each_named tree_named es ≡ true) × (tokens_named us ≡ true)
  args_read (FirstArg scope e ts us d) h = let x = tree_read d h in (each_one tree_named e x.0, x.1)
  args_read (MoreArgs scope es e c ts us vs d k) h = let x = args_read d h in let y = tree_read k x.1 in (each_more tree_named es e x.0 y.0, y.1)

  pub type_name_read : {scope : Scope} {t : TypeName} {ts us : Tokens} → IsTypeName scope t ts us → tokens_named ts ≡ true → (type_name_named t ≡ true) × (tokens_named us ≡ true)
  type_name_read (ATypeName scope specs d ts us vs a b i) h =
      let x = specs_read a h in let y = declr_read b x.1 in (rolled.type_name-is specs d ∙ and_true (each_named spec_named specs) (declr_named d.node).0 x.0 y.0, y.2)

  pub specs_read : {scope : Scope} {ss : List (At Spec)} {ts us : Tokens} → IsSpecs scope ss ts us → tokens_named ts ≡ true → (each_named spec_named ss ≡ true) × (tokens_named us ≡ true)
  specs_read (Specs scope specs ts us d i j) h = spec_list_read d h

  pub spec_list_read : {scope : Scope} {ss : List (At Spec)} {ts us : Tokens} → IsSpecList scope ss ts us → tokens_named ts ≡ true → (each_named spec_named ss ≡ true) × (tokens_named us ≡ true)
  spec_list_read (NoSpec scope ts) h = (refl, h)
  spec_list_read (MoreSpecs scope ss s ts us vs d k) h = let x = spec_list_read d h in let y = spec_read k x.1 in (each_more spec_named ss s x.0 y.0, y.1)

  pub spec_read : {scope : Scope} {s : At Spec} {ts us : Tokens} → IsSpec scope s ts us → tokens_named ts ≡ true → (spec_named s.node ≡ true) × (tokens_named us ≡ true)
  spec_read (AWord scope x s us i) h = (rolled.spec-Word x, h)
  spec_read (ATypedefName scope x s us i) h = (rolled.spec-Named x, (both_true (is_name x) (tokens_named us) h).1)
  spec_read (AnAttr scope a ts us d) h = (rolled.spec-Attr a.node, attr_named d h)
  spec_read (AStructure scope tag ms a b s p q t0 t1 t2 t3 t4 d e f g) h =
      let w = tag_read e (attrs_named d h) in
      let x = members_read f w.1 in
      (rolled.spec-Struct tag ms a b ∙ and_true (tag_named tag) (one_or_more ms && each_named members_named ms) w.0 (and_true (one_or_more ms) (each_named members_named ms) (members_some f) x.0), attrs_named g x.1)
  spec_read (ANamedStructure scope x s p us) h = let c = both_true (is_name x) (tokens_named us) h in (rolled.spec-NamedStruct (Some x) [] [] ∙ and_true (is_name x) true c.0 refl, c.1)
  spec_read (AnEnumeration scope tag es s p q ts us vs ws d e f) h = let x = enumrs_read e (tag_read d h).1 in (rolled.spec-Enum tag es ∙ x.0, comma_named f x.1)
  spec_read (ANamedEnumeration scope x s p us) h = (rolled.spec-NamedEnum (Some x), (both_true (is_name x) (tokens_named us) h).1)

  pub members_read : {scope : Scope} {ds : List (At MemberDecl)} {ts us : Tokens} → IsMembers scope ds ts us → tokens_named ts ≡ true → (each_named members_named ds ≡ true) × (tokens_named us ≡ true)
  members_read (FirstMember scope d ts us a) h = let x = member_read a h in (each_one members_named d x.0, x.1)
  members_read (MoreMembers scope ds d ts us vs a b) h = let x = members_read a h in let y = member_read b x.1 in (each_more members_named ds d x.0 y.0, y.1)

  pub member_read : {scope : Scope} {d : At MemberDecl} {ts us : Tokens} → IsMember scope d ts us → tokens_named ts ≡ true → (members_named d.node ≡ true) × (tokens_named us ≡ true)
  member_read (AMemberDecl scope specs ds q ts us vs a b) h =
      let x = specs_read a h in let y = declrs_read b x.1 in (rolled.members-is specs ds ∙ and_true (each_named spec_named specs) (one_or_more ds && each_named member_named ds) x.0 (and_true (one_or_more ds) (each_named member_named ds) (declrs_some b) y.0), y.1)

  pub declrs_read : {scope : Scope} {ds : List (At Declr)} {ts us : Tokens} → IsDeclrs scope ds ts us → tokens_named ts ≡ true → (each_named member_named ds ≡ true) × (tokens_named us ≡ true)
  declrs_read (FirstDeclr scope d x ts us a i) h = let y = declr_read a h in (each_one member_named d (and_true (declr_named d.node).0 (declr_named d.node).1 y.0 (y.1 ∙ ap is_some i)), y.2)
  declrs_read (MoreDeclrs scope ds d x c ts us vs a b i) h = let y = declrs_read a h in let z = declr_read b y.1 in (each_more member_named ds d y.0 (and_true (declr_named d.node).0 (declr_named d.node).1 z.0 (z.1 ∙ ap is_some i)), z.2)

  pub enumrs_read : {scope : Scope} {es : List (At Enumr)} {ts us : Tokens} → IsEnumrs scope es ts us → tokens_named ts ≡ true → (each_named enumr_named es ≡ true) × (tokens_named us ≡ true)
  enumrs_read (FirstEnumr scope e ts us a) h = let x = enumr_read a h in (each_one enumr_named e x.0, x.1)
  enumrs_read (MoreEnumrs scope es e c ts us vs a b) h = let x = enumrs_read a h in let y = enumr_read b x.1 in (each_more enumr_named es e x.0 y.0, y.1)

  pub enumr_read : {scope : Scope} {e : At Enumr} {ts us : Tokens} → IsEnumr scope e ts us → tokens_named ts ≡ true → (enumr_named e.node ≡ true) × (tokens_named us ≡ true)
  enumr_read (AnEnumr scope x s us i) h = (rolled.enumr-none x, (both_true (is_name x) (tokens_named us) h).1)
  enumr_read (AValuedEnumr scope x e s p ts us i d) h = let y = tree_read d (both_true (is_name x) (tokens_named ts) h).1 in (rolled.enumr-some x e ∙ y.0, y.1)

  pub declr_read : {scope : Scope} {direct : Bool} {d : At Declr} {ts us : Tokens} → IsDeclr scope direct d ts us → tokens_named ts ≡ true → ((declr_named d.node).0 ≡ true) × ((declr_named d.node).1 ≡ is_some (name_of d.node)) × (tokens_named us ≡ true)
  declr_read (NoName scope direct ts) h = (ap (λ (n : HasNames). n.0) rolled.declr-Nothing, ap (λ (n : HasNames). n.1) rolled.declr-Nothing ∙ sym (ap is_some name_of-Nothing), h)
  declr_read (DeclaredName scope direct x s us i) h =
      let c = both_true (is_name x) (tokens_named us) h in
      (ap (λ (n : HasNames). n.0) (rolled.declr-Named x) ∙ c.0, ap (λ (n : HasNames). n.1) (rolled.declr-Named x) ∙ sym (ap is_some (name_of-Named x)), c.1)
  declr_read (DeclrInParens scope direct d p q ts us i a) h =
      let x = declr_read a h in
      (ap (λ (n : HasNames). n.0) (rolled.declr-Paren d) ∙ x.0, ap (λ (n : HasNames). n.1) (rolled.declr-Paren d) ∙ (x.1 ∙ sym (ap is_some (name_of-Paren d))), x.2)
  declr_read (APointer scope qs d p ts us vs a b) h =
      let x = declr_read b (qualifiers_named a h) in
      (ap (λ (n : HasNames). n.0) (rolled.declr-Pointer qs d) ∙ x.0, ap (λ (n : HasNames). n.1) (rolled.declr-Pointer qs d) ∙ (x.1 ∙ sym (ap is_some (name_of-Pointer qs d))), x.2)
  declr_read (AnArray scope direct d n p q ts us vs a b) h =
      let x = declr_read a h in
      let y = tree_read b x.2 in
      (ap (λ (n : HasNames). n.0) (rolled.declr-Array d n) ∙ and_true (declr_named d.node).0 (tree_named n.node) x.0 y.0, ap (λ (n : HasNames). n.1) (rolled.declr-Array d n) ∙ (x.1 ∙ sym (ap is_some (name_of-Array d (Some n)))), y.1)
  declr_read (AnOpenArray scope direct d p q ts us a) h =
      let x = declr_read a h in
      (ap (λ (n : HasNames). n.0) (rolled.declr-OpenArray d) ∙ and_true (declr_named d.node).0 true x.0 refl, ap (λ (n : HasNames). n.1) (rolled.declr-OpenArray d) ∙ (x.1 ∙ sym (ap is_some (name_of-Array d None))), x.2)
  declr_read (AFunction scope direct d ps p q ts us vs a b) h =
      let x = declr_read a h in
      let y = params_read b x.2 in
      (ap (λ (n : HasNames). n.0) (rolled.declr-Func d ps) ∙ and_true (declr_named d.node).0 (params_named ps) x.0 y.0, ap (λ (n : HasNames). n.1) (rolled.declr-Func d ps) ∙ (x.1 ∙ sym (ap is_some (name_of-Func d ps))), y.1)

  pub params_read : {scope : Scope} {ps : Params} {ts us : Tokens} → IsParams scope ps ts us → tokens_named ts ≡ true → (params_named ps ≡ true) × (tokens_named us ≡ true)
  params_read (NoParams scope ts) h = (rolled.params-Empty, h)
  params_read (VoidParams scope s us) h = (rolled.params-Void, h)
  params_read (ManyParams scope ps ts us i a) h = let x = param_list_read a h in (rolled.params-Many ps ∙ x.0, x.1)

  pub param_list_read : {scope : Scope} {ps : List (At Param)} {ts us : Tokens} → IsParamList scope ps ts us → tokens_named ts ≡ true → (each_named param_named ps ≡ true) × (tokens_named us ≡ true)
  param_list_read (FirstParam scope p ts us a) h = let x = param_read a h in (each_one param_named p x.0, x.1)
  param_list_read (MoreParams scope ps p c ts us vs a b) h = let x = param_list_read a h in let y = param_read b x.1 in (each_more param_named ps p x.0 y.0, y.1)

  pub param_read : {scope : Scope} {p : At Param} {ts us : Tokens} → IsParam scope p ts us → tokens_named ts ≡ true → (param_named p.node ≡ true) × (tokens_named us ≡ true)
  param_read (AParam scope specs d ts us vs a b) h =
      let x = specs_read a h in let y = declr_read b x.1 in (rolled.param-is specs d ∙ and_true (each_named spec_named specs) (declr_named d.node).0 x.0 y.0, y.2)
