-- Expressions, type names, specifiers and declarators (C99 6.5, 6.7.2 to 6.7.6), a constructor for each
-- production. In each relation the construct is spelled by the tokens of the first list up to where the
-- second list begins.
use Rattle.std.specs.Prelude.{◌≡◌, ◌≤◌, ℕ, suc, Bool, true, false, ◌&&◌, not, List, [], ◌∷◌, ◌++◌, Option, Some, None, is_some}
use Rattle.std.specs.List.{list_any}
use Rattle.cc_lex.specs.declared.token.Mark.{Mark}
use Rattle.cc_lex.specs.declared.token.Mark.TheVariants as m
use Rattle.cc_lex.specs.declared.token.Suffix.{Suffix}
use Rattle.cc_words.specs.declared.word.Word.{Word}
use Rattle.cc_words.specs.declared.word.Word.TheVariants as w
use Rattle.cc_tree.specs.declared.at.At.{At}
use Rattle.cc_tree.specs.declared.tree.Attr.{Attr}
use Rattle.cc_tree.specs.declared.tree.Declr as declr
use Rattle.cc_tree.specs.declared.tree.Declr.{Declr}
use Rattle.cc_tree.specs.declared.tree.Declr.TheOpen as one
use Rattle.cc_tree.specs.declared.tree.Enumr.{Enumr}
use Rattle.cc_tree.specs.declared.tree.MemberDecl.{MemberDecl}
use Rattle.cc_tree.specs.declared.tree.Param.{Param}
use Rattle.cc_tree.specs.declared.tree.Params as params
use Rattle.cc_tree.specs.declared.tree.Params.{Params}
use Rattle.cc_tree.specs.declared.tree.Spec as spec
use Rattle.cc_tree.specs.declared.tree.Spec.{Spec}
use Rattle.cc_tree.specs.declared.tree.Tree as tree
use Rattle.cc_tree.specs.declared.tree.Tree.{Tree}
use Rattle.cc_tree.specs.declared.tree.TypeName.{TypeName}
use Rattle.cc_tree.specs.Operators.{comma_level, assignment_level, conditional_level, cast_level, unary_level, postfix_level, binary_level, is_assignment, operand_level, is_postfix}
use Rattle.cc_tree.specs.Scopes.{Scope, is_typedef, name_of}
use Rattle.cc_tree.specs.Tokens.{Tokens, Name, Span, mark, word, ident, number, character, text, at}

-- text { text }: the bytes of neighbouring literals, joined
pub data IsTexts : List ℕ → Tokens → Tokens → Type 0 where
  LastText : (b : List ℕ) (s : Span) (us : Tokens) → IsTexts b (text b s ∷ us) us
  MoreText : (b c : List ℕ) (s : Span) (ts us : Tokens) → IsTexts c ts us → IsTexts (b ++ c) (text b s ∷ ts) us

-- { qualifier }
abbrev pub is_qualifier : Word → Bool
is_qualifier w.Const = true
is_qualifier w.Volatile = true
is_qualifier w.Restrict = true
is_qualifier _ = false

pub data IsQualifiers : List Word → Tokens → Tokens → Type 0 where
  NoQualifier : (ts : Tokens) → IsQualifiers [] ts ts
  MoreQualifiers : (q : Word) (qs : List Word) (s : Span) (ts us : Tokens) → is_qualifier q ≡ true → IsQualifiers qs ts us → IsQualifiers (q ∷ qs) (word q s ∷ ts) us

-- a storage class, a qualifier, a basic type's word, `inline` or `__extension__`
abbrev pub is_spec_word : Word → Bool
is_spec_word w.Typedef = true
is_spec_word w.Extern = true
is_spec_word w.Static = true
is_spec_word w.Auto = true
is_spec_word w.Register = true
is_spec_word w.Const = true
is_spec_word w.Volatile = true
is_spec_word w.Restrict = true
is_spec_word w.Void = true
is_spec_word w.Char = true
is_spec_word w.Short = true
is_spec_word w.Int = true
is_spec_word w.Long = true
is_spec_word w.Signed = true
is_spec_word w.Unsigned = true
is_spec_word w.Bool = true
is_spec_word w.Inline = true
is_spec_word w.Extension = true
is_spec_word _ = false

-- name [ "(" name ")" ]
pub data IsAttrWord : Name × Option Name → Tokens → Tokens → Type 0 where
  AttrName : (x : Name) (s : Span) (us : Tokens) → IsAttrWord (x, None) (ident x s ∷ us) us
  AttrCall : (x y : Name) (s p r q : Span) (us : Tokens) → IsAttrWord (x, Some y) (ident x s ∷ mark m.LParen p ∷ ident y r ∷ mark m.RParen q ∷ us) us

pub data IsAttrWords : List (Name × Option Name) → Tokens → Tokens → Type 0 where
  LastAttrWord : (a : Name × Option Name) (ts us : Tokens) → IsAttrWord a ts us → IsAttrWords (a ∷ []) ts us
  MoreAttrWords : (a : Name × Option Name) (more : List (Name × Option Name)) (c : Span) (ts us vs : Tokens) → IsAttrWord a ts (mark m.Comma c ∷ us) → IsAttrWords more us vs →
      IsAttrWords (a ∷ more) ts vs

-- "__attribute__" "(" "(" [ words ] ")" ")"
pub data IsAttr : At Attr → Tokens → Tokens → Type 0 where
  AttrOfNone : (s p q r t : Span) (us : Tokens) →
      IsAttr (record { at = s.0; node = record { words = [] } }) (word w.Attribute s ∷ mark m.LParen p ∷ mark m.LParen q ∷ mark m.RParen r ∷ mark m.RParen t ∷ us) us
  AttrOf : (words : List (Name × Option Name)) (s p q r t : Span) (ts us : Tokens) → IsAttrWords words ts (mark m.RParen r ∷ mark m.RParen t ∷ us) →
      IsAttr (record { at = s.0; node = record { words = words } }) (word w.Attribute s ∷ mark m.LParen p ∷ mark m.LParen q ∷ ts) us

pub data IsAttrs : List (At Attr) → Tokens → Tokens → Type 0 where
  NoAttr : (ts : Tokens) → IsAttrs [] ts ts
  MoreAttrs : (a : At Attr) (more : List (At Attr)) (ts us vs : Tokens) → IsAttr a ts us → IsAttrs more us vs → IsAttrs (a ∷ more) ts vs

-- [ name ] in front of the brace of a structure or an enumeration
pub data IsTag : Option Name → Tokens → Tokens → Type 0 where
  NoTag : (ts : Tokens) → IsTag None ts ts
  ATag : (x : Name) (s : Span) (us : Tokens) → IsTag (Some x) (ident x s ∷ us) us

-- [ "," ] in front of a closing brace
pub data IsLastComma : Tokens → Tokens → Type 0 where
  NoComma : (ts : Tokens) → IsLastComma ts ts
  AComma : (s : Span) (ts : Tokens) → IsLastComma (mark m.Comma s ∷ ts) ts

-- Specifiers have a word other than `__extension__`.
abbrev pub is_extension : Spec → Bool
is_extension (spec.Word w.Extension) = true
is_extension _ = false

abbrev pub have_word : List (At Spec) → Bool
have_word specs = list_any (λ s. not (is_extension s.node)) specs

-- Attributes right behind the brace that closes a structure belong to the structure.
abbrev pub ends_open : {A B C D E F G H : Type 0} → one.Spec-F A B C D E F G H → Bool
ends_open (one.Struct x ms a b) = is_some ms
ends_open _ = false

abbrev pub ends_structure : Spec → Bool
ends_structure s = ends_open (spec.out-Spec s)

abbrev pub is_attr : Spec → Bool
is_attr (spec.Attr a) = true
is_attr _ = false

-- of two neighbours, no attribute stands right behind a structure's brace
abbrev pub AttrsApart : List (At Spec) → Type 0
AttrsApart specs = (before behind : List (At Spec)) (s t : At Spec) → specs ≡ before ++ s ∷ t ∷ behind → ends_structure s.node ≡ true → is_attr t.node ≡ false

abbrev pub is_nothing : Declr → Bool
is_nothing declr.Nothing = true
is_nothing _ = false

-- `void` alone is no list of parameters
abbrev pub is_void : Spec → Bool
is_void (spec.Word w.Void) = true
is_void _ = false

abbrev pub is_void_list : List (At Spec) → Bool
is_void_list (s ∷ []) = is_void s.node
is_void_list _ = false

abbrev pub is_only_void : List (At Param) → Bool
is_only_void (p ∷ []) = is_void_list p.node.specs && is_nothing p.node.declr.node
is_only_void _ = false

mutual
  -- an expression that may stand where one of this level or a tighter one is wanted
  pub data IsTree : Scope → ℕ → At Tree → Tokens → Tokens → Type 0 where
    AName : (scope : Scope) (l : ℕ) (x : Name) (s : Span) (us : Tokens) → is_typedef scope x ≡ false → IsTree scope l (record { at = s.0; node = tree.Named x }) (ident x s ∷ us) us
    ANumber : (scope : Scope) (l n : ℕ) (f : Suffix) (s : Span) (us : Tokens) → IsTree scope l (record { at = s.0; node = tree.Number n f }) (number n f s ∷ us) us
    ACharacter : (scope : Scope) (l c : ℕ) (s : Span) (us : Tokens) → IsTree scope l (record { at = s.0; node = tree.Character c }) (character c s ∷ us) us
    AText : (scope : Scope) (l : ℕ) (b : List ℕ) (ts us : Tokens) → IsTexts b ts us → IsTree scope l (at ts (tree.Text b)) ts us
    InParens : (scope : Scope) (l : ℕ) (e : At Tree) (p q : Span) (ts us : Tokens) → IsTree scope comma_level e ts (mark m.RParen q ∷ us) →
        IsTree scope l (record { at = p.0; node = tree.Paren e }) (mark m.LParen p ∷ ts) us
    -- 6.5.2
    ASubscript : (scope : Scope) (l : ℕ) (a i : At Tree) (p q : Span) (ts us vs : Tokens) → l ≤ postfix_level → IsTree scope postfix_level a ts (mark m.LBracket p ∷ us) →
        IsTree scope comma_level i us (mark m.RBracket q ∷ vs) → IsTree scope l (at ts (tree.Subscript a i)) ts vs
    ACall : (scope : Scope) (l : ℕ) (f : At Tree) (es : List (At Tree)) (p q : Span) (ts us vs : Tokens) → l ≤ postfix_level → IsTree scope postfix_level f ts (mark m.LParen p ∷ us) →
        IsArgs scope es us (mark m.RParen q ∷ vs) → IsTree scope l (at ts (tree.Call f es)) ts vs
    ACallOfNone : (scope : Scope) (l : ℕ) (f : At Tree) (p q : Span) (ts us : Tokens) → l ≤ postfix_level → IsTree scope postfix_level f ts (mark m.LParen p ∷ mark m.RParen q ∷ us) →
        IsTree scope l (at ts (tree.Call f [])) ts us
    AMember : (scope : Scope) (l : ℕ) (e : At Tree) (x : Name) (p s : Span) (ts us : Tokens) → l ≤ postfix_level → IsTree scope postfix_level e ts (mark m.Dot p ∷ ident x s ∷ us) →
        IsTree scope l (at ts (tree.Member e x)) ts us
    AnArrow : (scope : Scope) (l : ℕ) (e : At Tree) (x : Name) (p s : Span) (ts us : Tokens) → l ≤ postfix_level → IsTree scope postfix_level e ts (mark m.Arrow p ∷ ident x s ∷ us) →
        IsTree scope l (at ts (tree.Arrow e x)) ts us
    APostfix : (scope : Scope) (l : ℕ) (e : At Tree) (o : Mark) (p : Span) (ts us : Tokens) → l ≤ postfix_level → is_postfix o ≡ true → IsTree scope postfix_level e ts (mark o p ∷ us) →
        IsTree scope l (at ts (tree.Postfix e o)) ts us
    -- 6.5.3
    APrefix : (scope : Scope) (l k : ℕ) (o : Mark) (e : At Tree) (p : Span) (ts us : Tokens) → l ≤ unary_level → operand_level o ≡ Some k → IsTree scope k e ts us →
        IsTree scope l (record { at = p.0; node = tree.Prefix o e }) (mark o p ∷ ts) us
    ASizeOf : (scope : Scope) (l : ℕ) (e : At Tree) (p : Span) (ts us : Tokens) → l ≤ unary_level → IsTree scope unary_level e ts us →
        IsTree scope l (record { at = p.0; node = tree.SizeOf e }) (word w.Sizeof p ∷ ts) us
    ASizeOfType : (scope : Scope) (l : ℕ) (t : TypeName) (s p q : Span) (ts us : Tokens) → l ≤ unary_level → IsTypeName scope t ts (mark m.RParen q ∷ us) →
        IsTree scope l (record { at = s.0; node = tree.SizeOfType t }) (word w.Sizeof s ∷ mark m.LParen p ∷ ts) us
    AnExtension : (scope : Scope) (l : ℕ) (e : At Tree) (p : Span) (ts us : Tokens) → l ≤ unary_level → IsTree scope cast_level e ts us →
        IsTree scope l (record { at = p.0; node = tree.Extension e }) (word w.Extension p ∷ ts) us
    -- 6.5.4
    ACast : (scope : Scope) (l : ℕ) (t : TypeName) (e : At Tree) (p q : Span) (ts us vs : Tokens) → l ≤ cast_level → IsTypeName scope t ts (mark m.RParen q ∷ us) → IsTree scope cast_level e us vs →
        IsTree scope l (record { at = p.0; node = tree.Cast t e }) (mark m.LParen p ∷ ts) vs
    -- 6.5.5 to 6.5.14, to the left
    ABinary : (scope : Scope) (l k : ℕ) (o : Mark) (a b : At Tree) (p : Span) (ts us vs : Tokens) → l ≤ k → binary_level o ≡ Some k → IsTree scope k a ts (mark o p ∷ us) →
        IsTree scope (suc k) b us vs → IsTree scope l (at ts (tree.Binary o a b)) ts vs
    -- 6.5.15
    AChoice : (scope : Scope) (l : ℕ) (c a b : At Tree) (p q : Span) (ts us vs ws : Tokens) → l ≤ conditional_level → IsTree scope (suc conditional_level) c ts (mark m.Question p ∷ us) →
        IsTree scope comma_level a us (mark m.Colon q ∷ vs) → IsTree scope conditional_level b vs ws → IsTree scope l (at ts (tree.Choose c a b)) ts ws
    -- 6.5.16, to the right
    AnAssignment : (scope : Scope) (l : ℕ) (o : Mark) (a b : At Tree) (p : Span) (ts us vs : Tokens) → l ≤ assignment_level → is_assignment o ≡ true →
        IsTree scope unary_level a ts (mark o p ∷ us) → IsTree scope assignment_level b us vs → IsTree scope l (at ts (tree.Assign o a b)) ts vs
    -- 6.5.17
    AComma : (scope : Scope) (a b : At Tree) (p : Span) (ts us vs : Tokens) → IsTree scope comma_level a ts (mark m.Comma p ∷ us) → IsTree scope assignment_level b us vs →
        IsTree scope comma_level (at ts (tree.Comma a b)) ts vs

  -- assign { "," assign }, 6.5.2: to the left, as all lists below
  pub data IsArgs : Scope → List (At Tree) → Tokens → Tokens → Type 0 where
    FirstArg : (scope : Scope) (e : At Tree) (ts us : Tokens) → IsTree scope assignment_level e ts us → IsArgs scope (e ∷ []) ts us
    MoreArgs : (scope : Scope) (es : List (At Tree)) (e : At Tree) (c : Span) (ts us vs : Tokens) → IsArgs scope es ts (mark m.Comma c ∷ us) → IsTree scope assignment_level e us vs →
        IsArgs scope (es ++ e ∷ []) ts vs

  -- specs [ absdecl ]
  pub data IsTypeName : Scope → TypeName → Tokens → Tokens → Type 0 where
    ATypeName : (scope : Scope) (specs : List (At Spec)) (d : At Declr) (ts us vs : Tokens) → IsSpecs scope specs ts us → IsDeclr scope false d us vs → name_of d.node ≡ None →
        IsTypeName scope (record { specs = specs; declr = d }) ts vs

  -- spec { spec }
  pub data IsSpecs : Scope → List (At Spec) → Tokens → Tokens → Type 0 where
    Specs : (scope : Scope) (specs : List (At Spec)) (ts us : Tokens) → IsSpecList scope specs ts us → have_word specs ≡ true → AttrsApart specs → IsSpecs scope specs ts us

  pub data IsSpecList : Scope → List (At Spec) → Tokens → Tokens → Type 0 where
    NoSpec : (scope : Scope) (ts : Tokens) → IsSpecList scope [] ts ts
    MoreSpecs : (scope : Scope) (ss : List (At Spec)) (s : At Spec) (ts us vs : Tokens) → IsSpecList scope ss ts us → IsSpec scope s us vs → IsSpecList scope (ss ++ s ∷ []) ts vs

  pub data IsSpec : Scope → At Spec → Tokens → Tokens → Type 0 where
    AWord : (scope : Scope) (x : Word) (s : Span) (us : Tokens) → is_spec_word x ≡ true → IsSpec scope (record { at = s.0; node = spec.Word x }) (word x s ∷ us) us
    ATypedefName : (scope : Scope) (x : Name) (s : Span) (us : Tokens) → is_typedef scope x ≡ true → IsSpec scope (record { at = s.0; node = spec.Named x }) (ident x s ∷ us) us
    AnAttr : (scope : Scope) (a : At Attr) (ts us : Tokens) → IsAttr a ts us → IsSpec scope (record { at = a.at; node = spec.Attr a.node }) ts us
    -- 6.7.2.1
    AStructure : (scope : Scope) (tag : Option Name) (ms : List (At MemberDecl)) (a b : List (At Attr)) (s p q : Span) (t0 t1 t2 t3 t4 : Tokens) → IsAttrs a t0 t1 → IsTag tag t1 (mark m.LBrace p ∷ t2) →
        IsMembers scope ms t2 (mark m.RBrace q ∷ t3) → IsAttrs b t3 t4 → IsSpec scope (record { at = s.0; node = spec.Struct tag (Some ms) a b }) (word w.Struct s ∷ t0) t4
    ANamedStructure : (scope : Scope) (x : Name) (s p : Span) (us : Tokens) → IsSpec scope (record { at = s.0; node = spec.Struct (Some x) None [] [] }) (word w.Struct s ∷ ident x p ∷ us) us
    -- 6.7.2.2
    AnEnumeration : (scope : Scope) (tag : Option Name) (es : List (At Enumr)) (s p q : Span) (ts us vs ws : Tokens) → IsTag tag ts (mark m.LBrace p ∷ us) → IsEnumrs scope es us vs → IsLastComma vs (mark m.RBrace q ∷ ws) →
        IsSpec scope (record { at = s.0; node = spec.Enum tag (Some es) }) (word w.Enum s ∷ ts) ws
    ANamedEnumeration : (scope : Scope) (x : Name) (s p : Span) (us : Tokens) → IsSpec scope (record { at = s.0; node = spec.Enum (Some x) None }) (word w.Enum s ∷ ident x p ∷ us) us

  -- member { member }
  pub data IsMembers : Scope → List (At MemberDecl) → Tokens → Tokens → Type 0 where
    FirstMember : (scope : Scope) (d : At MemberDecl) (ts us : Tokens) → IsMember scope d ts us → IsMembers scope (d ∷ []) ts us
    MoreMembers : (scope : Scope) (ds : List (At MemberDecl)) (d : At MemberDecl) (ts us vs : Tokens) → IsMembers scope ds ts us → IsMember scope d us vs → IsMembers scope (ds ++ d ∷ []) ts vs

  -- specs declr { "," declr } ";"
  pub data IsMember : Scope → At MemberDecl → Tokens → Tokens → Type 0 where
    AMemberDecl : (scope : Scope) (specs : List (At Spec)) (ds : List (At Declr)) (q : Span) (ts us vs : Tokens) → IsSpecs scope specs ts us → IsDeclrs scope ds us (mark m.Semi q ∷ vs) →
        IsMember scope (at ts (record { specs = specs; declrs = ds })) ts vs

  -- declr { "," declr }, each with a name
  pub data IsDeclrs : Scope → List (At Declr) → Tokens → Tokens → Type 0 where
    FirstDeclr : (scope : Scope) (d : At Declr) (x : Name) (ts us : Tokens) → IsDeclr scope false d ts us → name_of d.node ≡ Some x → IsDeclrs scope (d ∷ []) ts us
    MoreDeclrs : (scope : Scope) (ds : List (At Declr)) (d : At Declr) (x : Name) (c : Span) (ts us vs : Tokens) → IsDeclrs scope ds ts (mark m.Comma c ∷ us) → IsDeclr scope false d us vs → name_of d.node ≡ Some x →
        IsDeclrs scope (ds ++ d ∷ []) ts vs

  -- enumr { "," enumr }
  pub data IsEnumrs : Scope → List (At Enumr) → Tokens → Tokens → Type 0 where
    FirstEnumr : (scope : Scope) (e : At Enumr) (ts us : Tokens) → IsEnumr scope e ts us → IsEnumrs scope (e ∷ []) ts us
    MoreEnumrs : (scope : Scope) (es : List (At Enumr)) (e : At Enumr) (c : Span) (ts us vs : Tokens) → IsEnumrs scope es ts (mark m.Comma c ∷ us) → IsEnumr scope e us vs → IsEnumrs scope (es ++ e ∷ []) ts vs

  -- name [ "=" cond ]
  pub data IsEnumr : Scope → At Enumr → Tokens → Tokens → Type 0 where
    AnEnumr : (scope : Scope) (x : Name) (s : Span) (us : Tokens) → is_typedef scope x ≡ false → IsEnumr scope (record { at = s.0; node = record { name = x; value = None } }) (ident x s ∷ us) us
    AValuedEnumr : (scope : Scope) (x : Name) (e : At Tree) (s p : Span) (ts us : Tokens) → is_typedef scope x ≡ false → IsTree scope conditional_level e ts us →
        IsEnumr scope (record { at = s.0; node = record { name = x; value = Some e } }) (ident x s ∷ mark m.Assign p ∷ ts) us

  -- declr, and absdecl, where the name is left out. The flag says that it is a direct one: no pointer.
  pub data IsDeclr : Scope → Bool → At Declr → Tokens → Tokens → Type 0 where
    NoName : (scope : Scope) (direct : Bool) (ts : Tokens) → IsDeclr scope direct (at ts declr.Nothing) ts ts
    DeclaredName : (scope : Scope) (direct : Bool) (x : Name) (s : Span) (us : Tokens) → is_typedef scope x ≡ false → IsDeclr scope direct (record { at = s.0; node = declr.Named x }) (ident x s ∷ us) us
    DeclrInParens : (scope : Scope) (direct : Bool) (d : At Declr) (p q : Span) (ts us : Tokens) → is_nothing d.node ≡ false → IsDeclr scope false d ts (mark m.RParen q ∷ us) →
        IsDeclr scope direct (record { at = p.0; node = declr.Paren d }) (mark m.LParen p ∷ ts) us
    APointer : (scope : Scope) (qs : List Word) (d : At Declr) (p : Span) (ts us vs : Tokens) → IsQualifiers qs ts us → IsDeclr scope false d us vs →
        IsDeclr scope false (record { at = p.0; node = declr.Pointer qs d }) (mark m.Star p ∷ ts) vs
    AnArray : (scope : Scope) (direct : Bool) (d : At Declr) (bound : At Tree) (p q : Span) (ts us vs : Tokens) → IsDeclr scope true d ts (mark m.LBracket p ∷ us) →
        IsTree scope conditional_level bound us (mark m.RBracket q ∷ vs) → IsDeclr scope direct (at ts (declr.Array d (Some bound))) ts vs
    AnOpenArray : (scope : Scope) (direct : Bool) (d : At Declr) (p q : Span) (ts us : Tokens) → IsDeclr scope true d ts (mark m.LBracket p ∷ mark m.RBracket q ∷ us) →
        IsDeclr scope direct (at ts (declr.Array d None)) ts us
    AFunction : (scope : Scope) (direct : Bool) (d : At Declr) (ps : Params) (p q : Span) (ts us vs : Tokens) → IsDeclr scope true d ts (mark m.LParen p ∷ us) →
        IsParams scope ps us (mark m.RParen q ∷ vs) → IsDeclr scope direct (at ts (declr.Func d ps)) ts vs

  -- [ params ]
  pub data IsParams : Scope → Params → Tokens → Tokens → Type 0 where
    NoParams : (scope : Scope) (ts : Tokens) → IsParams scope params.Empty ts ts
    VoidParams : (scope : Scope) (s : Span) (us : Tokens) → IsParams scope params.Void (word w.Void s ∷ us) us
    ManyParams : (scope : Scope) (ps : List (At Param)) (ts us : Tokens) → is_only_void ps ≡ false → IsParamList scope ps ts us → IsParams scope (params.Many ps) ts us

  -- param { "," param }
  pub data IsParamList : Scope → List (At Param) → Tokens → Tokens → Type 0 where
    FirstParam : (scope : Scope) (p : At Param) (ts us : Tokens) → IsParam scope p ts us → IsParamList scope (p ∷ []) ts us
    MoreParams : (scope : Scope) (ps : List (At Param)) (p : At Param) (c : Span) (ts us vs : Tokens) → IsParamList scope ps ts (mark m.Comma c ∷ us) → IsParam scope p us vs → IsParamList scope (ps ++ p ∷ []) ts vs

  pub data IsParam : Scope → At Param → Tokens → Tokens → Type 0 where
    AParam : (scope : Scope) (specs : List (At Spec)) (d : At Declr) (ts us vs : Tokens) → IsSpecs scope specs ts us → IsDeclr scope false d us vs →
        IsParam scope (at ts (record { specs = specs; declr = d })) ts vs
