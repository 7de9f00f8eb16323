-- What the parser has read so far: the frames that wait are an unfinished sentence, and what is being read
-- stands in it. Every turn keeps this.
use Rattle.std.proofs.Common.{◌≡◌, ◌≤◌, ℕ, suc, Bool, true, false, List, [], ◌∷◌, ◌++◌, Some, None, length, max}
use Rattle.cc_lex.specs.declared.token.Mark.{Mark}
use Rattle.cc_lex.specs.declared.token.Mark.TheVariants as m
use Rattle.cc_words.specs.declared.word.Word.{Word}
use Rattle.cc_words.specs.declared.word.Word.TheVariants as w
use Rattle.cc_tree.specs.declared.at.At.{At}
use Rattle.cc_tree.specs.declared.state.Block.{Block}
use Rattle.cc_tree.specs.declared.state.Control.{Control}
use Rattle.cc_tree.specs.declared.state.Control.TheVariants as control
use Rattle.cc_tree.specs.declared.state.Declaration.{Declaration}
use Rattle.cc_tree.specs.declared.state.DeclrFrame.TheVariants as for_declr
use Rattle.cc_tree.specs.declared.state.Enumeration.{Enumeration}
use Rattle.cc_tree.specs.declared.state.For.{For}
use Rattle.cc_tree.specs.declared.state.Frame.{Frame}
use Rattle.cc_tree.specs.declared.state.Frame.TheVariants as frame
use Rattle.cc_tree.specs.declared.state.Function.{Function}
use Rattle.cc_tree.specs.declared.state.Head.{Head}
use Rattle.cc_tree.specs.declared.state.Items.{Items}
use Rattle.cc_tree.specs.declared.state.LineFrame.TheVariants as for_line
use Rattle.cc_tree.specs.declared.state.Members.{Members}
use Rattle.cc_tree.specs.declared.state.PartFrame.TheVariants as for_part
use Rattle.cc_tree.specs.declared.state.SpecsFrame.TheVariants as for_specs
use Rattle.cc_tree.specs.declared.state.Structure.{Structure}
use Rattle.cc_tree.specs.declared.state.Tall.{Tall}
use Rattle.cc_tree.specs.declared.state.TreeFrame.TheVariants as for_tree
use Rattle.cc_tree.specs.declared.state.Use.{Use}
use Rattle.cc_tree.specs.declared.state.Use.TheVariants as used
use Rattle.cc_tree.specs.declared.state.ValueFrame.TheVariants as for_value
use Rattle.cc_tree.specs.declared.tree.Attr.{Attr}
use Rattle.cc_tree.specs.declared.tree.Declr.{Declr}
use Rattle.cc_tree.specs.declared.tree.Spec.{Spec}
use Rattle.cc_tree.specs.declared.tree.Tree.{Tree}
use Rattle.cc_tree.specs.declared.tree.TypeName.{TypeName}
use Rattle.cc_tree.specs.declared.unit.Decl.{Decl}
use Rattle.cc_tree.specs.declared.unit.Given.{Given}
use Rattle.cc_tree.specs.declared.unit.Item.{Item}
use Rattle.cc_tree.specs.declared.unit.Line.{Line}
use Rattle.cc_tree.specs.declared.unit.Unit.{Unit as UnitTree}
use Rattle.cc_tree.specs.Height.{height, height_of_declr, height_of_type, height_of_param, height_of_member, height_of_enumr, heights, specs_height, maybe_height, given_height, init_height, decl_height, first_height, line_height, item_height, unit_height}
use Rattle.cc_tree.specs.Machine.{scope_after, with_frame}
use Rattle.cc_tree.specs.Operators.{comma_level, assignment_level, conditional_level, cast_level, unary_level, postfix_level, binary_level, is_assignment, operand_level}
use Rattle.cc_tree.specs.Scopes.{Scope, is_typedef, name_of, declares_types}
use Rattle.cc_tree.specs.Sentences.{IsItem, IsItems}
use Rattle.cc_tree.specs.Statements.{IsGiven, IsGivens, IsInits, IsDecl, IsMaybe, IsFirst, IsStatement, IsLines, awaits_else}
use Rattle.cc_tree.specs.Terms.{IsTree, IsArgs, IsTypeName, IsSpecs, IsSpecList, IsMembers, IsDeclrs, IsEnumrs, IsDeclr, IsParamList, IsQualifiers, IsAttrs, IsTag}
use Rattle.cc_tree.specs.Tokens.{Tokens, Name, Span, mark, word, ident, offset}
use Rattle.cc_tree.specs.TurnLines.{after_else}
use Rattle.cc_tree.specs.Turns.{Turn}
use Rattle.std.specs.Prelude.{IfOk}

-- what was read, spelled by the tokens from the first list up to where the second begins, with its height

pub record ATree (scope : Scope) (level : ℕ) (e : Tall (At Tree)) (ts us : Tokens) : Type 0 where
  pub spelled : IsTree scope level e.node ts us
  pub high : e.height ≡ height e.node.node

pub record SomeSpecs (scope : Scope) (s : Tall (List (At Spec))) (ts us : Tokens) : Type 0 where
  pub spelled : IsSpecList scope s.node ts us
  pub high : s.height ≡ specs_height s.node

pub record TheSpecs (scope : Scope) (s : Tall (List (At Spec))) (ts us : Tokens) : Type 0 where
  pub spelled : IsSpecs scope s.node ts us
  pub high : s.height ≡ specs_height s.node

pub record ADeclr (scope : Scope) (direct : Bool) (d : Tall (At Declr)) (ts us : Tokens) : Type 0 where
  pub spelled : IsDeclr scope direct d.node ts us
  pub high : d.height ≡ height_of_declr d.node.node

pub record AType (scope : Scope) (t : Tall TypeName) (ts us : Tokens) : Type 0 where
  pub spelled : IsTypeName scope t.node ts us
  pub high : t.height ≡ height_of_type t.node

pub record AGiven (scope : Scope) (g : Tall (At Given)) (ts us : Tokens) : Type 0 where
  pub spelled : IsGiven scope g.node ts us
  pub high : g.height ≡ given_height g.node.node

pub record ADecl (scope after : Scope) (d : Tall Decl) (ts us : Tokens) : Type 0 where
  pub spelled : IsDecl scope after d.node ts us
  pub high : d.height ≡ decl_height d.node

-- an `else` that stands behind a statement doesn't belong to it
pub record ALine (scope : Scope) (l : Tall (At Line)) (ts us : Tokens) : Type 0 where
  pub spelled : IsStatement scope l.node ts us
  pub high : l.height ≡ line_height l.node.node
  pub apart : awaits_else l.node.node ≡ true → after_else us ≡ None

-- What is wanted. A declaration is wanted where no function is around it, or in one; the scope behind it is free.
pub data Need : Type 0 where
  NeedTree : ℕ → Need
  NeedSpecs : Need
  NeedDeclr : Need
  NeedValue : Need
  NeedDecl : Bool → Need
  NeedLine : Need
  NeedBody : Need

-- what is in scope behind a declarator of this name
abbrev pub declared_in : Bool → Name → Scope → Scope
declared_in true x scope = scope ++ x ∷ []
declared_in false x scope = scope

mutual
  -- The frames wait for what is needed, which begins here, with these typedef names in scope.
  pub data Inside (all : Tokens) : Scope → List Frame → Need → Tokens → Type 0 where
    -- expressions
    InOperators : (scope : Scope) (fs : List Frame) (l : ℕ) (ts : Tokens) → Inside all scope fs (NeedTree l) ts → Inside all scope (frame.Tree (for_tree.Operators l) ∷ fs) (NeedTree l) ts
    InBinary : (scope : Scope) (fs : List Frame) (l k : ℕ) (o : Mark) (a : Tall (At Tree)) (p : Span) (ts us : Tokens) → Inside all scope fs (NeedTree l) ts → l ≤ k → binary_level o ≡ Some k →
        ATree scope k a ts (mark o p ∷ us) → Inside all scope (frame.Tree (for_tree.Binary l o k a) ∷ fs) (NeedTree (suc k)) us
    InChoice : (scope : Scope) (fs : List Frame) (l : ℕ) (c : Tall (At Tree)) (p : Span) (ts us : Tokens) → Inside all scope fs (NeedTree l) ts → l ≤ conditional_level →
        ATree scope (suc conditional_level) c ts (mark m.Question p ∷ us) → Inside all scope (frame.Tree (for_tree.Choice l c) ∷ fs) (NeedTree comma_level) us
    InOtherwise : (scope : Scope) (fs : List Frame) (l : ℕ) (c a : Tall (At Tree)) (p q : Span) (ts us vs : Tokens) → Inside all scope fs (NeedTree l) ts → l ≤ conditional_level →
        ATree scope (suc conditional_level) c ts (mark m.Question p ∷ us) → ATree scope comma_level a us (mark m.Colon q ∷ vs) →
        Inside all scope (frame.Tree (for_tree.Otherwise l c a) ∷ fs) (NeedTree conditional_level) vs
    InAssign : (scope : Scope) (fs : List Frame) (l : ℕ) (o : Mark) (a : Tall (At Tree)) (p : Span) (ts us : Tokens) → Inside all scope fs (NeedTree l) ts → l ≤ assignment_level → is_assignment o ≡ true →
        ATree scope unary_level a ts (mark o p ∷ us) → Inside all scope (frame.Tree (for_tree.Assign l o a) ∷ fs) (NeedTree assignment_level) us
    InComma : (scope : Scope) (fs : List Frame) (l : ℕ) (a : Tall (At Tree)) (p : Span) (ts us : Tokens) → Inside all scope fs (NeedTree l) ts → l ≤ comma_level →
        ATree scope comma_level a ts (mark m.Comma p ∷ us) → Inside all scope (frame.Tree (for_tree.Comma l a) ∷ fs) (NeedTree assignment_level) us
    InParen : (scope : Scope) (fs : List Frame) (l : ℕ) (p : Span) (ts : Tokens) → Inside all scope fs (NeedTree l) (mark m.LParen p ∷ ts) → l ≤ unary_level →
        Inside all scope (frame.Tree (for_tree.Paren p.0) ∷ fs) (NeedTree comma_level) ts
    InSubscript : (scope : Scope) (fs : List Frame) (l : ℕ) (a : Tall (At Tree)) (p : Span) (ts us : Tokens) → Inside all scope fs (NeedTree l) ts → l ≤ unary_level →
        ATree scope postfix_level a ts (mark m.LBracket p ∷ us) → Inside all scope (frame.Tree (for_tree.Subscript a) ∷ fs) (NeedTree comma_level) us
    InFirstArg : (scope : Scope) (fs : List Frame) (l : ℕ) (f : Tall (At Tree)) (p : Span) (ts us : Tokens) → Inside all scope fs (NeedTree l) ts → l ≤ unary_level →
        ATree scope postfix_level f ts (mark m.LParen p ∷ us) → Inside all scope (frame.Tree (for_tree.Call f []) ∷ fs) (NeedTree assignment_level) us
    -- the height that goes with what is called is that of it and the arguments so far
    InMoreArgs : (scope : Scope) (fs : List Frame) (l : ℕ) (f : Tall (At Tree)) (es : List (At Tree)) (p c : Span) (ts us vs : Tokens) → Inside all scope fs (NeedTree l) ts → l ≤ unary_level →
        IsTree scope postfix_level f.node ts (mark m.LParen p ∷ us) → IsArgs scope es us (mark m.Comma c ∷ vs) → f.height ≡ max (height f.node.node) (heights height es) →
        Inside all scope (frame.Tree (for_tree.Call f es) ∷ fs) (NeedTree assignment_level) vs
    InPrefix : (scope : Scope) (fs : List Frame) (l k : ℕ) (o : Mark) (p : Span) (ts : Tokens) → Inside all scope fs (NeedTree l) (mark o p ∷ ts) → l ≤ unary_level → operand_level o ≡ Some k →
        Inside all scope (frame.Tree (for_tree.Prefix p.0 o) ∷ fs) (NeedTree k) ts
    InSizeOf : (scope : Scope) (fs : List Frame) (l : ℕ) (p : Span) (ts : Tokens) → Inside all scope fs (NeedTree l) (word w.Sizeof p ∷ ts) → l ≤ unary_level →
        Inside all scope (frame.Tree (for_tree.SizeOf p.0) ∷ fs) (NeedTree unary_level) ts
    InExtension : (scope : Scope) (fs : List Frame) (l : ℕ) (p : Span) (ts : Tokens) → Inside all scope fs (NeedTree l) (word w.Extension p ∷ ts) → l ≤ unary_level →
        Inside all scope (frame.Tree (for_tree.Extension p.0) ∷ fs) (NeedTree cast_level) ts
    InCast : (scope : Scope) (fs : List Frame) (l : ℕ) (t : Tall TypeName) (p q : Span) (ts us : Tokens) → Inside all scope fs (NeedTree l) (mark m.LParen p ∷ ts) → l ≤ cast_level →
        AType scope t ts (mark m.RParen q ∷ us) → Inside all scope (frame.Tree (for_tree.Cast p.0 t) ∷ fs) (NeedTree cast_level) us
    -- type names in parentheses, for a cast and for `sizeof`
    InTypeSpecs : (scope : Scope) (fs : List Frame) (u : Use) (n : ℕ) (ts : Tokens) → InUse all scope fs u n ts → Inside all scope (frame.Specs (for_specs.TypeName u n) ∷ fs) NeedSpecs ts
    InTypeDeclr : (scope : Scope) (fs : List Frame) (u : Use) (n : ℕ) (s : Tall (List (At Spec))) (ts us : Tokens) → InUse all scope fs u n ts → TheSpecs scope s ts us →
        Inside all scope (frame.Declr (for_declr.TypeName u n s) ∷ fs) NeedDeclr us
    -- declarators
    InDeclrParen : (scope : Scope) (fs : List Frame) (p : Span) (ts : Tokens) → Inside all scope fs NeedDeclr (mark m.LParen p ∷ ts) →
        Inside all scope (frame.Declr (for_declr.Paren p.0) ∷ fs) NeedDeclr ts
    InPointer : (scope : Scope) (fs : List Frame) (qs : List Word) (p : Span) (ts us : Tokens) → Inside all scope fs NeedDeclr (mark m.Star p ∷ ts) → IsQualifiers qs ts us →
        Inside all scope (frame.Declr (for_declr.Pointer p.0 qs) ∷ fs) NeedDeclr us
    InBound : (scope : Scope) (fs : List Frame) (d : Tall (At Declr)) (p : Span) (ts us : Tokens) → Inside all scope fs NeedDeclr ts → ADeclr scope true d ts (mark m.LBracket p ∷ us) →
        Inside all scope (frame.Part (for_part.Bound d) ∷ fs) (NeedTree conditional_level) us
    InParamSpecs : (scope : Scope) (fs : List Frame) (f : Function) (ts us : Tokens) → InFunction all scope fs f ts us → Inside all scope (frame.Specs (for_specs.Param f (offset us)) ∷ fs) NeedSpecs us
    InParamDeclr : (scope : Scope) (fs : List Frame) (f : Function) (s : Tall (List (At Spec))) (ts us vs : Tokens) → InFunction all scope fs f ts us → TheSpecs scope s us vs →
        Inside all scope (frame.Declr (for_declr.Param f (offset us) s) ∷ fs) NeedDeclr vs
    -- structures and enumerations
    InMemberSpecs : (scope : Scope) (fs : List Frame) (s : Structure) (ts : Tokens) → InStructure all scope fs s ts → Inside all scope (frame.Specs (for_specs.Member s (offset ts)) ∷ fs) NeedSpecs ts
    InMemberDeclr : (scope : Scope) (fs : List Frame) (d : Members) (ts : Tokens) → InMembers all scope fs d ts → Inside all scope (frame.Declr (for_declr.Member d) ∷ fs) NeedDeclr ts
    InEnumr : (scope : Scope) (fs : List Frame) (e : Enumeration) (x : Name) (s p : Span) (ts : Tokens) → InEnumeration all scope fs e (ident x s ∷ mark m.Assign p ∷ ts) → is_typedef scope x ≡ false →
        Inside all scope (frame.Part (for_part.Enumr e s.0 x) ∷ fs) (NeedTree conditional_level) ts
    -- initialisers
    InValue : (scope : Scope) (fs : List Frame) (ts : Tokens) → Inside all scope fs NeedValue ts → Inside all scope (frame.Part for_part.Value ∷ fs) (NeedTree assignment_level) ts
    InFirstValue : (scope : Scope) (fs : List Frame) (p : Span) (ts : Tokens) → Inside all scope fs NeedValue (mark m.LBrace p ∷ ts) →
        Inside all scope (frame.Value (for_value.Many p.0 (record { node = []; height = 0 })) ∷ fs) NeedValue ts
    InMoreValues : (scope : Scope) (fs : List Frame) (gs : Tall (List (At Given))) (p c : Span) (ts us : Tokens) → Inside all scope fs NeedValue (mark m.LBrace p ∷ ts) →
        IsGivens scope gs.node ts (mark m.Comma c ∷ us) → gs.height ≡ heights given_height gs.node → Inside all scope (frame.Value (for_value.Many p.0 gs) ∷ fs) NeedValue us
    -- the scope is that behind the declarator, whose height is in the declaration's
    InInitValue : (before scope : Scope) (fs : List Frame) (d : Declaration) (e : At Declr) (x : Name) (a : List (At Attr)) (p : Span) (ts us vs : Tokens) →
        InDeclaration all before fs d (height_of_declr e.node) ts → IsDeclr before false e ts us → name_of e.node ≡ Some x → IsAttrs a us (mark m.Assign p ∷ vs) →
        scope ≡ declared_in (declares_types d.specs) x before → Inside all scope (frame.Value (for_value.Init d e a) ∷ fs) NeedValue vs
    -- declarations
    InDeclSpecs : (scope : Scope) (fs : List Frame) (outside : Bool) (ts : Tokens) → Inside all scope fs (NeedDecl outside) ts → Inside all scope (frame.Specs (for_specs.Decl outside (offset ts)) ∷ fs) NeedSpecs ts
    InInit : (scope : Scope) (fs : List Frame) (d : Declaration) (ts : Tokens) → InDeclaration all scope fs d 0 ts → Inside all scope (frame.Declr (for_declr.Init d) ∷ fs) NeedDeclr ts
    InBody : (scope : Scope) (fs : List Frame) (h : Head) (x : Name) (p : Span) (t0 t1 t2 t3 : Tokens) → Inside all scope fs (NeedDecl true) t0 → IsSpecs scope h.specs t0 t1 → IsDeclr scope false h.declr t1 t2 →
        name_of h.declr.node ≡ Some x → IsAttrs h.attrs t2 (mark m.LBrace p ∷ t3) → h.at ≡ offset t0 → h.height ≡ max (specs_height h.specs) (height_of_declr h.declr.node) →
        Inside all scope (frame.Body h ∷ fs) NeedBody t3
    InItems : (scope : Scope) (is : Items) (ts : Tokens) → IsItems [] scope is.items all ts → is.height ≡ heights item_height is.items → Inside all scope (frame.Items is ∷ []) (NeedDecl true) ts
    -- statements
    InTest : (scope : Scope) (fs : List Frame) (p q : Span) (ts : Tokens) → Inside all scope fs NeedLine (word w.If p ∷ mark m.LParen q ∷ ts) → Inside all scope (frame.Part (for_part.If p.0) ∷ fs) (NeedTree comma_level) ts
    InThen : (scope : Scope) (fs : List Frame) (c : Tall (At Tree)) (s p q : Span) (ts us : Tokens) → Inside all scope fs NeedLine (word w.If s ∷ mark m.LParen p ∷ ts) →
        ATree scope comma_level c ts (mark m.RParen q ∷ us) → Inside all scope (frame.Line (for_line.Then s.0 c) ∷ fs) NeedLine us
    InElse : (scope : Scope) (fs : List Frame) (c : Tall (At Tree)) (a : Tall (At Line)) (s p q r : Span) (ts us vs : Tokens) → Inside all scope fs NeedLine (word w.If s ∷ mark m.LParen p ∷ ts) →
        ATree scope comma_level c ts (mark m.RParen q ∷ us) → IsStatement scope a.node us (word w.Else r ∷ vs) → a.height ≡ line_height a.node.node → awaits_else a.node.node ≡ false →
        Inside all scope (frame.Line (for_line.Else s.0 c a) ∷ fs) NeedLine vs
    InWhileTest : (scope : Scope) (fs : List Frame) (p q : Span) (ts : Tokens) → Inside all scope fs NeedLine (word w.While p ∷ mark m.LParen q ∷ ts) → Inside all scope (frame.Part (for_part.While p.0) ∷ fs) (NeedTree comma_level) ts
    InWhile : (scope : Scope) (fs : List Frame) (c : Tall (At Tree)) (s p q : Span) (ts us : Tokens) → Inside all scope fs NeedLine (word w.While s ∷ mark m.LParen p ∷ ts) →
        ATree scope comma_level c ts (mark m.RParen q ∷ us) → Inside all scope (frame.Line (for_line.While s.0 c) ∷ fs) NeedLine us
    InSwitchTest : (scope : Scope) (fs : List Frame) (p q : Span) (ts : Tokens) → Inside all scope fs NeedLine (word w.Switch p ∷ mark m.LParen q ∷ ts) → Inside all scope (frame.Part (for_part.Switch p.0) ∷ fs) (NeedTree comma_level) ts
    InSwitch : (scope : Scope) (fs : List Frame) (c : Tall (At Tree)) (s p q : Span) (ts us : Tokens) → Inside all scope fs NeedLine (word w.Switch s ∷ mark m.LParen p ∷ ts) →
        ATree scope comma_level c ts (mark m.RParen q ∷ us) → Inside all scope (frame.Line (for_line.Switch s.0 c) ∷ fs) NeedLine us
    InDo : (scope : Scope) (fs : List Frame) (s : Span) (ts : Tokens) → Inside all scope fs NeedLine (word w.Do s ∷ ts) → Inside all scope (frame.Line (for_line.Do s.0) ∷ fs) NeedLine ts
    InDoTest : (scope : Scope) (fs : List Frame) (a : Tall (At Line)) (s r p : Span) (ts us : Tokens) → Inside all scope fs NeedLine (word w.Do s ∷ ts) → IsStatement scope a.node ts (word w.While r ∷ mark m.LParen p ∷ us) →
        a.height ≡ line_height a.node.node → Inside all scope (frame.Part (for_part.Do s.0 a) ∷ fs) (NeedTree comma_level) us
    InForDecl : (scope : Scope) (fs : List Frame) (s p : Span) (ts : Tokens) → Inside all scope fs NeedLine (word w.For s ∷ mark m.LParen p ∷ ts) → Inside all scope (frame.First s.0 (length scope) ∷ fs) (NeedDecl false) ts
    InForExpr : (scope : Scope) (fs : List Frame) (s p : Span) (ts : Tokens) → Inside all scope fs NeedLine (word w.For s ∷ mark m.LParen p ∷ ts) →
        Inside all scope (frame.Part (for_part.First s.0 (length scope)) ∷ fs) (NeedTree comma_level) ts
    InForTest : (scope : Scope) (fs : List Frame) (f : For) (ts : Tokens) → InFor all scope fs f ts → Inside all scope (frame.Part (for_part.Test f) ∷ fs) (NeedTree comma_level) ts
    InForStep : (scope : Scope) (fs : List Frame) (f : For) (ts : Tokens) → InTested all scope fs f ts → Inside all scope (frame.Part (for_part.Step f) ∷ fs) (NeedTree comma_level) ts
    InForBody : (before scope : Scope) (fs : List Frame) (f : For) (s p q r : Span) (t0 t1 t2 t3 : Tokens) → Inside all before fs NeedLine (word w.For s ∷ mark m.LParen p ∷ t0) → f.at ≡ s.0 → f.scope ≡ length before →
        IsFirst before scope f.first t0 t1 → IsMaybe scope f.test t1 (mark m.Semi q ∷ t2) → IsMaybe scope f.step t2 (mark m.RParen r ∷ t3) →
        f.height ≡ max (first_height f.first) (max (maybe_height f.test) (maybe_height f.step)) → Inside all scope (frame.Line (for_line.For f) ∷ fs) NeedLine t3
    InCaseTest : (scope : Scope) (fs : List Frame) (s : Span) (ts : Tokens) → Inside all scope fs NeedLine (word w.Case s ∷ ts) → Inside all scope (frame.Part (for_part.Case s.0) ∷ fs) (NeedTree conditional_level) ts
    InCase : (scope : Scope) (fs : List Frame) (c : Tall (At Tree)) (s q : Span) (ts us : Tokens) → Inside all scope fs NeedLine (word w.Case s ∷ ts) → ATree scope conditional_level c ts (mark m.Colon q ∷ us) →
        Inside all scope (frame.Line (for_line.Case s.0 c) ∷ fs) NeedLine us
    InDefault : (scope : Scope) (fs : List Frame) (s q : Span) (ts : Tokens) → Inside all scope fs NeedLine (word w.Default s ∷ mark m.Colon q ∷ ts) → Inside all scope (frame.Line (for_line.Default s.0) ∷ fs) NeedLine ts
    InReturn : (scope : Scope) (fs : List Frame) (s : Span) (ts : Tokens) → Inside all scope fs NeedLine (word w.Return s ∷ ts) → Inside all scope (frame.Part (for_part.Return s.0) ∷ fs) (NeedTree comma_level) ts
    InExpr : (scope : Scope) (fs : List Frame) (ts : Tokens) → Inside all scope fs NeedLine ts → Inside all scope (frame.Part (for_part.Expr (offset ts)) ∷ fs) (NeedTree comma_level) ts
    InBlockLine : (scope : Scope) (fs : List Frame) (b : Block) (ts : Tokens) → InBlock all scope fs b ts → Inside all scope (frame.Block b ∷ fs) NeedLine ts
    InBlockDecl : (scope : Scope) (fs : List Frame) (b : Block) (ts : Tokens) → InBlock all scope fs b ts → Inside all scope (frame.Block b ∷ fs) (NeedDecl false) ts

  -- A type name is wanted here, in parentheses, for a cast or for `sizeof` with this offset.
  pub data InUse (all : Tokens) : Scope → List Frame → Use → ℕ → Tokens → Type 0 where
    ForCast : (scope : Scope) (fs : List Frame) (l : ℕ) (p : Span) (ts : Tokens) → Inside all scope fs (NeedTree l) (mark m.LParen p ∷ ts) → l ≤ cast_level → InUse all scope fs used.Cast p.0 ts
    ForSizeOf : (scope : Scope) (fs : List Frame) (l : ℕ) (s p : Span) (ts : Tokens) → Inside all scope fs (NeedTree l) (word w.Sizeof s ∷ mark m.LParen p ∷ ts) → l ≤ unary_level →
        InUse all scope fs used.SizeOf s.0 ts

  -- A parameter is wanted here, behind those so far; the declarator begins at the first list.
  pub data InFunction (all : Tokens) : Scope → List Frame → Function → Tokens → Tokens → Type 0 where
    FirstOne : (scope : Scope) (fs : List Frame) (f : Function) (p : Span) (ts us : Tokens) → Inside all scope fs NeedDeclr ts → IsDeclr scope true f.declr ts (mark m.LParen p ∷ us) →
        f.params ≡ [] → f.height ≡ height_of_declr f.declr.node → InFunction all scope fs f ts us
    OneMore : (scope : Scope) (fs : List Frame) (f : Function) (p c : Span) (ts us vs : Tokens) → Inside all scope fs NeedDeclr ts → IsDeclr scope true f.declr ts (mark m.LParen p ∷ us) →
        IsParamList scope f.params us (mark m.Comma c ∷ vs) → f.height ≡ max (height_of_declr f.declr.node) (heights height_of_param f.params) → InFunction all scope fs f ts vs

  -- A member or the closing brace is wanted here.
  pub data InStructure (all : Tokens) : Scope → List Frame → Structure → Tokens → Type 0 where
    NoneYet : (scope : Scope) (fs : List Frame) (s : Structure) (p q : Span) (ts us vs ws : Tokens) → Inside all scope fs NeedSpecs ts → IsSpecList scope s.outer ts (word w.Struct p ∷ us) →
        IsAttrs s.attrs us vs → IsTag s.tag vs (mark m.LBrace q ∷ ws) → s.at ≡ p.0 → s.members ≡ [] → s.height ≡ specs_height s.outer → InStructure all scope fs s ws
    SomeMembers : (scope : Scope) (fs : List Frame) (s : Structure) (p q : Span) (ts us vs ws xs : Tokens) → Inside all scope fs NeedSpecs ts → IsSpecList scope s.outer ts (word w.Struct p ∷ us) →
        IsAttrs s.attrs us vs → IsTag s.tag vs (mark m.LBrace q ∷ ws) → s.at ≡ p.0 → IsMembers scope s.members ws xs → s.height ≡ max (specs_height s.outer) (heights height_of_member s.members) →
        InStructure all scope fs s xs

  -- A declarator of members is wanted here.
  pub data InMembers (all : Tokens) : Scope → List Frame → Members → Tokens → Type 0 where
    FirstName : (scope : Scope) (fs : List Frame) (d : Members) (ts us : Tokens) → InStructure all scope fs d.structure ts → IsSpecs scope d.specs ts us → d.at ≡ offset ts → d.declrs ≡ [] →
        d.height ≡ max d.structure.height (specs_height d.specs) → InMembers all scope fs d us
    NextName : (scope : Scope) (fs : List Frame) (d : Members) (c : Span) (ts us vs : Tokens) → InStructure all scope fs d.structure ts → IsSpecs scope d.specs ts us → d.at ≡ offset ts →
        IsDeclrs scope d.declrs us (mark m.Comma c ∷ vs) → d.height ≡ max (max d.structure.height (specs_height d.specs)) (heights height_of_declr d.declrs) → InMembers all scope fs d vs

  -- An enumeration constant is wanted here.
  pub data InEnumeration (all : Tokens) : Scope → List Frame → Enumeration → Tokens → Type 0 where
    FirstConstant : (scope : Scope) (fs : List Frame) (e : Enumeration) (p q : Span) (ts us vs : Tokens) → Inside all scope fs NeedSpecs ts → IsSpecList scope e.outer ts (word w.Enum p ∷ us) →
        IsTag e.tag us (mark m.LBrace q ∷ vs) → e.at ≡ p.0 → e.enumrs ≡ [] → e.height ≡ specs_height e.outer → InEnumeration all scope fs e vs
    NextConstant : (scope : Scope) (fs : List Frame) (e : Enumeration) (p q c : Span) (ts us vs ws : Tokens) → Inside all scope fs NeedSpecs ts → IsSpecList scope e.outer ts (word w.Enum p ∷ us) →
        IsTag e.tag us (mark m.LBrace q ∷ vs) → e.at ≡ p.0 → IsEnumrs scope e.enumrs vs (mark m.Comma c ∷ ws) → e.height ≡ max (specs_height e.outer) (heights height_of_enumr e.enumrs) →
        InEnumeration all scope fs e ws

  -- A declarator is wanted here; the number is a height that is in the declaration's beside its parts'.
  pub data InDeclaration (all : Tokens) : Scope → List Frame → Declaration → ℕ → Tokens → Type 0 where
    FirstDeclarator : (scope : Scope) (fs : List Frame) (d : Declaration) (h : ℕ) (ts us : Tokens) → Inside all scope fs (NeedDecl d.outside) ts → IsSpecs scope d.specs ts us → d.at ≡ offset ts → d.inits ≡ [] →
        d.height ≡ max (specs_height d.specs) h → InDeclaration all scope fs d h us
    NextDeclarator : (before scope : Scope) (fs : List Frame) (d : Declaration) (h : ℕ) (c : Span) (ts us vs : Tokens) → Inside all before fs (NeedDecl d.outside) ts → IsSpecs before d.specs ts us → d.at ≡ offset ts →
        IsInits (declares_types d.specs) before scope d.inits us (mark m.Comma c ∷ vs) → d.height ≡ max (max (specs_height d.specs) (heights init_height d.inits)) h →
        InDeclaration all scope fs d h vs

  -- The test of a `for` is wanted here.
  pub data InFor (all : Tokens) : Scope → List Frame → For → Tokens → Type 0 where
    TestWanted : (before scope : Scope) (fs : List Frame) (f : For) (s p : Span) (ts us : Tokens) → Inside all before fs NeedLine (word w.For s ∷ mark m.LParen p ∷ ts) → f.at ≡ s.0 → f.scope ≡ length before →
        IsFirst before scope f.first ts us → f.test ≡ None → f.step ≡ None → f.height ≡ first_height f.first → InFor all scope fs f us

  -- The last part of a `for` is wanted here.
  pub data InTested (all : Tokens) : Scope → List Frame → For → Tokens → Type 0 where
    StepWanted : (before scope : Scope) (fs : List Frame) (f : For) (s p q : Span) (ts us vs : Tokens) → Inside all before fs NeedLine (word w.For s ∷ mark m.LParen p ∷ ts) → f.at ≡ s.0 → f.scope ≡ length before →
        IsFirst before scope f.first ts us → IsMaybe scope f.test us (mark m.Semi q ∷ vs) → f.step ≡ None → f.height ≡ max (first_height f.first) (maybe_height f.test) → InTested all scope fs f vs

  -- A line or the closing brace is wanted here.
  pub data InBlock (all : Tokens) : Scope → List Frame → Block → Tokens → Type 0 where
    OfStatement : (before scope : Scope) (fs : List Frame) (b : Block) (p : Span) (ts us : Tokens) → Inside all before fs NeedLine (mark m.LBrace p ∷ ts) → b.body ≡ false → b.at ≡ p.0 → b.scope ≡ length before →
        IsLines before scope b.lines ts us → b.height ≡ heights line_height b.lines → InBlock all scope fs b us
    OfFunction : (before scope : Scope) (fs : List Frame) (b : Block) (ts us : Tokens) → Inside all before fs NeedBody ts → b.body ≡ true → b.scope ≡ length before →
        IsLines before scope b.lines ts us → b.height ≡ heights line_height b.lines → InBlock all scope fs b us

-- The parser's state is one of an unfinished sentence of all tokens: what is to be done is wanted where it
-- stands, and what has been read is spelled by the tokens between.
pub data Good (all : Tokens) : Scope → List Frame → Control → Tokens → Type 0 where
  GoodExpr : (scope : Scope) (fs : List Frame) (l : ℕ) (ts : Tokens) → Inside all scope fs (NeedTree l) ts → l ≤ unary_level → Good all scope fs (control.Expr l) ts
  GoodOperand : (scope : Scope) (fs : List Frame) (l : ℕ) (ts : Tokens) → Inside all scope fs (NeedTree l) ts → l ≤ unary_level → Good all scope fs (control.Operand l) ts
  GoodPostfix : (scope : Scope) (fs : List Frame) (l : ℕ) (e : Tall (At Tree)) (ts us : Tokens) → Inside all scope fs (NeedTree l) ts → l ≤ unary_level → ATree scope postfix_level e ts us →
      Good all scope fs (control.Postfix e) us
  GoodOperators : (scope : Scope) (fs : List Frame) (least level : ℕ) (e : Tall (At Tree)) (ts us : Tokens) → Inside all scope fs (NeedTree least) ts → ATree scope level e ts us → least ≤ level →
      Good all scope fs (control.Operators least level e) us
  GoodTree : (scope : Scope) (fs : List Frame) (l level : ℕ) (e : Tall (At Tree)) (ts us : Tokens) → Inside all scope fs (NeedTree l) ts → ATree scope level e ts us → l ≤ level →
      Good all scope fs (control.Tree level e) us
  GoodSpecs : (scope : Scope) (fs : List Frame) (s : Tall (List (At Spec))) (ts us : Tokens) → Inside all scope fs NeedSpecs ts → SomeSpecs scope s ts us → Good all scope fs (control.Specs s) us
  GoodHaveSpecs : (scope : Scope) (fs : List Frame) (s : Tall (List (At Spec))) (ts us : Tokens) → Inside all scope fs NeedSpecs ts → TheSpecs scope s ts us → Good all scope fs (control.HaveSpecs s) us
  GoodStructure : (scope : Scope) (fs : List Frame) (s : Structure) (ts : Tokens) → InStructure all scope fs s ts → Good all scope fs (control.Structure s) ts
  GoodEnumr : (scope : Scope) (fs : List Frame) (e : Enumeration) (ts : Tokens) → InEnumeration all scope fs e ts → Good all scope fs (control.Enumr e) ts
  GoodEnumeration : (scope : Scope) (fs : List Frame) (e : Enumeration) (p q : Span) (ts us vs ws : Tokens) → Inside all scope fs NeedSpecs ts → IsSpecList scope e.outer ts (word w.Enum p ∷ us) →
      IsTag e.tag us (mark m.LBrace q ∷ vs) → e.at ≡ p.0 → IsEnumrs scope e.enumrs vs ws → e.height ≡ max (specs_height e.outer) (heights height_of_enumr e.enumrs) → Good all scope fs (control.Enumeration e) ws
  GoodDeclr : (scope : Scope) (fs : List Frame) (ts : Tokens) → Inside all scope fs NeedDeclr ts → Good all scope fs control.Declr ts
  GoodSuffix : (scope : Scope) (fs : List Frame) (d : Tall (At Declr)) (ts us : Tokens) → Inside all scope fs NeedDeclr ts → ADeclr scope true d ts us → Good all scope fs (control.Suffix d) us
  GoodHaveDeclr : (scope : Scope) (fs : List Frame) (d : Tall (At Declr)) (ts us : Tokens) → Inside all scope fs NeedDeclr ts → ADeclr scope false d ts us → Good all scope fs (control.HaveDeclr d) us
  GoodValue : (scope : Scope) (fs : List Frame) (ts : Tokens) → Inside all scope fs NeedValue ts → Good all scope fs control.Value ts
  GoodHaveValue : (scope : Scope) (fs : List Frame) (g : Tall (At Given)) (ts us : Tokens) → Inside all scope fs NeedValue ts → AGiven scope g ts us → Good all scope fs (control.HaveValue g) us
  GoodDecl : (scope : Scope) (fs : List Frame) (outside : Bool) (ts : Tokens) → Inside all scope fs (NeedDecl outside) ts → Good all scope fs (control.Decl outside) ts
  GoodInits : (before scope : Scope) (fs : List Frame) (d : Declaration) (ts us vs : Tokens) → Inside all before fs (NeedDecl d.outside) ts → IsSpecs before d.specs ts us → d.at ≡ offset ts →
      IsInits (declares_types d.specs) before scope d.inits us vs → d.height ≡ max (specs_height d.specs) (heights init_height d.inits) → Good all scope fs (control.Inits d) vs
  GoodHaveDecl : (before scope : Scope) (fs : List Frame) (outside : Bool) (n : ℕ) (d : Tall Decl) (ts us : Tokens) → Inside all before fs (NeedDecl outside) ts → n ≡ offset ts → ADecl before scope d ts us →
      Good all scope fs (control.HaveDecl n d) us
  GoodStatement : (scope : Scope) (fs : List Frame) (ts : Tokens) → Inside all scope fs NeedLine ts → Good all scope fs control.Statement ts
  GoodBlock : (scope : Scope) (fs : List Frame) (b : Block) (ts : Tokens) → InBlock all scope fs b ts → Good all scope fs (control.Block b) ts
  GoodHaveLine : (scope : Scope) (fs : List Frame) (l : Tall (At Line)) (ts us : Tokens) → Inside all scope fs NeedLine ts → ALine scope l ts us → Good all scope fs (control.HaveLine l) us
  GoodTest : (scope : Scope) (fs : List Frame) (f : For) (ts : Tokens) → InFor all scope fs f ts → Good all scope fs (control.Test f) ts
  GoodStep : (scope : Scope) (fs : List Frame) (f : For) (ts : Tokens) → InTested all scope fs f ts → Good all scope fs (control.Step f) ts
  GoodHaveBody : (scope inner : Scope) (fs : List Frame) (b : Tall (List (At Line))) (q : Span) (ts us : Tokens) → Inside all scope fs NeedBody ts → IsLines scope inner b.node ts (mark m.RBrace q ∷ us) →
      b.height ≡ heights line_height b.node → Good all scope fs (control.HaveBody b) us
  GoodItems : (scope : Scope) (is : Items) (ts : Tokens) → IsItems [] scope is.items all ts → is.height ≡ heights item_height is.items → Good all scope [] (control.Items is) ts
  GoodHaveItem : (scope : Scope) (fs : List Frame) (i : Tall (At Item)) (ts us : Tokens) → Inside all scope fs (NeedDecl true) ts → IsItem scope scope i.node.node ts us → i.node.at ≡ offset ts →
      i.height ≡ item_height i.node.node → Good all scope fs (control.HaveItem i) us
  GoodDone : (scope : Scope) (fs : List Frame) (u : Tall UnitTree) (us : Tokens) → IsItems [] scope u.node.items all [] → u.height ≡ unit_height u.node → Good all scope fs (control.Done u) us

-- what a turn leaves is one, too
abbrev pub GoodTurn : Tokens → Scope → List Frame → Turn → Type 0
GoodTurn all scope fs r = IfOk r (λ t. Good all (scope_after t.scoping scope) (with_frame t.frame fs) t.control t.rest)
