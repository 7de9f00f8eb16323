-- Declarations and statements (C99 6.7, 6.8), a constructor for each production. The scope in which a
-- declaration stands and the scope behind it are two indices; what a block declares ends with it.
use Rattle.std.specs.Prelude.{◌≡◌, Bool, true, false, List, [], ◌∷◌, ◌++◌, Option, Some, None}
use Rattle.cc_lex.specs.declared.token.Mark.TheVariants as m
use Rattle.cc_words.specs.declared.word.Word.TheVariants as w
use Rattle.cc_tree.specs.declared.at.At.{At}
use Rattle.cc_tree.specs.declared.tree.Attr.{Attr}
use Rattle.cc_tree.specs.declared.tree.Declr.{Declr}
use Rattle.cc_tree.specs.declared.tree.Spec.{Spec}
use Rattle.cc_tree.specs.declared.tree.Tree.{Tree}
use Rattle.cc_tree.specs.declared.unit.Decl.{Decl}
use Rattle.cc_tree.specs.declared.unit.First.{First}
use Rattle.cc_tree.specs.declared.unit.First.TheVariants as first
use Rattle.cc_tree.specs.declared.unit.Given as given
use Rattle.cc_tree.specs.declared.unit.Given.{Given}
use Rattle.cc_tree.specs.declared.unit.Init.{Init}
use Rattle.cc_tree.specs.declared.unit.Line as line
use Rattle.cc_tree.specs.declared.unit.Line.{Line}
use Rattle.cc_tree.specs.declared.unit.Line.TheOpen as one
use Rattle.cc_tree.specs.Operators.{comma_level, assignment_level, conditional_level}
use Rattle.cc_tree.specs.Scopes.{Scope, name_of, declares_types, behind_declr}
use Rattle.cc_tree.specs.Terms.{IsTree, IsSpecs, IsDeclr, IsAttrs, IsLastComma}
use Rattle.cc_tree.specs.Tokens.{Tokens, Name, Span, mark, word, at}

mutual
  -- value, 6.7.8
  pub data IsGiven : Scope → At Given → Tokens → Tokens → Type 0 where
    OneValue : (scope : Scope) (e : At Tree) (ts us : Tokens) → IsTree scope assignment_level e ts us → IsGiven scope (record { at = e.at; node = given.One e }) ts us
    ManyValues : (scope : Scope) (gs : List (At Given)) (p q : Span) (ts us vs : Tokens) → IsGivens scope gs ts us → IsLastComma us (mark m.RBrace q ∷ vs) →
        IsGiven scope (record { at = p.0; node = given.Many gs }) (mark m.LBrace p ∷ ts) vs

  -- value { "," value }
  pub data IsGivens : Scope → List (At Given) → Tokens → Tokens → Type 0 where
    FirstValue : (scope : Scope) (g : At Given) (ts us : Tokens) → IsGiven scope g ts us → IsGivens scope (g ∷ []) ts us
    MoreValues : (scope : Scope) (gs : List (At Given)) (g : At Given) (c : Span) (ts us vs : Tokens) → IsGivens scope gs ts (mark m.Comma c ∷ us) → IsGiven scope g us vs → IsGivens scope (gs ++ g ∷ []) ts vs

-- [ "=" value ]
pub data IsValue : Scope → Option (At Given) → Tokens → Tokens → Type 0 where
  NoValue : (scope : Scope) (ts : Tokens) → IsValue scope None ts ts
  AValue : (scope : Scope) (g : At Given) (p : Span) (ts us : Tokens) → IsGiven scope g ts us → IsValue scope (Some g) (mark m.Assign p ∷ ts) us

-- declr attrs [ "=" value ], where the declaration is one of types or not
pub data IsInit : Bool → Scope → Scope → At Init → Tokens → Tokens → Type 0 where
  AnInit : (types : Bool) (scope : Scope) (d : At Declr) (x : Name) (attrs : List (At Attr)) (v : Option (At Given)) (ts us vs ws : Tokens) → IsDeclr scope false d ts us → name_of d.node ≡ Some x →
      IsAttrs attrs us vs → IsValue (behind_declr types d.node scope) v vs ws → IsInit types scope (behind_declr types d.node scope) (at ts (record { declr = d; attrs = attrs; value = v })) ts ws

-- init { "," init }
pub data IsInits : Bool → Scope → Scope → List (At Init) → Tokens → Tokens → Type 0 where
  FirstInit : (types : Bool) (scope after : Scope) (i : At Init) (ts us : Tokens) → IsInit types scope after i ts us → IsInits types scope after (i ∷ []) ts us
  MoreInits : (types : Bool) (scope between after : Scope) (is : List (At Init)) (i : At Init) (c : Span) (ts us vs : Tokens) → IsInits types scope between is ts (mark m.Comma c ∷ us) →
      IsInit types between after i us vs → IsInits types scope after (is ++ i ∷ []) ts vs

-- specs [ init { "," init } ] ";"
pub data IsDecl : Scope → Scope → Decl → Tokens → Tokens → Type 0 where
  DeclaresNothing : (scope : Scope) (specs : List (At Spec)) (q : Span) (ts us : Tokens) → IsSpecs scope specs ts (mark m.Semi q ∷ us) → IsDecl scope scope (record { specs = specs; inits = [] }) ts us
  Declares : (scope after : Scope) (specs : List (At Spec)) (is : List (At Init)) (q : Span) (ts us vs : Tokens) → IsSpecs scope specs ts us → IsInits (declares_types specs) scope after is us (mark m.Semi q ∷ vs) →
      IsDecl scope after (record { specs = specs; inits = is }) ts vs

-- [ expr ] in front of a mark
pub data IsMaybe : Scope → Option (At Tree) → Tokens → Tokens → Type 0 where
  NoExpr : (scope : Scope) (ts : Tokens) → IsMaybe scope None ts ts
  AnExpr : (scope : Scope) (e : At Tree) (ts us : Tokens) → IsTree scope comma_level e ts us → IsMaybe scope (Some e) ts us

-- the first part of a `for`
pub data IsFirst : Scope → Scope → First → Tokens → Tokens → Type 0 where
  FirstDecl : (scope after : Scope) (d : Decl) (ts us : Tokens) → IsDecl scope after d ts us → IsFirst scope after (first.Decl d) ts us
  FirstExpr : (scope : Scope) (e : Option (At Tree)) (q : Span) (ts us : Tokens) → IsMaybe scope e ts (mark m.Semi q ∷ us) → IsFirst scope scope (first.Expr e) ts us

-- The statement ends with an `if` without `else`, to which an `else` behind it would belong (6.8.4.1, 3).
abbrev pub else_awaited : one.Line-F Bool → Bool
else_awaited (one.If c a None) = true
else_awaited (one.If c a (Some b)) = b.node
else_awaited (one.While c a) = a.node
else_awaited (one.For f t s a) = a.node
else_awaited (one.Switch c a) = a.node
else_awaited (one.Case c a) = a.node
else_awaited (one.Default a) = a.node
else_awaited _ = false

abbrev pub awaits_else : Line → Bool
awaits_else l = line.fold-Line Bool else_awaited l

mutual
  -- 6.8
  pub data IsStatement : Scope → At Line → Tokens → Tokens → Type 0 where
    ABlock : (scope after : Scope) (ls : List (At Line)) (p q : Span) (ts us : Tokens) → IsLines scope after ls ts (mark m.RBrace q ∷ us) →
        IsStatement scope (record { at = p.0; node = line.Block ls }) (mark m.LBrace p ∷ ts) us
    AnExprStatement : (scope : Scope) (e : Option (At Tree)) (q : Span) (ts us : Tokens) → IsMaybe scope e ts (mark m.Semi q ∷ us) → IsStatement scope (at ts (line.Expr e)) ts us
    AnIf : (scope : Scope) (c : At Tree) (a : At Line) (s p q : Span) (ts us vs : Tokens) → IsTree scope comma_level c ts (mark m.RParen q ∷ us) → IsStatement scope a us vs →
        IsStatement scope (record { at = s.0; node = line.If c a None }) (word w.If s ∷ mark m.LParen p ∷ ts) vs
    AnIfElse : (scope : Scope) (c : At Tree) (a b : At Line) (s p q r : Span) (ts us vs ws : Tokens) → IsTree scope comma_level c ts (mark m.RParen q ∷ us) → IsStatement scope a us (word w.Else r ∷ vs) →
        awaits_else a.node ≡ false → IsStatement scope b vs ws → IsStatement scope (record { at = s.0; node = line.If c a (Some b) }) (word w.If s ∷ mark m.LParen p ∷ ts) ws
    AWhile : (scope : Scope) (c : At Tree) (a : At Line) (s p q : Span) (ts us vs : Tokens) → IsTree scope comma_level c ts (mark m.RParen q ∷ us) → IsStatement scope a us vs →
        IsStatement scope (record { at = s.0; node = line.While c a }) (word w.While s ∷ mark m.LParen p ∷ ts) vs
    ADoWhile : (scope : Scope) (a : At Line) (c : At Tree) (s r p q t : Span) (ts us vs : Tokens) → IsStatement scope a ts (word w.While r ∷ mark m.LParen p ∷ us) →
        IsTree scope comma_level c us (mark m.RParen q ∷ mark m.Semi t ∷ vs) → IsStatement scope (record { at = s.0; node = line.DoWhile a c }) (word w.Do s ∷ ts) vs
    AFor : (scope inner : Scope) (f : First) (t e : Option (At Tree)) (a : At Line) (s p q r : Span) (t0 t1 t2 t3 t4 : Tokens) → IsFirst scope inner f t0 t1 → IsMaybe inner t t1 (mark m.Semi q ∷ t2) →
        IsMaybe inner e t2 (mark m.RParen r ∷ t3) → IsStatement inner a t3 t4 → IsStatement scope (record { at = s.0; node = line.For f t e a }) (word w.For s ∷ mark m.LParen p ∷ t0) t4
    ASwitch : (scope : Scope) (c : At Tree) (a : At Line) (s p q : Span) (ts us vs : Tokens) → IsTree scope comma_level c ts (mark m.RParen q ∷ us) → IsStatement scope a us vs →
        IsStatement scope (record { at = s.0; node = line.Switch c a }) (word w.Switch s ∷ mark m.LParen p ∷ ts) vs
    ACase : (scope : Scope) (c : At Tree) (a : At Line) (s q : Span) (ts us vs : Tokens) → IsTree scope conditional_level c ts (mark m.Colon q ∷ us) → IsStatement scope a us vs →
        IsStatement scope (record { at = s.0; node = line.Case c a }) (word w.Case s ∷ ts) vs
    ADefault : (scope : Scope) (a : At Line) (s q : Span) (ts us : Tokens) → IsStatement scope a ts us → IsStatement scope (record { at = s.0; node = line.Default a }) (word w.Default s ∷ mark m.Colon q ∷ ts) us
    ABreak : (scope : Scope) (s q : Span) (us : Tokens) → IsStatement scope (record { at = s.0; node = line.Break }) (word w.Break s ∷ mark m.Semi q ∷ us) us
    AContinue : (scope : Scope) (s q : Span) (us : Tokens) → IsStatement scope (record { at = s.0; node = line.Continue }) (word w.Continue s ∷ mark m.Semi q ∷ us) us
    AReturn : (scope : Scope) (e : Option (At Tree)) (s q : Span) (ts us : Tokens) → IsMaybe scope e ts (mark m.Semi q ∷ us) → IsStatement scope (record { at = s.0; node = line.Return e }) (word w.Return s ∷ ts) us

  -- { stmt | decl }
  pub data IsLines : Scope → Scope → List (At Line) → Tokens → Tokens → Type 0 where
    NoLine : (scope : Scope) (ts : Tokens) → IsLines scope scope [] ts ts
    AStatement : (scope after : Scope) (ls : List (At Line)) (l : At Line) (ts us vs : Tokens) → IsLines scope after ls ts us → IsStatement after l us vs → IsLines scope after (ls ++ l ∷ []) ts vs
    ADeclaration : (scope between after : Scope) (ls : List (At Line)) (d : Decl) (ts us vs : Tokens) → IsLines scope between ls ts us → IsDecl between after d us vs →
        IsLines scope after (ls ++ at us (line.Decl d) ∷ []) ts vs
