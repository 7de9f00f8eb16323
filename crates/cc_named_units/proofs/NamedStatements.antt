-- Declarations, statements and units that are spelled by tokens of which the names may name something: so may theirs.
use Rattle.std.proofs.Common.{◌≡◌, Bool, true, ◌&&◌, List, [], Option, refl, ap, ◌∙◌}
use Rattle.std.specs.Prelude.{is_some}
use Rattle.cc_type.proofs.CcSyntax.SameLemmas.{and_true}
use Rattle.cc_tree.specs.Scopes.{Scope}
use Rattle.cc_tree.specs.Sentences.{IsItem, ADeclItem, AFunc, IsItems, NoItem, MoreItems, IsSentence}
use Rattle.cc_tree.specs.Statements.{IsGiven, OneValue, ManyValues, IsGivens, FirstValue, MoreValues, IsValue, NoValue, AValue, IsInit, AnInit, IsInits, FirstInit, MoreInits, IsDecl, DeclaresNothing, Declares, IsMaybe, NoExpr, AnExpr, IsFirst, FirstDecl, FirstExpr}
use Rattle.cc_tree.specs.Statements.{IsStatement, ABlock, AnExprStatement, AnIf, AnIfElse, AWhile, ADoWhile, AFor, ASwitch, ACase, ADefault, ABreak, AContinue, AReturn, IsLines, NoLine, AStatement, ADeclaration}
use Rattle.cc_tree.specs.Tokens.{Tokens, at}
use Rattle.cc_tree.specs.declared.at.At.{At}
use Rattle.cc_tree.specs.declared.tree.Tree.{Tree}
use Rattle.cc_tree.specs.declared.unit.Decl.{Decl}
use Rattle.cc_tree.specs.declared.unit.First.{First}
use Rattle.cc_tree.specs.declared.unit.Given.{Given}
use Rattle.cc_tree.specs.declared.unit.Init.{Init}
use Rattle.cc_tree.specs.declared.unit.Item.{Item}
use Rattle.cc_tree.specs.declared.unit.Line as line
use Rattle.cc_tree.specs.declared.unit.Line.{Line}
use Rattle.cc_tree.specs.declared.unit.Unit.{Unit as UnitTree}
use Rattle.cc_named_units.specs.Names.{tokens_named, tree_named, declr_named, spec_named, each_named, maybe_named, member_named, given_named, init_named, decl_named, first_named, line_named, item_named, unit_named}
use Rattle.cc_named_units.proofs.NamedRolled as rolled
use Rattle.cc_named_units.proofs.NamedRolled.{each_more, each_one}
use Rattle.cc_named_units.proofs.NamedTerms.{attrs_named, comma_named, tree_read, specs_read, declr_read}

-- ---- declarations

mutual
  given_read : {scope : Scope} {g : At Given} {ts us : Tokens} → IsGiven scope g ts us → tokens_named ts ≡ true → (given_named g.node ≡ true) × (tokens_named us ≡ true)
  given_read (OneValue scope e ts us d) h = let x = tree_read d h in (rolled.given-One e ∙ x.0, x.1)
  given_read (ManyValues scope gs p q ts us vs d k) h = let x = givens_read d h in (rolled.given-Many gs ∙ x.0, comma_named k x.1)

  givens_read : {scope : Scope} {gs : List (At Given)} {ts us : Tokens} → IsGivens scope gs ts us → tokens_named ts ≡ true → (each_named given_named gs ≡ true) × (tokens_named us ≡ true)
  givens_read (FirstValue scope g ts us d) h = let x = given_read d h in (each_one given_named g x.0, x.1)
  givens_read (MoreValues scope gs g c ts us vs d k) h = let x = givens_read d h in let y = given_read k x.1 in (each_more given_named gs g x.0 y.0, y.1)

value_read : {scope : Scope} {v : Option (At Given)} {ts us : Tokens} → IsValue scope v ts us → tokens_named ts ≡ true → (maybe_named given_named v ≡ true) × (tokens_named us ≡ true)
value_read (NoValue scope ts) h = (refl, h)
value_read (AValue scope g p ts us d) h = given_read d h

init_read : {types : Bool} {scope after : Scope} {i : At Init} {ts us : Tokens} → IsInit types scope after i ts us → tokens_named ts ≡ true → (init_named i.node ≡ true) × (tokens_named us ≡ true)
init_read (AnInit types scope d x attrs v ts us vs ws a i b c) h =
    let y = declr_read a h in let z = value_read c (attrs_named b y.2) in (and_true (member_named d.node) (maybe_named given_named v) (and_true (declr_named d.node).0 (declr_named d.node).1 y.0 (y.1 ∙ ap is_some i)) z.0, z.1)

inits_read : {types : Bool} {scope after : Scope} {is : List (At Init)} {ts us : Tokens} → IsInits types scope after is ts us → tokens_named ts ≡ true → (each_named init_named is ≡ true) × (tokens_named us ≡ true)
inits_read (FirstInit types scope after i ts us d) h = let x = init_read d h in (each_one init_named i x.0, x.1)
inits_read (MoreInits types scope between after is i c ts us vs d k) h = let x = inits_read d h in let y = init_read k x.1 in (each_more init_named is i x.0 y.0, y.1)

decl_read : {scope after : Scope} {d : Decl} {ts us : Tokens} → IsDecl scope after d ts us → tokens_named ts ≡ true → (decl_named d ≡ true) × (tokens_named us ≡ true)
decl_read (DeclaresNothing scope specs q ts us d) h = let x = specs_read d h in (and_true (each_named spec_named specs) (each_named init_named []) x.0 refl, x.1)
decl_read (Declares scope after specs is q ts us vs d k) h = let x = specs_read d h in let y = inits_read k x.1 in (and_true (each_named spec_named specs) (each_named init_named is) x.0 y.0, y.1)

-- ---- statements

maybe_read : {scope : Scope} {e : Option (At Tree)} {ts us : Tokens} → IsMaybe scope e ts us → tokens_named ts ≡ true → (maybe_named tree_named e ≡ true) × (tokens_named us ≡ true)
maybe_read (NoExpr scope ts) h = (refl, h)
maybe_read (AnExpr scope e ts us d) h = tree_read d h

first_read : {scope after : Scope} {f : First} {ts us : Tokens} → IsFirst scope after f ts us → tokens_named ts ≡ true → (first_named f ≡ true) × (tokens_named us ≡ true)
first_read (FirstDecl scope after d ts us a) h = decl_read a h
first_read (FirstExpr scope e q ts us a) h = maybe_read a h

mutual
  statement_read : {scope : Scope} {l : At Line} {ts us : Tokens} → IsStatement scope l ts us → tokens_named ts ≡ true → (line_named l.node ≡ true) × (tokens_named us ≡ true)
  statement_read (ABlock scope after ls p q ts us d) h = let x = lines_read d h in (rolled.line-Block ls ∙ x.0, x.1)
  statement_read (AnExprStatement scope e q ts us d) h = let x = maybe_read d h in (rolled.line-Expr e ∙ x.0, x.1)
  statement_read (AnIf scope c a s p q ts us vs d k) h =
      let x = tree_read d h in
      let y = statement_read k x.1 in
      (rolled.line-If c a ∙ and_true (tree_named c.node) (line_named a.node && true) x.0 (and_true (line_named a.node) true y.0 refl), y.1)
  statement_read (AnIfElse scope c a b s p q r ts us vs ws d k i g) h =
      let x = tree_read d h in
      let y = statement_read k x.1 in
      let z = statement_read g y.1 in
      (rolled.line-IfElse c a b ∙ and_true (tree_named c.node) (line_named a.node && line_named b.node) x.0 (and_true (line_named a.node) (line_named b.node) y.0 z.0), z.1)
  statement_read (AWhile scope c a s p q ts us vs d k) h = let x = tree_read d h in let y = statement_read k x.1 in (rolled.line-While c a ∙ and_true (tree_named c.node) (line_named a.node) x.0 y.0, y.1)
  statement_read (ADoWhile scope a c s r p q t ts us vs d k) h = let x = statement_read d h in let y = tree_read k x.1 in (rolled.line-DoWhile a c ∙ and_true (tree_named c.node) (line_named a.node) y.0 x.0, y.1)
  statement_read (AFor scope inner f t e a s p q r t0 t1 t2 t3 t4 d i j k) h =
      let x = first_read d h in
      let y = maybe_read i x.1 in
      let z = maybe_read j y.1 in
      let w = statement_read k z.1 in (
        rolled.line-For f t e a
            ∙ and_true (first_named f) (maybe_named tree_named t && (maybe_named tree_named e && line_named a.node)) x.0
            (and_true (maybe_named tree_named t) (maybe_named tree_named e && line_named a.node) y.0 (and_true (maybe_named tree_named e) (line_named a.node) z.0 w.0)),
        w.1,
      )
  statement_read (ASwitch scope c a s p q ts us vs d k) h = let x = tree_read d h in let y = statement_read k x.1 in (rolled.line-Switch c a ∙ and_true (tree_named c.node) (line_named a.node) x.0 y.0, y.1)
  statement_read (ACase scope c a s q ts us vs d k) h = let x = tree_read d h in let y = statement_read k x.1 in (rolled.line-Case c a ∙ and_true (tree_named c.node) (line_named a.node) x.0 y.0, y.1)
  statement_read (ADefault scope a s q ts us d) h = let x = statement_read d h in (rolled.line-Default a ∙ x.0, x.1)
  statement_read (ABreak scope s q us) h = (rolled.line-Break, h)
  statement_read (AContinue scope s q us) h = (rolled.line-Continue, h)
  statement_read (AReturn scope e s q ts us d) h = let x = maybe_read d h in (rolled.line-Return e ∙ x.0, x.1)

  lines_read : {scope after : Scope} {ls : List (At Line)} {ts us : Tokens} → IsLines scope after ls ts us → tokens_named ts ≡ true → (each_named line_named ls ≡ true) × (tokens_named us ≡ true)
  lines_read (NoLine scope ts) h = (refl, h)
  lines_read (AStatement scope after ls l ts us vs d k) h = let x = lines_read d h in let y = statement_read k x.1 in (each_more line_named ls l x.0 y.0, y.1)
  lines_read (ADeclaration scope between after ls d ts us vs a b) h =
      let x = lines_read a h in let y = decl_read b x.1 in (each_more line_named ls (at us (line.Decl d)) x.0 (rolled.line-Decl d ∙ y.0), y.1)

-- ---- units

item_read : {scope after : Scope} {i : Item} {ts us : Tokens} → IsItem scope after i ts us → tokens_named ts ≡ true → (item_named i ≡ true) × (tokens_named us ≡ true)
item_read (ADeclItem scope after d ts us a) h = decl_read a h
item_read (AFunc scope inner specs d x attrs body p q t0 t1 t2 t3 t4 a b i c e) h =
    let y = specs_read a h in
    let z = declr_read b y.1 in
    let w = lines_read e (attrs_named c z.2) in
    (and_true (each_named spec_named specs) (member_named d.node && each_named line_named body) y.0 (and_true (member_named d.node) (each_named line_named body) (and_true (declr_named d.node).0 (declr_named d.node).1 z.0 (z.1 ∙ ap is_some i)) w.0), w.1)

items_read : {scope after : Scope} {is : List (At Item)} {ts us : Tokens} → IsItems scope after is ts us → tokens_named ts ≡ true → (each_named item_named is ≡ true) × (tokens_named us ≡ true)
items_read (NoItem scope ts) h = (refl, h)
items_read (MoreItems scope between after items i ts us vs d k) h = let x = items_read d h in let y = item_read k x.1 in (each_more item_named items (at us i) x.0 y.0, y.1)

pub sentence_named : (ts : Tokens) (u : UnitTree) → IsSentence ts u → tokens_named ts ≡ true → unit_named u ≡ true
sentence_named ts u s h = (items_read s.items h).0
