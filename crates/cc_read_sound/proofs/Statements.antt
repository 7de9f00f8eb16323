-- Declarations, statements and units that are spelled by tokens whose numbers fit: theirs fit.
use Rattle.std.proofs.Common.{◌≡◌, Bool, true, ◌&&◌, List, [], Option, refl, ◌∙◌}
use Rattle.std.specs.List.{list_all}
use Rattle.cc_type.proofs.CcSyntax.SameLemmas.{and_true}
use Rattle.cc_sound_terms.specs.Ranges.{fits, declr_in_range, spec_in_range}
use Rattle.cc_tree.specs.Scopes.{Scope}
use Rattle.cc_tree.specs.Sentences.{IsItem, ADeclItem, AFunc, IsItems, NoItem, MoreItems, IsSentence}
use Rattle.cc_tree.specs.Statements.{IsGiven, OneValue, ManyValues, IsGivens, FirstValue, MoreValues, IsValue, NoValue, AValue, IsInit, AnInit, IsInits, FirstInit, MoreInits, IsDecl, DeclaresNothing, Declares, IsMaybe, NoExpr, AnExpr, IsFirst, FirstDecl, FirstExpr}
use Rattle.cc_tree.specs.Statements.{IsStatement, ABlock, AnExprStatement, AnIf, AnIfElse, AWhile, ADoWhile, AFor, ASwitch, ACase, ADefault, ABreak, AContinue, AReturn, IsLines, NoLine, AStatement, ADeclaration}
use Rattle.cc_tree.specs.Tokens.{Tokens, at}
use Rattle.cc_tree.specs.declared.at.At.{At}
use Rattle.cc_tree.specs.declared.tree.Tree.{Tree}
use Rattle.cc_tree.specs.declared.unit.Decl.{Decl}
use Rattle.cc_tree.specs.declared.unit.First.{First}
use Rattle.cc_tree.specs.declared.unit.Given.{Given}
use Rattle.cc_tree.specs.declared.unit.Init.{Init}
use Rattle.cc_tree.specs.declared.unit.Item.{Item}
use Rattle.cc_tree.specs.declared.unit.Line as line
use Rattle.cc_tree.specs.declared.unit.Line.{Line}
use Rattle.cc_tree.specs.declared.unit.Unit.{Unit as UnitTree}
use Rattle.cc_sound_declarations.specs.Ranges.{given_in_range, init_fits, decl_fits, value_fits}
use Rattle.cc_read_sound.specs.Ranges.{tokens_fit, each_fits, part_fits, specs_in_range, first_fits, line_in_range, item_fits, unit_fits}
use Rattle.cc_read_sound.proofs.Rolled as rolled
use Rattle.cc_read_sound.proofs.Rolled.{all_more, all_one, each_more, each_one, each-mapped}
use Rattle.cc_read_sound.proofs.Terms.{attrs_fit, comma_fits, tree_fit, specs_fit, declr_fit}

-- ---- declarations

mutual
  given_fit : {scope : Scope} {g : At Given} {ts us : Tokens} → IsGiven scope g ts us → tokens_fit ts ≡ true → (given_in_range g.node ≡ true) × (tokens_fit us ≡ true)
  given_fit (OneValue scope e ts us d) h = let x = tree_fit d h in (rolled.given-One e ∙ x.0, x.1)
  given_fit (ManyValues scope gs p q ts us vs d k) h = let x = givens_fit d h in (rolled.given-Many gs ∙ x.0, comma_fits k x.1)

  givens_fit : {scope : Scope} {gs : List (At Given)} {ts us : Tokens} → IsGivens scope gs ts us → tokens_fit ts ≡ true → (each_fits given_in_range gs ≡ true) × (tokens_fit us ≡ true)
  givens_fit (FirstValue scope g ts us d) h = let x = given_fit d h in (each_one given_in_range g x.0, x.1)
  givens_fit (MoreValues scope gs g c ts us vs d k) h = let x = givens_fit d h in let y = given_fit k x.1 in (each_more given_in_range gs g x.0 y.0, y.1)

value_fit : {scope : Scope} {v : Option (At Given)} {ts us : Tokens} → IsValue scope v ts us → tokens_fit ts ≡ true → (value_fits v ≡ true) × (tokens_fit us ≡ true)
value_fit (NoValue scope ts) h = (refl, h)
value_fit (AValue scope g p ts us d) h = given_fit d h

init_fit : {types : Bool} {scope after : Scope} {i : At Init} {ts us : Tokens} → IsInit types scope after i ts us → tokens_fit ts ≡ true → (init_fits i ≡ true) × (tokens_fit us ≡ true)
init_fit (AnInit types scope d x attrs v ts us vs ws a i b c) h =
    let y = declr_fit a h in let z = value_fit c (attrs_fit b y.1) in (and_true (declr_in_range d.node) (value_fits v) y.0 z.0, z.1)

inits_fit : {types : Bool} {scope after : Scope} {is : List (At Init)} {ts us : Tokens} → IsInits types scope after is ts us → tokens_fit ts ≡ true → (list_all init_fits is ≡ true) × (tokens_fit us ≡ true)
inits_fit (FirstInit types scope after i ts us d) h = let x = init_fit d h in (all_one init_fits i x.0, x.1)
inits_fit (MoreInits types scope between after is i c ts us vs d k) h = let x = inits_fit d h in let y = init_fit k x.1 in (all_more init_fits is i x.0 y.0, y.1)

decl_fit : {scope after : Scope} {d : Decl} {ts us : Tokens} → IsDecl scope after d ts us → tokens_fit ts ≡ true → (decl_fits d ≡ true) × (tokens_fit us ≡ true)
decl_fit (DeclaresNothing scope specs q ts us d) h = let x = specs_fit d h in (and_true (specs_in_range specs) (list_all init_fits []) (each-mapped spec_in_range specs ∙ x.0) refl, x.1)
decl_fit (Declares scope after specs is q ts us vs d k) h = let x = specs_fit d h in let y = inits_fit k x.1 in (and_true (specs_in_range specs) (list_all init_fits is) (each-mapped spec_in_range specs ∙ x.0) y.0, y.1)

-- ---- statements

maybe_fit : {scope : Scope} {e : Option (At Tree)} {ts us : Tokens} → IsMaybe scope e ts us → tokens_fit ts ≡ true → (part_fits fits e ≡ true) × (tokens_fit us ≡ true)
maybe_fit (NoExpr scope ts) h = (refl, h)
maybe_fit (AnExpr scope e ts us d) h = tree_fit d h

first_fit : {scope after : Scope} {f : First} {ts us : Tokens} → IsFirst scope after f ts us → tokens_fit ts ≡ true → (first_fits f ≡ true) × (tokens_fit us ≡ true)
first_fit (FirstDecl scope after d ts us a) h = decl_fit a h
first_fit (FirstExpr scope e q ts us a) h = maybe_fit a h

mutual
  statement_fit : {scope : Scope} {l : At Line} {ts us : Tokens} → IsStatement scope l ts us → tokens_fit ts ≡ true → (line_in_range l.node ≡ true) × (tokens_fit us ≡ true)
  statement_fit (ABlock scope after ls p q ts us d) h = let x = lines_fit d h in (rolled.line-Block ls ∙ x.0, x.1)
  statement_fit (AnExprStatement scope e q ts us d) h = let x = maybe_fit d h in (rolled.line-Expr e ∙ x.0, x.1)
  statement_fit (AnIf scope c a s p q ts us vs d k) h =
      let x = tree_fit d h in
      let y = statement_fit k x.1 in
      (rolled.line-If c a ∙ and_true (fits c.node) (line_in_range a.node && true) x.0 (and_true (line_in_range a.node) true y.0 refl), y.1)
  statement_fit (AnIfElse scope c a b s p q r ts us vs ws d k i g) h =
      let x = tree_fit d h in
      let y = statement_fit k x.1 in
      let z = statement_fit g y.1 in
      (rolled.line-IfElse c a b ∙ and_true (fits c.node) (line_in_range a.node && line_in_range b.node) x.0 (and_true (line_in_range a.node) (line_in_range b.node) y.0 z.0), z.1)
  statement_fit (AWhile scope c a s p q ts us vs d k) h = let x = tree_fit d h in let y = statement_fit k x.1 in (rolled.line-While c a ∙ and_true (fits c.node) (line_in_range a.node) x.0 y.0, y.1)
  statement_fit (ADoWhile scope a c s r p q t ts us vs d k) h = let x = statement_fit d h in let y = tree_fit k x.1 in (rolled.line-DoWhile a c ∙ and_true (fits c.node) (line_in_range a.node) y.0 x.0, y.1)
  statement_fit (AFor scope inner f t e a s p q r t0 t1 t2 t3 t4 d i j k) h =
      let x = first_fit d h in
      let y = maybe_fit i x.1 in
      let z = maybe_fit j y.1 in
      let w = statement_fit k z.1 in (
        rolled.line-For f t e a
            ∙ and_true (first_fits f) (part_fits fits t && (part_fits fits e && line_in_range a.node)) x.0
            (and_true (part_fits fits t) (part_fits fits e && line_in_range a.node) y.0 (and_true (part_fits fits e) (line_in_range a.node) z.0 w.0)),
        w.1,
      )
  statement_fit (ASwitch scope c a s p q ts us vs d k) h = let x = tree_fit d h in let y = statement_fit k x.1 in (rolled.line-Switch c a ∙ and_true (fits c.node) (line_in_range a.node) x.0 y.0, y.1)
  statement_fit (ACase scope c a s q ts us vs d k) h = let x = tree_fit d h in let y = statement_fit k x.1 in (rolled.line-Case c a ∙ and_true (fits c.node) (line_in_range a.node) x.0 y.0, y.1)
  statement_fit (ADefault scope a s q ts us d) h = let x = statement_fit d h in (rolled.line-Default a ∙ x.0, x.1)
  statement_fit (ABreak scope s q us) h = (rolled.line-Break, h)
  statement_fit (AContinue scope s q us) h = (rolled.line-Continue, h)
  statement_fit (AReturn scope e s q ts us d) h = let x = maybe_fit d h in (rolled.line-Return e ∙ x.0, x.1)

  lines_fit : {scope after : Scope} {ls : List (At Line)} {ts us : Tokens} → IsLines scope after ls ts us → tokens_fit ts ≡ true → (each_fits line_in_range ls ≡ true) × (tokens_fit us ≡ true)
  lines_fit (NoLine scope ts) h = (refl, h)
  lines_fit (AStatement scope after ls l ts us vs d k) h = let x = lines_fit d h in let y = statement_fit k x.1 in (each_more line_in_range ls l x.0 y.0, y.1)
  lines_fit (ADeclaration scope between after ls d ts us vs a b) h =
      let x = lines_fit a h in let y = decl_fit b x.1 in (each_more line_in_range ls (at us (line.Decl d)) x.0 (rolled.line-Decl d ∙ y.0), y.1)

-- ---- units

item_fit : {scope after : Scope} {i : Item} {ts us : Tokens} → IsItem scope after i ts us → tokens_fit ts ≡ true → (item_fits i ≡ true) × (tokens_fit us ≡ true)
item_fit (ADeclItem scope after d ts us a) h = decl_fit a h
item_fit (AFunc scope inner specs d x attrs body p q t0 t1 t2 t3 t4 a b i c e) h =
    let y = specs_fit a h in
    let z = declr_fit b y.1 in
    let w = lines_fit e (attrs_fit c z.1) in
    (and_true (specs_in_range specs) (declr_in_range d.node && each_fits line_in_range body) (each-mapped spec_in_range specs ∙ y.0) (and_true (declr_in_range d.node) (each_fits line_in_range body) z.0 w.0), w.1)

items_fit : {scope after : Scope} {is : List (At Item)} {ts us : Tokens} → IsItems scope after is ts us → tokens_fit ts ≡ true → (each_fits item_fits is ≡ true) × (tokens_fit us ≡ true)
items_fit (NoItem scope ts) h = (refl, h)
items_fit (MoreItems scope between after items i ts us vs d k) h = let x = items_fit d h in let y = item_fit k x.1 in (each_more item_fits items (at us i) x.0 y.0, y.1)

pub sentence_fits : (ts : Tokens) (u : UnitTree) → IsSentence ts u → tokens_fit ts ≡ true → unit_fits u ≡ true
sentence_fits ts u s h = (items_fit s.items h).0
