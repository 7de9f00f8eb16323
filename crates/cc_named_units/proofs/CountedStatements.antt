-- What declarations, statements and units count is no more than the tokens by which these are spelled.
use Rattle.std.proofs.Common.{◌≤◌, ◌+◌, Bool, List, length, Option, arith}
use Rattle.cc_tree.specs.Scopes.{Scope}
use Rattle.cc_tree.specs.Sentences.{IsItem, ADeclItem, AFunc, IsItems, NoItem, MoreItems, IsSentence}
use Rattle.cc_tree.specs.Statements.{IsGiven, OneValue, ManyValues, IsGivens, FirstValue, MoreValues, IsValue, NoValue, AValue, IsInit, AnInit, IsInits, FirstInit, MoreInits, IsDecl, DeclaresNothing, Declares, IsMaybe, NoExpr, AnExpr, IsFirst, FirstDecl, FirstExpr}
use Rattle.cc_tree.specs.Statements.{IsStatement, ABlock, AnExprStatement, AnIf, AnIfElse, AWhile, ADoWhile, AFor, ASwitch, ACase, ADefault, ABreak, AContinue, AReturn, IsLines, NoLine, AStatement, ADeclaration}
use Rattle.cc_tree.specs.Tokens.{Tokens, at}
use Rattle.cc_tree.specs.declared.at.At.{At}
use Rattle.cc_tree.specs.declared.tree.Tree.{Tree}
use Rattle.cc_tree.specs.declared.unit.Decl.{Decl}
use Rattle.cc_tree.specs.declared.unit.First.{First}
use Rattle.cc_tree.specs.declared.unit.Given.{Given}
use Rattle.cc_tree.specs.declared.unit.Init.{Init}
use Rattle.cc_tree.specs.declared.unit.Item.{Item}
use Rattle.cc_tree.specs.declared.unit.Line as line
use Rattle.cc_tree.specs.declared.unit.Line.{Line}
use Rattle.cc_tree.specs.declared.unit.Unit.{Unit as UnitTree}
use Rattle.cc_named_units.specs.Counts.{each_count, maybe_count, tree_count, given_count, init_count, decl_count, first_count, line_count, item_count, unit_count}
use Rattle.cc_named_units.proofs.CountedRolled as rolled
use Rattle.cc_named_units.proofs.CountedRolled.{each_more, each_one}
use Rattle.cc_named_units.proofs.CountedTerms.{attrs_read, comma_read, tree_read, specs_read, declr_read}

-- ---- declarations

mutual
  given_read : {scope : Scope} {g : At Given} {ts us : Tokens} → IsGiven scope g ts us → length us + given_count g.node ≤ length ts
  given_read (OneValue scope e ts us d) = let x = tree_read d in omega (arith, rolled.given-One e)
  given_read (ManyValues scope gs p q ts us vs d k) = let x = givens_read d in let y = comma_read k in omega (arith, rolled.given-Many gs)

  givens_read : {scope : Scope} {gs : List (At Given)} {ts us : Tokens} → IsGivens scope gs ts us → length us + each_count given_count gs ≤ length ts
  givens_read (FirstValue scope g ts us d) = let x = given_read d in omega (arith, each_one given_count g)
  givens_read (MoreValues scope gs g c ts us vs d k) = let x = givens_read d in let y = given_read k in omega (arith, each_more given_count gs g)

value_read : {scope : Scope} {v : Option (At Given)} {ts us : Tokens} → IsValue scope v ts us → length us + maybe_count given_count v ≤ length ts
value_read (NoValue scope ts) = omega arith
value_read (AValue scope g p ts us d) = let x = given_read d in omega arith

init_read : {types : Bool} {scope after : Scope} {i : At Init} {ts us : Tokens} → IsInit types scope after i ts us → length us + init_count i.node ≤ length ts
init_read (AnInit types scope d x attrs v ts us vs ws a i b c) = let y = declr_read a in let h = attrs_read b in let z = value_read c in omega arith

inits_read : {types : Bool} {scope after : Scope} {is : List (At Init)} {ts us : Tokens} → IsInits types scope after is ts us → length us + each_count init_count is ≤ length ts
inits_read (FirstInit types scope after i ts us d) = let x = init_read d in omega (arith, each_one init_count i)
inits_read (MoreInits types scope between after is i c ts us vs d k) = let x = inits_read d in let y = init_read k in omega (arith, each_more init_count is i)

decl_read : {scope after : Scope} {d : Decl} {ts us : Tokens} → IsDecl scope after d ts us → length us + decl_count d ≤ length ts
decl_read (DeclaresNothing scope specs q ts us d) = let x = specs_read d in omega arith
decl_read (Declares scope after specs is q ts us vs d k) = let x = specs_read d in let y = inits_read k in omega arith

-- ---- statements

maybe_read : {scope : Scope} {e : Option (At Tree)} {ts us : Tokens} → IsMaybe scope e ts us → length us + maybe_count tree_count e ≤ length ts
maybe_read (NoExpr scope ts) = omega arith
maybe_read (AnExpr scope e ts us d) = let x = tree_read d in omega arith

first_read : {scope after : Scope} {f : First} {ts us : Tokens} → IsFirst scope after f ts us → length us + first_count f ≤ length ts
first_read (FirstDecl scope after d ts us a) = let x = decl_read a in omega arith
first_read (FirstExpr scope e q ts us a) = let x = maybe_read a in omega arith

mutual
  statement_read : {scope : Scope} {l : At Line} {ts us : Tokens} → IsStatement scope l ts us → length us + line_count l.node ≤ length ts
  statement_read (ABlock scope after ls p q ts us d) = let x = lines_read d in omega (arith, rolled.line-Block ls)
  statement_read (AnExprStatement scope e q ts us d) = let x = maybe_read d in omega (arith, rolled.line-Expr e)
  statement_read (AnIf scope c a s p q ts us vs d k) = let x = tree_read d in let y = statement_read k in omega (arith, rolled.line-If c a)
  statement_read (AnIfElse scope c a b s p q r ts us vs ws d k i g) = let x = tree_read d in let y = statement_read k in let z = statement_read g in omega (arith, rolled.line-IfElse c a b)
  statement_read (AWhile scope c a s p q ts us vs d k) = let x = tree_read d in let y = statement_read k in omega (arith, rolled.line-While c a)
  statement_read (ADoWhile scope a c s r p q t ts us vs d k) = let x = statement_read d in let y = tree_read k in omega (arith, rolled.line-DoWhile a c)
  statement_read (AFor scope inner f t e a s p q r t0 t1 t2 t3 t4 d i j k) = let x = first_read d in let y = maybe_read i in let z = maybe_read j in let w = statement_read k in omega (arith, rolled.line-For f t e a)
  statement_read (ASwitch scope c a s p q ts us vs d k) = let x = tree_read d in let y = statement_read k in omega (arith, rolled.line-Switch c a)
  statement_read (ACase scope c a s q ts us vs d k) = let x = tree_read d in let y = statement_read k in omega (arith, rolled.line-Case c a)
  statement_read (ADefault scope a s q ts us d) = let x = statement_read d in omega (arith, rolled.line-Default a)
  statement_read (ABreak scope s q us) = omega (arith, rolled.line-Break)
  statement_read (AContinue scope s q us) = omega (arith, rolled.line-Continue)
  statement_read (AReturn scope e s q ts us d) = let x = maybe_read d in omega (arith, rolled.line-Return e)

  lines_read : {scope after : Scope} {ls : List (At Line)} {ts us : Tokens} → IsLines scope after ls ts us → length us + each_count line_count ls ≤ length ts
  lines_read (NoLine scope ts) = omega arith
  lines_read (AStatement scope after ls l ts us vs d k) = let x = lines_read d in let y = statement_read k in omega (arith, each_more line_count ls l)
  lines_read (ADeclaration scope between after ls d ts us vs a b) = let x = lines_read a in let y = decl_read b in omega (arith, each_more line_count ls (at us (line.Decl d)), rolled.line-Decl d)

-- ---- units

item_read : {scope after : Scope} {i : Item} {ts us : Tokens} → IsItem scope after i ts us → length us + item_count i ≤ length ts
item_read (ADeclItem scope after d ts us a) = let x = decl_read a in omega arith
item_read (AFunc scope inner specs d x attrs body p q t0 t1 t2 t3 t4 a b i c e) = let y = specs_read a in let z = declr_read b in let w = attrs_read c in let h = lines_read e in omega arith

items_read : {scope after : Scope} {is : List (At Item)} {ts us : Tokens} → IsItems scope after is ts us → length us + each_count item_count is ≤ length ts
items_read (NoItem scope ts) = omega arith
items_read (MoreItems scope between after items i ts us vs d k) = let x = items_read d in let y = item_read k in omega (arith, each_more item_count items (at us i))

pub sentence_read : (ts : Tokens) (u : UnitTree) → IsSentence ts u → unit_count u ≤ length ts
sentence_read ts u s = let x = items_read s.items in omega arith
