-- What is in scope behind a declaration or the lines of a block begins with what was in scope before.
use Rattle.std.proofs.Common.{◌≡◌, Bool, true, false, List, [], ◌∷◌, ◌++◌, Option, Some, None, refl, ap, sym, ◌∙◌, length, take, append_assoc}
use Rattle.std.proofs.Math.Seq.{take-append_seam}
use Rattle.std.proofs.lemmas.List.{append-nil}
use Rattle.cc_tree.specs.declared.at.At.{At}
use Rattle.cc_tree.specs.declared.tree.Declr.{Declr}
use Rattle.cc_tree.specs.declared.unit.Decl.{Decl}
use Rattle.cc_tree.specs.declared.unit.First.{First}
use Rattle.cc_tree.specs.declared.unit.Init.{Init}
use Rattle.cc_tree.specs.declared.unit.Line.{Line}
use Rattle.cc_tree.specs.Scopes.{Scope, name_of, with_name, behind_declr}
use Rattle.cc_tree.specs.Statements.{IsInit, AnInit, IsInits, FirstInit, MoreInits, IsDecl, DeclaresNothing, Declares, IsFirst, FirstDecl, FirstExpr, IsLines, NoLine, AStatement, ADeclaration}
use Rattle.cc_tree.specs.Tokens.{Tokens, Name}

-- the names of a scope, with more behind them
abbrev pub Grows : Scope → Scope → Type 0
Grows scope after = (more : Scope) × (after ≡ scope ++ more)

pub same-grows : (scope : Scope) → Grows scope scope
same-grows scope = ([], sym (append-nil scope))

pub grows-on : (a b c : Scope) → Grows a b → Grows b c → Grows a c
grows-on a b c (more, e) (others, f) = (more ++ others, f ∙ ap (λ (s : Scope). s ++ others) e ∙ append_assoc a more others)

with_name-grows : (x : Option Name) (scope : Scope) → Grows scope (with_name x scope)
with_name-grows None scope = same-grows scope
with_name-grows (Some x) scope = (x ∷ [], refl)

behind_declr-grows : (types : Bool) (d : Declr) (scope : Scope) → Grows scope (behind_declr types d scope)
behind_declr-grows false d scope = same-grows scope
behind_declr-grows true d scope = with_name-grows (name_of d) scope

init-grows : {types : Bool} {scope after : Scope} {i : At Init} {ts us : Tokens} → IsInit types scope after i ts us → Grows scope after
init-grows (AnInit types scope d x attrs v ts us vs ws h e a k) = behind_declr-grows types d.node scope

pub inits-grow : {types : Bool} {scope after : Scope} {is : List (At Init)} {ts us : Tokens} → IsInits types scope after is ts us → Grows scope after
inits-grow (FirstInit types scope after i ts us h) = init-grows h
inits-grow (MoreInits types scope between after is i c ts us vs h k) = grows-on scope between after (inits-grow h) (init-grows k)

pub decl-grows : {scope after : Scope} {d : Decl} {ts us : Tokens} → IsDecl scope after d ts us → Grows scope after
decl-grows (DeclaresNothing scope specs q ts us h) = same-grows scope
decl-grows (Declares scope after specs is q ts us vs h k) = inits-grow k

pub first-grows : {scope after : Scope} {f : First} {ts us : Tokens} → IsFirst scope after f ts us → Grows scope after
first-grows (FirstDecl scope after d ts us h) = decl-grows h
first-grows (FirstExpr scope e q ts us h) = same-grows scope

pub lines-grow : {scope after : Scope} {ls : List (At Line)} {ts us : Tokens} → IsLines scope after ls ts us → Grows scope after
lines-grow (NoLine scope ts) = same-grows scope
lines-grow (AStatement scope after ls l ts us vs h k) = lines-grow h
lines-grow (ADeclaration scope between after ls d ts us vs h k) = grows-on scope between after (lines-grow h) (decl-grows k)

-- as many names as there were before, are those
pub grown-left : (scope after : Scope) → Grows scope after → take (length scope) after ≡ scope
grown-left scope after (more, e) = ap (take (length scope)) e ∙ take-append_seam scope more
