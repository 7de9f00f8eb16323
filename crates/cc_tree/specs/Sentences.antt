-- Translation units (C99 6.9): the sentences, and their trees.
use Rattle.std.specs.Prelude.{◌≡◌, false, List, [], ◌∷◌, ◌++◌, Some, None}
use Rattle.cc_lex.specs.declared.token.Mark.TheVariants as m
use Rattle.cc_tree.specs.declared.at.At.{At}
use Rattle.cc_tree.specs.declared.tree.Attr.{Attr}
use Rattle.cc_tree.specs.declared.tree.Declr.{Declr}
use Rattle.cc_tree.specs.declared.tree.Spec.{Spec}
use Rattle.cc_tree.specs.declared.unit.Decl.{Decl}
use Rattle.cc_tree.specs.declared.unit.Item.{Item}
use Rattle.cc_tree.specs.declared.unit.Item.TheVariants as item
use Rattle.cc_tree.specs.declared.unit.Line.{Line}
use Rattle.cc_tree.specs.declared.unit.Unit.{Unit as UnitTree}
use Rattle.cc_tree.specs.Outside.{first_outside}
use Rattle.cc_tree.specs.Scopes.{Scope, name_of}
use Rattle.cc_tree.specs.Statements.{IsDecl, IsLines}
use Rattle.cc_tree.specs.Terms.{IsSpecs, IsDeclr, IsAttrs}
use Rattle.cc_tree.specs.Tokens.{Tokens, Name, Span, mark, at}

-- a declaration, or a function definition, which declares no typedef name
pub data IsItem : Scope → Scope → Item → Tokens → Tokens → Type 0 where
  ADeclItem : (scope after : Scope) (d : Decl) (ts us : Tokens) → IsDecl scope after d ts us → IsItem scope after (item.Decl d) ts us
  AFunc : (scope inner : Scope) (specs : List (At Spec)) (d : At Declr) (x : Name) (attrs : List (At Attr)) (body : List (At Line)) (p q : Span) (t0 t1 t2 t3 t4 : Tokens) → IsSpecs scope specs t0 t1 →
      IsDeclr scope false d t1 t2 → name_of d.node ≡ Some x → IsAttrs attrs t2 (mark m.LBrace p ∷ t3) → IsLines scope inner body t3 (mark m.RBrace q ∷ t4) →
      IsItem scope scope (item.Func specs d attrs body) t0 t4

-- { item }
pub data IsItems : Scope → Scope → List (At Item) → Tokens → Tokens → Type 0 where
  NoItem : (scope : Scope) (ts : Tokens) → IsItems scope scope [] ts ts
  MoreItems : (scope between after : Scope) (items : List (At Item)) (i : Item) (ts us vs : Tokens) → IsItems scope between items ts us → IsItem between after i us vs →
      IsItems scope after (items ++ at us i ∷ []) ts vs

-- The tree derives all the tokens, none of which is an outside word. No typedef name is in scope at first.
pub record IsSentence (ts : Tokens) (u : UnitTree) : Type 0 where
  pub inside : first_outside ts ≡ None
  pub after : Scope
  pub items : IsItems [] after u.items ts []
