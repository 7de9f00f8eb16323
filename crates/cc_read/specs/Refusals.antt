-- Why texts are refused: the first text that has a cause by itself, with that cause; where none has, the first cause of linking.
use Rattle.std.specs.Prelude.{ℕ, ◌+◌, ⊤, List, ◌∷◌}
use Rattle.std.specs.List.{All, AllZip}
use Rattle.cc_causes.specs.declared.fault.LinkFault.{LinkFault}
use Rattle.cc_type.specs.CcLex.Faults.{HasFault as HasLexFault}
use Rattle.cc_type.specs.CcLex.Tokens.{Tokens}
use Rattle.cc_type.specs.CcLex.declared.fault.LexFault.{LexFault}
use Rattle.cc_type.specs.CcLex.declared.token.Token.{Token}
use Rattle.cc_link.specs.Linked.{Breaks}
use Rattle.cc_program.specs.CcNum.declared.target.Target.{Target}
use Rattle.cc_program.specs.declared.program.Roles.{Roles}
use Rattle.cc_read.specs.Texts.{IsTypedText, IsLow}
use Rattle.cc_read.specs.declared.refusal.ReadRefusal.{ReadRefusal}
use Rattle.cc_read.specs.declared.refusal.ReadRefusal.TheVariants as why
use Rattle.cc_read.specs.declared.refusal.Refusal.{Refusal}
use Rattle.cc_things.specs.declared.text.Text.{Text}
use Rattle.cc_tree.specs.Faults.{IsRead, HasFault as HasGramFault}
use Rattle.cc_tree.specs.declared.fault.GramFault.{GramFault}
use Rattle.cc_tree.specs.declared.fault.GramFault.TheVariants as gram
use Rattle.cc_tree.specs.declared.unit.Unit.{Unit as UnitTree}
use Rattle.cc_type.specs.Typed.{Refuses}
use Rattle.cc_type.specs.declared.fault.TypeFault.TheVariants as type_fault

-- why a text is refused by itself: it has no tokens, or they are no sentence of at most the greatest height, or that breaks a type rule
pub data HasCause (target : Target) (roles : Roles) : List ℕ → ReadRefusal → Type 0 where
  HasNoTokens : (text : List ℕ) (e : LexFault) → HasLexFault text e → HasCause target roles text (why.Lex e)
  IsNoSentence : (text : List ℕ) (tokens : List Token) (e : GramFault) → Tokens text tokens → HasGramFault tokens e → HasCause target roles text (why.Gram e)
  BreaksRule : (text : List ℕ) (tokens : List Token) (tree : UnitTree) (rule at : ℕ) → Tokens text tokens → IsRead tokens tree → Refuses target roles tree (type_fault.Broken rule at) →
      HasCause target roles text (why.Types (type_fault.Broken rule at))

-- the first text with a cause, of texts of which the first has the number n
pub data IsFirstRefused (target : Target) (roles : Roles) : ℕ → List (List ℕ) → Refusal → Type 0 where
  ThisText : (n : ℕ) (text : List ℕ) (texts : List (List ℕ)) (e : ReadRefusal) → HasCause target roles text e →
      IsFirstRefused target roles n (text ∷ texts) (record { file = n; why = e })
  LaterText : (n : ℕ) (text : List ℕ) (texts : List (List ℕ)) (t : Text) (e : Refusal) → IsTypedText target roles text t → IsLow text → IsFirstRefused target roles (n + 1) texts e →
      IsFirstRefused target roles n (text ∷ texts) e

-- the texts are refused so, where memory did not run out; linking follows all texts, and its causes have the number 0
pub data IsRefused (target : Target) (roles : Roles) (texts : List (List ℕ)) : Refusal → Type 0 where
  AtText : (e : Refusal) → IsFirstRefused target roles 0 texts e → IsRefused target roles texts e
  AtLinking : (units : List Text) (f : LinkFault) → AllZip (IsTypedText target roles) texts units → All IsLow texts → Breaks units roles f →
      IsRefused target roles texts (record { file = 0; why = why.Link f })

-- a sentence is refused only where it is too high
abbrev pub IsTooHigh : ReadRefusal → Type 0
IsTooHigh (why.Gram (gram.TooDeep at)) = ⊤
IsTooHigh _ = ⊥
