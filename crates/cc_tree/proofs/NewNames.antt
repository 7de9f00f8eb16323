-- The name of a declarator, a variant at a time; and no declarator has a typedef name of its scope.
use Rattle.std.proofs.Common.{◌≡◌, Bool, true, false, List, Option, Some, None, ap, ◌∙◌, sym, subst}
use Rattle.cc_words.specs.declared.word.Word.{Word}
use Rattle.cc_tree.specs.declared.at.At.{At}
use Rattle.cc_tree.specs.declared.tree.Declr as declr
use Rattle.cc_tree.specs.declared.tree.Declr.{Declr, fold-roll-Declr}
use Rattle.cc_tree.specs.declared.tree.Declr.TheVariants as declr_rolls
use Rattle.cc_tree.specs.declared.tree.Declr.TheOpen as one
use Rattle.cc_tree.specs.declared.tree.Params.{Params}
use Rattle.cc_tree.specs.declared.tree.Tree.{Tree}
use Rattle.cc_tree.specs.Scopes.{Scope, is_typedef, name_of, declr_name}
use Rattle.cc_tree.specs.Terms.{IsDeclr, NoName, DeclaredName, DeclrInParens, APointer, AnArray, AnOpenArray, AFunction}
use Rattle.cc_tree.specs.Tokens.{Tokens, Name}

pub name_of-Nothing : name_of declr.Nothing ≡ None
name_of-Nothing = ap name_of (sym declr_rolls.rolls-Nothing) ∙ fold-roll-Declr (Option Name) Unit Unit Unit Unit Unit Unit Unit declr_name (λ _. tt) (λ _. tt) (λ _. tt) (λ _. tt) (λ _. tt) (λ _. tt) (λ _. tt) one.Nothing

pub name_of-Named : (x : Name) → name_of (declr.Named x) ≡ Some x
name_of-Named x = ap name_of (sym (declr_rolls.rolls-Named x)) ∙ fold-roll-Declr (Option Name) Unit Unit Unit Unit Unit Unit Unit declr_name (λ _. tt) (λ _. tt) (λ _. tt) (λ _. tt) (λ _. tt) (λ _. tt) (λ _. tt) (one.Declr::Named x)

pub name_of-Paren : (d : At Declr) → name_of (declr.Paren d) ≡ name_of d.node
name_of-Paren d = ap name_of (sym (declr_rolls.rolls-Paren d)) ∙ fold-roll-Declr (Option Name) Unit Unit Unit Unit Unit Unit Unit declr_name (λ _. tt) (λ _. tt) (λ _. tt) (λ _. tt) (λ _. tt) (λ _. tt) (λ _. tt) (one.Declr::Paren d)

pub name_of-Pointer : (qs : List Word) (d : At Declr) → name_of (declr.Pointer qs d) ≡ name_of d.node
name_of-Pointer qs d = ap name_of (sym (declr_rolls.rolls-Pointer qs d)) ∙ fold-roll-Declr (Option Name) Unit Unit Unit Unit Unit Unit Unit declr_name (λ _. tt) (λ _. tt) (λ _. tt) (λ _. tt) (λ _. tt) (λ _. tt) (λ _. tt) (one.Pointer qs d)

pub name_of-Array : (d : At Declr) (e : Option (At Tree)) → name_of (declr.Array d e) ≡ name_of d.node
name_of-Array d e = ap name_of (sym (declr_rolls.rolls-Array d e)) ∙ fold-roll-Declr (Option Name) Unit Unit Unit Unit Unit Unit Unit declr_name (λ _. tt) (λ _. tt) (λ _. tt) (λ _. tt) (λ _. tt) (λ _. tt) (λ _. tt) (one.Array d e)

pub name_of-Func : (d : At Declr) (ps : Params) → name_of (declr.Func d ps) ≡ name_of d.node
name_of-Func d ps = ap name_of (sym (declr_rolls.rolls-Func d ps)) ∙ fold-roll-Declr (Option Name) Unit Unit Unit Unit Unit Unit Unit declr_name (λ _. tt) (λ _. tt) (λ _. tt) (λ _. tt) (λ _. tt) (λ _. tt) (λ _. tt) (one.Func d ps)

no_name : {A : Type 0} (n : Option Name) (x : Name) → n ≡ None → n ≡ Some x → A
no_name n x h e = absurd (cc)

is_new : (scope : Scope) (n : Option Name) (x y : Name) → is_typedef scope x ≡ false → n ≡ Some x → n ≡ Some y → is_typedef scope y ≡ false
is_new scope n x y h i e = cc

pub declares-new : {scope : Scope} {direct : Bool} {d : At Declr} {ts us : Tokens} → IsDeclr scope direct d ts us → (x : Name) → name_of d.node ≡ Some x → is_typedef scope x ≡ false
declares-new (NoName scope direct ts) x e = no_name (name_of declr.Nothing) x name_of-Nothing e
declares-new (DeclaredName scope direct y s us h) x e = is_new scope (name_of (declr.Named y)) y x h (name_of-Named y) e
declares-new (DeclrInParens scope direct d p q ts us n i) x e = declares-new i x (sym (name_of-Paren d) ∙ e)
declares-new (APointer scope qs d p ts us vs h i) x e = declares-new i x (sym (name_of-Pointer qs d) ∙ e)
declares-new (AnArray scope direct d bound p q ts us vs i t) x e = declares-new i x (sym (name_of-Array d (Some bound)) ∙ e)
declares-new (AnOpenArray scope direct d p q ts us i) x e = declares-new i x (sym (name_of-Array d None) ∙ e)
declares-new (AFunction scope direct d ps p q ts us vs i t) x e = declares-new i x (sym (name_of-Func d ps) ∙ e)
