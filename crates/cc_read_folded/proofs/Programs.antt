-- The program that texts are read as has folded expressions.
use Rattle.std.proofs.Common.{◌≡◌, ℕ, zero, suc, true, List, [], ◌∷◌, Some, subst}
use Rattle.std.specs.Prelude.{slice_get}
use Rattle.std.specs.List.{AllZip}
use Rattle.cc_lower_sound.specs.Folded.{has_folded_expressions}
use Rattle.cc_program.specs.CcNum.declared.target.Target.{Target}
use Rattle.cc_program.specs.declared.program.Program.{Program}
use Rattle.cc_program.specs.declared.program.Roles.{Roles}
use Rattle.cc_read.specs.Texts.{IsTypedText, Reads}
use Rattle.cc_read_folded.specs.Folded.{IsFoldedUnit}
use Rattle.cc_read_folded.proofs.Linked.{linked_folds}
use Rattle.cc_read_folded.proofs.Units.{text_folds}
use Rattle.cc_things.specs.declared.text.Text.{Text}

one_is : {A : Type 0} (a b : A) → Some a ≡ Some b → a ≡ b
one_is a b h = cc

unit_at : (target : Target) (roles : Roles) (texts : List (List ℕ)) (units : List Text) → AllZip (IsTypedText target roles) texts units → (t : ℕ) (x : Text) → slice_get units t ≡ Some x → IsFoldedUnit target x.unit
unit_at target roles [] [] h t x e = absurd (cc)
unit_at target roles [] (y ∷ units) h t x e = absurd h
unit_at target roles (text ∷ texts) [] h t x e = absurd h
unit_at target roles (text ∷ texts) (y ∷ units) h zero x e =
    let typed : IsTypedText target roles text x = subst (IsTypedText target roles text) (one_is y x e) h.0 in
    text_folds text typed.tokens typed.tree target roles x.unit typed.tokens_of typed.sentence typed.typed
unit_at target roles (text ∷ texts) (y ∷ units) h (suc t) x e = unit_at target roles texts units h.1 t x e

pub reads_folded : (texts : List (List ℕ)) (target : Target) (roles : Roles) (p : Program) → Reads texts target roles p → has_folded_expressions p ≡ true
reads_folded texts target roles p r = linked_folds r.units target roles p (unit_at target roles texts r.units r.typed) r.linked
