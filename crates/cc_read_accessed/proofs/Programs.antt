-- The program that texts are read as accesses its devices without a name.
use Rattle.std.proofs.Common.{◌≡◌, ℕ, zero, suc, List, [], ◌∷◌, Some, subst}
use Rattle.std.specs.Prelude.{slice_get}
use Rattle.std.specs.List.{AllZip}
use Rattle.cc_accessed_operands.specs.Accessed.{AreDevicesAccessed}
use Rattle.cc_program.specs.CcNum.declared.target.Target.{Target}
use Rattle.cc_program.specs.declared.program.Program.{Program}
use Rattle.cc_program.specs.declared.program.Roles.{Roles}
use Rattle.cc_read.specs.Texts.{IsTypedText, Reads}
use Rattle.cc_read_accessed.proofs.Linked.{linked_accesses}
use Rattle.cc_read_accessed.proofs.Units.{text_accesses}
use Rattle.cc_read_accessed.specs.Accessed.{AccessesItsDevices}
use Rattle.cc_things.specs.declared.text.Text.{Text}

one_is : {A : Type 0} (a b : A) → Some a ≡ Some b → a ≡ b
one_is a b h = cc

unit_at : (target : Target) (roles : Roles) (texts : List (List ℕ)) (units : List Text) → AllZip (IsTypedText target roles) texts units → (t : ℕ) (x : Text) → slice_get units t ≡ Some x → AccessesItsDevices x.unit
unit_at target roles [] [] h t x e = absurd (cc)
unit_at target roles [] (y ∷ units) h t x e = absurd h
unit_at target roles (text ∷ texts) [] h t x e = absurd h
unit_at target roles (text ∷ texts) (y ∷ units) h zero x e =
    let typed : IsTypedText target roles text x = subst (IsTypedText target roles text) (one_is y x e) h.0 in
    text_accesses text typed.tokens typed.tree target roles x.unit typed.tokens_of typed.sentence typed.typed
unit_at target roles (text ∷ texts) (y ∷ units) h (suc t) x e = unit_at target roles texts units h.1 t x e

pub reads_accessed : (texts : List (List ℕ)) (target : Target) (roles : Roles) (p : Program) → Reads texts target roles p → AreDevicesAccessed p
reads_accessed texts target roles p r = linked_accesses r.units target roles p (unit_at target roles texts r.units r.typed) r.linked
