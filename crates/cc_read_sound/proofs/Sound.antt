-- Texts that together have fewer than 2^32 bytes are read as a sound program.
use Rattle.std.proofs.Common.{◌≡◌, ◌<◌, ◌≤◌, ◌^◌, ℕ, zero, suc, List, [], ◌∷◌, length, map, sum, Some, slice_get, subst, arith}
use Rattle.std.specs.List.{AllZip}
use Rattle.std.proofs.lemmas.List.Sums.{sum_by-cons}
use Rattle.cc_named_units.proofs.Texts.{of_text, own_main}
use Rattle.cc_program.specs.CcNum.declared.target.Target.{Target}
use Rattle.cc_program.specs.declared.program.Program.{Program}
use Rattle.cc_program.specs.declared.program.Roles.{Roles}
use Rattle.cc_read.specs.Texts.{IsTypedText, Reads}
use Rattle.cc_linked_programs.proofs.Whole.{sources_sound}
use Rattle.cc_type.specs.CcSyntax.Sound.{IsSound}
use Rattle.cc_things.specs.declared.text.Text.{Text}
use Rattle.cc_read_sound.proofs.Units.{text_sound}
use Rattle.cc_read_sound.proofs.Few.{few-texts}

-- each unit is that of a text, no longer than all of them
pub record TextOf (target : Target) (roles : Roles) (texts : List (List ℕ)) (x : Text) : Type 0 where
  pub text : List ℕ
  pub short : length text ≤ sum (map length texts)
  pub typed : IsTypedText target roles text x

pub text-of : (target : Target) (roles : Roles) (texts : List (List ℕ)) (units : List Text) → AllZip (IsTypedText target roles) texts units → (t : ℕ) (x : Text) → slice_get units t ≡ Some x → TextOf target roles texts x
text-of target roles [] [] h t x e = absurd (cc)
text-of target roles [] (y ∷ units) h t x e = absurd h
text-of target roles (text ∷ texts) [] h t x e = absurd h
text-of target roles (text ∷ texts) (y ∷ units) h zero x e =
    let s : y ≡ x = cc e in
    let c = sum_by-cons (λ (n : ℕ). n) (length text) (map length texts) in
    record { text = text; short = omega (arith, c); typed = subst (IsTypedText target roles text) s h.0 }
text-of target roles (text ∷ texts) (y ∷ units) h (suc t) x e =
    let r = text-of target roles texts units h.1 t x e in
    let c = sum_by-cons (λ (n : ℕ). n) (length text) (map length texts) in
    let l = r.short in
    record { text = r.text; short = omega (arith, c, l); typed = r.typed }

pub reads-sound : (texts : List (List ℕ)) (target : Target) (roles : Roles) (p : Program) → Reads texts target roles p → sum (map length texts) < 2 ^ 32 → IsSound p
reads-sound texts target roles p r small =
    sources_sound r.units target roles p r.linked
    (λ t x e. let y = text-of target roles texts r.units r.typed t x e in let l = y.short in
    text_sound y.text y.typed.tokens y.typed.tree target roles x.unit (omega (arith, l, small)) y.typed.tokens_of y.typed.sentence y.typed.typed)
    (λ t x e. let y = text-of target roles texts r.units r.typed t x e in let l = y.short in
    of_text y.text y.typed.tokens y.typed.tree target roles x.unit (omega (arith, l, small)) y.typed.tokens_of y.typed.sentence y.typed.typed)
    (λ t x e. let y = text-of target roles texts r.units r.typed t x e in own_main y.text y.typed.tokens y.typed.tree target roles x.unit y.typed.tokens_of y.typed.sentence y.typed.typed)
    (few-texts target roles texts r.units r.typed small)
