-- Texts together: they are at most one program, or refused for one cause, and not both where no sentence is too high.
use Rattle.std.proofs.Common.{◌≡◌, ◌∙◌, ◌+◌, ℕ, List, [], ◌∷◌, Result, Ok, Err, IfOk, IfErr, refl, ap, sym, subst}
use Rattle.std.specs.Prelude.{◌≢◌, MatchResult}
use Rattle.std.specs.List.{All, AllZip}
use Rattle.std.proofs.lemmas.List.Elements.{All-head, All-tail}
use Rattle.cc_causes.specs.declared.fault.LinkFault.{LinkFault}
use Rattle.cc_link.proofs.AtMostOne as links
use Rattle.cc_link.specs.Linked.{Links, Breaks}
use Rattle.cc_link.specs.Tells.{Tells}
use Rattle.cc_link.specs.declared.fault.LinkEnd.{LinkEnd}
use Rattle.cc_link.specs.declared.fault.LinkEnd.TheVariants as end
use Rattle.cc_program.specs.CcNum.declared.target.Target.{Target}
use Rattle.cc_program.specs.declared.program.Program.{Program}
use Rattle.cc_program.specs.declared.program.Roles.{Roles}
use Rattle.cc_read.proofs.Causes.{one_typed_text, no_cause, only_high, same_cause}
use Rattle.cc_read.specs.Faults.{for_link}
use Rattle.cc_read.specs.Refusals.{HasCause, IsFirstRefused, ThisText, LaterText, IsRefused, AtText, AtLinking, IsTooHigh}
use Rattle.cc_read.specs.Texts.{IsTypedText, IsLow, Reads}
use Rattle.cc_read.specs.declared.refusal.ReadRefusal.{ReadRefusal}
use Rattle.cc_read.specs.declared.refusal.ReadRefusal.TheVariants as why
use Rattle.cc_read.specs.declared.refusal.Refusal.{Refusal}
use Rattle.cc_things.specs.declared.text.Text.{Text}

abbrev refusal_of : ℕ → ReadRefusal → Refusal
refusal_of n e = record { file = n; why = e }

module _ (target : Target) (roles : Roles) where
  pub one_units : (texts : List (List ℕ)) (ts us : List Text) → AllZip (IsTypedText target roles) texts ts → AllZip (IsTypedText target roles) texts us → ts ≡ us
  one_units [] [] [] h k = refl
  one_units [] [] (u ∷ us) h k = absurd k
  one_units [] (t ∷ ts) us h k = absurd h
  one_units (text ∷ texts) [] us h k = absurd h
  one_units (text ∷ texts) (t ∷ ts) [] h k = absurd k
  one_units (text ∷ texts) (t ∷ ts) (u ∷ us) h k =
      ap (λ x. x ∷ ts) (one_typed_text target roles text t u h.0 k.0) ∙ ap (λ x. u ∷ x) (one_units texts ts us h.1 k.1)

  pub one_program : (texts : List (List ℕ)) (p q : Program) → Reads texts target roles p → Reads texts target roles q → p ≡ q
  one_program texts p q h k =
      links.one_program k.units target roles p q (subst (λ us. Links us target roles p) (one_units texts h.units k.units h.typed k.typed) h.linked) k.linked

  none_first : (n : ℕ) (texts : List (List ℕ)) (ts : List Text) (e : Refusal) → AllZip (IsTypedText target roles) texts ts → All IsLow texts → IsFirstRefused target roles n texts e → ⊥
  none_first n _ [] _ h low (ThisText _ text texts e c) = absurd h
  none_first n _ (t ∷ ts) _ h low (ThisText _ text texts e c) = no_cause target roles text t e h.0 (All-head IsLow text texts low) c
  none_first n _ [] e h low (LaterText _ text texts u _ i l r) = absurd h
  none_first n _ (t ∷ ts) e h low (LaterText _ text texts u _ i l r) = none_first (n + 1) texts ts e h.1 (All-tail IsLow text texts low) r

  high_first : (n : ℕ) (texts : List (List ℕ)) (ts : List Text) (e : Refusal) → AllZip (IsTypedText target roles) texts ts → IsFirstRefused target roles n texts e → IsTooHigh e.why
  high_first n _ [] _ h (ThisText _ text texts e c) = absurd h
  high_first n _ (t ∷ ts) _ h (ThisText _ text texts e c) = only_high target roles text t e h.0 c
  high_first n _ [] e h (LaterText _ text texts u _ i l r) = absurd h
  high_first n _ (t ∷ ts) e h (LaterText _ text texts u _ i l r) = high_first (n + 1) texts ts e h.1 r

  one_first : (n : ℕ) (texts : List (List ℕ)) (e f : Refusal) → IsFirstRefused target roles n texts e → IsFirstRefused target roles n texts f → e ≡ f
  one_first n _ _ _ (ThisText _ text texts e h) (ThisText _ _ _ f k) = ap (refusal_of n) (same_cause target roles text e f h k)
  one_first n _ _ f (ThisText _ text texts e h) (LaterText _ _ _ t _ i l r) = absurd (no_cause target roles text t e i l h)
  one_first n _ e _ (LaterText _ text texts t _ i l r) (ThisText _ _ _ f k) = absurd (no_cause target roles text t f i l k)
  one_first n _ e f (LaterText _ text texts t _ i l r) (LaterText _ _ _ u _ j m s) = one_first (n + 1) texts e f r s

  pub not_refused : (texts : List (List ℕ)) (p : Program) (e : Refusal) → Reads texts target roles p → All IsLow texts → IsRefused target roles texts e → ⊥
  not_refused texts p e h low (AtText _ r) = none_first 0 texts h.units e h.typed low r
  not_refused texts p _ h low (AtLinking us f k l b) =
      links.not_both us target roles p f (subst (λ x. Links x target roles p) (one_units texts h.units us h.typed k) h.linked) b

  pub high_alone : (texts : List (List ℕ)) (p : Program) (e : Refusal) → Reads texts target roles p → IsRefused target roles texts e → IsTooHigh e.why
  high_alone texts p e h (AtText _ r) = high_first 0 texts h.units e h.typed r
  high_alone texts p _ h (AtLinking us f k l b) = absurd (not_refused texts p _ h l (AtLinking us f k l b))

  pub one_cause : (texts : List (List ℕ)) (e f : Refusal) → IsRefused target roles texts e → IsRefused target roles texts f → e ≡ f
  one_cause texts e f (AtText _ r) (AtText _ s) = one_first 0 texts e f r s
  one_cause texts e _ (AtText _ r) (AtLinking us f k l b) = absurd (none_first 0 texts us e k l r)
  one_cause texts _ f (AtLinking us e k l b) (AtText _ r) = absurd (none_first 0 texts us f k l r)
  one_cause texts _ _ (AtLinking us e k l b) (AtLinking vs f i m d) =
      ap (λ f. refusal_of 0 (why.Link f)) (links.one_cause vs roles e f (subst (λ x. Breaks x roles e) (one_units texts us vs k i) b) d)

-- ---- what is answered

only_memory : (e : ReadRefusal) → (e ≢ why.NoMemory → ⊥) → e ≡ why.NoMemory
only_memory (why.Lex f) h = absurd (h (λ e. absurd (cc)))
only_memory (why.Gram f) h = absurd (h (λ e. absurd (cc)))
only_memory (why.Types f) h = absurd (h (λ e. absurd (cc)))
only_memory (why.Link f) h = absurd (h (λ e. absurd (cc)))
only_memory why.NoMemory h = refl

module _ (texts : List (List ℕ)) (target : Target) (roles : Roles) where
  pub answered : (r : Result Program Refusal) → IfOk r (λ p. Reads texts target roles p) → IfErr r (λ e. e.why ≢ why.NoMemory → IsRefused target roles texts e) →
      (p : Program) → Reads texts target roles p → All IsLow texts → MatchResult r (λ q. q ≡ p) (λ e. e.why ≡ why.NoMemory)
  answered (Ok q) h k p reads low = one_program target roles texts q p h reads
  answered (Err e) h k p reads low = only_memory e.why (λ n. not_refused target roles texts p e reads low (k n))

  pub told : (r : Result Program Refusal) → IfOk r (λ p. Reads texts target roles p) → IfOk r (λ p. All IsLow texts) → IfErr r (λ e. e.why ≢ why.NoMemory → IsRefused target roles texts e) →
      (e : Refusal) → IsRefused target roles texts e → MatchResult r (λ p. ⊥) (λ f. f.why ≢ why.NoMemory → f ≡ e)
  told (Ok p) h low k e refused = not_refused target roles texts p e h low refused
  told (Err f) h low k e refused = λ n. one_cause target roles texts f e (k n) refused

-- what linking answers, as a refusal
pub by_link : (units : List Text) (roles : Roles) (e : LinkEnd) → Tells units roles e → for_link e ≢ why.NoMemory → (f : LinkFault) × Breaks units roles f × (for_link e ≡ why.Link f)
by_link units roles (end.Fault f) h m = (f, h, refl)
by_link units roles end.NoMemory h m = absurd (m refl)

module _ (target : Target) (roles : Roles) (texts : List (List ℕ)) (units : List Text) where
  pub reads : (p : Program) → AllZip (IsTypedText target roles) texts units → Links units target roles p → Reads texts target roles p
  reads p h k = record { units = units; typed = h; linked = k }

  pub not_linked : (e : ReadRefusal) → AllZip (IsTypedText target roles) texts units → All IsLow texts → (e ≢ why.NoMemory → (f : LinkFault) × Breaks units roles f × (e ≡ why.Link f)) →
      e ≢ why.NoMemory → IsRefused target roles texts (record { file = 0; why = e })
  not_linked e h low k n =
      let b = k n in
      subst (λ w. IsRefused target roles texts (record { file = 0; why = w })) (sym b.2) (AtLinking units b.0 h low b.1)
