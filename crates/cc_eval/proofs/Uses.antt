-- What each way to ask for steps uses.
use Rattle.std.proofs.Common.{◌≡◌, List, [], ◌∷◌, ◌++◌, Option, Some, None, refl, ap, sym, ◌∙◌, append_assoc}
use Rattle.cc_eval.specs.declared.action.Action.{Action}
use Rattle.cc_eval.specs.declared.mark.Mark.{Mark}
use Rattle.cc_eval.specs.Marks.{IsUsed, UsesFirst}
use Rattle.cc_eval.specs.Progress.{Progress, Known, Waits, Traps, Get, known, trap, ask, and_then, bind, needs}

abbrev pub value_in : {A : Type 0} → A → Progress A → A
value_in d (Known v ms) = v
value_in d (Waits action) = d
value_in d (Traps ms) = d

abbrev pub marks_in : {A : Type 0} → List Mark → Progress A → List Mark
marks_in d (Known v ms) = ms
marks_in d (Waits action) = d
marks_in d (Traps ms) = ms

pub same_value : {A : Type 0} (v w : A) (ms ns : List Mark) → Known v ms ≡ Known w ns → v ≡ w
same_value v w ms ns h = ap (value_in v) h

pub same_marks : {A : Type 0} (v w : A) (ms ns : List Mark) → Known v ms ≡ Known w ns → ms ≡ ns
same_marks v w ms ns h = ap (marks_in ms) h

pub same_traps : {A : Type 0} (p : Progress A) (ms ns : List Mark) → p ≡ Traps ms → p ≡ Traps ns → ms ≡ ns
same_traps p ms ns h k = ap (marks_in ms) (sym h ∙ k)

pub uses_known : {A : Type 0} (v : A) → UsesFirst (known v)
uses_known {A} v = record {
  known = λ a ms rest h. ([], same_marks v a ms rest h, λ more. ap (λ (x : A). Known x more) (same_value v a ms rest h));
  traps = λ ms rest h. absurd (cc);
}

abbrev traps_at : (A : Type 0) → Get A
traps_at A = trap

pub uses_trap : {A : Type 0} → UsesFirst (traps_at A)
uses_trap {A} = record {
  known = λ a ms rest h. absurd (cc);
  traps = λ ms rest h. ([], same_traps (Traps ms) ms rest refl h, λ more. refl);
}

asked : {A : Type 0} (action : Action) (f : Mark → A) (a : A) (ms rest : List Mark) → ask action f ms ≡ Known a rest → IsUsed (ask action f) (Known a) ms rest
asked action f a [] rest h = absurd (cc)
asked {A} action f a (m ∷ ms) rest h =
    (m ∷ [], ap (λ (ns : List Mark). m ∷ ns) (same_marks (f m) a ms rest h), λ more. ap (λ (x : A). Known x more) (same_value (f m) a ms rest h))

asked-traps : {A : Type 0} (action : Action) (f : Mark → A) (ms rest : List Mark) → ask action f ms ≡ Traps rest → IsUsed (ask action f) Traps ms rest
asked-traps action f [] rest h = absurd (cc)
asked-traps action f (m ∷ ms) rest h = absurd (cc)

pub uses_ask : {A : Type 0} (action : Action) (f : Mark → A) → UsesFirst (ask action f)
uses_ask action f = record { known = asked action f; traps = asked-traps action f }

-- what is used first, and then
pub both_used : {A B : Type 0} (g : Get A) (f : A → Get B) (b : A) (ms mid rest : List Mark) (outcome : List Mark → Progress B) →
    IsUsed g (Known b) ms mid → IsUsed (f b) outcome mid rest → IsUsed (bind g f) outcome ms rest
both_used g f b ms mid rest outcome u v = (
  u.0 ++ v.0,
  u.1 ∙ ap (λ (ns : List Mark). u.0 ++ ns) v.1 ∙ sym (append_assoc u.0 v.0 rest),
  λ more. ap (bind g f) (append_assoc u.0 v.0 more) ∙ ap (λ p. and_then p f) (u.2 (v.0 ++ more)) ∙ v.2 more,
)

bound : {A B : Type 0} (g : Get A) (f : A → Get B) → UsesFirst g → ((a : A) → UsesFirst (f a)) → (b : B) (ms rest : List Mark) (p : Progress A) → g ms ≡ p →
    and_then p f ≡ Known b rest → IsUsed (bind g f) (Known b) ms rest
bound g f u v b ms rest (Known a mid) e h = both_used g f a ms mid rest (Known b) (u.known a ms mid e) ((v a).known b mid rest h)
bound g f u v b ms rest (Waits action) e h = absurd (cc)
bound g f u v b ms rest (Traps mid) e h = absurd (cc)

trapped : {A B : Type 0} (g : Get A) (f : A → Get B) (ms rest : List Mark) → IsUsed g Traps ms rest → IsUsed (bind g f) Traps ms rest
trapped g f ms rest u = (u.0, u.1, λ more. ap (λ p. and_then p f) (u.2 more))

bound-traps : {A B : Type 0} (g : Get A) (f : A → Get B) → UsesFirst g → ((a : A) → UsesFirst (f a)) → (ms rest : List Mark) (p : Progress A) → g ms ≡ p →
    and_then p f ≡ Traps rest → IsUsed (bind g f) Traps ms rest
bound-traps g f u v ms rest (Known a mid) e h = both_used g f a ms mid rest Traps (u.known a ms mid e) ((v a).traps mid rest h)
bound-traps g f u v ms rest (Waits action) e h = absurd (cc)
bound-traps g f u v ms rest (Traps mid) e h = trapped g f ms rest (u.traps ms rest (e ∙ ap (λ (ns : List Mark). Traps ns) (same_traps (Traps mid) mid rest refl h)))

pub uses_bind : {A B : Type 0} (g : Get A) (f : A → Get B) → UsesFirst g → ((a : A) → UsesFirst (f a)) → UsesFirst (bind g f)
uses_bind g f u v = record {
  known = λ b ms rest h. bound g f u v b ms rest (g ms) refl h;
  traps = λ ms rest h. bound-traps g f u v ms rest (g ms) refl h;
}

pub uses_needs : {A B : Type 0} (v : Option A) (f : A → Get B) → ((a : A) → UsesFirst (f a)) → UsesFirst (needs v f)
uses_needs None f h = uses_trap
uses_needs (Some a) f h = h a
