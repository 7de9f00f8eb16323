-- Scopes, the innermost last, as the definitions have them.
use Rattle.std.proofs.Common.{◌≡◌, ◌∙◌, ◌<◌, ◌-◌, ◌≤◌, ℕ, zero, suc, subst, arith, List, [], ◌∷◌, ◌++◌, Option, refl, ap, sym, reverse, take, length, get_or, map}
use Rattle.std.proofs.lemmas.List.{reverse-append}
use Rattle.cc_program.specs.CcNum.declared.target.Target.{Target}
use Rattle.cc_operands.specs.CcSyntax.Layout.{structure, type_layout}
use Rattle.cc_operands.specs.CcSyntax.Types.{Named}
use Rattle.cc_operands.specs.CcSyntax.declared.sizes.Layout.{Layout}
use Rattle.cc_scopes.specs.Standings.{completed_with}
use Rattle.cc_scopes.specs.Structures.{completed}
use Rattle.cc_scopes.specs.View.{known_of, scopes_of, state_of}
use Rattle.cc_scopes.specs.declared.known.Structures.{Structures}
use Rattle.cc_scopes.specs.declared.state.State.{State as CodeState}
use Rattle.std.proofs.Math.Seq.{take-suc}
use Rattle.cc_scopes.specs.State.{Name, Scope, State, change_at, designated, tagged, find_name, innermost, outer_scopes, in_innermost, or_else, with_name, with_scopes, entered, left, bind, bind_tag}
use Rattle.cc_scopes.specs.declared.designated.Designated.{Designated}
use Rattle.cc_scopes.specs.declared.designated.Tagged.{Tagged}

-- ---- look-up from the last

pub reverse-last : (ss : List Scope) (s : Scope) → reverse (ss ++ s ∷ []) ≡ s ∷ reverse ss
reverse-last ss s = simp reverse-append

split : (ss : List Scope) (n : ℕ) (s : Scope) → 0 < n → n ≤ length ss → s ≡ get_or ss (n - 1) s → reverse (take n ss) ≡ s ∷ reverse (take (n - 1) ss)
split ss zero s h k is = absurd (omega arith)
split ss (suc n) s h k is =
    let e : suc n - 1 ≡ n = omega arith in
    let is' : s ≡ get_or ss n s = subst (λ i. s ≡ get_or ss i s) e is in
    ap reverse (take-suc ss n s (omega arith) ∙ ap (λ d. take n ss ++ d ∷ []) (sym is')) ∙ reverse-last (take n ss) s ∙ ap (λ i. s ∷ reverse (take i ss)) (sym e)

pub designated-last : (x : Name) (ss : List Scope) (n : ℕ) (s : Scope) (r : Option Designated) → 0 < n → n ≤ length ss → s ≡ get_or ss (n - 1) s → r ≡ find_name x s.names
    → designated x (reverse (take n ss)) ≡ or_else r (designated x (reverse (take (n - 1) ss)))
designated-last x ss n s r h k is found = ap (designated x) (split ss n s h k is) ∙ ap (λ f. or_else f (designated x (reverse (take (n - 1) ss)))) (sym found)

pub tagged-last : (x : Name) (ss : List Scope) (n : ℕ) (s : Scope) (r : Option Tagged) → 0 < n → n ≤ length ss → s ≡ get_or ss (n - 1) s → r ≡ find_name x s.tags
    → tagged x (reverse (take n ss)) ≡ or_else r (tagged x (reverse (take (n - 1) ss)))
tagged-last x ss n s r h k is found = ap (tagged x) (split ss n s h k is) ∙ ap (λ f. or_else f (tagged x (reverse (take (n - 1) ss)))) (sym found)

-- ---- the innermost

pub state-completed : (s : CodeState) (new : Structures) (target : Target) (id : ℕ) (ms : List Named) (ly : List Layout) (l : Layout) → ly ≡ map (λ k. k.layout) (known_of s.structures)
    → l ≡ structure (map (λ m. type_layout target ly m.1) ms) → known_of new ≡ change_at id (completed_with ms l) (known_of s.structures) → new.completed.items ≡ s.structures.completed.items ++ id ∷ []
    → state_of (record { scopes = s.scopes; structures = new; names = s.names; locals = s.locals; unfinished = s.unfinished }) ≡ completed target id ms (state_of s)
unfolding state_of
state-completed s new target id ms ly l laid is known behind =
    let same : l ≡ structure (map (λ m. type_layout target (map (λ k. k.layout) (known_of s.structures)) m.1) ms) = is ∙ ap (λ y. structure (map (λ m. type_layout target y m.1) ms)) laid in
    let whole : known_of new ≡ change_at id (completed_with ms (structure (map (λ m. type_layout target (map (λ k. k.layout) (known_of s.structures)) m.1) ms))) (known_of s.structures) =
    known ∙ ap (λ y. change_at id (completed_with ms y) (known_of s.structures)) same in
    λ j. record { scopes = scopes_of s.scopes.items; structures = whole j; completed = behind j; names = s.names.all.items; locals = s.locals.items; unfinished = s.unfinished }

pub ruleset of_states = (reverse-last, state-completed)

in_innermost-parts : (f : Scope → Scope) (ss : List Scope) → f (innermost ss) ∷ outer_scopes ss ≡ in_innermost f ss
in_innermost-parts f [] = refl
in_innermost-parts f (s ∷ ss) = refl

pub bound : (x : Name) (d : Designated) (s t u : State) (c e : Scope) → c ≡ innermost s.scopes → t ≡ left s → e ≡ record { names = with_name x d c.names; tags = c.tags } → u ≡ entered e t → u ≡ bind x d s
bound x d s t u c e inner outer changed whole =
    whole ∙ (λ j. entered (changed j) (outer j))
    ∙ (ap (λ c. entered (record { names = with_name x d c.names; tags = c.tags }) (left s)) inner
    ∙ ap (λ ss. with_scopes ss s) (in_innermost-parts (λ c. record { names = with_name x d c.names; tags = c.tags }) s.scopes))

pub bound_tag : (x : Name) (d : Tagged) (s t u : State) (c e : Scope) → c ≡ innermost s.scopes → t ≡ left s → e ≡ record { names = c.names; tags = with_name x d c.tags } → u ≡ entered e t → u ≡ bind_tag x d s
bound_tag x d s t u c e inner outer changed whole =
    whole ∙ (λ j. entered (changed j) (outer j))
    ∙ (ap (λ c. entered (record { names = c.names; tags = with_name x d c.tags }) (left s)) inner
    ∙ ap (λ ss. with_scopes ss s) (in_innermost-parts (λ c. record { names = c.names; tags = with_name x d c.tags }) s.scopes))

pub ruleset of_binding = (bound, bound_tag)
