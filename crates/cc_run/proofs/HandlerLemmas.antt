-- Where a handler stands, as functions are gone over one after another.
use Rattle.std.proofs.Common.{◌≡◌, ◌∙◌, ◌<◌, ◌≤◌, ◌+◌, ℕ, true, false, List, ◌∷◌, length, get_or, drop, refl, ap, sym, Some, None}
use Rattle.std.specs.Prelude.{◌&&◌}
use Rattle.std.specs.Str.{bytes_eq}
use Rattle.std.proofs.lemmas.List.{drop_more, at_drop_all}
use Rattle.cc_program.specs.declared.func.Func.{Func}
use Rattle.cc_states.specs.CcSyntax.Operators.{is_handler}
use Rattle.cc_run.specs.Arrivals.{handler_from}

-- none of the functions so far is it
abbrev pub LooksOn : List ℕ → List Func → ℕ → Type 0
LooksOn name funcs i = handler_from 0 name funcs ≡ handler_from i name (drop i funcs)

ahead : (name : List ℕ) (funcs : List Func) (i : ℕ) (f : Func) → i < length funcs → f ≡ get_or funcs i f → LooksOn name funcs i
    → handler_from 0 name funcs ≡ handler_from i name (f ∷ drop (i + 1) funcs)
ahead name funcs i f h e k =
    k ∙ ap (handler_from i name) (drop_more funcs i f h) ∙ ap (λ g. handler_from i name (g ∷ drop (i + 1) funcs)) (sym e)

pub handler-found : (name : List ℕ) (funcs : List Func) (i : ℕ) (f : Func) → i < length funcs → f ≡ get_or funcs i f → LooksOn name funcs i
    → is_handler f && bytes_eq name f.name ≡ true → handler_from 0 name funcs ≡ Some i
handler-found name funcs i f h e k is_so = ahead name funcs i f h e k ∙ rw is_so refl

pub handler-other : (name : List ℕ) (funcs : List Func) (i : ℕ) (f : Func) → i < length funcs → f ≡ get_or funcs i f → LooksOn name funcs i
    → is_handler f && bytes_eq name f.name ≡ false → LooksOn name funcs (i + 1)
handler-other name funcs i f h e k is_not = ahead name funcs i f h e k ∙ rw is_not refl

pub handler-none : (name : List ℕ) (funcs : List Func) (i : ℕ) → length funcs ≤ i → LooksOn name funcs i → handler_from 0 name funcs ≡ None
handler-none name funcs i h k = k ∙ at_drop_all (handler_from i name) funcs i h

pub ruleset of_handlers = (handler-found, handler-other, handler-none)
