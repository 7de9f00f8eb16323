-- The last case of a list, taken off and put back changed.
use Rattle.std.proofs.Common.{◌≡◌, ◌∙◌, List, [], ◌∷◌, ◌++◌, refl, ap, sym}
use Rattle.cc_program.specs.declared.stmt.Case.{Case}
use Rattle.cc_typed_statements.specs.Labels.{at_last}

at_last-end : (f : Case → Case) (cs : List Case) (c : Case) → at_last f (cs ++ c ∷ []) ≡ cs ++ f c ∷ []
at_last-end f [] c = refl
at_last-end f (a ∷ []) c = refl
at_last-end f (a ∷ b ∷ cs) c = ap (λ r. a ∷ r) (at_last-end f (b ∷ cs) c)

pub at_last-pushed : (f : Case → Case) (cs front whole : List Case) (c d : Case) → cs ≡ front ++ c ∷ [] → d ≡ f c → whole ≡ front ++ d ∷ [] → whole ≡ at_last f cs
at_last-pushed f cs front whole c d is changed pushed = pushed ∙ (ap (λ e. front ++ e ∷ []) changed ∙ (sym (at_last-end f front c) ∙ ap (at_last f) (sym is)))

pub at_last-none : (f : Case → Case) (cs : List Case) → cs ≡ [] → cs ≡ at_last f cs
at_last-none f cs is = is ∙ ap (at_last f) (sym is)

pub ruleset of_last = (at_last-pushed, at_last-none)
