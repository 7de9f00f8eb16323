-- The identifiers of tokens, one token after the other.
use Rattle.std.proofs.Common.{◌≡◌, ◌∙◌, ◌<◌, ◌+◌, ℕ, List, [], ◌∷◌, ◌++◌, length, get_or, take, Option, Some, None, refl, ap, sym}
use Rattle.std.specs.Prelude.{filter_map, option_to_list}
use Rattle.std.proofs.lemmas.List.{take_more}
use Rattle.std.proofs.lemmas.List.Elements.{filter_map-append}
use Rattle.cc_type.specs.CcLex.declared.token.Token.{Token}
use Rattle.cc_read.specs.Texts.{identifier_in, identifiers_of}

alone : (o : Option (List ℕ)) → filter_map (λ (x : Option (List ℕ)). x) (o ∷ []) ≡ option_to_list o
alone None = refl
alone (Some x) = refl

pub identifiers-next : (ts : List Token) (i : ℕ) (t : Token) → i < length ts → t ≡ get_or ts i t → identifiers_of (take (i + 1) ts) ≡ identifiers_of (take i ts) ++ option_to_list (identifier_in t.kind)
identifiers-next ts i t h e =
    ap identifiers_of (take_more ts i t h)
    ∙ (filter_map-append (λ (x : Token). identifier_in x.kind) (take i ts) (get_or ts i t ∷ [])
    ∙ (ap (λ (x : Token). identifiers_of (take i ts) ++ identifiers_of (x ∷ [])) (sym e)
    ∙ ap (λ (xs : List (List ℕ)). identifiers_of (take i ts) ++ xs) (alone (identifier_in t.kind))))
