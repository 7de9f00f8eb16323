-- What each name is, as a loop tells it.
use Rattle.std.proofs.Common.{arith, ◌≡◌, ◌∙◌, ◌+◌, ◌<◌, ◌≤◌, ℕ, suc, List, [], ◌∷◌, ◌++◌, ap, sym, length, drop, get_or, append_assoc}
use Rattle.std.proofs.lemmas.List.{append-nil, drop_more, drop_all}
use Rattle.cc_scopes.specs.declared.unit.Declared.{Declared}
use Rattle.cc_scopes.specs.CcUnit.declared.ids.Id.{Id}
use Rattle.cc_numbering.specs.Names.{own_id, own_ids}

pub ids-more : (ids next : List Id) (ds : List Declared) (i : ℕ) (d : Declared) (whole : List Id) → i < length ds → d ≡ get_or ds i d → next ≡ ids ++ own_id i d.kind ∷ []
    → ids ++ own_ids i (drop i ds) ≡ whole → next ++ own_ids (i + 1) (drop (i + 1) ds) ≡ whole
ids-more ids next ds i d whole h is pushed w =
    let further : suc i ≡ i + 1 = omega arith in
    let step : own_ids i (drop i ds) ≡ own_id i d.kind ∷ own_ids (i + 1) (drop (i + 1) ds) =
    ap (own_ids i) (drop_more ds i d h ∙ ap (λ e. e ∷ drop (i + 1) ds) (sym is)) ∙ ap (λ n. own_id i d.kind ∷ own_ids n (drop (i + 1) ds)) further in
    ap (λ n. n ++ own_ids (i + 1) (drop (i + 1) ds)) pushed ∙ (append_assoc ids (own_id i d.kind ∷ []) (own_ids (i + 1) (drop (i + 1) ds)) ∙ (ap (λ r. ids ++ r) (sym step) ∙ w))

pub ids-all : (ids : List Id) (ds : List Declared) (i : ℕ) (whole : List Id) → length ds ≤ i → ids ++ own_ids i (drop i ds) ≡ whole → ids ≡ whole
ids-all ids ds i whole h w = let none : drop i ds ≡ [] = drop_all i ds h in sym (append-nil ids) ∙ (ap (λ r. ids ++ own_ids i r) (sym none) ∙ w)

pub ruleset of_ids = (ids-more, ids-all)
