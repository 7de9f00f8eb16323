-- What maps from names answer, as lists of names.
use Rattle.std.proofs.Common.{◌≡◌, ◌∙◌, Bool, true, false, cond, List, [], ◌∷◌, Some, refl, ap}
use Rattle.std.specs.Cmp.Lexicographic.{pointwise}
use Rattle.std.specs.Map.{lookup}
use Rattle.std.specs.Prelude.{nat_eq}
use Rattle.indexmap.specs.IndexMap.{insert_entry}
use Rattle.cc_scopes.specs.Maps.{Key, NameMap, named_entries, scope_with}
use Rattle.cc_scopes.specs.State.{Name, empty, find_name, with_name}
use Rattle.cc_scopes.specs.declared.designated.Designated.{Designated}
use Rattle.cc_scopes.specs.declared.designated.Tagged.{Tagged}

module _ {A : Type 0} where
  pub find-entries : (x : Name) (es : List (Key × A)) → find_name x (named_entries es) ≡ lookup (λ k. pointwise nat_eq x k.items) es
  find-entries x [] = refl
  find-entries x (e ∷ es) = ap (λ r. cond (pointwise nat_eq x e.0.items) (Some e.1) r) (find-entries x es)

  put : (b : Bool) (e : Key × A) (k : Key) (d : A) (es : List (Key × A)) (rest : List (Name × A)) → named_entries (insert_entry (λ a b. pointwise nat_eq a.items b.items) es k d) ≡ rest
      → named_entries (cond b ((e.0, d) ∷ es) (e ∷ insert_entry (λ a b. pointwise nat_eq a.items b.items) es k d)) ≡ cond b ((e.0.items, d) ∷ named_entries es) ((e.0.items, e.1) ∷ rest)
  put true e k d es rest h = refl
  put false e k d es rest h = ap (λ r. (e.0.items, e.1) ∷ r) h

  pub inserted : (k : Key) (d : A) (es : List (Key × A)) → named_entries (insert_entry (λ a b. pointwise nat_eq a.items b.items) es k d) ≡ with_name k.items d (named_entries es)
  inserted k d [] = refl
  inserted k d (e ∷ es) = put (pointwise nat_eq k.items e.0.items) e k d es (with_name k.items d (named_entries es)) (inserted k d es)

pub scope_with-none : (names : NameMap Designated) (tags : NameMap Tagged) → names.entries ≡ [] → tags.entries ≡ [] → scope_with names tags ≡ empty
unfolding scope_with
scope_with-none names tags h k = rw (h, k) refl

pub scope_with-names : (x : Name) (names : NameMap Designated) (tags : NameMap Tagged) → find_name x (scope_with names tags).names ≡ lookup (λ k. pointwise nat_eq x k.items) names.entries
unfolding scope_with
scope_with-names x names tags = find-entries x names.entries

pub scope_with-tags : (x : Name) (names : NameMap Designated) (tags : NameMap Tagged) → find_name x (scope_with names tags).tags ≡ lookup (λ k. pointwise nat_eq x k.items) tags.entries
unfolding scope_with
scope_with-tags x names tags = find-entries x tags.entries

pub scope_with-name : (k : Key) (d : Designated) (old new : NameMap Designated) (tags : NameMap Tagged) → new.entries ≡ insert_entry (λ a b. pointwise nat_eq a.items b.items) old.entries k d
    → scope_with new tags ≡ record { names = with_name k.items d (scope_with old tags).names; tags = (scope_with old tags).tags }
unfolding scope_with
scope_with-name k d old new tags h = let e : named_entries new.entries ≡ with_name k.items d (named_entries old.entries) = ap named_entries h ∙ inserted k d old.entries in rw e refl

pub scope_with-tag : (k : Key) (t : Tagged) (names : NameMap Designated) (old new : NameMap Tagged) → new.entries ≡ insert_entry (λ a b. pointwise nat_eq a.items b.items) old.entries k t
    → scope_with names new ≡ record { names = (scope_with names old).names; tags = with_name k.items t (scope_with names old).tags }
unfolding scope_with
scope_with-tag k t names old new h = let e : named_entries new.entries ≡ with_name k.items t (named_entries old.entries) = ap named_entries h ∙ inserted k t old.entries in rw e refl

pub ruleset of_scopes = (scope_with-none, scope_with-names, scope_with-tags, scope_with-name, scope_with-tag)
