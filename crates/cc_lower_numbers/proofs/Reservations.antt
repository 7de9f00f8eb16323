-- Names that are reserved, one more at a time, and all that a program has.
use Rattle.std.proofs.Common.{◌≡◌, ◌∙◌, ◌+◌, ◌<◌, ◌≤◌, ℕ, List, [], ◌∷◌, ◌++◌, length, get_or, take, map, Option, Some, None, refl, ap, sym, subst, append_assoc, true, if◌then◌else◌}
use Rattle.std.specs.List.{flat_map}
use Rattle.std.proofs.lemmas.Grind.{flat_map-append}
use Rattle.std.proofs.lemmas.List.{append-nil, map-append, take_more, take_all}
use Rattle.cc_names.specs.Names.{is_among}
use Rattle.cc_names.specs.View.{HaveSame, with_name as with_one}
use Rattle.cc_names.proofs.Takings.{same-with}
use Rattle.cc_program.specs.declared.func.Func.{Func}
use Rattle.cc_program.specs.declared.object.Device.{Device}
use Rattle.cc_program.specs.declared.object.Object.{Object}
use Rattle.cc_program.specs.declared.program.Program.{Program}
use Rattle.cc_program.specs.declared.types.Structure.{Structure}
use Rattle.cc_syntax.specs.Names.{with_name, device_names, intrinsic_names, file_names, local_names, tags}
use Rattle.cc_lower_numbers.specs.Numbered.{names_of_program}

taken_more : {X : Type 0} (xs : List X) (i : ℕ) (x : X) → i < length xs → x ≡ get_or xs i x → take (i + 1) xs ≡ take i xs ++ x ∷ []
taken_more xs i x h is = take_more xs i x h ∙ ap (λ y. take i xs ++ y ∷ []) (sym is)

module _ {X : Type 0} (f : X → List ℕ) (xs : List X) (r : List (List ℕ)) where
  pub mapped_reserved : (i : ℕ) (x : X) (n : List ℕ) → i < length xs → x ≡ get_or xs i x → n ≡ f x → (r ++ map f (take i xs)) ++ n ∷ [] ≡ r ++ map f (take (i + 1) xs)
  mapped_reserved i x n h is e =
      append_assoc r (map f (take i xs)) (n ∷ [])
      ∙ ap (λ l. r ++ l) (ap (λ y. map f (take i xs) ++ y ∷ []) e ∙ sym (map-append f (take i xs) (x ∷ [])) ∙ ap (map f) (sym (taken_more xs i x h is)))

  pub mapped_ends : (i : ℕ) → length xs ≤ i → r ++ map f (take i xs) ≡ r ++ map f xs
  mapped_ends i h = ap (λ l. r ++ map f l) (take_all i xs h)

module _ {X : Type 0} (f : X → List (List ℕ)) (xs : List X) (r : List (List ℕ)) where
  pub flat_reserved : (i : ℕ) (x : X) (n : List (List ℕ)) → i < length xs → x ≡ get_or xs i x → n ≡ f x → (r ++ flat_map f (take i xs)) ++ n ≡ r ++ flat_map f (take (i + 1) xs)
  flat_reserved i x n h is e =
      append_assoc r (flat_map f (take i xs)) n
      ∙ ap (λ l. r ++ l) (ap (λ y. flat_map f (take i xs) ++ y) (e ∙ sym (append-nil (f x))) ∙ sym (flat_map-append f (take i xs) (x ∷ [])) ∙ ap (flat_map f) (sym (taken_more xs i x h is)))

  pub flat_ends : (i : ℕ) → length xs ≤ i → r ++ flat_map f (take i xs) ≡ r ++ flat_map f xs
  flat_ends i h = ap (λ l. r ++ flat_map f l) (take_all i xs h)

named_append : (name : Option (List ℕ)) (xs ys : List (List ℕ)) → with_name name (xs ++ ys) ≡ with_name name xs ++ ys
named_append None xs ys = refl
named_append (Some name) xs ys = refl

devices_append : (ds es : List Device) → device_names (ds ++ es) ≡ device_names ds ++ device_names es
devices_append [] es = refl
devices_append (d ∷ ds) es = ap (with_name d.name) (devices_append ds es) ∙ named_append d.name (device_names ds) (device_names es)

pub devices_reserved : (xs : List Device) (r : List (List ℕ)) (i : ℕ) (x : Device) → i < length xs → x ≡ get_or xs i x → (r ++ device_names (take i xs)) ++ device_names (x ∷ []) ≡ r ++ device_names (take (i + 1) xs)
devices_reserved xs r i x h is =
    append_assoc r (device_names (take i xs)) (device_names (x ∷ []))
    ∙ ap (λ l. r ++ l) (sym (devices_append (take i xs) (x ∷ [])) ∙ ap device_names (sym (taken_more xs i x h is)))

pub devices_end : (xs : List Device) (r : List (List ℕ)) (i : ℕ) → length xs ≤ i → r ++ device_names (take i xs) ≡ r ++ device_names xs
devices_end xs r i h = ap (λ l. r ++ device_names l) (take_all i xs h)

pub four_reserved : (r : List (List ℕ)) (a b c d : List ℕ) → (((r ++ a ∷ []) ++ b ∷ []) ++ c ∷ []) ++ d ∷ [] ≡ r ++ (a ∷ b ∷ c ∷ d ∷ [])
four_reserved r a b c d =
    append_assoc ((r ++ a ∷ []) ++ b ∷ []) (c ∷ []) (d ∷ []) ∙ append_assoc (r ++ a ∷ []) (b ∷ []) (c ∷ d ∷ []) ∙ append_assoc r (a ∷ []) (b ∷ c ∷ d ∷ [])

four_parts : (r a b c d : List (List ℕ)) → (((r ++ a) ++ b) ++ c) ++ d ≡ r ++ (a ++ (b ++ (c ++ d)))
four_parts r a b c d = append_assoc ((r ++ a) ++ b) c d ∙ append_assoc (r ++ a) b (c ++ d) ∙ append_assoc r a (b ++ (c ++ d))

pub file_reserved : (p : Program) (r : List (List ℕ)) (ds : List Device) (os : List Object) (fs : List Func) → ds ≡ p.devices → os ≡ p.objects → fs ≡ p.funcs →
    (((r ++ device_names ds) ++ map (λ o. o.name) os) ++ map (λ f. f.name) fs) ++ intrinsic_names p.roles ≡ r ++ file_names p
file_reserved p r ds os fs d o f =
    (λ i. (((r ++ device_names (d i)) ++ map (λ o. o.name) (o i)) ++ map (λ f. f.name) (f i)) ++ intrinsic_names p.roles)
    ∙ four_parts r (device_names p.devices) (map (λ o. o.name) p.objects) (map (λ f. f.name) p.funcs) (intrinsic_names p.roles)

pub all_reserved : (p : Program) (ss us : List Structure) (fs : List Func) → ss ≡ p.structures → us ≡ p.structures → fs ≡ p.funcs →
    ((([] ++ map (λ s. s.tag) ss) ++ flat_map (λ s. local_names s.members) us) ++ file_names p) ++ flat_map (λ f. local_names f.locals) fs ≡ names_of_program p
all_reserved p ss us fs s u f =
    (λ i. ((([] ++ map (λ s. s.tag) (s i)) ++ flat_map (λ s. local_names s.members) (u i)) ++ file_names p) ++ flat_map (λ f. local_names f.locals) (f i))
    ∙ four_parts [] (tags p) (flat_map (λ s. local_names s.members) p.structures) (file_names p) (flat_map (λ f. local_names f.locals) p.funcs)

-- ---- one name more

pub none_reserved : (names : List (List ℕ)) → names ≡ [] → HaveSame names []
none_reserved names h x = ap (is_among x) h

pub reserved_already : (names reserved : List (List ℕ)) (x : List ℕ) → is_among x names ≡ true → HaveSame names reserved → HaveSame names (reserved ++ x ∷ [])
reserved_already names reserved x there h =
    subst (λ n. HaveSame n (reserved ++ x ∷ [])) (ap (λ b. if b then names else names ++ x ∷ []) there) (same-with names reserved x h)

pub reserved_next : (names reserved : List (List ℕ)) (x : List ℕ) → HaveSame names reserved → HaveSame (with_one names x) (reserved ++ x ∷ [])
reserved_next names reserved x h = same-with names reserved x h

pub ruleset of_names = (reserved_already, reserved_next)
