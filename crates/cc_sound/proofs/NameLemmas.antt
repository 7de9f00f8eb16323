-- Whether a name is among those of a kind.
use Rattle.std.proofs.Common.{◌≡◌, ℕ, Bool, true, false, not, ◌&&◌, ◌||◌, List, [], ◌∷◌, ◌++◌, map, refl, ap, sym, ◌∙◌, Option, Some, None}
use Rattle.std.specs.List.{list_any, list_all}
use Rattle.std.specs.Str.{bytes_eq}
use Rattle.std.proofs.lemmas.List.Folds.{list_any-append, list_all-append}
use Rattle.cc_program.specs.CcWords.Names.{is_name, are_distinct}
use Rattle.cc_program.specs.declared.func.Func.{Func}
use Rattle.cc_program.specs.declared.object.Device.{Device}
use Rattle.cc_program.specs.declared.object.Object.{Object}
use Rattle.cc_program.specs.declared.types.Structure.{Structure}
use Rattle.cc_typed.specs.CcSyntax.Names.{with_name, device_names, local_names}
use Rattle.cc_typed.specs.CcSyntax.Types.{Named}
use Rattle.cc_sound.specs.Spaces.{is_named, is_new, has_name}

any_in : {A : Type 0} (name : A → List ℕ) (x : List ℕ) (ys : List A) → list_any (λ y. bytes_eq x (name y)) ys ≡ list_any (bytes_eq x) (map name ys)
any_in name x [] = refl
any_in name x (y ∷ ys) = ap (λ b. bytes_eq x (name y) || b) (any_in name x ys)

all_in : {A : Type 0} (name : A → List ℕ) (ys : List A) → list_all (λ y. is_name (name y)) ys ≡ list_all is_name (map name ys)
all_in name [] = refl
all_in name (y ∷ ys) = ap (λ b. is_name (name y) && b) (all_in name ys)

pub any_structures : (x : List ℕ) (ys : List Structure) → list_any (λ s. bytes_eq x s.tag) ys ≡ list_any (bytes_eq x) (map (λ s. s.tag) ys)
any_structures x ys = any_in (λ (s : Structure). s.tag) x ys

pub any_locals : (x : List ℕ) (ys : List Named) → list_any (λ l. bytes_eq x l.0) ys ≡ list_any (bytes_eq x) (local_names ys)
any_locals x ys = any_in (λ (l : Named). l.0) x ys

pub any_objects : (x : List ℕ) (ys : List Object) → list_any (λ o. bytes_eq x o.name) ys ≡ list_any (bytes_eq x) (map (λ o. o.name) ys)
any_objects x ys = any_in (λ (o : Object). o.name) x ys

pub any_funcs : (x : List ℕ) (ys : List Func) → list_any (λ f. bytes_eq x f.name) ys ≡ list_any (bytes_eq x) (map (λ f. f.name) ys)
any_funcs x ys = any_in (λ (f : Func). f.name) x ys

any_device : (x : List ℕ) (name : Option (List ℕ)) (b : Bool) (names : List (List ℕ)) → b ≡ list_any (bytes_eq x) names → is_named x name || b ≡ list_any (bytes_eq x) (with_name name names)
any_device x None b names h = h
any_device x (Some name) b names h = ap (λ c. bytes_eq x name || c) h

pub any_devices : (x : List ℕ) (ds : List Device) → list_any (λ d. is_named x d.name) ds ≡ list_any (bytes_eq x) (device_names ds)
any_devices x [] = refl
any_devices x (d ∷ ds) = any_device x d.name (list_any (λ d. is_named x d.name) ds) (device_names ds) (any_devices x ds)

pub all_structures : (ys : List Structure) → list_all (λ s. is_name s.tag) ys ≡ list_all is_name (map (λ s. s.tag) ys)
all_structures ys = all_in (λ (s : Structure). s.tag) ys

pub all_locals : (ys : List Named) → list_all (λ l. is_name l.0) ys ≡ list_all is_name (local_names ys)
all_locals ys = all_in (λ (l : Named). l.0) ys

pub all_objects : (ys : List Object) → list_all (λ o. is_name o.name) ys ≡ list_all is_name (map (λ o. o.name) ys)
all_objects ys = all_in (λ (o : Object). o.name) ys

pub all_funcs : (ys : List Func) → list_all (λ f. is_name f.name) ys ≡ list_all is_name (map (λ f. f.name) ys)
all_funcs ys = all_in (λ (f : Func). f.name) ys

-- behind others
pub any_behind : (x : List ℕ) (xs ys : List (List ℕ)) (a b : Bool) → a ≡ list_any (bytes_eq x) xs → b ≡ list_any (bytes_eq x) ys → a || b ≡ list_any (bytes_eq x) (xs ++ ys)
any_behind x xs ys a b h k = ap (λ c. c || b) h ∙ ap (λ c. list_any (bytes_eq x) xs || c) k ∙ sym (list_any-append (bytes_eq x) xs ys)

all_device : (name : Option (List ℕ)) (b : Bool) (names : List (List ℕ)) → b ≡ list_all is_name names → has_name name && b ≡ list_all is_name (with_name name names)
all_device None b names h = h
all_device (Some name) b names h = ap (λ c. is_name name && c) h

pub all_devices : (ds : List Device) → list_all (λ d. has_name d.name) ds ≡ list_all is_name (device_names ds)
all_devices [] = refl
all_devices (d ∷ ds) = all_device d.name (list_all (λ d. has_name d.name) ds) (device_names ds) (all_devices ds)

pub all_behind : (xs ys : List (List ℕ)) (a b : Bool) → a ≡ list_all is_name xs → b ≡ list_all is_name ys → a && b ≡ list_all is_name (xs ++ ys)
all_behind xs ys a b h k = ap (λ c. c && b) h ∙ ap (λ c. list_all is_name xs && c) k ∙ sym (list_all-append is_name xs ys)

-- one more device
new_by : (name : Option (List ℕ)) (names rest : List (List ℕ)) (b : Bool) → is_new name (names ++ rest) ≡ b → are_distinct (with_name name names ++ rest) ≡ (b && are_distinct (names ++ rest))
new_by None names rest b h = ap (λ c. c && are_distinct (names ++ rest)) h
new_by (Some name) names rest b h = ap (λ c. c && are_distinct (names ++ rest)) h

pub new_more : (name : Option (List ℕ)) (names rest : List (List ℕ)) → is_new name (names ++ rest) ≡ true → are_distinct (with_name name names ++ rest) ≡ are_distinct (names ++ rest)
new_more name names rest h = new_by name names rest true h

pub new_fails : (name : Option (List ℕ)) (names rest : List (List ℕ)) → is_new name (names ++ rest) ≡ false → are_distinct (with_name name names ++ rest) ≡ false
new_fails name names rest h = new_by name names rest false h

pub ruleset of_new = (new_more, new_fails)

pub ruleset of_files = (all_behind)

pub ruleset of_spaces = (any_structures, any_locals, any_objects, any_funcs, any_devices, all_devices, all_structures, all_locals, all_objects, all_funcs, any_behind)
