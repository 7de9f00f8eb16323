-- The devices, objects and functions of a program: numbers of things that are apart, each with its name.
use Rattle.std.proofs.Common.{◌≡◌, ◌∙◌, ◌⊎◌, inl, inr, ◌+◌, ◌<◌, ◌≤◌, ℕ, Bool, true, false, true≢false, List, [], ◌∷◌, ◌++◌, length, map, Option, Some, None, is_some, slice_get, refl, ap, sym, arith, length-append}
use Rattle.std.specs.Prelude.{not, filter_map, find, option_and_then, option_map, unwrap_or}
use Rattle.std.specs.List.{cons_option, list_any}
use Rattle.std.specs.Option.{is_none}
use Rattle.std.proofs.lemmas.Bool.{and_from, and_left, and_right, or_left, not-true, not_from_false, not_from_true}
use Rattle.cc_causes.specs.Entries.{entry_at}
use Rattle.cc_definitions.specs.Definitions.{thing_at, numbers_below, numbers_of, definition, has_definition, is_function, function_of, is_defined_before, defined, functions, objects, devices, is_nameless, has_a_name, is_named_by, named}
use Rattle.cc_link.specs.Linked.{device_at, device_in, object_at, object_in, func_at, ids_in, name_or_none}
use Rattle.cc_linked_names.specs.Given.{local_wishes, locals_for}
use Rattle.cc_relocated_units.proofs.ProgramOrder.{filter-passes}
use Rattle.cc_linked_programs.proofs.ThingLists.{below-in, found-in, order-in}
use Rattle.cc_names.specs.Names.{names_for}
use Rattle.cc_program.specs.declared.func.Func.{Func}
use Rattle.cc_program.specs.declared.object.Device.{Device}
use Rattle.cc_program.specs.declared.program.Roles.{Roles}
use Rattle.cc_relocation.specs.Relocated.{device_with, func_with}
use Rattle.cc_structures.proofs.Elements.{In, any-in, in-cases, in-left, in-right}
use Rattle.cc_structures.proofs.OrderLemmas.{filter-in, in-filter}
use Rattle.cc_operands.specs.CcSyntax.Names.{device_names, with_name}
use Rattle.cc_operands.specs.CcSyntax.SameTypes.{same_flag}
use Rattle.cc_things.specs.Mentions.{Mention}
use Rattle.cc_things.specs.Things.{Thing, is_definition, is_defined, is_device, is_device_kind, is_external, is_there, own_name}
use Rattle.cc_unit.specs.declared.ids.Ids.{Ids}
use Rattle.cc_linked_programs.proofs.NameNumbers.{Apart, apart-append, apart-below, apart-filter, apart-order, below, length-below, length-filter, length-order}
use Rattle.cc_linked_programs.proofs.NamesBy.{NamesBy}

-- ---- what is defined has a name, and is no device

pub defined-has : (t : Thing) → has_definition t ≡ true → is_defined t ≡ true
defined-has t h = by (find is_definition t.mentions) refl h
  where
    by : (o : Option Mention) → find is_definition t.mentions ≡ o → is_some o ≡ true → is_defined t ≡ true
    by None e k = absurd (true≢false (sym k))
    by (Some m) e k = let r = found-in is_definition t.mentions m e in any-in is_definition t.mentions m r.0 r.1

no-device : (t : Thing) → is_defined t ≡ true → is_device t ≡ false
no-device t h = and_right (list_any (λ (m : Mention). is_device_kind m.name.kind) t.mentions) (not (is_defined t)) (not_from_true (is_defined t) h)

defined-named : (t : Thing) → is_defined t ≡ true → has_a_name t ≡ true
defined-named t h =
    and_from (is_there t) (not (is_nameless t)) (or_left (is_defined t) (is_device t) h)
    (not_from_false (is_nameless t) (and_left (is_device t) (is_none (own_name t)) (no-device t h)))

module _ (ts : List Thing) where
  pub named-in : (k : ℕ) → k < length ts → has_a_name (thing_at ts k) ≡ true → In k (named ts)
  named-in k l h = by (is_external (thing_at ts k)) refl
    where
      there : (external : Bool) → same_flag (is_external (thing_at ts k)) external ≡ true → In k (numbers_of (is_named_by external) ts)
      there external e =
          filter-in (λ (j : ℕ). is_named_by external (thing_at ts j)) (numbers_below (length ts)) k (below-in (length ts) k l)
          (and_from (has_a_name (thing_at ts k)) (same_flag (is_external (thing_at ts k)) external) h e)

      by : (b : Bool) → is_external (thing_at ts k) ≡ b → In k (named ts)
      by true e = in-left (numbers_of (is_named_by true) ts) (numbers_of (is_named_by false) ts) k (there true (ap (λ (b : Bool). same_flag b true) e))
      by false e = in-right (numbers_of (is_named_by true) ts) (numbers_of (is_named_by false) ts) k (there false (ap (λ (b : Bool). same_flag b false) e))

  pub passing : (p : Thing → Bool) (k : ℕ) → In k (numbers_of p ts) → (k < length ts) × (p (thing_at ts k) ≡ true)
  passing p k i = (below (length ts) k (in-filter (λ (j : ℕ). p (thing_at ts j)) (numbers_below (length ts)) k i), filter-passes (λ (j : ℕ). p (thing_at ts j)) (numbers_below (length ts)) k i)

  defined-is : (k : ℕ) → In k (defined ts) → (k < length ts) × (is_defined (thing_at ts k) ≡ true)
  defined-is k i = let r = passing has_definition k (order-in (is_defined_before ts) (numbers_of has_definition ts) k i) in (r.0, defined-has (thing_at ts k) r.1)

  pub object-defined : (k : ℕ) → In k (objects ts) → In k (defined ts)
  object-defined k i = in-filter (λ (j : ℕ). not (is_function (thing_at ts j))) (defined ts) k i

  pub function-defined : (k : ℕ) → In k (functions ts) → In k (defined ts)
  function-defined k i = in-filter (λ (j : ℕ). is_function (thing_at ts j)) (defined ts) k i

  pub defined-in : (k : ℕ) → In k (defined ts) → In k (named ts)
  defined-in k i = let r = defined-is k i in named-in k r.0 (defined-named (thing_at ts k) r.1)

  -- ---- they are apart

  apart-numbers : (p : Thing → Bool) → Apart (numbers_of p ts)
  apart-numbers p = apart-filter (λ (k : ℕ). p (thing_at ts k)) (numbers_below (length ts)) (apart-below (length ts))

  apart-defined : Apart (defined ts)
  apart-defined = apart-order (is_defined_before ts) (numbers_of has_definition ts) (apart-numbers has_definition)

  no-both : (k : ℕ) → In k (objects ts) → In k (functions ts) → ⊥
  no-both k i j =
      true≢false (sym (filter-passes (λ (n : ℕ). is_function (thing_at ts n)) (defined ts) k j)
      ∙ not-true (is_function (thing_at ts k)) (filter-passes (λ (n : ℕ). not (is_function (thing_at ts n))) (defined ts) k i))

  undefined-device : (k : ℕ) → In k (devices ts) → In k (defined ts) → ⊥
  undefined-device k i j = true≢false (sym (passing is_device k i).1 ∙ no-device (thing_at ts k) (defined-is k j).1)

  no-device-defined : (k : ℕ) → In k (devices ts) → In k (objects ts ++ functions ts) → ⊥
  no-device-defined k i j = by (in-cases (objects ts) (functions ts) k j)
    where
      by : In k (objects ts) ⊎ In k (functions ts) → ⊥
      by (inl o) = undefined-device k i (object-defined k o)
      by (inr f) = undefined-device k i (function-defined k f)

  pub all-apart : Apart (devices ts ++ (objects ts ++ functions ts))
  all-apart =
      apart-append (devices ts) (objects ts ++ functions ts) (apart-numbers is_device)
      (apart-append (objects ts) (functions ts) (apart-filter (λ (k : ℕ). not (is_function (thing_at ts k))) (defined ts) apart-defined)
      (apart-filter (λ (k : ℕ). is_function (thing_at ts k)) (defined ts) apart-defined) no-both)
      no-device-defined

  -- ---- how many there are

  pub length-numbers : (p : Thing → Bool) → length (numbers_of p ts) ≤ length ts
  length-numbers p = let l = length-filter (λ (k : ℕ). p (thing_at ts k)) (numbers_below (length ts)) in let n = length-below (length ts) in omega (arith, l, n)

  length-defined : length (defined ts) ≤ length ts
  length-defined = let l = length-order (is_defined_before ts) (numbers_of has_definition ts) in let n = length-numbers has_definition in omega (arith, l, n)

  pub length-objects : length (objects ts) ≤ length ts
  length-objects = let l = length-filter (λ (k : ℕ). not (is_function (thing_at ts k))) (defined ts) in let n = length-defined in omega (arith, l, n)

  pub length-functions : length (functions ts) ≤ length ts
  length-functions = let l = length-filter (λ (k : ℕ). is_function (thing_at ts k)) (defined ts) in let n = length-defined in omega (arith, l, n)

  pub length-named : length (named ts) ≤ length ts + length ts
  length-named =
      let a = length-append (numbers_of (is_named_by true) ts) (numbers_of (is_named_by false) ts) in
      let t = length-numbers (is_named_by true) in
      let f = length-numbers (is_named_by false) in
      omega (arith, a, t, f)

  -- ---- their names

  module _ (name_of : ℕ → Option (List ℕ)) where
    pub device-names : (ks : List ℕ) → NamesBy name_of ks (device_names (filter_map (device_at ts name_of) ks))
    device-names [] = refl
    device-names (k ∷ ks) = by (option_and_then (λ (m : Mention). device_in m.name.kind) (slice_get (thing_at ts k).mentions 0)) (device-names ks)
      where
        with : (n : Option (List ℕ)) → name_of k ≡ n → NamesBy name_of ks (device_names (filter_map (device_at ts name_of) ks)) →
            NamesBy name_of (k ∷ ks) (with_name n (device_names (filter_map (device_at ts name_of) ks)))
        with None e h = inl h
        with (Some x) e h = inr (x, device_names (filter_map (device_at ts name_of) ks), refl, e, h)

        by : (o : Option Device) → NamesBy name_of ks (device_names (filter_map (device_at ts name_of) ks)) →
            NamesBy name_of (k ∷ ks) (device_names (cons_option (option_map (device_with (name_of k)) o) (filter_map (device_at ts name_of) ks)))
        by None h = inl h
        by (Some d) h = with (name_of k) refl h

    own-name : (k : ℕ) (x : List ℕ) → name_of k ≡ Some x → name_of k ≡ Some (name_or_none ts name_of k)
    own-name k x e = e ∙ ap (λ (y : List ℕ). Some y) (sym (ap (λ (o : Option (List ℕ)). unwrap_or o []) e))

    pub object-names : (ids : List Ids) (ks : List ℕ) → ((k : ℕ) → In k ks → (x : List ℕ) × (name_of k ≡ Some x)) → NamesBy name_of ks (map (λ o. o.name) (filter_map (object_at ts name_of ids) ks))
    object-names ids [] each = refl
    object-names ids (k ∷ ks) each = by (definition (thing_at ts k)) (object-names ids ks (λ j i. each j (inr i)))
      where
        by : (o : Option Mention) → NamesBy name_of ks (map (λ o. o.name) (filter_map (object_at ts name_of ids) ks)) →
            NamesBy name_of (k ∷ ks) (map (λ o. o.name) (cons_option (option_map (object_in ids (name_or_none ts name_of k)) o) (filter_map (object_at ts name_of ids) ks)))
        by None h = inl h
        by (Some m) h = let n = each k (inl refl) in inr (name_or_none ts name_of k, map (λ o. o.name) (filter_map (object_at ts name_of ids) ks), refl, own-name k n.0 n.1, h)

    pub func-names : (roles : Roles) (ids : List Ids) (fs : List (ℕ × List (List ℕ))) → ((k : ℕ) → In k (map (λ f. f.0) fs) → (x : List ℕ) × (name_of k ≡ Some x)) →
        NamesBy name_of (map (λ f. f.0) fs) (map (λ f. f.name) (filter_map (func_at ts name_of roles ids) fs))
    func-names roles ids [] each = refl
    func-names roles ids (f ∷ fs) each = by (definition (thing_at ts f.0)) (function_of (thing_at ts f.0)) (func-names roles ids fs (λ j i. each j (inr i)))
      where
        by : (d : Option Mention) (o : Option Func) → NamesBy name_of (map (λ f. f.0) fs) (map (λ f. f.name) (filter_map (func_at ts name_of roles ids) fs)) →
            NamesBy name_of (f.0 ∷ map (λ f. f.0) fs) (map (λ f. f.name)
            (cons_option (option_and_then (λ (m : Mention). option_map (func_with (name_or_none ts name_of f.0) f.1 (entry_at ts roles name_of f.0) (ids_in ids m.text)) o) d) (filter_map (func_at ts name_of roles ids) fs)))
        by None o h = inl h
        by (Some m) None h = inl h
        by (Some m) (Some g) h =
            let n = each f.0 (inl refl) in
            inr (name_or_none ts name_of f.0, map (λ f. f.name) (filter_map (func_at ts name_of roles ids) fs), refl, own-name f.0 n.0 n.1, h)

  pub local-numbers : (reserved outer given : List (List ℕ)) (ks : List ℕ) → map (λ f. f.0) (locals_for ts reserved outer given ks) ≡ ks
  unfolding locals_for
  local-numbers reserved outer given [] = refl
  local-numbers reserved outer given (k ∷ ks) = ap (λ (ns : List ℕ). k ∷ ns) (local-numbers reserved outer (given ++ names_for reserved given outer (local_wishes (thing_at ts k))) ks)
