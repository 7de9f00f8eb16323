-- The names of the program that few sources link to are apart, each in its space, and may name something.
use Rattle.std.proofs.Common.{◌≡◌, ◌∙◌, ◌⊎◌, inl, inr, ◌≤◌, ℕ, true, false, List, [], ◌∷◌, ◌++◌, length, get_or, map, Option, Some, None, slice_get, refl, ap, sym, subst, arith, append_assoc}
use Rattle.std.specs.Prelude.{filter_map, nat_eq, option_and_then, option_map, position, zip}
use Rattle.std.specs.List.{list_all}
use Rattle.std.specs.Str.{bytes_eq}
use Rattle.std.proofs.lemmas.Bool.{and_from, and_parts, eqb-true, or_cases}
use Rattle.std.proofs.lemmas.List.{length-map}
use Rattle.std.proofs.lemmas.List.Folds.{list_all-append, list_any-append}
use Rattle.std.proofs.lemmas.List.Quantifiers.{position-Some}
use Rattle.std.proofs.lemmas.Option.{same_Some, slice_get-get_or, slice_get_within}
use Rattle.cc_causes.specs.Entries.{entry_at}
use Rattle.cc_definitions.specs.Definitions.{thing_at, definition, devices, functions, function_of, named, objects}
use Rattle.cc_given_names.proofs.Among.{absent, among-left, among-right, distinct-append, rest-distinct}
use Rattle.cc_link.specs.Linked.{Links, all_ids, device_at, func_at, ids_in, name_or_none, object_at, program, structure_of}
use Rattle.cc_linked_names.specs.Given.{local_wishes, local_wishes_in, name_at, reserved_names}
use Rattle.cc_linked_names.specs.Given as linked
use Rattle.cc_linked_programs.proofs.ThingLists.{positioned}
use Rattle.cc_names.specs.Names.{Own, is_among}
use Rattle.cc_program.specs.CcNum.declared.target.Target.{Target}
use Rattle.cc_program.specs.declared.func.Func.{Func}
use Rattle.cc_program.specs.declared.program.Program.{Program}
use Rattle.cc_program.specs.declared.program.Roles.{Roles}
use Rattle.cc_relocation.specs.Relocated.{func_with, local_with}
use Rattle.cc_structures.proofs.Elements.{In}
use Rattle.cc_structures.specs.Structures.{Known, Numbering, structures}
use Rattle.cc_structures.specs.View.{units_of}
use Rattle.cc_operands.specs.CcSyntax.Names.{are_names, device_names, file_names, intrinsic_names, local_names, tags}
use Rattle.cc_operands.specs.CcSyntax.Types.{Named}
use Rattle.cc_things.specs.Mentions.{Mention}
use Rattle.cc_things.specs.Things.{Thing, things}
use Rattle.cc_things.specs.declared.text.Text.{Text}
use Rattle.cc_unit.specs.declared.ids.Ids.{Ids}
use Rattle.cc_program.specs.CcWords.Names.{are_distinct, is_name}
use Rattle.cc_linked_programs.specs.Few.{FewTexts, EachOfText}
use Rattle.cc_linked_programs.proofs.Listed.{all-apart, defined-in, device-names, func-names, function-defined, local-numbers, object-defined, object-names}
use Rattle.cc_linked_programs.proofs.NameLists.{among-at, in-filter_map, one-position, all-at}
use Rattle.cc_linked_programs.proofs.NamesBy.{NamesBy, all-by, both-by, distinct-by, named-by}
use Rattle.cc_linked_programs.proofs.NameSources.{first-known, length-firsts}
use Rattle.cc_linked_programs.proofs.Spaces as spaces

-- ---- roles

right-distinct : (xs ys : List (List ℕ)) → are_distinct (xs ++ ys) ≡ true → are_distinct ys ≡ true
right-distinct [] ys d = d
right-distinct (x ∷ xs) ys d = right-distinct xs ys (rest-distinct x (xs ++ ys) d)

intrinsics-distinct : (roles : Roles) → are_distinct (intrinsic_names roles) ≡ true
intrinsics-distinct roles = right-distinct roles.handlers (intrinsic_names roles) roles.apart

intrinsics-named : (roles : Roles) → list_all is_name (intrinsic_names roles) ≡ true
intrinsics-named roles = (and_parts (list_all is_name roles.handlers) (list_all is_name (intrinsic_names roles)) (sym (list_all-append is_name roles.handlers (intrinsic_names roles)) ∙ roles.named)).1

-- ---- zips

zip-tags : (numbering : Numbering) (xs : List (List ℕ)) (fs : List Known) → length xs ≡ length fs → map (λ s. s.tag) (map (structure_of numbering) (zip xs fs)) ≡ xs
zip-tags numbering [] fs e = refl
zip-tags numbering (x ∷ xs) [] e = absurd (omega (arith, e))
zip-tags numbering (x ∷ xs) (f ∷ fs) e = ap (λ (ys : List (List ℕ)). x ∷ ys) (zip-tags numbering xs fs (omega (arith, e)))

zip-locals : (ss : List ℕ) (xs : List (List ℕ)) (ls : List Named) → length xs ≡ length ls → local_names (map (local_with ss) (zip xs ls)) ≡ xs
zip-locals ss [] ls e = refl
zip-locals ss (x ∷ xs) [] e = absurd (omega (arith, e))
zip-locals ss (x ∷ xs) (l ∷ ls) e = ap (λ (ys : List (List ℕ)). x ∷ ys) (zip-locals ss xs ls (omega (arith, e)))

-- ---- the name of a thing

module _ (ts : List Thing) (reserved : List (List ℕ)) (roles : Roles) (firsts : List Known) where
  abbrev in_file : List (List ℕ)
  in_file = linked.file_names ts reserved roles firsts

  abbrev name_of : ℕ → Option (List ℕ)
  name_of k = name_at ts reserved roles firsts k

  pub record NameOf (k : ℕ) (x : List ℕ) : Type 0 where
    pub at : ℕ
    pub number : slice_get (named ts) at ≡ Some k
    pub name : slice_get in_file at ≡ Some x

  pub name-from : (k : ℕ) (x : List ℕ) → name_of k ≡ Some x → NameOf k x
  name-from k x e = by (position (nat_eq k) (named ts)) refl e
    where
      by : (o : Option ℕ) → position (nat_eq k) (named ts) ≡ o → option_and_then (slice_get in_file) o ≡ Some x → NameOf k x
      by None h f = absurd (cc f)
      by (Some i) h f =
          let q = position-Some (nat_eq k) (named ts) i 0 h in
          record { at = i; number = slice_get-get_or (named ts) i 0 q.0 ∙ ap (λ (n : ℕ). Some n) (sym (eqb-true k (get_or (named ts) i 0) q.1)); name = f }

  pub name-to : length in_file ≡ length (named ts) → (k : ℕ) → In k (named ts) → (x : List ℕ) × (name_of k ≡ Some x)
  name-to l k i =
      let r = positioned k (named ts) i in
      let w = slice_get_within (named ts) r.at k r.there in
      (get_or in_file r.at [], ap (option_and_then (slice_get in_file)) r.is ∙ slice_get-get_or in_file r.at [] (omega (arith, w, l)))

  pub one-name : are_distinct in_file ≡ true → (j k : ℕ) (x : List ℕ) → name_of j ≡ Some x → name_of k ≡ Some x → j ≡ k
  one-name d j k x e f =
      let p = name-from j x e in
      let q = name-from k x f in
      let s = one-position in_file d p.at q.at x p.name q.name in
      same_Some j k (sym p.number ∙ (ap (slice_get (named ts)) s ∙ q.number))

-- ---- a function of the program

pub record FuncFrom (ts : List Thing) (name_of : ℕ → Option (List ℕ)) (roles : Roles) (ids : List Ids) (q : ℕ × List (List ℕ)) (f : Func) : Type 0 where
  pub func : Func
  pub has : function_of (thing_at ts q.0) ≡ Some func
  pub structures : List ℕ
  pub locals : f.locals ≡ map (local_with structures) (zip q.1 func.locals)

pub func-from : (ts : List Thing) (name_of : ℕ → Option (List ℕ)) (roles : Roles) (ids : List Ids) (q : ℕ × List (List ℕ)) (f : Func) → func_at ts name_of roles ids q ≡ Some f → FuncFrom ts name_of roles ids q f
func-from ts name_of roles ids q f e = by (definition (thing_at ts q.0)) (function_of (thing_at ts q.0)) refl e
  where
    by : (d : Option Mention) (o : Option Func) → function_of (thing_at ts q.0) ≡ o →
        option_and_then (λ (m : Mention). option_map (func_with (name_or_none ts name_of q.0) q.1 (entry_at ts roles name_of q.0) (ids_in ids m.text)) o) d ≡ Some f → FuncFrom ts name_of roles ids q f
    by None o h g = absurd (cc g)
    by (Some m) None h g = absurd (cc g)
    by (Some m) (Some u) h g =
        let s : func_with (name_or_none ts name_of q.0) q.1 (entry_at ts roles name_of q.0) (ids_in ids m.text) u ≡ f = cc g in
        record { func = u; has = h; structures = (ids_in ids m.text).structures; locals = sym (ap (λ (x : Func). x.locals) s) }

module _ (texts : List Text) (target : Target) (roles : Roles) (p : Program) (links : Links texts target roles p) (each : EachOfText texts) (few : FewTexts texts) where
  abbrev ts : List Thing
  ts = things texts

  abbrev reserved : List (List ℕ)
  reserved = reserved_names texts roles

  abbrev firsts : List Known
  firsts = links.firsts

  abbrev inside : (s : Known) → In s firsts → In s (structures (units_of texts))
  inside = first-known (units_of texts) links.numbering links.firsts links.numbered

  abbrev fewer : length firsts ≤ length (structures (units_of texts))
  fewer = length-firsts (units_of texts) links.numbering links.firsts links.numbered

  abbrev given_tags : List (List ℕ)
  given_tags = linked.tags ts reserved roles firsts

  abbrev given : List (List ℕ)
  given = linked.file_names ts reserved roles firsts

  abbrev intrinsics : List (List ℕ)
  intrinsics = intrinsic_names roles

  abbrev names_at : ℕ → Option (List ℕ)
  names_at k = name_at ts reserved roles firsts k

  abbrev linked_program : Program
  linked_program = program texts roles links.numbering links.firsts target

  -- ---- structures

  tags-are : tags linked_program ≡ given_tags
  tags-are = zip-tags links.numbering given_tags firsts (spaces.length-tags texts each few roles firsts inside fewer)

  pub tag_names : are_names (tags p) ≡ true
  tag_names =
      ap (λ (q : Program). are_names (tags q)) links.is ∙ (ap are_names tags-are
      ∙ and_from (list_all is_name given_tags) (are_distinct given_tags) (spaces.tags-named texts each few roles firsts inside fewer) (spaces.tags-distinct texts each few roles firsts inside fewer))

  -- ---- objects, devices and functions

  abbrev ids : List Ids
  ids = all_ids texts links.numbering

  abbrev locals : List (ℕ × List (List ℕ))
  locals = linked.local_names ts reserved roles firsts

  abbrev of_devices : List (List ℕ)
  of_devices = device_names (filter_map (device_at ts names_at) (devices ts))

  abbrev of_objects : List (List ℕ)
  of_objects = map (λ o. o.name) (filter_map (object_at ts names_at ids) (objects ts))

  abbrev of_functions : List (List ℕ)
  of_functions = map (λ f. f.name) (filter_map (func_at ts names_at roles ids) locals)

  abbrev own : List (List ℕ)
  own = of_devices ++ (of_objects ++ of_functions)

  abbrev numbers : List ℕ
  numbers = devices ts ++ (objects ts ++ functions ts)

  has-name : (k : ℕ) → In k (named ts) → (x : List ℕ) × (names_at k ≡ Some x)
  has-name k i = name-to ts reserved roles firsts (spaces.length-file texts each few roles firsts inside fewer) k i

  local-functions : map (λ f. f.0) locals ≡ functions ts
  local-functions = local-numbers ts reserved (intrinsics ++ given) (given_tags ++ given) (functions ts)

  own-by : NamesBy names_at numbers own
  own-by =
      both-by names_at (devices ts) (objects ts ++ functions ts) of_devices (of_objects ++ of_functions) (device-names ts names_at (devices ts))
      (both-by names_at (objects ts) (functions ts) of_objects of_functions
      (object-names ts names_at ids (objects ts) (λ k i. has-name k (defined-in ts k (object-defined ts k i))))
      (subst (λ (ks : List ℕ). NamesBy names_at ks of_functions) local-functions
      (func-names ts names_at roles ids locals (λ k i. has-name k (defined-in ts k (function-defined ts k (subst (λ (ks : List ℕ). In k ks) local-functions i)))))))

  given-at : (k : ℕ) (x : List ℕ) → names_at k ≡ Some x → is_among x given ≡ true
  given-at k x e = let r = name-from ts reserved roles firsts k x e in among-at given r.at x r.name

  own-named : list_all is_name own ≡ true
  own-named = all-by names_at is_name named-at numbers own own-by
    where
      named-at : (k : ℕ) (x : List ℕ) → names_at k ≡ Some x → is_name x ≡ true
      named-at k x e = let r = name-from ts reserved roles firsts k x e in all-at is_name given r.at x (spaces.file-named texts each few roles firsts inside fewer) r.name

  own-distinct : are_distinct own ≡ true
  own-distinct = distinct-by names_at (one-name ts reserved roles firsts (spaces.file-distinct texts each few roles firsts inside fewer)) numbers own (all-apart ts) own-by

  own-given : (x : List ℕ) → is_among x own ≡ true → is_among x given ≡ true
  own-given x h = let r = named-by names_at numbers own own-by x h in given-at r.0 x r.2

  own-apart : (x : List ℕ) → is_among x own ≡ true → is_among x intrinsics ≡ false
  own-apart x h = spaces.file-apart texts each few roles firsts inside fewer x (own-given x h)

  names-are : file_names linked_program ≡ own ++ intrinsics
  names-are =
      ap (λ (l : List (List ℕ)). of_devices ++ l) (sym (append_assoc of_objects of_functions intrinsics))
      ∙ sym (append_assoc of_devices (of_objects ++ of_functions) intrinsics)

  all-distinct : are_distinct (own ++ intrinsics) ≡ true
  all-distinct = distinct-append own intrinsics own-distinct (intrinsics-distinct roles) own-apart

  all-named : list_all is_name (own ++ intrinsics) ≡ true
  all-named = list_all-append is_name own intrinsics ∙ and_from (list_all is_name own) (list_all is_name intrinsics) own-named (intrinsics-named roles)

  pub names : are_names (file_names p) ≡ true
  names =
      ap (λ (q : Program). are_names (file_names q)) links.is ∙ (ap are_names names-are
      ∙ and_from (list_all is_name (own ++ intrinsics)) (are_distinct (own ++ intrinsics)) all-named all-distinct)

  -- ---- locals

  pub record Local (f : Func) : Type 0 where
    pub from : ℕ × List (List ℕ)
    pub there : In from locals
    pub func : FuncFrom ts names_at roles ids from f
    pub same : local_names f.locals ≡ from.1
    pub count : length from.1 ≡ length func.func.locals

  pub local-of : (f : Func) → In f p.funcs → Local f
  local-of f i =
      let r = in-filter_map (func_at ts names_at roles ids) locals f (subst (λ (q : Program). In f q.funcs) links.is i) in
      let u = func-from ts names_at roles ids r.0 f r.2 in
      let s = spaces.local-space texts each few roles firsts inside fewer r.0 r.1 in
      let n : length r.0.1 ≡ length u.func.locals = s.count ∙ (ap (λ (o : Option Func). length (local_wishes_in o)) u.has ∙ length-map u.func.locals (λ (l : Named). Own l.0)) in
      record { from = r.0; there = r.1; func = u; same = ap local_names u.locals ∙ zip-locals u.structures r.0.1 u.func.locals n; count = n }

  all-outer : (x : List ℕ) → is_among x (own ++ intrinsics) ≡ true → is_among x (intrinsics ++ given) ≡ true
  all-outer x h = by (or_cases (is_among x own) (is_among x intrinsics) (sym (list_any-append (bytes_eq x) own intrinsics) ∙ h))
    where
      by : (is_among x own ≡ true) ⊎ (is_among x intrinsics ≡ true) → is_among x (intrinsics ++ given) ≡ true
      by (inl i) = among-right x intrinsics given (own-given x i)
      by (inr i) = among-left x intrinsics given i

  pub local_spaces : (f : Func) → In f p.funcs → are_names (local_names f.locals ++ file_names p) ≡ true
  local_spaces f i =
      let r = local-of f i in
      let xs = r.from.1 in
      let s = spaces.local-space texts each few roles firsts inside fewer r.from r.there in
      let all : local_names f.locals ++ file_names p ≡ r.from.1 ++ (own ++ intrinsics) =
      ap (λ (l : List (List ℕ)). l ++ file_names p) r.same ∙ ap (λ (l : List (List ℕ)). r.from.1 ++ l) (ap file_names links.is ∙ names-are) in
      ap are_names all
      ∙ and_from (list_all is_name (r.from.1 ++ (own ++ intrinsics))) (are_distinct (r.from.1 ++ (own ++ intrinsics)))
      (list_all-append is_name r.from.1 (own ++ intrinsics) ∙ and_from (list_all is_name r.from.1) (list_all is_name (own ++ intrinsics)) s.named all-named)
      (distinct-append r.from.1 (own ++ intrinsics) s.distinct all-distinct (λ x h. absent x (own ++ intrinsics) (intrinsics ++ given) all-outer (s.apart x h)))
