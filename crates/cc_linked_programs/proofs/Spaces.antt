-- The names that linking gives few sources: each space of its own names, and numbers enough for all.
use Rattle.std.proofs.Common.{◌≡◌, ◌∙◌, ◌⊎◌, inl, inr, ◌+◌, ◌*◌, ◌<◌, ◌≤◌, ℕ, true, false, true≢false, List, [], ◌∷◌, ◌++◌, length, map, refl, ap, sym, subst, arith, length-append}
use Rattle.std.specs.Prelude.{flat_map}
use Rattle.std.specs.List.{list_all}
use Rattle.std.specs.Str.{bytes_eq}
use Rattle.std.proofs.lemmas.Bool.{ltb-true, or_cases}
use Rattle.std.proofs.lemmas.List.{length-map}
use Rattle.std.proofs.lemmas.List.Folds.{list_any-append}
use Rattle.cc_definitions.specs.Definitions.{thing_at, functions, named}
use Rattle.cc_given_names.specs.Spaces.{AreAmong, HaveNumbers}
use Rattle.cc_given_names.proofs.Among.{among-left, among-right}
use Rattle.cc_given_names.proofs.Lengths.{names-length}
use Rattle.cc_given_names.proofs.Spaces.{names-apart, names-distinct, names-named}
use Rattle.cc_linked_names.specs.Given.{tag_wish, thing_wish, local_wishes, locals_for, reserved_names}
use Rattle.cc_linked_names.specs.Given as linked
use Rattle.cc_names.specs.Names.{is_among, names_for}
use Rattle.cc_program.specs.declared.program.Roles.{Roles}
use Rattle.cc_structures.proofs.Elements.{In}
use Rattle.cc_structures.specs.Structures.{Known, structures}
use Rattle.cc_structures.specs.View.{units_of}
use Rattle.cc_operands.specs.CcSyntax.Names.{intrinsic_names}
use Rattle.cc_things.specs.Mentions.{mentions}
use Rattle.cc_things.specs.Things.{Thing, things}
use Rattle.cc_things.specs.declared.text.Text.{Text}
use Rattle.cc_program.specs.CcWords.Names.{are_distinct, is_name}
use Rattle.cc_linked_programs.specs.Few.{FewTexts, EachOfText}
use Rattle.cc_linked_programs.proofs.Listed.{length-functions, length-named}
use Rattle.cc_linked_programs.proofs.NameSources.{length-things, local-few, local-wished, tags-wished, things-wished}

none-among : (ys : List (List ℕ)) → AreAmong [] ys
none-among ys x h = absurd (true≢false (sym h))

-- the names of a function's locals, as they are given behind some names
module _ (ts : List Thing) (reserved outer : List (List ℕ)) (few : (k : ℕ) → length (local_wishes (thing_at ts k)) < 4294967296) where
  pub record GivenLocals (given : List (List ℕ)) (ks : List ℕ) (f : ℕ × List (List ℕ)) : Type 0 where
    pub before : List (List ℕ)
    pub is : f.1 ≡ names_for reserved before outer (local_wishes (thing_at ts f.0))
    pub kept : AreAmong given before
    pub enough : length before + 4294967296 ≤ length given + length ks * 4294967296

  pub given-locals : (given : List (List ℕ)) (ks : List ℕ) (f : ℕ × List (List ℕ)) → In f (locals_for ts reserved outer given ks) → GivenLocals given ks f
  unfolding locals_for
  given-locals given [] f h = absurd h
  given-locals given (k ∷ ks) f (inl e) = record {
    before = given;
    is = subst (λ (g : ℕ × List (List ℕ)). g.1 ≡ names_for reserved given outer (local_wishes (thing_at ts g.0))) e refl;
    kept = λ x h. h;
    enough = omega arith;
  }
  given-locals given (k ∷ ks) f (inr i) =
      let xs = names_for reserved given outer (local_wishes (thing_at ts k)) in
      let r = given-locals (given ++ xs) ks f i in
      let l = length-append given xs in
      let n = names-length reserved given outer (local_wishes (thing_at ts k)) in
      let w = few k in
      let e = r.enough in
      record { before = r.before; is = r.is; kept = λ x h. r.kept x (among-left x given xs h); enough = omega (arith, l, n, w, e) }

module _ (texts : List Text) (each : EachOfText texts) (few : FewTexts texts) (roles : Roles) (firsts : List Known)
    (inside : (s : Known) → In s firsts → In s (structures (units_of texts))) (fewer : length firsts ≤ length (structures (units_of texts))) where
  abbrev pub ts : List Thing
  ts = things texts

  abbrev pub identifiers : List (List ℕ)
  identifiers = flat_map (λ x. x.identifiers) texts

  abbrev pub intrinsics : List (List ℕ)
  intrinsics = intrinsic_names roles

  abbrev pub reserved : List (List ℕ)
  reserved = reserved_names texts roles

  abbrev pub tags : List (List ℕ)
  tags = linked.tags ts reserved roles firsts

  abbrev pub in_file : List (List ℕ)
  in_file = linked.file_names ts reserved roles firsts

  -- ---- how many there are

  few-reserved : length reserved < 4294967296 + 4
  few-reserved =
      let l = length-append identifiers intrinsics in
      let n = ltb-true (length identifiers) 4294967296 few.identifiers in
      omega (arith, l, n)

  few-firsts : length firsts < 4294967296
  few-firsts = let n = ltb-true (length (structures (units_of texts))) 4294967296 few.structures in omega (arith, n, fewer)

  few-things : length ts < 4294967296
  few-things = let n = ltb-true (length (mentions texts)) 4294967296 few.mentions in let l = length-things texts in omega (arith, n, l)

  pub length-tags : length tags ≡ length firsts
  length-tags = names-length reserved [] [] (map tag_wish firsts) ∙ length-map firsts tag_wish

  pub length-file : length in_file ≡ length (named ts)
  length-file = names-length reserved tags intrinsics (map (λ k. thing_wish (thing_at ts k)) (named ts)) ∙ length-map (named ts) (λ (k : ℕ). thing_wish (thing_at ts k))

  tags-enough : HaveNumbers (length reserved + (0 + length (map tag_wish firsts)))
  tags-enough =
      let r = few-reserved in
      let f = few-firsts in
      let l = length-map firsts tag_wish in
      omega (arith, r, f, l)

  file-enough : HaveNumbers (length reserved + (length tags + length (map (λ k. thing_wish (thing_at ts k)) (named ts))))
  file-enough =
      let r = few-reserved in
      let f = few-firsts in
      let t = few-things in
      let g = length-tags in
      let n = length-named ts in
      let l = length-map (named ts) (λ (k : ℕ). thing_wish (thing_at ts k)) in
      omega (arith, r, f, t, g, n, l)

  -- ---- structures

  pub tags-distinct : are_distinct tags ≡ true
  tags-distinct = names-distinct reserved [] [] (map tag_wish firsts) (none-among (reserved ++ [])) tags-enough

  pub tags-named : list_all is_name tags ≡ true
  tags-named = names-named reserved [] [] (map tag_wish firsts) (tags-wished texts each firsts inside)

  -- ---- objects, devices and functions

  intrinsics-among : AreAmong intrinsics (reserved ++ tags)
  intrinsics-among x h = among-left x reserved tags (among-right x identifiers intrinsics h)

  pub file-distinct : are_distinct in_file ≡ true
  file-distinct = names-distinct reserved tags intrinsics (map (λ k. thing_wish (thing_at ts k)) (named ts)) intrinsics-among file-enough

  pub file-named : list_all is_name in_file ≡ true
  file-named = names-named reserved tags intrinsics (map (λ k. thing_wish (thing_at ts k)) (named ts)) (things-wished texts each (named ts))

  pub file-apart : (x : List ℕ) → is_among x in_file ≡ true → is_among x intrinsics ≡ false
  file-apart x h = names-apart reserved tags intrinsics (map (λ k. thing_wish (thing_at ts k)) (named ts)) intrinsics-among file-enough x h

  -- ---- locals

  abbrev pub outer : List (List ℕ)
  outer = intrinsics ++ in_file

  pub record LocalSpace (f : ℕ × List (List ℕ)) : Type 0 where
    pub distinct : are_distinct f.1 ≡ true
    pub named : list_all is_name f.1 ≡ true
    pub apart : (x : List ℕ) → is_among x f.1 ≡ true → is_among x outer ≡ false
    pub count : length f.1 ≡ length (local_wishes (thing_at ts f.0))

  outer-among : (before : List (List ℕ)) → AreAmong (tags ++ in_file) before → AreAmong outer (reserved ++ before)
  outer-among before kept x h = by (or_cases (is_among x intrinsics) (is_among x in_file) (sym (list_any-append (bytes_eq x) intrinsics in_file) ∙ h))
    where
      by : (is_among x intrinsics ≡ true) ⊎ (is_among x in_file ≡ true) → is_among x (reserved ++ before) ≡ true
      by (inl i) = among-left x reserved before (among-right x identifiers intrinsics i)
      by (inr i) = among-right x reserved before (kept x (among-right x tags in_file i))

  pub local-space : (f : ℕ × List (List ℕ)) → In f (linked.local_names ts reserved roles firsts) → LocalSpace f
  local-space f i =
      let g = given-locals ts reserved outer (local-few texts each) (tags ++ in_file) (functions ts) f i in
      let ws = local_wishes (thing_at ts f.0) in
      let among = outer-among g.before g.kept in
      let enough : HaveNumbers (length reserved + (length g.before + length (local_wishes (thing_at ts f.0)))) = by g.before g.enough in
      record {
        distinct = ap are_distinct g.is ∙ names-distinct reserved g.before outer ws among enough;
        named = ap (list_all is_name) g.is ∙ names-named reserved g.before outer ws (local-wished texts each f.0);
        apart = λ x h. names-apart reserved g.before outer ws among enough x (sym (ap (is_among x) g.is) ∙ h);
        count = ap (λ (l : List (List ℕ)). length l) g.is ∙ names-length reserved g.before outer ws;
      }
    where
      by : (before : List (List ℕ)) → length before + 4294967296 ≤ length (tags ++ in_file) + length (functions ts) * 4294967296 → HaveNumbers (length reserved + (length before + length (local_wishes (thing_at ts f.0))))
      by before h =
          let r = few-reserved in
          let a = length-append tags in_file in
          let t = length-tags in
          let fs = few-firsts in
          let u = length-file in
          let n = length-named ts in
          let th = few-things in
          let fn = length-functions ts in
          let w = local-few texts each f.0 in
          omega (arith, h, r, a, t, fs, u, n, th, fn, w)
