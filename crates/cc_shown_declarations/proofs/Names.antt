-- The names of parameters in their scope: that of the next one is new there, and stands behind all of them.
use Rattle.std.proofs.Common.{◌≡◌, ◌+◌, ℕ, suc, Bool, true, false, not, ◌&&◌, ◌||◌, List, [], ◌∷◌, ◌++◌, map, length, Option, Some, None, refl, ap, sym, ◌∙◌, append_assoc, arith}
use Rattle.std.specs.Prelude.{if◌then◌else◌}
use Rattle.std.specs.List.{list_any, list_all}
use Rattle.std.specs.Option.{is_some}
use Rattle.std.specs.Str.{bytes_eq}
use Rattle.std.proofs.lemmas.Slice.Eq.{bytes_eq-Decides}
use Rattle.cc_type.specs.CcTypedTerms.Primary.{is_intrinsic}
use Rattle.cc_program.specs.declared.program.Roles.{Roles}
use Rattle.cc_program.specs.declared.types.CType.{CType}
use Rattle.cc_type.specs.CcScopes.State.{Name, find_name, with_name as name_added}
use Rattle.cc_type.specs.CcScopes.declared.designated.Designated.{Designated}
use Rattle.cc_type.specs.CcScopes.declared.designated.Designated.TheVariants as means
use Rattle.cc_type.proofs.CcSyntax.Prefixes.{both_true}
use Rattle.cc_program.specs.CcWords.Names.{are_distinct}
use Rattle.cc_shown_declarations.specs.Parameters.{Entry, entry_numbered, with_name, entry_names, HaveNewNames, with_local, locals_from}

abbrev Locals : Type 0
Locals = List (Name × Designated)

-- ---- the local of one more

with-local-append : (i : ℕ) (x : Option Name) (t : CType) (xs ys : Locals) → with_local i x t (xs ++ ys) ≡ with_local i x t xs ++ ys
with-local-append i None t xs ys = refl
with-local-append i (Some x) t xs ys = refl

pub locals-append : (i : ℕ) (done : List Entry) (e : Entry) → locals_from i (done ++ e ∷ []) ≡ locals_from i done ++ with_local (i + length done) e.0 e.1 []
locals-append i [] e = let n : i ≡ i + 0 = omega arith in ap (λ k. with_local k e.0 e.1 []) n
locals-append i (d ∷ ds) e =
    let n : suc i + length ds ≡ i + suc (length ds) = omega arith in
    ap (with_local i d.0 d.1) (locals-append (suc i) ds e ∙ ap (λ k. locals_from (suc i) ds ++ with_local k e.0 e.1 []) n)
    ∙ with-local-append i d.0 d.1 (locals_from (suc i) ds) (with_local (i + suc (length ds)) e.0 e.1 [])

-- ---- a name that is not there

or-false : (a b : Bool) → (a || b) ≡ false → (a ≡ false) × (b ≡ false)
or-false false b h = (refl, h)
or-false true b h = absurd (cc)

find-further : (x : Name) (i : ℕ) (y : Option Name) (t : CType) (names : List Name) (xs : Locals) → list_any (bytes_eq x) (with_name y names) ≡ false → (list_any (bytes_eq x) names ≡ false → find_name x xs ≡ None) → find_name x (with_local i y t xs) ≡ None
find-further x i None t names xs h next = next h
find-further x i (Some y) t names xs h next =
    let q = or-false (bytes_eq x y) (list_any (bytes_eq x) names) h in
    ap (λ (b : Bool). if b then Some (means.Automatic i t) else find_name x xs) q.0 ∙ next q.1

pub not-found : (x : Name) (i : ℕ) (done : List Entry) → list_any (bytes_eq x) (entry_names done) ≡ false → find_name x (locals_from i done) ≡ None
not-found x i [] h = refl
not-found x i (d ∷ ds) h = find-further x i d.0 d.1 (entry_names ds) (locals_from (suc i) ds) h (λ k. not-found x (suc i) ds k)

add-further : (x : Name) (m : Designated) (i : ℕ) (y : Option Name) (t : CType) (names : List Name) (xs : Locals) → list_any (bytes_eq x) (with_name y names) ≡ false → (list_any (bytes_eq x) names ≡ false → name_added x m xs ≡ xs ++ (x, m) ∷ []) →
    name_added x m (with_local i y t xs) ≡ with_local i y t xs ++ (x, m) ∷ []
add-further x m i None t names xs h next = next h
add-further x m i (Some y) t names xs h next =
    let q = or-false (bytes_eq x y) (list_any (bytes_eq x) names) h in
    let b : Name × Designated = (y, means.Automatic i t) in
    ap (λ (e : Bool). if e then (y, m) ∷ xs else b ∷ name_added x m xs) q.0 ∙ ap (λ (r : Locals). b ∷ r) (next q.1)

pub added-behind : (x : Name) (m : Designated) (i : ℕ) (done : List Entry) → list_any (bytes_eq x) (entry_names done) ≡ false → name_added x m (locals_from i done) ≡ locals_from i done ++ (x, m) ∷ []
added-behind x m i [] h = refl
added-behind x m i (d ∷ ds) h = add-further x m i d.0 d.1 (entry_names ds) (locals_from (suc i) ds) h (λ k. added-behind x m (suc i) ds k)

-- ---- each is new behind those before it

self : (x : Name) → bytes_eq x x ≡ true
self x = (bytes_eq-Decides x x).1 refl

turned-by : (x y : Name) (b : Bool) → bytes_eq y x ≡ b → bytes_eq x y ≡ false → b ≡ false
turned-by x y false e h = refl
turned-by x y true e h = let same = (bytes_eq-Decides y x).0 e in let g : true ≡ false = sym ((bytes_eq-Decides x y).1 (sym same)) ∙ h in absurd (cc)

turned : (x y : Name) → bytes_eq x y ≡ false → bytes_eq y x ≡ false
turned x y h = turned-by x y (bytes_eq y x) refl h

not-false : (b : Bool) → not b ≡ true → b ≡ false
not-false false h = refl
not-false true h = absurd (cc)

middle-apart : (x y : Name) (ys zs : List Name) → list_any (bytes_eq x) (ys ++ y ∷ zs) ≡ false → bytes_eq x y ≡ false
middle-apart x y [] zs h = (or-false (bytes_eq x y) (list_any (bytes_eq x) zs) h).0
middle-apart x y (w ∷ ws) zs h = middle-apart x y ws zs (or-false (bytes_eq x w) (list_any (bytes_eq x) (ws ++ y ∷ zs)) h).1

pub apart-before : (x : Name) (ys zs : List Name) → are_distinct (ys ++ x ∷ zs) ≡ true → list_any (bytes_eq x) ys ≡ false
apart-before x [] zs h = refl
apart-before x (y ∷ ys) zs h =
    let q = both_true (not (list_any (bytes_eq y) (ys ++ x ∷ zs))) (are_distinct (ys ++ x ∷ zs)) h in
    let a = turned y x (middle-apart y x ys zs (not-false (list_any (bytes_eq y) (ys ++ x ∷ zs)) q.0)) in
    ap (λ (b : Bool). b || list_any (bytes_eq x) ys) a ∙ apart-before x ys zs q.1

with-name-append : (x : Option Name) (xs ys : List Name) → with_name x (xs ++ ys) ≡ with_name x xs ++ ys
with-name-append None xs ys = refl
with-name-append (Some x) xs ys = refl

pub names-append : (es fs : List Entry) → entry_names (es ++ fs) ≡ entry_names es ++ entry_names fs
names-append [] fs = refl
names-append (e ∷ es) fs = ap (with_name e.0) (names-append es fs) ∙ with-name-append e.0 (entry_names es) (entry_names fs)

module _ (number : ℕ → ℕ) (roles : Roles) where
  pub names-numbered : (es : List Entry) → entry_names (map (entry_numbered number) es) ≡ entry_names es
  names-numbered [] = refl
  names-numbered (e ∷ es) = ap (with_name e.0) (names-numbered es)

  -- `unnamed` says that none is needed
  abbrev pub IsNew : Bool → List Name → Option Name → Type 0
  IsNew unnamed before None = unnamed ≡ true
  IsNew unnamed before (Some x) = (list_any (bytes_eq x) before ≡ false) × (is_intrinsic roles x ≡ false)

  -- those that are declared have the numbers of the unit
  abbrev pub AreNew : Bool → List Entry → List Entry → Type 0
  AreNew unnamed done [] = Unit {0}
  AreNew unnamed done (e ∷ es) = IsNew unnamed (entry_names done) e.0 × AreNew unnamed (done ++ entry_numbered number e ∷ []) es

  abbrev pub is_named : Entry → Bool
  is_named e = is_some e.0

  named-or : (unnamed : Bool) (x : Option Name) (rest : Bool) → (unnamed || (is_some x && rest)) ≡ true → x ≡ None → unnamed ≡ true
  named-or true x rest h e = refl
  named-or false None rest h e = absurd (cc)
  named-or false (Some x) rest h e = absurd (cc)

  named-rest : (unnamed a rest : Bool) → (unnamed || (a && rest)) ≡ true → (unnamed || rest) ≡ true
  named-rest true a rest h = refl
  named-rest false true rest h = h
  named-rest false false rest h = absurd (cc)

  is-new : (unnamed : Bool) (before : List Name) (x : Option Name) (names : List Name) (rest : Bool) → are_distinct (before ++ with_name x names) ≡ true → list_all (λ x. not (is_intrinsic roles x)) (with_name x names) ≡ true →
      (unnamed || (is_some x && rest)) ≡ true → IsNew unnamed before x
  is-new unnamed before None names rest d i u = named-or unnamed None rest u refl
  is-new unnamed before (Some x) names rest d i u =
      (apart-before x before names d, not-false (is_intrinsic roles x) (both_true (not (is_intrinsic roles x)) (list_all (λ x. not (is_intrinsic roles x)) names) i).0)

  rest-no-intrinsics : (x : Option Name) (names : List Name) → list_all (λ x. not (is_intrinsic roles x)) (with_name x names) ≡ true → list_all (λ x. not (is_intrinsic roles x)) names ≡ true
  rest-no-intrinsics None names h = h
  rest-no-intrinsics (Some x) names h = (both_true (not (is_intrinsic roles x)) (list_all (λ x. not (is_intrinsic roles x)) names) h).1

  pub are-new : (unnamed : Bool) (done es : List Entry) → are_distinct (entry_names (done ++ map (entry_numbered number) es)) ≡ true → list_all (λ x. not (is_intrinsic roles x)) (entry_names es) ≡ true →
      (unnamed || list_all is_named es) ≡ true → AreNew unnamed done es
  are-new unnamed done [] d i u = tt
  are-new unnamed done (e ∷ es) d i u =
      let ne = entry_numbered number e in
      let nes = map (entry_numbered number) es in
      let split = names-append done (ne ∷ nes) ∙ ap (λ (ns : List Name). entry_names done ++ with_name e.0 ns) (names-numbered es) in
      let along : are_distinct (entry_names done ++ with_name e.0 (entry_names es)) ≡ true = ap are_distinct (sym split) ∙ d in
      let further : are_distinct (entry_names ((done ++ ne ∷ []) ++ nes)) ≡ true = ap (λ (fs : List Entry). are_distinct (entry_names fs)) (append_assoc done (ne ∷ []) nes) ∙ d in (
        is-new unnamed (entry_names done) e.0 (entry_names es) (list_all is_named es) along i u,
        are-new unnamed (done ++ ne ∷ []) es further (rest-no-intrinsics e.0 (entry_names es) i) (named-rest unnamed (is_some e.0) (list_all is_named es) u),
      )

  pub all-new : (unnamed : Bool) (es : List Entry) → HaveNewNames roles es → (unnamed || list_all is_named es) ≡ true → AreNew unnamed [] es
  all-new unnamed es h u = are-new unnamed [] es (ap are_distinct (names-numbered es) ∙ h.0) h.1 u
