-- Tags of a program's structures are apart, so a scope with some of them has the tag of each of these, and no other.
use Rattle.std.proofs.Common.{◌≡◌, ℕ, zero, suc, Bool, true, false, not, ◌||◌, List, [], ◌∷◌, map, Option, Some, None, refl, ap, sym, ◌∙◌, subst, slice_get, nat_eq, arith}
use Rattle.std.proofs.lemmas.Bool.Decides.{nat_tests}
use Rattle.std.proofs.lemmas.Slice.Eq.{bytes_eq-Decides}
use Rattle.std.specs.Prelude.{if◌then◌else◌}
use Rattle.std.specs.List.{list_any, list_all}
use Rattle.std.specs.Str.{bytes_eq}
use Rattle.cc_program.specs.declared.program.Program.{Program}
use Rattle.cc_program.specs.declared.types.Structure.{Structure}
use Rattle.cc_type.specs.CcScopes.State.{Name, find_name}
use Rattle.cc_type.specs.CcScopes.declared.designated.Tagged.{Tagged}
use Rattle.cc_type.specs.CcScopes.declared.designated.Tagged.TheVariants.{StructureTag}
use Rattle.cc_type.specs.CcSyntax.Names.{tags}
use Rattle.cc_type.specs.CcSyntax.Sound.{IsSound}
use Rattle.cc_type.proofs.CcSyntax.Prefixes.{both_true}
use Rattle.cc_program.specs.CcWords.Names.{is_name, are_distinct}
use Rattle.cc_shown_declarations.specs.Order.{is_among, structure_number}
use Rattle.cc_shown_declarations.specs.States.{tag_or_none, tag_at, tag_entry}
use Rattle.cc_shown_declarations.proofs.Orders.{same, self, or-left}

or-false : (a b : Bool) → (a || b) ≡ false → (a ≡ false) × (b ≡ false)
or-false false b h = (refl, h)
or-false true b h = absurd (cc)

or-right : (a b : Bool) → b ≡ true → (a || b) ≡ true
or-right true b h = refl
or-right false b h = h

not-false : (b : Bool) → not b ≡ true → b ≡ false
not-false false h = refl
not-false true h = absurd (cc)

tag-absent : (x : Name) (ss : List Structure) (j : ℕ) (u : Structure) → list_any (bytes_eq x) (map (λ (s : Structure). s.tag) ss) ≡ false → slice_get ss j ≡ Some u → bytes_eq x u.tag ≡ false
tag-absent x [] j u h e = absurd (cc)
tag-absent x (s ∷ ss) zero u h e = let is : s ≡ u = cc in ap (λ (r : Structure). bytes_eq x r.tag) (sym is) ∙ (or-false (bytes_eq x s.tag) (list_any (bytes_eq x) (map (λ (s : Structure). s.tag) ss)) h).0
tag-absent x (s ∷ ss) (suc j) u h e = tag-absent x ss j u (or-false (bytes_eq x s.tag) (list_any (bytes_eq x) (map (λ (s : Structure). s.tag) ss)) h).1 e

turned-by : (x y : Name) (b : Bool) → bytes_eq y x ≡ b → bytes_eq x y ≡ false → b ≡ false
turned-by x y false e h = refl
turned-by x y true e h = let is = (bytes_eq-Decides y x).0 e in let g : true ≡ false = sym ((bytes_eq-Decides x y).1 (sym is)) ∙ h in absurd (cc)

turned : (x y : Name) → bytes_eq x y ≡ false → bytes_eq y x ≡ false
turned x y h = turned-by x y (bytes_eq y x) refl h

pub tags-differ : (ss : List Structure) (i j : ℕ) (s u : Structure) → are_distinct (map (λ (s : Structure). s.tag) ss) ≡ true → slice_get ss i ≡ Some s → slice_get ss j ≡ Some u → nat_eq i j ≡ false → bytes_eq s.tag u.tag ≡ false
tags-differ [] i j s u h e f n = absurd (cc)
tags-differ (r ∷ rs) zero zero s u h e f n = absurd (let g : true ≡ false = sym (self 0) ∙ n in cc)
tags-differ (r ∷ rs) zero (suc j) s u h e f n =
    let is : r ≡ s = cc in
    let q = both_true (not (list_any (bytes_eq r.tag) (map (λ (s : Structure). s.tag) rs))) (are_distinct (map (λ (s : Structure). s.tag) rs)) h in
    subst (λ (t : Structure). bytes_eq t.tag u.tag ≡ false) is (tag-absent r.tag rs j u (not-false (list_any (bytes_eq r.tag) (map (λ (s : Structure). s.tag) rs)) q.0) f)
tags-differ (r ∷ rs) (suc i) zero s u h e f n =
    let is : r ≡ u = cc in
    let q = both_true (not (list_any (bytes_eq r.tag) (map (λ (s : Structure). s.tag) rs))) (are_distinct (map (λ (s : Structure). s.tag) rs)) h in
    turned u.tag s.tag (subst (λ (t : Structure). bytes_eq t.tag s.tag ≡ false) is (tag-absent r.tag rs i s (not-false (list_any (bytes_eq r.tag) (map (λ (s : Structure). s.tag) rs)) q.0) e))
tags-differ (r ∷ rs) (suc i) (suc j) s u h e f n =
    tags-differ rs i j s u (both_true (not (list_any (bytes_eq r.tag) (map (λ (s : Structure). s.tag) rs))) (are_distinct (map (λ (s : Structure). s.tag) rs)) h).1 e f (one-less i j n)
  where
    one-less : (i j : ℕ) → nat_eq (suc i) (suc j) ≡ false → nat_eq i j ≡ false
    one-less i j h = grind (arith, nat_tests)

tag-self : (x : Name) → bytes_eq x x ≡ true
tag-self x = (bytes_eq-Decides x x).1 refl

module _ (p : Program) (sound : IsSound p) where
  abbrev pub Within : List ℕ → Type 0
  Within order = (i : ℕ) → is_among i order ≡ true → (t : Structure) × (slice_get p.structures i ≡ Some t)

  tags-apart : are_distinct (map (λ (s : Structure). s.tag) p.structures) ≡ true
  tags-apart = (both_true (list_all is_name (tags p)) (are_distinct (tags p)) sound.tag_names).1

  within-rest : (j : ℕ) (js : List ℕ) → Within (j ∷ js) → Within js
  within-rest j js w i h = w i (or-right (nat_eq i j) (is_among i js) h)

  within-first : (j : ℕ) (js : List ℕ) → Within (j ∷ js) → (t : Structure) × (slice_get p.structures j ≡ Some t)
  within-first j js w = w j (or-left (nat_eq j j) (is_among j js) (self j))

  abbrev found_if : Bool → ℕ → Name → List ℕ → Option Tagged
  found_if b j x js = if b then Some (StructureTag (structure_number p j)) else find_name x (map (tag_entry p) js)

  -- by whether it is the first of them
  find-by : (i j : ℕ) (t u : Structure) (js : List ℕ) (b : Bool) → nat_eq i j ≡ b → slice_get p.structures i ≡ Some t → slice_get p.structures j ≡ Some u → (b || is_among i js) ≡ true →
      (is_among i js ≡ true → find_name t.tag (map (tag_entry p) js) ≡ Some (StructureTag (structure_number p i))) → find_name t.tag (map (tag_entry p) (j ∷ js)) ≡ Some (StructureTag (structure_number p i))
  find-by i j t u js true e g f h next =
      let is = same i j e in
      ap (λ (b : Bool). found_if b j t.tag js) (ap (bytes_eq t.tag) (ap (tag_at p) (sym is) ∙ ap (tag_or_none p) g) ∙ tag-self t.tag)
      ∙ ap (λ k. Some (StructureTag (structure_number p k))) (sym is)
  find-by i j t u js false e g f h next =
      ap (λ (b : Bool). found_if b j t.tag js) (ap (bytes_eq t.tag) (ap (tag_or_none p) f) ∙ tags-differ p.structures i j t u tags-apart g f e) ∙ next h

  pub tag-there : (i : ℕ) (t : Structure) (js : List ℕ) → slice_get p.structures i ≡ Some t → is_among i js ≡ true → Within js → find_name t.tag (map (tag_entry p) js) ≡ Some (StructureTag (structure_number p i))
  tag-there i t [] e h w = absurd (cc)
  tag-there i t (j ∷ js) e h w =
      let u = within-first j js w in
      find-by i j t u.0 js (nat_eq i j) refl e u.1 h (λ k. tag-there i t js e k (within-rest j js w))

  pub tag-new : (i : ℕ) (t : Structure) (js : List ℕ) → slice_get p.structures i ≡ Some t → is_among i js ≡ false → Within js → find_name t.tag (map (tag_entry p) js) ≡ None
  tag-new i t [] e h w = refl
  tag-new i t (j ∷ js) e h w =
      let q = or-false (nat_eq i j) (is_among i js) h in
      let u = within-first j js w in
      ap (λ (b : Bool). found_if b j t.tag js) (ap (λ (o : Option Structure). bytes_eq t.tag (tag_or_none p o)) u.1 ∙ tags-differ p.structures i j t u.0 tags-apart e u.1 q.0)
      ∙ tag-new i t js e q.1 (within-rest j js w)
