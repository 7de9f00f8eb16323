-- Where devices that have names come first, those without are all that stand behind as many as have one.
use Rattle.std.proofs.Common.{◌≡◌, ◌∙◌, Bool, true, false, not, ◌||◌, cond, List, [], ◌∷◌, length, drop, filter, refl, ap, sym}
use Rattle.std.specs.Prelude.{if◌then◌else◌}
use Rattle.std.specs.List.{list_any}
use Rattle.cc_program.specs.declared.object.Device.{Device}
use Rattle.cc_type.specs.CcSyntax.Lists.{come_first}
use Rattle.cc_type.specs.CcSyntax.Normal.{has_name, count_named}
use Rattle.cc_type.specs.CcSyntax.Sound.{is_numbered}

or-both : (a b : Bool) → (a || b) ≡ false → (a ≡ false) × (b ≡ false)
or-both false b h = (refl, h)
or-both true b h = absurd (cc)

not-true : (b : Bool) → not b ≡ true → b ≡ false
not-true false h = refl
not-true true h = absurd (cc)

not-false : (b : Bool) → not b ≡ false → b ≡ true
not-false true h = refl
not-false false h = absurd (cc)

abbrev first_if : Bool → List Device → Bool
first_if b ds = if b then come_first has_name ds else not (list_any has_name ds)

-- where none has a name
all-numbered : (ds : List Device) → list_any has_name ds ≡ false → (count_named ds ≡ 0) × (filter is_numbered ds ≡ ds)
all-numbered [] h = (refl, refl)
all-numbered (d ∷ ds) h =
    let q = or-both (has_name d) (list_any has_name ds) h in
    let r = all-numbered ds q.1 in (
      ap (λ (b : Bool). length (cond b (d ∷ filter has_name ds) (filter has_name ds))) q.0 ∙ r.0,
      ap (λ (b : Bool). cond b (d ∷ filter is_numbered ds) (filter is_numbered ds)) (not-false (is_numbered d) q.0) ∙ ap (λ (es : List Device). d ∷ es) r.1,
    )

pub none-dropped : {A : Type 0} → (xs : List A) → drop 0 xs ≡ xs
none-dropped [] = refl
none-dropped (x ∷ xs) = refl

pub numbered-behind : (ds : List Device) → come_first has_name ds ≡ true → drop (count_named ds) ds ≡ filter is_numbered ds
numbered-behind [] h = refl
numbered-behind (d ∷ ds) h = by (is_numbered d) refl (λ c. numbered-behind ds c)
  where
    by : (b : Bool) → is_numbered d ≡ b → (come_first has_name ds ≡ true → drop (count_named ds) ds ≡ filter is_numbered ds) → drop (count_named (d ∷ ds)) (d ∷ ds) ≡ filter is_numbered (d ∷ ds)
    by false k next =
        let named : has_name d ≡ true = ap not k in
        ap (λ (b : Bool). drop (length (cond b (d ∷ filter has_name ds) (filter has_name ds))) (d ∷ ds)) named
        ∙ next (sym (ap (λ (b : Bool). first_if b ds) named) ∙ h)
        ∙ sym (ap (λ (b : Bool). cond b (d ∷ filter is_numbered ds) (filter is_numbered ds)) k)
    by true k next =
        let unnamed : has_name d ≡ false = ap not k in
        let none = not-true (list_any has_name ds) (sym (ap (λ (b : Bool). first_if b ds) unnamed) ∙ h) in
        let q = all-numbered (d ∷ ds) (ap (λ (b : Bool). b || list_any has_name ds) unnamed ∙ none) in
        ap (λ n. drop n (d ∷ ds)) q.0 ∙ none-dropped (d ∷ ds) ∙ sym q.1
