-- The source of a program whose objects stand in an order is that program by other numbers: each by the number that the order has at its place, and
-- those past its end by numbers that no object has.
use Rattle.std.proofs.Common.{◌≡◌, ◌∙◌, ◌<◌, ◌≤◌, ◌+◌, ◌⊎◌, inl, inr, ℕ, true, List, length, map, Option, Some, None, option_map, slice_get, refl, ap, sym, arith}
use Rattle.std.specs.Prelude.{unwrap_or}
use Rattle.std.proofs.lemmas.Bool.{cases_lt}
use Rattle.std.proofs.lemmas.Option.{slice_get-map, slice_get_past}
use Rattle.cc_lower_numbers.specs.Order.{arranged, place_in}
use Rattle.cc_lower_numbers_sound.proofs.Orders.{place-there, found, AreThere, arranged-at, arranged-length}
use Rattle.cc_program.specs.declared.func.Func.{Func}
use Rattle.cc_program.specs.declared.object.Object.{Object}
use Rattle.cc_program.specs.declared.program.Program.{Program}
use Rattle.cc_eval.proofs.CcSyntax.Parts.{all_at}
use Rattle.cc_rewrite_renamed.specs.Orders.{is_in, NamesInFunc, NamesInObject, IsOrderOf}
use Rattle.cc_rewrite_renamed.proofs.Kept.{all_back, object_back, func_back}
use Rattle.cc_rewrite_renamed.specs.Objects.{object_renamed, func_renamed, with_objects, ordered_object, ordered_func}
use Rattle.cc_rewrite_renamed.specs.Renaming.{AreRenamed}

-- the number that stands at a place of an order, and one past all others where none does
abbrev pub number_at : List ℕ → ℕ → ℕ → ℕ
number_at order past i = unwrap_or (slice_get order i) (past + i)

none_some : (n : ℕ) → None ≡ Some n → ⊥
none_some n e = absurd (cc)

pub leads_back : (order : List ℕ) (past i : ℕ) → is_in order i ≡ true → number_at order past (place_in 0 order i) ≡ i
leads_back order past i h =
    let s = place-there 0 order i h in
    let e : 0 + s.behind ≡ s.behind = omega arith in
    ap (number_at order past) (s.is ∙ e) ∙ ap (λ (o : Option ℕ). unwrap_or o (past + s.behind)) s.there

module _ (order : List ℕ) (p : Program) (h : IsOrderOf order p) where
  abbrev pub number : ℕ → ℕ
  number i = number_at order (length p.objects) i

  -- ---- numbers

  pub within_at : (i k : ℕ) → slice_get order i ≡ Some k → k < length p.objects
  within_at i k e = all_at (λ k. k < length p.objects) order i k e h.within

  number_of : (i k : ℕ) → slice_get order i ≡ Some k → number i ≡ k
  number_of i k e = ap (λ (o : Option ℕ). unwrap_or o (length p.objects + i)) e

  number_past : (i : ℕ) → slice_get order i ≡ None → number i ≡ length p.objects + i
  number_past i e = ap (λ (o : Option ℕ). unwrap_or o (length p.objects + i)) e

  pub numbers_apart : (i j : ℕ) → number i ≡ number j → i ≡ j
  numbers_apart i j e = by (slice_get order i) (slice_get order j) refl refl
    where
      by : (x y : Option ℕ) → slice_get order i ≡ x → slice_get order j ≡ y → i ≡ j
      by (Some a) (Some b) u v = h.once i j a u (v ∙ ap (λ (n : ℕ). Some n) (sym (number_of j b v) ∙ sym e ∙ number_of i a u))
      by (Some a) None u v = let l = within_at i a u in let k = sym (number_of i a u) ∙ e ∙ number_past j v in absurd (omega (arith, l, k))
      by None (Some b) u v = let l = within_at j b v in let k = sym (number_past i u) ∙ e ∙ number_of j b v in absurd (omega (arith, l, k))
      by None None u v = let k = sym (number_past i u) ∙ e ∙ number_past j v in omega (arith, k)

  -- ---- objects

  pub are_there : AreThere p.objects order
  are_there k i = let s = place-there 0 order k i in within_at s.behind k s.there

  abbrev pub ordered : Program
  ordered = with_objects (place_in 0 order) (map (ordered_object order) (arranged p.objects order)) p

  abbrev back : Object → Object
  back o = object_renamed number o

  named_back : (i : ℕ) (o : Object) → slice_get (arranged p.objects order) i ≡ Some o → back (ordered_object order o) ≡ o
  named_back i o e = object_back order number (leads_back order (length p.objects)) o (all_at (NamesInObject order) (arranged p.objects order) i o e h.first)

  object_there : (i k : ℕ) (o : Object) → slice_get order i ≡ Some k → slice_get p.objects k ≡ Some o → slice_get p.objects (number i) ≡ option_map back (slice_get ordered.objects i)
  object_there i k o u v =
      let a = arranged-at p.objects order i k are_there u ∙ v in
      ap (slice_get p.objects) (number_of i k u) ∙ v
      ∙ ap (λ (o : Object). Some o) (sym (named_back i o a))
      ∙ ap (option_map back) (sym (slice_get-map (ordered_object order) (arranged p.objects order) i ∙ ap (option_map (ordered_object order)) a))

  past_order : (i : ℕ) → slice_get order i ≡ None → length order ≤ i
  past_order i e = by (cases_lt i (length order))
    where
      by : (i < length order) ⊎ (length order ≤ i) → length order ≤ i
      by (inl l) = let x = found order order i l in absurd (none_some x.0 (sym e ∙ x.1))
      by (inr l) = l

  object_past : (i : ℕ) → slice_get order i ≡ None → slice_get p.objects (number i) ≡ option_map back (slice_get ordered.objects i)
  object_past i e =
      let l = past_order i e in
      let m = arranged-length p.objects order are_there in
      ap (slice_get p.objects) (number_past i e) ∙ slice_get_past p.objects (length p.objects + i) (omega arith)
      ∙ ap (option_map back) (sym (slice_get-map (ordered_object order) (arranged p.objects order) i ∙ ap (option_map (ordered_object order)) (slice_get_past (arranged p.objects order) i (omega (arith, l, m)))))

  pub objects_there : (i : ℕ) → slice_get p.objects (number i) ≡ option_map back (slice_get ordered.objects i)
  objects_there i = by (slice_get order i) refl
    where
      by : (x : Option ℕ) → slice_get order i ≡ x → slice_get p.objects (number i) ≡ option_map back (slice_get ordered.objects i)
      by None e = object_past i e
      by (Some k) e = let o = found p.objects p.objects k (within_at i k e) in object_there i k o.0 e o.1

  same_type : (o : Option Object) → option_map (λ (o : Object). o.ctype) (option_map back o) ≡ option_map (λ (o : Object). o.ctype) o
  same_type None = refl
  same_type (Some o) = refl

  pub renamed : AreRenamed number p.objects ordered
  renamed = record { types = λ i. ap (option_map (λ (o : Object). o.ctype)) (objects_there i) ∙ same_type (slice_get ordered.objects i); apart = numbers_apart }

  -- ---- functions

  pub source_there : with_objects number p.objects ordered ≡ p
  source_there =
      ap (λ (funcs : List Func). record { target = p.target; roles = p.roles; structures = p.structures; devices = p.devices; objects = p.objects; funcs = funcs; main = p.main })
      (all_back (func_renamed number) (ordered_func order) (NamesInFunc order) (func_back order number (leads_back order (length p.objects))) p.funcs h.text)
