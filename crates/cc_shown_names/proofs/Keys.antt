-- Lists of names of which no two are the same, by position, and the names of a unit in the order of its text.
use Rattle.std.proofs.Common.{arith, ◌≡◌, ◌⊎◌, inl, inr, ℕ, zero, suc, ◌+◌, ◌<◌, Bool, true, false, not, List, [], ◌∷◌, ◌++◌, map, length, Some, refl, ap, sym, ◌∙◌, slice_get}
use Rattle.std.specs.List.{list_any, list_all}
use Rattle.std.specs.Str.{bytes_eq}
use Rattle.std.proofs.lemmas.Option.{slice_get_within}
use Rattle.cc_program.specs.declared.func.Func.{Func}
use Rattle.cc_program.specs.declared.object.Object.{Object}
use Rattle.cc_program.specs.declared.program.Program.{Program}
use Rattle.cc_type.specs.CcScopes.State.{Name}
use Rattle.cc_type.specs.CcSyntax.Names.{device_names, intrinsic_names, file_names, are_names}
use Rattle.cc_type.proofs.CcSyntax.Prefixes.{both_true}
use Rattle.cc_program.specs.CcWords.Names.{is_name, are_distinct}
use Rattle.cc_shown_names.proofs.Changes.{stays-there}
use Rattle.cc_shown_names.proofs.Names.{neither, names-turned}

-- ---- positions in two lists

pub second-there : {A : Type 0} → (xs ys : List A) (i j : ℕ) → i ≡ length xs + j → slice_get (xs ++ ys) i ≡ slice_get ys j
second-there [] ys i j e = let f : i ≡ j = omega (arith, e) in ap (slice_get ys) f
second-there (x ∷ xs) ys zero j e = absurd (omega (arith, e))
second-there (x ∷ xs) ys (suc i) j e = let f : i ≡ length xs + j = omega (arith, e) in second-there xs ys i j f

-- where one of both lists stands
pub data Part {A : Type 0} (xs ys : List A) (i : ℕ) (x : A) : Type 0 where
  First : slice_get xs i ≡ Some x → Part xs ys i x
  Second : (j : ℕ) → i ≡ length xs + j → slice_get ys j ≡ Some x → Part xs ys i x

part-further : {A : Type 0} → (y : A) (xs ys : List A) (i : ℕ) (x : A) → Part xs ys i x → Part (y ∷ xs) ys (suc i) x
part-further y xs ys i x (First h) = First h
part-further y xs ys i x (Second j e h) = Second j (omega (arith, e)) h

pub part-of : {A : Type 0} → (xs ys : List A) (i : ℕ) (x : A) → slice_get (xs ++ ys) i ≡ Some x → Part xs ys i x
part-of [] ys i x h = Second i (omega arith) h
part-of (y ∷ xs) ys zero x h = First h
part-of (y ∷ xs) ys (suc i) x h = part-further y xs ys i x (part-of xs ys i x h)

-- ---- names that are not the same

abbrev pub Apart : List Name → List Name → Type 0
Apart xs ys = (i j : ℕ) (x y : Name) → slice_get xs i ≡ Some x → slice_get ys j ≡ Some y → bytes_eq x y ≡ false

abbrev pub Distinct : List Name → Type 0
Distinct xs = (i j : ℕ) (x y : Name) → slice_get xs i ≡ Some x → slice_get xs j ≡ Some y → (i ≡ j) ⊎ (bytes_eq x y ≡ false)

not-false : (b : Bool) → not b ≡ true → b ≡ false
not-false true h = absurd (cc)
not-false false h = refl

no-any : (z : Name) (xs : List Name) (i : ℕ) (x : Name) → list_any (bytes_eq z) xs ≡ false → slice_get xs i ≡ Some x → bytes_eq z x ≡ false
no-any z [] i x h e = absurd (cc)
no-any z (y ∷ ys) zero x h e = let k : y ≡ x = cc in ap (bytes_eq z) (sym k) ∙ (neither (bytes_eq z y) (list_any (bytes_eq z) ys) h).0
no-any z (y ∷ ys) (suc i) x h e = no-any z ys i x (neither (bytes_eq z y) (list_any (bytes_eq z) ys) h).1 e

next : (i j : ℕ) (x y : Name) → (i ≡ j) ⊎ (bytes_eq x y ≡ false) → (suc i ≡ suc j) ⊎ (bytes_eq x y ≡ false)
next i j x y (inl e) = inl (ap suc e)
next i j x y (inr h) = inr h

previous : (i j : ℕ) (x y : Name) → (suc i ≡ suc j) ⊎ (bytes_eq x y ≡ false) → (i ≡ j) ⊎ (bytes_eq x y ≡ false)
previous i j x y (inl e) = inl (omega (arith, e))
previous i j x y (inr h) = inr h

pub distinct-of : (xs : List Name) → are_distinct xs ≡ true → Distinct xs
distinct-of [] h i j x y e f = absurd (cc)
distinct-of (z ∷ zs) h zero zero x y e f = inl refl
distinct-of (z ∷ zs) h zero (suc j) x y e f =
    let k : z ≡ x = cc in
    let none = not-false (list_any (bytes_eq z) zs) (both_true (not (list_any (bytes_eq z) zs)) (are_distinct zs) h).0 in
    inr (ap (λ x. bytes_eq x y) (sym k) ∙ no-any z zs j y none f)
distinct-of (z ∷ zs) h (suc i) zero x y e f =
    let k : z ≡ y = cc in
    let none = not-false (list_any (bytes_eq z) zs) (both_true (not (list_any (bytes_eq z) zs)) (are_distinct zs) h).0 in
    inr (names-turned y x (ap (λ y. bytes_eq y x) (sym k) ∙ no-any z zs i x none e))
distinct-of (z ∷ zs) h (suc i) (suc j) x y e f = next i j x y (distinct-of zs (both_true (not (list_any (bytes_eq z) zs)) (are_distinct zs) h).1 i j x y e f)

pub behind-first : (z : Name) (zs : List Name) → Distinct (z ∷ zs) → Distinct zs
behind-first z zs d i j x y e f = previous i j x y (d (suc i) (suc j) x y e f)

pub front : (xs ys : List Name) → Distinct (xs ++ ys) → Distinct xs
front xs ys d i j x y e f = d i j x y (stays-there xs ys i x e) (stays-there xs ys j y f)

same-behind : (m i j : ℕ) (x y : Name) → (m + i ≡ m + j) ⊎ (bytes_eq x y ≡ false) → (i ≡ j) ⊎ (bytes_eq x y ≡ false)
same-behind m i j x y (inl e) = inl (omega (arith, e))
same-behind m i j x y (inr h) = inr h

pub back : (xs ys : List Name) → Distinct (xs ++ ys) → Distinct ys
back xs ys d i j x y e f =
    same-behind (length xs) i j x y (d (length xs + i) (length xs + j) x y (second-there xs ys (length xs + i) i refl ∙ e) (second-there xs ys (length xs + j) j refl ∙ f))

other : (m i j : ℕ) (x y : Name) → i < m → (i ≡ m + j) ⊎ (bytes_eq x y ≡ false) → bytes_eq x y ≡ false
other m i j x y l (inl e) = absurd (omega (arith, l, e))
other m i j x y l (inr h) = h

pub parts-apart : (xs ys : List Name) → Distinct (xs ++ ys) → Apart xs ys
parts-apart xs ys d i j x y e f =
    other (length xs) i j x y (slice_get_within xs i x e) (d i (length xs + j) x y (stays-there xs ys i x e) (second-there xs ys (length xs + j) j refl ∙ f))

further : (m i j k l : ℕ) (x y : Name) → k ≡ m + i → l ≡ m + j → (i ≡ j) ⊎ (bytes_eq x y ≡ false) → (k ≡ l) ⊎ (bytes_eq x y ≡ false)
further m i j k l x y e f (inl h) = inl (omega (arith, e, f, h))
further m i j k l x y e f (inr h) = inr h

joined-by : (xs ys : List Name) → Distinct xs → Distinct ys → Apart xs ys → (i j : ℕ) (x y : Name) → Part xs ys i x → Part xs ys j y → (i ≡ j) ⊎ (bytes_eq x y ≡ false)
joined-by xs ys dx dy a i j x y (First e) (First f) = dx i j x y e f
joined-by xs ys dx dy a i j x y (First e) (Second l g f) = inr (a i l x y e f)
joined-by xs ys dx dy a i j x y (Second k g e) (First f) = inr (names-turned y x (a j k y x f e))
joined-by xs ys dx dy a i j x y (Second k g e) (Second l h f) = further (length xs) k l i j x y g h (dy k l x y e f)

pub joined : (xs ys : List Name) → Distinct xs → Distinct ys → Apart xs ys → Distinct (xs ++ ys)
joined xs ys dx dy a i j x y e f = joined-by xs ys dx dy a i j x y (part-of xs ys i x e) (part-of xs ys j y f)

-- of the same names in another order
in-both : (xs ys zs ws : List Name) → Apart xs (ys ++ (zs ++ ws)) → (i j : ℕ) (x y : Name) → slice_get xs i ≡ Some x → Part zs ys j y → bytes_eq x y ≡ false
in-both xs ys zs ws a i j x y e (First f) = a i (length ys + j) x y e (second-there ys (zs ++ ws) (length ys + j) j refl ∙ stays-there zs ws j y f)
in-both xs ys zs ws a i j x y e (Second k g f) = a i k x y e (stays-there ys (zs ++ ws) k y f)

turned : (xs ys zs ws : List Name) → Distinct (xs ++ (ys ++ (zs ++ ws))) → Distinct (xs ++ (zs ++ ys))
turned xs ys zs ws d =
    let rest = back xs (ys ++ (zs ++ ws)) d in
    let between = parts-apart ys (zs ++ ws) rest in
    let turned_apart : Apart zs ys = λ i j x y e f. names-turned y x (between j i y x f (stays-there zs ws i x e)) in
    let inner = joined zs ys (front zs ws (back ys (zs ++ ws) rest)) (front ys (zs ++ ws) rest) turned_apart in
    let outer = parts-apart xs (ys ++ (zs ++ ws)) d in
    joined xs (zs ++ ys) (front xs (ys ++ (zs ++ ws)) d) inner (λ i j x y e f. in-both xs ys zs ws outer i j x y e (part-of zs ys j y f))

-- ---- the names of a unit: those of devices, functions and objects

abbrev AtAny : List Name → Name → Name → Type 0
AtAny xs x y = (k : ℕ) → slice_get xs k ≡ Some x → bytes_eq x y ≡ false

inner-by : (xs ys : List Name) (k : ℕ) (x y : Name) → AtAny xs x y → AtAny ys x y → Part xs ys k x → bytes_eq x y ≡ false
inner-by xs ys k x y a b (First g) = a k g
inner-by xs ys k x y a b (Second l e g) = b l g

own-by : (xs ys zs : List Name) (i : ℕ) (x y : Name) → AtAny xs x y → AtAny ys x y → AtAny zs x y → Part xs (ys ++ zs) i x → bytes_eq x y ≡ false
own-by xs ys zs i x y a b c (First g) = a i g
own-by xs ys zs i x y a b c (Second k e g) = inner-by ys zs k x y b c (part-of ys zs k x g)

module _ (p : Program) where
  abbrev pub func_names : List Name
  func_names = map (λ (f : Func). f.name) p.funcs

  abbrev pub object_names : List Name
  object_names = map (λ (o : Object). o.name) p.objects

  abbrev pub unit_keys : List Name
  unit_keys = device_names p.devices ++ (func_names ++ object_names)

  abbrev pub distinct_file : are_names (file_names p) ≡ true → Distinct (file_names p)
  distinct_file h = distinct-of (file_names p) (both_true (list_all is_name (file_names p)) (are_distinct (file_names p)) h).1

  pub keys-distinct : are_names (file_names p) ≡ true → Distinct unit_keys
  keys-distinct h = turned (device_names p.devices) object_names func_names (intrinsic_names p.roles) (distinct_file h)

  -- none of them is an intrinsic's
  pub keys-own : are_names (file_names p) ≡ true → Apart unit_keys (intrinsic_names p.roles)
  keys-own h i j x y e f =
      let all = distinct_file h in
      let devices = parts-apart (device_names p.devices) (object_names ++ (func_names ++ intrinsic_names p.roles)) all in
      let behind = back (device_names p.devices) (object_names ++ (func_names ++ intrinsic_names p.roles)) all in
      let objects = parts-apart object_names (func_names ++ intrinsic_names p.roles) behind in
      let funcs = parts-apart func_names (intrinsic_names p.roles) (back object_names (func_names ++ intrinsic_names p.roles) behind) in
      let last : slice_get (func_names ++ intrinsic_names p.roles) (length func_names + j) ≡ Some y = second-there func_names (intrinsic_names p.roles) (length func_names + j) j refl ∙ f in
      let whole : slice_get (object_names ++ (func_names ++ intrinsic_names p.roles)) (length object_names + (length func_names + j)) ≡ Some y =
      second-there object_names (func_names ++ intrinsic_names p.roles) (length object_names + (length func_names + j)) (length func_names + j) refl ∙ last in
      own-by (device_names p.devices) func_names object_names i x y (λ k g. devices k (length object_names + (length func_names + j)) x y g whole) (λ k g. funcs k j x y g f) (λ k g. objects k (length func_names + j) x y g last)
      (part-of (device_names p.devices) (func_names ++ object_names) i x e)
