-- The name of a local is that of nothing else in its function.
use Rattle.std.proofs.Common.{arith, ◌≡◌, ◌⊎◌, inl, inr, ℕ, zero, suc, ◌<◌, Bool, true, false, not, ◌||◌, List, [], ◌∷◌, ◌++◌, map, Option, Some, None, refl, ap, sym, ◌∙◌, slice_get}
use Rattle.std.specs.Prelude.{if◌then◌else◌}
use Rattle.std.specs.List.{list_any, list_all}
use Rattle.std.specs.Str.{bytes_eq}
use Rattle.std.proofs.lemmas.List.Folds.{list_any-append}
use Rattle.std.proofs.lemmas.Slice.Eq.{bytes_eq-Decides}
use Rattle.cc_type.specs.CcTypedTerms.Primary.{intrinsic_named}
use Rattle.cc_program.specs.declared.expr.Intr.TheVariants as intr
use Rattle.cc_program.specs.declared.func.Func.{Func}
use Rattle.cc_program.specs.declared.object.Device.{Device}
use Rattle.cc_program.specs.declared.object.Object.{Object}
use Rattle.cc_program.specs.declared.program.Program.{Program}
use Rattle.cc_program.specs.declared.program.Roles.{Roles}
use Rattle.cc_type.specs.CcScopes.State.{Name}
use Rattle.cc_type.specs.CcSyntax.Names.{with_name, device_names, intrinsic_names, file_names, local_names, are_names}
use Rattle.cc_type.specs.CcSyntax.Types.{Named}
use Rattle.cc_type.proofs.CcSyntax.Prefixes.{both_true}
use Rattle.cc_program.specs.CcWords.Names.{is_name, are_distinct}

-- ---- equal names

pub names-same : (x y : Name) → bytes_eq x y ≡ true → x ≡ y
names-same x y h = (bytes_eq-Decides x y).0 h

pub name-itself : (x : Name) → bytes_eq x x ≡ true
name-itself x = (bytes_eq-Decides x x).1 refl

not-true : (b : Bool) → (b ≡ true → ⊥) → b ≡ false
not-true true h = absurd (h refl)
not-true false h = refl

pub names-turned : (x y : Name) → bytes_eq x y ≡ false → bytes_eq y x ≡ false
names-turned x y h = not-true (bytes_eq y x) (λ k. let g : true ≡ false = sym (name-itself x) ∙ ap (λ z. bytes_eq x z) (sym (names-same y x k)) ∙ h in cc)

-- ---- lists

not-false : (b : Bool) → not b ≡ true → b ≡ false
not-false true h = absurd (cc)
not-false false h = refl

pub neither : (a b : Bool) → a || b ≡ false → (a ≡ false) × (b ≡ false)
neither true b h = absurd (cc)
neither false b h = (refl, h)

no-any : {A : Type 0} → (test : A → Bool) (xs : List A) (i : ℕ) (x : A) → list_any test xs ≡ false → slice_get xs i ≡ Some x → test x ≡ false
no-any test [] i x h e = absurd (cc)
no-any test (y ∷ ys) zero x h e = let k : y ≡ x = cc in ap test (sym k) ∙ (neither (test y) (list_any test ys) h).0
no-any test (y ∷ ys) (suc i) x h e = no-any test ys i x (neither (test y) (list_any test ys) h).1 e

parted : (x : Name) (xs ys : List Name) → list_any (bytes_eq x) (xs ++ ys) ≡ false → (list_any (bytes_eq x) xs ≡ false) × (list_any (bytes_eq x) ys ≡ false)
parted x xs ys h = neither (list_any (bytes_eq x) xs) (list_any (bytes_eq x) ys) (sym (list_any-append (bytes_eq x) xs ys) ∙ h)

pub mapped : {A : Type 0} → (f : A → Name) (xs : List A) (i : ℕ) (x : A) → slice_get xs i ≡ Some x → slice_get (map f xs) i ≡ Some (f x)
mapped f [] i x h = absurd (cc)
mapped f (y ∷ ys) zero x h = let k : y ≡ x = cc in ap (λ z. Some (f z)) k
mapped f (y ∷ ys) (suc i) x h = mapped f ys i x h

-- a name of the first is none of the second, where all are distinct
pub behind : (xs ys : List Name) (i : ℕ) (x : Name) → are_distinct (xs ++ ys) ≡ true → slice_get xs i ≡ Some x → list_any (bytes_eq x) ys ≡ false
behind [] ys i x h e = absurd (cc)
behind (z ∷ xs) ys zero x h e =
    let k : z ≡ x = cc in
    ap (λ x. list_any (bytes_eq x) ys) (sym k) ∙ (parted z xs ys (not-false (list_any (bytes_eq z) (xs ++ ys)) (both_true (not (list_any (bytes_eq z) (xs ++ ys))) (are_distinct (xs ++ ys)) h).0)).1
behind (z ∷ xs) ys (suc i) x h e = behind xs ys i x (both_true (not (list_any (bytes_eq z) (xs ++ ys))) (are_distinct (xs ++ ys)) h).1 e

among : (xs ys : List Name) (i j : ℕ) (x y : Name) → are_distinct (xs ++ ys) ≡ true → slice_get xs i ≡ Some x → slice_get xs j ≡ Some y → i < j → bytes_eq x y ≡ false
among [] ys i j x y h e g l = absurd (cc)
among (z ∷ xs) ys i zero x y h e g l = absurd (omega (arith, l))
among (z ∷ xs) ys zero (suc j) x y h e g l =
    let k : z ≡ x = cc in
    ap (λ x. bytes_eq x y) (sym k) ∙ no-any (bytes_eq z) xs j y (parted z xs ys (not-false (list_any (bytes_eq z) (xs ++ ys)) (both_true (not (list_any (bytes_eq z) (xs ++ ys))) (are_distinct (xs ++ ys)) h).0)).0 g
among (z ∷ xs) ys (suc i) (suc j) x y h e g l = among xs ys i j x y (both_true (not (list_any (bytes_eq z) (xs ++ ys))) (are_distinct (xs ++ ys)) h).1 e g (omega (arith, l))

first-device : (x : Name) (c d : Device) (rest : List Name) (o : Option Name) (y : Name) → c.name ≡ o → c ≡ d → d.name ≡ Some y → list_any (bytes_eq x) (with_name o rest) ≡ false → bytes_eq x y ≡ false
first-device x c d rest None y e same k h = let g : None ≡ Some y = sym e ∙ ap (λ (d : Device). d.name) same ∙ k in absurd (cc)
first-device x c d rest (Some z) y e same k h =
    let g : Some z ≡ Some y = sym e ∙ ap (λ (d : Device). d.name) same ∙ k in
    let it : z ≡ y = cc in
    ap (bytes_eq x) (sym it) ∙ (neither (bytes_eq x z) (list_any (bytes_eq x) rest) h).0

other-device : (x : Name) (rest : List Name) (o : Option Name) → list_any (bytes_eq x) (with_name o rest) ≡ false → list_any (bytes_eq x) rest ≡ false
other-device x rest None h = h
other-device x rest (Some z) h = (neither (bytes_eq x z) (list_any (bytes_eq x) rest) h).1

no-device : (x : Name) (ds : List Device) (i : ℕ) (d : Device) (y : Name) → list_any (bytes_eq x) (device_names ds) ≡ false → slice_get ds i ≡ Some d → d.name ≡ Some y → bytes_eq x y ≡ false
no-device x [] i d y h e k = absurd (cc)
no-device x (c ∷ ds) zero d y h e k = let same : c ≡ d = cc in first-device x c d (device_names ds) c.name y refl same k h
no-device x (c ∷ ds) (suc i) d y h e k = no-device x ds i d y (other-device x (device_names ds) c.name h) e k

intrinsic-by : (a b c d : Bool) → a || (b || (c || (d || false))) ≡ false → (if a then Some intr.Off else (if b then Some intr.On else (if c then Some intr.Save else (if d then Some intr.Restore else None)))) ≡ None
intrinsic-by true b c d h = absurd (cc)
intrinsic-by false true c d h = absurd (cc)
intrinsic-by false false true d h = absurd (cc)
intrinsic-by false false false true h = absurd (cc)
intrinsic-by false false false false h = refl

pub no-intrinsic : (roles : Roles) (x : Name) → list_any (bytes_eq x) (intrinsic_names roles) ≡ false → intrinsic_named roles x ≡ None
no-intrinsic roles x h = intrinsic-by (bytes_eq x roles.off) (bytes_eq x roles.on) (bytes_eq x roles.save) (bytes_eq x roles.restore) h

-- ---- a local's name

-- it is that of nothing else that its function knows
pub record IsOwnName (p : Program) (f : Func) (k : ℕ) (x : Name) : Type 0 where
  pub intrinsic : intrinsic_named p.roles x ≡ None
  pub locals : (i : ℕ) (l : Named) → slice_get f.locals i ≡ Some l → (i < k) ⊎ (k < i) → bytes_eq l.0 x ≡ false
  pub objects : (i : ℕ) (o : Object) → slice_get p.objects i ≡ Some o → bytes_eq o.name x ≡ false
  pub devices : (i : ℕ) (d : Device) (y : Name) → slice_get p.devices i ≡ Some d → d.name ≡ Some y → bytes_eq y x ≡ false
  pub funcs : (i : ℕ) (g : Func) → slice_get p.funcs i ≡ Some g → bytes_eq g.name x ≡ false

module _ (p : Program) (f : Func) (names : are_names (local_names f.locals ++ file_names p) ≡ true) where
  apart : are_distinct (local_names f.locals ++ file_names p) ≡ true
  apart = (both_true (list_all is_name (local_names f.locals ++ file_names p)) (are_distinct (local_names f.locals ++ file_names p)) names).1

  other-local : (k i : ℕ) (l m : Named) → slice_get f.locals k ≡ Some l → slice_get f.locals i ≡ Some m → (i < k) ⊎ (k < i) → bytes_eq m.0 l.0 ≡ false
  other-local k i l m h g (inl a) = among (local_names f.locals) (file_names p) i k m.0 l.0 apart (mapped (λ l. l.0) f.locals i m g) (mapped (λ l. l.0) f.locals k l h) a
  other-local k i l m h g (inr a) = names-turned l.0 m.0 (among (local_names f.locals) (file_names p) k i l.0 m.0 apart (mapped (λ l. l.0) f.locals k l h) (mapped (λ l. l.0) f.locals i m g) a)

  pub own-name : (k : ℕ) (l : Named) → slice_get f.locals k ≡ Some l → IsOwnName p f k l.0
  own-name k l h =
      let objects = map (λ (o : Object). o.name) p.objects in
      let funcs = map (λ (g : Func). g.name) p.funcs in
      let none = behind (local_names f.locals) (file_names p) k l.0 apart (mapped (λ l. l.0) f.locals k l h) in
      let a = parted l.0 (device_names p.devices) (objects ++ (funcs ++ intrinsic_names p.roles)) none in
      let b = parted l.0 objects (funcs ++ intrinsic_names p.roles) a.1 in
      let c = parted l.0 funcs (intrinsic_names p.roles) b.1 in
      record {
        intrinsic = no-intrinsic p.roles l.0 c.1;
        locals = λ i m g apart. other-local k i l m h g apart;
        objects = λ i o g. names-turned l.0 o.name (no-any (bytes_eq l.0) objects i o.name b.0 (mapped (λ (o : Object). o.name) p.objects i o g));
        devices = λ i d y g e. names-turned l.0 y (no-device l.0 p.devices i d y a.0 g e);
        funcs = λ i e g. names-turned l.0 e.name (no-any (bytes_eq l.0) funcs i e.name c.0 (mapped (λ (g : Func). g.name) p.funcs i e g));
      }
