-- What an item defines is among what its unit does; an object that is given an initialiser at file scope is one that its declaration defines.
use Rattle.std.proofs.Common.{◌≡◌, Bool, true, false, ◌||◌, List, [], ◌∷◌, ◌++◌, Option, Some, None, refl, ap, sym, ◌∙◌, subst}
use Rattle.std.proofs.lemmas.Slice.Eq.{bytes_eq-Decides}
use Rattle.std.specs.Prelude.{is_some, option_to_list, if◌then◌else◌}
use Rattle.std.specs.List.{list_any, flat_map}
use Rattle.std.specs.Str.{bytes_eq}
use Rattle.cc_read_sound.specs.External.{AreAmong}
use Rattle.cc_type.specs.CcObjects.Categories.{is_given}
use Rattle.cc_program.proofs.Each.{Each}
use Rattle.cc_type.specs.CcScopes.State.{Name}
use Rattle.cc_sound_declarations.proofs.Storage.{none_given}
use Rattle.cc_tree.specs.Scopes.{name_of}
use Rattle.cc_tree.specs.declared.at.At.{At}
use Rattle.cc_tree.specs.declared.unit.Given.{Given}
use Rattle.cc_tree.specs.declared.unit.Init.{Init}
use Rattle.cc_tree.specs.declared.unit.Item.{Item}
use Rattle.cc_tree.specs.declared.unit.Unit.{Unit as UnitTree}
use Rattle.cc_type.specs.Defined.{name_in, given_in, defined_with, defined_by, defined_names}
use Rattle.cc_program.specs.CcWords.declared.word.Word.{Word}
use Rattle.cc_program.specs.CcWords.declared.word.Word.TheVariants as w

-- ---- names among others

any_front : {A : Type 0} (p : A → Bool) (xs ys : List A) → list_any p xs ≡ true → list_any p (xs ++ ys) ≡ true
any_front p [] ys h = absurd (cc)
any_front p (x ∷ xs) ys h = of_test (p x) h (any_front p xs ys)
  where
    of_test : (b : Bool) → b || list_any p xs ≡ true → (list_any p xs ≡ true → list_any p (xs ++ ys) ≡ true) → b || list_any p (xs ++ ys) ≡ true
    of_test true g f = refl
    of_test false g f = f g

any_behind : {A : Type 0} (p : A → Bool) (xs ys : List A) → list_any p ys ≡ true → list_any p (xs ++ ys) ≡ true
any_behind p [] ys h = h
any_behind p (x ∷ xs) ys h = of_test (p x) (any_behind p xs ys h)
  where
    of_test : (b : Bool) → list_any p (xs ++ ys) ≡ true → b || list_any p (xs ++ ys) ≡ true
    of_test true g = refl
    of_test false g = g

or_true : (b c : Bool) → b ≡ true → b || c ≡ true
or_true true c h = refl
or_true false c h = absurd (cc)

each_behind : (zs xs ys : List Name) → AreAmong zs ys → AreAmong zs (xs ++ ys)
each_behind [] xs ys h = tt
each_behind (z ∷ zs) xs ys h = (any_behind (bytes_eq z) xs ys h.0, each_behind zs xs ys h.1)

each_front : (zs xs ys : List Name) → AreAmong zs xs → AreAmong zs (xs ++ ys)
each_front [] xs ys h = tt
each_front (z ∷ zs) xs ys h = (any_front (bytes_eq z) xs ys h.0, each_front zs xs ys h.1)

or_second : (b c : Bool) → c ≡ true → b || c ≡ true
or_second true c h = refl
or_second false c h = h

each_later : (zs : List Name) (x : Name) (xs : List Name) → AreAmong zs xs → AreAmong zs (x ∷ xs)
each_later [] x xs h = tt
each_later (z ∷ zs) x xs h = (or_second (bytes_eq z x) (list_any (bytes_eq z) xs) h.0, each_later zs x xs h.1)

among_itself : (xs : List Name) → AreAmong xs xs
among_itself [] = tt
among_itself (x ∷ xs) = (or_true (bytes_eq x x) (list_any (bytes_eq x) xs) ((bytes_eq-Decides x x).1 refl), each_later xs x xs (among_itself xs))

-- ---- items of a unit

each_kept : {A : Type 0} (f : A → List Name) (xs : List A) (front ys : List Name) → Each (λ x. AreAmong (f x) ys) xs → Each (λ x. AreAmong (f x) (front ++ ys)) xs
each_kept f [] front ys h = tt
each_kept f (x ∷ xs) front ys h = (each_behind (f x) front ys h.0, each_kept f xs front ys h.1)

all_among : {A : Type 0} (f : A → List Name) (xs : List A) → Each (λ x. AreAmong (f x) (flat_map f xs)) xs
all_among f [] = tt
all_among f (x ∷ xs) = (each_front (f x) (f x) (flat_map f xs) (among_itself (f x)), each_kept f xs (f x) (flat_map f xs) (all_among f xs))

pub defined_among : (u : UnitTree) → Each (λ (i : At Item). AreAmong (defined_by i.node) (defined_names u)) u.items
defined_among u = all_among (λ (i : At Item). defined_by i.node) u.items

-- ---- declarators that give an initialiser

each_first : (xs ys defined : List Name) → AreAmong (xs ++ ys) defined → AreAmong xs defined
each_first [] ys defined h = tt
each_first (x ∷ xs) ys defined h = (h.0, each_first xs ys defined h.1)

each_second : (xs ys defined : List Name) → AreAmong (xs ++ ys) defined → AreAmong ys defined
each_second [] ys defined h = h
each_second (x ∷ xs) ys defined h = each_second xs ys defined h.1

each_of : {A : Type 0} (f : A → List Name) (xs : List A) (defined : List Name) → AreAmong (flat_map f xs) defined → Each (λ x. AreAmong (f x) defined) xs
each_of f [] defined h = tt
each_of f (x ∷ xs) defined h = (each_first (f x) (flat_map f xs) defined h, each_of f xs defined (each_second (f x) (flat_map f xs) defined h))

-- of a declarator at file scope: where it names a type it gives nothing, and what it gives an initialiser to is among the objects that the unit defines
pub record IsExternal (defined : List Name) (storage : Option Word) (i : At Init) : Type 0 where
  pub typedefs : storage ≡ Some w.Typedef → i.node.value ≡ None
  pub given : (g : At Given) (x : Name) → i.node.value ≡ Some g → name_of i.node.declr.node ≡ Some x → list_any (bytes_eq x) defined ≡ true

module _ (defined : List Name) where
  named_in : (o : Option Name) (x : Name) → o ≡ Some x → AreAmong (option_to_list o) defined → list_any (bytes_eq x) defined ≡ true
  named_in None x e h = absurd (cc)
  named_in (Some y) x e h = let same : y ≡ x = cc in subst (λ (z : Name). list_any (bytes_eq z) defined ≡ true) same h.0

  is_given_by : (i : At Init) (g : At Given) → i.node.value ≡ Some g → is_given i ≡ true
  is_given_by i g h = ap is_some h

  given_here : (i : At Init) (g : At Given) → i.node.value ≡ Some g → AreAmong (given_in i) defined → AreAmong (name_in i) defined
  given_here i g e h = subst (λ (b : Bool). AreAmong (if b then name_in i else []) defined) (is_given_by i g e) h

  no_typedef : (storage : Option Word) (o : Option (At Given)) → (storage ≡ Some w.Typedef → ⊥) → storage ≡ Some w.Typedef → o ≡ None
  no_typedef storage o f h = absurd (f h)

  all_named : (storage : Option Word) (is : List (At Init)) → (storage ≡ Some w.Typedef → ⊥) → Each (λ (i : At Init). AreAmong (name_in i) defined) is → Each (IsExternal defined storage) is
  all_named storage [] f h = tt
  all_named storage (i ∷ is) f h =
      (record { typedefs = λ e. no_typedef storage i.node.value f e; given = λ g x e n. named_in (name_of i.node.declr.node) x n h.0 }, all_named storage is f h.1)

  all_given : (storage : Option Word) (is : List (At Init)) → (storage ≡ Some w.Typedef → ⊥) → Each (λ (i : At Init). AreAmong (given_in i) defined) is → Each (IsExternal defined storage) is
  all_given storage [] f h = tt
  all_given storage (i ∷ is) f h =
      (record { typedefs = λ e. no_typedef storage i.node.value f e; given = λ g x e n. named_in (name_of i.node.declr.node) x n (given_here i g e h.0) }, all_given storage is f h.1)

  none_some : (g : At Given) (o : Option (At Given)) → o ≡ None → o ≡ Some g → ⊥
  none_some g o e f = let c : None ≡ Some g = sym e ∙ f in absurd (cc)

  all_types : (is : List (At Init)) → Each (λ (i : At Init). i.node.value ≡ None) is → Each (IsExternal defined (Some w.Typedef)) is
  all_types [] h = tt
  all_types (i ∷ is) h = (record { typedefs = λ e. h.0; given = λ g x e n. absurd (none_some g i.node.value h.0 e) }, all_types is h.1)

  pub all_external : (storage : Option Word) (is : List (At Init)) → (storage ≡ Some w.Typedef → list_any is_given is ≡ false) → AreAmong (defined_with storage is) defined → Each (IsExternal defined storage) is
  all_external None is f h = all_named None is (λ e. absurd (cc)) (each_of name_in is defined h)
  all_external (Some w.Typedef) is f h = all_types is (none_given is (f refl))
  all_external (Some w.Extern) is f h = all_given (Some w.Extern) is (λ e. absurd (cc)) (each_of given_in is defined h)
  all_external (Some x) is f h = all_named (Some x) is (λ e. absurd (cc)) (each_of name_in is defined h)
