-- What an object consists of, opened at a type; and what an initialiser that shows it does, as one of a list or as a whole.
use Rattle.std.proofs.Common.{◌≡◌, ℕ, Bool, true, false, ◌||◌, List, [], ◌∷◌, map, Option, Some, None, refl, ap, sym, ◌∙◌, subst}
use Rattle.std.specs.Prelude.{is_some, if◌then◌else◌}
use Rattle.cc_type.specs.CcInitialisers.Contents.{Contents, Scalar, Elements, NoMember, Members, Inside, ShapeInside, shape_inside, type_inside, contents_over, of_members}
use Rattle.cc_type.specs.CcInitialisers.Initialisers.{Step, Give, Initialiser, Init, Filled, is_scalar_object, takes_text, string_for, started, started_by, elided, initialiser_of, list_braced, all_taken, list_initialised, aggregate_initialised, initialised, scalar_given, here}
use Rattle.cc_type.proofs.CcInitialisers.Layers.{initialiser-One, initialiser-Many}
use Rattle.cc_program.specs.declared.types.CType.{CType, fold-CType, fold_out-CType}
use Rattle.cc_program.specs.declared.types.Shape.{Shape, out-Shape, map-Shape, fold-Shape, fold_out-Shape}
use Rattle.cc_program.specs.declared.types.Shape.TheOpen as shape
use Rattle.cc_program.specs.declared.types.Sig.{Sig, fold-Sig}
use Rattle.cc_type.specs.CcSyntax.Values.{ValueType, Integer, pointer_to}
use Rattle.cc_tree.specs.declared.at.At.{At}
use Rattle.cc_tree.specs.declared.tree.Tree.{Tree}
use Rattle.cc_tree.specs.declared.unit.Given as given
use Rattle.cc_tree.specs.declared.unit.Given.{Given}

-- ---- by the shape of its type

module _ (inside : ℕ → Inside) where
  abbrev pub opened : shape.Shape-F Shape CType Sig → Bool → Contents
  opened shape.Void c = NoMember
  opened (shape.Int t) c = Scalar c (Integer t)
  opened (shape.Pointer to) c = Scalar c (pointer_to to)
  opened (shape.Array of n) c = Elements n (contents_over inside of c)
  opened (shape.Struct i) c = inside i c
  opened (shape.Func g) c = NoMember

  abbrev parts_inside : shape.Shape-F Shape CType Sig → shape.Shape-F ShapeInside (CType → Inside) (Unit {0})
  parts_inside x = map-Shape Shape CType Sig ShapeInside (CType → Inside) (Unit {0})
      (fold-Shape ShapeInside (CType → Inside) (Unit {0}) (shape_inside inside) (type_inside inside) (λ s. tt))
      (fold-CType ShapeInside (CType → Inside) (Unit {0}) (shape_inside inside) (type_inside inside) (λ s. tt))
      (fold-Sig ShapeInside (CType → Inside) (Unit {0}) (shape_inside inside) (type_inside inside) (λ s. tt)) x

  shape-opens : (x : shape.Shape-F Shape CType Sig) (c : Bool) → shape_inside inside (parts_inside x) x c ≡ opened x c
  unfolding contents_over
  shape-opens shape.Void c = refl
  shape-opens (shape.Int t) c = refl
  shape-opens (shape.Pointer to) c = refl
  shape-opens (shape.Array of n) c = refl
  shape-opens (shape.Struct i) c = refl
  shape-opens (shape.Func g) c = refl

  contents-opens : (t : CType) (constant : Bool) → contents_over inside t constant ≡ opened (out-Shape t.shape) (constant || t.constant)
  unfolding contents_over
  contents-opens t constant =
      ap (λ (f : CType → Inside). f t constant) (fold_out-CType ShapeInside (CType → Inside) (Unit {0}) (shape_inside inside) (type_inside inside) (λ s. tt) t)
      ∙ ap (λ (f : ShapeInside). f (out-Shape t.shape) (constant || t.constant)) (fold_out-Shape ShapeInside (CType → Inside) (Unit {0}) (shape_inside inside) (type_inside inside) (λ s. tt) t.shape)
      ∙ shape-opens (out-Shape t.shape) (constant || t.constant)

  pub contents-at : (t : CType) (x : shape.Shape-F Shape CType Sig) (constant : Bool) → out-Shape t.shape ≡ x → contents_over inside t constant ≡ opened x (constant || t.constant)
  contents-at t x constant e = contents-opens t constant ∙ ap (λ y. opened y (constant || t.constant)) e

-- ---- an initialiser that shows an object of such contents: for a scalar an expression, else a list

abbrev pub has_form : Contents → Option (At Tree) → Type 0
has_form (Scalar constant t) (Some e) = Unit {0}
has_form (Scalar constant t) None = ⊥
has_form (Elements n of) o = o ≡ None
has_form NoMember o = o ≡ None
has_form (Members first rest) o = o ≡ None

pub record IsForm (c : Contents) (x : Given) : Type 0 where
  pub text : (initialiser_of x).text ≡ None
  pub form : has_form c (initialiser_of x).expression

abbrev no_string : Option (List ℕ)
no_string = None

either-none : (b : Bool) → (if b then no_string else no_string) ≡ no_string
either-none true = refl
either-none false = refl

no-string : (c : Contents) → string_for c None ≡ None
no-string (Scalar constant t) = refl
no-string (Elements n of) = either-none (takes_text (Elements n of))
no-string NoMember = refl
no-string (Members first rest) = refl

abbrev pair : List Step → List Init → Filled
pair steps left = (steps, left)

module _ (c : Contents) (plain : is_scalar_object c ≡ false) (g : At Given) (text : (initialiser_of g.node).text ≡ None) (form : (initialiser_of g.node).expression ≡ None) where
  no-text : string_for c (initialiser_of g.node).text ≡ None
  no-text = ap (string_for c) text ∙ no-string c

  list-started : (at : ℕ) (rest : List Init) → started c (elided c) at (here g ∷ rest) ≡ pair ((initialiser_of g.node).braced c g.at) rest
  list-started at rest =
      ap (λ b. if b then elided c at (here g ∷ rest) else started_by c (elided c) at (here g) rest (string_for c (initialiser_of g.node).text)) plain
      ∙ ap (started_by c (elided c) at (here g) rest) no-text
      ∙ ap (λ (o : Option (At Tree)). if is_some o then elided c at (here g ∷ rest) else pair ((initialiser_of g.node).braced c g.at) rest) form

  list-alone : aggregate_initialised c (here g) (string_for c (initialiser_of g.node).text) ≡ (initialiser_of g.node).braced c g.at
  list-alone = ap (aggregate_initialised c (here g)) no-text ∙ ap (list_initialised c (here g)) form

-- one of a list gives what it gives alone
pub started-shown : (c : Contents) (g : At Given) (at : ℕ) (rest : List Init) → IsForm c g.node → started c (elided c) at (here g ∷ rest) ≡ pair (initialised c (here g)) rest
started-shown (Scalar constant t) g at rest f = refl
started-shown (Elements n of) g at rest f = list-started (Elements n of) refl g f.text f.form at rest ∙ ap (λ (steps : List Step). pair steps rest) (sym (list-alone (Elements n of) refl g f.text f.form))
started-shown NoMember g at rest f = list-started NoMember refl g f.text f.form at rest ∙ ap (λ (steps : List Step). pair steps rest) (sym (list-alone NoMember refl g f.text f.form))
started-shown (Members first more) g at rest f = list-started (Members first more) refl g f.text f.form at rest ∙ ap (λ (steps : List Step). pair steps rest) (sym (list-alone (Members first more) refl g f.text f.form))

-- ---- what it is alone

pub scalar-alone : (constant : Bool) (t : ValueType) (at : ℕ) (x : At Tree) → initialised (Scalar constant t) (here (record { at = at; node = given.One x })) ≡ Give constant t x ∷ []
scalar-alone constant t at x = ap (λ (i : Initialiser). scalar_given constant t (record { at = at; node = i }) i.expression) (initialiser-One (given.One x) x refl)

list-taken : (c : Contents) (at : ℕ) (gs : List (At Given)) → is_scalar_object c ≡ false → list_braced (map here gs) c at ≡ all_taken (elided c at (map here gs))
list-taken (Scalar constant t) at gs h = absurd (cc)
list-taken (Elements n of) at gs h = refl
list-taken NoMember at gs h = refl
list-taken (Members first rest) at gs h = refl

abbrev list_of : ℕ → List (At Given) → At Given
list_of at gs = record { at = at; node = given.Many gs }

list-braces : (c : Contents) (at : ℕ) (gs : List (At Given)) → is_scalar_object c ≡ false → (initialiser_of (given.Many gs)).braced c at ≡ all_taken (elided c at (map here gs))
list-braces c at gs h = ap (λ (i : Initialiser). i.braced c at) (initialiser-Many (given.Many gs) gs refl) ∙ list-taken c at gs h

no-expression : (gs : List (At Given)) → (initialiser_of (given.Many gs)).expression ≡ None
no-expression gs = ap (λ (i : Initialiser). i.expression) (initialiser-Many (given.Many gs) gs refl)

pub list-alone-taken : (c : Contents) (at : ℕ) (gs : List (At Given)) → is_scalar_object c ≡ false → (initialiser_of (given.Many gs)).text ≡ None → initialised c (here (list_of at gs)) ≡ all_taken (elided c at (map here gs))
list-alone-taken (Scalar constant t) at gs h k = absurd (cc)
list-alone-taken (Elements n of) at gs h k = list-alone (Elements n of) h (list_of at gs) k (no-expression gs) ∙ list-braces (Elements n of) at gs h
list-alone-taken NoMember at gs h k = list-alone NoMember h (list_of at gs) k (no-expression gs) ∙ list-braces NoMember at gs h
list-alone-taken (Members first rest) at gs h k = list-alone (Members first rest) h (list_of at gs) k (no-expression gs) ∙ list-braces (Members first rest) at gs h

list-form : (c : Contents) (gs : List (At Given)) → is_scalar_object c ≡ false → has_form c (initialiser_of (given.Many gs)).expression
list-form (Scalar constant t) gs h = absurd (cc)
list-form (Elements n of) gs h = no-expression gs
list-form NoMember gs h = no-expression gs
list-form (Members first rest) gs h = no-expression gs

pub list-is-form : (c : Contents) (gs : List (At Given)) → is_scalar_object c ≡ false → (initialiser_of (given.Many gs)).text ≡ None → IsForm c (given.Many gs)
list-is-form c gs h k = record { text = k; form = list-form c gs h }

abbrev has_scalar_form : Bool → ValueType → Initialiser → Type 0
has_scalar_form constant t i = has_form (Scalar constant t) i.expression

pub scalar-is-form : (constant : Bool) (t : ValueType) (x : At Tree) → (initialiser_of (given.One x)).text ≡ None → IsForm (Scalar constant t) (given.One x)
scalar-is-form constant t x k = record { text = k; form = subst (has_scalar_form constant t) (sym (initialiser-One (given.One x) x refl)) tt }

pub members-plain : {A : Type 0} → (inside : A → Inside) (constant : Bool) (ms : List A) → is_scalar_object (of_members (map inside ms) constant) ≡ false
members-plain inside constant [] = refl
members-plain inside constant (m ∷ ms) = refl
