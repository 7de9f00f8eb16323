-- Declarators in blocks, and at file scope, may stand there.
use Rattle.std.proofs.Common.{◌≡◌, ◌⊎◌, inl, inr, ℕ, Bool, true, false, ◌&&◌, List, [], ◌∷◌, ◌++◌, map, Option, Some, None, Ok, refl, ap, sym, ◌∙◌, subst}
use Rattle.std.specs.Prelude.{flat_map, is_some, option_to_list, if◌then◌else◌}
use Rattle.std.specs.List.{list_all, list_any}
use Rattle.std.specs.Str.{bytes_eq}
use Rattle.cc_read_sound.proofs.ExternalDeclarations.{external_function}
use Rattle.cc_read_sound.proofs.StorageClasses.{storage_is}
use Rattle.cc_read_sound.specs.External.{AreAmong}
use Rattle.cc_type.specs.CcLinkage.declared.linkage.DeclaredAs.{DeclaredAs}
use Rattle.cc_type.specs.CcLinkage.declared.linkage.DeclaredAs.TheVariants.{AsStatic, AsObject, AsExtern}
use Rattle.cc_type.specs.CcObjects.Categories.{block_category, category_by, file_category, function_category, is_given, setting_of, storage_in}
use Rattle.cc_type.specs.CcObjects.Linked.{is_extern}
use Rattle.cc_type.specs.CcObjects.Tags.{in_front}
use Rattle.cc_type.specs.CcObjects.declared.category.Category.{Category}
use Rattle.cc_type.specs.CcObjects.declared.category.Category.TheVariants as declares
use Rattle.cc_program.proofs.Each.{Each}
use Rattle.cc_program.specs.declared.expr.Expr.{Expr}
use Rattle.cc_program.specs.declared.func.Func.{Func}
use Rattle.cc_program.specs.declared.program.Roles.{Roles}
use Rattle.cc_program.specs.declared.types.CType.{CType}
use Rattle.cc_type.specs.CcScopes.State.{State, Name}
use Rattle.cc_sound_declarations.proofs.Blocks.{function_is}
use Rattle.cc_sound_declarations.proofs.Storage.{IsInside, Block, For, IsPlain, plain_inside, specified_fit}
use Rattle.cc_sound_declarations.specs.Ranges.{decl_fits}
use Rattle.cc_read_sound.proofs.Categories.{Defines}
use Rattle.cc_read_sound.proofs.Declarations.{IsInit, append_nothing, declaration_keeps}
use Rattle.cc_read_sound.specs.Entries.{AreWell}
use Rattle.cc_type.specs.CcSpecifiers.declared.specifier.Specified.{Specified}
use Rattle.cc_type.specs.CcSpecifiers.declared.storage.Where.{Where}
use Rattle.cc_type.specs.CcSpecifiers.declared.storage.Where.TheVariants as place
use Rattle.cc_type.specs.CcSyntax.Views.{View}
use Rattle.cc_type.specs.CcTerms.Specifiers.{specified_found}
use Rattle.cc_type.specs.CcTerms.Terms.{spec_here}
use Rattle.cc_tree.specs.Scopes.{name_of}
use Rattle.cc_tree.specs.declared.at.At.{At}
use Rattle.cc_tree.specs.declared.unit.Decl.{Decl}
use Rattle.cc_tree.specs.declared.unit.Given.{Given}
use Rattle.cc_tree.specs.declared.unit.Init.{Init}
use Rattle.cc_tree.specs.declared.unit.Item.TheVariants as item
use Rattle.cc_type.specs.Defined.{defined_by, defined_with, given_in, name_in}
use Rattle.cc_type.specs.CcTypedBodies.Declarations.{declaration}
use Rattle.cc_program.specs.CcWords.declared.word.Word.{Word}
use Rattle.cc_program.specs.CcWords.declared.word.Word.TheVariants as w

some_none : {A : Type 0} (x : A) → Some x ≡ None → ⊥
some_none x h = cc

same_linked : (a b : DeclaredAs) → declares.Linked a ≡ declares.Linked b → a ≡ b
same_linked a b h = cc

-- ---- in blocks names with linkage are extern

function_no_object : (x : Option Word) (asked : DeclaredAs) → function_category x ≡ declares.Linked asked → ⊥
function_no_object None asked h = absurd (cc)
function_no_object (Some w.Typedef) asked h = absurd (cc)
function_no_object (Some w.Static) asked h = absurd (cc)
function_no_object (Some x) asked h = absurd (cc)

block_extern : (x : Option Word) (asked : DeclaredAs) → block_category x ≡ declares.Linked asked → is_extern asked ≡ true
block_extern None asked h = absurd (cc)
block_extern (Some w.Typedef) asked h = absurd (cc)
block_extern (Some w.Static) asked h = absurd (cc)
block_extern (Some w.Extern) asked h = ap is_extern (sym (same_linked AsExtern asked h))
block_extern (Some x) asked h = absurd (cc)

inside_extern : (place : Where) (x : Option Word) (b : Bool) (asked : DeclaredAs) → IsInside place → category_by place x b ≡ declares.Linked asked → is_extern asked ≡ true
inside_extern place x true asked i h = absurd (function_no_object x asked h)
inside_extern _ x false asked Block h = block_extern x asked h
inside_extern _ x false asked For h = block_extern x asked h

-- ---- names that declarators define at file scope

abbrev pub defines : Option Word → At Init → List Name
defines (Some w.Typedef) i = []
defines (Some w.Extern) i = given_in i
defines _ i = name_in i

abbrev nothing : At Init → List Name
nothing i = []

nothing_flat : (is : List (At Init)) → flat_map nothing is ≡ []
nothing_flat [] = refl
nothing_flat (i ∷ is) = nothing_flat is

defines_all : (x : Option Word) (is : List (At Init)) → flat_map (defines x) is ≡ defined_with x is
defines_all None is = refl
defines_all (Some w.Typedef) is = nothing_flat is
defines_all (Some w.Extern) is = refl
defines_all (Some x) is = refl

-- which storage classes define
abbrev is_plain : Option Word → Bool
is_plain (Some w.Typedef) = false
is_plain (Some w.Extern) = false
is_plain _ = true

plain_defines : (x : Option Word) (i : At Init) → is_plain x ≡ true → defines x i ≡ name_in i
plain_defines None i h = refl
plain_defines (Some w.Typedef) i h = absurd (cc)
plain_defines (Some w.Extern) i h = absurd (cc)
plain_defines (Some x) i h = refl

file_plain : (x : Option Word) (asked : DeclaredAs) → file_category x ≡ declares.Linked asked → is_extern asked ≡ false → is_plain x ≡ true
file_plain None asked h e = refl
file_plain (Some w.Typedef) asked h e = absurd (cc)
file_plain (Some w.Static) asked h e = refl
file_plain (Some w.Extern) asked h e = let c : true ≡ false = ap is_extern (same_linked AsExtern asked h) ∙ e in absurd (cc)
file_plain (Some x) asked h e = refl

file_not_typedef : (x : Option Word) (asked : DeclaredAs) → file_category x ≡ declares.Linked asked → (i : At Init) → is_some i.node.value ≡ true → defines x i ≡ name_in i
file_not_typedef None asked h i g = refl
file_not_typedef (Some w.Typedef) asked h i g = absurd (cc)
file_not_typedef (Some w.Static) asked h i g = refl
file_not_typedef (Some w.Extern) asked h i g = ap (λ (b : Bool). if b then name_in i else []) g
file_not_typedef (Some x) asked h i g = refl

module _ (v : View) (roles : Roles) (defined : List Name) (P : CType → Func → Type 0) where
  abbrev All : List Name → State → Type 0
  All done s = AreWell v.target roles defined P done s

  -- ---- in blocks

  inside_init : (place : Where) (storage : Option Word) (i : At Init) → IsInside place → IsPlain place storage i → IsInit v roles defined P place storage nothing i
  inside_init place storage i inside plain = record {
    functions = λ b asked h. function_is v roles defined 0 place storage b asked inside h;
    among = λ b asked x h e n. let c : true ≡ false = sym (inside_extern place storage b asked inside h) ∙ e in absurd (cc);
    given = λ b asked g x h e n. absurd (some_none g (sym e ∙ plain.linked b asked h));
    named = λ b x n. tt;
    nameless = λ n. refl;
  }

  inside_inits : (place : Where) (storage : Option Word) (is : List (At Init)) → IsInside place → Each (IsPlain place storage) is → Each (IsInit v roles defined P place storage nothing) is
  inside_inits place storage [] inside h = tt
  inside_inits place storage (i ∷ is) inside h = (inside_init place storage i inside h.0, inside_inits place storage is inside h.1)

  pub inside_keeps : (place : Where) (decl : Decl) (s : State) (r : List Expr × State) → IsInside place → decl_fits decl ≡ true → declaration v.target roles defined place decl s ≡ Ok r → (done : List Name) → All done s → All done r.1
  inside_keeps place decl s r inside f h done w =
      let set = setting_of place decl s in
      let front = in_front decl s in
      let all = declaration_keeps v roles defined P place (λ o. nothing) decl s r f
      (λ base t e. inside_inits place base.specs.storage decl.inits inside
      (plain_inside set base.specs decl.inits (list_any is_given decl.inits) (specified_fit set (map (spec_here v.target roles) decl.specs) front (base, t) e) inside refl refl))
      h done w (storage_in decl.specs) (λ base t e. storage_is set v.target roles decl.specs front (base, t) e) in
      subst (λ (xs : List Name). All xs r.1) (ap (λ (ys : List Name). done ++ ys) (nothing_flat decl.inits) ∙ append_nothing done) all

  -- ---- at file scope

  named_there : (o : Option Name) (x : Name) → o ≡ Some x → AreAmong (option_to_list o) defined → list_any (bytes_eq x) defined ≡ true
  named_there None x e h = absurd (some_none x (sym e))
  named_there (Some y) x e h = subst (λ (z : Name). list_any (bytes_eq z) defined ≡ true) (let same : y ≡ x = cc in same) h.0

  each_named : (o : Option Name) (x : Name) (Q : Type 0) → o ≡ Some x → Q → Each (λ (y : Name). (y ≡ x) × Q) (option_to_list o)
  each_named None x Q e q = tt
  each_named (Some y) x Q e q = ((let same : y ≡ x = cc in same, q), tt)

  abbrev Means : Option Word → Bool → At Init → Type 0
  Means storage b i = Defines v roles defined P (category_by place.AtFile storage b) i.node.value

  file_means : (storage : Option Word) (b : Bool) (i : At Init) → is_plain storage ≡ true → Means storage b i
  file_means None true i h = tt
  file_means None false i h = inl refl
  file_means (Some w.Typedef) b i h = absurd (cc)
  file_means (Some w.Extern) b i h = absurd (cc)
  file_means (Some w.Static) true i h = tt
  file_means (Some w.Static) false i h = inl refl
  file_means (Some x) true i h = tt
  file_means (Some x) false i h = inl refl

  extern_means : (b : Bool) (i : At Init) → is_some i.node.value ≡ true → Means (Some w.Extern) b i
  extern_means true i h = tt
  extern_means false i h = inr h

  extern_named : (b c : Bool) (i : At Init) (x : Name) → is_some i.node.value ≡ c → name_of i.node.declr.node ≡ Some x → Each (λ (y : Name). (y ≡ x) × Means (Some w.Extern) b i) (if c then name_in i else [])
  extern_named b true i x e n = each_named (name_of i.node.declr.node) x (Means (Some w.Extern) b i) n (extern_means b i e)
  extern_named b false i x e n = tt

  file_named : (storage : Option Word) (b : Bool) (i : At Init) (x : Name) → name_of i.node.declr.node ≡ Some x → Each (λ (y : Name). (y ≡ x) × Means storage b i) (defines storage i)
  file_named None b i x n = each_named (name_of i.node.declr.node) x (Means None b i) n (file_means None b i refl)
  file_named (Some w.Typedef) b i x n = tt
  file_named (Some w.Extern) b i x n = extern_named b (is_given i) i x refl n
  file_named (Some y) b i x n = each_named (name_of i.node.declr.node) x (Means (Some y) b i) n (file_means (Some y) b i refl)

  no_names : (i : At Init) → name_of i.node.declr.node ≡ None → name_in i ≡ []
  no_names i e = ap option_to_list e

  no_given : (b : Bool) (i : At Init) → name_of i.node.declr.node ≡ None → (if b then name_in i else []) ≡ []
  no_given true i e = no_names i e
  no_given false i e = refl

  file_nameless : (storage : Option Word) (i : At Init) → name_of i.node.declr.node ≡ None → defines storage i ≡ []
  file_nameless None i e = no_names i e
  file_nameless (Some w.Typedef) i e = refl
  file_nameless (Some w.Extern) i e = no_given (is_given i) i e
  file_nameless (Some x) i e = no_names i e

  file_among : (storage : Option Word) (b : Bool) (asked : DeclaredAs) (i : At Init) (x : Name) → AreAmong (defines storage i) defined → category_by place.AtFile storage b ≡ declares.Linked asked → is_extern asked ≡ false →
      name_of i.node.declr.node ≡ Some x → list_any (bytes_eq x) defined ≡ true
  file_among storage true asked i x a h e n = absurd (function_no_object storage asked h)
  file_among storage false asked i x a h e n =
      named_there (name_of i.node.declr.node) x n (subst (λ (ys : List Name). AreAmong ys defined) (plain_defines storage i (file_plain storage asked h e)) a)

  is_there : {A : Type 0} (o : Option A) (x : A) → o ≡ Some x → is_some o ≡ true
  is_there o x e = ap is_some e

  file_given : (storage : Option Word) (b : Bool) (asked : DeclaredAs) (g : At Given) (i : At Init) (x : Name) → AreAmong (defines storage i) defined → category_by place.AtFile storage b ≡ declares.Linked asked → i.node.value ≡ Some g →
      name_of i.node.declr.node ≡ Some x → list_any (bytes_eq x) defined ≡ true
  file_given storage true asked g i x a h e n = absurd (function_no_object storage asked h)
  file_given storage false asked g i x a h e n =
      named_there (name_of i.node.declr.node) x n (subst (λ (ys : List Name). AreAmong ys defined) (file_not_typedef storage asked h i (is_there i.node.value g e)) a)

  file_init : (storage : Option Word) (i : At Init) → AreAmong (defines storage i) defined → IsInit v roles defined P place.AtFile storage (defines storage) i
  file_init storage i a = record {
    functions = λ b asked h. external_function storage b asked h;
    among = λ b asked x h e n. file_among storage b asked i x a h e n;
    given = λ b asked g x h e n. file_given storage b asked g i x a h e n;
    named = λ b x n. file_named storage b i x n;
    nameless = λ n. file_nameless storage i n;
  }

  each_first : (xs ys : List Name) → AreAmong (xs ++ ys) defined → AreAmong xs defined
  each_first [] ys h = tt
  each_first (x ∷ xs) ys h = (h.0, each_first xs ys h.1)

  each_second : (xs ys : List Name) → AreAmong (xs ++ ys) defined → AreAmong ys defined
  each_second [] ys h = h
  each_second (x ∷ xs) ys h = each_second xs ys h.1

  file_inits : (storage : Option Word) (is : List (At Init)) → AreAmong (flat_map (defines storage) is) defined → Each (IsInit v roles defined P place.AtFile storage (defines storage)) is
  file_inits storage [] h = tt
  file_inits storage (i ∷ is) h = (file_init storage i (each_first (defines storage i) (flat_map (defines storage) is) h), file_inits storage is (each_second (defines storage i) (flat_map (defines storage) is) h))

  pub file_keeps : (decl : Decl) (s : State) (r : List Expr × State) → decl_fits decl ≡ true → AreAmong (defined_by (item.Decl decl)) defined → declaration v.target roles defined place.AtFile decl s ≡ Ok r → (done : List Name) → All done s →
      All (done ++ defined_by (item.Decl decl)) r.1
  file_keeps decl s r f a h done w =
      let set = setting_of place.AtFile decl s in
      let front = in_front decl s in
      let storage = storage_in decl.specs in
      let same = λ (base : Specified) (t : State) (e : specified_found set (map (spec_here v.target roles) decl.specs) front ≡ Ok (base, t)). storage_is set v.target roles decl.specs front (base, t) e in
      let among = subst (λ (ys : List Name). AreAmong ys defined) (sym (defines_all storage decl.inits)) a in
      subst (λ (ys : List Name). All (done ++ ys) r.1) (defines_all storage decl.inits)
      (declaration_keeps v roles defined P place.AtFile defines decl s r f
      (λ base t e. subst (λ (o : Option Word). Each (IsInit v roles defined P place.AtFile o (defines o)) decl.inits) (sym (same base t e)) (file_inits storage decl.inits among))
      h done w storage same)
