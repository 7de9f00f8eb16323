-- Whether the numbers of a construct fit, a variant at a time.
use Rattle.std.proofs.Common.{◌≡◌, ℕ, ◌^◌, Bool, true, ◌&&◌, List, [], ◌∷◌, ◌++◌, map, Option, Some, None, refl, ap, sym, ◌∙◌}
use Rattle.std.specs.Prelude.{nat_lt}
use Rattle.std.specs.List.{list_all}
use Rattle.std.proofs.lemmas.List.Folds.{list_all-append}
use Rattle.cc_type.specs.CcLex.declared.token.Mark.{Mark}
use Rattle.cc_type.specs.CcLex.declared.token.Suffix.{Suffix}
use Rattle.cc_type.proofs.CcSyntax.SameLemmas.{and_true}
use Rattle.cc_program.specs.CcWords.declared.word.Word.{Word}
use Rattle.cc_sound_terms.specs.Ranges.{all_fit, declr_fits, params_fit, spec_fits, tree_fits, enumr_fits, members_fit, param_fits, type_name_fits, fits, declr_in_range, params_in_range, spec_in_range, enumr_in_range, members_in_range, param_in_range, type_name_in_range}
use Rattle.cc_tree.specs.Tokens.{Name}
use Rattle.cc_tree.specs.declared.at.At.{At}
use Rattle.cc_tree.specs.declared.tree.Attr.{Attr}
use Rattle.cc_tree.specs.declared.tree.Declr as declr
use Rattle.cc_tree.specs.declared.tree.Declr.{Declr, fold-roll-Declr}
use Rattle.cc_tree.specs.declared.tree.Declr.TheVariants as declr_rolls
use Rattle.cc_tree.specs.declared.tree.Declr.TheOpen as one
use Rattle.cc_tree.specs.declared.tree.Enumr.{Enumr, fold-roll-Enumr}
use Rattle.cc_tree.specs.declared.tree.MemberDecl.{MemberDecl, fold-roll-MemberDecl}
use Rattle.cc_tree.specs.declared.tree.Param.{Param, fold-roll-Param}
use Rattle.cc_tree.specs.declared.tree.Params as params
use Rattle.cc_tree.specs.declared.tree.Params.{Params, fold-roll-Params}
use Rattle.cc_tree.specs.declared.tree.Params.TheVariants as params_rolls
use Rattle.cc_tree.specs.declared.tree.Spec as spec
use Rattle.cc_tree.specs.declared.tree.Spec.{Spec, fold-roll-Spec}
use Rattle.cc_tree.specs.declared.tree.Spec.TheVariants as spec_rolls
use Rattle.cc_tree.specs.declared.tree.Tree as tree
use Rattle.cc_tree.specs.declared.tree.Tree.{Tree, fold-roll-Tree}
use Rattle.cc_tree.specs.declared.tree.Tree.TheVariants as tree_rolls
use Rattle.cc_tree.specs.declared.tree.TypeName.{TypeName, fold-roll-TypeName}
use Rattle.cc_tree.specs.declared.unit.Decl.{Decl}
use Rattle.cc_tree.specs.declared.unit.First.{First}
use Rattle.cc_tree.specs.declared.unit.Given as given
use Rattle.cc_tree.specs.declared.unit.Given.{Given, fold-roll-Given}
use Rattle.cc_tree.specs.declared.unit.Given.TheOpen as one_given
use Rattle.cc_tree.specs.declared.unit.Given.TheVariants as given_rolls
use Rattle.cc_tree.specs.declared.unit.Line as line
use Rattle.cc_tree.specs.declared.unit.Line.{Line, fold-roll-Line}
use Rattle.cc_tree.specs.declared.unit.Line.TheOpen as one_line
use Rattle.cc_tree.specs.declared.unit.Line.TheVariants as line_rolls
use Rattle.cc_sound_declarations.specs.Ranges.{given_fits, given_in_range, decl_fits}
use Rattle.cc_read_sound.specs.Ranges.{each_fits, part_fits, first_fits, line_fits, line_in_range}

-- ---- lists

pub each_more : {A : Type 0} (test : A → Bool) (xs : List (At A)) (x : At A) → each_fits test xs ≡ true → test x.node ≡ true → each_fits test (xs ++ x ∷ []) ≡ true
each_more test xs x h k =
    list_all-append (λ x. test x.node) xs (x ∷ []) ∙ and_true (each_fits test xs) (each_fits test (x ∷ [])) h (and_true (test x.node) true k refl)

pub all_more : {A : Type 0} (test : A → Bool) (xs : List A) (x : A) → list_all test xs ≡ true → test x ≡ true → list_all test (xs ++ x ∷ []) ≡ true
all_more test xs x h k = list_all-append test xs (x ∷ []) ∙ and_true (list_all test xs) (list_all test (x ∷ [])) h (and_true (test x) true k refl)

pub all_one : {A : Type 0} (test : A → Bool) (x : A) → test x ≡ true → list_all test (x ∷ []) ≡ true
all_one test x h = and_true (test x) true h refl

pub each_one : {A : Type 0} (test : A → Bool) (x : At A) → test x.node ≡ true → each_fits test (x ∷ []) ≡ true
each_one test x h = and_true (test x.node) true h refl

pub each-mapped : {A : Type 0} (test : A → Bool) (xs : List (At A)) → all_fit (map (λ (x : At A). record { at = x.at; node = test x.node }) xs) ≡ each_fits test xs
each-mapped test [] = refl
each-mapped test (x ∷ xs) = ap (λ b. test x.node && b) (each-mapped test xs)

-- ---- variants

pub tree-Named : (x : Name) → fits (tree.Named x) ≡ true
unfolding fits declr_in_range params_in_range spec_in_range enumr_in_range members_in_range param_in_range type_name_in_range
tree-Named x = ap fits (sym (tree_rolls.rolls-Named x)) ∙ fold-roll-Tree Bool Bool Bool Bool Bool Bool Bool Bool declr_fits params_fit spec_fits tree_fits enumr_fits members_fit param_fits type_name_fits (one.Tree::Named x)

pub tree-Number : (n : ℕ) → (f : Suffix) → fits (tree.Number n f) ≡ nat_lt n (2 ^ 64)
unfolding fits declr_in_range params_in_range spec_in_range enumr_in_range members_in_range param_in_range type_name_in_range
tree-Number n f = ap fits (sym (tree_rolls.rolls-Number n f)) ∙ fold-roll-Tree Bool Bool Bool Bool Bool Bool Bool Bool declr_fits params_fit spec_fits tree_fits enumr_fits members_fit param_fits type_name_fits (one.Number n f)

pub tree-Character : (c : ℕ) → fits (tree.Character c) ≡ true
unfolding fits declr_in_range params_in_range spec_in_range enumr_in_range members_in_range param_in_range type_name_in_range
tree-Character c = ap fits (sym (tree_rolls.rolls-Character c)) ∙ fold-roll-Tree Bool Bool Bool Bool Bool Bool Bool Bool declr_fits params_fit spec_fits tree_fits enumr_fits members_fit param_fits type_name_fits (one.Character c)

pub tree-Text : (b : List ℕ) → fits (tree.Text b) ≡ true
unfolding fits declr_in_range params_in_range spec_in_range enumr_in_range members_in_range param_in_range type_name_in_range
tree-Text b = ap fits (sym (tree_rolls.rolls-Text b)) ∙ fold-roll-Tree Bool Bool Bool Bool Bool Bool Bool Bool declr_fits params_fit spec_fits tree_fits enumr_fits members_fit param_fits type_name_fits (one.Text b)

pub tree-Paren : (e : At Tree) → fits (tree.Paren e) ≡ fits e.node
unfolding fits declr_in_range params_in_range spec_in_range enumr_in_range members_in_range param_in_range type_name_in_range
tree-Paren e = ap fits (sym (tree_rolls.rolls-Paren e)) ∙ fold-roll-Tree Bool Bool Bool Bool Bool Bool Bool Bool declr_fits params_fit spec_fits tree_fits enumr_fits members_fit param_fits type_name_fits (one.Tree::Paren e)

pub tree-Comma : (a : At Tree) → (b : At Tree) → fits (tree.Comma a b) ≡ (fits a.node && fits b.node)
unfolding fits declr_in_range params_in_range spec_in_range enumr_in_range members_in_range param_in_range type_name_in_range
tree-Comma a b = ap fits (sym (tree_rolls.rolls-Comma a b)) ∙ fold-roll-Tree Bool Bool Bool Bool Bool Bool Bool Bool declr_fits params_fit spec_fits tree_fits enumr_fits members_fit param_fits type_name_fits (one.Comma a b)

pub tree-Assign : (o : Mark) → (a : At Tree) → (b : At Tree) → fits (tree.Assign o a b) ≡ (fits a.node && fits b.node)
unfolding fits declr_in_range params_in_range spec_in_range enumr_in_range members_in_range param_in_range type_name_in_range
tree-Assign o a b = ap fits (sym (tree_rolls.rolls-Assign o a b)) ∙ fold-roll-Tree Bool Bool Bool Bool Bool Bool Bool Bool declr_fits params_fit spec_fits tree_fits enumr_fits members_fit param_fits type_name_fits (one.Assign o a b)

pub tree-Choose : (c : At Tree) → (a : At Tree) → (b : At Tree) → fits (tree.Choose c a b) ≡ (fits c.node && (fits a.node && fits b.node))
unfolding fits declr_in_range params_in_range spec_in_range enumr_in_range members_in_range param_in_range type_name_in_range
tree-Choose c a b = ap fits (sym (tree_rolls.rolls-Choose c a b)) ∙ fold-roll-Tree Bool Bool Bool Bool Bool Bool Bool Bool declr_fits params_fit spec_fits tree_fits enumr_fits members_fit param_fits type_name_fits (one.Choose c a b)

pub tree-Binary : (o : Mark) → (a : At Tree) → (b : At Tree) → fits (tree.Binary o a b) ≡ (fits a.node && fits b.node)
unfolding fits declr_in_range params_in_range spec_in_range enumr_in_range members_in_range param_in_range type_name_in_range
tree-Binary o a b = ap fits (sym (tree_rolls.rolls-Binary o a b)) ∙ fold-roll-Tree Bool Bool Bool Bool Bool Bool Bool Bool declr_fits params_fit spec_fits tree_fits enumr_fits members_fit param_fits type_name_fits (one.Binary o a b)

pub tree-Prefix : (o : Mark) → (e : At Tree) → fits (tree.Prefix o e) ≡ fits e.node
unfolding fits declr_in_range params_in_range spec_in_range enumr_in_range members_in_range param_in_range type_name_in_range
tree-Prefix o e = ap fits (sym (tree_rolls.rolls-Prefix o e)) ∙ fold-roll-Tree Bool Bool Bool Bool Bool Bool Bool Bool declr_fits params_fit spec_fits tree_fits enumr_fits members_fit param_fits type_name_fits (one.Prefix o e)

pub tree-Postfix : (e : At Tree) → (o : Mark) → fits (tree.Postfix e o) ≡ fits e.node
unfolding fits declr_in_range params_in_range spec_in_range enumr_in_range members_in_range param_in_range type_name_in_range
tree-Postfix e o = ap fits (sym (tree_rolls.rolls-Postfix e o)) ∙ fold-roll-Tree Bool Bool Bool Bool Bool Bool Bool Bool declr_fits params_fit spec_fits tree_fits enumr_fits members_fit param_fits type_name_fits (one.Postfix e o)

pub tree-SizeOf : (e : At Tree) → fits (tree.SizeOf e) ≡ fits e.node
unfolding fits declr_in_range params_in_range spec_in_range enumr_in_range members_in_range param_in_range type_name_in_range
tree-SizeOf e = ap fits (sym (tree_rolls.rolls-SizeOf e)) ∙ fold-roll-Tree Bool Bool Bool Bool Bool Bool Bool Bool declr_fits params_fit spec_fits tree_fits enumr_fits members_fit param_fits type_name_fits (one.SizeOf e)

pub tree-SizeOfType : (t : TypeName) → fits (tree.SizeOfType t) ≡ type_name_in_range t
unfolding fits declr_in_range params_in_range spec_in_range enumr_in_range members_in_range param_in_range type_name_in_range
tree-SizeOfType t = ap fits (sym (tree_rolls.rolls-SizeOfType t)) ∙ fold-roll-Tree Bool Bool Bool Bool Bool Bool Bool Bool declr_fits params_fit spec_fits tree_fits enumr_fits members_fit param_fits type_name_fits (one.SizeOfType t)

pub tree-Extension : (e : At Tree) → fits (tree.Extension e) ≡ fits e.node
unfolding fits declr_in_range params_in_range spec_in_range enumr_in_range members_in_range param_in_range type_name_in_range
tree-Extension e = ap fits (sym (tree_rolls.rolls-Extension e)) ∙ fold-roll-Tree Bool Bool Bool Bool Bool Bool Bool Bool declr_fits params_fit spec_fits tree_fits enumr_fits members_fit param_fits type_name_fits (one.Extension e)

pub tree-Cast : (t : TypeName) → (e : At Tree) → fits (tree.Cast t e) ≡ (type_name_in_range t && fits e.node)
unfolding fits declr_in_range params_in_range spec_in_range enumr_in_range members_in_range param_in_range type_name_in_range
tree-Cast t e = ap fits (sym (tree_rolls.rolls-Cast t e)) ∙ fold-roll-Tree Bool Bool Bool Bool Bool Bool Bool Bool declr_fits params_fit spec_fits tree_fits enumr_fits members_fit param_fits type_name_fits (one.Cast t e)

pub tree-Subscript : (a : At Tree) → (i : At Tree) → fits (tree.Subscript a i) ≡ (fits a.node && fits i.node)
unfolding fits declr_in_range params_in_range spec_in_range enumr_in_range members_in_range param_in_range type_name_in_range
tree-Subscript a i = ap fits (sym (tree_rolls.rolls-Subscript a i)) ∙ fold-roll-Tree Bool Bool Bool Bool Bool Bool Bool Bool declr_fits params_fit spec_fits tree_fits enumr_fits members_fit param_fits type_name_fits (one.Subscript a i)

pub tree-Member : (e : At Tree) → (x : Name) → fits (tree.Member e x) ≡ fits e.node
unfolding fits declr_in_range params_in_range spec_in_range enumr_in_range members_in_range param_in_range type_name_in_range
tree-Member e x = ap fits (sym (tree_rolls.rolls-Member e x)) ∙ fold-roll-Tree Bool Bool Bool Bool Bool Bool Bool Bool declr_fits params_fit spec_fits tree_fits enumr_fits members_fit param_fits type_name_fits (one.Member e x)

pub tree-Arrow : (e : At Tree) → (x : Name) → fits (tree.Arrow e x) ≡ fits e.node
unfolding fits declr_in_range params_in_range spec_in_range enumr_in_range members_in_range param_in_range type_name_in_range
tree-Arrow e x = ap fits (sym (tree_rolls.rolls-Arrow e x)) ∙ fold-roll-Tree Bool Bool Bool Bool Bool Bool Bool Bool declr_fits params_fit spec_fits tree_fits enumr_fits members_fit param_fits type_name_fits (one.Arrow e x)

pub declr-Nothing : declr_in_range declr.Nothing ≡ true
unfolding fits declr_in_range params_in_range spec_in_range enumr_in_range members_in_range param_in_range type_name_in_range
declr-Nothing = ap declr_in_range (sym declr_rolls.rolls-Nothing) ∙ fold-roll-Declr Bool Bool Bool Bool Bool Bool Bool Bool declr_fits params_fit spec_fits tree_fits enumr_fits members_fit param_fits type_name_fits one.Nothing

pub declr-Named : (x : Name) → declr_in_range (declr.Named x) ≡ true
unfolding fits declr_in_range params_in_range spec_in_range enumr_in_range members_in_range param_in_range type_name_in_range
declr-Named x = ap declr_in_range (sym (declr_rolls.rolls-Named x)) ∙ fold-roll-Declr Bool Bool Bool Bool Bool Bool Bool Bool declr_fits params_fit spec_fits tree_fits enumr_fits members_fit param_fits type_name_fits (one.Declr::Named x)

pub declr-Paren : (d : At Declr) → declr_in_range (declr.Paren d) ≡ declr_in_range d.node
unfolding fits declr_in_range params_in_range spec_in_range enumr_in_range members_in_range param_in_range type_name_in_range
declr-Paren d = ap declr_in_range (sym (declr_rolls.rolls-Paren d)) ∙ fold-roll-Declr Bool Bool Bool Bool Bool Bool Bool Bool declr_fits params_fit spec_fits tree_fits enumr_fits members_fit param_fits type_name_fits (one.Declr::Paren d)

pub declr-Pointer : (q : List Word) → (d : At Declr) → declr_in_range (declr.Pointer q d) ≡ declr_in_range d.node
unfolding fits declr_in_range params_in_range spec_in_range enumr_in_range members_in_range param_in_range type_name_in_range
declr-Pointer q d = ap declr_in_range (sym (declr_rolls.rolls-Pointer q d)) ∙ fold-roll-Declr Bool Bool Bool Bool Bool Bool Bool Bool declr_fits params_fit spec_fits tree_fits enumr_fits members_fit param_fits type_name_fits (one.Pointer q d)

pub declr-Func : (d : At Declr) → (ps : Params) → declr_in_range (declr.Func d ps) ≡ (declr_in_range d.node && params_in_range ps)
unfolding fits declr_in_range params_in_range spec_in_range enumr_in_range members_in_range param_in_range type_name_in_range
declr-Func d ps = ap declr_in_range (sym (declr_rolls.rolls-Func d ps)) ∙ fold-roll-Declr Bool Bool Bool Bool Bool Bool Bool Bool declr_fits params_fit spec_fits tree_fits enumr_fits members_fit param_fits type_name_fits (one.Func d ps)

pub params-Empty : params_in_range params.Empty ≡ true
unfolding fits declr_in_range params_in_range spec_in_range enumr_in_range members_in_range param_in_range type_name_in_range
params-Empty = ap params_in_range (sym params_rolls.rolls-Empty) ∙ fold-roll-Params Bool Bool Bool Bool Bool Bool Bool Bool declr_fits params_fit spec_fits tree_fits enumr_fits members_fit param_fits type_name_fits one.Empty

pub params-Void : params_in_range params.Void ≡ true
unfolding fits declr_in_range params_in_range spec_in_range enumr_in_range members_in_range param_in_range type_name_in_range
params-Void = ap params_in_range (sym params_rolls.rolls-Void) ∙ fold-roll-Params Bool Bool Bool Bool Bool Bool Bool Bool declr_fits params_fit spec_fits tree_fits enumr_fits members_fit param_fits type_name_fits one.Void

pub spec-Word : (x : Word) → spec_in_range (spec.Word x) ≡ true
unfolding fits declr_in_range params_in_range spec_in_range enumr_in_range members_in_range param_in_range type_name_in_range
spec-Word x = ap spec_in_range (sym (spec_rolls.rolls-Word x)) ∙ fold-roll-Spec Bool Bool Bool Bool Bool Bool Bool Bool declr_fits params_fit spec_fits tree_fits enumr_fits members_fit param_fits type_name_fits (one.Word x)

pub spec-Named : (x : Name) → spec_in_range (spec.Named x) ≡ true
unfolding fits declr_in_range params_in_range spec_in_range enumr_in_range members_in_range param_in_range type_name_in_range
spec-Named x = ap spec_in_range (sym (spec_rolls.rolls-Named x)) ∙ fold-roll-Spec Bool Bool Bool Bool Bool Bool Bool Bool declr_fits params_fit spec_fits tree_fits enumr_fits members_fit param_fits type_name_fits (one.Spec::Named x)

pub spec-Attr : (a : Attr) → spec_in_range (spec.Attr a) ≡ true
unfolding fits declr_in_range params_in_range spec_in_range enumr_in_range members_in_range param_in_range type_name_in_range
spec-Attr a = ap spec_in_range (sym (spec_rolls.rolls-Attr a)) ∙ fold-roll-Spec Bool Bool Bool Bool Bool Bool Bool Bool declr_fits params_fit spec_fits tree_fits enumr_fits members_fit param_fits type_name_fits (one.Attr a)

pub tree-Call : (f : At Tree) (es : List (At Tree)) → fits (tree.Call f es) ≡ (fits f.node && each_fits fits es)
unfolding fits declr_in_range params_in_range spec_in_range enumr_in_range members_in_range param_in_range type_name_in_range
tree-Call f es = ap fits (sym (tree_rolls.rolls-Call f es)) ∙ fold-roll-Tree Bool Bool Bool Bool Bool Bool Bool Bool declr_fits params_fit spec_fits tree_fits enumr_fits members_fit param_fits type_name_fits (one.Call f es) ∙ ap (λ b. fits f.node && b) (each-mapped fits es)

pub declr-Array : (d : At Declr) (n : At Tree) → declr_in_range (declr.Array d (Some n)) ≡ (declr_in_range d.node && fits n.node)
unfolding fits declr_in_range params_in_range spec_in_range enumr_in_range members_in_range param_in_range type_name_in_range
declr-Array d n = ap declr_in_range (sym (declr_rolls.rolls-Array d (Some n))) ∙ fold-roll-Declr Bool Bool Bool Bool Bool Bool Bool Bool declr_fits params_fit spec_fits tree_fits enumr_fits members_fit param_fits type_name_fits (one.Array d (Some n))

pub declr-OpenArray : (d : At Declr) → declr_in_range (declr.Array d None) ≡ (declr_in_range d.node && true)
unfolding fits declr_in_range params_in_range spec_in_range enumr_in_range members_in_range param_in_range type_name_in_range
declr-OpenArray d = ap declr_in_range (sym (declr_rolls.rolls-Array d None)) ∙ fold-roll-Declr Bool Bool Bool Bool Bool Bool Bool Bool declr_fits params_fit spec_fits tree_fits enumr_fits members_fit param_fits type_name_fits (one.Array d None)

pub params-Many : (ps : List (At Param)) → params_in_range (params.Many ps) ≡ each_fits param_in_range ps
unfolding fits declr_in_range params_in_range spec_in_range enumr_in_range members_in_range param_in_range type_name_in_range
params-Many ps = ap params_in_range (sym (params_rolls.rolls-Many ps)) ∙ fold-roll-Params Bool Bool Bool Bool Bool Bool Bool Bool declr_fits params_fit spec_fits tree_fits enumr_fits members_fit param_fits type_name_fits (one.Many ps) ∙ each-mapped param_in_range ps

pub spec-Struct : (x : Option Name) (ms : List (At MemberDecl)) (a b : List (At Attr)) → spec_in_range (spec.Struct x (Some ms) a b) ≡ each_fits members_in_range ms
unfolding fits declr_in_range params_in_range spec_in_range enumr_in_range members_in_range param_in_range type_name_in_range
spec-Struct x ms a b = ap spec_in_range (sym (spec_rolls.rolls-Struct x (Some ms) a b)) ∙ fold-roll-Spec Bool Bool Bool Bool Bool Bool Bool Bool declr_fits params_fit spec_fits tree_fits enumr_fits members_fit param_fits type_name_fits (one.Struct x (Some ms) a b) ∙ each-mapped members_in_range ms

pub spec-NamedStruct : (x : Option Name) (a b : List (At Attr)) → spec_in_range (spec.Struct x None a b) ≡ true
unfolding fits declr_in_range params_in_range spec_in_range enumr_in_range members_in_range param_in_range type_name_in_range
spec-NamedStruct x a b = ap spec_in_range (sym (spec_rolls.rolls-Struct x None a b)) ∙ fold-roll-Spec Bool Bool Bool Bool Bool Bool Bool Bool declr_fits params_fit spec_fits tree_fits enumr_fits members_fit param_fits type_name_fits (one.Struct x None a b)

pub spec-Enum : (x : Option Name) (es : List (At Enumr)) → spec_in_range (spec.Enum x (Some es)) ≡ each_fits enumr_in_range es
unfolding fits declr_in_range params_in_range spec_in_range enumr_in_range members_in_range param_in_range type_name_in_range
spec-Enum x es = ap spec_in_range (sym (spec_rolls.rolls-Enum x (Some es))) ∙ fold-roll-Spec Bool Bool Bool Bool Bool Bool Bool Bool declr_fits params_fit spec_fits tree_fits enumr_fits members_fit param_fits type_name_fits (one.Enum x (Some es)) ∙ each-mapped enumr_in_range es

pub spec-NamedEnum : (x : Option Name) → spec_in_range (spec.Enum x None) ≡ true
unfolding fits declr_in_range params_in_range spec_in_range enumr_in_range members_in_range param_in_range type_name_in_range
spec-NamedEnum x = ap spec_in_range (sym (spec_rolls.rolls-Enum x None)) ∙ fold-roll-Spec Bool Bool Bool Bool Bool Bool Bool Bool declr_fits params_fit spec_fits tree_fits enumr_fits members_fit param_fits type_name_fits (one.Enum x None)

both_mapped : {A C : Type 0} (test : A → Bool) (other : C → Bool) (xs : List (At A)) (ys : List (At C)) →
    (all_fit (map (λ (x : At A). record { at = x.at; node = test x.node }) xs) && all_fit (map (λ (y : At C). record { at = y.at; node = other y.node }) ys)) ≡ (each_fits test xs && each_fits other ys)
both_mapped test other xs ys = ap (λ b. b && all_fit (map (λ y. record { at = y.at; node = other y.node }) ys)) (each-mapped test xs) ∙ ap (λ b. each_fits test xs && b) (each-mapped other ys)

pub type_name-is : (specs : List (At Spec)) (d : At Declr) → type_name_in_range (record { specs = specs; declr = d }) ≡ (each_fits spec_in_range specs && declr_in_range d.node)
unfolding fits declr_in_range params_in_range spec_in_range enumr_in_range members_in_range param_in_range type_name_in_range
type_name-is specs d = fold-roll-TypeName Bool Bool Bool Bool Bool Bool Bool Bool declr_fits params_fit spec_fits tree_fits enumr_fits members_fit param_fits type_name_fits (record { specs = specs; declr = d }) ∙ ap (λ b. b && declr_in_range d.node) (each-mapped spec_in_range specs)

pub param-is : (specs : List (At Spec)) (d : At Declr) → param_in_range (record { specs = specs; declr = d }) ≡ (each_fits spec_in_range specs && declr_in_range d.node)
unfolding fits declr_in_range params_in_range spec_in_range enumr_in_range members_in_range param_in_range type_name_in_range
param-is specs d = fold-roll-Param Bool Bool Bool Bool Bool Bool Bool Bool declr_fits params_fit spec_fits tree_fits enumr_fits members_fit param_fits type_name_fits (record { specs = specs; declr = d }) ∙ ap (λ b. b && declr_in_range d.node) (each-mapped spec_in_range specs)

pub members-is : (specs : List (At Spec)) (ds : List (At Declr)) → members_in_range (record { specs = specs; declrs = ds }) ≡ (each_fits spec_in_range specs && each_fits declr_in_range ds)
unfolding fits declr_in_range params_in_range spec_in_range enumr_in_range members_in_range param_in_range type_name_in_range
members-is specs ds = fold-roll-MemberDecl Bool Bool Bool Bool Bool Bool Bool Bool declr_fits params_fit spec_fits tree_fits enumr_fits members_fit param_fits type_name_fits (record { specs = specs; declrs = ds }) ∙ both_mapped spec_in_range declr_in_range specs ds

pub enumr-none : (x : Name) → enumr_in_range (record { name = x; value = None }) ≡ true
unfolding fits declr_in_range params_in_range spec_in_range enumr_in_range members_in_range param_in_range type_name_in_range
enumr-none x = fold-roll-Enumr Bool Bool Bool Bool Bool Bool Bool Bool declr_fits params_fit spec_fits tree_fits enumr_fits members_fit param_fits type_name_fits (record { name = x; value = None })

pub enumr-some : (x : Name) (e : At Tree) → enumr_in_range (record { name = x; value = Some e }) ≡ fits e.node
unfolding fits declr_in_range params_in_range spec_in_range enumr_in_range members_in_range param_in_range type_name_in_range
enumr-some x e = fold-roll-Enumr Bool Bool Bool Bool Bool Bool Bool Bool declr_fits params_fit spec_fits tree_fits enumr_fits members_fit param_fits type_name_fits (record { name = x; value = Some e })

-- ---- initialisers and statements

pub given-One : (e : At Tree) → given_in_range (given.One e) ≡ fits e.node
unfolding given_in_range
given-One e = ap given_in_range (sym (given_rolls.rolls-One e)) ∙ fold-roll-Given Bool given_fits (one_given.One e)

pub given-Many : (gs : List (At Given)) → given_in_range (given.Many gs) ≡ each_fits given_in_range gs
unfolding given_in_range
given-Many gs = ap given_in_range (sym (given_rolls.rolls-Many gs)) ∙ fold-roll-Given Bool given_fits (one_given.Many gs) ∙ each-mapped given_in_range gs

pub line-Block : (ls : List (At Line)) → line_in_range (line.Block ls) ≡ each_fits line_in_range ls
unfolding line_in_range
line-Block ls = ap line_in_range (sym (line_rolls.rolls-Block ls)) ∙ fold-roll-Line Bool line_fits (one_line.Block ls) ∙ each-mapped line_in_range ls

pub line-Decl : (d : Decl) → line_in_range (line.Decl d) ≡ decl_fits d
unfolding line_in_range
line-Decl d = ap line_in_range (sym (line_rolls.rolls-Decl d)) ∙ fold-roll-Line Bool line_fits (one_line.Decl d)

pub line-Expr : (e : Option (At Tree)) → line_in_range (line.Expr e) ≡ part_fits fits e
unfolding line_in_range
line-Expr e = ap line_in_range (sym (line_rolls.rolls-Expr e)) ∙ fold-roll-Line Bool line_fits (one_line.Expr e)

pub line-While : (e : At Tree) → (a : At Line) → line_in_range (line.While e a) ≡ (fits e.node && line_in_range a.node)
unfolding line_in_range
line-While e a = ap line_in_range (sym (line_rolls.rolls-While e a)) ∙ fold-roll-Line Bool line_fits (one_line.While e a)

pub line-DoWhile : (a : At Line) → (e : At Tree) → line_in_range (line.DoWhile a e) ≡ (fits e.node && line_in_range a.node)
unfolding line_in_range
line-DoWhile a e = ap line_in_range (sym (line_rolls.rolls-DoWhile a e)) ∙ fold-roll-Line Bool line_fits (one_line.DoWhile a e)

pub line-For : (f : First) → (t : Option (At Tree)) → (n : Option (At Tree)) → (a : At Line) → line_in_range (line.For f t n a) ≡ (first_fits f && (part_fits fits t && (part_fits fits n && line_in_range a.node)))
unfolding line_in_range
line-For f t n a = ap line_in_range (sym (line_rolls.rolls-For f t n a)) ∙ fold-roll-Line Bool line_fits (one_line.For f t n a)

pub line-Switch : (e : At Tree) → (a : At Line) → line_in_range (line.Switch e a) ≡ (fits e.node && line_in_range a.node)
unfolding line_in_range
line-Switch e a = ap line_in_range (sym (line_rolls.rolls-Switch e a)) ∙ fold-roll-Line Bool line_fits (one_line.Switch e a)

pub line-Case : (e : At Tree) → (a : At Line) → line_in_range (line.Case e a) ≡ (fits e.node && line_in_range a.node)
unfolding line_in_range
line-Case e a = ap line_in_range (sym (line_rolls.rolls-Case e a)) ∙ fold-roll-Line Bool line_fits (one_line.Case e a)

pub line-Default : (a : At Line) → line_in_range (line.Default a) ≡ line_in_range a.node
unfolding line_in_range
line-Default a = ap line_in_range (sym (line_rolls.rolls-Default a)) ∙ fold-roll-Line Bool line_fits (one_line.Default a)

pub line-Break : line_in_range line.Break ≡ true
unfolding line_in_range
line-Break = ap line_in_range (sym line_rolls.rolls-Break) ∙ fold-roll-Line Bool line_fits one_line.Break

pub line-Continue : line_in_range line.Continue ≡ true
unfolding line_in_range
line-Continue = ap line_in_range (sym line_rolls.rolls-Continue) ∙ fold-roll-Line Bool line_fits one_line.Continue

pub line-Return : (e : Option (At Tree)) → line_in_range (line.Return e) ≡ part_fits fits e
unfolding line_in_range
line-Return e = ap line_in_range (sym (line_rolls.rolls-Return e)) ∙ fold-roll-Line Bool line_fits (one_line.Return e)

pub line-If : (e : At Tree) (a : At Line) → line_in_range (line.If e a None) ≡ (fits e.node && (line_in_range a.node && true))
unfolding line_in_range
line-If e a = ap line_in_range (sym (line_rolls.rolls-If e a None)) ∙ fold-roll-Line Bool line_fits (one_line.If e a None)

pub line-IfElse : (e : At Tree) (a b : At Line) → line_in_range (line.If e a (Some b)) ≡ (fits e.node && (line_in_range a.node && line_in_range b.node))
unfolding line_in_range
line-IfElse e a b = ap line_in_range (sym (line_rolls.rolls-If e a (Some b))) ∙ fold-roll-Line Bool line_fits (one_line.If e a (Some b))
