-- Whether the names of a construct may name something, a variant at a time.
use Rattle.std.proofs.Common.{◌≡◌, ℕ, Bool, true, false, ◌&&◌, List, [], ◌∷◌, ◌++◌, map, Option, Some, None, refl, ap, sym, ◌∙◌}
use Rattle.std.specs.List.{list_all}
use Rattle.std.proofs.lemmas.List.Folds.{list_all-append}
use Rattle.cc_type.specs.CcLex.declared.token.Mark.{Mark}
use Rattle.cc_type.specs.CcLex.declared.token.Suffix.{Suffix}
use Rattle.cc_type.proofs.CcSyntax.SameLemmas.{and_true}
use Rattle.cc_program.specs.CcWords.Names.{is_name}
use Rattle.cc_program.specs.CcWords.declared.word.Word.{Word}
use Rattle.cc_tree.specs.Tokens.{Name}
use Rattle.cc_tree.specs.declared.at.At.{At}
use Rattle.cc_tree.specs.declared.tree.Attr.{Attr}
use Rattle.cc_tree.specs.declared.tree.Declr as declr
use Rattle.cc_tree.specs.declared.tree.Declr.{Declr, fold-roll-Declr}
use Rattle.cc_tree.specs.declared.tree.Declr.TheVariants as declr_rolls
use Rattle.cc_tree.specs.declared.tree.Declr.TheOpen as one
use Rattle.cc_tree.specs.declared.tree.Enumr.{Enumr, fold-roll-Enumr}
use Rattle.cc_tree.specs.declared.tree.MemberDecl.{MemberDecl, fold-roll-MemberDecl}
use Rattle.cc_tree.specs.declared.tree.Param.{Param, fold-roll-Param}
use Rattle.cc_tree.specs.declared.tree.Params as params
use Rattle.cc_tree.specs.declared.tree.Params.{Params, fold-roll-Params}
use Rattle.cc_tree.specs.declared.tree.Params.TheVariants as params_rolls
use Rattle.cc_tree.specs.declared.tree.Spec as spec
use Rattle.cc_tree.specs.declared.tree.Spec.{Spec, fold-roll-Spec}
use Rattle.cc_tree.specs.declared.tree.Spec.TheVariants as spec_rolls
use Rattle.cc_tree.specs.declared.tree.Tree as tree
use Rattle.cc_tree.specs.declared.tree.Tree.{Tree, fold-roll-Tree}
use Rattle.cc_tree.specs.declared.tree.Tree.TheVariants as tree_rolls
use Rattle.cc_tree.specs.declared.tree.TypeName.{TypeName, fold-roll-TypeName}
use Rattle.cc_tree.specs.declared.unit.Decl.{Decl}
use Rattle.cc_tree.specs.declared.unit.First.{First}
use Rattle.cc_tree.specs.declared.unit.Given as given
use Rattle.cc_tree.specs.declared.unit.Given.{Given, fold-roll-Given}
use Rattle.cc_tree.specs.declared.unit.Given.TheOpen as one_given
use Rattle.cc_tree.specs.declared.unit.Given.TheVariants as given_rolls
use Rattle.cc_tree.specs.declared.unit.Line as line
use Rattle.cc_tree.specs.declared.unit.Line.{Line, fold-roll-Line}
use Rattle.cc_tree.specs.declared.unit.Line.TheOpen as one_line
use Rattle.cc_tree.specs.declared.unit.Line.TheVariants as line_rolls
use Rattle.cc_named_units.specs.Names.{HasNames, all_named, one_or_more, content_named, tag_named, declr_names, params_names, spec_names, tree_names, enumr_names, is_member_named, members_names, param_names, type_name_names, tree_named, declr_named, params_named, spec_named, enumr_named, members_named, param_named, type_name_named, each_named, maybe_named, member_named, given_names, given_named, decl_named, first_named, line_names, line_named}

-- ---- lists

pub each_more : {A : Type 0} (test : A → Bool) (xs : List (At A)) (x : At A) → each_named test xs ≡ true → test x.node ≡ true → each_named test (xs ++ x ∷ []) ≡ true
each_more test xs x h k =
    list_all-append (λ x. test x.node) xs (x ∷ []) ∙ and_true (each_named test xs) (each_named test (x ∷ [])) h (and_true (test x.node) true k refl)

pub each_one : {A : Type 0} (test : A → Bool) (x : At A) → test x.node ≡ true → each_named test (x ∷ []) ≡ true
each_one test x h = and_true (test x.node) true h refl

each-mapped : {A : Type 0} (test : A → Bool) (xs : List (At A)) → all_named (map (λ (x : At A). record { at = x.at; node = test x.node }) xs) ≡ each_named test xs
each-mapped test [] = refl
each-mapped test (x ∷ xs) = ap (λ b. test x.node && b) (each-mapped test xs)

abbrev members_named_at : At MemberDecl → At Bool
members_named_at x = record { at = x.at; node = members_named x.node }

abbrev declr_named_at : At Declr → At HasNames
declr_named_at x = record { at = x.at; node = declr_named x.node }

members-mapped : (xs : List (At Declr)) → list_all is_member_named (map (λ (x : At Declr). record { at = x.at; node = declr_named x.node }) xs) ≡ each_named member_named xs
members-mapped [] = refl
members-mapped (x ∷ xs) = ap (λ b. member_named x.node && b) (members-mapped xs)

pub one-mapped : {A B : Type 0} (f : A → B) (xs : List A) → one_or_more (map f xs) ≡ one_or_more xs
one-mapped f [] = refl
one-mapped f (x ∷ xs) = refl

pub one_behind : {A : Type 0} (xs : List A) (x : A) → one_or_more (xs ++ x ∷ []) ≡ true
one_behind [] x = refl
one_behind (y ∷ xs) x = refl

-- ---- variants

pub tree-Named : (x : Name) → tree_named (tree.Named x) ≡ true
unfolding tree_named declr_named params_named spec_named enumr_named members_named param_named type_name_named
tree-Named x = ap tree_named (sym (tree_rolls.rolls-Named x)) ∙ fold-roll-Tree HasNames Bool Bool Bool Bool Bool Bool Bool declr_names params_names spec_names tree_names enumr_names members_names param_names type_name_names (one.Tree::Named x)

pub tree-Number : (n : ℕ) → (f : Suffix) → tree_named (tree.Number n f) ≡ true
unfolding tree_named declr_named params_named spec_named enumr_named members_named param_named type_name_named
tree-Number n f = ap tree_named (sym (tree_rolls.rolls-Number n f)) ∙ fold-roll-Tree HasNames Bool Bool Bool Bool Bool Bool Bool declr_names params_names spec_names tree_names enumr_names members_names param_names type_name_names (one.Number n f)

pub tree-Character : (c : ℕ) → tree_named (tree.Character c) ≡ true
unfolding tree_named declr_named params_named spec_named enumr_named members_named param_named type_name_named
tree-Character c = ap tree_named (sym (tree_rolls.rolls-Character c)) ∙ fold-roll-Tree HasNames Bool Bool Bool Bool Bool Bool Bool declr_names params_names spec_names tree_names enumr_names members_names param_names type_name_names (one.Character c)

pub tree-Text : (b : List ℕ) → tree_named (tree.Text b) ≡ true
unfolding tree_named declr_named params_named spec_named enumr_named members_named param_named type_name_named
tree-Text b = ap tree_named (sym (tree_rolls.rolls-Text b)) ∙ fold-roll-Tree HasNames Bool Bool Bool Bool Bool Bool Bool declr_names params_names spec_names tree_names enumr_names members_names param_names type_name_names (one.Text b)

pub tree-Paren : (e : At Tree) → tree_named (tree.Paren e) ≡ tree_named e.node
unfolding tree_named declr_named params_named spec_named enumr_named members_named param_named type_name_named
tree-Paren e = ap tree_named (sym (tree_rolls.rolls-Paren e)) ∙ fold-roll-Tree HasNames Bool Bool Bool Bool Bool Bool Bool declr_names params_names spec_names tree_names enumr_names members_names param_names type_name_names (one.Tree::Paren e)

pub tree-Comma : (a : At Tree) → (b : At Tree) → tree_named (tree.Comma a b) ≡ (tree_named a.node && tree_named b.node)
unfolding tree_named declr_named params_named spec_named enumr_named members_named param_named type_name_named
tree-Comma a b = ap tree_named (sym (tree_rolls.rolls-Comma a b)) ∙ fold-roll-Tree HasNames Bool Bool Bool Bool Bool Bool Bool declr_names params_names spec_names tree_names enumr_names members_names param_names type_name_names (one.Comma a b)

pub tree-Assign : (o : Mark) → (a : At Tree) → (b : At Tree) → tree_named (tree.Assign o a b) ≡ (tree_named a.node && tree_named b.node)
unfolding tree_named declr_named params_named spec_named enumr_named members_named param_named type_name_named
tree-Assign o a b = ap tree_named (sym (tree_rolls.rolls-Assign o a b)) ∙ fold-roll-Tree HasNames Bool Bool Bool Bool Bool Bool Bool declr_names params_names spec_names tree_names enumr_names members_names param_names type_name_names (one.Assign o a b)

pub tree-Choose : (c : At Tree) → (a : At Tree) → (b : At Tree) → tree_named (tree.Choose c a b) ≡ (tree_named c.node && (tree_named a.node && tree_named b.node))
unfolding tree_named declr_named params_named spec_named enumr_named members_named param_named type_name_named
tree-Choose c a b = ap tree_named (sym (tree_rolls.rolls-Choose c a b)) ∙ fold-roll-Tree HasNames Bool Bool Bool Bool Bool Bool Bool declr_names params_names spec_names tree_names enumr_names members_names param_names type_name_names (one.Choose c a b)

pub tree-Binary : (o : Mark) → (a : At Tree) → (b : At Tree) → tree_named (tree.Binary o a b) ≡ (tree_named a.node && tree_named b.node)
unfolding tree_named declr_named params_named spec_named enumr_named members_named param_named type_name_named
tree-Binary o a b = ap tree_named (sym (tree_rolls.rolls-Binary o a b)) ∙ fold-roll-Tree HasNames Bool Bool Bool Bool Bool Bool Bool declr_names params_names spec_names tree_names enumr_names members_names param_names type_name_names (one.Binary o a b)

pub tree-Prefix : (o : Mark) → (e : At Tree) → tree_named (tree.Prefix o e) ≡ tree_named e.node
unfolding tree_named declr_named params_named spec_named enumr_named members_named param_named type_name_named
tree-Prefix o e = ap tree_named (sym (tree_rolls.rolls-Prefix o e)) ∙ fold-roll-Tree HasNames Bool Bool Bool Bool Bool Bool Bool declr_names params_names spec_names tree_names enumr_names members_names param_names type_name_names (one.Prefix o e)

pub tree-Postfix : (e : At Tree) → (o : Mark) → tree_named (tree.Postfix e o) ≡ tree_named e.node
unfolding tree_named declr_named params_named spec_named enumr_named members_named param_named type_name_named
tree-Postfix e o = ap tree_named (sym (tree_rolls.rolls-Postfix e o)) ∙ fold-roll-Tree HasNames Bool Bool Bool Bool Bool Bool Bool declr_names params_names spec_names tree_names enumr_names members_names param_names type_name_names (one.Postfix e o)

pub tree-SizeOf : (e : At Tree) → tree_named (tree.SizeOf e) ≡ tree_named e.node
unfolding tree_named declr_named params_named spec_named enumr_named members_named param_named type_name_named
tree-SizeOf e = ap tree_named (sym (tree_rolls.rolls-SizeOf e)) ∙ fold-roll-Tree HasNames Bool Bool Bool Bool Bool Bool Bool declr_names params_names spec_names tree_names enumr_names members_names param_names type_name_names (one.SizeOf e)

pub tree-SizeOfType : (t : TypeName) → tree_named (tree.SizeOfType t) ≡ type_name_named t
unfolding tree_named declr_named params_named spec_named enumr_named members_named param_named type_name_named
tree-SizeOfType t = ap tree_named (sym (tree_rolls.rolls-SizeOfType t)) ∙ fold-roll-Tree HasNames Bool Bool Bool Bool Bool Bool Bool declr_names params_names spec_names tree_names enumr_names members_names param_names type_name_names (one.SizeOfType t)

pub tree-Extension : (e : At Tree) → tree_named (tree.Extension e) ≡ tree_named e.node
unfolding tree_named declr_named params_named spec_named enumr_named members_named param_named type_name_named
tree-Extension e = ap tree_named (sym (tree_rolls.rolls-Extension e)) ∙ fold-roll-Tree HasNames Bool Bool Bool Bool Bool Bool Bool declr_names params_names spec_names tree_names enumr_names members_names param_names type_name_names (one.Extension e)

pub tree-Cast : (t : TypeName) → (e : At Tree) → tree_named (tree.Cast t e) ≡ (type_name_named t && tree_named e.node)
unfolding tree_named declr_named params_named spec_named enumr_named members_named param_named type_name_named
tree-Cast t e = ap tree_named (sym (tree_rolls.rolls-Cast t e)) ∙ fold-roll-Tree HasNames Bool Bool Bool Bool Bool Bool Bool declr_names params_names spec_names tree_names enumr_names members_names param_names type_name_names (one.Cast t e)

pub tree-Subscript : (a : At Tree) → (i : At Tree) → tree_named (tree.Subscript a i) ≡ (tree_named a.node && tree_named i.node)
unfolding tree_named declr_named params_named spec_named enumr_named members_named param_named type_name_named
tree-Subscript a i = ap tree_named (sym (tree_rolls.rolls-Subscript a i)) ∙ fold-roll-Tree HasNames Bool Bool Bool Bool Bool Bool Bool declr_names params_names spec_names tree_names enumr_names members_names param_names type_name_names (one.Subscript a i)

pub tree-Member : (e : At Tree) → (x : Name) → tree_named (tree.Member e x) ≡ tree_named e.node
unfolding tree_named declr_named params_named spec_named enumr_named members_named param_named type_name_named
tree-Member e x = ap tree_named (sym (tree_rolls.rolls-Member e x)) ∙ fold-roll-Tree HasNames Bool Bool Bool Bool Bool Bool Bool declr_names params_names spec_names tree_names enumr_names members_names param_names type_name_names (one.Member e x)

pub tree-Arrow : (e : At Tree) → (x : Name) → tree_named (tree.Arrow e x) ≡ tree_named e.node
unfolding tree_named declr_named params_named spec_named enumr_named members_named param_named type_name_named
tree-Arrow e x = ap tree_named (sym (tree_rolls.rolls-Arrow e x)) ∙ fold-roll-Tree HasNames Bool Bool Bool Bool Bool Bool Bool declr_names params_names spec_names tree_names enumr_names members_names param_names type_name_names (one.Arrow e x)

pub declr-Nothing : declr_named declr.Nothing ≡ (true, false)
unfolding tree_named declr_named params_named spec_named enumr_named members_named param_named type_name_named
declr-Nothing = ap declr_named (sym declr_rolls.rolls-Nothing) ∙ fold-roll-Declr HasNames Bool Bool Bool Bool Bool Bool Bool declr_names params_names spec_names tree_names enumr_names members_names param_names type_name_names one.Nothing

pub declr-Named : (x : Name) → declr_named (declr.Named x) ≡ (is_name x, true)
unfolding tree_named declr_named params_named spec_named enumr_named members_named param_named type_name_named
declr-Named x = ap declr_named (sym (declr_rolls.rolls-Named x)) ∙ fold-roll-Declr HasNames Bool Bool Bool Bool Bool Bool Bool declr_names params_names spec_names tree_names enumr_names members_names param_names type_name_names (one.Declr::Named x)

pub declr-Paren : (d : At Declr) → declr_named (declr.Paren d) ≡ declr_named d.node
unfolding tree_named declr_named params_named spec_named enumr_named members_named param_named type_name_named
declr-Paren d = ap declr_named (sym (declr_rolls.rolls-Paren d)) ∙ fold-roll-Declr HasNames Bool Bool Bool Bool Bool Bool Bool declr_names params_names spec_names tree_names enumr_names members_names param_names type_name_names (one.Declr::Paren d)

pub declr-Pointer : (q : List Word) → (d : At Declr) → declr_named (declr.Pointer q d) ≡ declr_named d.node
unfolding tree_named declr_named params_named spec_named enumr_named members_named param_named type_name_named
declr-Pointer q d = ap declr_named (sym (declr_rolls.rolls-Pointer q d)) ∙ fold-roll-Declr HasNames Bool Bool Bool Bool Bool Bool Bool declr_names params_names spec_names tree_names enumr_names members_names param_names type_name_names (one.Pointer q d)

pub declr-Func : (d : At Declr) → (ps : Params) → declr_named (declr.Func d ps) ≡ ((declr_named d.node).0 && params_named ps, (declr_named d.node).1)
unfolding tree_named declr_named params_named spec_named enumr_named members_named param_named type_name_named
declr-Func d ps = ap declr_named (sym (declr_rolls.rolls-Func d ps)) ∙ fold-roll-Declr HasNames Bool Bool Bool Bool Bool Bool Bool declr_names params_names spec_names tree_names enumr_names members_names param_names type_name_names (one.Func d ps)

pub params-Empty : params_named params.Empty ≡ true
unfolding tree_named declr_named params_named spec_named enumr_named members_named param_named type_name_named
params-Empty = ap params_named (sym params_rolls.rolls-Empty) ∙ fold-roll-Params HasNames Bool Bool Bool Bool Bool Bool Bool declr_names params_names spec_names tree_names enumr_names members_names param_names type_name_names one.Empty

pub params-Void : params_named params.Void ≡ true
unfolding tree_named declr_named params_named spec_named enumr_named members_named param_named type_name_named
params-Void = ap params_named (sym params_rolls.rolls-Void) ∙ fold-roll-Params HasNames Bool Bool Bool Bool Bool Bool Bool declr_names params_names spec_names tree_names enumr_names members_names param_names type_name_names one.Void

pub spec-Word : (x : Word) → spec_named (spec.Word x) ≡ true
unfolding tree_named declr_named params_named spec_named enumr_named members_named param_named type_name_named
spec-Word x = ap spec_named (sym (spec_rolls.rolls-Word x)) ∙ fold-roll-Spec HasNames Bool Bool Bool Bool Bool Bool Bool declr_names params_names spec_names tree_names enumr_names members_names param_names type_name_names (one.Word x)

pub spec-Named : (x : Name) → spec_named (spec.Named x) ≡ true
unfolding tree_named declr_named params_named spec_named enumr_named members_named param_named type_name_named
spec-Named x = ap spec_named (sym (spec_rolls.rolls-Named x)) ∙ fold-roll-Spec HasNames Bool Bool Bool Bool Bool Bool Bool declr_names params_names spec_names tree_names enumr_names members_names param_names type_name_names (one.Spec::Named x)

pub spec-Attr : (a : Attr) → spec_named (spec.Attr a) ≡ true
unfolding tree_named declr_named params_named spec_named enumr_named members_named param_named type_name_named
spec-Attr a = ap spec_named (sym (spec_rolls.rolls-Attr a)) ∙ fold-roll-Spec HasNames Bool Bool Bool Bool Bool Bool Bool declr_names params_names spec_names tree_names enumr_names members_names param_names type_name_names (one.Attr a)

pub tree-Call : (f : At Tree) (es : List (At Tree)) → tree_named (tree.Call f es) ≡ (tree_named f.node && each_named tree_named es)
unfolding tree_named declr_named params_named spec_named enumr_named members_named param_named type_name_named
tree-Call f es = ap tree_named (sym (tree_rolls.rolls-Call f es)) ∙ fold-roll-Tree HasNames Bool Bool Bool Bool Bool Bool Bool declr_names params_names spec_names tree_names enumr_names members_names param_names type_name_names (one.Call f es) ∙ ap (λ b. tree_named f.node && b) (each-mapped tree_named es)

pub declr-Array : (d : At Declr) (n : At Tree) → declr_named (declr.Array d (Some n)) ≡ ((declr_named d.node).0 && tree_named n.node, (declr_named d.node).1)
unfolding tree_named declr_named params_named spec_named enumr_named members_named param_named type_name_named
declr-Array d n = ap declr_named (sym (declr_rolls.rolls-Array d (Some n))) ∙ fold-roll-Declr HasNames Bool Bool Bool Bool Bool Bool Bool declr_names params_names spec_names tree_names enumr_names members_names param_names type_name_names (one.Array d (Some n))

pub declr-OpenArray : (d : At Declr) → declr_named (declr.Array d None) ≡ ((declr_named d.node).0 && true, (declr_named d.node).1)
unfolding tree_named declr_named params_named spec_named enumr_named members_named param_named type_name_named
declr-OpenArray d = ap declr_named (sym (declr_rolls.rolls-Array d None)) ∙ fold-roll-Declr HasNames Bool Bool Bool Bool Bool Bool Bool declr_names params_names spec_names tree_names enumr_names members_names param_names type_name_names (one.Array d None)

pub params-Many : (ps : List (At Param)) → params_named (params.Many ps) ≡ each_named param_named ps
unfolding tree_named declr_named params_named spec_named enumr_named members_named param_named type_name_named
params-Many ps = ap params_named (sym (params_rolls.rolls-Many ps)) ∙ fold-roll-Params HasNames Bool Bool Bool Bool Bool Bool Bool declr_names params_names spec_names tree_names enumr_names members_names param_names type_name_names (one.Many ps) ∙ each-mapped param_named ps

content-mapped : (ms : List (At MemberDecl)) → content_named (Some (map members_named_at ms)) ≡ (one_or_more ms && each_named members_named ms)
content-mapped ms = ap (λ b. b && all_named (map members_named_at ms)) (one-mapped members_named_at ms) ∙ ap (λ b. one_or_more ms && b) (each-mapped members_named ms)

pub spec-Struct : (x : Option Name) (ms : List (At MemberDecl)) (a b : List (At Attr)) → spec_named (spec.Struct x (Some ms) a b) ≡ (tag_named x && (one_or_more ms && each_named members_named ms))
unfolding tree_named declr_named params_named spec_named enumr_named members_named param_named type_name_named
spec-Struct x ms a b = ap spec_named (sym (spec_rolls.rolls-Struct x (Some ms) a b)) ∙ fold-roll-Spec HasNames Bool Bool Bool Bool Bool Bool Bool declr_names params_names spec_names tree_names enumr_names members_names param_names type_name_names (one.Struct x (Some ms) a b) ∙ ap (λ c. tag_named x && c) (content-mapped ms)

pub spec-NamedStruct : (x : Option Name) (a b : List (At Attr)) → spec_named (spec.Struct x None a b) ≡ (tag_named x && true)
unfolding tree_named declr_named params_named spec_named enumr_named members_named param_named type_name_named
spec-NamedStruct x a b = ap spec_named (sym (spec_rolls.rolls-Struct x None a b)) ∙ fold-roll-Spec HasNames Bool Bool Bool Bool Bool Bool Bool declr_names params_names spec_names tree_names enumr_names members_names param_names type_name_names (one.Struct x None a b)

pub spec-Enum : (x : Option Name) (es : List (At Enumr)) → spec_named (spec.Enum x (Some es)) ≡ each_named enumr_named es
unfolding tree_named declr_named params_named spec_named enumr_named members_named param_named type_name_named
spec-Enum x es = ap spec_named (sym (spec_rolls.rolls-Enum x (Some es))) ∙ fold-roll-Spec HasNames Bool Bool Bool Bool Bool Bool Bool declr_names params_names spec_names tree_names enumr_names members_names param_names type_name_names (one.Enum x (Some es)) ∙ each-mapped enumr_named es

pub spec-NamedEnum : (x : Option Name) → spec_named (spec.Enum x None) ≡ true
unfolding tree_named declr_named params_named spec_named enumr_named members_named param_named type_name_named
spec-NamedEnum x = ap spec_named (sym (spec_rolls.rolls-Enum x None)) ∙ fold-roll-Spec HasNames Bool Bool Bool Bool Bool Bool Bool declr_names params_names spec_names tree_names enumr_names members_names param_names type_name_names (one.Enum x None)

pub type_name-is : (specs : List (At Spec)) (d : At Declr) → type_name_named (record { specs = specs; declr = d }) ≡ (each_named spec_named specs && (declr_named d.node).0)
unfolding tree_named declr_named params_named spec_named enumr_named members_named param_named type_name_named
type_name-is specs d = fold-roll-TypeName HasNames Bool Bool Bool Bool Bool Bool Bool declr_names params_names spec_names tree_names enumr_names members_names param_names type_name_names (record { specs = specs; declr = d }) ∙ ap (λ b. b && (declr_named d.node).0) (each-mapped spec_named specs)

pub param-is : (specs : List (At Spec)) (d : At Declr) → param_named (record { specs = specs; declr = d }) ≡ (each_named spec_named specs && (declr_named d.node).0)
unfolding tree_named declr_named params_named spec_named enumr_named members_named param_named type_name_named
param-is specs d = fold-roll-Param HasNames Bool Bool Bool Bool Bool Bool Bool declr_names params_names spec_names tree_names enumr_names members_names param_names type_name_names (record { specs = specs; declr = d }) ∙ ap (λ b. b && (declr_named d.node).0) (each-mapped spec_named specs)

declrs-mapped : (ds : List (At Declr)) → (one_or_more (map declr_named_at ds) && list_all is_member_named (map declr_named_at ds)) ≡ (one_or_more ds && each_named member_named ds)
declrs-mapped ds = ap (λ b. b && list_all is_member_named (map declr_named_at ds)) (one-mapped declr_named_at ds) ∙ ap (λ b. one_or_more ds && b) (members-mapped ds)

pub members-is : (specs : List (At Spec)) (ds : List (At Declr)) → members_named (record { specs = specs; declrs = ds }) ≡ (each_named spec_named specs && (one_or_more ds && each_named member_named ds))
unfolding tree_named declr_named params_named spec_named enumr_named members_named param_named type_name_named
members-is specs ds =
    fold-roll-MemberDecl HasNames Bool Bool Bool Bool Bool Bool Bool declr_names params_names spec_names tree_names enumr_names members_names param_names type_name_names (record { specs = specs; declrs = ds })
    ∙ ap (λ b. b && (one_or_more (map declr_named_at ds) && list_all is_member_named (map declr_named_at ds))) (each-mapped spec_named specs) ∙ ap (λ b. each_named spec_named specs && b) (declrs-mapped ds)

pub enumr-none : (x : Name) → enumr_named (record { name = x; value = None }) ≡ true
unfolding tree_named declr_named params_named spec_named enumr_named members_named param_named type_name_named
enumr-none x = fold-roll-Enumr HasNames Bool Bool Bool Bool Bool Bool Bool declr_names params_names spec_names tree_names enumr_names members_names param_names type_name_names (record { name = x; value = None })

pub enumr-some : (x : Name) (e : At Tree) → enumr_named (record { name = x; value = Some e }) ≡ tree_named e.node
unfolding tree_named declr_named params_named spec_named enumr_named members_named param_named type_name_named
enumr-some x e = fold-roll-Enumr HasNames Bool Bool Bool Bool Bool Bool Bool declr_names params_names spec_names tree_names enumr_names members_names param_names type_name_names (record { name = x; value = Some e })

-- ---- initialisers and statements

pub given-One : (e : At Tree) → given_named (given.One e) ≡ tree_named e.node
unfolding given_named
given-One e = ap given_named (sym (given_rolls.rolls-One e)) ∙ fold-roll-Given Bool given_names (one_given.One e)

pub given-Many : (gs : List (At Given)) → given_named (given.Many gs) ≡ each_named given_named gs
unfolding given_named
given-Many gs = ap given_named (sym (given_rolls.rolls-Many gs)) ∙ fold-roll-Given Bool given_names (one_given.Many gs) ∙ each-mapped given_named gs

pub line-Block : (ls : List (At Line)) → line_named (line.Block ls) ≡ each_named line_named ls
unfolding line_named
line-Block ls = ap line_named (sym (line_rolls.rolls-Block ls)) ∙ fold-roll-Line Bool line_names (one_line.Block ls) ∙ each-mapped line_named ls

pub line-Decl : (d : Decl) → line_named (line.Decl d) ≡ decl_named d
unfolding line_named
line-Decl d = ap line_named (sym (line_rolls.rolls-Decl d)) ∙ fold-roll-Line Bool line_names (one_line.Decl d)

pub line-Expr : (e : Option (At Tree)) → line_named (line.Expr e) ≡ maybe_named tree_named e
unfolding line_named
line-Expr e = ap line_named (sym (line_rolls.rolls-Expr e)) ∙ fold-roll-Line Bool line_names (one_line.Expr e)

pub line-While : (e : At Tree) → (a : At Line) → line_named (line.While e a) ≡ (tree_named e.node && line_named a.node)
unfolding line_named
line-While e a = ap line_named (sym (line_rolls.rolls-While e a)) ∙ fold-roll-Line Bool line_names (one_line.While e a)

pub line-DoWhile : (a : At Line) → (e : At Tree) → line_named (line.DoWhile a e) ≡ (tree_named e.node && line_named a.node)
unfolding line_named
line-DoWhile a e = ap line_named (sym (line_rolls.rolls-DoWhile a e)) ∙ fold-roll-Line Bool line_names (one_line.DoWhile a e)

pub line-For : (f : First) → (t : Option (At Tree)) → (n : Option (At Tree)) → (a : At Line) → line_named (line.For f t n a) ≡ (first_named f && (maybe_named tree_named t && (maybe_named tree_named n && line_named a.node)))
unfolding line_named
line-For f t n a = ap line_named (sym (line_rolls.rolls-For f t n a)) ∙ fold-roll-Line Bool line_names (one_line.For f t n a)

pub line-Switch : (e : At Tree) → (a : At Line) → line_named (line.Switch e a) ≡ (tree_named e.node && line_named a.node)
unfolding line_named
line-Switch e a = ap line_named (sym (line_rolls.rolls-Switch e a)) ∙ fold-roll-Line Bool line_names (one_line.Switch e a)

pub line-Case : (e : At Tree) → (a : At Line) → line_named (line.Case e a) ≡ (tree_named e.node && line_named a.node)
unfolding line_named
line-Case e a = ap line_named (sym (line_rolls.rolls-Case e a)) ∙ fold-roll-Line Bool line_names (one_line.Case e a)

pub line-Default : (a : At Line) → line_named (line.Default a) ≡ line_named a.node
unfolding line_named
line-Default a = ap line_named (sym (line_rolls.rolls-Default a)) ∙ fold-roll-Line Bool line_names (one_line.Default a)

pub line-Break : line_named line.Break ≡ true
unfolding line_named
line-Break = ap line_named (sym line_rolls.rolls-Break) ∙ fold-roll-Line Bool line_names one_line.Break

pub line-Continue : line_named line.Continue ≡ true
unfolding line_named
line-Continue = ap line_named (sym line_rolls.rolls-Continue) ∙ fold-roll-Line Bool line_names one_line.Continue

pub line-Return : (e : Option (At Tree)) → line_named (line.Return e) ≡ maybe_named tree_named e
unfolding line_named
line-Return e = ap line_named (sym (line_rolls.rolls-Return e)) ∙ fold-roll-Line Bool line_names (one_line.Return e)

pub line-If : (e : At Tree) (a : At Line) → line_named (line.If e a None) ≡ (tree_named e.node && (line_named a.node && true))
unfolding line_named
line-If e a = ap line_named (sym (line_rolls.rolls-If e a None)) ∙ fold-roll-Line Bool line_names (one_line.If e a None)

pub line-IfElse : (e : At Tree) (a b : At Line) → line_named (line.If e a (Some b)) ≡ (tree_named e.node && (line_named a.node && line_named b.node))
unfolding line_named
line-IfElse e a b = ap line_named (sym (line_rolls.rolls-If e a (Some b))) ∙ fold-roll-Line Bool line_names (one_line.If e a (Some b))
