-- A twin of the code: the machine's turns on specifiers, declarators and type names (C99 6.7.2 to 6.7.6).
use Rattle.std.specs.Prelude.{ℕ, suc, Bool, true, false, ◌&&◌, ◌||◌, not, List, [], ◌∷◌, ◌++◌, Option, Some, None, max}
use Rattle.cc_lex.specs.declared.token.Kind.{Kind}
use Rattle.cc_lex.specs.declared.token.Kind.TheVariants as kind
use Rattle.cc_lex.specs.declared.token.Mark.{Mark}
use Rattle.cc_lex.specs.declared.token.Mark.TheVariants as m
use Rattle.cc_words.specs.declared.word.Word.{Word}
use Rattle.cc_words.specs.declared.word.Word.TheVariants as w
use Rattle.cc_tree.specs.declared.at.At.{At}
use Rattle.cc_tree.specs.declared.state.Control.TheVariants as control
use Rattle.cc_tree.specs.declared.state.DeclrFrame.TheVariants as for_declr
use Rattle.cc_tree.specs.declared.state.Enumeration.{Enumeration}
use Rattle.cc_tree.specs.declared.state.Frame.TheVariants as frame
use Rattle.cc_tree.specs.declared.state.Function.{Function}
use Rattle.cc_tree.specs.declared.state.Members.{Members}
use Rattle.cc_tree.specs.declared.state.PartFrame.TheVariants as for_part
use Rattle.cc_tree.specs.declared.state.SpecsFrame.TheVariants as for_specs
use Rattle.cc_tree.specs.declared.state.Structure.{Structure}
use Rattle.cc_tree.specs.declared.state.Tall.{Tall}
use Rattle.cc_tree.specs.declared.state.TreeFrame.TheVariants as for_tree
use Rattle.cc_tree.specs.declared.state.Use.{Use}
use Rattle.cc_tree.specs.declared.state.Use.TheVariants as used
use Rattle.cc_tree.specs.declared.tree.Attr.{Attr}
use Rattle.cc_tree.specs.declared.tree.Declr as declr
use Rattle.cc_tree.specs.declared.tree.Declr.{Declr}
use Rattle.cc_tree.specs.declared.tree.MemberDecl.{MemberDecl}
use Rattle.cc_tree.specs.declared.tree.Param.{Param}
use Rattle.cc_tree.specs.declared.tree.Params as params
use Rattle.cc_tree.specs.declared.tree.Params.{Params}
use Rattle.cc_tree.specs.declared.tree.Spec as spec
use Rattle.cc_tree.specs.declared.tree.Spec.{Spec}
use Rattle.cc_tree.specs.declared.tree.Tree as tree
use Rattle.cc_tree.specs.declared.tree.Tree.{Tree}
use Rattle.cc_tree.specs.declared.tree.TypeName.{TypeName}
use Rattle.cc_tree.specs.Operators.{cast_level, unary_level, conditional_level}
use Rattle.cc_tree.specs.Reading.{◌>>=◌, wrong, after, eat, first_mark, name, begins_with}
use Rattle.cc_tree.specs.ReadTypes.{begins_spec, attr, attrs, qualifiers, tag}
use Rattle.cc_tree.specs.Scopes.{Scope, is_typedef}
use Rattle.cc_tree.specs.Terms.{is_spec_word, have_word, is_attr, ends_structure, is_only_void}
use Rattle.cc_tree.specs.Tokens.{Tokens, Name, offset}
use Rattle.cc_tree.specs.Turns.{Turn, on, opens, made, tall}

abbrev pub Specs : Type 0
Specs = Tall (List (At Spec))

-- specifiers

-- goes on behind one specifier more
abbrev pub behind_spec : List (At Spec) → ℕ → Spec → ℕ → Tokens → Turn
behind_spec specs n s height ts = on (control.Specs (tall (specs ++ record { at = n; node = s } ∷ []) height)) ts

abbrev pub open_structure : Specs → ℕ → Option Name → List (At Attr) → Tokens → Turn
open_structure specs n x a ts =
    on (control.Structure (record { outer = specs.node; at = n; tag = x; attrs = a; members = []; height = specs.height })) ts

-- a structure without members, which has a name and no attributes in front of it
abbrev pub named_structure : Specs → ℕ → Option Name → List (At Attr) → Tokens → Turn
named_structure specs n (Some x) [] ts = behind_spec specs.node n (spec.Struct (Some x) None [] []) specs.height ts
named_structure specs n _ _ ts = wrong ts

abbrev pub structure_at : Specs → ℕ → Option Name → List (At Attr) → Tokens → Option Tokens → Turn
structure_at specs n x a ts (Some us) = open_structure specs n x a us
structure_at specs n x a ts None = named_structure specs n x a ts

-- behind `struct`
abbrev pub structure_spec : Specs → ℕ → Tokens → Turn
structure_spec specs n ts = attrs ts >>= λ a. structure_at specs n (tag a.1).0 a.0 (tag a.1).1 (after m.LBrace (tag a.1).1)

abbrev pub named_enumeration : Specs → ℕ → Option Name → Tokens → Turn
named_enumeration specs n (Some x) ts = behind_spec specs.node n (spec.Enum (Some x) None) specs.height ts
named_enumeration specs n None ts = wrong ts

abbrev pub enumeration_at : Specs → ℕ → Option Name → Tokens → Option Tokens → Turn
enumeration_at specs n x ts (Some us) = on (control.Enumr (record { outer = specs.node; at = n; tag = x; enumrs = []; height = specs.height })) us
enumeration_at specs n x ts None = named_enumeration specs n x ts

-- behind `enum`
abbrev pub enumeration_spec : Specs → ℕ → Tokens → Turn
enumeration_spec specs n ts = enumeration_at specs n (tag ts).0 (tag ts).1 (after m.LBrace (tag ts).1)

abbrev pub attr_spec : Specs → Tokens → Turn
attr_spec specs all = attr all >>= λ a. behind_spec specs.node a.0.at (spec.Attr a.0.node) specs.height a.1

-- whether no attribute stands right behind a structure's brace; the flag says that one stands in front
abbrev pub attrs_apart : Bool → List (At Spec) → Bool
attrs_apart behind_brace [] = true
attrs_apart behind_brace (s ∷ ss) = not (behind_brace && is_attr s.node) && attrs_apart (ends_structure s.node) ss

-- specifiers end here; they have a word other than `__extension__`, and no attribute right behind a brace
abbrev pub end_specs : Specs → Tokens → Bool → Turn
end_specs specs ts true = on (control.HaveSpecs specs) ts
end_specs specs ts false = wrong ts

abbrev pub specs_done : Specs → Tokens → Turn
specs_done specs ts = end_specs specs ts (have_word specs.node && attrs_apart false specs.node)

abbrev pub specs_plain : Specs → Tokens → Tokens → ℕ → Word → Bool → Turn
specs_plain specs all ts n x true = behind_spec specs.node n (spec.Word x) specs.height ts
specs_plain specs all ts n x false = specs_done specs all

abbrev pub specs_word : Specs → Tokens → Tokens → ℕ → Word → Turn
specs_word specs all ts n w.Struct = structure_spec specs n ts
specs_word specs all ts n w.Enum = enumeration_spec specs n ts
specs_word specs all ts n w.Attribute = attr_spec specs all
specs_word specs all ts n x = specs_plain specs all ts n x (is_spec_word x)

abbrev pub specs_name : Specs → Tokens → Tokens → ℕ → Name → Bool → Turn
specs_name specs all ts n x true = behind_spec specs.node n (spec.Named x) specs.height ts
specs_name specs all ts n x false = specs_done specs all

abbrev pub specs_at : Scope → Specs → Tokens → Tokens → ℕ → Kind → Turn
specs_at scope specs all ts n (kind.Keyword x) = specs_word specs all ts n x
specs_at scope specs all ts n (kind.Ident x) = specs_name specs all ts n x (is_typedef scope x)
specs_at scope specs all ts n _ = specs_done specs all

-- a specifier behind these
unfoldable pub specifiers : Scope → Specs → Tokens → Turn
specifiers scope specs [] = specs_done specs []
specifiers scope specs (t ∷ ts) = specs_at scope specs (t ∷ ts) ts t.at t.kind

-- members

abbrev pub no_member : List (At MemberDecl) → Bool
no_member [] = true
no_member (d ∷ ds) = false

abbrev pub close_structure : Structure → Tokens → Tokens → Bool → Turn
close_structure s all ts true = wrong all
close_structure s all ts false = attrs ts >>= λ a. behind_spec s.outer s.at (spec.Struct s.tag (Some s.members) s.attrs a.0) s.height a.1

abbrev pub structure_by : Structure → Tokens → Option Tokens → Turn
structure_by s all None = opens (frame.Specs (for_specs.Member s (offset all))) (control.Specs (tall [] 0)) all
structure_by s all (Some ts) = close_structure s all ts (no_member s.members)

-- a member of a structure, or its end
unfoldable pub structure : Structure → Tokens → Turn
structure s ts = structure_by s ts (after m.RBrace ts)

-- the members that are declared with these specifiers
abbrev pub open_members : Structure → ℕ → Specs → Members
open_members s n specs = record { structure = s; at = n; specs = specs.node; declrs = []; height = max s.height specs.height }

-- one declarator more
abbrev pub with_declr : Members → Tall (At Declr) → Members
with_declr d e = record { structure = d.structure; at = d.at; specs = d.specs; declrs = d.declrs ++ e.node ∷ []; height = max d.height e.height }

-- the structure with these members more
abbrev pub with_members : Members → Structure
with_members d = record {
  outer = d.structure.outer;
  at = d.structure.at;
  tag = d.structure.tag;
  attrs = d.structure.attrs;
  members = d.structure.members ++ record { at = d.at; node = record { specs = d.specs; declrs = d.declrs } } ∷ [];
  height = d.height;
}

abbrev pub members_at : Members → Tokens → Option Tokens → Turn
members_at d ts (Some us) = opens (frame.Declr (for_declr.Member d)) control.Declr us
members_at d ts None = eat m.Semi ts >>= λ us. on (control.Structure (with_members d)) us

abbrev pub member_declr : Members → Tall (At Declr) → Tokens → Bool → Turn
member_declr d e ts true = members_at (with_declr d e) ts (after m.Comma ts)
member_declr d e ts false = wrong ts

-- enumeration constants

abbrev pub with_enumr : Enumeration → ℕ → Name → Option (At Tree) → ℕ → Enumeration
with_enumr e n x v height = record {
  outer = e.outer;
  at = e.at;
  tag = e.tag;
  enumrs = e.enumrs ++ record { at = n; node = record { name = x; value = v } } ∷ [];
  height = max e.height height;
}

abbrev pub enumr_at : Enumeration → ℕ → Name → Tokens → Option Tokens → Turn
enumr_at e n x ts (Some us) = opens (frame.Part (for_part.Enumr e n x)) (control.Expr conditional_level) us
enumr_at e n x ts None = on (control.Enumeration (with_enumr e n x None 0)) ts

abbrev pub enumr_name : Enumeration → Tokens → Tokens → Name → Bool → Turn
enumr_name e all ts x true = wrong all
enumr_name e all ts x false = enumr_at e (offset all) x ts (after m.Assign ts)

-- an enumeration constant
unfoldable pub enumr : Scope → Enumeration → Tokens → Turn
enumr scope e ts = name ts >>= λ x. enumr_name e ts x.1 x.0 (is_typedef scope x.0)

abbrev pub close_enumeration : Enumeration → Tokens → Turn
close_enumeration e ts = eat m.RBrace ts >>= λ us. behind_spec e.outer e.at (spec.Enum e.tag (Some e.enumrs)) e.height us

abbrev pub behind_comma : Enumeration → Tokens → Bool → Turn
behind_comma e ts true = close_enumeration e ts
behind_comma e ts false = on (control.Enumr e) ts

abbrev pub enumeration_by : Enumeration → Tokens → Option Tokens → Turn
enumeration_by e ts None = close_enumeration e ts
enumeration_by e ts (Some us) = behind_comma e us (begins_with m.RBrace us)

-- what stands behind an enumeration constant
unfoldable pub enumeration : Enumeration → Tokens → Turn
enumeration e ts = enumeration_by e ts (after m.Comma ts)

-- declarators

abbrev pub no_name : Tokens → Turn
no_name ts = on (control.Suffix (made (offset ts) declr.Nothing 0)) ts

abbrev pub declr_name : Tokens → Tokens → ℕ → Name → Bool → Turn
declr_name all ts n x true = no_name all
declr_name all ts n x false = on (control.Suffix (made n (declr.Named x) 0)) ts

-- a parenthesis opens a function's parameters in front of `)` and in front of a specifier
abbrev pub declr_paren : Tokens → Tokens → ℕ → Bool → Turn
declr_paren all ts n true = no_name all
declr_paren all ts n false = opens (frame.Declr (for_declr.Paren n)) control.Declr ts

abbrev pub pointer : Tokens → ℕ → Turn
pointer ts n = opens (frame.Declr (for_declr.Pointer n (qualifiers ts).0)) control.Declr (qualifiers ts).1

abbrev pub declr_mark : Scope → Tokens → Tokens → ℕ → Mark → Turn
declr_mark scope all ts n m.Star = pointer ts n
declr_mark scope all ts n m.LParen = declr_paren all ts n (begins_with m.RParen ts || begins_spec scope ts)
declr_mark scope all ts n _ = no_name all

abbrev pub declr_at : Scope → Tokens → Tokens → ℕ → Kind → Turn
declr_at scope all ts n (kind.Ident x) = declr_name all ts n x (is_typedef scope x)
declr_at scope all ts n (kind.Punct o) = declr_mark scope all ts n o
declr_at scope all ts n _ = no_name all

-- a declarator
unfoldable pub declarator : Scope → Tokens → Turn
declarator scope [] = no_name []
declarator scope (t ∷ ts) = declr_at scope (t ∷ ts) ts t.at t.kind

-- a part of a declarator around another, which begins where that begins
abbrev pub around : Tall (At Declr) → Declr → ℕ → Tall (At Declr)
around d node height = made d.node.at node (suc height)

abbrev pub array : Tall (At Declr) → Tokens → Option Tokens → Turn
array d ts (Some us) = on (control.Suffix (around d (declr.Array d.node None) d.height)) us
array d ts None = opens (frame.Part (for_part.Bound d)) (control.Expr conditional_level) ts

abbrev pub function : Tall (At Declr) → Tokens → Option Tokens → Turn
function d ts (Some us) = on (control.Suffix (around d (declr.Func d.node params.Empty) d.height)) us
function d ts None = opens (frame.Specs (for_specs.Param (record { declr = d.node; params = []; height = d.height }) (offset ts))) (control.Specs (tall [] 0)) ts

abbrev pub suffix_by : Tall (At Declr) → Tokens → Tokens → Mark → Turn
suffix_by d all ts m.LBracket = array d ts (after m.RBracket ts)
suffix_by d all ts m.LParen = function d ts (after m.RParen ts)
suffix_by d all ts _ = on (control.HaveDeclr d) all

abbrev pub suffix_at : Tall (At Declr) → Tokens → Option (Mark × Tokens) → Turn
suffix_at d all None = on (control.HaveDeclr d) all
suffix_at d all (Some o) = suffix_by d all o.1 o.0

-- what stands behind a direct declarator
unfoldable pub suffix : Tall (At Declr) → Tokens → Turn
suffix d ts = suffix_at d ts (first_mark ts)

abbrev pub params_by : List (At Param) → Bool → Params
params_by ps true = params.Void
params_by ps false = params.Many ps

-- `void` alone is no list
abbrev pub params_of : List (At Param) → Params
params_of ps = params_by ps (is_only_void ps)

abbrev pub with_param : Function → ℕ → Specs → Tall (At Declr) → Function
with_param f n specs d = record {
  declr = f.declr;
  params = f.params ++ record { at = n; node = record { specs = specs.node; declr = d.node } } ∷ [];
  height = max f.height (max specs.height d.height);
}

abbrev pub param_at : Function → Tokens → Option Tokens → Turn
param_at f ts (Some us) = opens (frame.Specs (for_specs.Param f (offset us))) (control.Specs (tall [] 0)) us
param_at f ts None = eat m.RParen ts >>= λ us. on (control.Suffix (made f.declr.at (declr.Func f.declr (params_of f.params)) (suc f.height))) us

abbrev pub param : Function → ℕ → Specs → Tall (At Declr) → Tokens → Turn
param f n specs d ts = param_at (with_param f n specs d) ts (after m.Comma ts)

abbrev pub paren_declr : ℕ → Tall (At Declr) → Tokens → Bool → Turn
paren_declr n d ts true = wrong ts
paren_declr n d ts false = eat m.RParen ts >>= λ us. on (control.Suffix (made n (declr.Paren d.node) (suc d.height))) us

-- type names in parentheses

abbrev pub use_type : Use → ℕ → Tall TypeName → Tokens → Turn
use_type used.Cast n t ts = opens (frame.Tree (for_tree.Cast n t)) (control.Expr cast_level) ts
use_type used.SizeOf n t ts = on (control.Tree unary_level (made n (tree.SizeOfType t.node) (suc t.height))) ts

abbrev pub close_type : Use → ℕ → Specs → Tall (At Declr) → Tokens → Bool → Turn
close_type u n specs d ts true = wrong ts
close_type u n specs d ts false = eat m.RParen ts >>= λ us. use_type u n (tall (record { specs = specs.node; declr = d.node }) (max specs.height d.height)) us
