-- The typedef names in scope (C99 6.2.1, 6.7.7). Where a name is one, it is a type name everywhere but
-- as a tag, as a member behind `.` or `->`, and in an attribute, and it is never declared as anything else.
use Rattle.std.specs.Prelude.{Bool, true, false, List, [], ◌∷◌, ◌++◌, nat_eq, Option, Some, None}
use Rattle.std.specs.List.{list_any}
use Rattle.std.specs.Cmp.Lexicographic.{pointwise}
use Rattle.cc_words.specs.declared.word.Word.TheVariants as w
use Rattle.cc_tree.specs.declared.at.At.{At}
use Rattle.cc_tree.specs.declared.tree.Spec.{Spec, Word}
use Rattle.cc_tree.specs.declared.tree.Declr.{Declr, fold-Declr}
use Rattle.cc_tree.specs.declared.tree.Declr.TheOpen as one
use Rattle.cc_tree.specs.Tokens.{Name}

-- the typedef names in scope, in order of declaration
abbrev pub Scope : Type 0
Scope = List Name

abbrev pub same_name : Name → Name → Bool
same_name x y = pointwise nat_eq x y

abbrev pub is_typedef : Scope → Name → Bool
is_typedef scope x = list_any (same_name x) scope

-- the name that a declarator declares
abbrev pub declr_name : one.Declr-F (Option Name) Unit Unit Unit Unit Unit Unit Unit → Option Name
declr_name one.Nothing = None
declr_name (one.Declr::Named x) = Some x
declr_name (one.Declr::Paren d) = d.node
declr_name (one.Pointer q d) = d.node
declr_name (one.Array d e) = d.node
declr_name (one.Func d p) = d.node

abbrev pub name_of : Declr → Option Name
name_of d = fold-Declr (Option Name) Unit Unit Unit Unit Unit Unit Unit declr_name (λ _. tt) (λ _. tt) (λ _. tt) (λ _. tt) (λ _. tt) (λ _. tt) (λ _. tt) d

abbrev pub is_typedef_word : Spec → Bool
is_typedef_word (Word w.Typedef) = true
is_typedef_word _ = false

abbrev pub declares_types : List (At Spec) → Bool
declares_types specs = list_any (λ s. is_typedef_word s.node) specs

abbrev pub with_name : Option Name → Scope → Scope
with_name None scope = scope
with_name (Some x) scope = scope ++ x ∷ []

-- what is in scope behind a declarator, whose specifiers have `typedef` or not
abbrev pub behind_declr : Bool → Declr → Scope → Scope
behind_declr false d scope = scope
behind_declr true d scope = with_name (name_of d) scope
