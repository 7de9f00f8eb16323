-- What the code's wishes and sets of names stand for.
use Rattle.std.specs.Prelude.{◌≡◌, ◌+◌, ℕ, Bool, false, List, [], ◌∷◌, ◌++◌, map, if◌then◌else◌}
use Rattle.std.specs.Prelude.{Vec}
use Rattle.std.specs.declared.alloc.Global.{Global}
use Rattle.std.specs.declared.hash.BuildHasherDefault.{BuildHasherDefault}
use Rattle.std.specs.declared.hash.FoldHasher.{FoldHasher}
use Rattle.indexmap.specs.IndexSet.{IndexSet}
use Rattle.cc_names.specs.Names.{Wish, Own, Numbered, is_among}
use Rattle.cc_names.specs.declared.wish.Wish.{Wish as WishOf}
use Rattle.cc_names.specs.declared.wish.Wish.TheVariants as wish

abbrev pub wish_of : WishOf → Wish
wish_of (wish.Own x) = Own x.now
wish_of (wish.Numbered base) = Numbered base.now

unfoldable pub wishes_of : List WishOf → List Wish
wishes_of ws = map wish_of ws

abbrev pub texts : List (Vec ℕ Global) → List (List ℕ)
texts names = map (λ x. x.items) names

abbrev pub NameSet : Type 0
NameSet = IndexSet (Vec ℕ Global) (BuildHasherDefault FoldHasher)

unfoldable pub names_of : NameSet → List (List ℕ)
names_of s = texts s.keys

-- a name is added where it is not there
abbrev pub with_name : List (List ℕ) → List ℕ → List (List ℕ)
with_name names x = if is_among x names then names else names ++ x ∷ []

-- two lists have the same names
abbrev pub HaveSame : List (List ℕ) → List (List ℕ) → Type 0
HaveSame xs ys = (x : List ℕ) → is_among x xs ≡ is_among x ys

-- whether the name that is wished for is there
abbrev pub has_wished : List (List ℕ) → Wish → Bool
has_wished names (Own x) = is_among x names
has_wished names (Numbered base) = false
