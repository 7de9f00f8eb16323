-- Whether mentions disagree, by the first of them.
use Rattle.std.proofs.Common.{◌≡◌, ◌∙◌, ap, Bool, false, List, map, not, Option, Some, None, slice_get, option_map}
use Rattle.std.specs.List.{list_any}
use Rattle.std.specs.Option.{option_map_or}
use Rattle.std.proofs.lemmas.Option.{slice_get-map}
use Rattle.cc_causes.specs.Causes.{agree, disagree}
use Rattle.cc_structures.specs.Structures.{Numbering}
use Rattle.cc_things.specs.Mentions.{Mention}
use Rattle.cc_things.specs.View.{view_of, views_of}
use Rattle.cc_things.specs.declared.mention.Mention.{Mention as MentionOf}

abbrev by_first : Numbering → List MentionOf → Option Mention → Bool
by_first numbering ms first = option_map_or (λ (m : Mention). list_any (λ (n : Mention). not (agree numbering m n)) (map view_of ms)) first false

pub none_disagree : (numbering : Numbering) (ms : List MentionOf) → slice_get ms 0 ≡ None → disagree numbering (views_of ms) ≡ false
unfolding views_of
none_disagree numbering ms e = ap (by_first numbering ms) (slice_get-map view_of ms 0 ∙ ap (option_map view_of) e)

pub first_disagrees : (numbering : Numbering) (ms : List MentionOf) (m : MentionOf) → slice_get ms 0 ≡ Some m → disagree numbering (views_of ms) ≡ list_any (λ (n : Mention). not (agree numbering (view_of m) n)) (map view_of ms)
unfolding views_of
first_disagrees numbering ms m e = ap (by_first numbering ms) (slice_get-map view_of ms 0 ∙ ap (option_map view_of) e)
