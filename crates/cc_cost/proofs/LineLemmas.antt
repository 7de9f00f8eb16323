-- What rows say, as they are gone over one after another.
use Rattle.std.proofs.Common.{◌≡◌, ◌∙◌, ◌<◌, ◌≤◌, ◌+◌, ℕ, true, false, List, [], ◌∷◌, ◌++◌, length, get_or, take, drop, take_all, refl, ap, sym, Option, Some, None}
use Rattle.std.specs.Prelude.{filter_map}
use Rattle.std.proofs.lemmas.List.{append-nil, take_more, drop_more, at_drop_all}
use Rattle.std.proofs.lemmas.List.Elements.{filter_map-append}
use Rattle.cc_cost.specs.declared.setting.Setting.{Setting}
use Rattle.cc_cost.specs.declared.setting.Line.{Line}
use Rattle.cc_cost.specs.declared.setting.Line.TheVariants as line
use Rattle.cc_cost.specs.Settings.{thing_of, same_thing, given, setting_in, settings_of}

-- ---- one row more

pub settings-more : (lines : List Line) (i : ℕ) (d : Line) → i < length lines → settings_of (take (i + 1) lines) ≡ settings_of (take i lines) ++ settings_of (get_or lines i d ∷ [])
settings-more lines i d h = ap settings_of (take_more lines i d h) ∙ filter_map-append setting_in (take i lines) (get_or lines i d ∷ [])

-- what is picked of the settings so far
pub picked-more : {Y : Type 0} (pick : Setting → Option Y) (lines : List Line) (i : ℕ) (l : Line) → i < length lines → l ≡ get_or lines i l
    → filter_map pick (settings_of (take (i + 1) lines)) ≡ filter_map pick (settings_of (take i lines)) ++ filter_map pick (settings_of (l ∷ []))
picked-more pick lines i l h e =
    ap (filter_map pick) (settings-more lines i l h) ∙ filter_map-append pick (settings_of (take i lines)) (settings_of (get_or lines i l ∷ []))
    ∙ ap (λ m. filter_map pick (settings_of (take i lines)) ++ filter_map pick (settings_of (m ∷ []))) (sym e)

pub picked-none : {Y : Type 0} (pick : Setting → Option Y) (lines : List Line) (i : ℕ) (l : Line) (ys : List Y) → i < length lines → l ≡ get_or lines i l → [] ≡ filter_map pick (settings_of (l ∷ []))
    → ys ≡ filter_map pick (settings_of (take i lines)) → ys ≡ filter_map pick (settings_of (take (i + 1) lines))
picked-none pick lines i l ys h e none k =
    k ∙ sym (append-nil (filter_map pick (settings_of (take i lines)))) ∙ ap (λ m. filter_map pick (settings_of (take i lines)) ++ m) none ∙ sym (picked-more pick lines i l h e)

pub picked-one : {Y : Type 0} (pick : Setting → Option Y) (lines : List Line) (i : ℕ) (l : Line) (ys : List Y) (y : Y) → i < length lines → l ≡ get_or lines i l → y ∷ [] ≡ filter_map pick (settings_of (l ∷ []))
    → ys ≡ filter_map pick (settings_of (take i lines)) → ys ++ y ∷ [] ≡ filter_map pick (settings_of (take (i + 1) lines))
picked-one pick lines i l ys y h e one k =
    ap (λ m. m ++ y ∷ []) k ∙ ap (λ m. filter_map pick (settings_of (take i lines)) ++ m) one ∙ sym (picked-more pick lines i l h e)

pub picked-all : {Y : Type 0} (pick : Setting → Option Y) (lines : List Line) (i : ℕ) → length lines ≤ i → filter_map pick (settings_of (take i lines)) ≡ filter_map pick (settings_of lines)
picked-all pick lines i h = ap (λ ls. filter_map pick (settings_of ls)) (take_all i lines h)

-- ---- the first setting for a thing

-- none of the rows so far is for it
abbrev pub LooksOn : List ℕ → List ℕ → List Line → ℕ → Type 0
LooksOn key second lines i = given key second (settings_of lines) ≡ given key second (settings_of (drop i lines))

ahead : (key second : List ℕ) (lines : List Line) (i : ℕ) (l : Line) → i < length lines → l ≡ get_or lines i l → LooksOn key second lines i
    → given key second (settings_of lines) ≡ given key second (settings_of (l ∷ drop (i + 1) lines))
ahead key second lines i l h e k =
    k ∙ ap (λ ls. given key second (settings_of ls)) (drop_more lines i l h) ∙ ap (λ m. given key second (settings_of (m ∷ drop (i + 1) lines))) (sym e)

pub given-found : (key second : List ℕ) (lines : List Line) (i : ℕ) (l : Line) (s : Setting) → i < length lines → l ≡ get_or lines i l → LooksOn key second lines i
    → l ≡ line.Says s → same_thing (record { key = key; second = second }) (thing_of s) ≡ true → given key second (settings_of lines) ≡ Some s
given-found key second lines i l s h e k says is_so = ahead key second lines i l h e k ∙ rw (says, is_so) refl

pub given-other : (key second : List ℕ) (lines : List Line) (i : ℕ) (l : Line) (s : Setting) → i < length lines → l ≡ get_or lines i l → LooksOn key second lines i
    → l ≡ line.Says s → same_thing (record { key = key; second = second }) (thing_of s) ≡ false → LooksOn key second lines (i + 1)
given-other key second lines i l s h e k says is_not = ahead key second lines i l h e k ∙ rw (says, is_not) refl

pub given-passed : (key second : List ℕ) (lines : List Line) (i : ℕ) (l : Line) (rule : ℕ) → i < length lines → l ≡ get_or lines i l → LooksOn key second lines i
    → l ≡ line.Breaks rule → LooksOn key second lines (i + 1)
given-passed key second lines i l rule h e k breaks = ahead key second lines i l h e k ∙ rw breaks refl

pub given-none : (key second : List ℕ) (lines : List Line) (i : ℕ) → length lines ≤ i → LooksOn key second lines i → given key second (settings_of lines) ≡ None
given-none key second lines i h k = k ∙ at_drop_all (λ ls. given key second (settings_of ls)) lines i h

pub ruleset of_given = (given-found, given-other, given-passed, given-none)

pub ruleset of_lists = (picked-none, picked-one, picked-all)
