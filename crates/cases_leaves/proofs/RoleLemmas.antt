-- The names of the intrinsics may be names, and are distinct: by evaluation.
use Rattle.std.proofs.Common.{◌≡◌, ℕ, List, [], ◌∷◌, ◌++◌, refl}
use Rattle.std.specs.Prelude.{IsTrue, codes}
use Rattle.std.specs.List.{list_all}
use Rattle.cc_program.specs.CcWords.Names.{is_name, are_distinct}
use Rattle.cc_program.specs.CcWords.Words.{word_of}

module _ (handlers : List (List ℕ)) (off on save restore : List ℕ) (a : off ≡ codes "irq_off") (b : on ≡ codes "irq_on") (c : save ≡ codes "irq_save") (d : restore ≡ codes "irq_restore") where
  pub are_named : handlers ≡ [] → IsTrue (list_all is_name (handlers ++ off ∷ on ∷ save ∷ restore ∷ []))
  unfolding is_name word_of
  are_named h = rw (h, a, b, c, d) refl

  pub are_apart : handlers ≡ [] → IsTrue (are_distinct (handlers ++ off ∷ on ∷ save ∷ restore ∷ []))
  are_apart h = rw (h, a, b, c, d) refl

pub ruleset of_roles = (are_named, are_apart)
