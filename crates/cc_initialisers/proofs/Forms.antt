-- What members are not: a scalar, a character, or what a string initialises.
use Rattle.std.proofs.Common.{◌≡◌, ◌∙◌, ℕ, Bool, false, List, [], ◌∷◌, refl, ap, sym, subst, map}
use Rattle.cc_initialisers.specs.Contents.{Inside, of_members}
use Rattle.cc_initialisers.specs.Initialisers.{Init, is_character, is_scalar_object, takes_text, text_by, text_given, breaks, list_braced, all_taken, elided, initialised, aggregate_initialised, string_for}
use Rattle.cc_initialisers.specs.View.{content_view}
use Rattle.cc_initialisers.specs.declared.content.Content.{Content}
use Rattle.cc_initialisers.specs.declared.content.Content.TheVariants as content
use Rattle.cc_initialisers.specs.declared.content.Members.{Members}
use Rattle.cc_operands.specs.declared.rule.Rule.TheVariants as rule

module _ {A : Type 0} (inside : A → Inside) (constant : Bool) where
  no_scalar : (ms : List A) → is_scalar_object (of_members (map inside ms) constant) ≡ false
  no_scalar [] = refl
  no_scalar (m ∷ ms) = refl

  no_character : (ms : List A) → is_character (of_members (map inside ms) constant) ≡ false
  no_character [] = refl
  no_character (m ∷ ms) = refl

  no_string : (ms : List A) → takes_text (of_members (map inside ms) constant) ≡ false
  no_string [] = refl
  no_string (m ∷ ms) = refl

  no_text : (at : ℕ) (bytes : List ℕ) (ms : List A) → text_given at (of_members (map inside ms) constant) bytes ≡ breaks at rule.InitialiserShape
  no_text at bytes [] = refl
  no_text at bytes (m ∷ ms) = refl

  no_characters : (at n : ℕ) (bytes : List ℕ) (ms : List A) → text_by at n (of_members (map inside ms) constant) bytes ≡ breaks at rule.InitialiserShape
  no_characters at n bytes [] = refl
  no_characters at n bytes (m ∷ ms) = refl

  in_braces : (gs : List Init) (at : ℕ) (ms : List A) → list_braced gs (of_members (map inside ms) constant) at ≡ all_taken (elided (of_members (map inside ms) constant) at gs)
  in_braces gs at [] = refl
  in_braces gs at (m ∷ ms) = refl

  aggregate : (g : Init) (ms : List A) → initialised (of_members (map inside ms) constant) g
      ≡ aggregate_initialised (of_members (map inside ms) constant) g (string_for (of_members (map inside ms) constant) g.node.text)
  aggregate g [] = refl
  aggregate g (m ∷ ms) = refl

module _ (object : Content) (ms : Members) (is : object ≡ content.Members ms) where
  pub members-scalar : is_scalar_object (content_view object) ≡ false
  members-scalar = ap (λ (x : Content). is_scalar_object (content_view x)) is ∙ no_scalar _ ms.constant ms.all.now

  pub members-character : is_character (content_view object) ≡ false
  members-character = ap (λ (x : Content). is_character (content_view x)) is ∙ no_character _ ms.constant ms.all.now

  pub members-string : takes_text (content_view object) ≡ false
  members-string = ap (λ (x : Content). takes_text (content_view x)) is ∙ no_string _ ms.constant ms.all.now

  pub members-text : (at : ℕ) (bytes : List ℕ) → text_given at (content_view object) bytes ≡ breaks at rule.InitialiserShape
  members-text at bytes = ap (λ (x : Content). text_given at (content_view x) bytes) is ∙ no_text _ ms.constant at bytes ms.all.now

  pub members-characters : (at n : ℕ) (bytes : List ℕ) → text_by at n (content_view object) bytes ≡ breaks at rule.InitialiserShape
  members-characters at n bytes = ap (λ (x : Content). text_by at n (content_view x) bytes) is ∙ no_characters _ ms.constant at n bytes ms.all.now

  pub members-braced : (gs : List Init) (at : ℕ) → list_braced gs (content_view object) at ≡ all_taken (elided (content_view object) at gs)
  members-braced gs at = subst (λ (x : Content). list_braced gs (content_view x) at ≡ all_taken (elided (content_view x) at gs)) (sym is) (in_braces _ ms.constant gs at ms.all.now)

  pub members-initialised : (g : Init) → initialised (content_view object) g ≡ aggregate_initialised (content_view object) g (string_for (content_view object) g.node.text)
  members-initialised g = subst (λ (x : Content). initialised (content_view x) g ≡ aggregate_initialised (content_view x) g (string_for (content_view x) g.node.text)) (sym is) (aggregate _ ms.constant g ms.all.now)
