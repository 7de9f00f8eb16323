-- One text: it has at most one typed unit, at most one cause why it has none, and not both.
use Rattle.std.proofs.Common.{◌≡◌, ◌∙◌, ◌≤◌, ◌<◌, ◌^◌, ℕ, List, [], ◌∷◌, Option, Some, None, refl, ap, sym, subst}
use Rattle.std.specs.Prelude.{◌≢◌}
use Rattle.cc_type.proofs.CcLex.Whole.{one-list, one-fault, not-both}
use Rattle.cc_type.specs.CcLex.Faults.{HasFault as HasLexFault}
use Rattle.cc_type.specs.CcLex.Tokens.{Tokens}
use Rattle.cc_type.specs.CcLex.declared.fault.LexFault.{LexFault}
use Rattle.cc_type.specs.CcLex.declared.fault.LexFault.TheVariants as lex
use Rattle.cc_type.specs.CcLex.declared.token.Token.{Token}
use Rattle.cc_program.specs.CcNum.declared.target.Target.{Target}
use Rattle.cc_program.specs.declared.program.Roles.{Roles}
use Rattle.cc_read.specs.Faults.{for_lex, for_gram, for_types}
use Rattle.cc_read.specs.Refusals.{HasCause, HasNoTokens, IsNoSentence, BreaksRule, IsTooHigh}
use Rattle.cc_read.specs.Texts.{identifiers_of, IsTypedText, IsTypedSentence, IsLow}
use Rattle.cc_read.specs.declared.refusal.ReadRefusal.{ReadRefusal}
use Rattle.cc_read.specs.declared.refusal.ReadRefusal.TheVariants as why
use Rattle.cc_things.specs.declared.text.Text.{Text}
use Rattle.cc_tree.proofs.Faults.{not_read, one_fault as one_gram_fault}
use Rattle.cc_tree.proofs.Outcomes.{unique}
use Rattle.cc_tree.specs.Faults.{IsRead, HasFault as HasGramFault, IsOutside, IsTooDeep, IsWrong}
use Rattle.cc_tree.specs.Height.{unit_height, greatest_height}
use Rattle.cc_tree.specs.Outside.{first_outside}
use Rattle.cc_tree.specs.Sentences.{IsSentence}
use Rattle.cc_tree.specs.declared.fault.GramFault.{GramFault}
use Rattle.cc_tree.specs.declared.fault.GramFault.TheVariants as gram
use Rattle.cc_tree.specs.declared.unit.Unit.{Unit as UnitTree}
use Rattle.cc_type.proofs.Laws as types
use Rattle.cc_type.specs.Typed.{IsTyped, Refuses}
use Rattle.cc_type.specs.declared.fault.TypeFault.{TypeFault}
use Rattle.cc_type.specs.declared.fault.TypeFault.TheVariants as type_fault
use Rattle.cc_type.specs.CcUnit.declared.unit.TypedUnit.{TypedUnit}

-- ---- the typed unit of a text is one

one_tree : (ts : List Token) (u v : UnitTree) → IsSentence ts u → IsSentence ts v → u ≡ v
one_tree ts u v h k = unique u v h.after k.after ts h.items k.items

-- of tokens and trees of one text
same_tree : (text : List ℕ) (ts us : List Token) (u v : UnitTree) → Tokens text ts → Tokens text us → IsSentence ts u → IsSentence us v → u ≡ v
same_tree text ts us u v a b h k = one_tree us u v (subst (λ x. IsSentence x u) (one-list text ts us a b) h) k

abbrev text_with : TypedUnit → List (List ℕ) → Text
text_with unit identifiers = record { unit = unit; identifiers = identifiers }

pub one_typed_text : (target : Target) (roles : Roles) (text : List ℕ) (t u : Text) → IsTypedText target roles text t → IsTypedText target roles text u → t ≡ u
one_typed_text target roles text t u h k =
    let trees = same_tree text h.tokens k.tokens h.tree k.tree h.tokens_of k.tokens_of h.sentence k.sentence in
    let unit = types.one_unit target roles k.tree t.unit u.unit (subst (λ x. IsTyped x target roles t.unit) trees h.typed) k.typed in
    let names : t.identifiers ≡ u.identifiers = h.identifiers ∙ (ap identifiers_of (one-list text h.tokens k.tokens h.tokens_of k.tokens_of) ∙ sym k.identifiers) in
    ap (λ x. text_with x t.identifiers) unit ∙ ap (text_with u.unit) names

-- ---- a text with a typed unit has no cause, where it is not too high

broken : (rule at : ℕ) → type_fault.Broken rule at ≢ type_fault.NoMemory
broken rule at e = absurd (cc)

module _ (target : Target) (roles : Roles) (text : List ℕ) where
  no_rule : (t : Text) (ts : List Token) (u : UnitTree) (rule at : ℕ) → IsTypedText target roles text t → Tokens text ts → IsRead ts u → Refuses target roles u (type_fault.Broken rule at) → ⊥
  no_rule t ts u rule at h a r k =
      let trees = same_tree text h.tokens ts h.tree u h.tokens_of a h.sentence r.sentence in
      types.not_both target roles u t.unit (type_fault.Broken rule at) (broken rule at) (subst (λ x. IsTyped x target roles t.unit) trees h.typed) k

  pub no_cause : (t : Text) (e : ReadRefusal) → IsTypedText target roles text t → IsLow text → HasCause target roles text e → ⊥
  no_cause t _ h low (HasNoTokens _ e k) = not-both text h.tokens e h.tokens_of k
  no_cause t _ h low (IsNoSentence _ ts e a k) =
      let there = subst (λ x. IsSentence x h.tree) (one-list text h.tokens ts h.tokens_of a) h.sentence in
      not_read ts e h.tree k (record { sentence = there; low = low ts h.tree a there })
  no_cause t _ h low (BreaksRule _ ts u rule at a r k) = no_rule t ts u rule at h a r k

  high_fault : (ts : List Token) (u : UnitTree) (e : GramFault) → IsSentence ts u → HasGramFault ts e → IsTooHigh (why.Gram e)
  high_fault ts u _ h (IsOutside _ x n e) = absurd (cc (h.inside, e))
  high_fault ts u _ h (IsTooDeep _ ahead before t e k _ _ _ _) = tt
  high_fault ts u _ h (IsWrong _ ahead n e k _ _) = absurd (k u h)

  pub only_high : (t : Text) (e : ReadRefusal) → IsTypedText target roles text t → HasCause target roles text e → IsTooHigh e
  only_high t _ h (HasNoTokens _ e k) = absurd (not-both text h.tokens e h.tokens_of k)
  only_high t _ h (IsNoSentence _ ts e a k) = high_fault ts h.tree e (subst (λ x. IsSentence x h.tree) (one-list text h.tokens ts h.tokens_of a) h.sentence) k
  only_high t _ h (BreaksRule _ ts u rule at a r k) = absurd (no_rule t ts u rule at h a r k)

-- ---- a text has one cause

module _ (target : Target) (roles : Roles) (text : List ℕ) where
  gram_or_types : (ts us : List Token) (e : GramFault) (u : UnitTree) → Tokens text ts → Tokens text us → HasGramFault ts e → IsRead us u → ⊥
  gram_or_types ts us e u a b h r = not_read us e u (subst (λ x. HasGramFault x e) (one-list text ts us a b) h) r

  same_rule : (ts us : List Token) (u v : UnitTree) (rule at other place : ℕ) → Tokens text ts → Tokens text us → IsRead ts u → IsRead us v →
      Refuses target roles u (type_fault.Broken rule at) → Refuses target roles v (type_fault.Broken other place) → type_fault.Broken rule at ≡ type_fault.Broken other place
  same_rule ts us u v rule at other place a b r s h k =
      types.one_fault target roles v (type_fault.Broken rule at) (type_fault.Broken other place) (broken rule at) (broken other place)
      (subst (λ x. Refuses target roles x (type_fault.Broken rule at)) (same_tree text ts us u v a b r.sentence s.sentence) h) k

  pub same_cause : (e f : ReadRefusal) → HasCause target roles text e → HasCause target roles text f → e ≡ f
  same_cause _ _ (HasNoTokens _ e h) (HasNoTokens _ f k) = ap why.Lex (one-fault text e f h k)
  same_cause _ _ (HasNoTokens _ e h) (IsNoSentence _ ts f a k) = absurd (not-both text ts e a h)
  same_cause _ _ (HasNoTokens _ e h) (BreaksRule _ ts u rule at a r k) = absurd (not-both text ts e a h)
  same_cause _ _ (IsNoSentence _ ts e a h) (HasNoTokens _ f k) = absurd (not-both text ts f a k)
  same_cause _ _ (IsNoSentence _ ts e a h) (IsNoSentence _ us f b k) = ap why.Gram (one_gram_fault us e f (subst (λ x. HasGramFault x e) (one-list text ts us a b) h) k)
  same_cause _ _ (IsNoSentence _ ts e a h) (BreaksRule _ us u rule at b r k) = absurd (gram_or_types ts us e u a b h r)
  same_cause _ _ (BreaksRule _ ts u rule at a r h) (HasNoTokens _ f k) = absurd (not-both text ts f a k)
  same_cause _ _ (BreaksRule _ ts u rule at a r h) (IsNoSentence _ us f b k) = absurd (gram_or_types us ts f u b a k r)
  same_cause _ _ (BreaksRule _ ts u rule at a r h) (BreaksRule _ us v other place b s k) = ap why.Types (same_rule ts us u v rule at other place a b r s h k)

-- ---- from what the parts answer

module _ (target : Target) (roles : Roles) where
  pub by_lex : (text : List ℕ) (e : LexFault) → (e ≢ lex.NoMemory → HasLexFault text e) → for_lex e ≢ why.NoMemory → HasCause target roles text (for_lex e)
  by_lex text (lex.BadByte n) h m = HasNoTokens text (lex.BadByte n) (h (λ e. absurd (cc)))
  by_lex text (lex.OpenComment n) h m = HasNoTokens text (lex.OpenComment n) (h (λ e. absurd (cc)))
  by_lex text (lex.OpenText n) h m = HasNoTokens text (lex.OpenText n) (h (λ e. absurd (cc)))
  by_lex text (lex.BadNumber n) h m = HasNoTokens text (lex.BadNumber n) (h (λ e. absurd (cc)))
  by_lex text (lex.Directive n) h m = HasNoTokens text (lex.Directive n) (h (λ e. absurd (cc)))
  by_lex text lex.NoMemory h m = absurd (m refl)

  pub by_gram : (ts : List Token) (e : GramFault) → (e ≢ gram.NoMemory → HasGramFault ts e) → for_gram e ≢ why.NoMemory → (text : List ℕ) → Tokens text ts → HasCause target roles text (for_gram e)
  by_gram ts (gram.Outside x n) h m text a = IsNoSentence text ts (gram.Outside x n) a (h (λ e. absurd (cc)))
  by_gram ts (gram.TooDeep n) h m text a = IsNoSentence text ts (gram.TooDeep n) a (h (λ e. absurd (cc)))
  by_gram ts (gram.Syntax n) h m text a = IsNoSentence text ts (gram.Syntax n) a (h (λ e. absurd (cc)))
  by_gram ts gram.NoMemory h m text a = absurd (m refl)

  pub by_types : (ts : List Token) (u : UnitTree) (e : TypeFault) → IsRead ts u → Refuses target roles u e → for_types e ≢ why.NoMemory → (text : List ℕ) → Tokens text ts → HasCause target roles text (for_types e)
  by_types ts u (type_fault.Broken rule at) r h m text a = BreaksRule text ts u rule at a r h
  by_types ts u type_fault.NoMemory r h m text a = absurd (m refl)

  pub typed_text : (text : List ℕ) (ts : List Token) (t : Text) → Tokens text ts → IsTypedSentence target roles ts t.unit → t.identifiers ≡ identifiers_of ts → IsTypedText target roles text t
  typed_text text ts t a h e = record { tokens = ts; tokens_of = a; tree = h.tree; sentence = h.read.sentence; typed = h.typed; identifiers = e }

  pub is_low : (text : List ℕ) (ts : List Token) (t : TypedUnit) → Tokens text ts → IsTypedSentence target roles ts t → IsLow text
  is_low text ts t a h = λ us u b k. subst (λ x. unit_height x ≤ greatest_height) (same_tree text ts us h.tree u a b h.read.sentence k) h.read.low

pub ruleset of_texts = (by_lex, by_gram, by_types, typed_text, is_low)
