-- What an expression gives where a register that it does not read has another set: the same. By induction over how it comes about.
use Rattle.std.proofs.Common.{◌≡◌, ◌≢◌, ◌==◌, ◌||◌, ℕ, ℤ, Bool, true, false, true≢false, cond, Option, Some, None, inl, inr, ⊎_elim, refl, ap, sym, ◌∙◌}
use Rattle.std.proofs.lemmas.Bool.Decides.{Decides-eqb, eqb_tells}
use Rattle.cc_program.specs.CcNum.declared.op.BinOp.{BinOp}
use Rattle.cc_rules_flows.specs.CcPlaces.declared.abs.Abs.{Abs}
use Rattle.cc_rules_flows.specs.CcPlaces.declared.abs.Abs.TheVariants as abs
use Rattle.cc_rules_flows.specs.CcPlaces.declared.addrs.Addrs.{Addrs}
use Rattle.cc_program.specs.declared.expr.Expr.{Expr, out-Expr, roll-Expr, roll-out-Expr, map-Expr, fold-roll-Expr}
use Rattle.cc_program.specs.declared.expr.Expr.TheOpen as one
use Rattle.cc_program.specs.declared.expr.Place.{Place, out-Place, roll-Place, roll-out-Place, map-Place, fold-roll-Place}
use Rattle.cc_program.specs.declared.func.Func.{Func}
use Rattle.cc_program.specs.declared.program.Program.{Program}
use Rattle.cc_rules_flows.specs.Tests.{Is, passing, turned}
use Rattle.cc_rules_tests.specs.Forms.{comparison_in}
use Rattle.cc_rules_tests.specs.Reads.{PlaceReads, place_read_step, place_reads, read_step, reads}
use Rattle.cc_rules_tests.specs.Tested.{IsLeftIn, IsOperandIn, ReadsLocal, test_of}
use Rattle.cc_rules_tests.specs.Trials.{IsGivenAt}
use Rattle.cc_rules_tests.specs.declared.tested.Test.{Test as CodeTest}
use Rattle.cc_rules_tests.specs.declared.tested.Test.TheVariants as made
use Rattle.cc_rules_tests.specs.declared.tested.Tested.{Tested}
use Rattle.cc_rules_tests.proofs.Changing.{changed}
use Rattle.cc_rules_tests.proofs.Cuts.{left_compared, left_no_label, left_no_labels, left_uncompared, uncut}
use Rattle.cc_rules_tests.proofs.Formed.{comparison_back}
use Rattle.cc_rules_tests.proofs.Operands.{of_read}
use Rattle.cc_rules_flows.specs.CcStateOperators.Domains.{Domain, IsHull}
use Rattle.cc_rules_flows.specs.CcStateValues.declared.context.Context.{Context}
use Rattle.cc_rules_flows.specs.CcStateValues.Contexts.{IsValIn, set_in}
use Rattle.cc_rules_flows.specs.CcStateValues.Values.{IsVal, OfConst, OfNull, OfFunction, OfRegister, OfAddress, OfUn, OfBin, OfConv, OfQualify, OfMove, OfGap, OfCompare, OfBoth, OfEither, OfChoose, Designates, AtLocal, AtStatic, AtDevice, AtElement, AtMember, AtTarget}

neither : (p q : Bool) → p || q ≡ false → (p ≡ false) × (q ≡ false)
neither true q h = absurd (true≢false h)
neither false q h = (refl, h)

other_number : (q r : ℕ) → q ≢ r → (q == r) ≡ false
other_number q r h = ⊎_elim (λ k. absurd (h k.1)) (λ k. k.0) (eqb_tells q r)

module _ (r : ℕ) where
  pub reads_at : (e : Expr) (x : one.Expr-F Expr Place) → out-Expr e ≡ x → reads r e ≡ read_step r (map-Expr Expr Place Bool PlaceReads (reads r) (place_reads r) x)
  unfolding reads place_reads
  reads_at e x h = ap (reads r) (sym (roll-out-Expr e) ∙ ap roll-Expr h) ∙ fold-roll-Expr Bool PlaceReads (read_step r) (place_read_step r) x

  pub place_reads_at : (a : Place) (x : one.Place-F Expr Place) → out-Place a ≡ x → place_reads r a ≡ place_read_step r (map-Place Expr Place Bool PlaceReads (reads r) (place_reads r) x)
  unfolding reads place_reads
  place_reads_at a x h = ap (place_reads r) (sym (roll-out-Place a) ∙ ap roll-Place h) ∙ fold-roll-Place Bool PlaceReads (read_step r) (place_read_step r) x

  -- what is not read in an expression is not read in its parts
  part : (e : Expr) (x : one.Expr-F Expr Place) → out-Expr e ≡ x → reads r e ≡ false → read_step r (map-Expr Expr Place Bool PlaceReads (reads r) (place_reads r) x) ≡ false
  part e x k h = sym (reads_at e x k) ∙ h

  place_part : (a : Place) (x : one.Place-F Expr Place) → out-Place a ≡ x → (place_reads r a).reads ≡ false → (place_read_step r (map-Place Expr Place Bool PlaceReads (reads r) (place_reads r) x)).reads ≡ false
  place_part a x k h = sym (ap (λ (z : PlaceReads). z.reads) (place_reads_at a x k)) ∙ h

  pub not_read : (q : ℕ) (e : Expr) → ReadsLocal q e → reads r e ≡ false → q ≢ r
  not_read q e (a, k, l) h is =
      let none = (neither _ _ (part e (one.Load a) k h)).0 in
      true≢false (sym ((Decides-eqb q r).1 is) ∙ (sym (ap (λ (z : PlaceReads). z.is_local) (place_reads_at a (one.Local q) l)) ∙ none))

module _ {I : Type 0} (d : Domain I) (p : Program) (id : ℕ) (f : Func) (register more : ℕ → Option (Abs I)) (r : ℕ) (same : (q : ℕ) → q ≢ r → more q ≡ register q) where
  abbrev Valued : Expr → Abs I → Type 0
  Valued e y = IsVal d p id f register e y

  abbrev Placed : Place → Addrs → Type 0
  Placed a s = Designates d p id f register a s

  abbrev ValuedMore : Expr → Abs I → Type 0
  ValuedMore e y = IsVal d p id f more e y

  abbrev PlacedMore : Place → Addrs → Type 0
  PlacedMore a s = Designates d p id f more a s

  mutual
    pub value_apart : (e : Expr) (y : Abs I) → reads r e ≡ false → Valued e y → ValuedMore e y
    value_apart e y h (OfConst n t x k l m) = OfConst n t x k l m
    value_apart e y h (OfNull t s k l m) = OfNull t s k l m
    value_apart e y h (OfFunction g s k l m) = OfFunction g s k l m
    value_apart e y h (OfRegister a q k l m) = OfRegister a q k l (same q (not_read r q e (of_read p f q e (a, k, l)) h) ∙ m)
    value_apart e y h (OfAddress a s k l m) = OfAddress a s k (place_apart a s (part r e (one.AddrOf a) k h) l) m
    value_apart e y h (OfUn o t a x z k v l g m) = OfUn o t a x z k (value_apart a (abs.Ints x) (part r e (one.Un o t a) k h) v) l g m
    value_apart e y h (OfBin o t a b x w z k v u l g m) =
        let n = neither _ _ (part r e (one.Bin o t a b) k h) in
        OfBin o t a b x w z k (value_apart a (abs.Ints x) n.0 v) (value_apart b (abs.Ints w) n.1 u) l g m
    value_apart e y h (OfConv t a x z k v l m) = OfConv t a x z k (value_apart a (abs.Ints x) (part r e (one.Conv t a) k h) v) l m
    value_apart e y h (OfQualify t a k v) = OfQualify t a k (value_apart a y (part r e (one.Qualify t a) k h) v)
    value_apart e y h (OfMove a b back s c x k v u l m) =
        let n = neither _ _ (part r e (one.Move a b back) k h) in
        OfMove a b back s c x k (value_apart a (abs.Addrs s) n.0 v) (value_apart b (abs.Ints x) n.1 u) l m
    value_apart e y h (OfGap a b s t x k v u l m) =
        let n = neither _ _ (part r e (one.Gap a b) k h) in
        OfGap a b s t x k (value_apart a (abs.Addrs s) n.0 v) (value_apart b (abs.Addrs t) n.1 u) l m
    value_apart e y h (OfCompare o a b s t x k v u l m) =
        let n = neither _ _ (part r e (one.Compare o a b) k h) in
        OfCompare o a b s t x k (value_apart a (abs.Addrs s) n.0 v) (value_apart b (abs.Addrs t) n.1 u) l m
    value_apart e y h (OfBoth a b x w z k v u l m) =
        let n = neither _ _ (part r e (one.Both a b) k h) in
        OfBoth a b x w z k (value_apart a x n.0 v) (value_apart b w n.1 u) l m
    value_apart e y h (OfEither a b x w z k v u l m) =
        let n = neither _ _ (part r e (one.Either a b) k h) in
        OfEither a b x w z k (value_apart a x n.0 v) (value_apart b w n.1 u) l m
    value_apart e y h (OfChoose c a b x u w k i v j l) =
        let n = neither _ _ (part r e (one.Choose c a b) k h) in
        let m = neither _ _ n.1 in
        OfChoose c a b x u w k (value_apart c x n.0 i) (value_apart a u m.0 v) (value_apart b w m.1 j) l

    pub place_apart : (a : Place) (s : Addrs) → (place_reads r a).reads ≡ false → Placed a s → PlacedMore a s
    place_apart a s h (AtLocal q k l) = AtLocal q k l
    place_apart a s h (AtStatic i k l) = AtStatic i k l
    place_apart a s h (AtDevice n k l) = AtDevice n k l
    place_apart a s h (AtElement b i t q x k l v u m) =
        let n = neither _ _ (place_part r a (one.Element b i) k h) in
        AtElement b i t q x k l (place_apart b q n.0 v) (value_apart i (abs.Ints x) n.1 u) m
    place_apart a s h (AtMember b m t q k l v u) = AtMember b m t q k l (place_apart b q (place_part r a (one.Member b m) k h) v) u
    place_apart a s h (AtTarget e k v) = AtTarget e k (value_apart e (abs.Addrs s) (place_part r a (one.Deref e) k h) v)

-- with the register at any number the expression gives what it gives
pub given_unread : {I : Type 0} (d : Domain I) (c : Context I) (e : Expr) (r : ℕ) (m : ℤ) (one : I) (y : Abs I) → reads r e ≡ false → IsHull d (λ n. n ≡ m) one → IsValIn d c e y → IsGivenAt d c e r m y
given_unread d c e r m one y h hull v =
    (one, hull, value_apart d c.program.now c.id c.func.now (set_in c) (changed d c r one) r (λ q k. ap (λ b. cond b (Some (abs.Ints one)) (set_in c q)) (other_number q r k)) e y h v)

module _ {I : Type 0} (d : Domain I) (t : Tested I) (r : ℕ) (x : I) where
  no_operand : (a : Expr) → reads r a ≡ false → IsOperandIn d t r x a → ⊥
  no_operand a h (inl k) = not_read r r a (of_read t.context.now.program.now t.context.now.func.now r a k) h refl
  no_operand a h (inr (to, c, k, w)) = not_read r r c (of_read t.context.now.program.now t.context.now.func.now r c w.0) (part r a (one.Conv to c) k h) refl

  abbrev Stays : Type 0
  Stays = IsLeftIn d t r (abs.Ints x) (abs.Ints x)

  compared : (b : Bool) → reads r t.expression.now ≡ false → d.members x ≡ None → test_of t.test ≡ Is b → (form : Option (BinOp × Expr × Expr)) → comparison_in (out-Expr t.expression.now) ≡ form → Stays
  compared b h range is None form = left_uncompared d t r x x b range is form refl
  compared b h range is (Some (o, a, c)) form =
      let w = comparison_back (out-Expr t.expression.now) o a c form in
      let n = neither _ _ (part r t.expression.now (one.Bin o w.0 a c) w.1 h) in
      left_compared d t r x x x b o a c range is form (uncut d t r x x (passing b o) a c (no_operand a n.0)) (uncut d t r x x (turned (passing b o)) c a (no_operand c n.1))

  by_test : (test : CodeTest) → t.test ≡ test → reads r t.expression.now ≡ false → d.members x ≡ None → Stays
  by_test (made.Is b) is h range = compared b h range (ap test_of is) (comparison_in (out-Expr t.expression.now)) refl
  by_test (made.Equals n) is h range = left_no_label d t r x x n range (ap test_of is) (no_operand t.expression.now h) refl
  by_test (made.Differs ns) is h range = left_no_labels d t r x x ns.now range (ap test_of is) (no_operand t.expression.now h) refl

  -- a range of a register that is not read stays
  pub range_unread : reads r t.expression.now ≡ false → d.members x ≡ None → Stays
  range_unread h range = by_test t.test refl h range
