-- What an expression may give, and the addresses of a place, grow with the sets of the registers. By induction over how the lesser ones come
-- about; the greater ones come about by the same form.
use Rattle.std.proofs.Common.{◌≡◌, ℕ, Option, Some, sym, ◌∙◌, subst}
use Rattle.std.proofs.lemmas.Option.{same_Some}
use Rattle.std.specs.List.{Contains}
use Rattle.cc_state_values_sound.specs.CcPlaces.Abstract.{IsBelowAbs}
use Rattle.cc_state_values_sound.specs.CcPlaces.Sets.{IsWithin}
use Rattle.cc_state_values_sound.specs.CcPlaces.declared.abs.Abs.{Abs}
use Rattle.cc_state_values_sound.specs.CcPlaces.declared.abs.Abs.TheVariants as abs
use Rattle.cc_state_values_sound.specs.CcPlaces.declared.addrs.Addrs.{Addrs}
use Rattle.cc_state_values_sound.specs.CcPlaces.laws.SetLaws.{set_within}
use Rattle.cc_program.specs.declared.expr.Expr.{Expr}
use Rattle.cc_program.specs.declared.expr.Expr.TheOpen as one
use Rattle.cc_program.specs.declared.expr.Place.{Place as PlaceOf}
use Rattle.cc_program.specs.declared.func.Func.{Func}
use Rattle.cc_program.specs.declared.program.Program.{Program}
use Rattle.cc_program.specs.declared.value.Address.{Address}
use Rattle.cc_state_values_sound.specs.CcStateOperators.Addresses.{IsElement, member_address, AreMembers, AreElements}
use Rattle.cc_state_values_sound.specs.CcStateOperators.Domains.{Domain}
use Rattle.cc_state_values_sound.proofs.CcStateValues.Same.{IsOrdered, value_at, places_at}
use Rattle.cc_state_values_sound.specs.CcStateValues.Values.{IsVal, OfConst, OfNull, OfFunction, OfRegister, OfAddress, OfUn, OfBin, OfConv, OfQualify, OfMove, OfGap, OfCompare, OfBoth, OfEither, OfChoose, Designates, AtLocal, AtStatic, AtDevice, AtElement, AtMember, AtTarget}
use Rattle.cc_state_values_grow.proofs.Images.{IsOrder, hull_grows, both_grows, either_grows, union_grows, gap_grows, comparison_grows}
use Rattle.cc_state_values_grow.proofs.Sets.{moved_more, stepped_grows}
use Rattle.cc_state_values_grow.specs.Growth.{AreRegistersBelow, LeadSomewhere}
use Rattle.cc_state_values_sound.proofs.Starring.{member_steps, element_steps}
use Rattle.cc_state_values_sound.specs.Steps.{IsReal}
use Rattle.cc_state_values_sound.specs.CcSyntax.Effects.{place_effects_of}
use Rattle.cc_state_values_sound.specs.CcSyntax.Programs.{place_type}
use Rattle.cc_state_values_sound.specs.CcSyntax.Values.{PlaceType}

module _ {I : Type 0} (d : Domain I) (o : IsOrdered d) (order : IsOrder d) (p : Program) (id : ℕ) (f : Func) (register more : ℕ → Option (Abs I))
    (below : AreRegistersBelow d.below register more) (real : LeadSomewhere d p id f register) where
  abbrev Below : Abs I → Abs I → Type 0
  Below x y = IsBelowAbs d.below x y

  abbrev Valued : Expr → Abs I → Type 0
  Valued e y = IsVal d p id f register e y

  abbrev Placed : PlaceOf → Addrs → Type 0
  Placed a s = Designates d p id f register a s

  abbrev ValuedMore : Expr → Abs I → Type 0
  ValuedMore e y = IsVal d p id f more e y

  abbrev PlacedMore : PlaceOf → Addrs → Type 0
  PlacedMore a s = Designates d p id f more a s

  integers : (y z : Abs I) (x w : I) → y ≡ abs.Ints x → z ≡ abs.Ints w → d.below x w → Below y z
  integers y z x w h k e = subst (λ (u : Abs I). Below u z) (sym h) (subst (λ (u : Abs I). Below (abs.Ints x) u) (sym k) e)

  addresses : (y z : Abs I) (r s : Addrs) → y ≡ abs.Addrs r → z ≡ abs.Addrs s → IsWithin r s → Below y z
  addresses y z r s h k e = subst (λ (u : Abs I). Below u z) (sym h) (subst (λ (u : Abs I). Below (abs.Addrs r) u) (sym k) e)

  registers_grow : (a : Option ℕ) (q r : ℕ) (y z : Abs I) → a ≡ Some q → a ≡ Some r → register q ≡ Some y → more r ≡ Some z → Below y z
  registers_grow a q r y z h k l m = below q y z l (subst (λ (n : ℕ). more n ≡ Some z) (same_Some r q (sym k ∙ h)) m)

  elements_grow : (b : PlaceOf) (t u : PlaceType) (q r s w : Addrs) (x y : I) → place_type p f.locals b ≡ Some t → place_type p f.locals b ≡ Some u → IsWithin q r → ((a : Address) → Contains q.members a → IsReal p a) →
      d.below x y → AreElements p t (d.has x) q s → AreElements p u (d.has y) r w → IsWithin s w
  elements_grow b t u q r s w x y h k l leads e m n =
      stepped_grows p (IsElement p t (d.has x)) (IsElement p t (d.has y)) (element_steps p t (d.has y)) (λ a c i. (i.0, order.grows x y e i.0 i.1, i.2)) q r s w l leads m
      (subst (λ (z : PlaceType). AreElements p z (d.has y) r w) (same_Some u t (sym k ∙ h)) n)

  members_grow : (b : PlaceOf) (m : ℕ) (t u : PlaceType) (q r s w : Addrs) → place_type p f.locals b ≡ Some t → place_type p f.locals b ≡ Some u → IsWithin q r → ((a : Address) → Contains q.members a → IsReal p a) →
      AreMembers p t m q s → AreMembers p u m r w → IsWithin s w
  members_grow b m t u q r s w h k l leads e n =
      stepped_grows p (λ a c. member_address p t m a ≡ Some c) (λ a c. member_address p t m a ≡ Some c) (member_steps p t m) (λ a c i. i) q r s w l leads e
      (subst (λ (z : PlaceType). AreMembers p z m r w) (same_Some u t (sym k ∙ h)) n)

  mutual
    pub value_more : (e : Expr) (y z : Abs I) → Valued e y → ValuedMore e z → Below y z
    value_more e y z (OfConst n t x h k l) v = let (x', k', l') = value_at d o p id f more e (one.Const n t) z h v in integers y z x x' l l' (hull_grows d o order (λ m. m ≡ n) (λ m. m ≡ n) x x' (λ m q. q) k k')
    value_more e y z (OfNull t s h k l) v = let (s', k', l') = value_at d o p id f more e (one.Null t) z h v in addresses y z s s' l l' (set_within _ s s' k k')
    value_more e y z (OfFunction g s h k l) v = let (s', k', l') = value_at d o p id f more e (one.FuncAddr g) z h v in addresses y z s s' l l' (set_within _ s s' k k')
    value_more e y z (OfRegister a r h k l) v = let (r', k', l') = value_at d o p id f more e (one.Load a) z h v in registers_grow (place_effects_of f a).register r r' y z k k' l l'
    value_more e y z (OfAddress a s h k l) v = let (s', k', l') = value_at d o p id f more e (one.AddrOf a) z h v in addresses y z s s' l l' (place_more a s s' k k')
    value_more e y z (OfUn q t a x w h k g m l) v =
        let (x', w', k', g', m', l') = value_at d o p id f more e (one.Un q t a) z h v in
        integers y z w w' l l' (o.op_one_grows q x w x' w' t p.target g' m m' (value_more a (abs.Ints x) (abs.Ints x') k k'))
    value_more e y z (OfBin q t a b x u w h k j g m l) v =
        let (x', u', w', k', j', g', m', l') = value_at d o p id f more e (one.Bin q t a b) z h v in
        integers y z w w' l l' (o.op_grows q x u w x' u' w' t p.target g' m m' (value_more a (abs.Ints x) (abs.Ints x') k k') (value_more b (abs.Ints u) (abs.Ints u') j j'))
    value_more e y z (OfConv t a x w h k m l) v =
        let (x', w', k', m', l') = value_at d o p id f more e (one.Conv t a) z h v in
        integers y z w w' l l' (o.to_grows x w x' w' t p.target m m' (value_more a (abs.Ints x) (abs.Ints x') k k'))
    value_more e y z (OfQualify t a h k) v = value_more a y z k (value_at d o p id f more e (one.Qualify t a) z h v)
    value_more e y z (OfMove a b back s r x h k j m l) v =
        let (s', r', x', k', j', m', l') = value_at d o p id f more e (one.Move a b back) z h v in
        addresses y z r r' l l'
        (moved_more back (d.has x) (d.has x') s s' r r' (value_more a (abs.Addrs s) (abs.Addrs s') k k') (order.grows x x' (value_more b (abs.Ints x) (abs.Ints x') j j')) m m')
    value_more e y z (OfGap a b s t x h k j m l) v =
        let (s', t', x', k', j', m', l') = value_at d o p id f more e (one.Gap a b) z h v in
        integers y z x x' l l' (gap_grows d o order p.target s s' t t' x x' (value_more a (abs.Addrs s) (abs.Addrs s') k k') (value_more b (abs.Addrs t) (abs.Addrs t') j j') m m')
    value_more e y z (OfCompare q a b s t x h k j m l) v =
        let (s', t', x', k', j', m', l') = value_at d o p id f more e (one.Compare q a b) z h v in
        integers y z x x' l l' (comparison_grows d o order q s s' t t' x x' (value_more a (abs.Addrs s) (abs.Addrs s') k k') (value_more b (abs.Addrs t) (abs.Addrs t') j j') m m')
    value_more e y z (OfBoth a b x u w h k j m l) v =
        let (x', u', w', k', j', m', l') = value_at d o p id f more e (one.Both a b) z h v in
        integers y z w w' l l' (both_grows d o order x x' u u' w w' (value_more a x x' k k') (value_more b u u' j j') m m')
    value_more e y z (OfEither a b x u w h k j m l) v =
        let (x', u', w', k', j', m', l') = value_at d o p id f more e (one.Either a b) z h v in
        integers y z w w' l l' (either_grows d o order x x' u u' w w' (value_more a x x' k k') (value_more b u u' j j') m m')
    value_more e y z (OfChoose c a b x u w h k i j m) v =
        let (x', u', w', k', i', j', m') = value_at d o p id f more e (one.Choose c a b) z h v in
        union_grows d o order x x' u u' w w' y z (value_more c x x' k k') (value_more a u u' i i') (value_more b w w' j j') m m'

    pub place_more : (a : PlaceOf) (r s : Addrs) → Placed a r → PlacedMore a s → IsWithin r s
    place_more a r s (AtLocal q h k) v = set_within _ r s k (places_at d o p id f more a (one.Local q) s h v)
    place_more a r s (AtStatic i h k) v = set_within _ r s k (places_at d o p id f more a (one.Static i) s h v)
    place_more a r s (AtDevice n h k) v = set_within _ r s k (places_at d o p id f more a (one.Device n) s h v)
    place_more a r s (AtElement b i t q x h k l m g) v =
        let (t', q', x', k', l', m', g') = places_at d o p id f more a (one.Element b i) s h v in
        elements_grow b t t' q q' r s x x' k k' (place_more b q q' l l') (real b t q k l) (value_more i (abs.Ints x) (abs.Ints x') m m') g g'
    place_more a r s (AtMember b m t q h k l g) v =
        let (t', q', k', l', g') = places_at d o p id f more a (one.Member b m) s h v in
        members_grow b m t t' q q' r s k k' (place_more b q q' l l') (real b t q k l) g g'
    place_more a r s (AtTarget e h k) v = value_more e (abs.Addrs r) (abs.Addrs s) k (places_at d o p id f more a (one.Deref e) s h v)
