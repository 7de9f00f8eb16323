-- The rows of a text, as they are read one after another. Each takes a byte at least, so they are no more than its bytes.
use Rattle.std.proofs.Common.{◌≡◌, ◌<◌, ◌≤◌, ◌+◌, ℕ, zero, suc, Bool, true, false, true≢false, List, [], ◌∷◌, ◌++◌, length, refl, sym, ◌∙◌, ap, map, Option, Some, None, arith, subst}
use Rattle.std.specs.Prelude.{◌==◌, ◌&&◌, ◌||◌, if◌then◌else◌}
use Rattle.std.proofs.lemmas.List.{length-map}
use Rattle.csv.specs.Machine.{Read, next_record, step, in_field, start_field, start_record, ends_at_end, is_end, fields_after, field_after}
use Rattle.csv.specs.Reading.{AreRecords, ExplainsRead, Reached, default_config, is_flexible, records_from, stops_reader, strip_bom}
use Rattle.csv.specs.declared.error.ErrorKind.{ErrorKind}
use Rattle.csv.specs.declared.error.ErrorKind.TheVariants as kind
use Rattle.csv.specs.declared.reader.Reader.{Reader}
use Rattle.csv.specs.declared.parser.Action.{Action}
use Rattle.csv.specs.declared.parser.Action.TheVariants as act
use Rattle.csv.specs.declared.parser.State.{State}
use Rattle.csv.specs.declared.parser.State.TheVariants as st
use Rattle.cc_rows.specs.Rows.{Row, rows_of}

-- ---- what ends a reading

-- a reader of bytes that takes rows of any length is ended by its source or by memory alone
pub only-stopped : {R : Type 0} (rem : R → Option (List ℕ)) (a b : Reader R) (k : ErrorKind) → is_flexible a ≡ true → ExplainsRead rem a b false k → stops_reader k ≡ true
only-stopped rem a b (kind.Io e) f h = refl
only-stopped rem a b kind.OutOfMemory f h = refl
only-stopped rem a b (kind.UnequalLengths at expected len) f h = absurd (true≢false (sym f ∙ h.0))
only-stopped rem a b (kind.Utf8 at err) f h = absurd (true≢false (sym h.0))
only-stopped rem a b (kind.Serialize why) f h = absurd h
only-stopped rem a b (kind.Deserialize at err) f h = absurd h

-- ---- all records

pub records-are : (rows : List Row) (n : ℕ) (s s2 : State) (xs ys : List ℕ) → length rows < n → Reached default_config s xs rows s2 ys → next_record default_config s2 [] [] ys ≡ None
    → records_from default_config n s xs ≡ rows
unfolding Reached records_from
records-are rows zero s s2 xs ys l h e = absurd (omega (arith, l))
records-are [] (suc n) s s2 xs ys l h e = rw (h.0, h.1, e) refl
records-are (r ∷ rows) (suc n) s s2 xs ys l h e =
    let (p, q, k, more) = h in
    rw (q, k) (ap (λ t. p.0 ∷ t) (records-are rows n p.1 s2 p.2 ys (omega (arith, l)) more e))

-- ---- how many there are

-- the byte that ends a record leaves no record begun
abbrev Went : Type 0
Went = State × Action

-- what a byte did leaves no record begun, where it ends one
abbrev EndsWell : Went → Type 0
EndsWell w = is_end w.1 ≡ true → ends_at_end w.0 ≡ false

ended : (a b d : Bool) → EndsWell (if a then (st.StartField, act.EndField) else if b then ((if d then st.AfterCr else st.StartRecord), act.EndRecord) else (st.InField, act.Copy))
ended true b d h = cc h
ended false true true h = refl
ended false true false h = refl
ended false false d h = cc h

field-ended : (c : ℕ) → EndsWell (in_field default_config c)
field-ended c = ended (c == 44) ((c == 13) || (c == 10)) (c == 13)

either : (q : Bool) (v w : Went) → EndsWell v → EndsWell w → EndsWell (if q then v else w)
either true v w f g = f
either false v w f g = g

start-ended : (c : ℕ) → EndsWell (start_field default_config c)
start-ended c = either (c == 34) (st.InQuoted, act.Skip) (in_field default_config c) (λ h. cc h) (field-ended c)

record-ended : (c : ℕ) → EndsWell (start_record default_config c)
record-ended c = either ((c == 13) || (c == 10)) (st.StartRecord, act.Skip) (start_field default_config c) (λ h. refl) (start-ended c)

step-ended : (s : State) (c : ℕ) → EndsWell (step default_config s c)
step-ended st.StartRecord c = record-ended c
step-ended st.StartField c = start-ended c
step-ended st.InField c = field-ended c
step-ended st.InQuoted c = either (c == 34) (st.AfterQuote, act.Skip) (st.InQuoted, act.Copy) (λ h. cc h) (λ h. cc h)
step-ended st.InEscape c = λ h. cc h
step-ended st.AfterQuote c = either (c == 34) (st.InQuoted, act.Copy) (in_field default_config c) (λ h. cc h) (field-ended c)
step-ended st.InComment c = either (c == 10) (st.StartRecord, act.Skip) (st.InComment, act.Skip) (λ h. refl) (λ h. cc h)
step-ended st.AfterCr c = either (c == 10) (st.StartRecord, act.Skip) (start_record default_config c) (λ h. refl) (record-ended c)

-- a record takes bytes, and leaves none begun
record Shorter (xs : List ℕ) (p : Read) : Type 0 where
  fewer : length p.2 ≤ length xs
  ended : ends_at_end p.1 ≡ false

shorter : (s : State) (fields : List (List ℕ)) (field xs : List ℕ) (p : Read) → next_record default_config s fields field xs ≡ Some p → Shorter xs p
unfolding next_record
shorter s fields field [] p h = by (ends_at_end s) h
  where
    by : (b : Bool) → (if b then Some (fields ++ (field ∷ []), st.StartRecord, []) else None) ≡ Some p → Shorter [] p
    by true e = let k : (fields ++ (field ∷ []), st.StartRecord, []) ≡ p = cc e in subst (Shorter []) k (record { fewer = omega arith; ended = refl })
    by false e = cc e
shorter s fields field (c ∷ rest) p h =
    by (is_end (step default_config s c).1) refl h
    (shorter (step default_config s c).0 (fields_after (step default_config s c).1 fields field) (field_after (step default_config s c).1 c field) rest p)
  where
    by : (b : Bool) → is_end (step default_config s c).1 ≡ b
        → (if b then Some (fields_after (step default_config s c).1 fields field, (step default_config s c).0, rest)
        else next_record default_config (step default_config s c).0 (fields_after (step default_config s c).1 fields field) (field_after (step default_config s c).1 c field) rest) ≡ Some p
        → (next_record default_config (step default_config s c).0 (fields_after (step default_config s c).1 fields field) (field_after (step default_config s c).1 c field) rest ≡ Some p → Shorter rest p)
        → Shorter (c ∷ rest) p
    by true i e more =
        let k : (fields_after (step default_config s c).1 fields field, (step default_config s c).0, rest) ≡ p = cc e in
        subst (Shorter (c ∷ rest)) k (record { fewer = omega arith; ended = step-ended s c i })
    by false i e more =
        let r = more e in
        let fewer = r.fewer in
        record { fewer = omega (arith, fewer); ended = r.ended }

-- from a state in which none is begun, one byte at least
taken : (s : State) (xs : List ℕ) (p : Read) → ends_at_end s ≡ false → next_record default_config s [] [] xs ≡ Some p → length p.2 + 1 ≤ length xs
unfolding next_record
taken s [] p n h = cc (rw n at h)
taken s (c ∷ rest) p n h = by (is_end (step default_config s c).1) h
  where
    by : (b : Bool)
        → (if b then Some (fields_after (step default_config s c).1 [] [], (step default_config s c).0, rest)
        else next_record default_config (step default_config s c).0 (fields_after (step default_config s c).1 [] []) (field_after (step default_config s c).1 c []) rest) ≡ Some p
        → length p.2 + 1 ≤ length (c ∷ rest)
    by true e =
        let k : (fields_after (step default_config s c).1 [] [], (step default_config s c).0, rest) ≡ p = cc e in
        subst (λ (q : Read). length q.2 + 1 ≤ length (c ∷ rest)) k (omega arith)
    by false e =
        let r = shorter (step default_config s c).0 (fields_after (step default_config s c).1 [] []) (field_after (step default_config s c).1 c []) rest p e in
        let fewer = r.fewer in
        omega (arith, fewer)

few : (rows : List Row) (s s2 : State) (xs ys : List ℕ) → ends_at_end s ≡ false → Reached default_config s xs rows s2 ys → length rows ≤ length xs
unfolding Reached
few [] s s2 xs ys n h = omega arith
few (r ∷ rows) s s2 xs ys n h =
    let (p, q, k, more) = h in
    let one = taken s xs p n q in
    let rest = few rows p.1 s2 p.2 ys (shorter s [] [] xs p q).ended more in
    omega (arith, one, rest)

stripped : (xs : List ℕ) → length (strip_bom xs) ≤ length xs
unfolding strip_bom
stripped [] = omega arith
stripped (a ∷ []) = omega arith
stripped (a ∷ b ∷ []) = omega arith
stripped (a ∷ b ∷ c ∷ rest) = by ((a == 0xEF) && (b == 0xBB) && (c == 0xBF))
  where
    by : (m : Bool) → length (if m then rest else a ∷ b ∷ c ∷ rest) ≤ length (a ∷ b ∷ c ∷ rest)
    by true = omega arith
    by false = omega arith

-- rows that were read to the end of a text are its rows
pub rows-are : (text : List ℕ) (rows : List Row) → AreRecords default_config st.StartRecord (strip_bom text) rows → rows_of text ≡ rows
unfolding rows_of
rows-are text rows h =
    let (s2, ys, reached, end) = h in
    let n = few rows st.StartRecord s2 (strip_bom text) ys refl reached in
    records-are rows (length (strip_bom text) + 1) st.StartRecord s2 (strip_bom text) ys (omega (arith, n)) reached end

pub rows-few : (text : List ℕ) (rows : List Row) → AreRecords default_config st.StartRecord (strip_bom text) rows → length rows ≤ length text
rows-few text rows h =
    let (s2, ys, reached, end) = h in
    let n = few rows st.StartRecord s2 (strip_bom text) ys refl reached in
    let m = stripped text in
    omega (arith, n, m)

pub lines-few : {L : Type 0} (text : List ℕ) (rows : List Row) (lines : List L) (said_by : Row → L) → length rows ≤ length text → lines ≡ map said_by rows → length lines ≤ length text
lines-few text rows lines said_by h e = let k = ap length e in let m : length (map said_by rows) ≡ length rows = simp length-map in omega (arith, h, k, m)
