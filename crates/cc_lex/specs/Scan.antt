-- The scanner as a function on lists, a twin of the code: what is at a place, and from it the tokens or
-- the first fault. Not the meaning of the tokens, which stands in Tokens.
use Rattle.std.specs.Prelude.{◌≡◌, ℕ, zero, suc, ◌+◌, ◌-◌, Bool, true, false, ◌&&◌, not, ◌==◌, if◌then◌else◌, List, [], ◌∷◌, length, take, drop, slice_index, find, Option, Some, None, Result, Ok, Err, ⊤}
use Rattle.std.specs.List.{prefix_len, starts_with}
use Rattle.cc_lex.specs.declared.byte.Class.{Class}
use Rattle.cc_lex.specs.declared.byte.Class.TheVariants as class
use Rattle.cc_lex.specs.declared.fault.LexFault.{LexFault}
use Rattle.cc_lex.specs.declared.fault.LexFault.TheVariants as fault
use Rattle.cc_lex.specs.declared.scan.Piece.{Piece}
use Rattle.cc_lex.specs.declared.scan.Piece.TheVariants as piece
use Rattle.cc_lex.specs.declared.token.Kind.TheVariants as kind
use Rattle.cc_lex.specs.declared.token.Mark.{Mark}
use Rattle.cc_lex.specs.declared.token.Mark.TheVariants as mark
use Rattle.cc_lex.specs.declared.token.Suffix.{Suffix}
use Rattle.cc_lex.specs.declared.token.Token.{Token}
use Rattle.cc_words.specs.Names.{is_letter, is_digit, is_letter_or_digit}
use Rattle.cc_lex.specs.Bytes.{is_blank, is_other_space, is_in_line}
use Rattle.cc_lex.specs.Identifiers.{name_kind}
use Rattle.cc_lex.specs.Marks.{spelling_of}
use Rattle.cc_lex.specs.ScanParts.{goes_on, begins_fraction, element_of, number_of, is_skipped}

-- what a byte begins, where it stands at the front of a separator or a token
unfoldable pub class_of : ℕ → Class
class_of b =
    if is_letter b then class.Letter
    else if is_digit b then class.Digit
    else if b == 46 then class.Point
    else if b == 39 then class.Apostrophe
    else if b == 34 then class.Quote
    else if is_blank b then class.Blank
    else if b == 10 then class.LineFeed
    else if is_other_space b then class.OtherSpace
    else if b == 47 then class.Slash
    else if b == 35 then class.Hash
    else class.Other

-- how many bytes of the text belong to a run behind `before`
abbrev pub run_len : ℕ → List ℕ → ℕ
run_len before [] = 0
run_len before (b ∷ bs) = if goes_on before b then suc (run_len b bs) else 0

abbrev pub one_more : Option ℕ → Option ℕ
one_more None = None
one_more (Some n) = Some (suc n)

-- how many bytes stand before the quote that closes a literal; the flag says that a backslash stands
-- before the text
abbrev pub content_len : ℕ → Bool → List ℕ → Option ℕ
content_len quote escaped [] = None
content_len quote escaped (b ∷ bs) =
    if b == 10 then None
    else if not escaped && b == quote then Some 0
    else one_more (content_len quote (not escaped && b == 92) bs)

-- how many bytes stand up to and with the first `*/`; the flag says that a star stands before the text
abbrev pub close_len : Bool → List ℕ → Option ℕ
close_len star [] = None
close_len star (b ∷ bs) = if star && b == 47 then Some 1 else one_more (close_len (b == 42) bs)

-- the marks, the longest first
abbrev pub marks : List Mark
marks = mark.Dots ∷ mark.ShlAssign ∷ mark.ShrAssign ∷ mark.Arrow ∷ mark.PlusPlus ∷ mark.MinusMinus ∷ mark.Shl
    ∷ mark.Shr ∷ mark.Le ∷ mark.Ge ∷ mark.EqEq ∷ mark.NotEq ∷ mark.AndAnd ∷ mark.OrOr ∷ mark.StarAssign
    ∷ mark.SlashAssign ∷ mark.PercentAssign ∷ mark.PlusAssign ∷ mark.MinusAssign ∷ mark.AndAssign ∷ mark.XorAssign
    ∷ mark.OrAssign ∷ mark.LBracket ∷ mark.RBracket ∷ mark.LParen ∷ mark.RParen ∷ mark.LBrace ∷ mark.RBrace
    ∷ mark.Dot ∷ mark.Amp ∷ mark.Star ∷ mark.Plus ∷ mark.Minus ∷ mark.Tilde ∷ mark.Bang ∷ mark.Slash ∷ mark.Percent
    ∷ mark.Lt ∷ mark.Gt ∷ mark.Caret ∷ mark.Bar ∷ mark.Question ∷ mark.Colon ∷ mark.Semi ∷ mark.Assign ∷ mark.Comma
    ∷ []

-- the longest mark at the front
unfoldable pub mark_of : List ℕ → Option Mark
mark_of text = find (λ m. starts_with ◌==◌ text (spelling_of m)) marks

abbrev pub Reading : Type 0
Reading = Result Piece LexFault

abbrev pub name_at : List ℕ → Reading
name_at text = Ok (piece.Spelled (prefix_len is_letter_or_digit text) (name_kind (take (prefix_len is_letter_or_digit text) text)))

abbrev pub numbered : ℕ → ℕ → Option (ℕ × Suffix) → Reading
numbered at n None = Err (fault.BadNumber at)
numbered at n (Some (v, s)) = Ok (piece.Spelled n (kind.Number v s))

-- how many bytes of the text belong to the run that it begins with
abbrev pub run_of : List ℕ → ℕ
run_of [] = 0
run_of (c ∷ cs) = suc (run_len c cs)

abbrev pub number_at : ℕ → List ℕ → Reading
number_at at text = numbered at (run_of text) (number_of (take (run_of text) text))

abbrev pub marked : ℕ → Option Mark → Reading
marked at None = Err (fault.BadByte at)
marked at (Some m) = Ok (piece.Spelled (length (spelling_of m)) (kind.Punct m))

abbrev pub mark_at : ℕ → List ℕ → Reading
mark_at at text = marked at (mark_of text)

abbrev pub one_element : ℕ → ℕ → ℕ × Option ℕ → Reading
one_element at n (len, None) = if len == n then Err (fault.BadNumber (at + 1)) else Err (fault.OpenText at)
one_element at n (len, Some v) = if len == n then Ok (piece.Spelled (n + 2) (kind.Character v)) else Err (fault.OpenText at)

abbrev pub character_in : ℕ → List ℕ → Option ℕ → Reading
character_in at rest None = Err (fault.OpenText at)
character_in at rest (Some n) =
    if n == 0 then Err (fault.OpenText at) else one_element at n (element_of (take n rest))

abbrev pub character_at : ℕ → List ℕ → Reading
character_at at text = character_in at (drop 1 text) (content_len 39 false (drop 1 text))

abbrev pub put_byte : ℕ → Result (List ℕ) LexFault → Result (List ℕ) LexFault
put_byte v (Ok vs) = Ok (v ∷ vs)
put_byte v (Err e) = Err e

abbrev pub with_element : ℕ → ℕ × Option ℕ → (ℕ → Result (List ℕ) LexFault) → Result (List ℕ) LexFault
with_element at (n, None) next = Err (fault.BadNumber at)
with_element at (n, Some v) next = put_byte v (next (n - 1))

-- the bytes of a content that stands at byte `at`; the first `skip` bytes belong to an element before it
abbrev pub bytes_of : ℕ → ℕ → List ℕ → Result (List ℕ) LexFault
bytes_of skip at [] = Ok []
bytes_of (suc skip) at (b ∷ bs) = bytes_of skip (at + 1) bs
bytes_of zero at (b ∷ bs) = with_element at (element_of (b ∷ bs)) (λ n. bytes_of n (at + 1) bs)

abbrev pub text_of : ℕ → Result (List ℕ) LexFault → Reading
text_of n (Ok vs) = Ok (piece.Spelled (n + 2) (kind.Text vs))
text_of n (Err e) = Err e

abbrev pub text_in : ℕ → List ℕ → Option ℕ → Reading
text_in at rest None = Err (fault.OpenText at)
text_in at rest (Some n) = text_of n (bytes_of 0 (at + 1) (take n rest))

abbrev pub text_at : ℕ → List ℕ → Reading
text_at at text = text_in at (drop 1 text) (content_len 34 false (drop 1 text))

abbrev pub comment_in : ℕ → Option ℕ → Reading
comment_in at None = Err (fault.OpenComment at)
comment_in at (Some n) = Ok (piece.Gap (n + 2) false)

-- what begins with a slash
abbrev pub slash_at : ℕ → List ℕ → Reading
slash_at at [] = mark_at at []
slash_at at (a ∷ []) = mark_at at (a ∷ [])
slash_at at (a ∷ b ∷ bs) =
    if b == 47 then Ok (piece.Gap (prefix_len is_in_line (a ∷ b ∷ bs)) false)
    else if b == 42 then comment_in at (close_len false bs)
    else mark_at at (a ∷ b ∷ bs)

-- what begins with a `#` that is the first of its line
abbrev pub line_in : ℕ → List ℕ → ℕ → Reading
line_in at rest n = if is_skipped (take n rest) then Ok (piece.Gap (n + 1) false) else Err (fault.Directive at)

-- what begins with a `#`
abbrev pub line_at : Bool → ℕ → List ℕ → Reading
line_at false at text = Err (fault.BadByte at)
line_at true at text = line_in at (drop 1 text) (prefix_len is_in_line (drop 1 text))

abbrev pub by_class : Class → Bool → ℕ → List ℕ → Reading
by_class class.Letter fresh at text = name_at text
by_class class.Digit fresh at text = number_at at text
by_class class.Point fresh at text = if begins_fraction text then number_at at text else mark_at at text
by_class class.Apostrophe fresh at text = character_at at text
by_class class.Quote fresh at text = text_at at text
by_class class.Blank fresh at text = Ok (piece.Gap 1 fresh)
by_class class.LineFeed fresh at text = Ok (piece.Gap 1 true)
by_class class.OtherSpace fresh at text = Ok (piece.Gap 1 false)
by_class class.Slash fresh at text = slash_at at text
by_class class.Hash fresh at text = line_at fresh at text
by_class class.Other fresh at text = mark_at at text

-- what stands at the front of a text that isn't empty
unfoldable pub piece_at : Bool → ℕ → List ℕ → Reading
piece_at fresh at text = by_class (class_of (slice_index text 0)) fresh at text

-- the length of a separator or a spelling
abbrev pub size_of : Piece → ℕ
size_of (piece.Gap n after) = n
size_of (piece.Spelled n k) = n

abbrev pub put_token : Token → Result (List Token) LexFault → Result (List Token) LexFault
put_token t (Ok ts) = Ok (t ∷ ts)
put_token t (Err e) = Err e

abbrev pub with_piece : ℕ → Reading → (ℕ → Bool → Result (List Token) LexFault) → Result (List Token) LexFault
with_piece at (Err e) next = Err e
with_piece at (Ok (piece.Gap n after)) next = next (n - 1) after
with_piece at (Ok (piece.Spelled n k)) next = put_token (record { at = at; len = n; kind = k }) (next (n - 1) false)

-- the tokens of a text that stands at byte `at`, or its first fault; the first `skip` bytes belong to a
-- piece before it
abbrev pub tokens_of : ℕ → Bool → ℕ → List ℕ → Result (List Token) LexFault
tokens_of skip fresh at [] = Ok []
tokens_of (suc skip) fresh at (b ∷ bs) = tokens_of skip fresh (at + 1) bs
tokens_of zero fresh at (b ∷ bs) = with_piece at (piece_at fresh at (b ∷ bs)) (λ n after. tokens_of n after (at + 1) bs)

-- What a function returned, seen by view, is what reading gives, unless memory ran out.
abbrev pub FaultGives : {Y : Type 0} → LexFault → Result Y LexFault → Type 0
FaultGives fault.NoMemory read = ⊤
FaultGives e read = read ≡ Err e

abbrev pub Gives : {X Y : Type 0} → (X → Y) → Result X LexFault → Result Y LexFault → Type 0
Gives view (Ok x) read = read ≡ Ok (view x)
Gives view (Err e) read = FaultGives e read
