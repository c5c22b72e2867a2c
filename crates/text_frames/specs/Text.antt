-- What is printed of one frame (rules D3 to D7): for an accepted one a line for each field and a closing line, for any other one line.
use Rattle.std.specs.Prelude.{ℕ, List, [], ◌∷◌, ◌++◌, leb, length}
use Rattle.wire.specs.Choose.{choose}
use Rattle.wire.specs.Numbers.{number_of}
use Rattle.wire.specs.Fixed.{fixed}
use Rattle.wire.specs.Written.{Content, Number, Payload, Four, Eight, Item, content_kind}
use Rattle.wire.specs.Places.{items}
use Rattle.wire.specs.Reading.{Message, Fields, Refused, read_message}
use Rattle.fault.specs.Fault.{message_fault}
use Rattle.text_digits.specs.Digits.{digits, decimal, hexed}
use Rattle.text_hex.specs.Frame.{Decoded, Decodes, Fails, decoded, line_limit}

-- ---- pieces

-- numbers in decimal, a space before each, and what follows them
abbrev pub spaced : List ℕ → List ℕ → List ℕ
spaced [] rest = rest
spaced (v ∷ vs) rest = 32 ∷ decimal v ++ spaced vs rest

-- the words F, OK, NO, HEX and LONG, a space before each
abbrev pub word_f : List ℕ
word_f = 32 ∷ 70 ∷ []

abbrev pub word_ok : List ℕ
word_ok = 32 ∷ 79 ∷ 75 ∷ []

abbrev pub word_no : List ℕ
word_no = 32 ∷ 78 ∷ 79 ∷ []

abbrev pub word_hex : List ℕ
word_hex = 32 ∷ 72 ∷ 69 ∷ 88 ∷ []

abbrev pub word_long : List ℕ
word_long = 32 ∷ 76 ∷ 79 ∷ 78 ∷ 71 ∷ []

-- the frame's number and a word
abbrev pub headed : ℕ → List ℕ → List ℕ
headed n word = decimal n ++ word

-- a line of a number, a word and numbers
unfoldable pub told : ℕ → List ℕ → List ℕ → List ℕ
told n word vs = headed n word ++ spaced vs (10 ∷ [])

-- Rule D6: a varint as 16 digits, other bytes as they stand on the wire, an empty payload as a dash
unfoldable pub bytes_text : List ℕ → List ℕ
bytes_text [] = 45 ∷ []
bytes_text (b ∷ bs) = hexed (b ∷ bs)

unfoldable pub value_text : Content → List ℕ
value_text (Number v) = digits 16 16 v
value_text (Payload p) = bytes_text p
value_text (Four n) = hexed (fixed 4 n)
value_text (Eight n) = hexed (fixed 8 n)

-- Rule D5: a field after its line's head: tag, type and value
unfoldable pub field_text : List ℕ → Item → List ℕ
field_text head i = head ++ spaced (i.tag ∷ content_kind i.content ∷ []) (32 ∷ value_text i.content ++ 10 ∷ [])

abbrev pub fields_text : List ℕ → List Item → List ℕ
fields_text head [] = []
fields_text head (i ∷ is) = field_text head i ++ fields_text head is

-- ---- a frame

-- Rules D5 and D7: a message that was read: n F tag type value for each field, then n OK count bytes; or n NO number place failing bytes
abbrev pub message_text : ℕ → List ℕ → Message → List ℕ
message_text n s (Fields fs) = fields_text (headed n word_f) (items s fs) ++ told n word_ok (length fs ∷ length s ∷ [])
message_text n s (Refused r p) = let f = message_fault s 0 (length s) in told n word_no (number_of r ∷ p ∷ f.place ∷ f.bytes ∷ [])

abbrev pub decoded_text : ℕ → Decoded → List ℕ
decoded_text n (Decodes bs) = message_text n bs (read_message bs 0 (length bs))
decoded_text n Fails = told n word_hex []

-- Rules D3 and D4: line n, all of its characters: n LONG if they are more than 4,096, then n HEX if they are odd in number or one is no digit
unfoldable pub printed : ℕ → List ℕ → List ℕ
printed n cs = choose (leb (length cs) line_limit) (decoded_text n (decoded cs)) (told n word_long [])
