-- Which bytes are text. 02, K2: "The coding says UTF8, so a text is lawful only if RFC 3629 allows it: no overlong forms, no
-- surrogates, nothing above U+10FFFF. A published grammar decides, written apart from the checker."
-- First that grammar, section 4 of the RFC, rule by rule with its ABNF line above it; then `is_text`, the same ranges as a
-- test. `demands`: `Utf8.text-exactly` says that the test is true of exactly the bytes that have the grammar.
use Rattle.std.specs.Prelude.{ℕ, ◌≤◌, List, [], ◌∷◌, ◌++◌, Bool, true, false, ◌&&◌, leb, eqb}
use Rattle.coding.specs.Lists.{pick}

-- ---- the grammar
-- the ABNF's %xLOW-HIGH: an octet in a range
pub record Within (low high octet : ℕ) : Type 0 where
  pub least : low ≤ octet
  pub most : octet ≤ high

-- "UTF8-tail = %x80-BF"
abbrev pub Tail : ℕ → Type 0
Tail octet = Within 0x80 0xBF octet

-- "UTF8-1 = %x00-7F": U+0000 is text
pub data OneOctet : List ℕ → Type 0 where
  one : {a : ℕ} → Within 0x00 0x7F a → OneOctet (a ∷ [])

-- "UTF8-2 = %xC2-DF UTF8-tail"
pub data TwoOctets : List ℕ → Type 0 where
  two : {a b : ℕ} → Within 0xC2 0xDF a → Tail b → TwoOctets (a ∷ b ∷ [])

-- "UTF8-3 = %xE0 %xA0-BF UTF8-tail / %xE1-EC 2( UTF8-tail ) / %xED %x80-9F UTF8-tail / %xEE-EF 2( UTF8-tail )"
pub data ThreeOctets : List ℕ → Type 0 where
  three-E0 : {b c : ℕ} → Within 0xA0 0xBF b → Tail c → ThreeOctets (0xE0 ∷ b ∷ c ∷ [])
  three-E1 : {a b c : ℕ} → Within 0xE1 0xEC a → Tail b → Tail c → ThreeOctets (a ∷ b ∷ c ∷ [])
  three-ED : {b c : ℕ} → Within 0x80 0x9F b → Tail c → ThreeOctets (0xED ∷ b ∷ c ∷ [])
  three-EE : {a b c : ℕ} → Within 0xEE 0xEF a → Tail b → Tail c → ThreeOctets (a ∷ b ∷ c ∷ [])

-- "UTF8-4 = %xF0 %x90-BF 2( UTF8-tail ) / %xF1-F3 3( UTF8-tail ) / %xF4 %x80-8F 2( UTF8-tail )"
pub data FourOctets : List ℕ → Type 0 where
  four-F0 : {b c d : ℕ} → Within 0x90 0xBF b → Tail c → Tail d → FourOctets (0xF0 ∷ b ∷ c ∷ d ∷ [])
  four-F1 : {a b c d : ℕ} → Within 0xF1 0xF3 a → Tail b → Tail c → Tail d → FourOctets (a ∷ b ∷ c ∷ d ∷ [])
  four-F4 : {b c d : ℕ} → Within 0x80 0x8F b → Tail c → Tail d → FourOctets (0xF4 ∷ b ∷ c ∷ d ∷ [])

-- "UTF8-char = UTF8-1 / UTF8-2 / UTF8-3 / UTF8-4"
pub data Character : List ℕ → Type 0 where
  of_one : {c : List ℕ} → OneOctet c → Character c
  of_two : {c : List ℕ} → TwoOctets c → Character c
  of_three : {c : List ℕ} → ThreeOctets c → Character c
  of_four : {c : List ℕ} → FourOctets c → Character c

-- "UTF8-octets = *( UTF8-char )": the sequences of octets that are text
pub data Characters : List ℕ → Type 0 where
  none : Characters []
  more : {c rest : List ℕ} → Character c → Characters rest → Characters (c ++ rest)

-- ---- the same as a test, one octet after the other
-- what may follow: a character or the end; one, two or three tails; what follows E0, ED, F0 or F4 and its tails; nothing
pub data TextState : Type 0 where
  Boundary OneTail TwoTails ThreeTails AfterE0 AfterED AfterF0 AfterF4 NoText : TextState

-- whether an octet is in a range
unfoldable pub within : ℕ → ℕ → ℕ → Bool
within low high x = leb low x && leb x high

-- the state after a character's first octet
unfoldable pub after_first : ℕ → TextState
after_first x =
    pick (within 0x00 0x7F x) Boundary
    (pick (within 0xC2 0xDF x) OneTail
    (pick (eqb x 0xE0) AfterE0
    (pick (within 0xE1 0xEC x) TwoTails
    (pick (eqb x 0xED) AfterED
    (pick (within 0xEE 0xEF x) TwoTails
    (pick (eqb x 0xF0) AfterF0
    (pick (within 0xF1 0xF3 x) ThreeTails
    (pick (eqb x 0xF4) AfterF4 NoText))))))))

-- the state after an octet
unfoldable pub after_octet : TextState → ℕ → TextState
after_octet Boundary x = after_first x
after_octet OneTail x = pick (within 0x80 0xBF x) Boundary NoText
after_octet TwoTails x = pick (within 0x80 0xBF x) OneTail NoText
after_octet ThreeTails x = pick (within 0x80 0xBF x) TwoTails NoText
after_octet AfterE0 x = pick (within 0xA0 0xBF x) OneTail NoText
after_octet AfterED x = pick (within 0x80 0x9F x) OneTail NoText
after_octet AfterF0 x = pick (within 0x90 0xBF x) TwoTails NoText
after_octet AfterF4 x = pick (within 0x80 0x8F x) TwoTails NoText
after_octet NoText x = NoText

-- whether a text may end in a state
unfoldable pub may_end : TextState → Bool
may_end Boundary = true
may_end OneTail = false
may_end TwoTails = false
may_end ThreeTails = false
may_end AfterE0 = false
may_end AfterED = false
may_end AfterF0 = false
may_end AfterF4 = false
may_end NoText = false

-- whether octets are what may follow in a state
unfoldable pub text_from : TextState → List ℕ → Bool
text_from q [] = may_end q
text_from q (x ∷ xs) = text_from (after_octet q x) xs

-- whether octets are text
unfoldable pub is_text : List ℕ → Bool
is_text xs = text_from Boundary xs
