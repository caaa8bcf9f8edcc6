-- Cases of RFC 3629 by computation: the examples of its section 7 with their values, and what it does not allow.
use Rattle.std.specs.Prelude.{ℕ, ◌≡◌, refl, true, false, List, [], ◌∷◌, map}
use Rattle.coding.specs.Utf8 as Utf8
use Rattle.demands.specs.Utf8Encoding.{encode, encode_all}

-- ---- section 7
-- "A<NOT IDENTICAL TO><ALPHA>."
abbrev not_identical : List ℕ
not_identical = 0x41 ∷ 0xE2 ∷ 0x89 ∷ 0xA2 ∷ 0xCE ∷ 0x91 ∷ 0x2E ∷ []

-- the Hangul for "the Korean language"
abbrev korean : List ℕ
korean = 0xED ∷ 0x95 ∷ 0x9C ∷ 0xEA ∷ 0xB5 ∷ 0xAD ∷ 0xEC ∷ 0x96 ∷ 0xB4 ∷ []

-- the Han characters for "the Japanese language"
abbrev japanese : List ℕ
japanese = 0xE6 ∷ 0x97 ∷ 0xA5 ∷ 0xE6 ∷ 0x9C ∷ 0xAC ∷ 0xE8 ∷ 0xAA ∷ 0x9E ∷ []

-- a byte order mark and a character above U+FFFF
abbrev stump : List ℕ
stump = 0xEF ∷ 0xBB ∷ 0xBF ∷ 0xF0 ∷ 0xA3 ∷ 0x8E ∷ 0xB4 ∷ []

pub examples : map Utf8.is_text (not_identical ∷ korean ∷ japanese ∷ stump ∷ []) ≡ true ∷ true ∷ true ∷ true ∷ []
unfolding Utf8.is_text Utf8.text_from Utf8.may_end Utf8.after_octet Utf8.after_first Utf8.within
examples = refl

pub examples-values :
    map encode_all
    ((0x41 ∷ 0x2262 ∷ 0x391 ∷ 0x2E ∷ [])
    ∷ (0xD55C ∷ 0xAD6D ∷ 0xC5B4 ∷ [])
    ∷ (0x65E5 ∷ 0x672C ∷ 0x8A9E ∷ [])
    ∷ (0xFEFF ∷ 0x233B4 ∷ [])
    ∷ [])
    ≡ not_identical ∷ korean ∷ japanese ∷ stump ∷ []
unfolding encode_all encode
examples-values = refl

-- ---- the ends of the ranges are text: U+0000, U+007F, U+0080, U+07FF, U+0800, U+D7FF, U+E000, U+FFFF, U+10000, U+10FFFF
pub ends :
    map (λ (v : ℕ). Utf8.is_text (encode v))
    (0x0 ∷ 0x7F ∷ 0x80 ∷ 0x7FF ∷ 0x800 ∷ 0xD7FF ∷ 0xE000 ∷ 0xFFFF ∷ 0x10000 ∷ 0x10FFFF ∷ [])
    ≡ true ∷ true ∷ true ∷ true ∷ true ∷ true ∷ true ∷ true ∷ true ∷ true ∷ []
unfolding encode Utf8.is_text Utf8.text_from Utf8.may_end Utf8.after_octet Utf8.after_first Utf8.within
ends = refl

-- ---- no text
-- U+0000 in two octets, in three; a surrogate; U+110000; a tail cut off; a tail alone; F5 and FF, which begin nothing
pub refusals :
    map Utf8.is_text
    ((0xC0 ∷ 0x80 ∷ [])
    ∷ (0xE0 ∷ 0x80 ∷ 0x80 ∷ [])
    ∷ (0xED ∷ 0xA0 ∷ 0x80 ∷ [])
    ∷ (0xF4 ∷ 0x90 ∷ 0x80 ∷ 0x80 ∷ [])
    ∷ (0xE2 ∷ 0x89 ∷ [])
    ∷ (0x80 ∷ [])
    ∷ (0xF5 ∷ 0x80 ∷ 0x80 ∷ 0x80 ∷ [])
    ∷ (0xFF ∷ [])
    ∷ [])
    ≡ false ∷ false ∷ false ∷ false ∷ false ∷ false ∷ false ∷ false ∷ []
unfolding Utf8.is_text Utf8.text_from Utf8.may_end Utf8.after_octet Utf8.after_first Utf8.within
refusals = refl
