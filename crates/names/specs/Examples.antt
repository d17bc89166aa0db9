-- Worked examples of RFC 3629 and RFC 2781, and the ends of each range, computed from the definitions. Assumes nothing.
use Rattle.std.specs.Prelude.{◌≡◌, refl, List, [], ◌∷◌, ◌++◌, ℕ, replicate}
use Rattle.names.specs.declared.NameOfText.{NameOfText}
use Rattle.text.specs.Ranges.{between}
use Rattle.names.specs.Utf8.{size_of, in_range, of_two, of_three, of_four, scalar_at, units_of, utf8_of, point_of}
use Rattle.names.specs.NameTexts.{refused_name, name_from, name_of_text, unit_at, point_at, text_from, name_text}

-- a name of these units and of zeros up to 36, which are given too
abbrev gives : List ℕ → ℕ → NameOfText
gives us zeros = record { number = 0; at = 0; name = us ++ replicate zeros 0 }

-- ---- RFC 3629, section 7: the bytes, and the units that they stand for

-- "A<NOT IDENTICAL TO><ALPHA>."
abbrev not_identical : List ℕ
not_identical = 0x41 ∷ 0xE2 ∷ 0x89 ∷ 0xA2 ∷ 0xCE ∷ 0x91 ∷ 0x2E ∷ []

pub not-identical-read : name_of_text not_identical ≡ gives (0x0041 ∷ 0x2262 ∷ 0x0391 ∷ 0x002E ∷ []) 32
unfolding name_of_text name_from scalar_at size_of between in_range of_two of_three of_four units_of
not-identical-read = refl

pub not-identical-told : name_text (0x0041 ∷ 0x2262 ∷ 0x0391 ∷ 0x002E ∷ 0 ∷ []) ≡ not_identical
unfolding name_text text_from unit_at point_at point_of between utf8_of
not-identical-told = refl

-- the Korean word for the language
abbrev hangugeo : List ℕ
hangugeo = 0xED ∷ 0x95 ∷ 0x9C ∷ 0xEA ∷ 0xB5 ∷ 0xAD ∷ 0xEC ∷ 0x96 ∷ 0xB4 ∷ []

pub hangugeo-read : name_of_text hangugeo ≡ gives (0xD55C ∷ 0xAD6D ∷ 0xC5B4 ∷ []) 33
unfolding name_of_text name_from scalar_at size_of between in_range of_two of_three of_four units_of
hangugeo-read = refl

pub hangugeo-told : name_text (0xD55C ∷ 0xAD6D ∷ 0xC5B4 ∷ []) ≡ hangugeo
unfolding name_text text_from unit_at point_at point_of between utf8_of
hangugeo-told = refl

-- the Japanese word for the language
abbrev nihongo : List ℕ
nihongo = 0xE6 ∷ 0x97 ∷ 0xA5 ∷ 0xE6 ∷ 0x9C ∷ 0xAC ∷ 0xE8 ∷ 0xAA ∷ 0x9E ∷ []

pub nihongo-read : name_of_text nihongo ≡ gives (0x65E5 ∷ 0x672C ∷ 0x8A9E ∷ []) 33
unfolding name_of_text name_from scalar_at size_of between in_range of_two of_three of_four units_of
nihongo-read = refl

-- a byte order mark, which is a character like any other here, and U+233B4
abbrev stump : List ℕ
stump = 0xEF ∷ 0xBB ∷ 0xBF ∷ 0xF0 ∷ 0xA3 ∷ 0x8E ∷ 0xB4 ∷ []

pub stump-read : name_of_text stump ≡ gives (0xFEFF ∷ 0xD84C ∷ 0xDFB4 ∷ []) 33
unfolding name_of_text name_from scalar_at size_of between in_range of_two of_three of_four units_of
stump-read = refl

pub stump-told : name_text (0xFEFF ∷ 0xD84C ∷ 0xDFB4 ∷ []) ≡ stump
unfolding name_text text_from unit_at point_at point_of between utf8_of
stump-told = refl

-- ---- RFC 2781, section 5: U+12345 and "=Ra"

pub ra-read : name_of_text (0xF0 ∷ 0x92 ∷ 0x8D ∷ 0x85 ∷ 0x3D ∷ 0x52 ∷ 0x61 ∷ []) ≡ gives (0xD808 ∷ 0xDF45 ∷ 0x003D ∷ 0x0052 ∷ 0x0061 ∷ []) 31
unfolding name_of_text name_from scalar_at size_of between in_range of_two of_three of_four units_of
ra-read = refl

-- ---- the ends of each range (RFC 3629, section 4)

pub ends_read :
    name_of_text
    (0x7F ∷ 0xC2 ∷ 0x80 ∷ 0xDF ∷ 0xBF ∷ 0xE0 ∷ 0xA0 ∷ 0x80 ∷ 0xED ∷ 0x9F ∷ 0xBF ∷ 0xEE ∷ 0x80 ∷ 0x80 ∷ 0xEF ∷ 0xBF ∷ 0xBF ∷ 0xF0 ∷ 0x90 ∷ 0x80 ∷ 0x80 ∷ 0xF4 ∷ 0x8F ∷ 0xBF ∷ 0xBF ∷ [])
    ≡ gives (0x007F ∷ 0x0080 ∷ 0x07FF ∷ 0x0800 ∷ 0xD7FF ∷ 0xE000 ∷ 0xFFFF ∷ 0xD800 ∷ 0xDC00 ∷ 0xDBFF ∷ 0xDFFF ∷ []) 25
unfolding name_of_text name_from scalar_at size_of between in_range of_two of_three of_four units_of
ends_read = refl

-- "A", and a zero in two bytes (RFC 3629, section 10)
pub overlong : name_of_text (0x41 ∷ 0xC0 ∷ 0x80 ∷ []) ≡ refused_name 39 1
unfolding name_of_text name_from scalar_at size_of between in_range of_two of_three of_four units_of
overlong = refl

-- U+07FF in three bytes, and U+FFFF in four
pub overlong-3 : name_of_text (0xE0 ∷ 0x9F ∷ 0xBF ∷ []) ≡ refused_name 39 0
unfolding name_of_text name_from scalar_at size_of between in_range of_two of_three of_four units_of
overlong-3 = refl

pub overlong-4 : name_of_text (0xF0 ∷ 0x8F ∷ 0xBF ∷ 0xBF ∷ []) ≡ refused_name 39 0
unfolding name_of_text name_from scalar_at size_of between in_range of_two of_three of_four units_of
overlong-4 = refl

-- the first surrogate and the last, behind a character of three bytes
pub surrogate-first : name_of_text (0xE6 ∷ 0x97 ∷ 0xA5 ∷ 0xED ∷ 0xA0 ∷ 0x80 ∷ []) ≡ refused_name 39 3
unfolding name_of_text name_from scalar_at size_of between in_range of_two of_three of_four units_of
surrogate-first = refl

pub surrogate-last : name_of_text (0xED ∷ 0xBF ∷ 0xBF ∷ []) ≡ refused_name 39 0
unfolding name_of_text name_from scalar_at size_of between in_range of_two of_three of_four units_of
surrogate-last = refl

-- one past U+10FFFF
pub past-the-last : name_of_text (0xF4 ∷ 0x90 ∷ 0x80 ∷ 0x80 ∷ []) ≡ refused_name 39 0
unfolding name_of_text name_from scalar_at size_of between in_range of_two of_three of_four units_of
past-the-last = refl

-- a text that ends inside a character, one that begins inside one, and the character 0
pub cut_short : name_of_text (0x41 ∷ 0xE2 ∷ 0x89 ∷ []) ≡ refused_name 39 1
unfolding name_of_text name_from scalar_at size_of between in_range of_two of_three of_four units_of
cut_short = refl

pub begins-inside : name_of_text (0x89 ∷ 0xA2 ∷ []) ≡ refused_name 39 0
unfolding name_of_text name_from scalar_at size_of between in_range of_two of_three of_four units_of
begins-inside = refl

pub zero-inside : name_of_text (0x41 ∷ 0x42 ∷ 0x00 ∷ 0x43 ∷ []) ≡ refused_name 39 2
unfolding name_of_text name_from scalar_at size_of between in_range of_two of_three of_four units_of
zero-inside = refl

-- ---- 36 units, and not one more

pub full : name_of_text (replicate 36 0x41) ≡ gives (replicate 36 0x0041) 0
unfolding name_of_text name_from scalar_at size_of between in_range of_two of_three of_four units_of
full = refl

pub over-full : name_of_text (replicate 37 0x41) ≡ refused_name 40 36
unfolding name_of_text name_from scalar_at size_of between in_range of_two of_three of_four units_of
over-full = refl

-- of a pair the last place has room for half
pub half-a-pair : name_of_text (replicate 35 0x41 ++ (0xF0 ∷ 0xA3 ∷ 0x8E ∷ 0xB4 ∷ [])) ≡ refused_name 40 35
unfolding name_of_text name_from scalar_at size_of between in_range of_two of_three of_four units_of
half-a-pair = refl

-- ---- surrogates that have no partner: a low one, a high one, and a high one whose partner would be the 37th unit

pub lone-told : name_text (0xDC00 ∷ 0x0041 ∷ 0xDBFF ∷ 0x0042 ∷ []) ≡ 0xEF ∷ 0xBF ∷ 0xBD ∷ 0x41 ∷ 0xEF ∷ 0xBF ∷ 0xBD ∷ 0x42 ∷ []
unfolding name_text text_from unit_at point_at point_of between utf8_of
lone-told = refl

pub partner-outside : name_text (replicate 35 0x0041 ++ (0xD84C ∷ 0xDFB4 ∷ [])) ≡ replicate 35 0x41 ++ (0xEF ∷ 0xBF ∷ 0xBD ∷ [])
unfolding name_text text_from unit_at point_at point_of between utf8_of
partner-outside = refl
