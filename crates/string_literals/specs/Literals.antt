-- String literals: a text in double quotes, in which a backslash begins one of five escapes.
use Rattle.std.specs.Prelude.{ℕ, ◌==◌, if◌then◌else◌, List, [], ◌∷◌, ◌++◌, Option, Some, None}
use Rattle.std.specs.List.{flat_map}

-- the byte that a backslash and the letter represent: `\"` `\\` `\n` `\r` `\t` and no other
abbrev pub escaped : ℕ → Option ℕ
escaped b =
    if b == 34 then Some 34
    else (if b == 92 then Some 92
    else (if b == 110 then Some 10
    else (if b == 114 then Some 13
    else (if b == 116 then Some 9
    else None))))

-- a byte of the text as it is written: an escape for `"`, `\`, LF, CR and tab, and itself else
abbrev pub escape : ℕ → List ℕ
escape b =
    if b == 34 then 92 ∷ 34 ∷ []
    else (if b == 92 then 92 ∷ 92 ∷ []
    else (if b == 10 then 92 ∷ 110 ∷ []
    else (if b == 13 then 92 ∷ 114 ∷ []
    else (if b == 9 then 92 ∷ 116 ∷ []
    else b ∷ []))))

abbrev pub string_literal : List ℕ → List ℕ
string_literal text = 34 ∷ (flat_map escape text ++ 34 ∷ [])
