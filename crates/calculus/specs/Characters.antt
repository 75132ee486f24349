-- Bytes as characters, the text domain and white space.
use Rattle.std.specs.Prelude.{ℕ, ◌+◌, Bool, true, false, ◌&&◌, ◌||◌, cond, List, [], ◌∷◌, ◌++◌, eqb}
use Prim.Native.Char.{code}
use Prim.Native.String as string
use Prim.Native.String.{String}
use Rattle.std.proofs.Math.Option.{Option, none, some}
use Rattle.calculus.specs.Numbers.{between}

-- the code point of the lambda sign, whose bytes are CE BB
abbrev pub sign : ℕ
sign = 955

-- WHITE SPACE
abbrev pub white : ℕ → Bool
white c = eqb c 32 || eqb c 9 || eqb c 10 || eqb c 13

-- THE TEXT DOMAIN
abbrev pub in_domain : ℕ → Bool
in_domain c = white c || between 33 126 c || eqb c sign

-- a byte before characters: CE before BB is the sign, any other byte is a character by itself
abbrev pub joined : ℕ → List ℕ → List ℕ
joined b [] = b ∷ []
joined b (c ∷ cs) = cond (eqb b 0xCE && eqb c 0xBB) (sign ∷ cs) (b ∷ c ∷ cs)

-- the characters of any bytes
unfoldable pub characters : List ℕ → List ℕ
characters [] = []
characters (b ∷ bs) = joined b (characters bs)

-- the bytes of characters
abbrev pub spelled : ℕ → List ℕ
spelled c = cond (eqb c sign) (0xCE ∷ 0xBB ∷ []) (c ∷ [])

unfoldable pub bytes : List ℕ → List ℕ
bytes [] = []
bytes (c ∷ cs) = spelled c ++ bytes cs

-- how many bytes a character takes
abbrev pub width : ℕ → ℕ
width c = cond (eqb c sign) 2 1

-- the offset of the first byte outside the domain, where the characters begin at an offset
unfoldable pub first_outside : ℕ → List ℕ → Option ℕ
first_outside at [] = none
first_outside at (c ∷ cs) = cond (in_domain c) (first_outside (at + width c) cs) (some at)

-- the characters of a text in quotes
unfoldable pub codes : String → List ℕ
codes string.[] = []
codes (string.◌∷◌ c s) = code c ∷ codes s

-- two lists of characters are the same
unfoldable pub same_text : List ℕ → List ℕ → Bool
same_text [] [] = true
same_text [] (d ∷ ds) = false
same_text (c ∷ cs) [] = false
same_text (c ∷ cs) (d ∷ ds) = eqb c d && same_text cs ds
