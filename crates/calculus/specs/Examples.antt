-- THE SIXTEEN EXAMPLES, P1 to P16: calls of entry points and what they answer and leave.
use Rattle.std.specs.Prelude.{ℕ, ◌-◌, List, [], ◌∷◌, ◌++◌, length, replicate}
use Prim.Native.String.{String}
use Rattle.calculus.specs.Term.{Term, var, lam, app}
use Rattle.calculus.specs.Refusal.{Answer, given, refused, invalid_character, empty_expression, index_too_great}
use Rattle.calculus.specs.Bytes.{encode}
use Rattle.calculus.specs.Orders.{Order, CBN, APP, NOR}
use Rattle.calculus.specs.Runs.{Run, finished, unfinished, refused_after}
use Rattle.calculus.specs.Characters.{bytes, codes}
use Rattle.calculus.specs.Reading.{Notation, de_bruijn, classic, read_text}
use Rattle.calculus.specs.Outcomes.{Outcome, parse_of, apply_of, eta_of, reduce_of}

-- a text in quotes, in which `\` is written `\\`
unfoldable pub text : String → List ℕ
unfolding codes bytes
text s = bytes (codes s)

-- a call, whose terms are given as texts in De Bruijn's notation
pub data Call : Type 0 where
  parse : Notation → String → Call
  apply : String → String → Call
  eta : (limit : ℕ) → String → Call
  reduce : Order → (limit : ℕ) → String → Call

-- what a call answers, and the buffers after it
pub data Left : Type 0 where
  answered : Outcome (Answer ℕ) → Left
  ran : Outcome (Run ℕ) → Left

-- every call has a cap of 20 nodes, and five more of output and of room than this asks for, filled with sevens
abbrev cap : ℕ
cap = 20

abbrev out : List ℕ
out = replicate 185 7

abbrev room : List ℕ
room = replicate 165 7

abbrev coded_or_none : Answer Term → List ℕ
coded_or_none (given t) = encode t
coded_or_none (refused e) = []

abbrev input : String → List ℕ
input s = coded_or_none (read_text de_bruijn cap (text s))

unfoldable pub outcome : Call → Left
unfolding parse_of apply_of eta_of reduce_of text
outcome (parse n s) = answered (parse_of n cap (text s) out room)
outcome (apply s u) = answered (apply_of cap (input s) (input u) out room)
outcome (eta limit s) = ran (eta_of limit cap (input s) out room)
outcome (reduce o limit s) = ran (reduce_of o limit cap (input s) out room)

-- what is to come of it: an answer, or the end of a run
pub data Wanted : Type 0 where
  answers : Answer Term → Wanted
  runs : Run Term → Wanted

abbrev term_left : Term → List ℕ
term_left t = encode t ++ replicate (185 - length (encode t)) 7

abbrev room_left : List ℕ
room_left = replicate 160 0 ++ replicate 5 7

unfoldable pub wanted : Wanted → Left
unfolding encode
wanted (answers (given t)) = answered (given (length (encode t)), term_left t, room_left)
wanted (answers (refused e)) = answered (refused e, out, room_left)
wanted (runs (finished n t)) = ran (finished n (length (encode t)), term_left t, room_left)
wanted (runs (unfinished n t)) = ran (unfinished n (length (encode t)), term_left t, room_left)
wanted (runs (refused_after n e)) = ran (refused_after n e, out, room_left)

pub data Example : Type 0 where
  ◌gives◌ : Call → Wanted → Example

infix 80 ◌gives◌
abbrev pub call_of : Example → Left
unfolding outcome
call_of (c gives w) = outcome c

abbrev pub wanted_of : Example → Left
unfolding wanted
wanted_of (c gives w) = wanted w

-- \11 and \1
abbrev half : Term
half = lam (app (var 1) (var 1))

abbrev identity : Term
identity = lam (var 1)

unfoldable pub sixteen : List Example
sixteen =
    -- P1 to P7
    parse de_bruijn "10" gives answers (given (app (var 1) (var 0)))
    ∷ parse de_bruijn "[10]" gives answers (given (var 16))
    ∷ parse de_bruijn "[]" gives answers (refused (invalid_character 1 93))
    ∷ parse de_bruijn "λλ[" gives answers (refused (invalid_character 2 91))
    ∷ parse de_bruijn "1)2" gives answers (given (var 1))
    ∷ parse de_bruijn "(1" gives answers (given (var 1))
    ∷ parse classic "\\a.\\b.a b" gives answers (given (lam (lam (app (var 2) (var 1)))))
    -- P8: \3(\61)(\1(\71))
    ∷ apply "\\\\42(\\13)" "\\51" gives
    answers
    (given (lam (app (app (var 3) (lam (app (var 6) (var 1)))) (lam (app (var 1) (lam (app (var 7) (var 1))))))))
    -- P9
    ∷ reduce NOR 3 "(\\11)(\\11)" gives runs (unfinished 3 (app half half))
    -- P10
    ∷ reduce NOR 5 "(\\2)((\\11)(\\11))" gives runs (finished 1 (var 1))
    ∷ reduce APP 5 "(\\2)((\\11)(\\11))" gives runs (unfinished 5 (app (lam (var 2)) (app half half)))
    -- P11
    ∷ reduce NOR 2 "(\\11)(\\1)" gives runs (finished 2 identity)
    -- P12
    ∷ reduce NOR 1 "(\\\\2)[FFFFFFFFFFFFFFFF]" gives runs (refused_after 0 index_too_great)
    -- P13
    ∷ reduce CBN 9 "\\(\\1)1" gives runs (finished 0 (lam (app identity (var 1))))
    ∷ reduce NOR 9 "\\(\\1)1" gives runs (finished 1 identity)
    -- P14
    ∷ eta 0 "\\21" gives runs (finished 1 (var 1))
    ∷ eta 0 "\\[0]1" gives runs (finished 0 (lam (app (var 0) (var 1))))
    -- P15: \221, and 11 after three steps
    ∷ eta 2 "\\\\3(\\41)21" gives runs (unfinished 2 (lam (app (app (var 2) (var 2)) (var 1))))
    ∷ eta 0 "\\\\3(\\41)21" gives runs (finished 3 (app (var 1) (var 1)))
    -- P16
    ∷ parse de_bruijn "" gives answers (refused empty_expression)
    ∷ parse classic "" gives answers (refused empty_expression)
    ∷ []
