-- HOW THE RULES ARE READ where their words leave a choice: the smallest inputs of docs/DECISIONS.md, by computation.
use Prim.Native.Nat.{ℕ, zero, suc, ◌-◌, ◌^◌}
use mathlib.Core.Path.{◌≡◌, refl}
use mathlib.Core.List.{List, [], ◌∷◌, ◌++◌, map}
use lib.ListN.{replicate}
use Rattle.calculus.specs.Term.{Term, var, lam, app}
use Rattle.calculus.specs.Refusal.{Answer, given, refused, outside_bounds, too_little_room, outside_domain}
use Rattle.calculus.specs.Refusal.{invalid_character}
use Rattle.calculus.specs.Refusal.{undefined_free_variable, too_high, empty_expression, too_many_nodes}
use Rattle.calculus.specs.Refusal.{not_a_term, not_abs, index_too_great}
use Rattle.calculus.specs.Bytes.{encode, decode}
use Rattle.calculus.specs.Judging.{next_within}
use Rattle.calculus.specs.Orders.{CBN, HSP, CBV, APP, NOR, HNO, HAP}
use Rattle.calculus.specs.Runs.{finished, unfinished, refused_after}
use Rattle.calculus.specs.Reading.{de_bruijn, classic, read_text}
use Rattle.calculus.specs.Writing.{write_text, name_text}
use Rattle.calculus.specs.Outcomes.{apply_of, eta_of, reduce_of}
use Rattle.calculus.specs.Program.{program_of}
use Rattle.calculus.specs.Examples.{Example, ◌gives◌, parse, apply, eta, reduce, answers, runs, call_of}
use Rattle.calculus.specs.Examples.{wanted_of, outcome, wanted, text}

abbrev last : ℕ
last = 2 ^ 64 - 1

-- calls under a cap of 20 nodes
calls : List Example
calls =
    -- a stray `)` is the end for the walk and for 8, and what follows is judged by 3 to 5 only
    parse de_bruijn "1)()" gives answers (given (var 1))
    ∷ parse de_bruijn ")" gives answers (refused empty_expression)
    ∷ parse de_bruijn "1)!" gives answers (refused (invalid_character 2 33))
    ∷ parse classic "\\a.a) 1" gives answers (refused (invalid_character 6 49))
    -- a binder closes at the `)` that ends its sequence
    ∷ parse classic "(\\a.a) a" gives answers (refused undefined_free_variable)
    ∷ parse classic "\\x.(\\x.x) x" gives answers (given (lam (app (lam (var 1)) (var 1))))
    -- the whole walk comes before 8
    ∷ parse classic "() x" gives answers (refused undefined_free_variable)
    ∷ parse de_bruijn "1 ()" gives answers (refused empty_expression)
    ∷ parse de_bruijn "(\\)" gives answers (refused empty_expression)
    -- `undefined` is an ordinary name, and nobody can refer to an empty one
    ∷ parse classic "\\undefined.undefined" gives answers (given (lam (var 1)))
    ∷ parse classic "\\.\\b.\\.b" gives answers (given (lam (lam (lam (var 2)))))
    -- the sign is a letter inside names; case tells names apart; a name runs to white space or a parenthesis
    ∷ parse classic "\\aλ1.aλ1" gives answers (given (lam (var 1)))
    ∷ parse classic "\\a.A" gives answers (refused undefined_free_variable)
    ∷ parse classic "\\a.a.b" gives answers (refused undefined_free_variable)
    ∷ parse classic "\\a.a\\b.b" gives answers (refused undefined_free_variable)
    ∷ parse classic "\\1a.a" gives answers (refused (invalid_character 1 49))
    ∷ parse classic "\\a" gives answers (refused empty_expression)
    -- brackets: 64 bits and no more, leading zeros, white space
    ∷ parse de_bruijn "[fFfFfFfFfFfFfFfF]" gives answers (given (var last))
    ∷ parse de_bruijn "[10000000000000000]" gives answers (refused (invalid_character 17 48))
    ∷ parse de_bruijn "[00000000000000000000A]" gives answers (given (var 10))
    ∷ parse de_bruijn "[1 ]" gives answers (refused (invalid_character 2 32))
    -- nodes are counted after all else
    ∷ parse de_bruijn "1 1 1 1 1 1 1 1 1 1 1" gives answers (refused too_many_nodes)
    -- index 0 is never shifted, neither raised with an argument nor lowered in a body
    ∷ apply "\\\\2" "[0]" gives answers (given (lam (var 0)))
    ∷ apply "\\[0]2" "1" gives answers (given (app (var 0) (var 1)))
    ∷ apply "1" "1" gives answers (refused not_abs)
    -- at the limit the next term is not judged; short of it it is
    ∷ reduce NOR 1 "(\\1)((\\\\2)[FFFFFFFFFFFFFFFF])" gives runs (unfinished 1 (app (lam (lam (var 2))) (var last)))
    ∷ reduce NOR 2 "(\\1)((\\\\2)[FFFFFFFFFFFFFFFF])" gives runs (refused_after 1 index_too_great)
    -- 12 speaks of the next term only
    ∷ reduce NOR 1 "(\\\\1)[FFFFFFFFFFFFFFFF]" gives runs (finished 1 (lam (var 1)))
    -- 9 while reducing
    ∷ reduce CBN 9 "(\\1111)(123456)" gives runs (refused_after 0 too_many_nodes)
    -- CBN and CBV leave the body of an abstraction alone, the others go on in it
    ∷ reduce CBN 9 "\\(\\1)1" gives runs (finished 0 (lam (app (lam (var 1)) (var 1))))
    ∷ reduce CBV 9 "\\(\\1)1" gives runs (finished 0 (lam (app (lam (var 1)) (var 1))))
    ∷ reduce HSP 9 "\\(\\1)1" gives runs (finished 1 (lam (var 1)))
    ∷ reduce APP 9 "\\(\\1)1" gives runs (finished 1 (lam (var 1)))
    ∷ reduce NOR 9 "\\(\\1)1" gives runs (finished 1 (lam (var 1)))
    ∷ reduce HNO 9 "\\(\\1)1" gives runs (finished 1 (lam (var 1)))
    ∷ reduce HAP 9 "\\(\\1)1" gives runs (finished 1 (lam (var 1)))
    -- HAP visits a function part by CBV, which leaves bodies alone, before its argument and the contraction
    ∷ reduce HAP 1 "(\\2((\\1)1))3" gives runs (unfinished 1 (app (var 1) (app (lam (var 1)) (var 3))))
    -- eta is finished where no place is left, also at its limit
    ∷ eta 1 "\\21" gives runs (finished 1 (var 1))
    ∷ eta 1 "\\\\321" gives runs (unfinished 1 (lam (app (var 2) (var 1))))
    ∷ []

calls_answered : map call_of calls ≡ map wanted_of calls
unfolding calls outcome wanted
calls_answered = refl

-- bytes and what they are read as in De Bruijn's notation, under a cap of 600 nodes
data Text : Type 0 where
  ◌reads◌ : List ℕ → Answer Term → Text

infix 80 ◌reads◌
read_as : Text → Answer Term
unfolding read_text
read_as (s reads r) = read_text de_bruijn 600 s

wanted_as : Text → Answer Term
wanted_as (s reads r) = r

-- t under n abstractions
under : ℕ → Term → Term
under zero t = t
under (suc n) t = lam (under n t)

-- n backslashes, then m opening parentheses, then 1
nested : ℕ → ℕ → List ℕ
nested n m = replicate n 92 ++ (replicate m 40 ++ (49 ∷ []))

texts : List Text
unfolding under nested
texts =
    -- 4 is judged over the whole text before any 5; a CE without BB offends itself, and so does a lone BB
    (0x67 ∷ 0xCE ∷ []) reads (refused (outside_domain 1))
    ∷ (0xCE ∷ 0xBB ∷ 0xCE ∷ 0x31 ∷ []) reads (refused (outside_domain 2))
    ∷ (0x21 ∷ 0xBB ∷ []) reads (refused (outside_domain 1))
    ∷ (0x31 ∷ 0x0B ∷ []) reads (refused (outside_domain 1))
    -- 512 may be open and 513 may not; the height is judged afterwards
    ∷ (replicate 512 40) reads (refused empty_expression)
    ∷ (replicate 513 40) reads (refused too_high)
    ∷ (nested 256 256) reads (given (under 256 (var 1)))
    ∷ (nested 256 257) reads (refused too_high)
    ∷ (nested 511 0) reads (given (under 511 (var 1)))
    ∷ (nested 512 0) reads (refused too_high)
    ∷ []

texts_read : map read_as texts ≡ map wanted_as texts
unfolding texts read_as wanted_as
texts_read = refl

-- the offset of 10, which is judged over all bytes before the height
offsets : map decode ((1 ∷ 0 ∷ []) ∷ (3 ∷ 2 ∷ 4 ∷ []) ∷ (encode (var 5) ++ (2 ∷ [])) ∷ replicate 600 2 ∷ [] ∷ [])
    ≡ map (λ offset. refused (not_a_term offset)) (0 ∷ 2 ∷ 9 ∷ 600 ∷ 0 ∷ [])
unfolding decode encode
offsets = refl

-- one next term may offend all three bounds: 12 comes first, then 7, then 9
judgements : map (next_within 1) (under 512 (var (suc last)) ∷ under 512 (var 1) ∷ under 511 (var 1) ∷ [])
    ≡ map refused (index_too_great ∷ too_high ∷ too_many_nodes ∷ [])
unfolding next_within under
judgements = refl

-- 1 comes before 2, and neither changes a buffer
limit-zero : reduce_of NOR 0 1 (2 ∷ []) [] (7 ∷ []) ≡ (refused_after 0 outside_bounds, [], 7 ∷ [])
unfolding reduce_of
limit-zero = refl

no_room : reduce_of NOR 1 1 (2 ∷ []) (replicate 9 7) (replicate 7 7)
    ≡ (refused_after 0 too_little_room, replicate 9 7, replicate 7 7)
unfolding reduce_of
no_room = refl

-- a refused input clears the room and nothing beyond it
room-cleared : eta_of 0 1 (2 ∷ []) (replicate 9 7) (replicate 10 7)
    ≡ (refused_after 0 (not_a_term 1), replicate 9 7, replicate 8 0 ++ (7 ∷ 7 ∷ []))
unfolding eta_of
room-cleared = refl

-- apply judges both inputs before 11
argument-first : apply_of 1 (encode (var 1)) (1 ∷ []) (replicate 9 7) (replicate 8 7)
    ≡ (refused (not_a_term 0), replicate 9 7, replicate 8 0)
unfolding apply_of
argument-first = refl

-- texts as they are written: digits in brackets are upper case; one name for two variables where m + j is held
written-de_bruijn : write_text de_bruijn
    (lam (app (app (var 1) (lam (app (var 31) (var 10)))) (app (var 0) (var 15))))
    ≡ text "λ1(λ[1F]A)([0]F)"
unfolding write_text text
written-de_bruijn = refl

written-classic : write_text classic
    (lam (app (app (var 1) (lam (app (var 2) (var 5)))) (app (var 0) (lam (var 1)))))
    ≡ text "λa.a (λb.a e) (undefined (λb.b))"
unfolding write_text text
written-classic = refl

names : map name_text (0 ∷ 25 ∷ 26 ∷ 701 ∷ 702 ∷ []) ≡ map text ("a" ∷ "z" ∷ "aa" ∷ "zz" ∷ "aaa" ∷ [])
unfolding name_text text
names = refl

held : write_text classic (app (lam (var 1)) (app (var last) (var (last - 1))))
    ≡ text "(λa.a) (gkgwbylwrxtlpo gkgwbylwrxtlpo)"
unfolding write_text text
held = refl

-- the program: its whole output, by its whole input
program : map (λ s. program_of (text s)) (
    "NOR 10 dbr\n(\\11)(\\1)"
    ∷ "NOR 0000001 cla\n(\\x.x x) (\\x.x x)"
    ∷ "NOR 1000000 dbr\n(\\\\2)[FFFFFFFFFFFFFFFF]"
    ∷ "NOR 0 dbr\n["
    ∷ "NOR 1000001 dbr\n1"
    ∷ "nor 1 dbr\n1"
    ∷ "NOR 1 dbr\r\n1"
    ∷ "NOR  1 dbr\n1"
    ∷ "NOR 1 dbr"
    ∷ "HAP 7 dbr\n"
    ∷ [])
    ≡ map text (
    "finished 2\nλ1\n"
    ∷ "unfinished 1\n(λa.a a) (λa.a a)\n"
    ∷ "refused 12\n"
    ∷ "refused 1\n"
    ∷ "refused 1\n"
    ∷ "refused 1\n"
    ∷ "refused 1\n"
    ∷ "refused 1\n"
    ∷ "refused 1\n"
    ∷ "refused 8\n"
    ∷ [])
unfolding program_of text
program = refl

-- the bytes that the program reads include the first line, and too many are 3 before all else
too_much : program_of (replicate 65537 32) ≡ text "refused 3\n"
unfolding program_of text
too_much = refl

just_enough : program_of (replicate 65536 32) ≡ text "refused 1\n"
unfolding program_of text
just_enough = refl
