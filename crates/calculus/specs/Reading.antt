-- READING TEXT: the term of any bytes, or the refusal that comes first: 3, 4, 5, then 6 or 7, then 8, 7, 9.
use Rattle.std.specs.Prelude.{ℕ, List, [], leb, length}
use Rattle.std.proofs.Math.Option.{Option, none, some}
use Rattle.calculus.specs.Term.{Term}
use Rattle.calculus.specs.Bounds.{most_text, most_open}
use Rattle.calculus.specs.Refusal.{Answer, given, refused, ◌then◌, kept_if, text_too_long, outside_domain}
use Rattle.calculus.specs.Judging.{within}
use Rattle.calculus.specs.Characters.{characters, first_outside}
use Rattle.calculus.specs.Words.{Next, words}
use Rattle.calculus.specs.DeBruijn.{next_de_bruijn}
use Rattle.calculus.specs.Classic.{next_classic}
use Rattle.calculus.specs.Walk.{walk}
use Rattle.calculus.specs.Grammar.{parsed}

pub data Notation : Type 0 where
  de_bruijn classic : Notation

unfoldable pub next : Notation → List ℕ → Next
unfolding next_de_bruijn next_classic
next de_bruijn cs = next_de_bruijn cs
next classic cs = next_classic cs

-- 4
abbrev pub unless_outside : Option ℕ → List ℕ → Answer (List ℕ)
unless_outside none cs = given cs
unless_outside (some offset) cs = refused (outside_domain offset)

-- 3, then 4
unfoldable pub characters_of : List ℕ → Answer (List ℕ)
unfolding characters first_outside
characters_of s =
    kept_if (leb (length s) most_text) text_too_long s
    then (λ s. unless_outside (first_outside 0 (characters s)) (characters s))

-- 3, 4, 5, then 6 or 7, then 8, 7, 9
unfoldable pub read_text : Notation → (cap : ℕ) → List ℕ → Answer Term
unfolding characters_of next words walk parsed within
read_text n cap s =
    characters_of s then words (next n) then walk most_open [] then (λ ts. parsed ts none []) then within cap
