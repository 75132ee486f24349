-- WHAT AN ENTRY POINT PRINTS, AN ENTRY POINT PARSES BACK: the round trip over bytes and outcomes.
use Prim.Native.Nat.{ℕ, ◌≤◌}
use mathlib.Core.Path.{◌≡◌, refl, ap, sym, ◌∙◌}
use mathlib.Core.Bool.{Bool, true, false}
use mathlib.Core.List.{List}
use native.Mathlib.Omega.{arith}
use lib.Dec.{leb}
use lib.ListN.{length, take}
use lib.Seq.{take-append_seam}
use Rattle.calculus.specs.Term.{Term, nodes, height}
use Rattle.calculus.specs.Bounds.{most_nodes, most_height}
use Rattle.calculus.specs.Refusal.{Refusal, Answer, given, refused, ◌then◌, kept_if, output_too_short}
use Rattle.calculus.specs.Bytes.{encode}
use Rattle.calculus.specs.Queries.{has_free_variables}
use Rattle.calculus.specs.Reading.{Notation, de_bruijn, classic}
use Rattle.calculus.specs.Writing.{write_text}
use Rattle.calculus.specs.Outcomes.{checked, query_of, nodes_of, has_free_variables_of, laid_over, cleared, stored}
use Rattle.calculus.specs.Outcomes.{if_it_fits}
use Rattle.calculus.specs.Outcomes.{Outcome, cap_allowed, suffice, print_of, parse_of}
use Rattle.calculus.proofs.Tests.{in_interval}
use Rattle.calculus.proofs.Coding.{AllBytes, encode-decode, decoded_small}
use Rattle.calculus.proofs.Judged.{checked-given}
use Rattle.finality.specs.Readable.{Readable}
use Rattle.finality.proofs.RoundTrip.{round_trip}

-- the text of a term is parsed as its bytes
pub parses_back : (n : Notation) (cap : ℕ) (t : Term) (out room : List ℕ) → Readable n 0 t
    → height t ≤ most_height → nodes t ≤ cap → cap_allowed cap ≡ true → suffice cap out room ≡ true
    → parse_of n cap (write_text n t) out room ≡ (given (length (encode t)), laid_over (encode t) out, cleared cap room)
unfolding parse_of
parses_back n cap t out room readable high few allowed enough =
    rw (allowed, enough, round_trip n cap t readable high few (in_interval 1 most_nodes cap allowed).1)

-- what an answer of print means
data Prints (n : Notation) (s out : List ℕ) : Answer ℕ → List ℕ → Type 0 where
  printed : (t : Term) → checked most_nodes s ≡ given t
      → Prints n s out (given (length (write_text n t))) (laid_over (write_text n t) out)
  no_print : {e : Refusal} → Prints n s out (refused e) out

print-means : (n : Notation) (s out : List ℕ) → Prints n s out (print_of n s out).0 (print_of n s out).1
unfolding print_of
print-means n s out = on_input (checked most_nodes s) refl
  where
    by_fit : (t : Term) → checked most_nodes s ≡ given t → (fits : Bool) (e : Refusal)
        → let r = stored (kept_if fits e (write_text n t)) out in Prints n s out r.0 r.1
    by_fit t e true r = printed t e
    by_fit t e false r = no_print

    on_input : (x : Answer Term) → checked most_nodes s ≡ x
        → let r = stored (x then (λ t. if_it_fits out (write_text n t))) out in Prints n s out r.0 r.1
    on_input (given t) e =
        by_fit t e (leb (length (write_text n t)) (length out)) (output_too_short (length (write_text n t)))
    on_input (refused r) e = no_print

-- the term whose text was printed, and the text
record SaysPrinted (n : Notation) (s : List ℕ) (k : ℕ) (left : List ℕ) : Type 0 where
  term : Term
  input : checked most_nodes s ≡ given term
  text_left : take k left ≡ write_text n term

says-printed : {n : Notation} {s out : List ℕ} {k : ℕ} {left : List ℕ} → Prints n s out (given k) left
    → SaysPrinted n s k left
says-printed {n} (printed t e) = record { term = t; input = e; text_left = take-append_seam (write_text n t) _ }

-- an answer to a query of bytes that decode
asked : {A : Type 0} (ask : Term → A) (s : List ℕ) {t : Term} {a : A} → checked most_nodes s ≡ given t
    → query_of ask s ≡ given a → ask t ≡ a
unfolding query_of
asked ask s e q = inside (rw e at q)
  where
    inside : {A : Type 0} {x y : A} → given x ≡ given y → x ≡ y
    inside e = cc

-- WHATEVER IS PRINTED READS BACK AS THE SAME BYTES, under a cap that holds them, if the notation can tell the term
module _ (s out out' room : List ℕ) (bytes : AllBytes s) (cap m : ℕ) (few : nodes_of s ≡ given m) (holds : m ≤ cap)
    (allowed : cap_allowed cap ≡ true) (enough : suffice cap out' room ≡ true) where
  -- what a parse is to leave: the input's own bytes
  abbrev Back : Outcome (Answer ℕ) → Type 0
  Back r = r ≡ (given (length s), laid_over s out', cleared cap room)

  back : (n : Notation) {k : ℕ} {left : List ℕ} (p : SaysPrinted n s k left) → Readable n 0 p.term
      → Back (parse_of n cap (take k left) out' room)
  unfolding nodes_of
  back n p readable =
      let t : Term = p.term in
      let (decoded, high, _) = checked-given s p.input in
      let nodes_told : nodes t ≡ m = asked nodes s p.input few in
      let same : encode t ≡ s = sym (encode-decode s bytes decoded) in
      ap (λ text. parse_of n cap text out' room) p.text_left
      ∙ parses_back n cap t out' room readable high (omega arith) allowed enough
      ∙ ap (λ b. (given (length b), laid_over b out', cleared cap room)) same

  -- in De Bruijn's notation every term
  pub de_bruijn_back : (k : ℕ) → (print_of de_bruijn s out).0 ≡ given k
      → Back (parse_of de_bruijn cap (take k (print_of de_bruijn s out).1) out' room)
  de_bruijn_back k e =
      let p = says-printed (rw e at (print-means de_bruijn s out)) in
      back de_bruijn p (decoded_small s bytes (checked-given s p.input).0)

  -- in classic notation every term with neither a free variable nor index 0
  pub classic_back : has_free_variables_of s ≡ given false → (k : ℕ) → (print_of classic s out).0 ≡ given k
      → Back (parse_of classic cap (take k (print_of classic s out).1) out' room)
  unfolding has_free_variables_of
  classic_back closed k e =
      let p = says-printed (rw e at (print-means classic s out)) in
      back classic p (asked has_free_variables s p.input closed)
