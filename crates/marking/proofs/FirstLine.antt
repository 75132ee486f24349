-- The first line part by part: where one is missing it is malformed, and with all of them it is a job.
use Rattle.std.specs.Prelude as std
use Rattle.std.specs.Prelude.{ℕ, ◌<◌, ◌≡◌, Bool, true, false, cond, eqb, List, [], ◌∷◌, take, drop, length}
use Rattle.std.proofs.Common.{refl, sym, ap, ◌∙◌}
use Rattle.std.proofs.Math.Option.{Option, none, some}
use Rattle.calculus.specs.Orders.{Order}
use Rattle.calculus.specs.Words.{start, rest}
use Rattle.calculus.specs.Classic.{is_figure}
use Rattle.calculus.specs.Reading.{Notation}
use Rattle.calculus.specs.Program.{job, first_line, look_up, order_words, notation_words, limit_in, past}
use Rattle.marking.specs.Asking.{said, job_of}
use Rattle.marking.specs.declared.asking.Job.{Job}
use lib.Seq.{drop-drop}
use Rattle.marking.proofs.Digits.{no_limit}

-- a part that was looked for
module _ {A B : Type 0} (f : A → B) {r : std.Option A} {x : Option B} (says : said f r ≡ x) where
  pub there : {a : A} → r ≡ std.Some a → x ≡ some (f a)
  there is = sym says ∙ ap (said f) is

  pub missing : r ≡ std.None → x ≡ none
  missing is = sym says ∙ ap (said f) is

pub malformed : {r : std.Option Job} {x : _} → r ≡ std.None → x ≡ none → said job_of r ≡ x
malformed is e = ap (said job_of) is ∙ sym e

module _ (s : List ℕ) where
  pub no_order : look_up order_words (take 3 s) ≡ none → first_line s ≡ none
  unfolding first_line
  no_order e = rw e refl

  module _ {o : Order} (order : look_up order_words (take 3 s) ≡ some o) where
    pub no_space : past 32 (drop 3 s) ≡ none → first_line s ≡ none
    unfolding first_line
    no_space e = rw (order, e) refl

    module _ {digits : List ℕ} (space : past 32 (drop 3 s) ≡ some digits) where
      pub no_number : limit_in (start is_figure digits) ≡ none → first_line s ≡ none
      unfolding first_line
      no_number e = rw (order, space, e) refl

      module _ {limit : ℕ} (limited : limit_in (start is_figure digits) ≡ some limit) where
        pub no_gap : past 32 (rest is_figure digits) ≡ none → first_line s ≡ none
        unfolding first_line
        no_gap e = rw (order, space, limited, e) refl

        module _ {letters : List ℕ} (gap : past 32 (rest is_figure digits) ≡ some letters) where
          pub no-notation : look_up notation_words (take 3 letters) ≡ none → first_line s ≡ none
          unfolding first_line
          no-notation e = rw (order, space, limited, gap, e) refl

          module _ {n : Notation} (noted : look_up notation_words (take 3 letters) ≡ some n) where
            pub no_feed : past 10 (drop 3 letters) ≡ none → first_line s ≡ none
            unfolding first_line
            no_feed e = rw (order, space, limited, gap, noted, e) refl

            pub a_job : {text : List ℕ} → past 10 (drop 3 letters) ≡ some text
                → first_line s ≡ some (job o limit n text)
            unfolding first_line
            a_job e = rw (order, space, limited, gap, noted, e) refl

-- MORE THAN SEVEN DIGITS, whatever stands before them
at_byte : (b : ℕ) (s : List ℕ) (P : Option (List ℕ) → Type 0) → P none → P (some (drop 1 s)) → P (past b s)
at_byte b [] P missing there = missing
at_byte b (c ∷ cs) P missing there = by_test (eqb b c)
  where
    by_test : (same : Bool) → P (cond same (some cs) none)
    by_test true = there
    by_test false = missing

pub too_many_digits : (s : List ℕ) → 7 < length (start is_figure (drop 4 s)) → first_line s ≡ none
too_many_digits s many = by_order (look_up order_words (take 3 s)) refl
  where
    by_order : (named : Option Order) → look_up order_words (take 3 s) ≡ named → first_line s ≡ none
    by_order none order = no_order s order
    by_order (some o) order =
        at_byte 32 (drop 3 s) (λ x. past 32 (drop 3 s) ≡ x → first_line s ≡ none)
        (no_space s order)
        (λ space. no_number s order (rw drop-drop at space) (no_limit (start is_figure (drop 4 s)) (λ h. many)))
        refl
