-- The walk that writes a term: what is left to be written at each node, and that all of it can be counted.
use Rattle.std.specs.Prelude.{Option, Some}
use Prim.Native.Nat.{ℕ, ◌+◌, ◌-◌, ◌≤◌, ◌<◌}
use mathlib.Core.Path.{◌≡◌, refl, sym, ap, ◌∙◌}
use mathlib.Core.Bool.{Bool, true, false}
use mathlib.Core.List.{List, [], ◌++◌, append-nil}
use native.Mathlib.Omega.{arith}
use lib.ListN.{length, drop, replicate, length-append, length-replicate}
use Rattle.calculus.specs.Term.{Term, height}
use Rattle.calculus.specs.Bounds.{greatest_number}
use Rattle.calculus.proofs.Measures.{height_positive}
use Rattle.calculus.proofs.Sizes.{size, size_positive}
use Rattle.term.specs.Heads.{head_in}
use Rattle.term.specs.Surveys.{Stands}
use Rattle.std.specs.Option.{IsSome}
use Rattle.term.specs.declared.Head.{Head}
use Rattle.term.specs.declared.Head.TheVariants.{Variable, Abstraction, Application}
use Rattle.term.proofs.Places.{IsApplication, is-variable, is-abstraction, is-application, head_stands, size-within}
use Rattle.calculus.proofs.Putting.{Puts}
use Rattle.printer.specs.Pieces.{variable_of, binder_of, gap_of}
use Rattle.printer.specs.Parts.{groups_lam, groups_app, part_text, Writable, Writes}
use Rattle.printer.specs.declared.pieces.Style.{Style}
use Rattle.printer.specs.declared.Part.{Part}
use Rattle.printer.specs.declared.Part.TheVariants.{Whole, Left, Right}
use Rattle.printer.specs.declared.Reached.{Reached}
use Rattle.calculus.proofs.Putting.{Leaves, all_left, put_on, none_left, leaves-length}
use Rattle.printer.proofs.PartTexts.{opening, pending, pending_var, pending_lam, pending_app}

at_most_one : (g : Bool) → length (opening g) ≤ 1
at_most_one true = omega arith
at_most_one false = omega arith

-- one parenthesis is put, or none
pub opened_by : (g : Bool) {out mid : List ℕ} {to place : ℕ} → Puts out to (opening g) place mid
    → (to ≤ place) × (place ≤ to + 1)
opened_by g put = (omega (arith, put.reached), omega (arith, put.reached, at_most_one g))

-- of a whole term, a part is left at this node, and then so many parentheses to close
pub record Remaining (w : Style) (s : List ℕ) (start above : ℕ) (first : Part) (before : List ℕ) (from : ℕ)
    (at depth : ℕ) (part : Part) (closes : ℕ) (out : List ℕ) (to : ℕ) (whole : Term) : Type 0 where
  pub term : Term
  pub stands : Stands s at term
  pub shallow : depth + height term ≤ above + height whole
  pub closable : closes + height term ≤ height whole
  pub end : at + size term ≡ start + size whole
  pub left : Leaves before from (part_text w above first whole) out to (pending w depth part term closes)

-- whatever term the whole is
pub record On (w : Style) (s : List ℕ) (start above : ℕ) (first : Part) (before : List ℕ) (from : ℕ)
    (at depth : ℕ) (part : Part) (closes : ℕ) (out : List ℕ) (to : ℕ) : Type 0 where
  pub on : (whole : Term) → Stands s start whole
      → Remaining w s start above first before from at depth part closes out to whole

-- what the calls ask at a variable, at an abstraction, at an application and after its left part
pub record VariableAsks (w : Style) (s : List ℕ) (at depth index closes to : ℕ) : Type 0 where
  pub countable : to + length (variable_of w depth index) + closes ≤ greatest_number
  pub inside : at + 9 ≤ length s

pub record AbstractionAsks (w : Style) (s : List ℕ) (at depth : ℕ) (part : Part) (closes to room : ℕ) : Type 0 where
  pub countable : to + length (opening (groups_lam part)) + length (binder_of w depth) ≤ greatest_number
  pub inside : at + 1 < length s
  pub deeper : depth < greatest_number
  pub closable : closes < room

pub record ApplicationAsks (s : List ℕ) (at : ℕ) (part : Part) (closes to room : ℕ) : Type 0 where
  pub countable : to + length (opening (groups_app part)) ≤ greatest_number
  pub inside : at + 1 < length s
  pub closable : closes < room

pub record GapAsks (w : Style) (s : List ℕ) (at : ℕ) (left : Reached) : Type 0 where
  pub countable : left.to + length (gap_of w) ≤ greatest_number
  pub forward : at < left.next
  pub inside : left.next < length s

module _ {w : Style} {s : List ℕ} {start above : ℕ} {first : Part} {before : List ℕ} {from : ℕ} where
  pub at_first : On w s start above first before from start above first 0 before from
  at_first = record {
    on = λ t st. record {
      term = t;
      stands = st;
      shallow = omega arith;
      closable = omega arith;
      end = refl;
      left = rw append-nil all_left;
    };
  }

  module _ {at depth : ℕ} {part : Part} {closes : ℕ} {out : List ℕ} {to : ℕ}
      (now : On w s start above first before from at depth part closes out to) where
    -- AT A VARIABLE the text ends, but for the parentheses to close
    pub at_variable : {i place end : ℕ} {mid after : List ℕ} → head_in (drop at s) ≡ Some (Variable i)
        → Puts out to (variable_of w depth i) place mid → Puts mid place (replicate closes 41) end after
        → Writes w s start above first before from (record { next = at + 9; to = end }) after
    unfolding size
    at_variable {i} h put close = record {
      ends = λ t st.
          let x = now.on t st in
          omega (arith, x.end, ap size (is-variable x.term h x.stands));
      puts = λ t st.
          let x = now.on t st in
          let e = is-variable x.term h x.stands in
          let text = pending_var w depth part closes i e in
          none_left
          (put_on (replicate closes 41) []
          (put_on (variable_of w depth i) (replicate closes 41) x.left text put)
          (sym (append-nil _)) close)
          refl;
    }

    -- AT AN ABSTRACTION the body is left
    pub at_abstraction : {g : Bool} {place to' : ℕ} {mid after : List ℕ} → head_in (drop at s) ≡ Some Abstraction
        → g ≡ groups_lam part → Puts out to (opening g) place mid → Puts mid place (binder_of w depth) to' after
        → On w s start above first before from (at + 1) (depth + 1) Whole (closes + (place - to)) after to'
    unfolding size height
    at_abstraction {g} {place} h e paren bind =
        let parens : place - to ≡ length (opening g) = omega (arith, paren.reached) in
        rw parens (record {
          on = λ t st.
              let x = now.on t st in
              let v = is-abstraction x.term h x.stands in
              let b = v.body in
              let same = ap height v.same in
              let text = ap (λ u. pending w depth part u closes) v.same ∙ pending_lam w depth part closes b in
              let low : length (opening g) ≤ 1 = at_most_one g in
              record {
                term = b;
                stands = v.body_at;
                shallow = omega (arith, x.shallow, same);
                closable = omega (arith, x.closable, same, low);
                end = omega (arith, x.end, ap size v.same);
                left = put_on (binder_of w depth) _ (put_on (opening g) _ x.left (rw e text) paren) refl bind;
              };
        })

    -- AT AN APPLICATION, once its left part is written, the right part is left
    pub at_application : {g : Bool} {place to' : ℕ} {r : Reached} {mid more after : List ℕ}
        → head_in (drop at s) ≡ Some Application → g ≡ groups_app part → Puts out to (opening g) place mid
        → Writes w s (at + 1) depth Left mid place r more → Puts more r.to (gap_of w) to' after
        → On w s start above first before from r.next depth Right (closes + (place - to)) after to'
    unfolding size height
    at_application {g} {place} {r = r} h e paren write gap =
        let parens : place - to ≡ length (opening g) = omega (arith, paren.reached) in
        rw parens (record {
          on = λ t st.
              let x = now.on t st in
              let v = is-application x.term h x.stands in
              let same = ap height v.same in
              let next = write.ends v.left v.left_at in
              let text = ap (λ u. pending w depth part u closes) v.same
              ∙ pending_app w depth part closes v.left v.right in
              let low : length (opening g) ≤ 1 = at_most_one g in
              let left : List ℕ = part_text w depth Left v.left in
              let rest : List ℕ = gap_of w ++ pending w depth Right v.right (closes + length (opening g)) in
              let opened = put_on (opening g) (left ++ rest) x.left (rw e text) paren in
              let written = put_on left rest opened refl (write.puts v.left v.left_at) in
              record {
                term = v.right;
                stands = rw next v.right_at;
                shallow = omega (arith, x.shallow, same);
                closable = omega (arith, x.closable, same, low);
                end = omega (arith, x.end, ap size v.same, next);
                left = put_on (gap_of w) _ written refl gap;
              };
        })

    -- a head stands where the walk is
    pub head-there : {room : ℕ} → Writable w s start above first from room → (o : Option Head)
        → o ≡ head_in (drop at s)
        → IsSome o
    head-there asked = head_stands (now.on asked.term asked.stands).stands

    -- WHAT THE CALLS ASK, from what was asked of the whole
    module _ {room : ℕ} (asked : Writable w s start above first from room) where
      -- a text with which what is left begins ends at a place that can be counted
      counted : (xs ys : List ℕ) → let x = now.on asked.term asked.stands in
          pending w depth part x.term closes ≡ xs ++ ys → to + length xs + length ys ≤ greatest_number
      counted xs ys e =
          let x = now.on asked.term asked.stands in
          omega (arith, x.left.reached, ap length e ∙ length-append xs ys, asked.countable)

      pub on_length : length out ≡ length before
      on_length = leaves-length _ _ (now.on asked.term asked.stands).left

      pub variable_asks : {i : ℕ} → head_in (drop at s) ≡ Some (Variable i) → VariableAsks w s at depth i closes to
      unfolding size
      variable_asks {i} h =
          let x = now.on asked.term asked.stands in
          let e = is-variable x.term h x.stands in
          let text = pending_var w depth part closes i e in
          let all = counted (variable_of w depth i) (replicate closes 41) text in
          record {
            countable = omega (arith, all, length-replicate {A = ℕ} closes 41);
            inside = omega (arith, size-within x.stands, ap size e);
          }

      pub abstraction_asks : head_in (drop at s) ≡ Some Abstraction → AbstractionAsks w s at depth part closes to room
      unfolding size height
      abstraction_asks h =
          let x = now.on asked.term asked.stands in
          let v = is-abstraction x.term h x.stands in
          let g : Bool = groups_lam part in
          let rest : List ℕ = pending w (depth + 1) Whole v.body (closes + length (opening g)) in
          let text = ap (λ u. pending w depth part u closes) v.same ∙ pending_lam w depth part closes v.body in
          let all = counted (opening g) (binder_of w depth ++ rest) text in
          let positive = height_positive v.body in
          record {
            countable = omega (arith, all, length-append (binder_of w depth) rest);
            inside = omega (arith, size-within v.body_at, size_positive v.body);
            deeper = omega (arith, x.shallow, ap height v.same, asked.shallow);
            closable = omega (arith, x.closable, ap height v.same, asked.low);
          }

      -- the application that stands here
      here : (h : head_in (drop at s) ≡ Some Application) → let x = now.on asked.term asked.stands in
          IsApplication s at x.term
      here h = let x = now.on asked.term asked.stands in is-application x.term h x.stands

      left_and_gap : (h : head_in (drop at s) ≡ Some Application) → let left = part_text w depth Left (here h).left in
          to + length (opening (groups_app part)) + length left + length (gap_of w) ≤ greatest_number
      unfolding here
      left_and_gap h =
          let v = here h in
          let g : Bool = groups_app part in
          let left : List ℕ = part_text w depth Left v.left in
          let right : List ℕ = pending w depth Right v.right (closes + length (opening g)) in
          let text = ap (λ u. pending w depth part u closes) v.same
          ∙ pending_app w depth part closes v.left v.right in
          let all = counted (opening g) (left ++ (gap_of w ++ right)) text in
          omega (arith, all, length-append left (gap_of w ++ right), length-append (gap_of w) right)

      pub application_asks : head_in (drop at s) ≡ Some Application → ApplicationAsks s at part closes to room
      unfolding size height
      application_asks h =
          let x = now.on asked.term asked.stands in
          let v = here h in
          let positive = height_positive v.left in
          record {
            countable = omega (arith, left_and_gap h);
            inside = omega (arith, size-within v.left_at, size_positive v.left);
            closable = omega (arith, x.closable, ap height v.same, asked.low);
          }

      module _ {g : Bool} {place : ℕ} (h : head_in (drop at s) ≡ Some Application) (e : g ≡ groups_app part)
          (opened : place ≡ to + length (opening g)) where
        pub left_asks : Writable w s (at + 1) depth Left place (room - 1)
        unfolding height
        left_asks =
            let x = now.on asked.term asked.stands in
            let v = here h in
            let same = ap height v.same in
            record {
              term = v.left;
              stands = v.left_at;
              low = omega (arith, x.closable, same, asked.low);
              shallow = omega (arith, x.shallow, same, asked.shallow);
              countable = omega (arith, left_and_gap h, opened, ap (λ b. length (opening b)) e);
            }

        pub gap_asks : {r : Reached} {mid more : List ℕ} → Writes w s (at + 1) depth Left mid place r more
            → GapAsks w s at r
        gap_asks write =
            let v = here h in
            let end = write.ends v.left v.left_at in
            let to = (write.puts v.left v.left_at).reached in
            record {
              countable = omega (arith, left_and_gap h, opened, ap (λ b. length (opening b)) e, to);
              forward = omega (arith, end);
              inside = omega (arith, end, size-within v.right_at, size_positive v.right);
            }
