-- `queries::same_at` meets its contract: at each head it is a law of `Comparing`. The room falls at each call.
use Rattle.std.proofs.Common.{rules, ◌≡◌, sym, ap, ◌∙◌, arith, Option, Some}
use Rattle.term.proofs.Places.{head_stands}
use Rattle.term.proofs.Surveying.{body-begins, left-begins}
use Rattle.term.specs.declared.Head.{Head}
use Rattle.queries.proofs.Comparing.{differ_here, same-variable, same-abstraction}
use Rattle.queries.proofs.Comparing.{left_differs, same-application}
use Rattle.queries.proofs.Comparing.{body-low, left-low, right-low, right-begins}
use Rattle.queries.proofs.+same_at.Goals as goal

-- past the test the heads are the same
past-test : {a b x : Head} {o h : Option Head} → a ≡ b → a ≡ x → o ≡ Some b → o ≡ h → h ≡ Some x
past-test same is some head = sym head ∙ some ∙ ap Some (sym same ∙ is)

heads-same : {a b : Head} → ◌≡◌ {A = Option Head} (Some a) (Some b) → a ≡ b
heads-same e = cc

pub unwrap-head-requires : goal.unwrap-head-requires
unwrap-head-requires t c = head_stands c.requires.low.begins.stands _ c.head_at.ensures

pub unwrap-other-requires : goal.unwrap-other-requires
unwrap-other-requires t c = head_stands c.requires.begins.stands _ c.head_at-2.ensures

pub returns-then-differs : goal.returns-then-differs
returns-then-differs t c =
    let not_same : c.unwrap-head.result ≡ c.unwrap-other.result → ⊥ = search rules in
    differ_here (λ e. not_same (heads-same (sym c.unwrap-head.ensures ∙ c.head_at.ensures ∙ e ∙ sym c.head_at-2.ensures ∙ c.unwrap-other.ensures)))

pub same_at-requires : goal.same_at-requires
same_at-requires t c =
    let head = sym c.head_at.ensures ∙ c.unwrap-head.ensures ∙ ap Some c.in-Abstraction.is in
    let other = past-test (search rules) c.in-Abstraction.is c.unwrap-other.ensures c.head_at-2.ensures in
    (omega arith, (body-low c.requires.low head, body-begins other c.requires.begins))

pub same_at-requires-in-Application : goal.same_at-requires-in-Application
same_at-requires-in-Application t c =
    let head = sym c.head_at.ensures ∙ c.unwrap-head.ensures ∙ ap Some c.in-Application.is in
    let other = past-test (search rules) c.in-Application.is c.unwrap-other.ensures c.head_at-2.ensures in
    (omega arith, (left-low c.requires.low head, left-begins other c.requires.begins))

pub returns-in_err-mid-in-Application : goal.returns-in_err-mid-in-Application
returns-in_err-mid-in-Application t c =
    let head = sym c.head_at.ensures ∙ c.unwrap-head.ensures ∙ ap Some c.in-Application.is in
    let other = past-test (search rules) c.in-Application.is c.unwrap-other.ensures c.head_at-2.ensures in
    rw c.from_residual.ensures (left_differs head other c.same_at-in-Application.ensures c.in_err-mid-in-Application.was)

pub same_at-requires-in-Application-2 : goal.same_at-requires-in-Application-2
same_at-requires-in-Application-2 t c =
    let head = sym c.head_at.ensures ∙ c.unwrap-head.ensures ∙ ap Some c.in-Application.is in
    let other = past-test (search rules) c.in-Application.is c.unwrap-other.ensures c.head_at-2.ensures in
    let left = c.same_at-in-Application.ensures in
    let low = c.requires.low in
    let begins = c.requires.begins in
    let known = c.in_ok-mid-in-Application.was in
    (omega arith, (right-low low begins head other left known, right-begins low begins head other left known))

pub returns-in-Variable : goal.returns-in-Variable
returns-in-Variable t c =
    same-variable (sym c.head_at.ensures ∙ c.unwrap-head.ensures ∙ ap Some c.in-Variable.is) (past-test (search rules) c.in-Variable.is c.unwrap-other.ensures c.head_at-2.ensures)

pub returns-in-Abstraction : goal.returns-in-Abstraction
returns-in-Abstraction t c =
    let other = past-test (search rules) c.in-Abstraction.is c.unwrap-other.ensures c.head_at-2.ensures in
    same-abstraction (sym c.head_at.ensures ∙ c.unwrap-head.ensures ∙ ap Some c.in-Abstraction.is) other c.same_at.ensures

pub returns-in_ok-mid-in-Application : goal.returns-in_ok-mid-in-Application
returns-in_ok-mid-in-Application t c =
    let head = sym c.head_at.ensures ∙ c.unwrap-head.ensures ∙ ap Some c.in-Application.is in
    let other = past-test (search rules) c.in-Application.is c.unwrap-other.ensures c.head_at-2.ensures in
    same-application head other c.same_at-in-Application.ensures c.in_ok-mid-in-Application.was c.same_at-in-Application-2.ensures
