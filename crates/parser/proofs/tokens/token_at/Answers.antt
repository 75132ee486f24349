-- `parser::tokens::token_at` meets its contract: what each word meets is a law of `Meeting`.
use Rattle.parser.proofs.Meeting.{meets-number, meets-name, meets_undefined, meets-left, meets-binder}
use Rattle.parser.proofs.Meeting.{meets-right, meets_end, never_invalid}
use Rattle.parser.proofs.tokens.token_at.Goals as goal

pub returns-in-Number : goal.returns-in-Number
returns-in-Number c =
    let told = c.next-step.ensures.0 in
    meets-number c.requires.1 told.placed told.forward _
    (rw c.in-Number.is at c.next-step.ensures.1) (rw c.in-Number.is at told.tells)

pub returns-in-Left : goal.returns-in-Left
returns-in-Left c =
    let told = c.next-step.ensures.0 in
    meets-left c.requires.1 told.placed told.forward
    (rw c.in-Left.is at c.next-step.ensures.1) (rw c.in-Left.is at told.tells)

pub returns-in-Binder : goal.returns-in-Binder
returns-in-Binder c =
    let told = c.next-step.ensures.0 in
    rw c.named.ensures (meets-binder c.requires.1 told.placed told.forward _
    (rw c.in-Binder.is at c.next-step.ensures.1) (rw c.in-Binder.is at told.names)
    (rw c.in-Binder.is at told.tells))

pub returns-in-Right : goal.returns-in-Right
returns-in-Right c =
    let told = c.next-step.ensures.0 in
    meets-right c.requires.1 told.placed told.forward (rw c.in-Right.is at told.tells)

pub returns-in-End : goal.returns-in-End
returns-in-End c =
    let told = c.next-step.ensures.0 in
    meets_end c.requires.1 told.placed told.forward (rw c.in-End.is at told.tells)
    (c.next-step.ensures.2 c.in-End.is)

pub returns-in_default : goal.returns-in_default
returns-in_default c =
    let told = c.next-step.ensures.0 in
    meets_undefined c.requires.1 told.placed told.forward _ c.resolve.ensures
    (rw c.in-Named.is at told.tells) c.in_default.is

pub returns-in-Some : goal.returns-in-Some
returns-in-Some c =
    let told = c.next-step.ensures.0 in
    meets-name c.requires.1 told.placed told.forward _ c.resolve.ensures
    (rw c.in-Named.is at told.tells) c.in-Some.is (rw c.in-Named.is at c.next-step.ensures.1)

pub unreachable-requires : goal.unreachable-requires
unreachable-requires c =
    let told = c.next-step.ensures.0 in
    never_invalid c.requires.1 c.args.text.clean told.placed (rw c.in-Invalid.is at told.tells)
